-- What any walk leaves: its vehicle, a station that it could reach, and runs of the same lengths.
use Prim.Native.Nat.{ℕ, zero, suc, ◌+◌, ◌-◌, ◌≤◌, ◌<◌}
use mathlib.Core.Path.{◌≡◌, refl, ◌∙◌}
use mathlib.Core.Bool.{Bool, true, false}
use native.Mathlib.Omega.{arith}
use Rattle.number.specs.Read.{pick}
use Rattle.job.specs.declared.Vehicle.{Vehicle}
use Rattle.path.specs.Laying.{PathRuns}
use Rattle.walk.specs.Drawn.{Drawn, Call, Outcome, made, refused, refused_at, station_at}
use Rattle.walk.specs.Tests.{lent, path_sound, record_sound, at_last}
use Rattle.walk.specs.Units.{Turning, turned, stopped}
use Rattle.walk.specs.Rig.{Stepped, turning_of, after_turning, turned_down, draw_step}
use Rattle.reaches.specs.Cells.{Reaches}
use Rattle.reaches.specs.Crossing.{crossed, crossed_from}
use Rattle.reaches.proofs.CellLaws.{SameLengths, stations_lengths}
use Rattle.stations.specs.Placing.{call_of}
use Rattle.stations.specs.Stepping.{points_at, if_made}
use Rattle.run.specs.Walking.{Course, walk_on, walk_to_end}

-- a call advances the station by one at most
module _ (s : Drawn) (c : Call) where
  turned_one : (t : Turning) → (after_turning s t).state.station ≤ s.station + 1
  turned_one (turned ds) = omega arith
  turned_one (stopped n u) = omega arith

  by_tests : (a b d e : Bool) (r : Stepped) → r.state.station ≤ s.station + 1
      → (pick a (pick b (pick d (pick e (turned_down s 25) r) (turned_down s 27)) (turned_down s 26)) (turned_down s 21)).state.station ≤ s.station + 1
  by_tests false b d e r h = omega arith
  by_tests true false d e r h = omega arith
  by_tests true true false e r h = omega arith
  by_tests true true true true r h = omega arith
  by_tests true true true false r h = h

  one_on_at_most : (draw_step s c).state.station ≤ s.station + 1
  unfolding draw_step
  one_on_at_most = by_tests (lent c) (path_sound c.asked c.path) (record_sound c.asked s) (at_last c.asked s) (after_turning s (turning_of s c)) (turned_one (turning_of s c))

-- and leaves the vehicle
module _ (s : Drawn) (c : Call) where
  same_by_tests : (a b d e : Bool) (t : Turning)
      → (pick a (pick b (pick d (pick e (turned_down s 25) (after_turning s t)) (turned_down s 27)) (turned_down s 26)) (turned_down s 21)).state.vehicle ≡ s.vehicle
  same_by_tests false b d e t = refl
  same_by_tests true false d e t = refl
  same_by_tests true true false e t = refl
  same_by_tests true true true true t = refl
  same_by_tests true true true false (turned ds) = refl
  same_by_tests true true true false (stopped n u) = refl

  pub vehicle_stays : (draw_step s c).state.vehicle ≡ s.vehicle
  unfolding draw_step
  vehicle_stays = same_by_tests (lent c) (path_sound c.asked c.path) (record_sound c.asked s) (at_last c.asked s) (turning_of s c)

module _ (asked : ℕ) (path : PathRuns) where
  vehicle_by : (o : Outcome) (a b : Course) (v : Vehicle) → a.state.vehicle ≡ v → b.state.vehicle ≡ v → (if_made o a b).state.vehicle ≡ v
  vehicle_by made a b v p q = p
  vehicle_by (refused n) a b v p q = q
  vehicle_by (refused_at n u) a b v p q = q

  pub course_vehicle : (n : ℕ) (s : Drawn) (r : Reaches) → (walk_on n asked path s r).state.vehicle ≡ s.vehicle
  unfolding walk_on
  course_vehicle zero s r = refl
  course_vehicle (suc n) s r =
      let c = call_of asked path r in
      let t = draw_step s c in
      let x = crossed asked path (points_at s c) (points_at t.state c) r in
      vehicle_by t.answer (walk_on n asked path t.state x) (record { answer = t.answer; state = t.state; runs = r }) s.vehicle (course_vehicle n t.state x ∙ vehicle_stays s c) (vehicle_stays s c)

  station_by : (o : Outcome) (a b : Course) (k : ℕ) → a.state.station ≤ k → b.state.station ≤ k → (if_made o a b).state.station ≤ k
  station_by made a b k p q = p
  station_by (refused n) a b k p q = q
  station_by (refused_at n u) a b k p q = q

  course_station : (n : ℕ) (s : Drawn) (r : Reaches) → (walk_on n asked path s r).state.station ≤ s.station + n
  unfolding walk_on
  course_station zero s r = omega arith
  course_station (suc n) s r =
      let c = call_of asked path r in
      let t = draw_step s c in
      let h = one_on_at_most s c in
      let k = course_station n t.state (crossed asked path (points_at s c) (points_at t.state c) r) in
      station_by t.answer (walk_on n asked path t.state (crossed asked path (points_at s c) (points_at t.state c) r)) (record { answer = t.answer; state = t.state; runs = r }) (s.station + suc n) (omega (arith, k, h)) (omega (arith, h))

  -- the station that it ends at is on the path
  pub ends_on_path : (s : Drawn) (r : Reaches) → s.station < asked → (walk_to_end asked path s r).state.station < asked
  ends_on_path s r h = omega (arith, course_station (asked - (s.station + 1)) s r, h)

  lengths_by : (o : Outcome) (a b : Course) (r : Reaches) → SameLengths a.runs r → SameLengths b.runs r → SameLengths (if_made o a b).runs r
  lengths_by made a b r p q = p
  lengths_by (refused n) a b r p q = q
  lengths_by (refused_at n u) a b r p q = q

  pub course_lengths : (n : ℕ) (s : Drawn) (r : Reaches) → SameLengths (walk_on n asked path s r).runs r
  unfolding walk_on
  course_lengths zero s r = record { left = refl; right = refl; marks = refl }
  course_lengths (suc n) s r =
      let c = call_of asked path r in
      let t = draw_step s c in
      let x = crossed asked path (points_at s c) (points_at t.state c) r in
      let k = course_lengths n t.state x in
      let m = stations_lengths (λ i. crossed_from 0 (station_at path i) (points_at s c) (points_at t.state c)) asked r in
      lengths_by t.answer (walk_on n asked path t.state x) (record { answer = t.answer; state = t.state; runs = r }) r
      (record { left = k.left ∙ m.left; right = k.right ∙ m.right; marks = k.marks ∙ m.marks })
      (record { left = refl; right = refl; marks = refl })
