-- Every station of a job without a fault is sound: each step is on a curve that was let pass and is no longer than the job's step.
use Prim.Native.Nat.{ℕ, zero, suc, ◌+◌, ◌*◌, ◌/◌, ◌%◌, ◌≤◌, ◌<◌}
use mathlib.Core.Path.{◌≡◌, refl, sym, subst}
use mathlib.Core.Bool.{true}
use mathlib.Core.List.{List, [], ◌∷◌, ◌++◌, map, map-append}
use native.Mathlib.Omega.{arith}
use native.Mathlib.Nat as NatL
use borrow.Author.Tests.{leb-true}
use lib.Dec.{leb}
use lib.ListN.{length, take, get_or}
use lib.IntN.{pos, ◌*ℤ◌}
use Rattle.std.proofs.lemmas.Bool.{and_parts}
use Rattle.exact.specs.Size.{Within}
use Rattle.exact.proofs.Sizes.{within_more}
use Rattle.plane.specs.Length.{heading_length, Near}
use Rattle.job.specs.declared.Curve.{Curve}
use Rattle.job.specs.declared.Element.{Element}
use Rattle.job.specs.declared.Job.{Job}
use Rattle.job.specs.Allowed.{length_allowed, curve_allowed, element_allowed}
use Rattle.job.specs.Steps.{tally}
use Rattle.job.specs.Faults.{judge, fault_of, element_fault, total_fault, elements_fault}
use Rattle.job.proofs.FaultLaws.{sound, or_none, first_none}
use Rattle.path.specs.declared.Station.{Station}
use Rattle.path.specs.Cuts.{Cut, cut, full_steps, shorter_step, cuts_from, cuts}
use Rattle.path.specs.Stations.{Step, steps_on, next_station, stations_from, start_station, stations}
use Rattle.path.specs.Cursor.{Reachable}
use Rattle.path.specs.Laying.{SoundStation}
use Rattle.path.specs.LaidPath.{SoundPath, no_station}
use Rattle.path.proofs.StationLaws.{heading_kept, position_within}
use Rattle.path.proofs.TotalLaws.{total_count}
use Rattle.path.proofs.JobLaws.{total_allowed, start_sound, stations_length, stations_count}

-- steps on curves that were let pass, of 1 to 20,000 ticks
pub record Passable (s : Step) : Type 0 where
  pub curve : curve_allowed s.curve ≡ true
  pub least : 1 ≤ s.cut.length
  pub most : s.cut.length ≤ 20000

pub data AllPassable : List Step → Type 0 where
  none : AllPassable []
  one : {s : Step} {ss : List Step} → Passable s → AllPassable ss → AllPassable (s ∷ ss)

append_passable : {ss ts : List Step} → AllPassable ss → AllPassable ts → AllPassable (ss ++ ts)
append_passable none b = b
append_passable (one p a) b = one p (append_passable a b)

-- the cuts of an element
module _ (c : Curve) (allowed : curve_allowed c ≡ true) (step : ℕ) (least : 1 ≤ step) (most : step ≤ 20000) where
  abbrev on : Cut → Step
  on k = record { curve = c; cut = k }

  full_passable : (k b : ℕ) → AllPassable (map on (full_steps step k b))
  unfolding full_steps
  full_passable zero b = none
  full_passable (suc k) b = one (record { curve = allowed; least = least; most = most }) (full_passable k (b + step))

  shorter_passable : (r b : ℕ) → r < step → AllPassable (map on (shorter_step r b))
  shorter_passable zero b h = none
  shorter_passable (suc r) b h = one {s = on (cut b (suc r))} (record { curve = allowed; least = omega arith; most = omega arith }) none

  cuts_passable : (n : ℕ) → AllPassable (map on (cuts step n))
  unfolding cuts_from
  cuts_passable n =
      let full = full_steps step (n / step) 0 in
      let shorter = shorter_step (n % step) (0 + n / step * step) in
      subst AllPassable (sym (map-append on full shorter)) (append_passable (full_passable (n / step) 0) (shorter_passable (n % step) (0 + n / step * step) (NatL.mod-lt n (omega arith))))

steps_passable : (step t : ℕ) (es : List Element) → 1 ≤ step → step ≤ 20000 → fault_of element_fault (tally step) total_fault t es ≡ 0 → AllPassable (steps_on step es)
unfolding fault_of steps_on
steps_passable step t [] l m h = none
steps_passable step t (e ∷ es) l m h =
    let f = first_none (element_fault t e) (fault_of element_fault (tally step) total_fault (tally step t e) es) h in
    let a = and_parts (length_allowed e.length) (curve_allowed e.curve) (or_none (element_allowed e) 7 0 f.0).0 in
    append_passable (cuts_passable e.curve a.1 step l m e.length) (steps_passable step (tally step t e) es l m f.1)

-- stations from p on, whose coordinates are within b
module _ (p : Station) (b : ℕ) (heading : Near p.heading heading_length (pos 2 *ℤ heading_length)) (place : Within b p.position.x × Within b p.position.y) where
  sound_here : b ≤ 150000000 → SoundStation p
  sound_here h = record { x = within_more h place.0; y = within_more h place.1; heading = heading }

  reachable_from : (s : Step) → Passable s → b ≤ 150000000 → Reachable p s.curve s.cut.length
  reachable_from s a h =
      let k : b ≤ 2000000000 = omega arith in
      record { place = record { x = within_more k place.0; y = within_more k place.1 }; heading = heading; curve = a.curve; least = a.least; most = a.most }

  -- no step moves a coordinate by more than 20,000
  place_next : (s : Step) → Passable s → b ≤ 150000000 → Within (b + 20000) (next_station p s).position.x × Within (b + 20000) (next_station p s).position.y
  place_next s a h =
      let w = position_within p s.curve s.cut.length (reachable_from s a h) b place in
      let k : b + s.cut.length ≤ b + 20000 = omega (arith, a.most) in
      (within_more k w.0, within_more k w.1)

stations_sound : (p : Station) (b : ℕ) → Near p.heading heading_length (pos 2 *ℤ heading_length) → Within b p.position.x × Within b p.position.y
    → (ss : List Step) → AllPassable ss → b + 20000 * length ss ≤ 150000000 → (i : ℕ) → i < suc (length ss) → SoundStation (get_or (p ∷ stations_from p ss) i no_station)
unfolding stations_from
stations_sound p b n w ss a h zero l = sound_here p b n w (omega arith)
stations_sound p b n w [] none h (suc i) l = absurd (omega arith)
stations_sound p b n w (s ∷ ss) (one q a) h (suc i) l =
    let k : b ≤ 150000000 = omega arith in
    stations_sound (next_station p s) (b + 20000) (heading_kept p s.curve s.cut.length (reachable_from p b n w s q k)) (place_next p b n w s q k) ss a (omega arith) i (omega arith)

pub sound_path : (j : Job) → judge j ≡ 0 → SoundPath j
unfolding stations elements_fault
sound_path j h =
    let s = sound j h in
    let es = take j.count j.elements in
    let ss = steps_on j.step es in
    let step = and_parts (leb 100 j.step) (leb j.step 20000) s.step in
    let least = leb-true 100 j.step step.0 in
    let most = leb-true j.step 20000 step.1 in
    let start = start_sound j.start s.start in
    let few = total_allowed j.step 0 es s.elements in
    let total = total_count j.step 0 es in
    let count = stations_count j in
    let all = stations_length (start_station j.start) ss in
    record {
      count = omega arith;
      most = omega arith;
      start = refl;
      sound = λ i l. stations_sound (start_station j.start) 100000000 start.2 (start.0, start.1) ss (steps_passable j.step 0 es (omega arith) most s.elements) (omega arith) i (omega arith);
    }
