-- What a call that passed the tests gives to those who measure and step.
use Prim.Native.Nat.{ℕ, ◌+◌, ◌≤◌, ◌<◌}
use mathlib.Core.Path.{◌≡◌, refl, sym, ◌∙◌, ap, ap₂, subst}
use mathlib.Core.Bool.{true}
use mathlib.Core.List.{List}
use native.Mathlib.Omega.{arith}
use lib.ListN.{length, get_or, take, length-replicate}
use lib.Seq.{sets, length-sets}
use Rattle.std.proofs.lemmas.List.{length-take-le}
use Rattle.plane.specs.declared.Vec2.{Vec2}
use Rattle.job.specs.declared.Vehicle.{Vehicle}
use Rattle.path.specs.Laying.{PathRuns}
use Rattle.walk.specs.declared.Walk.{Walk}
use Rattle.walk.specs.Drawn.{Drawn, view, Call, station_at}
use Rattle.walk.specs.Tests.{path_sound, lent}
use Rattle.walk.specs.Rig.{Stepped, zero_vector, turning_of, after_turning, draw_step}
use Rattle.walk.specs.Units.{Turning, turned, stopped}
use Rattle.walk.specs.Rigid.{Keeping}
use Rattle.walk.proofs.PathTests.{path_station}
use Rattle.walk.proofs.RecordTests.{lent_call, sound_record, not_last_lem}
use Rattle.walk.proofs.StepKept.{step_rule_lem}
use Rattle.marks.specs.Count.{point_capacity, point_count}
use Rattle.marks.proofs.CountLaws.{count_fits, some_point, count_even}
use Rattle.points.specs.Points.{no_points, rig_points}
use Rattle.points.specs.Requires.{RigAt}
use Rattle.points.proofs.PointLaws.{points_count, points_sized, points_taken}
use Rattle.points.proofs.SoundRig.{sound_rig}
use Rattle.reaches.specs.Cells.{Reaches}
use Rattle.reaches.specs.Inner.{Room, SizedPoint, Crossable}
use Rattle.stations.specs.Placing.{call_of}
use Rattle.stations.specs.Inner.{Enterable, Open}
use Rattle.stations.proofs.CallLaws.{step_open}
use Rattle.stations.proofs.RigLaws.{sound_keeping, keeping_ready}

pub room_of : (asked : ℕ) (p : PathRuns) (r : Reaches) → lent (call_of asked p r) ≡ true → Room asked r
room_of asked p r e = let l = (lent_call (call_of asked p r) e).1 in record { left = l.left; right = l.right; marks = l.marks }

-- the points of a rig, as those who measure ask them
pub sized : {v : Vehicle} {ds : List Vec2} {f : Vec2} → RigAt v ds f → (k : ℕ) → SizedPoint (get_or (rig_points v ds f) k zero_vector)
sized a k = let p = points_sized a k in record { x = p.x; y = p.y }

-- as many of an array of points as the vehicle has
module _ (v : Vehicle) (m : v.count ≤ 4) (ds : List Vec2) (f : Vec2) {n : ℕ} {l : List Vec2} (e : n ≡ point_count v) (g : l ≡ sets no_points 0 (rig_points v ds f)) where
  pub points_fit : n ≤ length l
  points_fit = let k = count_fits v m in rw (e, g) (omega (arith, length-sets no_points 0 (rig_points v ds f), length-replicate point_capacity zero_vector))

  pub taken_count : n ≡ length (take n l)
  taken_count = sym (length-take-le n l points_fit)

  pub taken_as : take n l ≡ rig_points v ds f
  taken_as = ap₂ take e g ∙ points_taken v m ds f

pub crossable : (w w' : Walk) (old new : Vec2) (asked : ℕ) (p : PathRuns) (r : Reaches) → Enterable w w' old new (call_of asked p r)
    → Crossable asked p (length (rig_points w.vehicle w.d old)) (rig_points w.vehicle w.d old) (rig_points w'.vehicle w'.d new) r
crossable w w' old new asked p r e =
    let olds = points_count w.vehicle e.before.rig.most w.d old in
    let news = points_count w'.vehicle e.after.rig.most w'.d new in
    rw olds (record {
      lent = (lent_call (call_of asked p r) e.lent).0.room;
      room = room_of asked p r e.lent;
      stations = λ i h. path_station p asked i e.path h;
      some = some_point w.vehicle;
      even = count_even w.vehicle;
      points = record { most = count_fits w.vehicle e.before.rig.most };
      both = olds ∙ sym (news ∙ ap point_count e.vehicle);
      old = λ k h. sized e.before k;
      new = λ k h. sized e.after k;
    })

-- a rig that has its lengths, at a station of a sound path
pub rig_at : (w : Walk) (p : PathRuns) (asked i : ℕ) → length w.vehicle.units ≡ 4 → Keeping (view w) → path_sound asked p ≡ true → i < asked → RigAt w.vehicle w.d (station_at p i).position
rig_at w p asked i n k e h = sound_rig w.vehicle w.d (station_at p i) n (keeping_ready w.vehicle w.d n k.vehicle k.lengths) k.vehicle (path_station p asked i e h)

-- a step leaves the vehicle
vehicle_left : (s : Drawn) (t : Turning) → (after_turning s t).state.vehicle ≡ s.vehicle
vehicle_left s (turned ds) = refl
vehicle_left s (stopped n u) = refl

vehicle_same : (w w' : Walk) (c : Call) → Open (view w) c → (draw_step (view w) c).state ≡ view w' → w'.vehicle ≡ w.vehicle
vehicle_same w w' c o e =
    ap (λ (s : Drawn). s.vehicle) (sym e) ∙ ap (λ (r : Stepped). r.state.vehicle) (step_open (view w) c o) ∙ vehicle_left (view w) (turning_of (view w) c)

pub enterable : (w w' : Walk) (c : Call) → length w.vehicle.units ≡ 4 → Open (view w) c → (draw_step (view w) c).state ≡ view w'
    → Enterable w w' (station_at c.path w.station).position (station_at c.path (w.station + 1)).position c
enterable w w' c n o e =
    let n' = ap (λ (v : Vehicle). length v.units) (vehicle_same w w' c o e) ∙ n in
    let k = sound_keeping c.asked (view w) o.rig in
    record {
      lent = o.lent;
      path = o.path;
      vehicle = vehicle_same w w' c o e;
      before = rig_at w c.path c.asked w.station n k o.path (sound_record c.asked (view w) o.rig).station;
      after = rig_at w' c.path c.asked (w.station + 1) n' (subst Keeping e (step_rule_lem.kept (view w) c k)) o.path (not_last_lem c.asked (view w) o.not_last);
    }
