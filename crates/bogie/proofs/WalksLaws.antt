-- The walks at the settings: each comes to what a first walk would, and leaves runs of the same lengths.
use Prim.Native.Nat.{ℕ, zero, suc, ◌+◌, ◌<◌}
use mathlib.Core.Path.{◌≡◌, refl, sym, ◌∙◌, ap, subst}
use mathlib.Core.Bool.{true}
use native.Mathlib.Numerals.{add-one}
use borrow.Author.Tests.{eq-eqb, eqb-true, leb-true}
use lib.Dec.{leb, eqb}
use Rattle.std.proofs.lemmas.Bool.{and_parts}
use Rattle.job.specs.declared.Vehicle.{Vehicle}
use Rattle.job.specs.Faults.{vehicle_fault}
use Rattle.job.proofs.FaultLaws.{sound_vehicle}
use Rattle.path.specs.Laying.{PathRuns}
use Rattle.walk.specs.Drawn.{station_at}
use Rattle.walk.specs.Tests.{vehicle_sound}
use Rattle.walk.specs.Rig.{drawn_start}
use Rattle.reaches.specs.Cells.{Reaches, cleared_cell, cleared}
use Rattle.reaches.proofs.CellLaws.{SameLengths, stations_lengths}
use Rattle.stations.specs.Placing.{call_of}
use Rattle.run.specs.Ran.{Ran}
use Rattle.run.specs.Walking.{Course, walk_to_end, steps_left}
use Rattle.run.specs.Run.{walk_over, ran_over, Runnable, OverEnsures}
use Rattle.run.proofs.WalkingLaws.{same_call}
use Rattle.run.proofs.CourseLaws.{course_lengths}
use Rattle.ranking.specs.Ranking.{Listed, refused, ranked, listed_of}
use Rattle.bogie.specs.declared.Rail.{Rail}
use Rattle.bogie.specs.Settings.{setting_at, vehicle_set}
use Rattle.bogie.specs.Fitting.{with_run, fitting, run_entered}
use Rattle.bogie.specs.Walks.{over_at, runs_after, WalkEnsures, LastUnit, Walkable}
use Rattle.bogie.proofs.EnterLaws.{run_first}
use Rattle.bogie.proofs.FaultsKept.{kept_vehicle}
use Rattle.bogie.proofs.Forgotten.{walk_forgotten}
use Rattle.bogie.proofs.RailLaws.{in_limits, wheelbase_at}

module _ (asked : ℕ) (path : PathRuns) (v : Vehicle) (b : Rail) (r : Reaches) where
  pub after_lengths : (i : ℕ) → SameLengths (runs_after asked path v b r i) r
  after_lengths zero = record { left = refl; right = refl; marks = refl }
  after_lengths (suc i) =
      let s = drawn_start (vehicle_set v (setting_at b i)) (station_at path 0).heading in
      let k = course_lengths asked path (steps_left asked s) s (cleared asked r) in
      let m = stations_lengths (λ i c. cleared_cell) asked r in
      record { left = k.left ∙ m.left; right = k.right ∙ m.right; marks = k.marks ∙ m.marks }

  after_cleared : (i : ℕ) → cleared asked (runs_after asked path v b r i) ≡ cleared asked r
  after_cleared zero = refl
  after_cleared (suc i) = walk_forgotten asked path (vehicle_set v (setting_at b i)) r

  -- one more setting, on the runs that those before it left
  module _ (i : ℕ) (runs : Reaches) (so : runs ≡ runs_after asked path v b r i) where
    walked : (u : Vehicle) → walk_over asked path u runs ≡ walk_over asked path u r
    walked u = ap (λ (x : Reaches). walk_to_end asked path (drawn_start u (station_at path 0).heading) x) (ap (cleared asked) so ∙ after_cleared i)

    pub runs_lengths : SameLengths runs r
    runs_lengths = subst (λ (x : Reaches). SameLengths x r) (sym so) (after_lengths i)

    module _ (u : Vehicle) (set : u ≡ vehicle_set v (setting_at b i)) where
      pub next_runnable : Walkable v b (call_of asked path r) → i < b.number → Runnable u (call_of asked path runs)
      unfolding vehicle_sound
      next_runnable y l =
          let f = kept_vehicle v (setting_at b i) (eqb-true (vehicle_fault v) 0 y.vehicle) (wheelbase_at b (in_limits b y.rail) i l) in
          record {
            lent = rw (same_call asked path runs_lengths) y.lent;
            path = y.path;
            vehicle = subst (λ (x : Vehicle). eqb (vehicle_fault x) 0 ≡ true) (sym set) (eq-eqb _ 0 f);
          }

      module _ (a : Ran) (after : Reaches) (o : OverEnsures asked path u runs a after) where
        whole : walk_over asked path u runs ≡ walk_over asked path (vehicle_set v (setting_at b i)) r
        whole = walked u ∙ ap (λ (x : Vehicle). walk_over asked path x r) set

        pub next_runs : after ≡ runs_after asked path v b r (i + 1)
        next_runs = rw (add-one i) (o.reaches ∙ ap (λ (c : Course). c.runs) whole)

        pub next_listed : (l m : Listed) → l ≡ listed_of (ranked (fitting (over_at asked path v r) (setting_at b) i)) → m ≡ run_entered (setting_at b i) a l
            → m ≡ listed_of (ranked (fitting (over_at asked path v r) (setting_at b) (i + 1)))
        unfolding fitting
        next_listed l m e f =
            let run : a ≡ over_at asked path v r (setting_at b i) = o.answered ∙ ap (ran_over asked path) whole in
            rw (add-one i)
            (f ∙ ap (run_entered (setting_at b i) a) e ∙ run_first (setting_at b i) (fitting (over_at asked path v r) (setting_at b) i) a
            ∙ ap (λ (x : Ran). listed_of (ranked (with_run (setting_at b i) x (fitting (over_at asked path v r) (setting_at b) i)))) run)

  -- after the last setting
  pub all_walked : (i : ℕ) (l : Listed) (runs : Reaches) → i ≡ b.number → runs ≡ runs_after asked path v b r i → l ≡ listed_of (ranked (fitting (over_at asked path v r) (setting_at b) i)) → WalkEnsures asked path v b r l runs
  all_walked i l runs e p q =
      record {
        listed = q ∙ ap (λ (n : ℕ). listed_of (ranked (fitting (over_at asked path v r) (setting_at b) n))) e;
        runs = p ∙ ap (runs_after asked path v b r) e;
      }

-- none yet
pub none_listed : (run : ℕ → Ran) (at : ℕ → ℕ) → refused 30 ≡ listed_of (ranked (fitting run at 0))
unfolding ranked fitting
none_listed run at = refl

-- a sound vehicle has a last unit in its array
pub last_unit : (v : Vehicle) → vehicle_sound v ≡ true → LastUnit v
unfolding vehicle_sound
last_unit v h =
    let s = and_parts (leb 1 v.count) (leb v.count 4) (sound_vehicle v (eqb-true (vehicle_fault v) 0 h)).count in
    record { least = leb-true 1 v.count s.0; most = leb-true v.count 4 s.1 }
