-- A vehicle on a laid path, from its placement to what its walk came to.
use Prim.Native.Nat.{ℕ, ◌≤◌, ◌<◌}
use mathlib.Core.Path.{◌≡◌, sym, ◌∙◌, ap, subst}
use mathlib.Core.Bool.{true}
use lib.IntN.{pos, ◌*ℤ◌}
use Rattle.plane.specs.Length.{heading_length, Near}
use Rattle.job.specs.declared.Vehicle.{Vehicle}
use Rattle.path.specs.Laying.{PathRuns}
use Rattle.walk.specs.declared.Walk.{Walk}
use Rattle.walk.specs.Moving.{Advanced}
use Rattle.walk.specs.Drawn.{Drawn, view, station_at}
use Rattle.walk.specs.Tests.{lent, record_sound}
use Rattle.walk.specs.Rig.{drawn_start}
use Rattle.walk.proofs.PathTests.{path_station}
use Rattle.walk.proofs.RecordTests.{lent_call, sound_record}
use Rattle.walk.proofs.VehicleTests.{units_counted}
use Rattle.walk.proofs.SoundKept.{start_sound}
use Rattle.reaches.specs.Cells.{Reaches, cleared_cell, cleared}
use Rattle.reaches.proofs.CellLaws.{SameLengths, lengths_of_lem}
use Rattle.stations.specs.Placing.{call_of}
use Rattle.run.specs.Ran.{Ran}
use Rattle.run.specs.Walking.{Course, walk_to_end, steps_left, course_of, Going}
use Rattle.run.specs.Run.{walk_over, ran_over, Runnable, Tellable, OverEnsures}
use Rattle.run.proofs.WalkingLaws.{same_call}
use Rattle.run.proofs.CourseLaws.{course_vehicle, ends_on_path, course_lengths}

module _ (asked : ℕ) (path : PathRuns) (v : Vehicle) (r : Reaches) (y : Runnable v (call_of asked path r)) where
  pub some_asked : 1 ≤ asked
  some_asked = (lent_call (call_of asked path r) y.lent).0.least

  pub heading_near : Near (station_at path 0).heading heading_length (pos 2 *ℤ heading_length)
  heading_near = (path_station path asked 0 y.path some_asked).heading

  -- placed: the record, and the runs that were cleared
  module _ (w : Walk) (runs : Reaches) (placed : view w ≡ drawn_start v (station_at path 0).heading) (clear : runs ≡ cleared asked r) where
    lent_still : (x : Reaches) → SameLengths x r → lent (call_of asked path x) ≡ true
    lent_still x s = rw (same_call asked path s) y.lent

    cleared_lengths : SameLengths runs r
    cleared_lengths = lengths_of_lem (λ i c. cleared_cell) asked r clear

    sound_start : record_sound asked (view w) ≡ true
    sound_start = subst (λ (s : Drawn). record_sound asked s ≡ true) (sym placed) (start_sound asked v (station_at path 0).heading some_asked y.vehicle heading_near)

    pub placed_going : Going (view w) (call_of asked path runs)
    placed_going = record { lent = lent_still runs cleared_lengths; path = y.path; rig = sound_start }

    -- walked to the end
    module _ (end : Advanced) (after : Reaches) (walked : course_of end after ≡ walk_to_end asked path (view w) runs) where
      pub end_on_path : end.walk.station < asked
      end_on_path = rw (ap (λ (c : Course). c.state.station) walked) (ends_on_path asked path (view w) runs (sound_record asked (view w) sound_start).station)

      pub end_tellable : Tellable end.walk.vehicle end.walk.station (call_of asked path after)
      end_tellable =
          let l = subst (λ (x : Reaches). SameLengths x runs) (sym (ap (λ (c : Course). c.runs) walked)) (course_lengths asked path (steps_left asked (view w)) (view w) runs) in
          let m = cleared_lengths in
          let same = ap (λ (c : Course). c.state.vehicle) walked ∙ course_vehicle asked path (steps_left asked (view w)) (view w) runs ∙ ap (λ (s : Drawn). s.vehicle) placed in
          record {
            units = subst (λ (x : Vehicle). x.count ≤ 4) (sym same) (units_counted v y.vehicle).1;
            lent = lent_still after (record { left = l.left ∙ m.left; right = l.right ∙ m.right; marks = l.marks ∙ m.marks });
            station = end_on_path;
          }

      pub told_so : (answer : Ran) → answer ≡ ran_over asked path (course_of end after) → OverEnsures asked path v r answer after
      told_so answer e =
          let f : Drawn → Reaches → Course = λ s x. walk_to_end asked path s x in
          let whole : course_of end after ≡ walk_over asked path v r = walked ∙ ap (λ (s : Drawn). f s runs) placed ∙ ap (f (drawn_start v (station_at path 0).heading)) clear in
          record { answered = e ∙ ap (ran_over asked path) whole; reaches = ap (λ (c : Course). c.runs) whole }
