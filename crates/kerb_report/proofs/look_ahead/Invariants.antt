-- `kerb_report::look_ahead` meets its contract: at each turn the look ahead from here is the look ahead from the start, and the old points are those of the walk here.
use Prim.Native.Nat.{◌+◌}
use mathlib.Core.Path.{◌≡◌}
use Rattle.path.specs.Lent.{path_of}
use Rattle.walk.specs.Drawn.{view}
use Rattle.run.specs.Walking.{steps_left}
use Rattle.kerb_line.specs.Kerb.{vertices}
use Rattle.kerb_line.specs.Lent.{runs_of}
use Rattle.kerb_report.specs.Report.{look_ahead}
use Rattle.kerb_report.proofs.LookLaws.{Here, PointsOf}
use Rattle.kerb_report.proofs.look_ahead.Given as goal

abbrev pub invariant-loop-step : goal.invariant-loop-step
invariant-loop-step l =
    let path = path_of l.path in
    let n = l.kerb.count in
    let kerb = runs_of l.kerb in
    record {
      here : Here l.asked path n kerb l.here l.count;
      led : l.here.station + 1 ≡ l.step;
      olds : PointsOf l.asked path n kerb l.here l.olds;
      rest : look_ahead (steps_left l.asked (view l.here)) l.asked path (vertices n kerb) (view l.here) ≡ look_ahead (steps_left l.asked (view l.initial.here)) l.asked path (vertices n kerb) (view l.initial.here);
    }
