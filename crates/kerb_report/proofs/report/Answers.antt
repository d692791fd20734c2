-- `kerb_report::report` meets its contract: what the tests refuse is the report, and else the look ahead is.
use mathlib.Core.Path.{◌∙◌}
use Rattle.refusal.specs.Numbers.{number_of}
use Rattle.job.proofs.FaultLaws.{numbered}
use Rattle.path.specs.Lent.{path_of}
use Rattle.walk.specs.Drawn.{view}
use Rattle.kerb_line.specs.Lent.{runs_of}
use Rattle.kerb_report.proofs.RangeLaws.{ensured, refused_first, passed, looked}
use Rattle.kerb_report.proofs.report.Goals as goal

pub returns-in-Err : goal.returns-in-Err
returns-in-Err c =
    let a = c.args in
    ensured (view a.w) a.asked (path_of a.path) a.kerb.count (runs_of a.kerb) _
    (refused_first (view a.w) a.asked (path_of a.path) a.kerb.count (runs_of a.kerb) (number_of c.in-Err.fault) c.in-Err.ensures (numbered c.in-Err.fault))

pub look_ahead-requires : goal.look_ahead-requires
look_ahead-requires c = let a = c.args in passed (view a.w) a.asked (path_of a.path) a.kerb.count (runs_of a.kerb) c.in_default.ensures

pub returns : goal.returns
returns c =
    let a = c.args in
    let p = passed (view a.w) a.asked (path_of a.path) a.kerb.count (runs_of a.kerb) c.in_default.ensures in
    ensured (view a.w) a.asked (path_of a.path) a.kerb.count (runs_of a.kerb) _ (c.look_ahead.ensures ∙ looked (view a.w) a.asked (path_of a.path) a.kerb.count (runs_of a.kerb) p)
