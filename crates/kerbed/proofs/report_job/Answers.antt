-- `kerbed::report_job` meets its contract.
use mathlib.Core.Path.{sym, subst}
use Rattle.std.specs.Prelude.{Ok}
use Rattle.path.specs.Laying.{LayEnsures}
use Rattle.swept.specs.Swept.{empty_path}
use Rattle.kerbed.proofs.KerbedLaws.{laid_not_refused, placeable, told_over, job_told}
use Rattle.kerbed.proofs.report_job.Goals as goal

pub placed_report-requires : goal.placed_report-requires
unfolding empty_path
placed_report-requires c =
    let j = c.args.j in
    let n = c.in-Ok.asked in
    placeable j c.requires.judged n _ (subst (LayEnsures j empty_path (Ok n)) (sym c.laid.ensures) c.in-Ok.ensures.laid)

pub returns-in-Ok : goal.returns-in-Ok
unfolding empty_path
returns-in-Ok c =
    let j = c.args.j in
    let n = c.in-Ok.asked in
    job_told j c.requires.judged n _ (subst (LayEnsures j empty_path (Ok n)) (sym c.laid.ensures) c.in-Ok.ensures.laid) _ _ _ _ c.placed_report.ensures (told_over c.placed_report.result c.map_err.result c.map_err.ensures.cases)

pub returns-in-Err : goal.returns-in-Err
unfolding empty_path
returns-in-Err c = absurd (laid_not_refused c.args.j c.requires.judged c.in-Err.fault _ c.in-Err.ensures.laid)
