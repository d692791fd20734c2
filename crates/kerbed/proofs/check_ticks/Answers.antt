-- `kerbed::check_ticks` meets its contract.
use Rattle.std.proofs.lemmas.Result.{err_from_is_err_and}
use Rattle.kerbed.proofs.SurveyLaws.{faultless, ticks_refused}
use Rattle.kerbed.proofs.check_ticks.Goals as goal

pub returns-in_err-j : goal.returns-in_err-j
returns-in_err-j c =
    let p = err_from_is_err_and c.from_residual.result c.from_residual.ensures.1 in
    rw (p.1, p.2) (ticks_refused c.args.job.now c.in_err-j.field-0.0 c.in_err-j.ensures _ _)

pub report_job-requires : goal.report_job-requires
report_job-requires c = faultless c.args.job.now c.in_ok-j.j c.in_ok-j.ensures
