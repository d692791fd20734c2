-- `kerbed::check_geometry` meets its contract.
use Rattle.std.proofs.lemmas.Result.{err_from_is_err_and}
use Rattle.kerbed.proofs.SurveyLaws.{faultless, geometry_told, geometry_refused}
use Rattle.kerbed.proofs.check_geometry.Goals as goal

pub returns-in_err-j : goal.returns-in_err-j
returns-in_err-j c =
    let p = err_from_is_err_and c.from_residual.result c.from_residual.ensures.1 in
    rw (p.1, p.2) (geometry_refused c.args.job.now c.in_err-j.field-0.0 c.in_err-j.ensures _)

pub survey_job-requires : goal.survey_job-requires
survey_job-requires c = faultless c.args.job.now c.in_ok-j.j c.in_ok-j.ensures

pub returns : goal.returns
returns c = geometry_told c.args.job.now c.in_ok-j.j c.in_ok-j.ensures _ _ c.survey_job.ensures
