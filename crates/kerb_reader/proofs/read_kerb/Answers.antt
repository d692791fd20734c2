-- `kerb_reader::read_kerb` meets its contract: a survey that was read is written, and a refusal stands.
use mathlib.Core.Path.{sym}
use Rattle.std.proofs.lemmas.Result.{err_from_is_err_and}
use Rattle.kerb_reader.proofs.Limits.{read_within_lem, kerb_written, kerb_refused}
use Rattle.kerb_reader.proofs.read_kerb.Goals as goal

pub returns-in_err-survey : goal.returns-in_err-survey
returns-in_err-survey c =
    let p = err_from_is_err_and c.from_residual.result c.from_residual.ensures.1 in
    rw (p.1, p.2) (kerb_refused _ c.args.xs.now c.args.ys.now _ (sym c.in_err-survey.ensures))

pub write_survey-requires : goal.write_survey-requires
write_survey-requires c = read_within_lem _ _ _ (sym c.in_ok-survey.ensures)

pub returns : goal.returns
returns c = kerb_written _ c.args.xs.now c.args.ys.now _ _ (sym c.in_ok-survey.ensures) c.write_survey.ensures
