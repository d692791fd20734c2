-- `kerbed::survey_job` meets its contract.
use mathlib.Core.Path.{refl, sym, ◌∙◌, ap}
use Rattle.std.specs.Prelude.{Err}
use Rattle.refusal.specs.Numbers.{number_of}
use Rattle.kerb_reader.specs.declared.KerbRefusal.{KerbRefusal}
use Rattle.kerb_reader.specs.Answers.{as_kerb}
use Rattle.kerb_reader.specs.Geometry.{read_geometry}
use Rattle.kerbed.specs.Kerbed.{no_ticks}
use Rattle.kerbed.proofs.SurveyLaws.{read_told, refused_told_so, survey_fits}
use Rattle.kerbed.proofs.survey_job.Goals as goal

pub returns-in-Ok : goal.returns-in-Ok
unfolding no_ticks
returns-in-Ok c =
    let a = c.args in
    let q = c.read_kerb.new in
    read_told a.j c.requires.judged a.geometry.now _ q.xs q.ys _ c.in-Ok.ensures c.report_job.ensures

pub returns-in-Err-Field : goal.returns-in-Err-Field
unfolding no_ticks
returns-in-Err-Field c =
    let a = c.args in
    let r = c.in-Err-Field in
    rw r.refusal-is (refused_told_so a.j c.requires.judged a.geometry.now (number_of r.refusal.fault) r.refusal.place (ap (λ (x : KerbRefusal). as_kerb (Err x)) (sym r.field-0-is) ∙ c.in-Err-Field.ensures.answer))

pub returns-in-Err-NoRoom : goal.returns-in-Err-NoRoom
unfolding no_ticks
returns-in-Err-NoRoom c =
    let a = c.args in
    absurd (survey_fits a.j a.geometry.now (read_geometry a.geometry.now) refl 21 (ap (λ (x : KerbRefusal). as_kerb (Err x)) (sym c.in-Err-NoRoom.field-0-is) ∙ c.in-Err-NoRoom.ensures.answer))
