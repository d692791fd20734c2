-- `answer_run::turns::unit_turn` meets its contract.
use mathlib.Core.Path.{◌≡◌, ◌∙◌, ap, subst}
use borrow.Author.Rules.{rules}
use Rattle.exact.proofs.Machine.{reread}
use Rattle.unit.specs.Turn.{unit_turn}
use Rattle.answer_run.specs.Answers.{Answered}
use Rattle.answer_run.specs.Turns.{vector_entries, unit_told}
use Rattle.answer_run.proofs.AnswerLaws.{mapped}
use Rattle.answer_run.proofs.turns.unit_turn.Goals as goal

-- the turn's own numbers are read back from their bits as they were
pub returns : goal.returns
returns c =
    let a = c.args in
    let dx : reread a.dx ≡ a.dx = search rules in
    let dy : reread a.dy ≡ a.dy = search rules in
    let fx : reread a.fx ≡ a.fx = search rules in
    let fy : reread a.fy ≡ a.fy = search rules in
    let e = mapped {entries = vector_entries} c.turn_unit-turn.result c.map.result c.map.ensures.cases (λ x r k. search rules) in
    let t = c.turn_unit-turn.ensures ∙ (λ i. unit_turn (record { x = dx i; y = dy i }) (record { x = fx i; y = fy i }) a.wheelbase) in
    subst (λ x. Answered 2 x a.answer.now c.tell.result c.tell.new.answer) (e ∙ ap unit_told t) c.tell.ensures
