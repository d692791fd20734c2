-- `answer_run::turns::path_turn` meets its contract.
use mathlib.Core.Path.{◌≡◌, ◌∙◌, ap, subst}
use borrow.Author.Rules.{rules}
use Rattle.exact.proofs.Machine.{reread, reread32}
use Rattle.heading.specs.PathTurn.{path_turn}
use Rattle.answer_run.specs.Answers.{Answered}
use Rattle.answer_run.specs.Turns.{path_entries, path_told}
use Rattle.answer_run.proofs.AnswerLaws.{mapped}
use Rattle.answer_run.proofs.turns.path_turn.Goals as goal

-- the turn's own numbers are read back from their bits as they were
pub returns : goal.returns
returns c =
    let a = c.args in
    let gx : reread a.gx ≡ a.gx = search rules in
    let gy : reread a.gy ≡ a.gy = search rules in
    let r : reread32 a.r ≡ a.r = search rules in
    let e = mapped {entries = path_entries} c.turn_path-turn.result c.map.result c.map.ensures.cases (λ x r k. search rules) in
    let t = c.turn_path-turn.ensures ∙ (λ i. path_turn (record { x = gx i; y = gy i }) a.s (r i)) in
    subst (λ x. Answered 4 x a.answer.now c.tell.result c.tell.new.answer) (e ∙ ap path_told t) c.tell.ensures
