-- `stations::record_tested` meets its contract, answer by answer.
use mathlib.Core.Path.{sym, ◌∙◌}
use Rattle.walk.specs.Drawn.{view}
use Rattle.stations.proofs.CallLaws.{at_end, ready, unsound, last_is}
use Rattle.stations.proofs.record_tested.Goals as goal

pub returns-then-not-record_sound : goal.returns-then-not-record_sound
returns-then-not-record_sound c = unsound c.args.asked (view c.args.w) (sym c.record_sound.ensures ∙ c.if-not-record_sound.true)

pub returns-then-at_last : goal.returns-then-at_last
returns-then-at_last c =
    let s = view c.args.w in
    at_end c.args.asked s (sym c.record_sound.ensures ∙ c.if-not-record_sound.false) (last_is c.args.asked s ∙ sym c.at_last.ensures ∙ c.if-at_last.true)

pub returns : goal.returns
returns c =
    let s = view c.args.w in
    ready c.args.asked s (sym c.record_sound.ensures ∙ c.if-not-record_sound.false) (last_is c.args.asked s ∙ sym c.at_last.ensures ∙ c.if-at_last.false)
