-- `stations::call_tested` meets its contract, answer by answer.
use mathlib.Core.Path.{sym, ◌∙◌}
use mathlib.Core.Bool.{true, false}
use Rattle.stations.proofs.CallLaws.{lent_by, not_lent, not_sound, passed}
use Rattle.stations.proofs.call_tested.Goals as goal

pub returns-then-not-lent : goal.returns-then-not-lent
returns-then-not-lent c = not_lent _ (lent_by _ _ _ false c.path_lent.ensures c.reaches_lent.ensures c.if-not-lent.true)

pub returns-then-not-path_sound : goal.returns-then-not-path_sound
returns-then-not-path_sound c =
    not_sound _ (lent_by _ _ _ true c.path_lent.ensures c.reaches_lent.ensures c.if-not-lent.false) (sym c.path_sound.ensures ∙ c.if-not-path_sound.true)

pub returns : goal.returns
returns c = passed _ (lent_by _ _ _ true c.path_lent.ensures c.reaches_lent.ensures c.if-not-lent.false) (sym c.path_sound.ensures ∙ c.if-not-path_sound.false)
