-- `reaches::crossing::crosses_station` meets its contract.
use mathlib.Core.Path.{◌≡◌, ◌∙◌, ap}
use borrow.Author.Rules.{rules}
use lib.IntN.{pos}
use lib.Signed.{le_z}
use Rattle.exact.proofs.Machine.{reread}
use Rattle.reaches.proofs.CrossingLaws.{crosses_from_below, past_already}
use Rattle.reaches.proofs.crossing.crosses_station.Goals as goal

pub returns-then-ahead_of-lt0 : goal.returns-then-ahead_of-lt0
returns-then-ahead_of-lt0 c =
    let a = c.args in
    let was : reread c.ahead_of.result ≡ c.ahead_of.result = search rules in
    let is : reread c.ahead_of-then-ahead_of-lt0.result ≡ c.ahead_of-then-ahead_of-lt0.result = search rules in
    ap (le_z (pos 0)) (is ∙ c.ahead_of-then-ahead_of-lt0.ensures) ∙ crosses_from_below a.s a.old a.new (rw (was ∙ c.ahead_of.ensures) at c.if-ahead_of-lt0.true)

pub returns-else-ahead_of-lt0 : goal.returns-else-ahead_of-lt0
returns-else-ahead_of-lt0 c =
    let a = c.args in
    let was : reread c.ahead_of.result ≡ c.ahead_of.result = search rules in
    c.if-ahead_of-lt0.false ∙ past_already a.s a.old a.new (rw (was ∙ c.ahead_of.ensures) at c.if-ahead_of-lt0.false)
