-- `reaches::crossing::crossed_cell` meets its contract.
use mathlib.Core.Path.{◌≡◌, sym, ◌∙◌}
use borrow.Author.Rules.{rules}
use Rattle.exact.proofs.Machine.{reread32}
use Rattle.reaches.proofs.LeastGreatest.{lesser_of, greater_of}
use Rattle.reaches.proofs.CrossingLaws.{crossed, not_crossed}
use Rattle.reaches.proofs.crossing.crossed_cell.Goals as goal

pub returns-then-not-crosses_station : goal.returns-then-not-crosses_station
returns-then-not-crosses_station c = let a = c.args in sym (not_crossed a.p a.s a.old a.new a.c (sym c.crosses_station.ensures ∙ c.if-not-crosses_station.true))

pub returns : goal.returns
returns c =
    let a = c.args in
    let was : reread32 c.reach-a.result ≡ c.reach-a.result = search rules in
    let is : reread32 c.reach-b.result ≡ c.reach-b.result = search rules in
    let least : reread32 c.min.result ≡ c.min.result = search rules in
    let most : reread32 c.max.result ≡ c.max.result = search rules in
    let left : reread32 a.c.left ≡ a.c.left = search rules in
    let right : reread32 a.c.right ≡ a.c.right = search rules in
    let x : reread32 c.min-2.result ≡ c.min-2.result = search rules in
    let y : reread32 c.max-2.result ≡ c.max-2.result = search rules in
    let from = was ∙ c.reach-a.ensures in
    let to = is ∙ c.reach-b.ensures in
    let l = x ∙ lesser_of left (least ∙ lesser_of from to c.min.ensures.value) c.min-2.ensures.value in
    let r = y ∙ greater_of right (most ∙ greater_of from to c.max.ensures.value) c.max-2.ensures.value in
    let m = c.with_bit.ensures in
    (λ i. record { left = l i; right = r i; mark = m i }) ∙ crossed a.p a.s a.old a.new a.c (sym c.crosses_station.ensures ∙ c.if-not-crosses_station.false)
