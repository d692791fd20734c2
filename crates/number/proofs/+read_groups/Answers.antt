-- `number::read_groups` meets its contract. Assumes nothing.
use native.Mathlib.Omega.{arith}
use mathlib.Core.Path.{◌∙◌, sym, subst}
use Prim.Native.Nat.{ℕ, ◌<◌, ◌^◌}
use Rattle.std.proofs.lemmas.Result.{err_from_is_err_and}
use Rattle.number.proofs.GroupLaws.{at_none, at_end, at_last_lem, at_more, onto_pos, onto_zero, Below, below_5}
use Rattle.number.proofs.+read_groups.Goals as goal
use Rattle.number.proofs.+read_groups.Goals.{Else-rest-eq0}

-- what the groups after the first come to is small enough to be put before it
rest_below : (t : ℕ) (c : Else-rest-eq0 t) → c.in_ok-rest.rest < 2 ^ 35
rest_below t c = subst (Below (2 ^ 35)) (sym (c.in_ok-rest.ensures 0)) (below_5 _ _ _ _ (omega arith))

pub returns-then-left-eq0 : goal.returns-then-left-eq0
returns-then-left-eq0 t c = λ own. rw (c.at.ensures, c.if-left-eq0.true, at_none)

pub returns-then-s-c : goal.returns-then-s-c
returns-then-s-c t c = λ own. rw c.at-then-s-c.ensures (sym (at_end _ _ _ _ c.if-left-eq0.false c.if-s-c.true))

pub returns-then-group-lt128 : goal.returns-then-group-lt128
returns-then-group-lt128 t c =
    λ own. rw c.from-group.ensures (sym (at_last_lem _ _ _ _ c.if-left-eq0.false c.if-s-c.false (rw c.from-group.ensures at c.if-group-lt128.true)))

pub returns-in_err-rest : goal.returns-in_err-rest
returns-in_err-rest t c =
    let p = err_from_is_err_and c.from_residual.result c.from_residual.ensures.1 in
    let l = rw c.from-group.ensures at c.if-group-lt128.false in
    λ own. rw (p.1, p.2) (sym (at_more _ _ _ _ c.if-left-eq0.false c.if-s-c.false l (c.in_err-rest.ensures own)))

pub returns-then-rest-eq0 : goal.returns-then-rest-eq0
returns-then-rest-eq0 t c =
    let l = rw c.from-group.ensures at c.if-group-lt128.false in
    λ own. rw c.at-then-rest-eq0.ensures (sym (at_more _ _ _ _ c.if-left-eq0.false c.if-s-c.false l (c.in_ok-rest.ensures own) ∙ onto_zero _ _ _ _ c.if-rest-eq0.true))

pub overflow_mul-result : goal.overflow_mul-result
overflow_mul-result t c = let h = rest_below t c in omega arith

pub overflow_add-result : goal.overflow_add-result
overflow_add-result t c = let h = rest_below t c in omega arith

pub returns : goal.returns
returns t c =
    let l = rw c.from-group.ensures at c.if-group-lt128.false in
    λ own. rw c.from-group.ensures (sym (at_more _ _ _ _ c.if-left-eq0.false c.if-s-c.false l (c.in_ok-rest.ensures own) ∙ onto_pos _ _ _ _ c.if-rest-eq0.false))
