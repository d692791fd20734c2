-- `text::read_decimal` meets its contract: what is left of the text, after the value so far, reads as the whole does.
use Prim.Native.Nat.{◌+◌, ◌-◌, ◌*◌}
use mathlib.Core.Path.{◌≡◌, sym, ◌∙◌}
use native.Mathlib.Omega.{arith}
use lib.ListN.{length, get_or}
use borrow.Author.Rules.{rules}
use Rattle.text.proofs.ReadingLaws.{read_nothing_lem, read_start_lem, read_other, read_large, read_next, read_end_lem}
use Rattle.text.proofs.read_decimal.Goals as goal

pub returns-then-is_empty : goal.returns-then-is_empty
returns-then-is_empty c =
    let none : length c.args.bytes.now ≡ 0 = search rules in
    sym (read_nothing_lem _ none)

pub loop-b-init : goal.loop-b-init
loop-b-init c = read_start_lem _ (search rules)

pub returns-then-not-is_ascii_digit : goal.returns-then-not-is_ascii_digit
returns-then-not-is_ascii_digit c = sym (read_other c.loop-b.invariant c.loop-b-test.true (sym c.if-not-is_ascii_digit.ensures.value))

pub returns-in_err-checked_mul : goal.returns-in_err-checked_mul
returns-in_err-checked_mul c =
    let is = sym c.if-not-is_ascii_digit.ensures.value in
    c.from_residual.ensures ∙ sym (read_large c.loop-b.invariant c.loop-b-test.true is (omega (arith, c.in_err-checked_mul.ensures)))

pub returns-in_err-value : goal.returns-in_err-value
returns-in_err-value c =
    let is = sym c.if-not-is_ascii_digit.ensures.value in
    c.from_residual-in_err-value.ensures ∙ sym (read_large c.loop-b.invariant c.loop-b-test.true is (omega (arith, c.in_err-value.ensures, c.in_ok-checked_mul.ensures, c.from.ensures)))

pub loop-b-preserved : goal.loop-b-preserved
loop-b-preserved c =
    let is = sym c.if-not-is_ascii_digit.ensures.value in
    let e : c.in_ok-value.value ≡ c.loop-b.value * 10 + (get_or c.args.bytes.now c.loop-b.b-index 0 - 48) = omega (arith, c.in_ok-value.ensures, c.in_ok-checked_mul.ensures, c.from.ensures) in
    rw e (read_next c.loop-b.invariant c.loop-b-test.true is (omega (arith, c.in_ok-value.ensures)))

pub returns : goal.returns
returns c = sym (read_end_lem c.loop-b.invariant c.loop-b-test.false)
