-- `text::put_decimal` meets its contract. Assumes nothing.
use mathlib.Core.Path.{◌≡◌, sym, ◌∙◌, ap}
use Prim.Native.Nat.{ℕ}
use Rattle.text.specs.Decimal.{digits, decimal}
use Rattle.text.proofs.DecimalLaws.{decimal_digits}
use Rattle.text.proofs.put_decimal.Goals as goal
use Rattle.text.proofs.put_decimal.Goals.{After-digit_count}

all : (c : After-digit_count) → let n = c.args.n in digits c.digit_count.result n ≡ decimal n
all c = let n = c.args.n in
    ap (λ (k : ℕ). digits k n) c.digit_count.ensures ∙ sym (decimal_digits n)

pub put_digits-requires : goal.put_digits-requires
put_digits-requires c = rw (all c) c.requires

pub returns : goal.returns
returns c = rw (all (goal.at.returns c).After-digit_count) at c.put_digits.ensures
