-- `kerb_reader::fields::read_header` meets its contract, test by test.
use Prim.Native.Nat.{ℕ, ◌+◌, ◌<◌, ◌^◌}
use mathlib.Core.Path.{◌≡◌, sym, ◌∙◌, ap}
use mathlib.Core.Bool.{true}
use native.Mathlib.Omega.{arith}
use lib.Dec.{leb}
use lib.ListN.{length}
use Rattle.number.specs.Read.{got}
use Rattle.number.specs.Field.{within}
use Rattle.metres.proofs.ByteLaws.{AllBytes}
use Rattle.kerb_reader.proofs.FieldLaws.{below_4, header_short, header_wrong, header_right}
use Rattle.kerb_reader.proofs.fields.read_header.Goals as goal
use Rattle.kerb_reader.proofs.fields.read_header.Goals.{After-little_endian-v}

pub returns-then-not-has_bytes : goal.returns-then-not-has_bytes
returns-then-not-has_bytes c = let a = c.args in rw c.at.ensures (sym (header_short a.n (within a.range) _ a.c.at (sym c.has_bytes.ensures ∙ c.if-not-has_bytes.true)))

-- the bytes are there
module _ (c : After-little_endian-v) where
  there : leb (c.args.c.at + c.args.n) (length c.args.s.now) ≡ true
  there = sym c.if-not-has_bytes.ensures

  fits : c.little_endian-v.result < 2 ^ 32
  fits =
      let bytes : AllBytes c.args.s.now = λ k. omega (arith, c.type_inv.s k) in
      rw c.little_endian-v.ensures (below_4 c.args.n _ c.args.c.at bytes c.requires.most)

pub overflow_cast-v : goal.overflow_cast-v
overflow_cast-v c = record { fits = fits c }

pub returns-then-is_within : goal.returns-then-is_within
returns-then-is_within c =
    let a = c.args in
    let read = c.little_endian-v.ensures in
    ap (λ (v : ℕ). got v (a.c.at + a.n)) read
    ∙ sym (header_right a.n (within a.range) _ a.c.at (there (goal.at.returns-then-is_within c).After-little_endian-v) (ap (within a.range) (sym read) ∙ sym c.is_within.ensures ∙ c.if-is_within.true))

pub returns-else-is_within : goal.returns-else-is_within
returns-else-is_within c =
    let a = c.args in
    let read = c.little_endian-v.ensures in
    rw c.at-else-is_within.ensures
    (sym (header_wrong a.n (within a.range) _ a.c.at (there (goal.at.returns-else-is_within c).After-little_endian-v) (ap (within a.range) (sym read) ∙ sym c.is_within.ensures ∙ c.if-is_within.false)))
