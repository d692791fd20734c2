-- A field that meets a test, the two directions; a test bounds what it lets through. Assumes nothing.
use Prim.Native.Nat.{ℕ, ◌*◌, ◌<◌, ◌≤◌, ◌^◌}
use mathlib.Core.Path.{◌≡◌, refl, sym}
use mathlib.Core.List.{List}
use mathlib.Core.Bool.{Bool, true}
use native.Mathlib.Omega.{arith}
use lib.IntN.{ℤ, pos, negsuc, nat_abs}
use lib.Dec.{leb}
use borrow.Author.Tests.{leb-true}
use Rattle.std.proofs.lemmas.Bool.{and_parts}
use Rattle.number.specs.Read.{Reader}
use Rattle.number.specs.Number.{write_number}
use Rattle.number.specs.Signed.{field_of, signed_of, write_signed}
use Rattle.number.specs.Field.{within, size_at_most, field, signed_number, signed_field}
use Rattle.number.specs.declared.Range.{Range}
use Rattle.number.proofs.Codec.{Codec, placed, lastly}
use Rattle.number.proofs.NumberCodec.{number}
use Rattle.number.proofs.SignedLaws.{field_signed, signed_field_lem}

-- the same values in other words
pub recast : {A : Type 0} {r : Reader A} {w : A → List ℕ} {ok : A → Type 0} {ok' : A → Type 0} → ((a : A) → ok a → ok' a) → ((a : A) → ok' a → ok a) → Codec r w ok → Codec r w ok'
recast there back c = record {
  there = λ a o s at post h. c.there a (back a o) s at post h;
  back = λ s at a e bs h. let k = c.back s at a e bs h in (there a k.0, k.1, k.2);
  bytes = λ a o. c.bytes a (back a o);
}

-- a field whose test lets only numbers of 32 bits through
pub field_codec : (fault : ℕ) (allowed : ℕ → Bool) → ((v : ℕ) → allowed v ≡ true → v < 2 ^ 32) → Codec (field fault allowed) write_number (λ v. allowed v ≡ true)
unfolding field
field_codec fault allowed small =
    recast (λ v o. o.1.0) (λ v t. (small v t, (t, refl)))
    (placed (λ p. lastly allowed fault p (λ v. v) (λ v. v) (λ v. refl) number))

pub signed_codec : Codec signed_number write_signed (λ z. field_of z < 2 ^ 32)
unfolding signed_number
signed_codec =
    recast (λ z o. o.0) (λ z h. (h, (refl, sym (signed_field_lem z))))
    (lastly (λ v. true) 0 0 signed_of field_of field_signed number)

pub signed_field_codec : (fault : ℕ) (allowed : ℤ → Bool) → ((z : ℤ) → allowed z ≡ true → field_of z < 2 ^ 32) → Codec (signed_field fault allowed) write_signed (λ z. allowed z ≡ true)
unfolding signed_field
signed_field_codec fault allowed small =
    recast (λ z o. o.1.0) (λ z t. (small z t, (t, refl)))
    (placed (λ p. lastly allowed fault p (λ z. z) (λ z. z) (λ z. refl) signed_codec))

-- what the tests come to
pub within_most : (r : Range) (v : ℕ) → within r v ≡ true → v ≤ r.most
within_most r v t = leb-true v r.most (and_parts (leb r.least v) (leb v r.most) t).1

pub field_size : (z : ℤ) → field_of z ≤ 2 * nat_abs z
field_size (pos n) = omega arith
field_size (negsuc k) = omega arith

pub sized_most : (most : ℕ) (z : ℤ) → size_at_most most z ≡ true → field_of z ≤ 2 * most
sized_most most z t = omega (arith, field_size z, leb-true (nat_abs z) most t)

pub within_codec : (fault : ℕ) (r : Range) → r.most < 2 ^ 32 → Codec (field fault (within r)) write_number (λ v. within r v ≡ true)
within_codec fault r h = field_codec fault (within r) (λ v t. omega (arith, within_most r v t))

pub sized_codec : (fault most : ℕ) → most < 2 ^ 31 → Codec (signed_field fault (size_at_most most)) write_signed (λ z. size_at_most most z ≡ true)
sized_codec fault most h = signed_field_codec fault (size_at_most most) (λ z t. omega (arith, sized_most most z t))
