-- What a field comes to, test by test.
use Prim.Native.Nat.{ℕ, ◌+◌, ◌^◌, ◌<◌, ◌≤◌}
use native.Mathlib.Nat.{pow-le-pow_right}
use native.Mathlib.Omega.{arith}
use native.Mathlib.Decide.{dec_le}
use mathlib.Core.Path.{◌≡◌, refl, sym, ◌∙◌, ap}
use mathlib.Core.List.{List}
use mathlib.Core.Bool.{Bool, true, false}
use mathlib.Core.Option.{some, none}
use borrow.Author.Tests.{le-leb, lt-leb, leb-true, eq-eqb, ne_eqb}
use lib.Dec.{leb, eqb}
use lib.ListN.{length}
use lib.Ieee.{Float, nan, inf, fin, binary64, of_bits}
use Rattle.std.proofs.lemmas.Bool.{and_parts}
use Rattle.number.specs.Read.{got, refused, unless, return}
use Rattle.number.proofs.Codec.{first, chosen}
use Rattle.job.specs.Allowed.{between}
use Rattle.metres.specs.Bytes.{little_endian, finite_of, metres_at}
use Rattle.metres.specs.Tick.{metres_most, size_at_most}
use Rattle.metres.proofs.ByteLaws.{AllBytes, below}
use Rattle.kerb_reader.specs.Geometry.{bytes_field, header, coordinate, vertices_most}

-- four bytes are a number of 32 bits
pub below_4 : (n : ℕ) (s : List ℕ) (at : ℕ) → AllBytes s → n ≤ 4 → little_endian n s at < 2 ^ 32
below_4 n s at b h = omega (arith, below n s at b, pow-le-pow_right {n = 256} (omega arith) {j = 4} h)

-- a range of one number
one_is : (v : ℕ) → eqb 1 v ≡ between 1 1 v
one_is v = by (dec_le 1 v) (dec_le v 1)
  where
    by : Dec (1 ≤ v) → Dec (v ≤ 1) → eqb 1 v ≡ between 1 1 v
    by (yes h) (yes k) = rw (eq-eqb 1 v (omega arith), le-leb 1 v h, le-leb v 1 k)
    by (yes h) (no k) = rw (ne_eqb 1 v (λ e. omega arith), le-leb 1 v h, lt-leb v 1 (omega arith))
    by (no h) k = rw (ne_eqb 1 v (λ e. omega arith), lt-leb 1 v (omega arith))

pub mark_is : header 1 (eqb 1) ≡ header 1 (between 1 1)
mark_is i = header 1 (λ v. one_is v i)

-- a mark, type or count
module _ (n : ℕ) (right : ℕ → Bool) (s : List ℕ) (at : ℕ) where
  pub header_short : leb (at + n) (length s) ≡ false → header n right s at ≡ refused 12 at
  unfolding header bytes_field
  header_short h = rw h

  pub header_wrong : leb (at + n) (length s) ≡ true → right (little_endian n s at) ≡ false → header n right s at ≡ refused 12 at
  unfolding header bytes_field
  header_wrong h k = rw (h, k)

  pub header_right : leb (at + n) (length s) ≡ true → right (little_endian n s at) ≡ true → header n right s at ≡ got (little_endian n s at) (at + n)
  unfolding header bytes_field
  header_right h k = rw (h, k)

-- a count that was read is in use
pub in_use : (s : List ℕ) (at v e : ℕ) → got v e ≡ header 4 (between 2 vertices_most) s at → v ≤ vertices_most
unfolding header
in_use s at v e h =
    let f = first (bytes_field 4 s at) (λ a x. unless (between 2 vertices_most a) 12 at (return a) s x) v e (sym h) in
    let c = chosen (between 2 vertices_most f.value) refl f.value f.next 12 at v e f.then in
    leb-true v vertices_most (and_parts (leb 2 v) (leb v vertices_most) (ap (between 2 vertices_most) (sym c.1) ∙ c.0)).1

-- a coordinate
not_sized : (x : Float) → finite_of x ≡ none → size_at_most metres_most x ≡ false
unfolding finite_of size_at_most
not_sized nan h = refl
not_sized (inf s) h = refl
not_sized (fin s m e) h = absurd (let z : ◌≡◌ {A = ℕ} 0 1 = cc in omega arith)

is_finite : (x y : Float) → finite_of x ≡ some y → x ≡ y
unfolding finite_of
is_finite nan y h = absurd (let z : ◌≡◌ {A = ℕ} 0 1 = cc in omega arith)
is_finite (inf s) y h = absurd (let z : ◌≡◌ {A = ℕ} 0 1 = cc in omega arith)
is_finite (fin s m e) y h = cc

module _ (s : List ℕ) (at : ℕ) where
  abbrev sent : Float
  sent = of_bits binary64 (little_endian 8 s at)

  pub coordinate_short : leb (at + 8) (length s) ≡ false → coordinate s at ≡ refused 12 at
  unfolding coordinate bytes_field
  coordinate_short h = rw h

  pub coordinate_none : leb (at + 8) (length s) ≡ true → metres_at s at ≡ none → coordinate s at ≡ refused 13 at
  unfolding coordinate bytes_field metres_at
  coordinate_none h k = rw (h, not_sized sent k)

  pub coordinate_far : (x : Float) → leb (at + 8) (length s) ≡ true → metres_at s at ≡ some x → size_at_most metres_most x ≡ false → coordinate s at ≡ refused 13 at
  unfolding coordinate bytes_field metres_at
  coordinate_far x h k z = rw (h, is_finite sent x k, z)

  pub coordinate_read : (x : Float) → leb (at + 8) (length s) ≡ true → metres_at s at ≡ some x → size_at_most metres_most x ≡ true → coordinate s at ≡ got x (at + 8)
  unfolding coordinate bytes_field metres_at
  coordinate_read x h k z = rw (h, is_finite sent x k, z)
