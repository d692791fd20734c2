-- The test of the vectors against the units in use, vector by vector, and what it says of each. Assumes nothing.
use Prim.Native.Nat.{ℕ, zero, suc, ◌+◌, ◌≤◌, ◌<◌}
use mathlib.Core.Path.{◌≡◌, refl, sym, ◌∙◌, ap}
use mathlib.Core.Bool.{true, ◌&&◌}
use mathlib.Core.List.{List, [], ◌∷◌}
use native.Mathlib.Omega.{arith}
use native.Mathlib.Numerals.{add-one}
use borrow.Author.Tests.{eqb-true}
use lib.Dec.{eqb}
use lib.ListN.{length, drop, get_or, drop_of_length-le}
use lib.Seq.{drop-cons, drop-drop}
use lib.IntN.{ℤ, pos, negsuc, nat_abs, ◌*ℤ◌}
use Rattle.std.specs.List.{list_all, enumerate_from}
use Rattle.std.proofs.lemmas.Bool.{and_parts}
use Rattle.plane.specs.declared.Vec2.{Vec2}
use Rattle.plane.specs.Length.{has_length, Near}
use Rattle.plane.proofs.Lengths.{near_of}
use Rattle.job.specs.declared.Unit.{Unit as VehicleUnit}
use Rattle.walk.specs.Tests.{is_zero, vector_sound, vectors_sound}
use Rattle.walk.specs.Rig.{zero_vector}

-- one vector: of a unit in use, and of none
pub vector_used : (u : VehicleUnit) (us : List VehicleUnit) (d : Vec2) → vector_sound (u ∷ us) d ≡ has_length d (pos u.wheelbase)
unfolding vector_sound
vector_used u us d = refl

pub vector_unused : (d : Vec2) → vector_sound [] d ≡ is_zero d
unfolding vector_sound
vector_unused d = refl

-- the first vector, and those after it
first_and_rest : (us : List VehicleUnit) (d : Vec2) (ds : List Vec2) → vectors_sound us (d ∷ ds) ≡ (vector_sound us d && vectors_sound (drop 1 us) ds)
unfolding vectors_sound
first_and_rest [] d ds = refl
first_and_rest (u ∷ us) d ds = refl

pub no_units : vectors_sound [] [] ≡ true
unfolding vectors_sound
no_units = refl

module _ (us : List VehicleUnit) (ds : List Vec2) where
  pub vectors_next : (i : ℕ) → i < length ds
      → vectors_sound (drop i us) (drop i ds) ≡ (vector_sound (drop i us) (get_or ds i zero_vector) && vectors_sound (drop (i + 1) us) (drop (i + 1) ds))
  vectors_next i h =
      rw (← drop-drop 1 i us, drop-cons ds i zero_vector h, add-one) (first_and_rest (drop i us) (get_or ds i zero_vector) (drop (suc i) ds))

  pub vectors_end : (i : ℕ) → length us ≤ i → length ds ≤ i → vectors_sound (drop i us) (drop i ds) ≡ true
  vectors_end i g h = rw (drop_of_length-le us {i = i} g, drop_of_length-le ds {i = i} h) no_units

-- the vectors from place k on, each with its place
vectors_from : (us : List VehicleUnit) (k : ℕ) (ds : List Vec2) → length us ≤ k + length ds
    → list_all (λ (p : ℕ × Vec2). vector_sound (drop p.0 us) p.1) (enumerate_from k ds) ≡ vectors_sound (drop k us) ds
vectors_from us k [] h = sym (rw (drop_of_length-le us {i = k} (omega (arith, h))) no_units)
vectors_from us k (d ∷ ds) h =
    ap (λ t. vector_sound (drop k us) d && t) (vectors_from us (k + 1) ds (omega (arith, h)))
    ∙ sym (first_and_rest (drop k us) d ds ∙ ap (λ zs. vector_sound (drop k us) d && vectors_sound zs ds) (drop-drop 1 k us))

-- all vectors, tested one by one
pub vectors_one_by_one : (us : List VehicleUnit) (ds : List Vec2) → length us ≤ length ds
    → list_all (λ (p : ℕ × Vec2). vector_sound (drop p.0 us) p.1) (enumerate_from 0 ds) ≡ vectors_sound us ds
vectors_one_by_one us ds h = vectors_from us 0 ds (omega (arith, h))

-- a unit in use, its vector and those behind
pub used_and_rest : (u : VehicleUnit) (us : List VehicleUnit) (d : Vec2) (ds : List Vec2) → vectors_sound (u ∷ us) (d ∷ ds) ≡ (has_length d (pos u.wheelbase) && vectors_sound us ds)
unfolding vector_sound vectors_sound
used_and_rest u us d ds = refl

zero_size : (z : ℤ) → eqb (nat_abs z) 0 ≡ true → z ≡ pos 0
zero_size (pos n) e = ap pos (eqb-true n 0 e)
zero_size (negsuc n) e = absurd (omega (arith, eqb-true (suc n) 0 e))

pub zero_vector_lem : (d : Vec2) → is_zero d ≡ true → d ≡ zero_vector
zero_vector_lem d e =
    let p = and_parts (eqb (nat_abs d.x) 0) (eqb (nat_abs d.y) 0) e in
    let x = zero_size d.x p.0 in
    let y = zero_size d.y p.1 in
    λ i. record { x = x i; y = y i }

-- a vector of a unit in use has its length
pub vector_length : (us : List VehicleUnit) (ds : List Vec2) (i : ℕ) (z : VehicleUnit) → vectors_sound us ds ≡ true → i < length us
    → has_length (get_or ds i zero_vector) (pos (get_or us i z).wheelbase) ≡ true
unfolding vector_sound vectors_sound
vector_length [] ds i z e h = absurd (omega arith)
vector_length (u ∷ us) [] i z e h = absurd (let y : ◌≡◌ {A = ℕ} 0 1 = cc in omega arith)
vector_length (u ∷ us) (d ∷ ds) zero z e h = (and_parts (has_length d (pos u.wheelbase)) (vectors_sound us ds) e).0
vector_length (u ∷ us) (d ∷ ds) (suc i) z e h = vector_length us ds i z (and_parts (has_length d (pos u.wheelbase)) (vectors_sound us ds) e).1 (omega arith)

pub vector_near : (us : List VehicleUnit) (ds : List Vec2) (i : ℕ) (z : VehicleUnit) → vectors_sound us ds ≡ true → i < length us
    → let l = pos (get_or us i z).wheelbase in Near (get_or ds i zero_vector) l (pos 2 *ℤ l)
vector_near us ds i z e h = near_of (get_or ds i zero_vector) (pos (get_or us i z).wheelbase) (vector_length us ds i z e h)

-- any other is zero
pub vector_zero : (us : List VehicleUnit) (ds : List Vec2) (i : ℕ) → vectors_sound us ds ≡ true → length us ≤ i → get_or ds i zero_vector ≡ zero_vector
unfolding vector_sound vectors_sound
vector_zero us [] i e h = refl
vector_zero [] (d ∷ ds) zero e h = zero_vector_lem d (and_parts (is_zero d) (vectors_sound [] ds) e).0
vector_zero [] (d ∷ ds) (suc i) e h = vector_zero [] ds i (and_parts (is_zero d) (vectors_sound [] ds) e).1 (omega arith)
vector_zero (u ∷ us) (d ∷ ds) zero e h = absurd (omega arith)
vector_zero (u ∷ us) (d ∷ ds) (suc i) e h = vector_zero us ds i (and_parts (has_length d (pos u.wheelbase)) (vectors_sound us ds) e).1 (omega arith)
