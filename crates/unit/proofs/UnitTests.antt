-- The tests of a unit's turn, and the records that they decide.
use mathlib.Core.Path.{◌≡◌, refl, sym, ◌∙◌}
use mathlib.Core.Bool.{Bool, true, false, ◌&&◌}
use Prim.Native.Nat.{ℕ}
use lib.Dec.{T, leb}
use lib.IntN.{ℤ, pos, negsuc, nat_abs, ◌*ℤ◌}
use lib.Signed.{◌≤ℤ◌, clash_ℤ}
use Rattle.exact.proofs.Polynomial.{and_left, and_right}
use Rattle.exact.proofs.Order.{of_true, lt_z_false}
use Rattle.plane.specs.declared.Vec2.{Vec2}
use Rattle.plane.specs.Vector.{norm_sq}
use Rattle.plane.specs.Wheelbase.{is_wheelbase}
use Rattle.plane.specs.Length.{in_box, has_length}
use Rattle.plane.proofs.Lengths.{near_of, short_in_box}
use Rattle.refusal.specs.Numbers.{answered, refused}
use Rattle.unit.specs.Turn.{turned_by, too_far, unit_turn, Wheelbase, Turnable}
use Rattle.unit.proofs.Turning.{wheelbase_nominal}
use Rattle.unit.proofs.UnitSizes.{move_short}

pub wheelbase_of_lem : (l : ℕ) → is_wheelbase l ≡ true → Wheelbase (pos l)
wheelbase_of_lem l e =
    let t : T (leb 5000 l && leb l 200000) = of_true e in
    record { least = record { le = and_left (leb 5000 l) (leb l 200000) t }; most = record { le = and_right (leb 5000 l) (leb l 200000) t } }

-- the two forms of the range are one: what is in use as a wheelbase is a number that the test lets pass
both_true : (a b : Bool) → T a → T b → (a && b) ≡ true
both_true true true t u = refl
both_true true false t u = absurd u
both_true false b t u = absurd t

pub wheelbase_is : (l : ℤ) → Wheelbase l → (l ≡ pos (nat_abs l)) × (is_wheelbase (nat_abs l) ≡ true)
wheelbase_is (pos l) w = (refl, both_true (leb 5000 l) (leb l 200000) w.least.le w.most.le)
wheelbase_is (negsuc l) w = absurd w.least.le

-- a move that is not too far, both ways
pub move_of_lem : (f : Vec2) (l : ℤ) → too_far f l ≡ false → norm_sq f ≤ℤ (l *ℤ l)
unfolding too_far
move_of_lem f l e = lt_z_false (l *ℤ l) (norm_sq f) e

too_far_clash : (f : Vec2) (l : ℤ) → too_far f l ≡ true → norm_sq f ≤ℤ (l *ℤ l) → ⊥
unfolding too_far
too_far_clash f l e h = clash_ℤ {a = l *ℤ l} {b = norm_sq f} (record { lt = of_true e }) h

pub of_move : (f : Vec2) (l : ℤ) → norm_sq f ≤ℤ (l *ℤ l) → too_far f l ≡ false
of_move f l h = by (too_far f l) refl
  where
    by : (t : Bool) → too_far f l ≡ t → t ≡ false
    by true e = absurd (too_far_clash f l e h)
    by false e = refl

-- a coordinate beyond the wheelbase is too far
pub outside_far : (f : Vec2) (l : ℤ) → Wheelbase l → in_box f l ≡ false → too_far f l ≡ true
outside_far f l w e = by (too_far f l) refl
  where
    by : (t : Bool) → too_far f l ≡ t → t ≡ true
    by true h = refl
    by false h = sym e ∙ short_in_box f l (wheelbase_nominal w) (move_short w f (move_of_lem f l h))

-- the tests of a turn, passed
pub turnable_of : (d f : Vec2) (l : ℤ) → Wheelbase l → has_length d l ≡ true → too_far f l ≡ false → Turnable d f l
turnable_of d f l w n m = record { wheelbase = w; near = near_of d l n; move = move_of_lem f l m }

-- the answers of the entry, test by test
module _ (d f : Vec2) (l : ℕ) where
  pub refused_wheelbase : is_wheelbase l ≡ false → unit_turn d f l ≡ refused 27
  unfolding unit_turn
  refused_wheelbase w = rw w

  pub refused_length : has_length d (pos l) ≡ false → is_wheelbase l ≡ true → unit_turn d f l ≡ refused 27
  unfolding unit_turn
  refused_length n w = rw (w, n)

  pub refused_far : too_far f (pos l) ≡ true → is_wheelbase l ≡ true → has_length d (pos l) ≡ true → unit_turn d f l ≡ refused 22
  unfolding unit_turn
  refused_far m w n = rw (w, n, m)

  pub accepted : too_far f (pos l) ≡ false → is_wheelbase l ≡ true → has_length d (pos l) ≡ true → unit_turn d f l ≡ answered (turned_by d f (pos l))
  unfolding unit_turn
  accepted m w n = rw (w, n, m)
