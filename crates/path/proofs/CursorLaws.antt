-- The length of a cursor's next step, and what the step asks.
use mathlib.Core.Path.{◌≡◌, refl}
use mathlib.Core.Bool.{Bool, true, false}
use Prim.Native.Nat.{ℕ, ◌+◌, ◌-◌, ◌≤◌, ◌<◌, min}
use native.Mathlib.Omega.{arith}
use borrow.Author.Tests.{leb-true, leb-false, lt-ltb, le-ltb}
use lib.Dec.{leb, ltb}
use Rattle.number.specs.Read.{pick}
use Rattle.job.specs.declared.Element.{Element}
use Rattle.path.specs.declared.PathCursor.{PathCursor}
use Rattle.path.specs.Cursor.{least_of, step_length, Reachable, OnElement}

-- no more than either, and one of them
pub least_of_lem : (a b : ℕ) → (least_of a b ≤ a) × (least_of a b ≤ b) × (1 ≤ a → 1 ≤ b → 1 ≤ least_of a b)
least_of_lem a b = by (leb a b) refl
  where
    by : (t : Bool) → leb a b ≡ t → (pick t a b ≤ a) × (pick t a b ≤ b) × (1 ≤ a → 1 ≤ b → 1 ≤ pick t a b)
    by true e = (omega arith, leb-true a b e, λ p q. p)
    by false e = (omega (arith, leb-false a b e), omega arith, λ p q. q)

-- the library's lesser of two
pub least_is : (a b : ℕ) → min a b ≡ least_of a b
least_is a b = by (leb a b) refl
  where
    by : (t : Bool) → leb a b ≡ t → min a b ≡ pick t a b
    by true e = omega (arith, leb-true a b e)
    by false e = omega (arith, leb-false a b e)

-- whether any ticks of an element are left
module _ (behind length : ℕ) where
  pub ticks_left_lem : 0 < length - behind → ltb behind length ≡ true
  ticks_left_lem h = lt-ltb behind length (omega arith)

  pub none_left : length - behind ≤ 0 → ltb behind length ≡ false
  none_left h = le-ltb behind length (omega arith)

module _ (step : ℕ) (e : Element) (c : PathCursor) (t : OnElement step e c) where
  pub step_length_lem : (1 ≤ step_length e.length c.before step) × (step_length e.length c.before step ≤ step) × (c.before + step_length e.length c.before step ≤ e.length)
  step_length_lem =
      let l = least_of_lem step (e.length - c.before) in
      (l.2 t.least (omega (arith, t.inside)), l.0, omega (arith, l.1, t.inside))

  pub reachable : Reachable c.station e.curve (step_length e.length c.before step)
  reachable = record { place = t.place; heading = t.heading; curve = t.curve; least = step_length_lem.0; most = omega (arith, step_length_lem.1, t.most) }
