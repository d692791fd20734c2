-- The sizes of a unit's vector and of its front point's move: no coordinate is larger than the wheelbase. What the functions ask follows.
use mathlib.Core.List.{List, [], ◌∷◌}
use lib.Dec.{lit≤}
use lib.IntN.{ℤ, pos, neg_ℤ, ◌+ℤ◌, ◌*ℤ◌}
use lib.Signed.{◌≤ℤ◌, ≤ℤ_refl}
use Rattle.exact.specs.Size.{Within}
use Rattle.exact.specs.Nearest.{Divisor}
use Rattle.exact.proofs.Polynomial.{◌⊕◌, ◌⊗◌, neg, lit, var}
use Rattle.exact.proofs.Order.{pos-≤}
use Rattle.exact.proofs.Certificate.{◌⊞◌, ◌·◌, num, hyp, le}
use Rattle.exact.proofs.Sizes.{within, within_more, within_mul}
use Rattle.plane.specs.declared.Vec2.{Vec2}
use Rattle.plane.specs.Vector.{norm_sq, BothModerate, Scalable}
use Rattle.plane.specs.Length.{heading_length, Near}
use Rattle.plane.proofs.Lengths.{coordinates}
use Rattle.unit.specs.Turn.{Wheelbase, Placeable, Turnable, UnitSized, Mirrorable}
use Rattle.unit.specs.Coupling.{Hitched, Coupled}
use Rattle.unit.proofs.Turning.{line_positive}

-- a wheelbase, and whatever is no larger
module _ {l : ℤ} (w : Wheelbase l) where
  pub wheelbase_positive : pos 1 ≤ℤ l
  wheelbase_positive = le {ρ = l ∷ []} (lit 1) (var 0) (hyp (lit 5000) (var 0) w.least ⊞ num 4999) tt

  wheelbase_nonneg : pos 0 ≤ℤ l
  wheelbase_nonneg = le {ρ = l ∷ []} (lit 0) (var 0) (hyp (lit 5000) (var 0) w.least ⊞ num 5000) tt

  pub within_wheelbase : {x : ℤ} → neg_ℤ l ≤ℤ x → x ≤ℤ l → Within 200000 x
  within_wheelbase {x} low high =
      let ρ : List ℤ = x ∷ l ∷ [] in
      let most = hyp {ρ = ρ} (var 1) (lit 200000) w.most in
      within (le {ρ = ρ} (neg (lit 200000)) (var 0) (hyp (neg (var 1)) (var 0) low ⊞ most) tt) (le {ρ = ρ} (var 0) (lit 200000) (hyp (var 0) (var 1) high ⊞ most) tt)

  pub wheelbase_sized : Within 200000 l
  wheelbase_sized =
      within_wheelbase
      (le {ρ = l ∷ []} (neg (var 0)) (var 0) (2 · hyp (lit 0) (var 0) wheelbase_nonneg) tt)
      (≤ℤ_refl l)

  short_sized : (v : Vec2) → norm_sq v ≤ℤ (l *ℤ l +ℤ pos 2 *ℤ l) → UnitSized v
  short_sized v h =
      let s = coordinates v.x v.y l wheelbase_nonneg h in
      record { x = within_wheelbase s.0 s.1; y = within_wheelbase s.2 s.3 }

  -- the vector of a unit
  pub near_coordinates : {d : Vec2} → Near d l (pos 2 *ℤ l) → (neg_ℤ l ≤ℤ d.x) × (d.x ≤ℤ l) × (neg_ℤ l ≤ℤ d.y) × (d.y ≤ℤ l)
  near_coordinates {d} n = coordinates d.x d.y l wheelbase_nonneg n.high

  pub near_sized : {d : Vec2} → Near d l (pos 2 *ℤ l) → UnitSized d
  near_sized {d} n = short_sized d n.high

  -- the move of its front point
  pub move_short : (f : Vec2) → norm_sq f ≤ℤ (l *ℤ l) → norm_sq f ≤ℤ (l *ℤ l +ℤ pos 2 *ℤ l)
  move_short f h =
      let ρ : List ℤ = norm_sq f ∷ l ∷ [] in
      le {ρ = ρ} (var 0) (var 1 ⊗ var 1 ⊕ lit 2 ⊗ var 1) (hyp (var 0) (var 1 ⊗ var 1) h ⊞ 2 · hyp (lit 0) (var 1) wheelbase_nonneg) tt

  pub move_sized : (f : Vec2) → norm_sq f ≤ℤ (l *ℤ l) → UnitSized f
  move_sized f h = short_sized f (move_short f h)

  -- its hitch
  pub near_hitched : {d : Vec2} {h : ℤ} → Near d l (pos 2 *ℤ l) → neg_ℤ l ≤ℤ h → h ≤ℤ l → Hitched d h l
  near_hitched n low high = record { vector = near_sized n; hitch = within_wheelbase low high; wheelbase = record { positive = wheelbase_positive } }

-- two units that are coupled
pub near_coupled : {a d : Vec2} {limit la ld : ℤ} → Wheelbase la → Wheelbase ld → Near a la (pos 2 *ℤ la) → Near d ld (pos 2 *ℤ ld) → Within 1000 limit → Coupled a d limit la ld
near_coupled wa wd na nd s =
    record { ahead = near_sized wa na; behind = near_sized wd nd; fold_limit = s; wheelbase_ahead = wheelbase_sized wa; wheelbase_behind = wheelbase_sized wd }

pub turnable_mirrorable : (d f : Vec2) (l : ℤ) → Turnable d f l → Mirrorable d f
turnable_mirrorable d f l t =
    record { vector = near_sized t.wheelbase t.near; move = move_sized t.wheelbase f t.move; line = line_positive d f l t }

-- what the multiples of vectors ask: coordinates up to a heading's, and a factor up to the greatest wheelbase
multiple : {v : Vec2} {n q : ℤ} → Within 1000000 v.x → Within 1000000 v.y → Within 200000 n → Divisor q → Scalable v n q
multiple x y n q = record { x = within_more (lit≤ tt) (within_mul x n); y = within_more (lit≤ tt) (within_mul y n); divisor = q }

pub hitched_scalable : {d : Vec2} {h l : ℤ} → Hitched d h l → Scalable d h l
hitched_scalable p = multiple (within_more (lit≤ tt) p.vector.x) (within_more (lit≤ tt) p.vector.y) p.hitch p.wheelbase

pub placeable_scalable : {g : Vec2} {l : ℤ} → Placeable g l → Scalable g l heading_length
placeable_scalable {g} {l} p =
    let s = coordinates g.x g.y heading_length (pos-≤ (lit≤ tt)) p.heading.high in
    multiple (within s.0 s.1) (within s.2 s.3) (wheelbase_sized p.wheelbase) (record { positive = pos-≤ (lit≤ tt) })

-- what the dot product of a unit's vector or move asks
pub sized_moderate : {a d : Vec2} → UnitSized a → UnitSized d → BothModerate a d
sized_moderate a d =
    record {
      first = record { x = within_more (lit≤ tt) a.x; y = within_more (lit≤ tt) a.y };
      second = record { x = within_more (lit≤ tt) d.x; y = within_more (lit≤ tt) d.y };
    }
