-- What a length says of the coordinates, and the length test as the two orders that it decides.
use mathlib.Core.Path.{◌≡◌, refl, sym, ◌∙◌}
use mathlib.Core.List.{List, [], ◌∷◌}
use mathlib.Core.Bool.{Bool, true, false, ◌&&◌}
use Prim.Native.Nat.{ℕ, ◌*◌, ◌≤◌}
use native.Mathlib.Omega.{arith}
use lib.Dec.{T, leb, lit≤, le→leb, leb→le}
use lib.IntN.{ℤ, pos, negsuc, nat_abs, neg_ℤ, ◌+ℤ◌, ◌-ℤ◌, ◌*ℤ◌}
use lib.Signed.{◌≤ℤ◌, le_z}
use Rattle.std.proofs.lemmas.Bool.{and_from}
use Rattle.exact.specs.Size.{Within}
use Rattle.exact.proofs.Polynomial.{◌⊕◌, ◌⊖◌, ◌⊗◌, neg, lit, var, and_left, and_right}
use Rattle.exact.proofs.Order.{by_contradiction, of_true}
use Rattle.exact.proofs.Certificate.{◌⊞◌, ◌⊠◌, ◌·◌, num, sq, hyp, le, never}
use Rattle.exact.proofs.Sizes.{within, within_more, ≤-size, ≥-size}
use Rattle.plane.specs.declared.Vec2.{Vec2}
use Rattle.plane.specs.Vector.{norm_sq, Moderate, BothModerate}
use Rattle.plane.specs.Length.{in_box, has_length, Near, Nominal}

-- a test that holds, and the record it decides
pub near_of : (v : Vec2) (k : ℤ) → has_length v k ≡ true → Near v k (pos 2 *ℤ k)
unfolding has_length
near_of v k e =
    let a = le_z (k *ℤ k -ℤ pos 2 *ℤ k) (norm_sq v) in
    let b = le_z (norm_sq v) (k *ℤ k +ℤ pos 2 *ℤ k) in
    let t : T (a && b) = of_true e in
    record { low = record { le = and_left a b t }; high = record { le = and_right a b t } }

pub is_true : {b : Bool} → T b → b ≡ true
is_true {b = true} t = refl
is_true {b = false} t = absurd t

pub of_near : (v : Vec2) (k : ℤ) → Near v k (pos 2 *ℤ k) → has_length v k ≡ true
unfolding has_length
of_near v k n = and_from (le_z (k *ℤ k -ℤ pos 2 *ℤ k) (norm_sq v)) (le_z (norm_sq v) (k *ℤ k +ℤ pos 2 *ℤ k)) (is_true n.low.le) (is_true n.high.le)

-- no coordinate is larger than K: x² ≤ K² + 2K < (K + 1)²
coordinate-≤ : (x y k : ℤ) → pos 0 ≤ℤ k → (x *ℤ x +ℤ y *ℤ y) ≤ℤ (k *ℤ k +ℤ pos 2 *ℤ k) → x ≤ℤ k
coordinate-≤ x y k k0 h = by_contradiction (λ g.
    let ρ : List ℤ = x ∷ y ∷ k ∷ [] in
    let H = hyp {ρ = ρ} (var 0 ⊗ var 0 ⊕ var 1 ⊗ var 1) (var 2 ⊗ var 2 ⊕ lit 2 ⊗ var 2) h in
    let G = hyp {ρ = ρ} (var 2 ⊕ lit 1) (var 0) g in
    let K = hyp {ρ = ρ} (lit 0) (var 2) k0 in
    never 0 (H ⊞ sq (var 1) ⊞ sq (var 0 ⊖ var 2 ⊖ lit 1) ⊞ 2 · ((K ⊞ num 1) ⊠ G)) tt)

-- both coordinates, from both sides
pub coordinates : (x y k : ℤ) → pos 0 ≤ℤ k → (x *ℤ x +ℤ y *ℤ y) ≤ℤ (k *ℤ k +ℤ pos 2 *ℤ k) → (neg_ℤ k ≤ℤ x) × (x ≤ℤ k) × (neg_ℤ k ≤ℤ y) × (y ≤ℤ k)
coordinates x y k k0 h = (below x y h, coordinate-≤ x y k k0 h, below y x (swapped h), coordinate-≤ y x k k0 (swapped h))
  where
    swapped : (x *ℤ x +ℤ y *ℤ y) ≤ℤ (k *ℤ k +ℤ pos 2 *ℤ k) → (y *ℤ y +ℤ x *ℤ x) ≤ℤ (k *ℤ k +ℤ pos 2 *ℤ k)
    swapped h = le {ρ = x ∷ y ∷ k ∷ []} (var 1 ⊗ var 1 ⊕ var 0 ⊗ var 0) (var 2 ⊗ var 2 ⊕ lit 2 ⊗ var 2) (hyp (var 0 ⊗ var 0 ⊕ var 1 ⊗ var 1) (var 2 ⊗ var 2 ⊕ lit 2 ⊗ var 2) h) tt

    below : (x y : ℤ) → (x *ℤ x +ℤ y *ℤ y) ≤ℤ (k *ℤ k +ℤ pos 2 *ℤ k) → neg_ℤ k ≤ℤ x
    below x y h =
        let ρ : List ℤ = x ∷ y ∷ k ∷ [] in
        let mirrored = le {ρ = ρ} (neg (var 0) ⊗ neg (var 0) ⊕ var 1 ⊗ var 1) (var 2 ⊗ var 2 ⊕ lit 2 ⊗ var 2) (hyp (var 0 ⊗ var 0 ⊕ var 1 ⊗ var 1) (var 2 ⊗ var 2 ⊕ lit 2 ⊗ var 2) h) tt in
        le {ρ = ρ} (neg (var 2)) (var 0) (hyp (neg (var 0)) (var 2) (coordinate-≤ (neg_ℤ x) y k k0 mirrored)) tt

-- the lengths in use are below 2^20
pub nominal_within : {k : ℤ} → Nominal k → Within 1000000 k
nominal_within {k} n = within (le {ρ = k ∷ []} (neg (lit 1000000)) (var 0) (hyp (lit 5000) (var 0) n.least ⊞ num 1005000) tt) n.most

-- a vector in the box has coordinates of a heading's size, and can be squared
pub box_within : (v : Vec2) (k : ℤ) → Nominal k → in_box v k ≡ true → Within 1000000 v.x × Within 1000000 v.y
unfolding in_box
box_within v k n e =
    let a = leb (nat_abs v.x) (nat_abs k) in
    let b = leb (nat_abs v.y) (nat_abs k) in
    let t : T (a && b) = of_true e in
    let s = (nominal_within n).size in (
      record { size = omega (arith, leb→le (nat_abs v.x) (nat_abs k) (and_left a b t), s) },
      record { size = omega (arith, leb→le (nat_abs v.y) (nat_abs k) (and_right a b t), s) },
    )

pub box_moderate : {v : Vec2} {k : ℤ} → Nominal k → in_box v k ≡ true → BothModerate v v
box_moderate {v} {k} n e =
    let b = box_within v k n e in
    let m : Moderate v = record { x = within_more (lit≤ tt) b.0; y = within_more (lit≤ tt) b.1 } in
    record { first = m; second = m }

within_self : (z k : ℤ) → pos 0 ≤ℤ k → neg_ℤ k ≤ℤ z → z ≤ℤ k → leb (nat_abs z) (nat_abs k) ≡ true
within_self z (pos k) p l h = is_true (le→leb (nat_abs z) k (within l h).size)
within_self z (negsuc k) p l h = absurd p.le

-- a short vector lies in the box
pub short_in_box : (v : Vec2) (k : ℤ) → Nominal k → norm_sq v ≤ℤ (k *ℤ k +ℤ pos 2 *ℤ k) → in_box v k ≡ true
unfolding in_box
short_in_box v k n h =
    let k0 = le {ρ = k ∷ []} (lit 0) (var 0) (hyp (lit 5000) (var 0) n.least ⊞ num 5000) tt in
    let s = coordinates v.x v.y k k0 h in
    and_from (leb (nat_abs v.x) (nat_abs k)) (leb (nat_abs v.y) (nat_abs k)) (within_self v.x k k0 s.0 s.1) (within_self v.y k k0 s.2 s.3)

pub outside_box : (v : Vec2) (k : ℤ) → Nominal k → in_box v k ≡ false → has_length v k ≡ false
outside_box v k n e = by (has_length v k) refl
  where
    by : (t : Bool) → has_length v k ≡ t → t ≡ false
    by true h = sym (short_in_box v k n (near_of v k h).high) ∙ e
    by false h = refl

-- "differs by at most m" as a size and as two orders
module _ (n s : ℤ) (m : ℕ) where
  abbrev orders : Bool
  orders = le_z (s -ℤ pos m) n && le_z n (s +ℤ pos m)

  to_orders : nat_abs (n -ℤ s) ≤ m → orders ≡ true
  to_orders h =
      let ρ : List ℤ = n ∷ s ∷ pos m ∷ [] in
      let w : Within m (n -ℤ s) = record { size = h } in
      let low = le {ρ = ρ} (var 1 ⊖ var 2) (var 0) (hyp (neg (var 2)) (var 0 ⊖ var 1) (≥-size w)) tt in
      let high = le {ρ = ρ} (var 0) (var 1 ⊕ var 2) (hyp (var 0 ⊖ var 1) (var 2) (≤-size w)) tt in
      and_from (le_z (s -ℤ pos m) n) (le_z n (s +ℤ pos m)) (is_true low.le) (is_true high.le)

  to_size : orders ≡ true → nat_abs (n -ℤ s) ≤ m
  to_size e =
      let ρ : List ℤ = n ∷ s ∷ pos m ∷ [] in
      let a = le_z (s -ℤ pos m) n in
      let b = le_z n (s +ℤ pos m) in
      let t : T (a && b) = of_true e in
      let l = hyp {ρ = ρ} (var 1 ⊖ var 2) (var 0) (record { le = and_left a b t }) in
      let h = hyp {ρ = ρ} (var 0) (var 1 ⊕ var 2) (record { le = and_right a b t }) in
      (within (le {ρ = ρ} (neg (var 2)) (var 0 ⊖ var 1) l tt) (le {ρ = ρ} (var 0 ⊖ var 1) (var 2) h tt)).size

  pub difference : leb (nat_abs (n -ℤ s)) m ≡ orders
  difference = by (leb (nat_abs (n -ℤ s)) m) orders refl refl
    where
      by : (a b : Bool) → leb (nat_abs (n -ℤ s)) m ≡ a → orders ≡ b → a ≡ b
      by true b p q = sym (to_orders (leb→le (nat_abs (n -ℤ s)) m (of_true p))) ∙ q
      by false true p q = sym p ∙ is_true (le→leb (nat_abs (n -ℤ s)) m (to_size q))
      by false false p q = refl

-- the length test as the code has it
pub length_by_difference : (v : Vec2) (k : ℤ) → Nominal k → leb (nat_abs (norm_sq v -ℤ k *ℤ k)) (2 * nat_abs k) ≡ has_length v k
unfolding has_length
length_by_difference v (pos k) n = difference (norm_sq v) (pos k *ℤ pos k) (2 * k)
length_by_difference v (negsuc k) n = absurd n.least.le
