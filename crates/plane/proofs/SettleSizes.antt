-- The sizes of what `settle` computes, by what it asks.
use mathlib.Core.List.{List, [], ◌∷◌}
use lib.Dec.{lit≤}
use lib.IntN.{ℤ, pos, ◌-ℤ◌, ◌*ℤ◌}
use lib.Signed.{◌≤ℤ◌}
use Rattle.exact.proofs.Polynomial.{◌⊕◌, ◌⊖◌, ◌⊗◌, lit, var}
use Rattle.exact.proofs.Certificate.{◌⊞◌, ◌⊠◌, ◌·◌, num, hyp, le}
use Rattle.exact.proofs.Sizes.{within_first, within_second, within_add, within_mul, within_more}
use Rattle.exact.proofs.Machine.{Bounded, none, ◌∷ᵇ◌, within_size_of}
use Rattle.plane.specs.declared.Vec2.{Vec2}
use Rattle.exact.specs.Size.{Within}
use Rattle.plane.specs.Vector.{norm_sq, Moderate, BothModerate, Scalable}
use Rattle.plane.proofs.Lengths.{nominal_within}
use Rattle.plane.specs.Settle.{Settleable}

-- 2K² is a divisor
pub twice_square_positive : (k : ℤ) → pos 5000 ≤ℤ k → pos 1 ≤ℤ (pos 2 *ℤ (k *ℤ k))
twice_square_positive k h =
    let u = hyp {ρ = k ∷ []} (lit 5000) (var 0) h in
    le {ρ = k ∷ []} (lit 1) (lit 2 ⊗ (var 0 ⊗ var 0)) (2 · (u ⊠ u) ⊞ 20000 · u ⊞ num 49999999) tt

module _ {v : Vec2} {k : ℤ} (s : Settleable v k) where
  abbrev ρ : List ℤ
  ρ = norm_sq v ∷ k ∷ []

  -- |v|² ≤ K² + 4K ≤ 1,000,002²
  norm-≤ : norm_sq v ≤ℤ (pos 1000002 *ℤ pos 1000002)
  norm-≤ =
      let least = hyp {ρ = ρ} (lit 5000) (var 1) s.nominal.least in
      let most = hyp {ρ = ρ} (var 1) (lit 1000000) s.nominal.most in
      le {ρ = ρ} (var 0) (lit 1000002 ⊗ lit 1000002)
      (hyp (var 0) (var 1 ⊗ var 1 ⊕ lit 4 ⊗ var 1) s.near.high ⊞ most ⊠ (least ⊞ num 1005004) ⊞ num 4) tt

  within_x : Within 1000002 v.x
  within_x = within_first 1000002 v.x v.y norm-≤

  within_y : Within 1000002 v.y
  within_y = within_second 1000002 v.x v.y norm-≤

  -- x, y, K and |v|²
  pub settle_bounds : Bounded (1000002 ∷ 1000002 ∷ 1000000 ∷ 2000008000008 ∷ []) (v.x ∷ v.y ∷ k ∷ norm_sq v ∷ [])
  settle_bounds =
      within_x
      ∷ᵇ within_y
      ∷ᵇ nominal_within s.nominal
      ∷ᵇ within_add (within_mul within_x within_x) (within_mul within_y within_y)
      ∷ᵇ none

  pub settle_moderate : BothModerate v v
  settle_moderate =
      let m : Moderate v = record { x = within_more (lit≤ tt) within_x; y = within_more (lit≤ tt) within_y } in
      record { first = m; second = m }

  pub settle_scalable : Scalable v (pos 3 *ℤ (k *ℤ k) -ℤ norm_sq v) (pos 2 *ℤ (k *ℤ k))
  settle_scalable =
      let factor = lit 3 ⊗ (var 2 ⊗ var 2) ⊖ var 3 in
      record {
        x = within_more (lit≤ tt) (within_size_of settle_bounds (var 0 ⊗ factor));
        y = within_more (lit≤ tt) (within_size_of settle_bounds (var 1 ⊗ factor));
        divisor = record { positive = twice_square_positive k s.nominal.least };
      }
