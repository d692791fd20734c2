-- Division to the nearest whole number, halves away from zero (01, "Ticks, axes and rounding").
use Rattle.std.specs.Prelude.{◌≡◌, cond, ℕ, suc, ◌+◌, ◌*◌, ◌/◌, ◌%◌, ◌≤◌, ltb, ℤ, pos, negsuc, neg_ℤ, nat_abs, ◌-ℤ◌, ◌*ℤ◌, ◌≤ℤ◌}

-- where a half goes, of the two numbers q and q + 1 that are as near
unfoldable pub half_to : ℕ → ℕ
half_to q = q + 1

-- a / d, by its whole part and what is left over: less than half of d, more than half, or a half
unfoldable pub nearest_size : ℕ → ℕ → ℕ
nearest_size a d = cond (ltb (2 * (a % d)) d) (a / d) (cond (ltb d (2 * (a % d))) (a / d + 1) (half_to (a / d)))

-- n / d: the size is rounded and the sign put back, so a half goes away from zero
unfoldable pub nearest_z : ℤ → ℤ → ℤ
nearest_z (pos a) d = pos (nearest_size a (nat_abs d))
nearest_z (negsuc a) d = neg_ℤ (pos (nearest_size (suc a) (nat_abs d)))

-- what a division asks
pub record Divisor (d : ℤ) : Type 0 where
  pub positive : pos 1 ≤ℤ d

-- what the paper's sentence says of q: no whole number is nearer to n / d, and none that is as near is farther from zero
pub record IsNearest (n d q : ℤ) : Type 0 where
  pub nearest : (p : ℤ) → nat_abs (d *ℤ q -ℤ n) ≤ nat_abs (d *ℤ p -ℤ n)
  pub away : (p : ℤ) → nat_abs (d *ℤ p -ℤ n) ≡ nat_abs (d *ℤ q -ℤ n) → nat_abs p ≤ nat_abs q

-- the claim: the definition keeps the sentence
abbrev pub NearestRule : Type 0
NearestRule = (n d : ℤ) → Divisor d → IsNearest n d (nearest_z n d)
