-- The settings of a rail that is allowed: each is a wheelbase, each next one is longer, and so the first and the last tell of all.
use Prim.Native.Nat.{ℕ, zero, suc, ◌-◌, ◌≤◌, ◌<◌}
use mathlib.Core.Path.{◌≡◌, refl, sym, ◌∙◌, ap, subst⁻¹}
use mathlib.Core.Logic.{⊎_elim}
use mathlib.Core.Bool.{Bool, true, false, ◌&&◌, ◌||◌}
use native.Mathlib.Omega.{arith}
use native.Mathlib.Nat.{eq-or-lt_of_le, mul-lt-mul_of_pos_right, mul-le-mul_right}
use borrow.Author.Tests.{leb-true, le-leb}
use lib.Dec.{leb, eqb, ltb}
use Rattle.std.proofs.lemmas.Bool.{and_parts, and_from}
use Rattle.std.proofs.lemmas.Bool.Decides.{nat_tests}
use Rattle.job.specs.Allowed.{between, wheelbase_allowed}
use Rattle.bogie.specs.declared.Rail.{Rail}
use Rattle.bogie.specs.Settings.{setting_at, settings_allowed, rail_allowed}
use Rattle.bogie.specs.Best.{InLimits}

pub setting_allowed : (b : Rail) (n i : ℕ) → settings_allowed b n ≡ true → i < n → wheelbase_allowed (setting_at b i) ≡ true
unfolding settings_allowed
setting_allowed b zero i h l = absurd (omega arith)
setting_allowed b (suc n) i h l =
    let k = and_parts (settings_allowed b n) (wheelbase_allowed (setting_at b n)) h in
    let m : i ≤ n = omega arith in
    ⊎_elim
    (λ e. subst⁻¹ (λ (x : ℕ). wheelbase_allowed (setting_at b x) ≡ true) e k.1)
    (λ e. setting_allowed b n i k.0 e)
    (eq-or-lt_of_le m)

-- a rail that the test lets pass is in its limits
pub in_limits : (b : Rail) → rail_allowed b ≡ true → InLimits b
unfolding rail_allowed
in_limits b h =
    let p = and_parts (leb 1 b.pitch) (between 1 32 b.number && settings_allowed b b.number) h in
    let n = and_parts (between 1 32 b.number) (settings_allowed b b.number) p.1 in
    let k = and_parts (leb 1 b.number) (leb b.number 32) n.0 in
    record {
      pitch = leb-true 1 b.pitch p.0;
      least = leb-true 1 b.number k.0;
      most = leb-true b.number 32 k.1;
      settings = λ i l.
          let w = and_parts (leb 5000 (setting_at b i)) (leb (setting_at b i) 200000) (setting_allowed b b.number i n.1 l) in
          (leb-true 5000 (setting_at b i) w.0, leb-true (setting_at b i) 200000 w.1);
    }

pub wheelbase_at : (b : Rail) → InLimits b → (i : ℕ) → i < b.number → wheelbase_allowed (setting_at b i) ≡ true
wheelbase_at b h i l = let k = h.settings i l in and_from _ _ (le-leb 5000 (setting_at b i) k.0) (le-leb (setting_at b i) 200000 k.1)

-- and the other way round
all_at : (b : Rail) (n : ℕ) → ((i : ℕ) → i < n → wheelbase_allowed (setting_at b i) ≡ true) → settings_allowed b n ≡ true
unfolding settings_allowed
all_at b zero h = refl
all_at b (suc n) h = and_from _ _ (all_at b n (λ i l. h i (omega arith))) (h n (omega arith))

pub limits_pass : (b : Rail) → InLimits b → rail_allowed b ≡ true
unfolding rail_allowed
limits_pass b h = and_from _ _ (le-leb 1 b.pitch h.pitch) (and_from _ _ (and_from _ _ (le-leb 1 b.number h.least) (le-leb b.number 32 h.most)) (all_at b b.number (wheelbase_at b h)))

pub setting_grows : (b : Rail) (i k : ℕ) → 1 ≤ b.pitch → i < k → setting_at b i < setting_at b k
setting_grows b i k p l = omega (arith, mul-lt-mul_of_pos_right {m = i} {n = k} {k = b.pitch} l p)

-- the test of the first and the last setting, as the settings only grow
same_truth : (a b : Bool) → (a ≡ true → b ≡ true) → (b ≡ true → a ≡ true) → a ≡ b
same_truth true b f g = sym (f refl)
same_truth false true f g = g refl
same_truth false false f g = refl

ends_test : (b : Rail) (n : ℕ) → 1 ≤ b.pitch → (leb 5000 b.lowest && leb (setting_at b n) 200000) ≡ settings_allowed b (suc n)
ends_test b n h =
    same_truth (leb 5000 b.lowest && leb (setting_at b n) 200000) (settings_allowed b (suc n))
    (λ t. let k = and_parts (leb 5000 b.lowest) (leb (setting_at b n) 200000) t in let low = leb-true 5000 b.lowest k.0 in let high = leb-true (setting_at b n) 200000 k.1 in
    all_at b (suc n) (λ i l. and_from _ _ (le-leb 5000 (setting_at b i) (omega arith)) (le-leb (setting_at b i) 200000 (omega (arith, mul-le-mul_right {m = i} {n = n} b.pitch (omega arith))))))
    (λ t.
    let first = and_parts (leb 5000 (setting_at b 0)) (leb (setting_at b 0) 200000) (setting_allowed b (suc n) 0 t (omega arith)) in
    let last = and_parts (leb 5000 (setting_at b n)) (leb (setting_at b n) 200000) (setting_allowed b (suc n) n t (omega arith)) in
    and_from _ _ (le-leb 5000 b.lowest (omega (arith, leb-true 5000 (setting_at b 0) first.0))) last.1)

-- the limits, as the program tests them
module _ (b : Rail) where
  abbrev outside : Bool
  outside = (eqb b.pitch 0 || eqb b.number 0) || ltb 32 b.number

  within_tests : outside ≡ false → (1 ≤ b.pitch) × ((1 ≤ b.number) × (b.number ≤ 32))
  within_tests h = (grind (arith, nat_tests), (grind (arith, nat_tests), grind (arith, nat_tests)))

  limits_inside : InLimits b → outside ≡ false
  limits_inside k =
      let p : 1 ≤ b.pitch = k.pitch in
      let l : 1 ≤ b.number = k.least in
      let m : b.number ≤ 32 = k.most in
      grind (arith, nat_tests)

  pub outside_test : outside ≡ true → false ≡ rail_allowed b
  outside_test h = by (rail_allowed b) refl
    where
      by : (t : Bool) → rail_allowed b ≡ t → false ≡ t
      by true e = sym (limits_inside (in_limits b e)) ∙ h
      by false e = refl

  pub inside_test : outside ≡ false → (leb 5000 b.lowest && leb (setting_at b (b.number - 1)) 200000) ≡ rail_allowed b
  unfolding rail_allowed
  inside_test h =
      let k = within_tests h in
      let a = le-leb 1 b.pitch k.0 in
      let c = le-leb 1 b.number k.1.0 in
      let d = le-leb b.number 32 k.1.1 in
      let e : suc (b.number - 1) ≡ b.number = omega (arith, k.1.0) in
      ends_test b (b.number - 1) k.0 ∙ rw (a, c, d) (ap (settings_allowed b) e)
