-- Laws of `groups`: its cases as equations, and the bound on what it comes to. Assumes nothing.
use Prim.Native.Nat.{ℕ, zero, suc, ◌+◌, ◌-◌, ◌*◌, ◌^◌, ◌%◌, ◌<◌, ◌≤◌}
use mathlib.Core.Path.{◌≡◌, refl}
use mathlib.Core.List.{List}
use mathlib.Core.Bool.{Bool, true, false}
use native.Mathlib.Omega.{arith}
use native.Mathlib.Nat.{pow-suc, pow-le-pow_right}
use lib.ListN.{length, get_or}
use lib.Dec.{ltb}
use borrow.Author.Tests.{lt-ltb, le-ltb, ltb-true}
use Rattle.number.specs.Read.{Read, got, refused, pick}
use Rattle.number.specs.Number.{onto, groups}

-- a pick by the outcome of its test
pub pick_by : {A : Type 0} (P : A → Type 0) (b : Bool) {x y : A} → (b ≡ true → P x) → (b ≡ false → P y) → P (pick b x y)
pick_by P true f g = f refl
pick_by P false f g = g refl

module _ (from : ℕ) where
  pub at_none : (s : List ℕ) (at : ℕ) → groups from 0 s at ≡ refused 2 from
  unfolding groups
  at_none s at = refl

  pub at_end : (k : ℕ) (s : List ℕ) (at : ℕ) → (k ≡ 0 → ⊥) → length s ≤ at → groups from k s at ≡ refused 1 from
  unfolding groups
  at_end zero s at p h = absurd (p refl)
  at_end (suc k) s at p h = simp (le-ltb _ _ h)

  pub at_last_lem : (k : ℕ) (s : List ℕ) (at : ℕ) → (k ≡ 0 → ⊥) → at < length s → get_or s at 0 < 128 → groups from k s at ≡ got (get_or s at 0) (at + 1)
  unfolding groups
  at_last_lem zero s at p h l = absurd (p refl)
  at_last_lem (suc k) s at p h l = simp (lt-ltb _ _ h, lt-ltb _ _ l)

  -- where r is the run after the first group
  pub at_more : (k : ℕ) (s : List ℕ) (at : ℕ) {r : Read ℕ} → (k ≡ 0 → ⊥) → at < length s → 128 ≤ get_or s at 0 → r ≡ groups from (k - 1) s (at + 1) → groups from k s at ≡ onto from (get_or s at 0 % 128) r
  unfolding groups
  at_more zero s at p h l e = absurd (p refl)
  at_more (suc k) s at p h l e =
      let f : suc k - 1 ≡ k = omega arith in
      simp (lt-ltb _ _ h, le-ltb _ _ l, e, f)

  pub onto_pos : (g v e : ℕ) → (v ≡ 0 → ⊥) → onto from g (got v e) ≡ got (g + 128 * v) e
  onto_pos g zero e n = absurd (n refl)
  onto_pos g (suc v) e n = refl

  pub onto_zero : (g v e : ℕ) → v ≡ 0 → onto from g (got v e) ≡ refused 2 from
  onto_zero g zero e n = refl
  onto_zero g (suc v) e n = absurd (omega arith)

-- what was read is below n
abbrev pub Below : ℕ → Read ℕ → Type 0
Below n (got v e) = v < n
Below n (refused m p) = Unit {0}

Below-le : (m n : ℕ) (r : Read ℕ) → m ≤ n → Below m r → Below n r
Below-le m n (got v e) h p = omega arith
Below-le m n (refused x y) h p = tt

onto_below : (from g n : ℕ) (r : Read ℕ) → g < 128 → Below n r → Below (n * 128) (onto from g r)
onto_below from g n (refused m q) p h = tt
onto_below from g n (got zero e) p h = tt
onto_below from g n (got (suc v) e) p h = omega arith

pub below : (from k : ℕ) (s : List ℕ) (at : ℕ) → Below (128 ^ k) (groups from k s at)
unfolding groups
below from zero s at = tt
below from (suc k) s at =
    pick_by (Below (128 ^ suc k)) (ltb at (length s))
    (λ h. pick_by (Below (128 ^ suc k)) (ltb (get_or s at 0) 128)
    (λ l. let p : 128 ^ 1 ≤ 128 ^ suc k = pow-le-pow_right {n = 128} (omega arith) {i = 1} {j = suc k} (omega arith) in omega (arith, ltb-true (get_or s at 0) 128 l))
    (λ l. rw pow-suc (onto_below from (get_or s at 0 % 128) (128 ^ k) (groups from k s (at + 1)) (omega arith) (below from k s (at + 1)))))
    (λ h. tt)

pub below_5 : (from k : ℕ) (s : List ℕ) (at : ℕ) → k ≤ 5 → Below (2 ^ 35) (groups from k s at)
below_5 from k s at h = Below-le (128 ^ k) (2 ^ 35) (groups from k s at) (pow-le-pow_right {n = 128} (omega arith) {j = 5} h) (below from k s at)
