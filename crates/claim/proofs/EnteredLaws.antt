-- The least and the greatest of a list from a number on: what each of them is.
use mathlib.Core.Path.{◌≡◌, refl, sym, ◌∙◌, subst}
use mathlib.Core.List.Memᴰ
use mathlib.Core.List.{List, [], ◌∷◌, Memᴰ}
use mathlib.Core.Logic.{◌⊎◌, inl, inr, ⊎_elim}
use lib.IntN.{ℤ}
use lib.Signed.{◌≤ℤ◌, ◌<ℤ◌, ≤ℤ_refl, clash_ℤ}
use Rattle.exact.proofs.Order.{≤ℤ-trans}
use Rattle.reaches.specs.Crossing.{smaller, greater}
use Rattle.reaches.proofs.LeastGreatest.{sorted}
use Rattle.claim.specs.StationHistory.{least_of, greatest_of, Extremes}

module _ (R : ℤ → ℤ → Type 0) (op : ℤ → ℤ → ℤ) (of : ℤ → List ℤ → ℤ)
    (none : (l : ℤ) → of l [] ≡ l) (more : (l z : ℤ) (zs : List ℤ) → of l (z ∷ zs) ≡ of (op l z) zs)
    (same : (a : ℤ) → R a a) (trans : (a b c : ℤ) → R a b → R b c → R a c)
    (first : (a b : ℤ) → R (op a b) a) (second : (a b : ℤ) → R (op a b) b) (either : (a b : ℤ) → (op a b ≡ a) ⊎ (op a b ≡ b)) where
  to_start : (l : ℤ) (zs : List ℤ) → R (of l zs) l
  to_start l [] = subst (λ (x : ℤ). R x l) (sym (none l)) (same l)
  to_start l (z ∷ zs) = subst (λ (x : ℤ). R x l) (sym (more l z zs)) (trans _ (op l z) l (to_start (op l z) zs) (first l z))

  to_each : (l : ℤ) (zs : List ℤ) (x : ℤ) → Memᴰ x zs → R (of l zs) x
  to_each l [] x m = absurd (Memᴰ.not-nil m)
  to_each l (z ∷ zs) x m =
      subst (λ (y : ℤ). R y x) (sym (more l z zs))
      (⊎_elim (λ (e : x ≡ z). trans _ (op l z) x (to_start (op l z) zs) (subst (λ (y : ℤ). R (op l z) y) (sym e) (second l z))) (λ (k : Memᴰ x zs). to_each (op l z) zs x k) (Memᴰ.cases_cons m))

  -- it is the number at the start, or one of the list
  one_of : (l : ℤ) (zs : List ℤ) → (of l zs ≡ l) ⊎ Memᴰ (of l zs) zs
  one_of l [] = inl (none l)
  one_of l (z ∷ zs) = by (one_of (op l z) zs) (either l z)
    where
      by : (of (op l z) zs ≡ op l z) ⊎ Memᴰ (of (op l z) zs) zs → (op l z ≡ l) ⊎ (op l z ≡ z) → (of l (z ∷ zs) ≡ l) ⊎ Memᴰ (of l (z ∷ zs)) (z ∷ zs)
      by (inl e) (inl f) = inl (more l z zs ∙ e ∙ f)
      by (inl e) (inr f) = inr (Memᴰ.head (more l z zs ∙ e ∙ f))
      by (inr m) f = inr (Memᴰ.tail (subst (λ (y : ℤ). Memᴰ y zs) (sym (more l z zs)) m))

  -- one of the list, where some number of it lies before the start
  pub one_of_list : (l : ℤ) (zs : List ℤ) (x : ℤ) → Memᴰ x zs → (R l x → ⊥) → Memᴰ (of l zs) zs
  one_of_list l zs x m far = ⊎_elim (λ (e : of l zs ≡ l). absurd (far (subst (λ (y : ℤ). R y x) e (to_each l zs x m)))) (λ (k : Memᴰ (of l zs) zs). k) (one_of l zs)

smaller_either : (a b : ℤ) → (smaller a b ≡ a) ⊎ (smaller a b ≡ b)
smaller_either a b = ⊎_elim (λ p. inl p.0) (λ p. inr p.0) (sorted a b).either

greater_either : (a b : ℤ) → (greater a b ≡ a) ⊎ (greater a b ≡ b)
greater_either a b = ⊎_elim (λ p. inr p.1) (λ p. inl p.1) (sorted a b).either

-- numbers of which one lies strictly between the two at the start
pub extremes : (l r : ℤ) (zs : List ℤ) (x : ℤ) → Memᴰ x zs → x <ℤ l → r <ℤ x → Extremes zs (least_of l zs) (greatest_of r zs)
unfolding least_of greatest_of
extremes l r zs x m a b =
    record {
      least = one_of_list (λ a b. a ≤ℤ b) smaller least_of (λ l. refl) (λ l z zs. refl) ≤ℤ_refl (λ a b c h k. ≤ℤ-trans h k) (λ a b. (sorted a b).least_first) (λ a b. (sorted a b).least_second) smaller_either l zs x m (λ h. clash_ℤ a h);
      none_less = to_each (λ a b. a ≤ℤ b) smaller least_of (λ l. refl) (λ l z zs. refl) ≤ℤ_refl (λ a b c h k. ≤ℤ-trans h k) (λ a b. (sorted a b).least_first) (λ a b. (sorted a b).least_second) smaller_either l zs;
      greatest = one_of_list (λ a b. b ≤ℤ a) greater greatest_of (λ l. refl) (λ l z zs. refl) ≤ℤ_refl (λ a b c h k. ≤ℤ-trans k h) (λ a b. (sorted a b).most_first) (λ a b. (sorted a b).most_second) greater_either r zs x m (λ h. clash_ℤ b h);
      none_greater = to_each (λ a b. b ≤ℤ a) greater greatest_of (λ l. refl) (λ l z zs. refl) ≤ℤ_refl (λ a b c h k. ≤ℤ-trans k h) (λ a b. (sorted a b).most_first) (λ a b. (sorted a b).most_second) greater_either r zs;
    }
