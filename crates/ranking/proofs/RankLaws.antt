-- Settings put in order: the same ones, each before all that follow, and the first three of them.
use Prim.Native.Nat.{ℕ, zero, suc}
use mathlib.Core.Path.{◌≡◌, refl, sym, ◌∙◌, ap, subst, subst⁻¹}
use native.Mathlib.Omega.{arith}
use mathlib.Core.Logic.{◌⊎◌, inl, inr, ⊎_elim}
use mathlib.Core.Bool.{Bool, true, false}
use mathlib.Core.List.{List, [], ◌∷◌}
use lib.ListN.{length, take, length-take}
use Rattle.number.specs.Read.{pick}
use Rattle.ranking.specs.declared.Setting.{Setting}
use Rattle.ranking.specs.Ranking.{refused}
use Rattle.ranking.specs.Ranking.{is_before, insert, ranked, listed_of, settings_in}
use Rattle.ranking.specs.Best.{Before, InOrder, Among, Apart, Distinct, BestThree}
use Rattle.ranking.proofs.OrderLaws.{Told, told, before_trans}

-- ---- the same settings

module _ (u s : Setting) where
  pub insert_from : (l : List Setting) → Among u (insert s l) → Among u (s ∷ l)
  unfolding insert
  insert_from [] m = m
  insert_from (t ∷ ts) m = by (is_before s t) (insert_from ts) m
    where
      by : (c : Bool) → (Among u (insert s ts) → Among u (s ∷ ts)) → Among u (pick c (s ∷ t ∷ ts) (t ∷ insert s ts)) → Among u (s ∷ t ∷ ts)
      by true more k = k
      by false more k = ⊎_elim (λ e. inr (inl e)) (λ n. ⊎_elim inl (λ i. inr (inr i)) (more n)) k

  pub insert_has : (l : List Setting) → Among u (s ∷ l) → Among u (insert s l)
  unfolding insert
  insert_has [] m = m
  insert_has (t ∷ ts) m = by (is_before s t) (insert_has ts)
    where
      by : (c : Bool) → (Among u (s ∷ ts) → Among u (insert s ts)) → Among u (pick c (s ∷ t ∷ ts) (t ∷ insert s ts))
      by true more = m
      by false more = ⊎_elim (λ e. inr (more (inl e))) (λ k. ⊎_elim inl (λ n. inr (more (inr n))) k) m

pub ranked_from : (u : Setting) (l : List Setting) → Among u (ranked l) → Among u l
unfolding ranked
ranked_from u [] m = m
ranked_from u (s ∷ l) m = ⊎_elim inl (λ k. inr (ranked_from u l k)) (insert_from u s (ranked l) m)

pub ranked_has : (u : Setting) (l : List Setting) → Among u l → Among u (ranked l)
unfolding ranked
ranked_has u [] m = m
ranked_has u (s ∷ l) m = insert_has u s (ranked l) (⊎_elim inl (λ k. inr (ranked_has u l k)) m)

-- ---- in order

abbrev pub Ahead : Setting → List Setting → Type 0
Ahead s l = (t : Setting) → Among t l → Before s t

abbrev pub Sorted : List Setting → Type 0
Sorted [] = Unit {0}
Sorted (s ∷ l) = Ahead s l × Sorted l

insert_sorted : (s : Setting) (l : List Setting) → Apart s l → Sorted l → Sorted (insert s l)
unfolding insert
insert_sorted s [] a h = (λ t m. absurd m, tt)
insert_sorted s (t ∷ ts) a h = by (is_before s t) (told s t) (insert_sorted s ts (λ u n. a u (inr n)) h.1)
  where
    by : (c : Bool) → Told s t c → Sorted (insert s ts) → Sorted (pick c (s ∷ t ∷ ts) (t ∷ insert s ts))
    by true k more = (λ u m. ⊎_elim (λ e. subst⁻¹ (Before s) e k) (λ n. before_trans s t u k (h.0 u n)) m, h)
    by false k more = (λ u m. ⊎_elim (λ e. subst⁻¹ (Before t) e (k (a t (inl refl)))) (h.0 u) (insert_from u s ts m), more)

pub ranked_sorted : (l : List Setting) → Distinct l → Sorted (ranked l)
unfolding ranked
ranked_sorted [] d = tt
ranked_sorted (s ∷ l) d = insert_sorted s (ranked l) (λ t m. d.0 t (ranked_from t l m)) (ranked_sorted l d.1)

pub sorted_in_order : (l : List Setting) → Sorted l → InOrder l
sorted_in_order [] h = tt
sorted_in_order (s ∷ []) h = tt
sorted_in_order (s ∷ t ∷ ts) h = (h.0 t (inl refl), sorted_in_order (t ∷ ts) h.1)

-- ---- the first n

pub take_from : (u : Setting) (n : ℕ) (l : List Setting) → Among u (take n l) → Among u l
take_from u zero l m = absurd m
take_from u (suc n) [] m = m
take_from u (suc n) (s ∷ l) m = ⊎_elim inl (λ k. inr (take_from u n l k)) m

pub take_sorted : (n : ℕ) (l : List Setting) → Sorted l → Sorted (take n l)
take_sorted zero l h = tt
take_sorted (suc n) [] h = tt
take_sorted (suc n) (s ∷ l) h = (λ t m. h.0 t (take_from t n l m), take_sorted n l h.1)

-- each of them comes before one that is not among them
pub taken_or_beaten : (u : Setting) (n : ℕ) (l : List Setting) → Sorted l → Among u l → Among u (take n l) ⊎ ((length (take n l) ≡ n) × ((t : Setting) → Among t (take n l) → Before t u))
taken_or_beaten u zero l h m = inr (refl, λ t k. absurd k)
taken_or_beaten u (suc n) [] h m = absurd m
taken_or_beaten u (suc n) (s ∷ l) h (inl e) = inl (inl e)
taken_or_beaten u (suc n) (s ∷ l) h (inr m) =
    ⊎_elim
    (λ k. inl (inr k))
    (λ k. inr (ap suc k.0, λ t i. ⊎_elim (λ e. subst⁻¹ (λ (x : Setting). Before x u) e (h.0 u m)) (k.1 t) i))
    (taken_or_beaten u n l h.1 m)

pub listed_three : (l : List Setting) → settings_in (listed_of l) ≡ take 3 l
listed_three [] = refl
listed_three (a ∷ []) = refl
listed_three (a ∷ b ∷ []) = refl
listed_three (a ∷ b ∷ c ∷ l) = refl

-- 30 exactly where there is none to list
listed_none : (l : List Setting) → listed_of l ≡ refused 30 → (s : Setting) → Among s l → ⊥
listed_none l e s m = by l (sym (listed_three l) ∙ ap settings_in e) m
  where
    by : (l : List Setting) → take 3 l ≡ [] → Among s l → ⊥
    by [] e m = m
    by (t ∷ l) e m = let z : ◌≡◌ {A = ℕ} 0 1 = cc in omega arith

none_listed : (l : List Setting) → ((s : Setting) → Among s l → ⊥) → listed_of l ≡ refused 30
none_listed [] h = refl
none_listed (s ∷ l) h = absurd (h s (inl refl))

pub best_three_lem : BestThree
best_three_lem all d =
    let o = ranked_sorted all d in
    let e = listed_three (ranked all) in
    record {
      from = λ s m. ranked_from s all (take_from s 3 (ranked all) (subst (Among s) e m));
      three = rw e (omega (arith, length-take 3 (ranked all)));
      ordered = rw e (sorted_in_order (take 3 (ranked all)) (take_sorted 3 (ranked all) o));
      all = λ s m. rw e (taken_or_beaten s 3 (ranked all) o (ranked_has s all m));
      none = λ h s m. listed_none (ranked all) h s (ranked_has s all m);
      only = λ h. none_listed (ranked all) (λ s m. h s (ranked_from s all m));
    }
