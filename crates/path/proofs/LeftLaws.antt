-- The steps that are left to a cursor: one at a time, and none past the last element.
use Prim.Native.Nat.{ℕ, ◌+◌, ◌-◌, ◌≤◌, ◌<◌}
use mathlib.Core.Path.{◌≡◌, refl, sym, ◌∙◌, ap}
use mathlib.Core.Bool.{Bool, true, false}
use mathlib.Core.List.{List, [], ◌∷◌, ◌++◌, map}
use native.Mathlib.Omega.{arith}
use borrow.Author.Tests.{leb-true, leb-false, ltb-false}
use lib.Dec.{leb, ltb}
use lib.ListN.{length, drop, get_or, drop_of_length-le}
use lib.Seq.{drop-cons}
use native.Mathlib.Numerals.{add-one}
use Rattle.number.specs.Read.{pick}
use Rattle.job.specs.declared.Element.{Element}
use Rattle.job.specs.declared.Curve.{Curve}
use Rattle.job.specs.Empty.{empty_element}
use Rattle.path.specs.declared.Station.{Station}
use Rattle.path.specs.declared.PathCursor.{PathCursor}
use Rattle.path.specs.Cuts.{Cut, cut, cuts_from}
use Rattle.path.specs.Stations.{Step, steps_on, station_after}
use Rattle.path.specs.Cursor.{least_of, step_length, cursor_after}
use Rattle.path.proofs.CutLaws.{cuts_full, cuts_last, cuts_none}

abbrev on : Curve → Cut → Step
on c k = record { curve = c; cut = k }

-- from b ticks on in the first of the elements
abbrev pub left_on : ℕ → List Element → ℕ → List Step
left_on step [] b = []
left_on step (e ∷ es) b = map (on e.curve) (cuts_from step b (e.length - b)) ++ steps_on step es

abbrev pub steps_left : ℕ → List Element → PathCursor → List Step
steps_left step es c = left_on step (drop c.element es) c.before

-- at the first tick all are left
pub left_all : (step : ℕ) (es : List Element) → left_on step es 0 ≡ steps_on step es
unfolding steps_on
left_all step [] = refl
left_all step (e ∷ es) = let n : e.length - 0 ≡ e.length = omega arith in ap (λ (k : ℕ). map (on e.curve) (cuts_from step 0 k) ++ steps_on step es) n

-- one cut, full or short, then the others
cuts_next : (step b n : ℕ) → 0 < step → 0 < n → cuts_from step b n ≡ cut b (least_of step n) ∷ cuts_from step (b + least_of step n) (n - least_of step n)
cuts_next step b n p q = by (leb step n) refl
  where
    by : (t : Bool) → leb step n ≡ t → cuts_from step b n ≡ cut b (pick t step n) ∷ cuts_from step (b + pick t step n) (n - pick t step n)
    by true e = cuts_full step b n p (leb-true step n e)
    by false e =
        let z : n - n ≡ 0 = omega arith in
        cuts_last step b n q (leb-false step n e) ∙ ap (λ (ks : List Cut). cut b n ∷ ks) (sym (ap (cuts_from step (b + n)) z ∙ cuts_none step (b + n) p))

module _ (step : ℕ) (e : Element) (es : List Element) (b : ℕ) (p : 0 < step) (h : b < e.length) where
  abbrev s : ℕ
  s = step_length e.length b step

  left_next : left_on step (e ∷ es) b ≡ on e.curve (cut b s) ∷ left_on step (e ∷ es) (b + s)
  left_next =
      let n : e.length - b - s ≡ e.length - (b + s) = omega arith in
      ap (λ (ks : List Cut). map (on e.curve) ks ++ steps_on step es) (cuts_next step b (e.length - b) p (omega arith) ∙ ap (λ (k : ℕ). cut b s ∷ cuts_from step (b + s) k) n)

  left_past : e.length ≤ b + s → left_on step (e ∷ es) (b + s) ≡ left_on step es 0
  left_past k =
      let n : e.length - (b + s) ≡ 0 = omega arith in
      ap (λ (ks : List Cut). map (on e.curve) ks ++ steps_on step es) (ap (cuts_from step (b + s)) n ∙ cuts_none step (b + s) p) ∙ sym (left_all step es)

-- one step on, as the cursor goes
module _ (step : ℕ) (es : List Element) (c : PathCursor) (p : 0 < step) (i : c.element < length es) (h : c.before < (get_or es c.element empty_element).length) where
  abbrev e : Element
  e = get_or es c.element empty_element

  abbrev here : Step
  here = on e.curve (cut c.before (step_length e.length c.before step))

  first : drop c.element es ≡ e ∷ drop (c.element + 1) es
  first = drop-cons es c.element empty_element i ∙ rw add-one

  abbrev behind : ℕ
  behind = c.before + step_length e.length c.before step

  after : (t : Bool) → ltb behind e.length ≡ t → (q : Station) →
      left_on step (e ∷ drop (c.element + 1) es) behind
      ≡ steps_left step es (pick t (record { element = c.element; before = behind; station = q }) (record { element = c.element + 1; before = 0; station = q }))
  after true t q = ap (λ (l : List Element). left_on step l behind) (sym first)
  after false t q = left_past step e (drop (c.element + 1) es) c.before p h (ltb-false behind e.length t)

  pub steps_next : steps_left step es c ≡ here ∷ steps_left step es (cursor_after step e c)
  unfolding cursor_after
  steps_next =
      ap (λ (l : List Element). left_on step l c.before) first
      ∙ left_next step e (drop (c.element + 1) es) c.before p h
      ∙ ap (λ (ss : List Step). here ∷ ss) (after (ltb behind e.length) refl (station_after c.station e.curve (step_length e.length c.before step)))

-- past the last element none is left
pub steps_none : (step : ℕ) (es : List Element) (c : PathCursor) → length es ≤ c.element → steps_left step es c ≡ []
steps_none step es c h = ap (λ (l : List Element). left_on step l c.before) (drop_of_length-le es {i = c.element} h)
