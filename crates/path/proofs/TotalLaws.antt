-- The total of steps: turn by turn over the elements in use, and as the number of the steps themselves.
use Prim.Native.Nat.{ℕ, ◌+◌, ◌≤◌, ◌<◌}
use mathlib.Core.Path.{◌≡◌, ◌∙◌, ap}
use mathlib.Core.List.{List, [], ◌∷◌, ◌++◌, map}
use native.Mathlib.Omega.{arith}
use native.Mathlib.Numerals.{add-one}
use lib.ListN.{length, take, drop, get_or, length-take, length-append, length-map, drop_of_length-le}
use lib.Seq.{drop-cons, get_or-take}
use Rattle.job.specs.declared.Element.{Element}
use Rattle.job.specs.Steps.{tally, steps_of}
use Rattle.job.specs.Empty.{empty_element}
use Rattle.path.specs.Cuts.{Cut, cuts}
use Rattle.path.specs.Stations.{Step, steps_on, step_total}
use Rattle.path.proofs.CutLaws.{cuts_count}

-- the first n values of a list from place i on
pub taken_next : {A : Type 0} (es : List A) (n i : ℕ) (z : A) → n ≤ length es → i < n → drop i (take n es) ≡ get_or es i z ∷ drop (i + 1) (take n es)
taken_next es n i z h l =
    let k : i < length (take n es) = omega (arith, length-take n es) in
    drop-cons (take n es) i z k ∙ rw (get_or-take n es i z l, add-one)

pub taken_end : {A : Type 0} (es : List A) (n i : ℕ) → n ≤ i → drop i (take n es) ≡ []
taken_end es n i h = drop_of_length-le (take n es) {i = i} (omega (arith, length-take n es))

module _ (step total : ℕ) (es : List Element) (i : ℕ) where
  pub total_next : i < length es → step_total step total (drop i es) ≡ step_total step (tally step total (get_or es i empty_element)) (drop (i + 1) es)
  unfolding step_total
  total_next l = rw (drop-cons es i empty_element l, add-one)

  pub total_end : length es ≤ i → step_total step total (drop i es) ≡ total
  unfolding step_total
  total_end h = rw (drop_of_length-le es {i = i} h)

-- as many as there are steps
pub total_count : (step total : ℕ) (es : List Element) → step_total step total es ≡ total + length (steps_on step es)
unfolding step_total steps_on
total_count step total [] = omega arith
total_count step total (e ∷ es) =
    let f : Cut → Step = λ c. record { curve = e.curve; cut = c } in
    let k : length (map f (cuts step e.length) ++ steps_on step es) ≡ steps_of step e.length + length (steps_on step es) =
    length-append (map f (cuts step e.length)) (steps_on step es) ∙ ap (λ (a : ℕ). a + length (steps_on step es)) (length-map (cuts step e.length) f ∙ cuts_count step e.length) in
    total_count step (tally step total e) es ∙ omega (arith, k)

pub total_grows : (step total : ℕ) (es : List Element) → total ≤ step_total step total es
total_grows step total es = omega (arith, total_count step total es)
