-- What is answered where a run is too short and where it has the room, and what is told of an answer by another name.
use Prim.Native.Nat.{ℕ, ◌≤◌, ◌<◌}
use mathlib.Core.Path.{◌≡◌, refl, ap, subst}
use mathlib.Core.List.{List}
use borrow.Author.Tests.{le-leb, lt-leb}
use lib.ListN.{length}
use lib.Seq.{sets}
use lib.IntN.{ℤ}
use Rattle.std.specs.Prelude.{Result, Ok, Err, MatchResult}
use Rattle.std.specs.Result.{IsOkAnd}
use Rattle.refusal.specs.declared.Fault.{Fault}
use Rattle.refusal.specs.Numbers.{as_answer}
use Rattle.answer_run.specs.Answers.{Told, told, TellEnsures, Answered}
use Rattle.answer_run.specs.Turns.{told_of, told_by}

pub too_short : (room : ℕ) (t : Told) (before : List ℤ) → length before < room → Answered room t before 21 before
too_short room t before h = let e = lt-leb room (length before) h in record { number = rw e refl; run = rw e refl }

pub answered : (room : ℕ) (t : Told) (before : List ℤ) (n : ℕ) (after : List ℤ) → room ≤ length before → n ≡ t.number → after ≡ sets before 0 t.entries → Answered room t before n after
answered room t before n after h p q = let e = le-leb room (length before) h in record { number = rw e p; run = rw e q }

-- what was told of one answer is told of the same answer by another name
pub answered_as : {A : Type 0} (room : ℕ) (tells : A → Told) (before : List ℤ) (n : ℕ) (after : List ℤ) → room ≤ length before → (a b : A) → a ≡ b → TellEnsures (tells a) before n after → Answered room (tells b) before n after
answered_as room tells before n after h a b e t = subst (λ x. Answered room (tells x) before n after) e (answered room (tells a) before n after h t.number t.run)

-- entries that are made of what a turn answered: a refusal stays itself
pub mapped : {A : Type 0} {entries : A → List ℤ} {P : A → List ℤ → Type 0} (t : Result A Fault) (m : Result (List ℤ) Fault) → MatchResult t (λ x. IsOkAnd m (P x)) (λ e. m ≡ Err e)
    → ((x : A) (r : List ℤ) → P x r → r ≡ entries x) → told_of (as_answer m) ≡ told_by entries (as_answer t)
mapped (Ok x) (Ok r) k h = ap (told 0) (h x r k)
mapped (Ok x) (Err e) k h = absurd k
mapped (Err e) m k h = ap (λ z. told_of (as_answer z)) k
