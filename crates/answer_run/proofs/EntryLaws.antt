-- Entries written one after the other, each read back as it was; an answer told by another name.
use Prim.Native.Nat.{ℕ, ◌^◌, ◌<◌}
use mathlib.Core.Path.{◌≡◌, sym, ◌∙◌, ap, subst}
use mathlib.Core.List.{List, ◌++◌}
use native.Mathlib.Nat.{zero-add}
use lib.ListN.{length}
use lib.Seq.{sets}
use lib.IntN.{ℤ, pos}
use mir.Syntax.{w64}
use mir.Val.{SFits}
use mir.Facts.{to_z-of_z}
use Rattle.exact.proofs.Machine.{reread}
use Rattle.number.proofs.Writing.{sets_append}
use Rattle.answer_run.specs.Answers.{Told, TellEnsures}

-- a count fits an entry, and is read back from its bits as it was
pub count_fits : (n : ℕ) → n < 2 ^ 63 → SFits w64 (pos n)
count_fits n h = record { sfits = h }

pub count_alone : (n : ℕ) → n < 2 ^ 63 → reread (pos n) ≡ pos n
count_alone n h = to_z-of_z {w = w64} (count_fits n h)

pub written_on : (l : List ℤ) {m n : List ℤ} (vs ws : List ℤ) → m ≡ sets l 0 vs → n ≡ sets m (length vs) ws → n ≡ sets l 0 (vs ++ ws)
written_on l vs ws p q =
    q ∙ ap (λ (x : List ℤ). sets x (length vs) ws) p ∙ sym (sets_append l 0 vs ws ∙ ap (λ (k : ℕ). sets (sets l 0 vs) k ws) (zero-add (length vs)))

-- what is told of one answer is told of the same answer by another name
pub told_as : {A : Type 0} (tells : A → Told) (before : List ℤ) (n : ℕ) (after : List ℤ) (a b : A) → b ≡ a → TellEnsures (tells a) before n after → TellEnsures (tells b) before n after
told_as tells before n after a b e t = subst (λ x. TellEnsures (tells x) before n after) (sym e) t
