-- A text in the making: one part after another, with the room that they take. Assumes nothing.
use Prim.Native.Nat.{ℕ, ◌+◌, ◌≤◌}
use mathlib.Core.Path.{◌≡◌, sym, ◌∙◌, ap, subst}
use mathlib.Core.List.{List, ◌++◌}
use native.Mathlib.Omega.{arith}
use native.Mathlib.Nat.{add_assoc}
use lib.ListN.{length, length-append}
use lib.Seq.{sets}
use Rattle.number.proofs.Writing.{sets_append}
use Rattle.answer_text.specs.Appending.{appended, nothing, Line}
use Rattle.answer_text.specs.declared.Text.{Text}

-- what the writing functions ensure
pub made : (t : Text) (a : List ℕ) (m : ℕ) {bytes : List ℕ} {end : ℕ} → end ≡ t.length + length a → bytes ≡ sets t.bytes t.length a → length a ≤ m → Line t a m (record { bytes = bytes; length = end })
made t a m p q w = record { put = rw (p, q); width = w }

-- the text afterwards is longer by no more than the part's width
pub longer : {t u : Text} {a : List ℕ} {m : ℕ} → Line t a m u → u.length ≤ t.length + m
longer l = omega (arith, ap (λ (x : Text). x.length) l.put, l.width)

pub join : {t u v : Text} {a b : List ℕ} {m k : ℕ} → Line t a m u → Line u b k v → Line t (a ++ b) (m + k) v
join {t} {a} {b} l n = record {
  put = n.put ∙ ap (λ (x : Text). appended x b) l.put ∙ sym (rw (sets_append t.bytes t.length a b, length-append a b, ← add_assoc));
  width = omega (arith, length-append a b, l.width, n.width);
}

pub within : {t u : Text} {a : List ℕ} {m : ℕ} (k : ℕ) → m ≤ k → Line t a m u → Line t a k u
within k h l = record { put = l.put; width = omega (arith, l.width) }

-- from the empty text on
pub from_start : {t u : Text} {a : List ℕ} {m : ℕ} → t ≡ nothing → Line t a m u → Line nothing a m u
from_start {u} {a} {m} e l = subst (λ (x : Text). Line x a m u) e l
