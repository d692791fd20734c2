-- The whole text, from the lines that were put. Assumes nothing.
use Prim.Native.Nat.{ℕ, zero, suc, ◌-◌, ◌≤◌}
use mathlib.Core.Path.{◌≡◌, refl, ◌∙◌, ap}
use mathlib.Core.List.{List}
use native.Mathlib.Omega.{arith}
use native.Mathlib.Nat.{zero-add}
use lib.ListN.{length, drop, replicate, length-replicate}
use lib.Seq.{sets, sets-eq, drop_at}
use Rattle.number.proofs.CodecMany.{take_sets}
use Rattle.answer_text.specs.Appending.{nothing, Line}
use Rattle.answer_text.specs.Answers.{TextIs}
use Rattle.answer_text.specs.declared.Text.{Text}

drop_replicate : (k n : ℕ) (a : ℕ) → drop k (replicate n a) ≡ replicate (n - k) a
drop_replicate zero n a = let e : n - 0 ≡ n = omega arith in rw e
drop_replicate (suc k) zero a = let e : 0 - suc k ≡ 0 = omega arith in rw e
drop_replicate (suc k) (suc n) a = let e : suc n - suc k ≡ n - k = omega arith in rw e (drop_replicate k n a)

drop_sets : (l a : List ℕ) → length a ≤ length l → drop (length a) (sets l 0 a) ≡ drop (length a) l
drop_sets l a h = rw (sets-eq a l 0 (omega arith), zero-add (length a)) (drop_at a (drop (length a) l) (length a) refl)

pub whole : (p : List ℕ) (r : Text) (m : ℕ) → m ≤ 192 → Line nothing p m r → TextIs p r
unfolding nothing
whole p r m h l =
    let empty : List ℕ = replicate 192 0 in
    let w : length p ≤ length empty = omega (arith, l.width, length-replicate {A = ℕ} 192 0) in
    let n : r.length ≡ length p = ap (λ (x : Text). x.length) l.put ∙ zero-add (length p) in
    let b : r.bytes ≡ sets empty 0 p = ap (λ (x : Text). x.bytes) l.put in
    record {
      starts = rw (n, b) (take_sets empty p (length p) refl w);
      zeros = rw (n, b) (drop_sets empty p w ∙ drop_replicate (length p) 192 0);
      counted = n;
      fits = omega (arith, l.width);
    }
