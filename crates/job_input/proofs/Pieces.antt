-- Bytes read in pieces, one after another, into the rest of a buffer.
use Prim.Native.Nat.{ℕ, ◌+◌, ◌≤◌}
use mathlib.Core.Path.{◌≡◌, ◌∙◌, ap}
use mathlib.Core.List.{List, ◌++◌, append_assoc}
use native.Mathlib.Omega.{arith}
use borrow.Rule.Slice.PartMut.{put_mid}
use lib.ListN.{length, take, drop}
use lib.Seq.{take-append-le, take-append-add}
use Rattle.std.proofs.lemmas.List.{length-take-le}
use Rattle.std.proofs.Common.{Option, Some, None}
use Rattle.std.specs.Io.KnownBytes.{Consumes}

-- what a reader gives after what it gave before
joined : (o m n : Option (List ℕ)) (a b : List ℕ) → Consumes o m a → Consumes m n b → Consumes o n (a ++ b)
joined None m n a b h k = tt
joined (Some xs) None n a b h k = absurd h
joined (Some xs) (Some ys) None a b h k = absurd k
joined (Some xs) (Some ys) (Some zs) a b h k = rw append_assoc (h ∙ ap (λ (l : List ℕ). a ++ l) k)

-- where it stands in the buffer
placed : (done more size : ℕ) (buffer piece : List ℕ) → done ≤ length buffer → more ≤ length piece → take (done + more) (put_mid done size buffer piece) ≡ take done buffer ++ take more piece
placed done more size buffer piece h k =
    let front = take done buffer in
    let rest = piece ++ drop size (drop done buffer) in
    let e : done + more ≡ length front + more = omega (arith, length-take-le done buffer h) in
    ap (λ (i : ℕ). take i (front ++ rest)) e ∙ take-append-add front rest more ∙ ap (λ (l : List ℕ). front ++ l) (take-append-le more piece (drop size (drop done buffer)) k)

pub read_on : (o m n : Option (List ℕ)) (done more size : ℕ) (buffer piece : List ℕ) → done ≤ length buffer → more ≤ length piece → Consumes o m (take done buffer) → Consumes m n (take more piece)
    → Consumes o n (take (done + more) (put_mid done size buffer piece))
read_on o m n done more size buffer piece h k p q = rw (placed done more size buffer piece h k) (joined o m n (take done buffer) (take more piece) p q)
