-- What a station's coordinates and a run's room say of one entry written.
use Prim.Native.Nat.{ℕ, ◌≤◌, ◌<◌}
use mathlib.Core.Path.{◌≡◌, sym, ◌∙◌, subst}
use mathlib.Core.Bool.{true, ◌&&◌}
use native.Mathlib.Omega.{arith}
use borrow.Author.Tests.{leb-true}
use lib.Dec.{leb, lit≤}
use lib.ListN.{length}
use lib.IntN.{ℤ, pos, negsuc, neg_ℤ}
use lib.Signed.{le_z_yes}
use mir.Syntax.{w32}
use mir.Val.{SFits, to_z, of_z}
use mir.Facts.{to_z-of_z}
use Rattle.std.proofs.lemmas.Bool.{and_parts}
use Rattle.exact.specs.Size.{Within}
use Rattle.exact.proofs.Order.{≤ℤ-trans, pos-≤}
use Rattle.exact.proofs.Sizes.{≤-size, ≥-size}
use Rattle.plane.specs.Run.{Stored}
use Rattle.path.specs.Laying.{PathRuns, room_for}

pub stored_entry : {b : ℕ} {z : ℤ} (i n : ℕ) → b ≤ 150000000 → i < n → Within b z → Stored i n z
stored_entry {b} {z} i n k h w =
    let w' : Within 150000000 z = record { size = omega (arith, w.size) } in
    record { inside = h; least = ≤ℤ-trans (le_z_yes {a = negsuc 2147483647} {b = neg_ℤ (pos 150000000)} tt) (≥-size w'); most = ≤ℤ-trans (≤-size w') (pos-≤ (lit≤ tt)) }

-- a coordinate fits an entry of 32 bits, as the machine has it, and is read back as it was
fits32 : {b : ℕ} (z : ℤ) → b ≤ 150000000 → Within b z → SFits w32 z
fits32 (pos n) k w = record { sfits = omega (arith, w.size) }
fits32 (negsuc n) k w = record { sfits = omega (arith, w.size) }

pub entry_fits : {b : ℕ} {z m : ℤ} → b ≤ 150000000 → Within b z → m ≡ z → SFits w32 m
entry_fits {b} {z} k w e = subst (SFits w32) (sym e) (fits32 z k w)

pub entry_kept : {b : ℕ} {z m : ℤ} → b ≤ 150000000 → Within b z → m ≡ z → to_z w32 (of_z w32 m) ≡ z
entry_kept {b} {z} {m} k w e = to_z-of_z {w = w32} (entry_fits k w e) ∙ e

-- each run has room
pub room : (n : ℕ) (r : PathRuns) → room_for n r ≡ true → (n ≤ length r.xs) × (n ≤ length r.ys) × (n ≤ length r.gxs) × (n ≤ length r.gys)
room n r e =
    let a = leb n (length r.xs) in
    let b = leb n (length r.ys) in
    let c = leb n (length r.gxs) in
    let d = leb n (length r.gys) in
    let p = and_parts a (b && (c && d)) e in
    let q = and_parts b (c && d) p.1 in
    let s = and_parts c d q.1 in
    (leb-true n _ p.0, leb-true n _ q.0, leb-true n _ s.0, leb-true n _ s.1)
