-- The table of points: it has a row for each point of a vehicle, and each of these names a unit in use.
use Prim.Native.Nat.{ℕ, zero, suc, ◌+◌, ◌*◌, ◌≤◌, ◌<◌}
use mathlib.Core.Path.{◌≡◌, refl, sym, subst}
use mathlib.Core.Bool.{Bool, true, false, ◌&&◌, ◌||◌}
use mathlib.Core.List.{List, [], ◌∷◌}
use native.Mathlib.Omega.{arith}
use native.Mathlib.Nat.{add-zero}
use borrow.Author.Tests.{eqb-true, leb-true}
use lib.Dec.{eqb, leb}
use lib.ListN.{length, take, get_or}
use lib.Seq.{length-take-le}
use Rattle.std.proofs.lemmas.Bool.{and_parts}
use Rattle.job.specs.declared.Vehicle.{Vehicle}
use Rattle.marks.specs.Count.{point_count}
use Rattle.marks.proofs.CountLaws.{count_fits, unit_counted}
use Rattle.point_table.specs.declared.Base.{Base}
use Rattle.point_table.specs.declared.Base.TheVariants.{Front, Rear, LastRear}
use Rattle.point_table.specs.declared.Row.{Row}
use Rattle.point_table.specs.Table.{point_rows, row_at}
use Rattle.points.specs.Corners.{unit_of}
use Rattle.points.specs.Requires.{BaseInUse}

module _ (v : Vehicle) (m : v.count ≤ 4) where
  pub rows_enough : point_count v ≤ length point_rows
  rows_enough = count_fits v m

  pub rows_taken : length (take (point_count v) point_rows) ≡ point_count v
  rows_taken = length-take-le (point_count v) point_rows rows_enough

-- what is computed of the whole table, by the numbers from n on, holds of each row
abbrev all_rows : (ℕ → Row → Bool) → ℕ → List Row → Bool
all_rows t n [] = true
all_rows t n (r ∷ rs) = t n r && all_rows t (suc n) rs

each_row : (t : ℕ → Row → Bool) (n : ℕ) (rs : List Row) (z : Row) → all_rows t n rs ≡ true → (k : ℕ) → k < length rs → t (n + k) (get_or rs k z) ≡ true
each_row t n [] z h k l = absurd (omega arith)
each_row t n (r ∷ rs) z h zero l = subst (λ (m : ℕ). t m r ≡ true) (sym (add-zero n)) (and_parts (t n r) (all_rows t (suc n) rs) h).0
each_row t n (r ∷ rs) z h (suc k) l =
    let e : suc n + k ≡ n + suc k = omega arith in
    subst (λ (m : ℕ). t m (get_or rs k z) ≡ true) e (each_row t (suc n) rs z (and_parts (t n r) (all_rows t (suc n) rs) h).1 k (omega arith))

-- the first unit and the last are in use in every rig; a later one where the rig has its points
abbrev unit_there : ℕ → ℕ → Bool
unit_there k i = eqb i 0 || leb (4 * i + 4) k

abbrev base_there : ℕ → Base → Bool
base_there k (Front i) = unit_there k i
base_there k (Rear i) = unit_there k i
base_there k LastRear = true

unit_there_lem : (v : Vehicle) (k i : ℕ) → 1 ≤ v.count → k < point_count v → unit_there k i ≡ true → i < v.count
unit_there_lem v k i l h e = by (eqb i 0) refl e
  where
    by : (t : Bool) → eqb i 0 ≡ t → (t || leb (4 * i + 4) k) ≡ true → i < v.count
    by true z e = omega (arith, eqb-true i 0 z)
    by false z e = unit_counted v i k (leb-true (4 * i + 4) k e) h

base_there_lem : (v : Vehicle) (k : ℕ) (b : Base) → 1 ≤ v.count → k < point_count v → base_there k b ≡ true → unit_of v b < v.count
base_there_lem v k (Front i) l h e = unit_there_lem v k i l h e
base_there_lem v k (Rear i) l h e = unit_there_lem v k i l h e
base_there_lem v k LastRear l h e = omega arith

pub row_in_use : (v : Vehicle) → 1 ≤ v.count → v.count ≤ 4 → (k : ℕ) → k < point_count v → BaseInUse v (row_at k).base
row_in_use v l m k h =
    let e : 0 + k ≡ k = omega arith in
    let t = each_row (λ n r. base_there n r.base) 0 point_rows (row_at 0) refl k (omega (arith, rows_enough v m)) in
    record { most = m; unit = base_there_lem v k (row_at k).base l h (subst (λ (n : ℕ). base_there n (row_at k).base ≡ true) e t) }
