-- `exact::nearest` meets its contract: on each way out the quotient, or its neighbour away from zero, is the nearest quotient, and so it fits.
use mathlib.Core.Path.{◌≡◌, sym, subst}
use mathlib.Core.Bool.{true, false}
use lib.IntN.{ℤ, pos, ◌+ℤ◌, ◌-ℤ◌}
use lib.Signed.{quot_z, rem_z, lt_z}
use mir.Syntax.{w64}
use mir.Val.{SFits}
use mir.Facts.{to_z-of_z}
use Rattle.exact.specs.Nearest.{nearest_z}
use Rattle.exact.proofs.Division.{bits_positive, quotient_fits, remainder_fits, nearest_fits, sum_fits, negation_fits, difference_fits, below_away, below_stays, above_away, above_stays}
use Rattle.exact.proofs.nearest.Goals as goal
use Rattle.exact.proofs.nearest.Goals.{Else-r-lt0, Start, Then-d-r, Then-d-r-2, Then-r-lt0}

-- at the entry: the quotient, the remainder and the nearest quotient fit
module _ (c : Start) where
  abbrev n : ℤ
  n = c.args.n

  abbrev d : ℤ
  d = c.args.d

  fits_q : SFits w64 (quot_z n d)
  fits_q = quotient_fits n d c.requires.positive c.ranges.n

  fits_r : SFits w64 (rem_z n d)
  fits_r = remainder_fits n d c.ranges.n

  fits_nearest : (z : ℤ) → z ≡ nearest_z n d → SFits w64 z
  fits_nearest z e = subst (SFits w64) (sym e) (nearest_fits n d c.requires.positive c.ranges.n)

pub nonzero_div-q : goal.nonzero_div-q
nonzero_div-q c = (bits_positive _ c.requires.positive, simp (to_z-of_z, c.ranges.n, c.ranges.d) (fits_q c))

pub nonzero_rem-r : goal.nonzero_rem-r
nonzero_rem-r c = (bits_positive _ c.requires.positive, simp (to_z-of_z, c.ranges.n, c.ranges.d) (fits_q c))

-- the remainder is below 0
module _ (c : Then-r-lt0) where
  below : lt_z (rem_z (n c.before) (d c.before)) (pos 0) ≡ true
  below = simp (to_z-of_z, c.ranges.n, c.ranges.d, fits_r c.before) at c.if-r-lt0.true

  fits_sum : SFits w64 (d c.before +ℤ rem_z (n c.before) (d c.before))
  fits_sum = sum_fits (n c.before) (d c.before) c.requires.positive c.ranges.d below

  fits_negation : SFits w64 (pos 0 -ℤ rem_z (n c.before) (d c.before))
  fits_negation = negation_fits (n c.before) (d c.before) c.requires.positive c.ranges.d below

pub overflow_add-d : goal.overflow_add-d
overflow_add-d c = simp (to_z-of_z, c.ranges.n, c.ranges.d, fits_r c.before) (fits_sum c)

pub overflow_sub-r : goal.overflow_sub-r
overflow_sub-r c = simp (to_z-of_z, c.ranges.n, c.ranges.d, fits_r c.before) (fits_negation c)

module _ (c : Then-d-r) where
  abbrev s : Start
  s = (goal.at.Then-d-r c).Start

  away : quot_z (n s) (d s) -ℤ pos 1 ≡ nearest_z (n s) (d s)
  away =
      below_away (n s) (d s) s.requires.positive (below c.before)
      (simp (to_z-of_z, s.ranges.n, s.ranges.d, fits_r s, fits_sum c.before, fits_negation c.before) at c.if-d-r.true)

pub overflow_sub-result : goal.overflow_sub-result
overflow_sub-result c = let s = (goal.at.overflow_sub-result c).Start in simp (to_z-of_z, s.ranges.n, s.ranges.d, fits_q s) (fits_nearest s _ (away c))

pub returns-then-d-r : goal.returns-then-d-r
returns-then-d-r c = let s = (goal.at.returns-then-d-r c).Start in simp (to_z-of_z, s.ranges.n, s.ranges.d, fits_q s, fits_nearest s _ (away c)) (away c)

pub returns-else-d-r : goal.returns-else-d-r
returns-else-d-r c =
    let s = (goal.at.returns-else-d-r c).Start in
    simp (to_z-of_z, s.ranges.n, s.ranges.d, fits_q s)
    (below_stays (n s) (d s) s.requires.positive (below c.before)
    (simp (to_z-of_z, s.ranges.n, s.ranges.d, fits_r s, fits_sum c.before, fits_negation c.before) at c.if-d-r.false))

-- it is not
module _ (c : Else-r-lt0) where
  above : lt_z (rem_z (n c.before) (d c.before)) (pos 0) ≡ false
  above = simp (to_z-of_z, c.ranges.n, c.ranges.d, fits_r c.before) at c.if-r-lt0.false

  fits_difference : SFits w64 (d c.before -ℤ rem_z (n c.before) (d c.before))
  fits_difference = difference_fits (n c.before) (d c.before) c.requires.positive c.ranges.d above

pub overflow_sub-d : goal.overflow_sub-d
overflow_sub-d c = simp (to_z-of_z, c.ranges.n, c.ranges.d, fits_r c.before) (fits_difference c)

next : (c : Then-d-r-2) → let s = (goal.at.Then-d-r-2 c).Start in quot_z (n s) (d s) +ℤ pos 1 ≡ nearest_z (n s) (d s)
next c =
    let s = (goal.at.Then-d-r-2 c).Start in
    above_away (n s) (d s) s.requires.positive (above c.before)
    (simp (to_z-of_z, s.ranges.n, s.ranges.d, fits_r s, fits_difference c.before) at c.if-d-r-2.true)

pub overflow_add-result : goal.overflow_add-result
overflow_add-result c = let s = (goal.at.overflow_add-result c).Start in simp (to_z-of_z, s.ranges.n, s.ranges.d, fits_q s) (fits_nearest s _ (next c))

pub returns-then-d-r-2 : goal.returns-then-d-r-2
returns-then-d-r-2 c = let s = (goal.at.returns-then-d-r-2 c).Start in simp (to_z-of_z, s.ranges.n, s.ranges.d, fits_q s, fits_nearest s _ (next c)) (next c)

pub returns-else-d-r-2 : goal.returns-else-d-r-2
returns-else-d-r-2 c =
    let s = (goal.at.returns-else-d-r-2 c).Start in
    simp (to_z-of_z, s.ranges.n, s.ranges.d, fits_q s)
    (above_stays (n s) (d s) s.requires.positive (above c.before)
    (simp (to_z-of_z, s.ranges.n, s.ranges.d, fits_r s, fits_difference c.before) at c.if-d-r-2.false))
