-- `reaches::crossing::reach` meets its contract: by the sizes nothing overflows, and the quotient fits 32 bits.
use mathlib.Core.Path.{◌≡◌, sym, ◌∙◌, ap, subst}
use borrow.Author.Rules.{rules}
use lib.IntN.{ℤ}
use mir.Syntax.{w32}
use mir.Val.{SFits}
use mir.Facts.{to_z-of_z}
use Rattle.exact.specs.Nearest.{nearest_z}
use Rattle.exact.proofs.Polynomial.{var, ◌⊖◌, ◌⊗◌}
use Rattle.exact.proofs.Machine.{reread, fits, held}
use Rattle.plane.specs.Length.{heading_length}
use Rattle.reaches.specs.Crossing.{reach_of}
use Rattle.reaches.proofs.ReachSizes.{measured, ASIDE, aside, reach_inside, fits32}
use Rattle.reaches.proofs.crossing.reach.Goals as goal
use Rattle.reaches.proofs.crossing.reach.Goals.{After-nearest}

pub overflow_mul-aside : goal.overflow_mul-aside
overflow_mul-aside c = fits (measured c.requires) ((var 0 ⊖ var 2) ⊗ var 5) tt

pub overflow_mul-aside-2 : goal.overflow_mul-aside-2
overflow_mul-aside-2 c = fits (measured c.requires) ((var 1 ⊖ var 3) ⊗ var 4) tt

pub overflow_sub-aside-3 : goal.overflow_sub-aside-3
overflow_sub-aside-3 c = fits (measured c.requires) ASIDE tt

-- the quotient is the reach
module _ (c : After-nearest) where
  answered : reread c.nearest.result ≡ reach_of c.args.s c.args.a
  unfolding reach_of
  answered =
      let kept : reread c.nearest.result ≡ c.nearest.result = search rules in
      kept ∙ c.nearest.ensures ∙ ap (λ (n : ℤ). nearest_z n heading_length) (held (measured c.requires) ASIDE tt ∙ aside c.args.s c.args.a)

  small : SFits w32 (reread c.nearest.result)
  small = subst (SFits w32) (sym answered) (fits32 (reach_inside c.requires))

pub overflow_cast-result : goal.overflow_cast-result
overflow_cast-result c = small ((goal.at.overflow_cast-result c).After-nearest)

pub returns : goal.returns
returns c = let d = (goal.at.returns c).After-nearest in to_z-of_z {w = w32} (small d) ∙ answered d
