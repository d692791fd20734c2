-- `unit::hitch_offset` meets its contract.
use mathlib.Core.Path.{◌≡◌, sym, ◌∙◌, ap₂, subst₂}
use borrow.Author.Rules.{rules}
use lib.IntN.{ℤ}
use Rattle.exact.proofs.Machine.{reread}
use Rattle.plane.specs.Vector.{times, nearest_v, Scalable}
use Rattle.unit.specs.Coupling.{hitch_offset}
use Rattle.unit.proofs.UnitSizes.{hitched_scalable}
use Rattle.unit.proofs.hitch_offset.Goals as goal
use Rattle.unit.proofs.hitch_offset.Goals.{Start}

module _ (c : Start) where
  exact_h : reread c.args.h ≡ c.args.h
  exact_h = search rules

  exact_l : reread c.args.l ≡ c.args.l
  exact_l = search rules

pub scaled-requires : goal.scaled-requires
scaled-requires c = subst₂ (Scalable c.args.d) (sym (exact_h c)) (sym (exact_l c)) (hitched_scalable c.requires)

pub returns : goal.returns
unfolding hitch_offset
returns c = c.scaled.ensures ∙ ap₂ (λ (n q : ℤ). nearest_v (times c.args.d n) q) (exact_h c.before) (exact_l c.before)
