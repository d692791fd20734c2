-- `unit::placed` meets its contract: a heading can be scaled to a wheelbase.
use mathlib.Core.Path.{◌≡◌, sym, ◌∙◌, ap, subst}
use borrow.Author.Rules.{rules}
use lib.IntN.{ℤ}
use Rattle.exact.proofs.Machine.{reread}
use Rattle.plane.specs.Length.{heading_length}
use Rattle.plane.specs.Vector.{times, nearest_v, Scalable}
use Rattle.unit.specs.Turn.{placed_by}
use Rattle.unit.proofs.UnitSizes.{placeable_scalable}
use Rattle.unit.proofs.placed.Goals as goal

pub scaled-requires : goal.scaled-requires
scaled-requires c =
    let e : reread c.args.l ≡ c.args.l = search rules in
    subst (λ (n : ℤ). Scalable c.args.g n heading_length) (sym e) (placeable_scalable c.requires)

pub returns : goal.returns
unfolding placed_by
returns c =
    let e : reread c.args.l ≡ c.args.l = search rules in
    c.scaled.ensures ∙ ap (λ (n : ℤ). nearest_v (times c.args.g n) heading_length) e
