-- `walk::units::hitch_at` meets its contract.
use mathlib.Core.Path.{◌≡◌, sym, ◌∙◌, subst₂}
use borrow.Author.Rules.{rules}
use Rattle.exact.proofs.Machine.{reread}
use Rattle.plane.specs.Vector.{BothModerate}
use Rattle.unit.specs.Coupling.{hitch_offset}
use Rattle.walk.specs.Units.{wheelbase_of}
use Rattle.walk.proofs.DrawLaws.{placed_moderate, sized_moderate, vector_sized, hitched, offset_sized, rear_moderate}
use Rattle.walk.proofs.units.hitch_at.Goals as goal
use Rattle.walk.proofs.units.hitch_at.Goals.{After-minus-rear}

pub minus-rear-requires : goal.minus-rear-requires
minus-rear-requires c = record { first = placed_moderate c.requires.place; second = sized_moderate (vector_sized c.requires.unit) }

-- the hitch and the wheelbase, wide
module _ (c : After-minus-rear) where
  ahead : reread c.from-h.result ≡ c.args.u.hitch
  ahead = search rules

  base : reread c.from-l.result ≡ wheelbase_of c.args.u
  base = search rules

pub hitch_offset-requires : goal.hitch_offset-requires
hitch_offset-requires c = let b = (goal.at.hitch_offset-requires c).After-minus-rear in rw (ahead b, base b) (hitched c.requires.unit)

pub plus-requires : goal.plus-requires
plus-requires c =
    let r = c.requires in
    let b = (goal.at.plus-requires c).After-minus-rear in
    let offset : c.hitch_offset.result ≡ hitch_offset c.args.d c.args.u.hitch (wheelbase_of c.args.u) = c.hitch_offset.ensures ∙ rw (ahead b, base b) in
    subst₂ BothModerate (sym c.minus-rear.ensures) (sym offset)
    (record { first = rear_moderate r.unit c.args.front r.place; second = sized_moderate (offset_sized r.unit) })
