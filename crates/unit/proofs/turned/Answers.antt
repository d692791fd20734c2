-- `unit::turned` meets its contract: the mirror image can be settled.
use mathlib.Core.Path.{◌≡◌, sym, subst₂}
use borrow.Author.Rules.{rules}
use Rattle.exact.proofs.Machine.{reread}
use Rattle.plane.specs.Settle.{Settleable}
use Rattle.unit.specs.Turn.{turned_by}
use Rattle.unit.proofs.Turning.{mirrored_settleable}
use Rattle.unit.proofs.UnitSizes.{turnable_mirrorable}
use Rattle.unit.proofs.turned.Goals as goal

pub mirrored_vector-requires : goal.mirrored_vector-requires
mirrored_vector-requires c = turnable_mirrorable c.args.d c.args.f c.args.l c.requires

pub settle-requires : goal.settle-requires
settle-requires c =
    let e : reread c.args.l ≡ c.args.l = search rules in
    subst₂ Settleable (sym c.mirrored_vector.ensures) (sym e) (mirrored_settleable c.args.d c.args.f c.args.l c.requires)

pub returns : goal.returns
unfolding turned_by
returns c =
    let e : reread c.args.l ≡ c.args.l = search rules in
    cc e
