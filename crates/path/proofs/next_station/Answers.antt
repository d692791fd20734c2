-- `path::next_station` meets its contract.
use mathlib.Core.Path.{◌≡◌, sym, ◌∙◌, ap₂, subst}
use borrow.Author.Rules.{rules}
use lib.IntN.{pos}
use Rattle.exact.proofs.Machine.{reread}
use Rattle.plane.specs.Vector.{BothModerate}
use Rattle.job.specs.Curves.{radius_of}
use Rattle.heading.specs.declared.Advance.{Advance}
use Rattle.heading.specs.PathTurn.{advance_of}
use Rattle.path.proofs.StationLaws.{shift_moderate}
use Rattle.path.proofs.next_station.Goals as goal

pub plus-requires : goal.plus-requires
plus-requires c =
    let s : reread c.from.result ≡ pos c.args.s = search rules in
    let r : reread c.radius_of.result ≡ radius_of c.args.curve = search rules in
    let e = c.path_step-advance.ensures ∙ ap₂ (advance_of c.args.p.heading) s r in
    subst (λ (a : Advance). BothModerate c.args.p.position a.shift) (sym e)
    (record { first = c.requires.place; second = shift_moderate c.args.p c.args.curve c.args.s c.requires })
