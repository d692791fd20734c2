-- `reaches::crossing::pair_crosses` meets its contract.
use mathlib.Core.Path.{◌≡◌, sym, ◌∙◌, ap}
use mathlib.Core.Bool.{not}
use borrow.Author.Rules.{rules}
use Rattle.exact.proofs.Machine.{reread}
use Rattle.reaches.specs.Far.{far_off, left_of, right_of}
use Rattle.reaches.proofs.FarLaws.{far_pair}
use Rattle.reaches.proofs.crossing.pair_crosses.Goals as goal

pub returns-else-not-far_off : goal.returns-else-not-far_off
returns-else-not-far_off c =
    let a = c.args in
    let r = c.requires in
    let near : reread a.near ≡ a.near = search rules in
    let far = ap (far_off a.s (left_of a.old)) (sym near) ∙ sym c.far_off.ensures ∙ c.if-not-far_off.false in
    ap not c.if-not-far_off.false ∙ sym (far_pair a.s r.left.station a.near (left_of a.old) (left_of a.new) (right_of a.old) (right_of a.new) far r.new_near r.old_right_near r.new_right_near)
