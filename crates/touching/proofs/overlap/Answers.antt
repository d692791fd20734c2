-- `touching::overlap` meets its contract: each of the four products is read back as it is.
use mathlib.Core.Path.{◌∙◌}
use Rattle.exact.proofs.Machine.{reread_result}
use Rattle.touching.specs.Touch.{overlap}
use Rattle.touching.proofs.overlap.Goals as goal

pub returns : goal.returns
unfolding overlap
returns c =
    let p = c.dot in
    let q = c.dot-2 in
    let r = c.dot-3 in
    let s = c.dot-4 in
    c.ranges_meet.ensures
    ∙ rw (reread_result p.type_inv p.ensures, reread_result q.type_inv q.ensures, reread_result r.type_inv r.ensures, reread_result s.type_inv s.ensures)
