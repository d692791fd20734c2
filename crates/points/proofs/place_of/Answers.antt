-- `points::place_of` meets its contract.
use lib.Dec.{lit≤}
use Rattle.walk.proofs.DrawLaws.{vector_sized, sized_moderate}
use Rattle.points.proofs.EndLaws.{place_moderate}
use Rattle.points.proofs.place_of.Goals as goal

pub minus-requires : goal.minus-requires
minus-requires c =
    let p = c.requires.place in
    record { first = place_moderate (lit≤ tt) (record { x = p.x; y = p.y }); second = sized_moderate (vector_sized c.requires.unit) }
