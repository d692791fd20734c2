-- Places of the map can be added, subtracted and multiplied.
use native.Mathlib.Omega.{arith}
use Rattle.exact.proofs.Sizes.{within_more, within_sub}
use Rattle.plane.specs.declared.Vec2.{Vec2}
use Rattle.plane.specs.Vector.{minus, Moderate}
use Rattle.points.specs.Requires.{PlaceSized}

pub moderate : {v : Vec2} → PlaceSized 150000000 v → Moderate v
moderate m = record { x = within_more (omega arith) m.x; y = within_more (omega arith) m.y }

pub gap_moderate : {a b : Vec2} → PlaceSized 150000000 a → PlaceSized 150000000 b → Moderate (minus a b)
gap_moderate m n = record { x = within_more (omega arith) (within_sub m.x n.x); y = within_more (omega arith) (within_sub m.y n.y) }
