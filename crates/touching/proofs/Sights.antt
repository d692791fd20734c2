-- Every direction that the test looks along is moderate.
use lib.Dec.{lit≤}
use Rattle.exact.proofs.Sizes.{within_more, within_sub, within_neg}
use Rattle.plane.specs.declared.Vec2.{Vec2}
use Rattle.plane.specs.Vector.{minus, right_normal, Moderate}
use Rattle.touching.specs.Touch.{OnMap}

pub minus_moderate : {a b : Vec2} → OnMap a → OnMap b → Moderate (minus b a)
minus_moderate s t = record { x = within_more (lit≤ tt) (within_sub t.x s.x); y = within_more (lit≤ tt) (within_sub t.y s.y) }

pub across_moderate : {a b : Vec2} → OnMap a → OnMap b → Moderate (right_normal (minus b a))
across_moderate s t = let m = minus_moderate s t in record { x = m.y; y = within_neg m.x }
