-- "Each coordinate is multiplied by 10,000, rounded once by the float unit, then taken to the nearest tick, halves away from zero" (02, N4).
use Rattle.std.specs.Prelude.{ℕ, ◌*◌, ◌≡◌, Bool, true, false, T, leb, ℤ, pos, neg_ℤ, Float}
use Rattle.std.specs.Float.{nan, inf, fin, binary64}
use Rattle.std.specs.Float.Ieee.{up, down, mul}
use Rattle.exact.specs.Nearest.{nearest_z, IsNearest}
use Rattle.exact.specs.Size.{Within}
use Rattle.plane.specs.declared.Vec2.{Vec2}
use Rattle.metres.specs.declared.Vertex.{Vertex}

-- "exceeds 15,000 m in size", and what that is in ticks
abbrev pub metres_most : ℕ
metres_most = 15000

abbrev pub ticks_most : ℕ
ticks_most = 150000000

-- |x| ≤ b, which is false of what is not finite; m · 2^e is m · up e / down e
unfoldable pub size_at_most : ℕ → Float → Bool
size_at_most b nan = false
size_at_most b (inf s) = false
size_at_most b (fin s m e) = leb (m * up e) (b * down e)

pub record Sized (b : ℕ) (x : Float) : Type 0 where
  pub sized : T (size_at_most b x)

-- a size with its sign
abbrev pub signed : Bool → ℕ → ℤ
signed false n = pos n
signed true n = neg_ℤ (pos n)

-- the whole number nearest to x, as every "nearest" of the papers; 0 for what is not finite
unfoldable pub nearest_whole : Float → ℤ
nearest_whole nan = pos 0
nearest_whole (inf s) = pos 0
nearest_whole (fin s m e) = nearest_z (signed s (m * up e)) (pos (down e))

-- 10,000 is 625 · 2^4
abbrev pub ticks_a_metre : Float
ticks_a_metre = fin false 625 (pos 4)

-- "multiplied by 10,000, rounded once by the float unit": what `mul` is
abbrev pub product : Float → Float
product x = mul binary64 x ticks_a_metre

unfoldable pub tick_of : Float → ℤ
tick_of x = nearest_whole (product x)

-- what the conversion of a vertex asks, and what it answers
pub record VertexWithin (v : Vertex) : Type 0 where
  pub x : Sized metres_most v.x
  pub y : Sized metres_most v.y

abbrev pub vertex_ticks : Vertex → Vec2
vertex_ticks v = record { x = tick_of v.x; y = tick_of v.y }

-- the claim: a tick is the nearest whole number to the value ± m · 2^e of the rounded product; of a coordinate within 15,000 m the product has such a value,
-- at most 150,000,000 in size, and so has the tick
pub record TickRule : Type 0 where
  pub nearest : (x : Float) (s : Bool) (m : ℕ) (e : ℤ) → product x ≡ fin s m e → tick_of x ≡ nearest_z (signed s (m * up e)) (pos (down e))
  pub sentence : (x : Float) (s : Bool) (m : ℕ) (e : ℤ) → product x ≡ fin s m e → IsNearest (signed s (m * up e)) (pos (down e)) (tick_of x)
  pub finite : (x : Float) → Sized metres_most x → Sized ticks_most (product x)
  pub bound : (x : Float) → Sized metres_most x → Within ticks_most (tick_of x)
