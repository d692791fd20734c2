-- The sizes of the measures and of the points.
use Prim.Native.Nat.{ℕ, zero, suc, zero-le, ◌-◌, ◌≤◌, ◌<◌}
use mathlib.Core.Path.{◌≡◌, ◌∙◌, ap}
use mathlib.Core.List.{List, [], ◌∷◌, map}
use native.Mathlib.Omega.{arith}
use lib.Dec.{lit≤}
use lib.ListN.{length, take, get_or, length-take, length-map}
use lib.Seq.{sets, get_or-take}
use lib.IntN.{ℤ, pos, neg_ℤ, ◌+ℤ◌, ◌*ℤ◌}
use lib.Signed.{◌≤ℤ◌}
use Rattle.exact.specs.Size.{Within}
use Rattle.exact.specs.Nearest.{nearest_z}
use Rattle.exact.proofs.Polynomial.{Expr, ◌⊕◌, ◌⊖◌, ◌⊗◌, neg, lit, var}
use Rattle.exact.proofs.Order.{pos-≤}
use Rattle.exact.proofs.Certificate.{NonNeg, ◌⊞◌, ◌⊠◌, hyp, le, le_scaled}
use Rattle.exact.proofs.Sizes.{within_add, within_neg, ≤-size, ≥-size}
use Rattle.exact.proofs.NearestLaws.{nearest_bounded}
use Rattle.number.proofs.CodecMany.{take_sets}
use Rattle.plane.specs.declared.Vec2.{Vec2}
use Rattle.job.specs.declared.Side.{Side}
use Rattle.job.specs.declared.Side.TheVariants.{Left, Right}
use Rattle.job.specs.declared.Vehicle.{Vehicle}
use Rattle.unit.proofs.UnitSizes.{wheelbase_positive, near_coordinates}
use Rattle.walk.specs.Rig.{zero_vector}
use Rattle.marks.specs.Count.{point_count}
use Rattle.marks.proofs.CountLaws.{count_fits}
use Rattle.points.specs.declared.UnitPlace.{UnitPlace}
use Rattle.points.specs.declared.End.{End}
use Rattle.point_table.specs.declared.Base.{Base}
use Rattle.point_table.specs.declared.Base.TheVariants.{Front, Rear, LastRear}
use Rattle.point_table.specs.declared.Along.{Along}
use Rattle.point_table.specs.declared.Along.TheVariants as A
use Rattle.point_table.specs.declared.Width.{Width}
use Rattle.point_table.specs.declared.Width.TheVariants as W
use Rattle.point_table.specs.declared.Row.{Row}
use Rattle.points.specs.declared.corners.Corner.{Corner}
use Rattle.points.specs.Corners.{corner_of}
use Rattle.points.specs.Ends.{no_place, no_places, places_of, front_end, rear_end}
use Rattle.point_table.specs.Table.{point_rows, row_at}
use Rattle.points.specs.Points.{along_of, half_width, side_of, end_of, offset_from, point_at, rig_points, no_points}
use Rattle.points.specs.Requires.{PlaceSized, CornerSized, BodySized, RigAt, UnitsSized, EndSized, BaseInUse, OffsetSized}
use Rattle.points.proofs.EndLaws.{place_more, places_fit, units_sized}
use Rattle.points.proofs.TableLaws.{rows_taken, row_in_use}
use Rattle.points.proofs.Filling.{padded}

-- what the selectors of a row pick
pub along_sized : {c : Corner} → CornerSized c → (a : Along) → Within 50000 (along_of c a)
along_sized s A.Corner = s.along
along_sized s A.Nothing = record { size = lit≤ tt }

pub width_sized : {v : Vehicle} {c : Corner} → BodySized v → CornerSized c → (w : Width) → Within 20000 (half_width v c w)
width_sized b s W.Corner = s.width
width_sized b s W.FrontHalf = record { size = b.front_half_width }
width_sized b s W.RearHalf = record { size = b.rear_half_width }

-- with either sign
pub side_sized : {w : ℤ} (s : Side) → Within 20000 w → Within 20000 (side_of s w)
side_sized Left p = search (p, within_neg p)
side_sized Right p = search (p, within_neg p)

pub end_sized : {v : Vehicle} {ps : List UnitPlace} (b : Base) → BaseInUse v b → UnitsSized v ps → EndSized (end_of v ps b)
end_sized (Front i) u p = let s = p.units i u.unit in record { place = s.front; wheelbase = s.wheelbase; vector = s.vector }
end_sized (Rear i) u p = let s = p.units i u.unit in record { place = s.rear; wheelbase = s.wheelbase; vector = s.vector }
end_sized {v} LastRear u p = let s = p.units (v.count - 1) u.unit in record { place = s.rear; wheelbase = s.wheelbase; vector = s.vector }

-- a coordinate of an offset: x and y are no larger than l
module _ (x y l a s : ℤ) (l1 : pos 1 ≤ℤ l) (xLow : neg_ℤ l ≤ℤ x) (xHigh : x ≤ℤ l) (yLow : neg_ℤ l ≤ℤ y) (yHigh : y ≤ℤ l) (along : Within 50000 a) (side : Within 20000 s) where
  abbrev ρ : List ℤ
  ρ = x ∷ y ∷ l ∷ a ∷ s ∷ []

  abbrev SUM : Expr
  SUM = var 0 ⊗ var 3 ⊕ var 1 ⊗ var 4

  abbrev LIMIT : Expr
  LIMIT = var 2 ⊗ lit 70000

  x_above : NonNeg ρ (var 2 ⊖ var 0)
  x_above = hyp (var 0) (var 2) xHigh

  x_below : NonNeg ρ (var 0 ⊖ neg (var 2))
  x_below = hyp (neg (var 2)) (var 0) xLow

  y_above : NonNeg ρ (var 2 ⊖ var 1)
  y_above = hyp (var 1) (var 2) yHigh

  y_below : NonNeg ρ (var 1 ⊖ neg (var 2))
  y_below = hyp (neg (var 2)) (var 1) yLow

  ahead : NonNeg ρ (lit 50000 ⊖ var 3)
  ahead = hyp (var 3) (lit 50000) (≤-size along)

  behind : NonNeg ρ (var 3 ⊖ neg (lit 50000))
  behind = hyp (neg (lit 50000)) (var 3) (≥-size along)

  right : NonNeg ρ (lit 20000 ⊖ var 4)
  right = hyp (var 4) (lit 20000) (≤-size side)

  left : NonNeg ρ (var 4 ⊖ neg (lit 20000))
  left = hyp (neg (lit 20000)) (var 4) (≥-size side)

  pub offset_within : Within 70000 (nearest_z (x *ℤ a +ℤ y *ℤ s) l)
  offset_within =
      nearest_bounded (x *ℤ a +ℤ y *ℤ s) l 70000 l1
      (le_scaled {ρ = ρ} (lit 2) (neg LIMIT) SUM (pos-≤ (lit≤ tt)) (x_below ⊠ behind ⊞ x_above ⊠ ahead ⊞ y_below ⊠ left ⊞ y_above ⊠ right) tt)
      (le_scaled {ρ = ρ} (lit 2) SUM LIMIT (pos-≤ (lit≤ tt)) (x_above ⊠ behind ⊞ x_below ⊠ ahead ⊞ y_above ⊠ left ⊞ y_below ⊠ right) tt)

negated_low : {l x : ℤ} → x ≤ℤ l → neg_ℤ l ≤ℤ neg_ℤ x
negated_low {l} {x} h = le {ρ = l ∷ x ∷ []} (neg (var 0)) (neg (var 1)) (hyp (var 1) (var 0) h) tt

negated_high : {l x : ℤ} → neg_ℤ l ≤ℤ x → neg_ℤ x ≤ℤ l
negated_high {l} {x} h = le {ρ = l ∷ x ∷ []} (neg (var 1)) (var 0) (hyp (neg (var 0)) (var 1) h) tt

pub offset_sized : {e : End} {a s : ℤ} → OffsetSized e a s → PlaceSized 70000 (offset_from e a s)
offset_sized {e} {a} {s} p =
    let w = p.end.wheelbase in
    let l1 = wheelbase_positive w in
    let k = near_coordinates w p.end.vector in
    record {
      x = offset_within e.d.x e.d.y e.wheelbase a s l1 k.0 k.1 k.2 k.3 p.along p.side;
      y = offset_within e.d.y (neg_ℤ e.d.x) e.wheelbase a s l1 k.2 k.3 (negated_low k.1) (negated_high k.0) p.along p.side;
    }

-- a row's offset is in range
pub row_asked : {v : Vehicle} {ps : List UnitPlace} (w : Row) → BaseInUse v w.base → BodySized v → UnitsSized v ps
    → let c = corner_of v w.base in OffsetSized (end_of v ps w.base) (along_of c w.along) (side_of w.side (half_width v c w.width))
row_asked w u b p =
    let s = b.corner w.base u in
    record { end = end_sized w.base u p; along = along_sized s w.along; side = side_sized w.side (width_sized b s w.width) }

-- every point of a rig at a station lies within 160,000,000
point_sized : {v : Vehicle} {ps : List UnitPlace} (w : Row) → BaseInUse v w.base → BodySized v → UnitsSized v ps → PlaceSized 160000000 (point_at v ps w)
unfolding point_at
point_sized w u b p =
    let o = row_asked w u b p in
    let e = o.end.place in
    let q = offset_sized o in
    place_more (lit≤ tt) (record { x = within_add e.x q.x; y = within_add e.y q.y })

mapped_sized : {A : Type 0} (b : ℕ) (g : A → Vec2) (xs : List A) (z : A) → ((k : ℕ) → k < length xs → PlaceSized b (g (get_or xs k z))) → (k : ℕ) → PlaceSized b (get_or (map g xs) k zero_vector)
mapped_sized b g [] z h k = record { x = record { size = zero-le }; y = record { size = zero-le } }
mapped_sized b g (x ∷ xs) z h zero = h 0 (omega arith)
mapped_sized b g (x ∷ xs) z h (suc k) = mapped_sized b g xs z (λ i l. h (suc i) (omega arith)) k

-- as many points as the vehicle has
module _ (v : Vehicle) (m : v.count ≤ 4) where
  pub points_count : (ds : List Vec2) (f : Vec2) → length (rig_points v ds f) ≡ point_count v
  unfolding rig_points
  points_count ds f = length-map (take (point_count v) point_rows) (point_at v (places_of v ds f)) ∙ rows_taken v m

  -- the array of the points holds them first
  pub points_taken : (ds : List Vec2) (f : Vec2) → take (point_count v) (sets no_points 0 (rig_points v ds f)) ≡ rig_points v ds f
  points_taken ds f = take_sets no_points (rig_points v ds f) (point_count v) (points_count ds f) (count_fits v m)

-- of any vehicle, no more than it has
pub points_at_most : (v : Vehicle) (ds : List Vec2) (f : Vec2) → length (rig_points v ds f) ≤ point_count v
unfolding rig_points
points_at_most v ds f = omega (arith, length-map (take (point_count v) point_rows) (point_at v (places_of v ds f)), length-take (point_count v) point_rows)

pub points_sized : {v : Vehicle} {ds : List Vec2} {f : Vec2} → RigAt v ds f → (k : ℕ) → PlaceSized 160000000 (get_or (rig_points v ds f) k zero_vector)
unfolding rig_points
points_sized {v} {ds} {f} a = mapped_sized 160000000 _ (take (point_count v) point_rows) (row_at 0) (λ k h. by k (omega (arith, rows_taken v a.rig.most)))
  where
    by : (k : ℕ) → k < point_count v → PlaceSized 160000000 (point_at v (places_of v ds f) (get_or (take (point_count v) point_rows) k (row_at 0)))
    by k h = rw (get_or-take (point_count v) point_rows k (row_at 0) h) (point_sized (row_at k) (row_in_use v a.rig.least a.rig.most k h) a.body (units_sized a))

-- the same from the array of the units' places
module _ {v : Vehicle} {ds : List Vec2} {f : Vec2} (a : RigAt v ds f) where
  abbrev places : List UnitPlace
  places = sets no_places 0 (places_of v ds f)

  place_same : (i : ℕ) → get_or places i no_place ≡ get_or (places_of v ds f) i no_place
  place_same = padded 4 no_place (places_of v ds f) (places_fit a)

  pub array_sized : UnitsSized v places
  array_sized = let s = units_sized a in record { least = s.least; most = s.most; units = λ i h. rw (place_same i) (s.units i h) }

  end_same : (b : Base) → end_of v places b ≡ end_of v (places_of v ds f) b
  end_same (Front i) = ap front_end (place_same i)
  end_same (Rear i) = ap rear_end (place_same i)
  end_same LastRear = ap rear_end (place_same (v.count - 1))

  point_same : (r : Row) → point_at v places r ≡ point_at v (places_of v ds f) r
  unfolding point_at
  point_same r = rw (end_same r.base)

  pub array_points : map (point_at v places) (take (point_count v) point_rows) ≡ rig_points v ds f
  unfolding rig_points
  array_points = λ j. map (λ r. point_same r j) (take (point_count v) point_rows)
