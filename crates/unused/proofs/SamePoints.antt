-- The points of rigs that agree but for unused entries. Assumes nothing.
use Prim.Native.Nat.{ℕ, zero, suc}
use mathlib.Core.Path.{◌≡◌, refl, sym, ◌∙◌, ap}
use mathlib.Core.Bool.{Bool, true, false}
use mathlib.Core.List.{List, [], ◌∷◌, map}
use lib.Dec.{eqb}
use lib.ListN.{take, get_or}
use lib.IntN.{pos}
use Rattle.number.specs.Read.{pick}
use Rattle.plane.specs.declared.Vec2.{Vec2}
use Rattle.job.specs.declared.Form.{Form}
use Rattle.job.specs.declared.Form.TheVariants.{Short, Long}
use Rattle.job.specs.declared.Unit.{Unit as VehicleUnit}
use Rattle.job.specs.declared.Vehicle.{Vehicle}
use Rattle.job.specs.Empty.{empty_unit, cleared_unit}
use Rattle.marks.specs.Count.{point_count}
use Rattle.marks.proofs.CountLaws.{same_count}
use Rattle.walk.specs.Drawn.{Drawn, Call}
use Rattle.walk.specs.Tests.{units_in_use}
use Rattle.walk.specs.Units.{hitch_at}
use Rattle.points.specs.declared.UnitPlace.{UnitPlace}
use Rattle.points.specs.declared.corners.Corner.{Corner}
use Rattle.point_table.specs.declared.Base.{Base}
use Rattle.point_table.specs.declared.Base.TheVariants.{Front, Rear, LastRear}
use Rattle.point_table.specs.declared.Width.{Width}
use Rattle.point_table.specs.declared.Width.TheVariants as W
use Rattle.point_table.specs.declared.Row.{Row}
use Rattle.points.specs.Ends.{unit_places, places_of}
use Rattle.points.specs.Corners.{unit_of, body_by, body_of, front_by, front_corner, rear_corner, corner_of}
use Rattle.point_table.specs.Table.{point_rows}
use Rattle.points.specs.Points.{half_width, point_at, rig_points}
use Rattle.stations.specs.Stepping.{points_at}
use Rattle.unused.specs.Same.{SameVehicle, SameRig}

-- where units stand hangs on no body
places : (form : Form) (us : List VehicleUnit) (ds : List Vec2) (f : Vec2) → unit_places (map (cleared_unit form) us) ds f ≡ unit_places us ds f
unfolding unit_places
places form [] ds f = refl
places form (u ∷ us) [] f = refl
places form (u ∷ us) (d ∷ ds) f = rw (places form us ds (hitch_at u f d))

-- a long job's bodies are read as they stand
own_body : (us : List VehicleUnit) (i : ℕ) → (get_or (map (cleared_unit Long) us) i empty_unit).body ≡ (get_or us i empty_unit).body
own_body [] i = refl
own_body (u ∷ us) zero = refl
own_body (u ∷ us) (suc i) = own_body us i

module _ (v u : Vehicle) (e : SameVehicle v u) where
  body_by_lem : (f : Form) → v.form ≡ f → (i : ℕ) → body_by f v i ≡ body_by f u i
  body_by_lem Short p i = rw e.rear_half_width
  body_by_lem Long p i =
      let q : map (cleared_unit Long) (units_in_use v) ≡ map (cleared_unit Long) (units_in_use u) = rw (p, sym e.form ∙ p) at e.units in
      sym (own_body (units_in_use v) i) ∙ ap (λ (us : List VehicleUnit). (get_or us i empty_unit).body) q ∙ own_body (units_in_use u) i

  body_same : (i : ℕ) → body_of v i ≡ body_of u i
  unfolding body_of
  body_same i = body_by_lem v.form refl i ∙ ap (λ (f : Form). body_by f u i) e.form

  front_by_lem : (f : Form) (i : ℕ) → front_by f v i ≡ front_by f u i
  front_by_lem Short i = by (eqb i 0)
    where
      own : Vehicle → Corner
      own x = record { along = pos (body_of x i).front_overhang; width = pos (body_of x i).half_width }

      by : (t : Bool) → pick t (record { along = pos v.overhang; width = pos v.front_half_width }) (own v) ≡ pick t (record { along = pos u.overhang; width = pos u.front_half_width }) (own u)
      by true = rw (e.overhang, e.front_half_width)
      by false = rw (body_same i)
  front_by_lem Long i = rw (body_same i)

  front_same : (i : ℕ) → front_corner v i ≡ front_corner u i
  unfolding front_corner
  front_same i = front_by_lem v.form i ∙ ap (λ (f : Form). front_by f u i) e.form

  rear_same : (i : ℕ) → rear_corner v i ≡ rear_corner u i
  unfolding rear_corner
  rear_same i = rw (body_same i)

  unit_same : (b : Base) → unit_of v b ≡ unit_of u b
  unit_same (Front i) = refl
  unit_same (Rear i) = refl
  unit_same LastRear = rw e.count

  corner_same : (b : Base) → corner_of v b ≡ corner_of u b
  unfolding corner_of
  corner_same b = rw (unit_same b, front_same (unit_of u b), rear_same (unit_of u b))

  width_same : (c : Corner) (w : Width) → half_width v c w ≡ half_width u c w
  width_same c W.Corner = refl
  width_same c W.FrontHalf = rw e.front_half_width
  width_same c W.RearHalf = rw e.rear_half_width

  point_same : (ps : List UnitPlace) (r : Row) → point_at v ps r ≡ point_at u ps r
  unfolding point_at
  point_same ps r = rw (unit_same r.base, corner_same r.base, width_same (corner_of u r.base) r.width)

  places_same : (ds : List Vec2) (f : Vec2) → places_of v ds f ≡ places_of u ds f
  places_same ds f =
      sym (places v.form (units_in_use v) ds f) ∙ ap (λ (us : List VehicleUnit). unit_places us ds f) e.units ∙ places u.form (units_in_use u) ds f

  rig_same : (ds : List Vec2) (f : Vec2) → rig_points v ds f ≡ rig_points u ds f
  unfolding rig_points
  rig_same ds f =
      let rows : ℕ → List Row = λ n. take n point_rows in
      (λ i. map (λ r. point_same (places_of v ds f) r i) (rows (point_count v)))
      ∙ ap (λ (ps : List UnitPlace). map (point_at u ps) (rows (point_count v))) (places_same ds f)
      ∙ ap (λ (n : ℕ). map (point_at u (places_of u ds f)) (rows n)) (same_count v u e.count)

pub points_same : (s t : Drawn) → SameRig s t → (c : Call) → points_at s c ≡ points_at t c
points_same s t e c = rig_same s.vehicle t.vehicle e.vehicle s.vectors _ ∙ rw (e.vectors, e.station)
