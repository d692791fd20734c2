-- The corners of a unit, by the form of its vehicle.
use Prim.Native.Nat.{ℕ}
use mathlib.Core.Path.{◌≡◌, refl, sym, ◌∙◌, ap}
use mathlib.Core.Bool.{Bool, true, false}
use lib.Dec.{eqb}
use lib.ListN.{get_or}
use lib.Seq.{get_or-take}
use lib.IntN.{ℤ, pos, neg_ℤ}
use Rattle.job.specs.declared.Body.{Body}
use Rattle.job.specs.declared.Form.TheVariants.{Short, Long}
use Rattle.job.specs.declared.Unit.{Unit as VehicleUnit}
use Rattle.job.specs.declared.Vehicle.{Vehicle}
use Rattle.job.specs.Empty.{empty_unit}
use Rattle.point_table.specs.declared.Base.{Base}
use Rattle.points.specs.declared.corners.Corner.{Corner}
use Rattle.points.specs.Corners.{unit_of, is_front, body_by, body_of, corner, front_corner, rear_corner, corner_of}
use Rattle.points.specs.Requires.{UnitInUse}

module _ (v : Vehicle) (i : ℕ) where
  pub short_body : v.form ≡ Short → body_by Short v i ≡ body_of v i
  unfolding body_of
  short_body f = rw f

  pub long_body : v.form ≡ Long → UnitInUse v i → (get_or v.units i empty_unit).body ≡ body_of v i
  unfolding body_of
  long_body f u = rw f (sym (ap (λ (x : VehicleUnit). x.body) (get_or-take v.count v.units i empty_unit u.unit)))

  -- in front: the old fields, and the body's own
  pub front_first : v.form ≡ Short → eqb i 0 ≡ true → corner (pos v.overhang) v.front_half_width ≡ front_corner v i
  unfolding front_corner
  front_first f z = rw (f, z)

  abbrev pub own : Corner
  own = corner (pos (body_of v i).front_overhang) (body_of v i).half_width

  pub front_later : v.form ≡ Short → eqb i 0 ≡ false → own ≡ front_corner v i
  unfolding front_corner
  front_later f z = rw (f, z)

  pub front_long : v.form ≡ Long → own ≡ front_corner v i
  unfolding front_corner
  front_long f = rw f

  pub own_corner : {b : Body} {a w : ℤ} → b ≡ body_of v i → a ≡ pos b.front_overhang → w ≡ pos b.half_width → record { along = a; width = w } ≡ own
  own_corner e p q =
      let a = p ∙ ap (λ (b : Body). pos b.front_overhang) e in
      let w = q ∙ ap (λ (b : Body). pos b.half_width) e in
      λ j. record { along = a j; width = w j }

  pub rear_own : {b : Body} {a w : ℤ} → b ≡ body_of v i → a ≡ neg_ℤ (pos b.rear_overhang) → w ≡ pos b.half_width → record { along = a; width = w } ≡ rear_corner v i
  unfolding rear_corner
  rear_own e p q =
      let a = p ∙ ap (λ (b : Body). neg_ℤ (pos b.rear_overhang)) e in
      let w = q ∙ ap (λ (b : Body). pos b.half_width) e in
      λ j. record { along = a j; width = w j }

module _ (v : Vehicle) (b : Base) where
  pub at_front : is_front b ≡ true → front_corner v (unit_of v b) ≡ corner_of v b
  unfolding corner_of
  at_front e = rw e

  pub at_rear : is_front b ≡ false → rear_corner v (unit_of v b) ≡ corner_of v b
  unfolding corner_of
  at_rear e = rw e
