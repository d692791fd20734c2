-- Neither a start nor a test nor a turn of a walk reads a body. Assumes nothing.
use Prim.Native.Nat.{ℕ, ◌+◌}
use mathlib.Core.Path.{◌≡◌, refl}
use mathlib.Core.List.{List, [], ◌∷◌, map}
use Rattle.plane.specs.declared.Vec2.{Vec2}
use Rattle.plane.specs.Vector.{minus}
use Rattle.job.specs.declared.Form.{Form}
use Rattle.job.specs.declared.Unit.{Unit as VehicleUnit}
use Rattle.job.specs.Empty.{cleared_unit}
use Rattle.unit.specs.Turn.{placed_by, turned_by}
use Rattle.walk.specs.Tests.{vector_sound, vectors_sound}
use Rattle.walk.specs.Units.{wheelbase_of, hitch_at, Ahead, none, behind, fold_kept, turn_units}

module _ (form : Form) where
  pub starts : (g : Vec2) (us : List VehicleUnit) → map (λ (u : VehicleUnit). placed_by g (wheelbase_of u)) (map (cleared_unit form) us) ≡ map (λ (u : VehicleUnit). placed_by g (wheelbase_of u)) us
  starts g [] = refl
  starts g (u ∷ us) = rw (starts g us)

  pub vectors : (us : List VehicleUnit) (ds : List Vec2) → vectors_sound (map (cleared_unit form) us) ds ≡ vectors_sound us ds
  unfolding vector_sound vectors_sound
  vectors [] [] = refl
  vectors [] (d ∷ ds) = refl
  vectors (u ∷ us) [] = refl
  vectors (u ∷ us) (d ∷ ds) = rw (vectors us ds)

  abbrev bare : Ahead → Ahead
  bare none = none
  bare (behind a d) = behind (cleared_unit form a) d

  folds : (a : Ahead) (u : VehicleUnit) (d : Vec2) → fold_kept (bare a) (cleared_unit form u) d ≡ fold_kept a u d
  folds none u d = refl
  folds (behind a e) u d = refl

  turns_behind : (i : ℕ) (a : Ahead) (us : List VehicleUnit) (ds : List Vec2) (old new : Vec2) → turn_units i (bare a) (map (cleared_unit form) us) ds old new ≡ turn_units i a us ds old new
  unfolding turn_units
  turns_behind i a us [] old new = refl
  turns_behind i a [] (d ∷ ds) old new = refl
  turns_behind i a (u ∷ us) (d ∷ ds) old new =
      let d' = turned_by d (minus new old) (wheelbase_of u) in
      rw (folds a u d', turns_behind (i + 1) (behind u d') us ds (hitch_at u old d) (hitch_at u new d'))

  pub turns : (us : List VehicleUnit) (ds : List Vec2) (old new : Vec2) → turn_units 1 none (map (cleared_unit form) us) ds old new ≡ turn_units 1 none us ds old new
  turns us ds old new = turns_behind 1 none us ds old new
