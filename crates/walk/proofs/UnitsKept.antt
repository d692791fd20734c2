-- The units of a step: where all turn, each keeps its length and stays near the rigid unit.
use Prim.Native.Nat.{ℕ, ◌+◌}
use mathlib.Core.Path.{◌≡◌, refl, subst}
use mathlib.Core.Bool.{Bool, true, false, ◌&&◌}
use mathlib.Core.List.{List, [], ◌∷◌}
use native.Mathlib.Omega.{arith}
use borrow.Author.Tests.{eqb-true}
use lib.Dec.{eqb}
use lib.IntN.{pos, ◌*ℤ◌}
use Rattle.std.proofs.lemmas.Bool.{and_parts}
use Rattle.number.specs.Read.{pick}
use Rattle.plane.specs.declared.Vec2.{Vec2}
use Rattle.plane.specs.Vector.{minus}
use Rattle.plane.specs.Length.{Near}
use Rattle.job.specs.declared.Form.{Form}
use Rattle.job.specs.declared.Unit.{Unit as VehicleUnit}
use Rattle.job.specs.declared.Vehicle.{Vehicle}
use Rattle.job.specs.Allowed.{wheelbase_allowed, hitch_allowed, fold_allowed, unit_allowed}
use Rattle.job.specs.Faults.{fault_of, measures_fault, body_fault, unit_fault_at, units_fault, vehicle_fault}
use Rattle.job.proofs.FaultLaws.{sound_vehicle, first_none, or_none}
use Rattle.unit.specs.Turn.{turned_by, too_far, Wheelbase}
use Rattle.unit.proofs.UnitTests.{wheelbase_of_lem, move_of_lem}
use Rattle.unit.proofs.Turning.{rule}
use Rattle.walk.specs.Tests.{vehicle_sound, units_in_use}
use Rattle.walk.specs.Units.{wheelbase_of, hitch_at, Ahead, behind, fold_kept, Turning, turned, stopped, onto, turn_units}
use Rattle.walk.specs.Rigid.{NearRigid, AllNearRigid, AllOfLength}

-- the wheelbases of the units in use are in range
abbrev pub AllWheelbases : List VehicleUnit → Type 0
AllWheelbases [] = Unit {0}
AllWheelbases (u ∷ us) = Wheelbase (wheelbase_of u) × AllWheelbases us

all_wheelbases : (form : Form) (count i : ℕ) (us : List VehicleUnit) → fault_of (unit_fault_at form count) (λ k u. k + 1) (λ k. 0) i us ≡ 0 → AllWheelbases us
unfolding fault_of
all_wheelbases form count i [] h = tt
all_wheelbases form count i (u ∷ us) h =
    let f = first_none (unit_fault_at form count i u) (fault_of (unit_fault_at form count) (λ k v. k + 1) (λ k. 0) (i + 1) us) h in
    let m = (first_none (measures_fault (eqb i 0) (eqb (i + 1) count) u) (body_fault form u.body) f.0).0 in
    let a = (or_none (unit_allowed (eqb i 0) (eqb (i + 1) count) u) 3 0 m).0 in (
      wheelbase_of_lem u.wheelbase (and_parts (wheelbase_allowed u.wheelbase) (hitch_allowed (eqb (i + 1) count) u.wheelbase u.hitch && fold_allowed (eqb i 0) u.fold) a).0,
      all_wheelbases form count (i + 1) us f.1,
    )

pub sound_wheelbases : (v : Vehicle) → vehicle_sound v ≡ true → AllWheelbases (units_in_use v)
unfolding vehicle_sound units_fault
sound_wheelbases v e = all_wheelbases v.form v.count 0 (units_in_use v) (sound_vehicle v (eqb-true (vehicle_fault v) 0 e)).units

-- one unit that turned
abbrev pub Kept : List VehicleUnit → List Vec2 → List Vec2 → Vec2 → Vec2 → Type 0
Kept us ds ds' old new = AllOfLength us ds' × AllNearRigid us ds ds' old new

pub turned_near : (d f : Vec2) (u : VehicleUnit) → Wheelbase (wheelbase_of u) → Near d (wheelbase_of u) (pos 2 *ℤ wheelbase_of u) → too_far f (wheelbase_of u) ≡ false
    → Near (turned_by d f (wheelbase_of u)) (wheelbase_of u) (pos 2 *ℤ wheelbase_of u) × NearRigid d f (turned_by d f (wheelbase_of u))
turned_near d f u b n e =
    let k = rule d f (wheelbase_of u) (record { wheelbase = b; near = n; move = move_of_lem f (wheelbase_of u) e }) in
    (k.length, record { line = k.line; side = k.side })

-- one unit and those behind it, by what its tests and their turns came to
module _ (i : ℕ) (u : VehicleUnit) (us : List VehicleUnit) (d : Vec2) (ds : List Vec2) (ds' : List Vec2) (old new : Vec2)
    (b : Wheelbase (wheelbase_of u)) (n : Near d (wheelbase_of u) (pos 2 *ℤ wheelbase_of u)) where
  abbrev f : Vec2
  f = minus new old

  abbrev d' : Vec2
  d' = turned_by d f (wheelbase_of u)

  kept_onto : too_far f (wheelbase_of u) ≡ false → (xs : List Vec2) → Kept us ds xs (hitch_at u old d) (hitch_at u new d') → Kept (u ∷ us) (d ∷ ds) (d' ∷ xs) old new
  kept_onto e xs k = let t = turned_near d f u b n e in ((t.0, k.0), (t.1, k.1))

  by_tests : (far fold : Bool) (t : Turning) → too_far f (wheelbase_of u) ≡ far → pick far (stopped 22 i) (pick fold (onto d' t) (stopped 23 i)) ≡ turned ds'
      → ((xs : List Vec2) → t ≡ turned xs → Kept us ds xs (hitch_at u old d) (hitch_at u new d')) → Kept (u ∷ us) (d ∷ ds) ds' old new
  by_tests true fold t e q k = absurd (let z : ◌≡◌ {A = ℕ} 0 1 = cc in omega arith)
  by_tests false false t e q k = absurd (let z : ◌≡◌ {A = ℕ} 0 1 = cc in omega arith)
  by_tests false true (stopped m j) e q k = absurd (let z : ◌≡◌ {A = ℕ} 0 1 = cc in omega arith)
  by_tests false true (turned xs) e q k =
      let z : d' ∷ xs ≡ ds' = cc in
      subst (λ (zs : List Vec2). Kept (u ∷ us) (d ∷ ds) zs old new) z (kept_onto e xs (k xs refl))

-- all of them
pub units_kept : (i : ℕ) (a : Ahead) (us : List VehicleUnit) (ds ds' : List Vec2) (old new : Vec2)
    → AllWheelbases us → AllOfLength us ds → turn_units i a us ds old new ≡ turned ds' → Kept us ds ds' old new
unfolding turn_units
units_kept i a [] ds ds' old new b l e = (tt, tt)
units_kept i a (u ∷ us) [] ds' old new b l e = absurd l
units_kept i a (u ∷ us) (d ∷ ds) ds' old new b l e =
    let v = turned_by d (minus new old) (wheelbase_of u) in
    by_tests i u us d ds ds' old new b.0 l.0 (too_far (minus new old) (wheelbase_of u)) (fold_kept a u v)
    (turn_units (i + 1) (behind u v) us ds (hitch_at u old d) (hitch_at u new v)) refl e
    (λ xs q. units_kept (i + 1) (behind u v) us ds xs (hitch_at u old d) (hitch_at u new v) b.1 l.1 q)
