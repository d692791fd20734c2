-- At the placement every unit in use has its length.
use Prim.Native.Nat.{ℕ, zero, suc, ◌+◌, ◌≤◌}
use mathlib.Core.Path.{◌≡◌, sym, subst}
use mathlib.Core.Bool.{true, ◌&&◌}
use mathlib.Core.List.{List, [], ◌∷◌, ◌++◌, map}
use native.Mathlib.Omega.{arith}
use borrow.Author.Tests.{leb-true, eqb-true}
use lib.Dec.{leb}
use lib.ListN.{length, drop, replicate, length-take, length-map}
use lib.Seq.{sets-eq}
use lib.IntN.{pos, ◌*ℤ◌}
use Rattle.std.proofs.lemmas.Bool.{and_parts}
use Rattle.number.specs.Field.{size_at_most}
use Rattle.plane.specs.declared.Vec2.{Vec2}
use Rattle.plane.specs.Length.{heading_length, has_length, Near}
use Rattle.plane.proofs.Lengths.{near_of}
use Rattle.job.specs.declared.Unit.{Unit as VehicleUnit}
use Rattle.job.specs.declared.Vehicle.{Vehicle}
use Rattle.job.specs.Faults.{vehicle_fault}
use Rattle.job.proofs.FaultLaws.{sound_vehicle}
use Rattle.unit.specs.Turn.{placed_by}
use Rattle.unit.proofs.Placing.{rule}
use Rattle.path.specs.Laying.{PathRuns}
use Rattle.walk.specs.Drawn.{station_at}
use Rattle.walk.specs.Tests.{station_sound, path_sound, vehicle_sound, units_in_use}
use Rattle.walk.specs.Units.{wheelbase_of}
use Rattle.walk.specs.Rig.{zero_vector, start_vectors}
use Rattle.walk.specs.Rigid.{AllOfLength}
use Rattle.walk.proofs.UnitsKept.{AllWheelbases, sound_wheelbases}

all_placed : (g : Vec2) (us : List VehicleUnit) (rest : List Vec2) → Near g heading_length (pos 2 *ℤ heading_length) → AllWheelbases us
    → AllOfLength us (map (λ (u : VehicleUnit). placed_by g (wheelbase_of u)) us ++ rest)
all_placed g [] rest n b = tt
all_placed g (u ∷ us) rest n b = (rule g (wheelbase_of u) (record { wheelbase = b.0; heading = n }), all_placed g us rest n b.1)

pub few_units : (v : Vehicle) → vehicle_sound v ≡ true → length (units_in_use v) ≤ 4
unfolding vehicle_sound
few_units v e =
    let c = (sound_vehicle v (eqb-true (vehicle_fault v) 0 e)).count in
    omega (arith, leb-true v.count 4 (and_parts (leb 1 v.count) (leb v.count 4) c).1, length-take v.count v.units)

pub start_kept : (v : Vehicle) (g : Vec2) → vehicle_sound v ≡ true → Near g heading_length (pos 2 *ℤ heading_length) → AllOfLength (units_in_use v) (start_vectors v g)
unfolding start_vectors
start_kept v g e n =
    let us = units_in_use v in
    let xs = map (λ (u : VehicleUnit). placed_by g (wheelbase_of u)) us in
    let h : 0 + length xs ≤ length (replicate 4 zero_vector) = omega (arith, few_units v e, length-map us (λ (u : VehicleUnit). placed_by g (wheelbase_of u))) in
    subst (AllOfLength us) (sym (sets-eq xs (replicate 4 zero_vector) 0 h)) (all_placed g us (drop (0 + length xs) (replicate 4 zero_vector)) n (sound_wheelbases v e))

-- the heading at station 0 of a sound path
heading_of : (p : PathRuns) (i : ℕ) → station_sound (station_at p i) ≡ true → Near (station_at p i).heading heading_length (pos 2 *ℤ heading_length)
unfolding station_sound
heading_of p i e =
    let s = station_at p i in
    let a = and_parts (size_at_most 150000000 s.position.x) (size_at_most 150000000 s.position.y && has_length s.heading heading_length) e in
    near_of s.heading heading_length (and_parts (size_at_most 150000000 s.position.y) (has_length s.heading heading_length) a.1).1

pub start_heading_lem : (p : PathRuns) (n : ℕ) → path_sound (suc n) p ≡ true → Near (station_at p 0).heading heading_length (pos 2 *ℤ heading_length)
unfolding path_sound
start_heading_lem p zero e = heading_of p 0 (and_parts true (station_sound (station_at p 0)) e).1
start_heading_lem p (suc n) e = start_heading_lem p n (and_parts (path_sound (suc n) p) (station_sound (station_at p (suc n))) e).0
