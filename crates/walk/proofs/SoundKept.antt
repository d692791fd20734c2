-- A placement, and a made step, leave a record that passes 27.
use Prim.Native.Nat.{ℕ, zero, suc, ◌+◌, ◌≤◌, ◌<◌}
use mathlib.Core.Path.{◌≡◌, refl, sym, subst}
use mathlib.Core.Bool.{Bool, true, false}
use mathlib.Core.List.{List, [], ◌∷◌, ◌++◌, map}
use native.Mathlib.Omega.{arith}
use borrow.Author.Tests.{lt-ltb}
use lib.ListN.{length, drop, replicate, length-map}
use lib.Seq.{sets-eq}
use lib.IntN.{pos, ◌*ℤ◌}
use Rattle.std.proofs.lemmas.Bool.{and_parts, and_from}
use Rattle.number.specs.Read.{pick}
use Rattle.plane.specs.declared.Vec2.{Vec2}
use Rattle.plane.specs.Vector.{minus}
use Rattle.plane.specs.Length.{heading_length, has_length, Near}
use Rattle.plane.proofs.Lengths.{near_of, of_near}
use Rattle.job.specs.declared.Unit.{Unit as VehicleUnit}
use Rattle.job.specs.declared.Vehicle.{Vehicle}
use Rattle.unit.specs.Turn.{turned_by, too_far, placed_by, Wheelbase}
use Rattle.unit.proofs.Placing.{rule}
use Rattle.walk.specs.Drawn.{Drawn, Call}
use Rattle.walk.specs.Tests.{vehicle_sound, vector_sound, vectors_sound, units_in_use, record_sound, at_last}
use Rattle.walk.specs.Units.{wheelbase_of, hitch_at, Ahead, none, behind, fold_kept, Turning, turned, stopped, onto, turn_units}
use Rattle.walk.specs.Rig.{zero_vector, start_vectors, drawn_start, turning_of}
use Rattle.walk.proofs.UnitsKept.{AllWheelbases, sound_wheelbases, turned_near}
use Rattle.walk.proofs.StartKept.{few_units}
use Rattle.walk.proofs.RecordTests.{sound_record, not_last_lem}

-- a record passes by its three parts
pub sound_again : (asked : ℕ) (s : Drawn) → vehicle_sound s.vehicle ≡ true → s.station < asked → vectors_sound (units_in_use s.vehicle) s.vectors ≡ true → record_sound asked s ≡ true
unfolding record_sound
sound_again asked s v k d = and_from _ _ v (and_from _ _ (lt-ltb s.station asked k) d)

-- one unit and those behind it, by what its tests and their turns came to
module _ (i : ℕ) (u : VehicleUnit) (us : List VehicleUnit) (d : Vec2) (ds ds' : List Vec2) (f : Vec2) (b : Wheelbase (wheelbase_of u)) (n : has_length d (wheelbase_of u) ≡ true) where
  abbrev d' : Vec2
  d' = turned_by d f (wheelbase_of u)

  by_tests : (far fold : Bool) (t : Turning) → too_far f (wheelbase_of u) ≡ far → pick far (stopped 22 i) (pick fold (onto d' t) (stopped 23 i)) ≡ turned ds'
      → ((xs : List Vec2) → t ≡ turned xs → vectors_sound us xs ≡ true) → vectors_sound (u ∷ us) ds' ≡ true
  unfolding vector_sound vectors_sound
  by_tests true fold t e q k = absurd (let z : ◌≡◌ {A = ℕ} 0 1 = cc in omega arith)
  by_tests false false t e q k = absurd (let z : ◌≡◌ {A = ℕ} 0 1 = cc in omega arith)
  by_tests false true (stopped m j) e q k = absurd (let z : ◌≡◌ {A = ℕ} 0 1 = cc in omega arith)
  by_tests false true (turned xs) e q k =
      let z : d' ∷ xs ≡ ds' = cc in
      let l = of_near d' (wheelbase_of u) (turned_near d f u b (near_of d (wheelbase_of u) n) e).0 in
      subst (λ (zs : List Vec2). vectors_sound (u ∷ us) zs ≡ true) z (and_from _ _ l (k xs refl))

vectors_kept : (i : ℕ) (a : Ahead) (us : List VehicleUnit) (ds ds' : List Vec2) (old new : Vec2) → AllWheelbases us → vectors_sound us ds ≡ true → turn_units i a us ds old new ≡ turned ds' → vectors_sound us ds' ≡ true
unfolding turn_units vector_sound vectors_sound
vectors_kept i a us [] ds' old new b s e = let z : [] ≡ ds' = cc in subst (λ (zs : List Vec2). vectors_sound us zs ≡ true) z s
vectors_kept i a [] (d ∷ ds) ds' old new b s e = let z : d ∷ ds ≡ ds' = cc in subst (λ (zs : List Vec2). vectors_sound [] zs ≡ true) z s
vectors_kept i a (u ∷ us) (d ∷ ds) ds' old new b s e =
    let f = minus new old in
    let v = turned_by d f (wheelbase_of u) in
    let p = and_parts (has_length d (wheelbase_of u)) (vectors_sound us ds) s in
    by_tests i u us d ds ds' f b.0 p.0 (too_far f (wheelbase_of u)) (fold_kept a u v)
    (turn_units (i + 1) (behind u v) us ds (hitch_at u old d) (hitch_at u new v)) refl e
    (λ xs q. vectors_kept (i + 1) (behind u v) us ds xs (hitch_at u old d) (hitch_at u new v) b.1 p.1 q)

-- a made step
pub record_kept : (s : Drawn) (c : Call) (ds : List Vec2) → record_sound c.asked s ≡ true → at_last c.asked s ≡ false → turning_of s c ≡ turned ds
    → record_sound c.asked (record { vehicle = s.vehicle; station = s.station + 1; vectors = ds }) ≡ true
record_kept s c ds e l t =
    let r = sound_record c.asked s e in
    sound_again c.asked _ r.vehicle (not_last_lem c.asked s l)
    (vectors_kept 1 none (units_in_use s.vehicle) s.vectors ds _ _ (sound_wheelbases s.vehicle r.vehicle) r.vectors t)

-- a placement: each unit in use has its length, the vectors past them are zero
zeros_pass : (n k : ℕ) → vectors_sound [] (drop n (replicate k zero_vector)) ≡ true
unfolding vector_sound vectors_sound
zeros_pass zero zero = refl
zeros_pass zero (suc k) = zeros_pass zero k
zeros_pass (suc n) zero = refl
zeros_pass (suc n) (suc k) = zeros_pass n k

placed_vectors : (g : Vec2) (us : List VehicleUnit) (rest : List Vec2) → Near g heading_length (pos 2 *ℤ heading_length) → AllWheelbases us → vectors_sound [] rest ≡ true
    → vectors_sound us (map (λ (u : VehicleUnit). placed_by g (wheelbase_of u)) us ++ rest) ≡ true
unfolding vector_sound vectors_sound
placed_vectors g [] rest n b z = z
placed_vectors g (u ∷ us) rest n b z = and_from _ _ (of_near _ (wheelbase_of u) (rule g (wheelbase_of u) (record { wheelbase = b.0; heading = n }))) (placed_vectors g us rest n b.1 z)

pub start_sound : (asked : ℕ) (v : Vehicle) (g : Vec2) → 1 ≤ asked → vehicle_sound v ≡ true → Near g heading_length (pos 2 *ℤ heading_length) → record_sound asked (drawn_start v g) ≡ true
unfolding start_vectors
start_sound asked v g k e n =
    let us = units_in_use v in
    let xs = map (λ (u : VehicleUnit). placed_by g (wheelbase_of u)) us in
    let h : 0 + length xs ≤ length (replicate 4 zero_vector) = omega (arith, few_units v e, length-map us (λ (u : VehicleUnit). placed_by g (wheelbase_of u))) in
    sound_again asked (drawn_start v g) e k
    (subst (λ (ds : List Vec2). vectors_sound us ds ≡ true) (sym (sets-eq xs (replicate 4 zero_vector) 0 h))
    (placed_vectors g us (drop (0 + length xs) (replicate 4 zero_vector)) n (sound_wheelbases v e) (zeros_pass (0 + length xs) 4)))
