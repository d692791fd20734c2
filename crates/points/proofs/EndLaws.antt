-- Where the units of a rig stand: hitch by hitch, and how far from the first front point they may be.
use Prim.Native.Nat.{ℕ, zero, suc, ◌+◌, ◌-◌, ◌*◌, ◌≤◌, ◌<◌}
use mathlib.Core.Path.{◌≡◌}
use mathlib.Core.List.{List, [], ◌∷◌}
use native.Mathlib.Nat as NatL
use native.Mathlib.Omega.{arith}
use native.Mathlib.Numerals.{add-one}
use native.Mathlib.Decide.{dec_le}
use lib.ListN.{length, take, drop, get_or, set, get_or-eq_default}
use lib.Seq.{sets, get_or-take, length-take-le}
use lib.IntN.{ℤ, pos, ◌*ℤ◌}
use Rattle.std.proofs.lemmas.List.{drop_more}
use Rattle.exact.proofs.Polynomial.{◌⊖◌, ◌⊗◌, lit, var}
use Rattle.exact.proofs.Certificate.{◌⊞◌, ◌⊠◌, ◌·◌, hyp, never}
use Rattle.exact.proofs.Sizes.{within_sub, within_more}
use Rattle.plane.specs.declared.Vec2.{Vec2}
use Rattle.plane.specs.Vector.{Moderate}
use Rattle.plane.specs.Length.{Near}
use Rattle.number.proofs.ManyLaws.{next_of, none_of}
use Rattle.job.specs.declared.Unit.{Unit as VehicleUnit}
use Rattle.job.specs.declared.Vehicle.{Vehicle}
use Rattle.job.specs.Empty.{empty_unit}
use Rattle.unit.specs.Turn.{Wheelbase}
use Rattle.walk.specs.Tests.{units_in_use}
use Rattle.walk.specs.Units.{rear_axle, hitch_at}
use Rattle.walk.specs.Rig.{zero_vector}
use Rattle.walk.specs.Inner.{UnitDrawn, HitchReady, RigReady}
use Rattle.walk.proofs.DrawLaws.{vector_sized, hitch_within}
use Rattle.points.specs.declared.UnitPlace.{UnitPlace}
use Rattle.points.specs.Ends.{place_of, no_place, unit_places, places_of}
use Rattle.points.specs.Requires.{PlaceSized, RigAt, UnitSized, UnitsSized}

-- a place's size may be given larger
pub place_more : {a b : ℕ} {p : Vec2} → a ≤ b → PlaceSized a p → PlaceSized b p
place_more h s = record { x = within_more h s.x; y = within_more h s.y }

-- what a sum of places asks
pub place_moderate : {b : ℕ} {p : Vec2} → b ≤ 2000000000 → PlaceSized b p → Moderate p
place_moderate h s = record { x = within_more h s.x; y = within_more h s.y }

-- an empty unit or a zero vector is out of range
no_length : {l : ℤ} → Wheelbase l → Near zero_vector l (pos 2 *ℤ l) → ⊥
no_length {l} w n =
    let ρ : List ℤ = l ∷ [] in
    let above = hyp {ρ = ρ} (lit 5000) (var 0) w.least in
    never 24989999 (hyp {ρ = ρ} (var 0 ⊗ var 0 ⊖ lit 2 ⊗ var 0) (lit 0) n.low ⊞ above ⊠ above ⊞ 9998 · above) tt

-- so a rig whose units are in range has its units and vectors
module _ {v : Vehicle} {ds : List Vec2} (rig : RigReady v ds) where
  vector_there : {i : ℕ} → i < v.count → i < length ds
  vector_there {i} h = by (dec_le (length ds) i)
    where
      by : Dec (length ds ≤ i) → i < length ds
      by (no k) = omega arith
      by (yes k) =
          let u = rig.units i h in
          absurd (no_length u.ready.wheelbase (rw (get_or-eq_default ds zero_vector {n = i} k) at u.near))

  unit_there_lem : {i : ℕ} → i < v.count → i < length v.units
  unit_there_lem {i} h = by (dec_le (length v.units) i)
    where
      by : Dec (length v.units ≤ i) → i < length v.units
      by (no k) = omega arith
      by (yes k) = absurd (rw (get_or-eq_default v.units empty_unit {n = i} k) at (rig.units i h).ready.wheelbase.least).le

  pub units_enough : v.count ≤ length v.units
  units_enough = let h = unit_there_lem {i = v.count - 1} (omega (arith, rig.least)) in omega (arith, rig.least)

  pub vectors_enough : v.count ≤ length ds
  vectors_enough = let h = vector_there {i = v.count - 1} (omega (arith, rig.least)) in omega (arith, rig.least)

-- the first n units from place i on, whose front point is p, over an array that is filled in so far
module _ (us : List VehicleUnit) (ds : List Vec2) (n i : ℕ) (p : Vec2) (ps : List UnitPlace) where
  pub placed_more : n ≤ length us → n ≤ length ds → i < n
      → sets (set ps i (place_of (get_or us i empty_unit) (get_or ds i zero_vector) p)) (i + 1) (unit_places (drop (i + 1) (take n us)) (drop (i + 1) ds) (hitch_at (get_or us i empty_unit) p (get_or ds i zero_vector)))
      ≡ sets ps i (unit_places (drop i (take n us)) (drop i ds) p)
  unfolding unit_places
  placed_more hu hd h = rw (next_of us n i empty_unit hu h, drop_more ds i zero_vector (omega arith), add-one)

  pub placed_all : n ≤ i → sets ps i (unit_places (drop i (take n us)) (drop i ds) p) ≡ ps
  unfolding unit_places
  placed_all h = rw (none_of us n i h)

-- no more places than units
places_count : (us : List VehicleUnit) (ds : List Vec2) (p : Vec2) → length (unit_places us ds p) ≤ length us
unfolding unit_places
places_count [] ds p = omega arith
places_count (u ∷ us) [] p = omega arith
places_count (u ∷ us) (d ∷ ds) p = let h = places_count us ds (hitch_at u p d) in omega arith

-- the places that a unit with its front point at p leads to
module _ {u : VehicleUnit} {d : Vec2} (r : UnitDrawn u d) {b : ℕ} {p : Vec2} (s : PlaceSized b p) where
  pub hitch_placed : PlaceSized (b + 400000) (hitch_at u p d)
  hitch_placed = let w = hitch_within r p b (s.x, s.y) in record { x = w.0; y = w.1 }

  axle_placed : PlaceSized (b + 200000) (rear_axle p d)
  axle_placed = let w = vector_sized r in record { x = within_sub s.x w.x; y = within_sub s.y w.y }

  unit_placed : b + 400000 ≤ 152000000 → UnitSized (place_of u d p)
  unit_placed h = record { front = place_more (omega arith) s; rear = place_more (omega arith) axle_placed; wheelbase = r.ready.wheelbase; vector = r.near }

-- no unit lies farther from the first front point than 400,000 for each unit ahead and itself
places_sized : (us : List VehicleUnit) (ds : List Vec2) (p : Vec2) (b : ℕ) → b + 400000 * length us ≤ 152000000
    → ((i : ℕ) → i < length us → UnitDrawn (get_or us i empty_unit) (get_or ds i zero_vector)) → PlaceSized b p
    → (i : ℕ) → i < length us → UnitSized (get_or (unit_places us ds p) i no_place)
unfolding unit_places
places_sized [] ds p b m r s i h = absurd (NatL.not-suc-le-zero h)
places_sized (u ∷ us) [] p b m r s i h = let here = r i h in absurd (no_length here.ready.wheelbase here.near)
places_sized (u ∷ us) (d ∷ ds) p b m r s zero h = unit_placed (r 0 (omega arith)) s (omega arith)
places_sized (u ∷ us) (d ∷ ds) p b m r s (suc i) h =
    places_sized us ds (hitch_at u p d) (b + 400000) (omega arith) (λ i k. r (suc i) (omega arith)) (hitch_placed (r 0 (omega arith)) s) i (NatL.le_of_suc-le-suc h)

module _ {v : Vehicle} {ds : List Vec2} {f : Vec2} (a : RigAt v ds f) where
  in_use : length (units_in_use v) ≡ v.count
  in_use = length-take-le v.count v.units (units_enough a.rig)

  unit_in_use : (i : ℕ) → i < length (units_in_use v) → UnitDrawn (get_or (units_in_use v) i empty_unit) (get_or ds i zero_vector)
  unit_in_use i h = let k : i < v.count = omega (arith, in_use) in rw (get_or-take v.count v.units i empty_unit k) (a.rig.units i k)

  -- a unit can be drawn from a front point that lies within 400,000 a unit of the first
  pub next_ready : {i : ℕ} {p : Vec2} → i < v.count → PlaceSized (150000000 + 400000 * i) p → HitchReady (get_or v.units i empty_unit) p (get_or ds i zero_vector)
  next_ready {i} h s =
      let w = place_more {b = 160000000} (omega (arith, a.rig.most)) s in
      record { unit = a.rig.units i h; place = record { x = w.x; y = w.y } }

  pub places_fit : length (places_of v ds f) ≤ 4
  places_fit = omega (arith, places_count (units_in_use v) ds f, in_use, a.rig.most)

  pub units_sized : UnitsSized v (places_of v ds f)
  units_sized = record {
    least = a.rig.least;
    most = a.rig.most;
    units = λ i h. places_sized (units_in_use v) ds f 150000000 (omega (arith, in_use, a.rig.most)) unit_in_use a.front i (omega (arith, in_use));
  }
