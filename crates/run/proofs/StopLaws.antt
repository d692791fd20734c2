-- What stops the units of a step: 22 or 23, at one of them.
use Prim.Native.Nat.{ℕ, suc, ◌+◌, ◌≤◌, ◌<◌}
use mathlib.Core.Path.{◌≡◌, refl}
use mathlib.Core.Bool.{Bool, true, false}
use mathlib.Core.List.{List, [], ◌∷◌}
use mathlib.Core.Logic.{◌⊎◌, inl, inr}
use native.Mathlib.Omega.{arith}
use lib.ListN.{length}
use Rattle.number.specs.Read.{pick}
use Rattle.plane.specs.declared.Vec2.{Vec2}
use Rattle.plane.specs.Vector.{minus}
use Rattle.job.specs.declared.Unit.{Unit as VehicleUnit}
use Rattle.unit.specs.Turn.{turned_by, too_far}
use Rattle.walk.specs.Units.{wheelbase_of, hitch_at, Ahead, behind, fold_kept, Turning, turned, stopped, onto, turn_units}

-- a unit that stops the others: 22 or 23, and its number
abbrev pub StopsIn : ℕ → ℕ → Turning → Type 0
StopsIn i k (turned ds) = Unit {0}
StopsIn i k (stopped n u) = ((n ≡ 22) ⊎ (n ≡ 23)) × (i ≤ u) × (u < i + k)

pub units_stop : (i : ℕ) (a : Ahead) (us : List VehicleUnit) (ds : List Vec2) (old new : Vec2) → StopsIn i (length us) (turn_units i a us ds old new)
unfolding turn_units
units_stop i a us [] old new = tt
units_stop i a [] (d ∷ ds) old new = tt
units_stop i a (u ∷ us) (d ∷ ds) old new =
    let f = minus new old in
    let d' = turned_by d f (wheelbase_of u) in
    by (too_far f (wheelbase_of u)) (fold_kept a u d') d' (turn_units (i + 1) (behind u d') us ds (hitch_at u old d) (hitch_at u new d')) (units_stop (i + 1) (behind u d') us ds (hitch_at u old d) (hitch_at u new d'))
  where
    later : (x : Vec2) (t : Turning) → StopsIn (i + 1) (length us) t → StopsIn i (suc (length us)) (onto x t)
    later x (turned es) h = tt
    later x (stopped n v) h = (h.0, omega (arith, h.1), omega (arith, h.2))

    by : (far fold : Bool) (x : Vec2) (t : Turning) → StopsIn (i + 1) (length us) t → StopsIn i (suc (length us)) (pick far (stopped 22 i) (pick fold (onto x t) (stopped 23 i)))
    by true fold x t h = (inl refl, omega arith, omega arith)
    by false true x t h = later x t h
    by false false x t h = (inr refl, omega arith, omega arith)
