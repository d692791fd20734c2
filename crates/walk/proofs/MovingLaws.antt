-- The vectors at the start, one after the other.
use Prim.Native.Nat.{ℕ, ◌+◌, ◌≤◌, ◌<◌}
use mathlib.Core.Path.{◌≡◌, sym, ◌∙◌, ap}
use mathlib.Core.List.{List, map}
use native.Mathlib.Numerals.{add-one}
use lib.ListN.{length, take, drop, get_or, set}
use lib.Seq.{sets}
use Rattle.plane.specs.declared.Vec2.{Vec2}
use Rattle.job.specs.declared.Unit.{Unit as VehicleUnit}
use Rattle.job.specs.Empty.{empty_unit}
use Rattle.unit.specs.Turn.{placed_by}
use Rattle.number.proofs.ManyLaws.{next_of, none_of}
use Rattle.walk.specs.Units.{wheelbase_of}

-- what is left to place, over the vectors placed, is the whole
abbrev pub placed_from : Vec2 → List VehicleUnit → List Vec2
placed_from g us = map (λ (u : VehicleUnit). placed_by g (wheelbase_of u)) us

pub placed_next : (g : Vec2) (units : List VehicleUnit) (n i : ℕ) (d : List Vec2) (whole : List Vec2) → n ≤ length units → i < n
    → sets d i (placed_from g (drop i (take n units))) ≡ whole
    → sets (set d i (placed_by g (wheelbase_of (get_or units i empty_unit)))) (i + 1) (placed_from g (drop (i + 1) (take n units))) ≡ whole
placed_next g units n i d whole h l e =
    let x = placed_by g (wheelbase_of (get_or units i empty_unit)) in
    ap (λ (k : ℕ). sets (set d i x) k (placed_from g (drop (i + 1) (take n units)))) (add-one i)
    ∙ sym (ap (λ (us : List VehicleUnit). sets d i (placed_from g us)) (next_of units n i empty_unit h l)) ∙ e

pub placed_end : (g : Vec2) (units : List VehicleUnit) (n i : ℕ) (d : List Vec2) (whole : List Vec2) → n ≤ i → sets d i (placed_from g (drop i (take n units))) ≡ whole → d ≡ whole
placed_end g units n i d whole h e = sym (ap (λ (us : List VehicleUnit). sets d i (placed_from g us)) (none_of units n i h)) ∙ e
