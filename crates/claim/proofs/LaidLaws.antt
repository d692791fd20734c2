-- What was laid passes the test that answers 26, and 26 is answered by nothing else.
use Prim.Native.Nat.{ℕ, ◌<◌}
use mathlib.Core.Path.{◌≡◌, sym, ◌∙◌, ap}
use mathlib.Core.Bool.{Bool, true, false}
use mathlib.Core.Logic.{⊎_elim}
use native.Mathlib.Omega.{arith}
use lib.ListN.{length}
use Rattle.number.specs.Read.{pick}
use Rattle.job.specs.declared.Vehicle.{Vehicle}
use Rattle.walk.specs.Drawn.{Drawn, view, Call, station_at}
use Rattle.walk.specs.Tests.{lent, path_sound, station_sound, vehicle_sound, record_sound, at_last, units_in_use}
use Rattle.walk.specs.Units.{none, Turning, turned, stopped}
use Rattle.walk.specs.Rig.{Stepped, turning_of, after_turning, turned_down, draw_step}
use Rattle.walk.proofs.PathTests.{all_sound}
use Rattle.stations.specs.Placing as P
use Rattle.stations.specs.Placing.{place_refusal, place_answer}
use Rattle.run.proofs.RunLaws.{laid_station}
use Rattle.run.proofs.StopLaws.{StopsIn, units_stop}
use Rattle.claim.specs.LaidPasses.{number_of, OverLaid, LaidPasses}

-- a step over a sound path
module _ (s : Drawn) (c : Call) (sound : path_sound c.asked c.path ≡ true) where
  turned_not_26 : (k : ℕ) (t : Turning) → StopsIn 1 k t → number_of (after_turning s t).answer ≡ 26 → ⊥
  turned_not_26 k (turned ds) h e = omega arith
  turned_not_26 k (stopped n u) h e = ⊎_elim (λ (z : n ≡ 22). omega arith) (λ (z : n ≡ 23). omega arith) h.0

  by_tests : (a b d l : Bool) (r : Stepped) → b ≡ true → (number_of r.answer ≡ 26 → ⊥)
      → number_of (pick a (pick b (pick d (pick l (turned_down s 25) r) (turned_down s 27)) (turned_down s 26)) (turned_down s 21)).answer ≡ 26 → ⊥
  by_tests false b d l r k h e = omega arith
  by_tests true false d l r k h e = let z : ◌≡◌ {A = ℕ} 0 1 = cc in omega arith
  by_tests true true false l r k h e = omega arith
  by_tests true true true true r k h e = omega arith
  by_tests true true true false r k h e = h e

  step_not_26 : number_of (draw_step s c).answer ≡ 26 → ⊥
  unfolding draw_step
  step_not_26 =
      by_tests (lent c) (path_sound c.asked c.path) (record_sound c.asked s) (at_last c.asked s) (after_turning s (turning_of s c)) sound
      (turned_not_26 (length (units_in_use s.vehicle)) (turning_of s c) (units_stop 1 none (units_in_use s.vehicle) s.vectors _ _))

-- a placement over one
place_by : (a b d : Bool) → b ≡ true → place_answer (pick a (pick b (pick d 0 27) 26) 21) ≡ P.refused 26 → ⊥
place_by false b d k e = let z : ◌≡◌ {A = ℕ} 21 26 = cc in omega arith
place_by true false d k e = let z : ◌≡◌ {A = ℕ} 0 1 = cc in omega arith
place_by true true false k e = let z : ◌≡◌ {A = ℕ} 27 26 = cc in omega arith
place_by true true true k e = let z : ◌≡◌ {A = ℕ} 0 1 = cc in omega arith

place_not_26 : (v : Vehicle) (c : Call) → path_sound c.asked c.path ≡ true → place_answer (place_refusal v c) ≡ P.refused 26 → ⊥
unfolding place_refusal
place_not_26 v c k = place_by (lent c) (path_sound c.asked c.path) (vehicle_sound v) k

pub laid_passes_lem : LaidPasses
laid_passes_lem j before n laid t =
    record {
      sound = sound;
      placed = λ v w c r p after o k e. place_not_26 v c (sound c o) (sym k.answered ∙ e);
      stepped = λ w c r a after o k e. step_not_26 (view w) c (sound c o) (sym (ap (λ (x : Stepped). number_of x.answer) k.stepped) ∙ e);
    }
  where
    over : (c : Call) → OverLaid n laid c → (i : ℕ) → i < c.asked → station_sound (station_at c.path i) ≡ true
    over c o i h = rw o.path (laid_station j before n laid t i (omega (arith, o.asked)))

    sound : (c : Call) → OverLaid n laid c → path_sound c.asked c.path ≡ true
    sound c o = all_sound c.path c.asked (over c o)
