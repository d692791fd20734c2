-- Starts and steps of rigs that agree but for unused entries. Assumes nothing.
use Prim.Native.Nat.{ℕ}
use mathlib.Core.Path.{◌≡◌, refl}
use mathlib.Core.Bool.{Bool, true, false}
use Rattle.number.specs.Read.{pick}
use Rattle.plane.specs.declared.Vec2.{Vec2}
use Rattle.job.specs.declared.Vehicle.{Vehicle}
use Rattle.walk.specs.Drawn.{Drawn, Call}
use Rattle.walk.specs.Tests.{lent, path_sound, vehicle_sound, units_in_use, record_sound, at_last}
use Rattle.walk.specs.Units.{Turning, turned, stopped}
use Rattle.walk.specs.Rig.{start_vectors, drawn_start, Stepped, turning_of, after_turning, turned_down, draw_step}
use Rattle.unused.specs.Same.{SameVehicle, SameRig}
use Rattle.unused.proofs.SameJobs.{vehicle_fault_lem}
use Rattle.unused.proofs.Bodies.{starts, vectors, turns}

pub vehicle_sound_lem : (v u : Vehicle) → SameVehicle v u → vehicle_sound v ≡ vehicle_sound u
unfolding vehicle_sound
vehicle_sound_lem v u e = rw (vehicle_fault_lem v u e)

pub started : (v u : Vehicle) → SameVehicle v u → (g : Vec2) → SameRig (drawn_start v g) (drawn_start u g)
started v u e g = record { vehicle = e; station = refl; vectors = unfold start_vectors in (rw (← starts v.form g (units_in_use v), ← starts u.form g (units_in_use u)) (rw e.units)) }

-- a step of both: the same answer, and states that agree but for unused entries
pub record Alike (x y : Stepped) : Type 0 where
  pub answer : x.answer ≡ y.answer
  pub state : SameRig x.state y.state

module _ (s t : Drawn) (e : SameRig s t) where
  pub record_sound_lem : (asked : ℕ) → record_sound asked s ≡ record_sound asked t
  unfolding record_sound
  record_sound_lem asked =
      rw (vehicle_sound_lem s.vehicle t.vehicle e.vehicle, ← vectors s.vehicle.form (units_in_use s.vehicle) s.vectors, ← vectors t.vehicle.form (units_in_use t.vehicle) t.vectors)
      (rw (e.vehicle.units, e.station, e.vectors))

  at_last_lem : (asked : ℕ) → at_last asked s ≡ at_last asked t
  unfolding at_last
  at_last_lem asked = rw e.station

  turning : (c : Call) → turning_of s c ≡ turning_of t c
  turning c =
      rw (← turns s.vehicle.form (units_in_use s.vehicle) s.vectors _ _, ← turns t.vehicle.form (units_in_use t.vehicle) t.vectors _ _)
      (rw (e.vehicle.units, e.vectors, e.station))

  down : (n : ℕ) → Alike (turned_down s n) (turned_down t n)
  down n = record { answer = refl; state = e }

  after : (x : Turning) → Alike (after_turning s x) (after_turning t x)
  after (turned ds) = record { answer = refl; state = record { vehicle = e.vehicle; station = rw e.station; vectors = refl } }
  after (stopped n u) = record { answer = refl; state = e }

  by_tests : (a b d f : Bool) (x : Turning) → Alike
      (pick a (pick b (pick d (pick f (turned_down s 25) (after_turning s x)) (turned_down s 27)) (turned_down s 26)) (turned_down s 21))
      (pick a (pick b (pick d (pick f (turned_down t 25) (after_turning t x)) (turned_down t 27)) (turned_down t 26)) (turned_down t 21))
  by_tests false b d f x = down 21
  by_tests true false d f x = down 26
  by_tests true true false f x = down 27
  by_tests true true true true x = down 25
  by_tests true true true false x = after x

  pub stepped : (c : Call) → Alike (draw_step s c) (draw_step t c)
  unfolding draw_step
  stepped c =
      rw (record_sound_lem c.asked, at_last_lem c.asked, turning c)
      (by_tests (lent c) (path_sound c.asked c.path) (record_sound c.asked t) (at_last c.asked t) (turning_of t c))
