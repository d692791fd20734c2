-- One call of the drawn rig, made or refused: lengths are kept, and a made step stays near the rigid unit.
use Prim.Native.Nat.{ℕ, ◌+◌}
use mathlib.Core.Path.{◌≡◌, refl}
use mathlib.Core.Bool.{Bool, true, false}
use mathlib.Core.List.{List}
use native.Mathlib.Omega.{arith}
use Rattle.number.specs.Read.{pick}
use Rattle.plane.specs.declared.Vec2.{Vec2}
use Rattle.walk.specs.Drawn.{Drawn, Call, station_at, made}
use Rattle.walk.specs.Tests.{lent, path_sound, record_sound, at_last, units_in_use}
use Rattle.walk.specs.Units.{none, Turning, turned, stopped}
use Rattle.walk.specs.Rig.{Stepped, turning_of, after_turning, turned_down, draw_step}
use Rattle.walk.specs.Rigid.{AllNearRigid, AllOfLength, Keeping, StepRule}
use Rattle.walk.proofs.UnitsKept.{sound_wheelbases, units_kept}
use Rattle.walk.proofs.StartKept.{start_kept}

-- one call
module _ (s : Drawn) (c : Call) (h : Keeping s) where
  abbrev old : Vec2
  old = (station_at c.path s.station).position

  abbrev new : Vec2
  new = (station_at c.path (s.station + 1)).position

  abbrev Good : Stepped → Type 0
  Good r = Keeping r.state × (r.answer ≡ made → AllNearRigid (units_in_use s.vehicle) s.vectors r.state.vectors old new)

  down_good : (n : ℕ) → Good (turned_down s n)
  down_good n = (h, λ e. absurd (let z : ◌≡◌ {A = ℕ} 0 1 = cc in omega arith))

  -- a made step, whatever move of the first front point it is drawn with: lengths are kept
  after_lengths : (ds : List Vec2) → turning_of s c ≡ turned ds → AllOfLength (units_in_use s.vehicle) ds
  after_lengths ds e = (units_kept 1 none (units_in_use s.vehicle) s.vectors ds _ _ (sound_wheelbases s.vehicle h.vehicle) h.lengths e).0

  -- with the move from station k to k + 1: every unit stays near the rigid one
  after_near : (ds : List Vec2) → turning_of s c ≡ turned ds → AllNearRigid (units_in_use s.vehicle) s.vectors ds old new
  after_near ds e = (units_kept 1 none (units_in_use s.vehicle) s.vectors ds old new (sound_wheelbases s.vehicle h.vehicle) h.lengths e).1

  after_good : (t : Turning) → turning_of s c ≡ t → Good (after_turning s t)
  after_good (turned ds) e = (record { vehicle = h.vehicle; lengths = after_lengths ds e }, λ q. after_near ds e)
  after_good (stopped n u) e = (h, λ q. absurd (let z : ◌≡◌ {A = ℕ} 0 1 = cc in omega arith))

  by_tests : (a b d e : Bool) (r : Stepped) → Good r → Good (pick a (pick b (pick d (pick e (turned_down s 25) r) (turned_down s 27)) (turned_down s 26)) (turned_down s 21))
  by_tests false b d e r g = down_good 21
  by_tests true false d e r g = down_good 26
  by_tests true true false e r g = down_good 27
  by_tests true true true true r g = down_good 25
  by_tests true true true false r g = g

  pub call_good : Good (draw_step s c)
  unfolding draw_step
  call_good = by_tests (lent c) (path_sound c.asked c.path) (record_sound c.asked s) (at_last c.asked s) (after_turning s (turning_of s c)) (after_good (turning_of s c) refl)

pub step_rule_lem : StepRule
step_rule_lem = record { start = start_kept; kept = λ s c h. (call_good s c h).0; near = λ s c h. (call_good s c h).1 }
