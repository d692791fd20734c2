-- A call of the drawn rig: a made one passed every test and goes one station on, and any leaves the vehicle.
use Prim.Native.Nat.{◌+◌}
use mathlib.Core.Path.{◌≡◌, refl}
use mathlib.Core.Bool.{Bool, true, false}
use Rattle.number.specs.Read.{pick}
use Rattle.walk.specs.Drawn.{Drawn, Call, made}
use Rattle.walk.specs.Tests.{lent, path_sound, record_sound, at_last}
use Rattle.walk.specs.Units.{Turning}
use Rattle.walk.specs.Rig.{turning_of, after_turning, turned_down, draw_step}
use Rattle.stations.specs.Inner.{Open}
use Rattle.stations.proofs.StepLaws.{refused_not_made}
use Rattle.run.proofs.WalkingLaws.{made_step_lem}

module _ (s : Drawn) (c : Call) where
  by_tests : (a b d e : Bool) (t : Turning)
      → (pick a (pick b (pick d (pick e (turned_down s 25) (after_turning s t)) (turned_down s 27)) (turned_down s 26)) (turned_down s 21)).answer ≡ made
      → (a ≡ true) × (b ≡ true) × (d ≡ true) × (e ≡ false)
  by_tests false b d e t m = absurd (refused_not_made 21 m)
  by_tests true false d e t m = absurd (refused_not_made 26 m)
  by_tests true true false e t m = absurd (refused_not_made 27 m)
  by_tests true true true true t m = absurd (refused_not_made 25 m)
  by_tests true true true false t m = (refl, refl, refl, refl)

  pub made_open : (draw_step s c).answer ≡ made → Open s c
  unfolding draw_step
  made_open m =
      let t = by_tests (lent c) (path_sound c.asked c.path) (record_sound c.asked s) (at_last c.asked s) (turning_of s c) m in
      record { lent = t.0; path = t.1; rig = t.2; not_last = t.3 }

  pub one_on : (draw_step s c).answer ≡ made → (draw_step s c).state.station ≡ s.station + 1
  one_on m = (made_step_lem s c (made_open m) m).1
