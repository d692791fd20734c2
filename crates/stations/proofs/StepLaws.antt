-- What a step hands back, refused and made.
use Prim.Native.Nat.{ℕ, ◌+◌}
use mathlib.Core.Path.{◌≡◌, refl, sym, ◌∙◌, ap, ap₂, subst₂}
use native.Mathlib.Omega.{arith}
use Rattle.std.specs.Prelude.{Err}
use Rattle.path.specs.declared.Station.{Station}
use Rattle.walk.specs.declared.Walk.{Walk}
use Rattle.walk.specs.declared.StepRefusal.{StepRefusal}
use Rattle.walk.specs.declared.StepRefusal.TheVariants as S
use Rattle.walk.specs.Drawn.{view, Call, station_at, Outcome, made, refused, refused_at, outcome_of}
use Rattle.walk.specs.Units.{Turning, turned, stopped}
use Rattle.walk.specs.Rig.{Stepped, turning_of, after_turning, turned_down, draw_step}
use Rattle.walk.specs.Moving.{Advanced, AdvanceEnsures}
use Rattle.points.specs.Points.{rig_points}
use Rattle.reaches.specs.Cells.{Reaches}
use Rattle.reaches.specs.Crossing.{crossed}
use Rattle.stations.specs.Stepping.{if_made, StepEnsures}
use Rattle.stations.specs.Inner.{Open}
use Rattle.stations.proofs.CallLaws.{step_open}

not_made : {A : Type 0} (o : Outcome) (a b : A) → (o ≡ made → ⊥) → b ≡ if_made o a b
not_made made a b h = absurd (h refl)
not_made (refused n) a b h = refl
not_made (refused_at n u) a b h = refl

pub refused_not_made : (n : ℕ) → refused n ≡ made → ⊥
refused_not_made n e = let z : ◌≡◌ {A = ℕ} 0 1 = cc in absurd (omega arith)

pub unit_not_made : (n u : ℕ) → refused_at n u ≡ made → ⊥
unit_not_made n u e = let z : ◌≡◌ {A = ℕ} 0 1 = cc in absurd (omega arith)

pub err_not_made : (e : StepRefusal) → outcome_of (Err e) ≡ made → ⊥
err_not_made (S.Call f) m = refused_not_made _ m
err_not_made (S.Unit r) m = unit_not_made _ _ m

module _ (w : Walk) (c : Call) (before : Reaches) where
  -- the answer and the state are the drawn rig's, and no step is made
  pub left_so : (r : Advanced) → record { answer = r.answer; state = view r.walk } ≡ draw_step (view w) c
      → (r.answer ≡ made → ⊥) → r.walk ≡ w → StepEnsures w c before r before
  left_so r e h k =
      record { stepped = e; unchanged = λ _. k; runs = not_made (draw_step (view w) c).answer _ before (λ m. h (ap (λ (s : Stepped). s.answer) e ∙ m)) }

  -- refused by 21, 26, 27 or 25
  pub step_refused : (n : ℕ) → draw_step (view w) c ≡ turned_down (view w) n → StepEnsures w c before (record { answer = refused n; walk = w }) before
  step_refused n e = left_so (record { answer = refused n; walk = w }) (sym e) (refused_not_made n) refl

  -- a call that passed the tests, from the station reached to the next
  module _ (o : Open (view w) c) {p q : Station} (from : p ≡ station_at c.path w.station) (to : q ≡ station_at c.path (w.station + 1))
      (r : Advanced) (a : AdvanceEnsures w p.position q.position r) where
    turned_by_units : record { answer = r.answer; state = view r.walk } ≡ after_turning (view w) (turning_of (view w) c)
    turned_by_units = (subst₂ (λ (x y : Station). AdvanceEnsures w x.position y.position r) from to a).stepped

    pub drawn : record { answer = r.answer; state = view r.walk } ≡ draw_step (view w) c
    drawn = turned_by_units ∙ sym (step_open (view w) c o)

    -- refused at a unit
    pub unit_refused : (r.answer ≡ made → ⊥) → StepEnsures w c before r before
    unit_refused h = left_so r drawn h (a.unchanged h)

    -- the station that a made step reaches
    reached : (t : Turning) → record { answer = r.answer; state = view r.walk } ≡ after_turning (view w) t → r.answer ≡ made → r.walk.station ≡ w.station + 1
    reached (turned ds) e m = ap (λ (s : Stepped). s.state.station) e
    reached (stopped n u) e m = absurd (unit_not_made n u (sym (ap (λ (s : Stepped). s.answer) e) ∙ m))

    pub step_made : (after : Reaches) → r.answer ≡ made
        → after ≡ crossed c.asked c.path (rig_points w.vehicle w.d p.position) (rig_points r.walk.vehicle r.walk.d q.position) before
        → StepEnsures w c before r after
    step_made after m e =
        let k = reached (turning_of (view w) c) turned_by_units m in
        let entered : Station → Station → Reaches = λ x y. crossed c.asked c.path (rig_points w.vehicle w.d x.position) (rig_points r.walk.vehicle r.walk.d y.position) before in
        record {
          stepped = drawn;
          unchanged = λ h. absurd (h m);
          runs = rw (sym drawn, m, k) (e ∙ ap₂ entered from to);
        }
