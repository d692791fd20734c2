-- Step calls until one is refused, against the walk to the end of the path.
use Prim.Native.Nat.{ℕ, ◌+◌, ◌≤◌, ◌<◌}
use mathlib.Core.Path.{◌≡◌, refl, sym, ◌∙◌, ap, subst}
use mathlib.Core.List.{List, [], ◌∷◌}
use native.Mathlib.Omega.{arith}
use native.Mathlib.Decide.{dec_lt}
use borrow.Author.Tests.{le-leb}
use lib.ListN.{length}
use Rattle.path.specs.Laying.{PathRuns}
use Rattle.walk.specs.declared.Walk.{Walk}
use Rattle.walk.specs.Drawn.{view, Call, Outcome, made, refused, refused_at}
use Rattle.walk.specs.Units.{Turning, turned, stopped}
use Rattle.walk.specs.Rig.{Stepped, turning_of, after_turning, turned_down, draw_step}
use Rattle.reaches.specs.Cells.{Reaches}
use Rattle.reaches.specs.Crossing.{crossed}
use Rattle.stations.specs.Placing.{call_of}
use Rattle.stations.specs.Stepping.{points_at, if_made, StepEnsures}
use Rattle.stations.proofs.CallLaws.{last_is, step_open}
use Rattle.stations.proofs.StepLaws.{refused_not_made, unit_not_made}
use Rattle.run.specs.Walking.{Course, walk_to_end, course_of, Going}
use Rattle.run.proofs.WalkingLaws.{is_open, at_end, stopped_here, one_on, still_going, goes_on}
use Rattle.claim.specs.DemandThree.{Turn, Chain}
use Rattle.claim.specs.WholeRun.{Handed, last_runs, UntilRefused, last_answer}

-- how the last call answers where the walk ends so: at the last station by 25
abbrev pub as_call : Outcome → Outcome
as_call made = refused 25
as_call (refused n) = refused n
as_call (refused_at n u) = refused_at n u

-- the walk from a station k, and calls that end as it does
pub record Ended (c : Course) (k : ℕ) (r : Reaches) (ts : List Turn) : Type 0 where
  pub runs : c.runs ≡ last_runs r ts
  pub count : c.state.station + 1 ≡ k + length ts
  pub answer : last_answer ts ≡ as_call c.answer
  pub at_unit : (m : ℕ) → c.answer ≡ refused m → ⊥

made_not_refused : (m : ℕ) → made ≡ refused m → ⊥
made_not_refused m e = refused_not_made m (sym e)

unit_not_plain : (n u m : ℕ) → refused_at n u ≡ refused m → ⊥
unit_not_plain n u m e = let z : ◌≡◌ {A = ℕ} 0 1 = cc in absurd (omega arith)

module _ (n : ℕ) (path : PathRuns) where
  -- one call alone, refused
  module _ (w : Walk) (r : Reaches) (g : Going (view w) (call_of n path r)) (t : Turn) (k : StepEnsures w (call_of n path r) r t.result t.after) where
    abbrev c : Call
    c = call_of n path r

    answer_of_lem : t.result.answer ≡ (draw_step (view w) c).answer
    answer_of_lem = ap (λ (x : Stepped). x.answer) k.stepped

    -- at the last station
    down : n ≤ w.station + 1 → draw_step (view w) c ≡ turned_down (view w) 25
    unfolding draw_step
    down h = rw (g.lent, g.path, g.rig, last_is n (view w) ∙ le-leb n (w.station + 1) h) refl

    pub refused_25 : n ≤ w.station + 1 → t.result.answer ≡ refused 25
    refused_25 h = answer_of_lem ∙ ap (λ (x : Stepped). x.answer) (down h)

    pub last_call : n ≤ w.station + 1 → Ended (walk_to_end n path (view w) r) w.station r (t ∷ [])
    unfolding last_runs last_answer
    last_call h =
        let e = at_end n path (view w) r h in
        let d = down h in
        subst (λ (x : Course). Ended x w.station r (t ∷ [])) (sym e)
        (record {
          runs = sym (k.runs ∙ ap (λ (x : Stepped). if_made x.answer (crossed n path (points_at (view w) c) (points_at (draw_step (view w) c).state c) r) r) d);
          count = refl;
          answer = refused_25 h;
          at_unit = made_not_refused;
        })

    -- at a unit
    stopped_unit : (s : Turning) → turning_of (view w) c ≡ s → draw_step (view w) c ≡ after_turning (view w) s → (t.result.answer ≡ made → ⊥)
        → Ended (course_of t.result t.after) w.station r (t ∷ [])
    unfolding last_runs last_answer
    stopped_unit (turned ds) q e m = absurd (m (answer_of_lem ∙ ap (λ (x : Stepped). x.answer) e))
    stopped_unit (stopped a u) q e m =
        let o = answer_of_lem ∙ ap (λ (x : Stepped). x.answer) e in
        let s = ap (λ (x : Stepped). x.state.station) (k.stepped ∙ e) in
        record {
          runs = refl;
          count = ap (λ (x : ℕ). x + 1) s;
          answer = as_it_is t.result.answer a u o;
          at_unit = λ b z. unit_not_plain a u b (sym o ∙ z);
        }
      where
        as_it_is : (x : Outcome) (a u : ℕ) → x ≡ refused_at a u → x ≡ as_call x
        as_it_is made a u e = absurd (unit_not_made a u (sym e))
        as_it_is (refused b) a u e = refl
        as_it_is (refused_at b v) a u e = refl

    pub unit_call : w.station + 1 < n → (t.result.answer ≡ made → ⊥) → Ended (walk_to_end n path (view w) r) w.station r (t ∷ [])
    unit_call h m =
        subst (λ (x : Course). Ended x w.station r (t ∷ [])) (stopped_here n path w r t.result t.after h k m)
        (stopped_unit (turning_of (view w) c) refl (step_open (view w) c (is_open (view w) c g h)) m)

    -- a made call, and those after it
    pub made_call : (u : Turn) (ts : List Turn) → w.station + 1 < n → t.result.answer ≡ made
        → Ended (walk_to_end n path (view t.result.walk) t.after) t.result.walk.station t.after (u ∷ ts) → Ended (walk_to_end n path (view w) r) w.station r (t ∷ u ∷ ts)
    unfolding last_runs last_answer
    made_call u ts h m e =
        let s = one_on n path w r t.result t.after h k m g in
        subst (λ (x : Course). Ended x w.station r (t ∷ u ∷ ts)) (goes_on n path w r t.result t.after h k m g)
        (record { runs = e.runs; count = let z = e.count in omega (arith, z, s); answer = e.answer; at_unit = e.at_unit })

  -- a call as it was handed over
  handed_step : (w : Walk) (r : Reaches) (t : Turn) → StepEnsures w t.call t.before t.result t.after → t.before ≡ r → t.call ≡ call_of n path r
      → StepEnsures w (call_of n path r) r t.result t.after
  handed_step w r t k b c = subst (λ (x : Reaches). StepEnsures w (call_of n path r) x t.result t.after) b (subst (λ (y : Call). StepEnsures w y t.before t.result t.after) c k)

  pub calls_end : (w : Walk) (r : Reaches) → Going (view w) (call_of n path r) → (ts : List Turn) → Chain w ts → Handed n path r ts → UntilRefused ts → Ended (walk_to_end n path (view w) r) w.station r ts
  unfolding Chain Handed UntilRefused
  calls_end w r g [] k h q = absurd q
  calls_end w r g (t ∷ []) k h q = alone (dec_lt (w.station + 1) n)
    where
      s : StepEnsures w (call_of n path r) r t.result t.after
      s = handed_step w r t k.0 h.0 h.1

      alone : Dec (w.station + 1 < n) → Ended (walk_to_end n path (view w) r) w.station r (t ∷ [])
      alone (yes l) = unit_call w r g t s l q
      alone (no f) = last_call w r g t s (omega arith)
  calls_end w r g (t ∷ u ∷ ts) k h q =
      let s = handed_step w r t k.0 h.0 h.1 in
      more s (dec_lt (w.station + 1) n) (λ l. calls_end t.result.walk t.after (still_going n path w r t.result t.after l s q.0 g) (u ∷ ts) k.1 h.2 q.1)
    where
      more : StepEnsures w (call_of n path r) r t.result t.after → Dec (w.station + 1 < n)
          → (w.station + 1 < n → Ended (walk_to_end n path (view t.result.walk) t.after) t.result.walk.station t.after (u ∷ ts))
          → Ended (walk_to_end n path (view w) r) w.station r (t ∷ u ∷ ts)
      more s (yes l) rest = made_call w r g t s u ts l q.0 (rest l)
      more s (no f) rest = absurd (refused_not_made 25 (sym (refused_25 w r g t s (omega arith)) ∙ q.0))
