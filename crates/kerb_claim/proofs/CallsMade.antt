-- There are calls to compare a report with, from any record over any path: until one is refused, where the tests pass, and one alone where they do not.
use Prim.Native.Nat.{ℕ, zero, suc, ◌+◌, ◌-◌}
use mathlib.Core.Path.{◌≡◌, refl, sym, ◌∙◌, subst}
use mathlib.Core.Bool.{Bool, true, false}
use mathlib.Core.List.{[], ◌∷◌}
use native.Mathlib.Omega.{arith}
use Rattle.std.proofs.lemmas.Bool.{and_from}
use Rattle.path.specs.Laying.{PathRuns}
use Rattle.walk.specs.declared.Walk.{Walk}
use Rattle.walk.specs.Drawn.{view, Lengths, station_at, Outcome, made, refused, refused_at}
use Rattle.walk.specs.Tests.{lent, path_lent, reaches_lent, path_sound, record_sound}
use Rattle.walk.specs.Rig.{turned_down, draw_step}
use Rattle.reaches.specs.Cells.{Reaches, lengths_of}
use Rattle.reaches.specs.Crossing.{crossed, crossed_from}
use Rattle.reaches.proofs.CellLaws.{stations_lengths}
use Rattle.stations.specs.Placing.{call_of}
use Rattle.stations.specs.Stepping.{points_at, if_made}
use Rattle.stations.proofs.StepLaws.{refused_not_made}
use Rattle.claim.specs.DemandThree.{Turn}
use Rattle.claim.specs.WholeRun.{UntilRefused}
use Rattle.claim.proofs.CallsMade.{turn_of, turn_ensured}
use Rattle.claim.proofs.CallsThere.{turns_until, by_answer, until_chain, until_handed, until_refused}
use Rattle.kerb_report.specs.Report.{call_over}
use Rattle.kerb_claim.specs.FirstTouch.{Question, CallOver, AllOver, CallsThere}
use Rattle.kerb_claim.proofs.StepLaws.{down, step_21, step_26, step_27}

module _ (asked : ℕ) (path : PathRuns) where
  abbrev next : Walk → Reaches → Turn
  next w r = turn_of w (call_of asked path r) r

  abbrev Roomy : Reaches → Type 0
  Roomy r = reaches_lent asked (lengths_of r) ≡ true

  -- a call leaves the lengths of its runs
  roomy_still : (w : Walk) (r : Reaches) → Roomy r → Roomy (next w r).after
  roomy_still w r e = by (draw_step (view w) (call_of asked path r)).answer
    where
      by : (o : Outcome) → Roomy (if_made o (crossed asked path (points_at (view w) (call_of asked path r)) (points_at (draw_step (view w) (call_of asked path r)).state (call_of asked path r)) r) r)
      by made =
          let s = stations_lengths (λ i. crossed_from 0 (station_at path i) (points_at (view w) (call_of asked path r)) (points_at (draw_step (view w) (call_of asked path r)).state (call_of asked path r))) asked r in
          let a = s.left in
          let b = s.right in
          let c = s.marks in
          subst (λ (l : Lengths). reaches_lent asked l ≡ true) (sym (λ i. record { left = a i; right = b i; marks = c i })) e
      by (refused m) = e
      by (refused_at m u) = e

  until_over : (n : ℕ) (w : Walk) (r : Reaches) → Roomy r → AllOver asked path (turns_until asked path n w r)
  unfolding turns_until AllOver
  until_over zero w r e = (record { asked = refl; path = refl; room = e }, tt)
  until_over (suc n) w r e =
      let t = next w r in
      let o : CallOver asked path t = record { asked = refl; path = refl; room = e } in
      by_answer asked path (AllOver asked path) t.result.answer (t ∷ turns_until asked path n t.result.walk t.after) (t ∷ [])
      (λ m. (o, until_over n t.result.walk t.after (roomy_still w r e))) (λ m. (o, tt))

module _ (q : Question) (runs : Reaches) (room : reaches_lent q.asked (lengths_of runs) ≡ true) where
  some_calls_lem : (n : ℕ) → UntilRefused (turns_until q.asked q.path n q.walk runs) → CallsThere q runs
  some_calls_lem n u = record {
    turns = turns_until q.asked q.path n q.walk runs;
    walked = record { chain = until_chain q.asked q.path n q.walk runs; over = until_over q.asked q.path n q.walk runs room; until = u };
    handed = until_handed q.asked q.path n q.walk runs;
  }

  -- one call, refused before any unit
  one_call : (m : ℕ) → draw_step (view q.walk) (call_over q.asked q.path) ≡ turned_down (view q.walk) m → UntilRefused (turns_until q.asked q.path 0 q.walk runs)
  unfolding turns_until UntilRefused
  one_call m e = λ f. refused_not_made m (sym (down q.asked q.path q.walk (next q.asked q.path q.walk runs) (turn_ensured q.walk (call_of q.asked q.path runs) runs) (record { asked = refl; path = refl; room = room }) m e) ∙ f)

  is_lent : path_lent q.asked q.path ≡ true → lent (call_of q.asked q.path runs) ≡ true
  unfolding lent
  is_lent e = and_from _ _ e room

  pub calls_there : CallsThere q runs
  calls_there = by (path_lent q.asked q.path) refl (path_sound q.asked q.path) refl (record_sound q.asked (view q.walk)) refl
    where
      by : (a : Bool) → path_lent q.asked q.path ≡ a → (b : Bool) → path_sound q.asked q.path ≡ b → (c : Bool) → record_sound q.asked (view q.walk) ≡ c → CallsThere q runs
      by false e b f c g = some_calls_lem 0 (one_call 21 (step_21 q.asked q.path (view q.walk) e))
      by true e false f c g = some_calls_lem 0 (one_call 26 (step_26 q.asked q.path (view q.walk) e f))
      by true e true f false g = some_calls_lem 0 (one_call 27 (step_27 q.asked q.path (view q.walk) e f g))
      by true e true f true g =
          let n = q.asked - (q.walk.station + 1) in
          some_calls_lem n (until_refused q.asked q.path n q.walk runs (record { lent = is_lent e; path = f; rig = g }) (omega arith))
