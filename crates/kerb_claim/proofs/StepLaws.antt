-- A step call over the path of a report, against the call that the report steps by.
use Prim.Native.Nat.{ℕ, ◌+◌, ◌≤◌}
use mathlib.Core.Path.{◌≡◌, refl, ◌∙◌, ap}
use mathlib.Core.Bool.{Bool, true, false, ◌&&◌}
use native.Mathlib.Omega.{arith}
use borrow.Author.Tests.{le-leb}
use Rattle.std.proofs.lemmas.Bool.{and_from}
use Rattle.path.specs.Laying.{PathRuns}
use Rattle.walk.specs.declared.Walk.{Walk}
use Rattle.walk.specs.Drawn.{Drawn, Lengths, view, Call, refused}
use Rattle.walk.specs.Tests.{lent, path_lent, reaches_lent, path_sound, record_sound}
use Rattle.walk.specs.Rig.{Stepped, turned_down, draw_step}
use Rattle.stations.specs.Stepping.{StepEnsures}
use Rattle.stations.proofs.CallLaws.{last_is}
use Rattle.claim.specs.DemandThree.{Turn}
use Rattle.kerb_report.specs.Report.{call_over}
use Rattle.kerb_claim.specs.FirstTouch.{CallOver}

-- the lengths of the runs do not tell, where they are long enough
module _ (asked : ℕ) (path : PathRuns) (s : Drawn) where
  abbrev with : Lengths → Call
  with l = record { asked = asked; path = path; reaches = l }

  lent_with : (l : Lengths) → reaches_lent asked l ≡ true → lent (with l) ≡ (path_lent asked path && true)
  unfolding lent
  lent_with l e = rw e refl

  over_lent : lent (call_over asked path) ≡ (path_lent asked path && true)
  over_lent = let l = le-leb asked asked (omega arith) in lent_with (call_over asked path).reaches (and_from _ _ l (and_from _ _ l l))

  same_with : (l : Lengths) → reaches_lent asked l ≡ true → draw_step s (with l) ≡ draw_step s (call_over asked path)
  unfolding draw_step
  same_with l e = rw (lent_with l e, over_lent) refl

  pub same_step : (c : Call) → c.asked ≡ asked → c.path ≡ path → reaches_lent asked c.reaches ≡ true → draw_step s c ≡ draw_step s (call_over asked path)
  same_step c a p e = let f : c ≡ with c.reaches = λ i. record { asked = a i; path = p i; reaches = c.reaches } in ap (draw_step s) f ∙ same_with c.reaches e

  -- refused before any unit
  module _ (l : path_lent asked path ≡ true) where
    passes : lent (call_over asked path) ≡ true
    passes = over_lent ∙ ap (λ (t : Bool). t && true) l

    pub step_26 : path_sound asked path ≡ false → draw_step s (call_over asked path) ≡ turned_down s 26
    unfolding draw_step
    step_26 e = rw (passes, e) refl

    module _ (k : path_sound asked path ≡ true) where
      pub step_27 : record_sound asked s ≡ false → draw_step s (call_over asked path) ≡ turned_down s 27
      unfolding draw_step
      step_27 e = rw (passes, k, e) refl

      pub step_25 : record_sound asked s ≡ true → asked ≤ s.station + 1 → draw_step s (call_over asked path) ≡ turned_down s 25
      unfolding draw_step
      step_25 e h = rw (passes, k, e, last_is asked s ∙ le-leb asked (s.station + 1) h) refl

  pub step_21 : path_lent asked path ≡ false → draw_step s (call_over asked path) ≡ turned_down s 21
  unfolding draw_step
  step_21 e = rw (over_lent ∙ ap (λ (t : Bool). t && true) e) refl

-- one such call: what it answers and leaves
module _ (asked : ℕ) (path : PathRuns) (w : Walk) (t : Turn) (k : StepEnsures w t.call t.before t.result t.after) (o : CallOver asked path t) where
  pub stepped : record { answer = t.result.answer; state = view t.result.walk } ≡ draw_step (view w) (call_over asked path)
  stepped = k.stepped ∙ same_step asked path (view w) t.call o.asked o.path o.room

  pub answered : t.result.answer ≡ (draw_step (view w) (call_over asked path)).answer
  answered = ap (λ (x : Stepped). x.answer) stepped

  pub left : view t.result.walk ≡ (draw_step (view w) (call_over asked path)).state
  left = ap (λ (x : Stepped). x.state) stepped

  pub down : (m : ℕ) → draw_step (view w) (call_over asked path) ≡ turned_down (view w) m → t.result.answer ≡ refused m
  down m e = answered ∙ ap (λ (x : Stepped). x.answer) e
