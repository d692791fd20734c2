-- The record that calls leave holds the vehicle that was placed, and passes 27 against the stations that every made call was asked for.
use Prim.Native.Nat.{ℕ, ◌≤◌}
use mathlib.Core.Path.{◌≡◌, refl, sym, ◌∙◌, ap, subst}
use mathlib.Core.Bool.{true}
use mathlib.Core.List.{List, [], ◌∷◌}
use lib.IntN.{pos, ◌*ℤ◌}
use Rattle.plane.specs.Length.{heading_length, Near}
use Rattle.path.specs.Laying.{PathRuns}
use Rattle.walk.specs.declared.Walk.{Walk}
use Rattle.walk.specs.Drawn.{Drawn, view, Call, station_at, Outcome, made, refused, refused_at}
use Rattle.walk.specs.Tests.{lent, path_sound, vehicle_sound, record_sound}
use Rattle.walk.specs.Rig.{Stepped, draw_step}
use Rattle.walk.proofs.PathTests.{path_station}
use Rattle.walk.proofs.RecordTests.{lent_call}
use Rattle.walk.proofs.SoundKept.{start_sound}
use Rattle.reaches.specs.Cells.{Reaches}
use Rattle.stations.specs.Placing.{place_refusal}
use Rattle.stations.specs.Stepping.{StepEnsures}
use Rattle.stations.proofs.StepLaws.{refused_not_made, unit_not_made}
use Rattle.run.proofs.WalkingLaws.{made_step_lem}
use Rattle.run.proofs.CourseLaws.{vehicle_stays}
use Rattle.claim.specs.DemandThree.{Turn, Chain, last_record}
use Rattle.claim.specs.StationHistory.{History, place_call, left_by, MadeOver, Lawful}
use Rattle.claim.specs.WholeRun.{Handed}
use Rattle.claim.specs.WidestHistory.{last_of}
use Rattle.claim.proofs.CallsKept.{passed}
use Rattle.claim.proofs.DrawnCalls.{made_open}
use Rattle.claim.proofs.HistoryKept.{none, starts}

-- one call: it leaves the vehicle, and a record that passes 27 again
module _ (w : Walk) (t : Turn) (k : StepEnsures w t.call t.before t.result t.after) where
  state : view t.result.walk ≡ (draw_step (view w) t.call).state
  state = ap (λ (z : Stepped). z.state) k.stepped

  vehicle : t.result.walk.vehicle ≡ w.vehicle
  vehicle = ap (λ (s : Drawn). s.vehicle) state ∙ vehicle_stays (view w) t.call

  sound_next : (asked : ℕ) → record_sound asked (view w) ≡ true → (t.result.answer ≡ made → t.call.asked ≡ asked) → record_sound asked (view t.result.walk) ≡ true
  sound_next asked h m = by t.result.answer refl
    where
      stays : (t.result.answer ≡ made → ⊥) → record_sound asked (view t.result.walk) ≡ true
      stays n = subst (λ (x : Walk). record_sound asked (view x) ≡ true) (sym (k.unchanged n)) h

      by : (o : Outcome) → t.result.answer ≡ o → record_sound asked (view t.result.walk) ≡ true
      by made q =
          let d = sym (ap (λ (z : Stepped). z.answer) k.stepped) ∙ q in
          let s = (made_step_lem (view w) t.call (made_open (view w) t.call d) d).0 in
          subst (λ (x : Drawn). record_sound asked x ≡ true) (sym state) (subst (λ (n : ℕ). record_sound n (draw_step (view w) t.call).state ≡ true) (m q) s)
      by (refused n) q = stays (λ e. refused_not_made n (sym q ∙ e))
      by (refused_at n u) q = stays (λ e. unit_not_made n u (sym q ∙ e))

-- every made call was asked for so many stations
abbrev pub MadeAsked : ℕ → List Turn → Type 0
MadeAsked asked [] = Unit {0}
MadeAsked asked (t ∷ ts) = (t.result.answer ≡ made → t.call.asked ≡ asked) × MadeAsked asked ts

pub over_asked : (asked : ℕ) (path : PathRuns) (r : Reaches) (ts : List Turn) → MadeOver asked path r ts → MadeAsked asked ts
unfolding MadeOver
over_asked asked path r [] g = tt
over_asked asked path r (t ∷ ts) g = (λ q. ap (λ (c : Call). c.asked) (g.0 q).1, over_asked asked path (left_by r t) ts g.1)

pub handed_asked : (asked : ℕ) (path : PathRuns) (r : Reaches) (ts : List Turn) → Handed asked path r ts → MadeAsked asked ts
unfolding Handed
handed_asked asked path r [] g = tt
handed_asked asked path r (t ∷ ts) g = (λ q. ap (λ (c : Call). c.asked) g.1, handed_asked asked path t.after ts g.2)

-- all calls
pub vehicle_left : (w : Walk) (ts : List Turn) → Chain w ts → (last_record w ts).vehicle ≡ w.vehicle
unfolding Chain last_record
vehicle_left w [] k = refl
vehicle_left w (t ∷ ts) k = vehicle_left t.result.walk ts k.1 ∙ vehicle w t k.0

pub sound_left : (asked : ℕ) (w : Walk) → record_sound asked (view w) ≡ true → (ts : List Turn) → Chain w ts → MadeAsked asked ts → record_sound asked (view (last_record w ts)) ≡ true
unfolding Chain last_record
sound_left asked w h [] k m = h
sound_left asked w h (t ∷ ts) k m = sound_left asked t.result.walk (sound_next w t k.0 asked h m.0) ts k.1 m.1

-- after an accepted placement
module _ (h : History) (l : Lawful h) where
  placed_sound : record_sound h.asked (view h.placing.walk) ≡ true
  unfolding place_refusal
  placed_sound =
      let p = passed (lent (place_call h)) (path_sound h.asked h.path) (vehicle_sound h.vehicle) (none h l) in
      let some : 1 ≤ h.asked = (lent_call (place_call h) p.0).0.least in
      let near : Near (station_at h.path 0).heading heading_length (pos 2 *ℤ heading_length) = (path_station h.path h.asked 0 p.1 some).heading in
      subst (λ (s : Drawn). record_sound h.asked s ≡ true) (sym (starts h l)) (start_sound h.asked h.vehicle (station_at h.path 0).heading some p.2 near)

  pub end_sound : record_sound h.asked (view (last_of h)) ≡ true
  end_sound = sound_left h.asked h.placing.walk placed_sound h.turns l.chain (over_asked h.asked h.path h.after h.turns l.over)

  pub end_vehicle : (last_of h).vehicle ≡ h.vehicle
  end_vehicle = vehicle_left h.placing.walk h.turns l.chain ∙ ap (λ (s : Drawn). s.vehicle) (starts h l)
