-- What placing hands back, refused and done.
use Prim.Native.Nat.{ℕ, zero, suc}
use mathlib.Core.Path.{◌≡◌, refl, sym, ◌∙◌, ap}
use Rattle.job.specs.declared.Vehicle.{Vehicle}
use Rattle.walk.specs.declared.Walk.{Walk}
use Rattle.walk.specs.Drawn.{view, Call}
use Rattle.walk.specs.Rig.{drawn_start}
use Rattle.reaches.specs.Cells.{Reaches, cleared}
use Rattle.stations.specs.Placing.{placed, refused, place_refusal, place_answer, unless_refused, start_heading, PlaceEnsures}

answer_of_lem : (n : ℕ) → (n ≡ 0 → ⊥) → refused n ≡ place_answer n
answer_of_lem zero h = absurd (h refl)
answer_of_lem (suc n) h = refl

left_alone : {A : Type 0} (n : ℕ) (a b : A) → (n ≡ 0 → ⊥) → b ≡ unless_refused n a b
left_alone zero a b h = absurd (h refl)
left_alone (suc n) a b h = refl

module _ (v : Vehicle) (w : Walk) (c : Call) (before : Reaches) where
  pub place_refused : (n : ℕ) → place_refusal v c ≡ n → (n ≡ 0 → ⊥) → PlaceEnsures v w c before (record { answer = refused n; walk = w }) before
  place_refused n e h =
      let k : place_refusal v c ≡ 0 → ⊥ = λ z. h (sym e ∙ z) in
      record {
        answered = ap (λ (m : ℕ). refused m) (sym e) ∙ answer_of_lem (place_refusal v c) k;
        placed = left_alone (place_refusal v c) (drawn_start v (start_heading c)) (view w) k;
        unchanged = λ _. refl;
        runs = left_alone (place_refusal v c) (cleared c.asked before) before k;
      }

  pub place_done : (w' : Walk) (after : Reaches) → place_refusal v c ≡ 0 → view w' ≡ drawn_start v (start_heading c) → after ≡ cleared c.asked before
      → PlaceEnsures v w c before (record { answer = placed; walk = w' }) after
  place_done w' after e p q =
      record { answered = rw e refl; placed = rw e p; unchanged = λ h. absurd (h e); runs = rw e q }
