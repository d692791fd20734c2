-- Any list of calls: one call keeps what the drawn rig has, and the program's answers and records follow it.
use Prim.Native.Nat.{ℕ, zero, suc, ◌≤◌}
use mathlib.Core.Path.{◌≡◌, refl, sym, ◌∙◌, ap, ap₂}
use mathlib.Core.Bool.{Bool, true, false}
use mathlib.Core.List.{List, [], ◌∷◌, map}
use native.Mathlib.Omega.{arith}
use borrow.Author.Tests.{leb-true}
use lib.Dec.{leb}
use Rattle.std.proofs.lemmas.Bool.{and_parts}
use Rattle.number.specs.Read.{pick}
use lib.IntN.{pos, ◌*ℤ◌}
use Rattle.plane.specs.Length.{heading_length, Near}
use Rattle.job.specs.declared.Vehicle.{Vehicle}
use Rattle.job.specs.Allowed.{between}
use Rattle.path.specs.Laying.{room_for}
use Rattle.walk.specs.declared.Walk.{Walk}
use Rattle.walk.specs.Drawn.{Drawn, view, Call, Outcome}
use Rattle.walk.specs.Tests.{lent, path_lent, reaches_lent, path_sound, vehicle_sound}
use Rattle.walk.specs.Rig.{Stepped, drawn_start, draw_step}
use Rattle.stations.specs.Placing as P
use Rattle.stations.specs.Placing.{place_refusal, place_answer, unless_refused, start_heading}
use Rattle.stations.specs.Stepping.{StepEnsures}
use Rattle.walk.specs.Rigid.{Keeping}
use Rattle.claim.specs.DemandThree.{drawn_answers, drawn_end, Turn, Chain, last_record, Always, DemandThree}
use Rattle.walk.proofs.StartKept.{start_heading_lem}
use Rattle.walk.proofs.StepKept.{step_rule_lem}

-- all calls of the drawn rig
pub always : (s : Drawn) → Keeping s → (cs : List Call) → Always s cs
unfolding Always
always s h [] = h.lengths
always s h (c ∷ cs) = (h.lengths, step_rule_lem.near s c h, always (draw_step s c).state (step_rule_lem.kept s c h) cs)

-- the program's calls follow it
stepped : (s : Drawn) (w : Walk) → view w ≡ s → (t : Turn) → StepEnsures w t.call t.before t.result t.after → record { answer = t.result.answer; state = view t.result.walk } ≡ draw_step s t.call
stepped s w e t k = k.stepped ∙ ap (λ (x : Drawn). draw_step x t.call) e

followed_answers : (s : Drawn) (w : Walk) → view w ≡ s → (ts : List Turn) → Chain w ts → map (λ (t : Turn). t.result.answer) ts ≡ drawn_answers s (map (λ (t : Turn). t.call) ts)
unfolding Chain drawn_answers
followed_answers s w e [] k = refl
followed_answers s w e (t ∷ ts) k =
    let q = stepped s w e t k.0 in
    ap₂ (λ (x : Outcome) (xs : List Outcome). x ∷ xs) (ap (λ (z : Stepped). z.answer) q)
    (followed_answers (draw_step s t.call).state t.result.walk (ap (λ (z : Stepped). z.state) q) ts k.1)

followed_end : (s : Drawn) (w : Walk) → view w ≡ s → (ts : List Turn) → Chain w ts → view (last_record w ts) ≡ drawn_end s (map (λ (t : Turn). t.call) ts)
unfolding Chain drawn_end last_record
followed_end s w e [] k = e
followed_end s w e (t ∷ ts) k =
    followed_end (draw_step s t.call).state t.result.walk (ap (λ (z : Stepped). z.state) (stepped s w e t k.0)) ts k.1

-- an accepted placement passed its tests
pub none_refused : (n : ℕ) → place_answer n ≡ P.placed → n ≡ 0
none_refused zero e = refl
none_refused (suc n) e = absurd (let z : ◌≡◌ {A = ℕ} 0 1 = cc in omega arith)

pub passed : (a b d : Bool) → ◌≡◌ {A = ℕ} (pick a (pick b (pick d 0 27) 26) 21) 0 → (a ≡ true) × (b ≡ true) × (d ≡ true)
passed true true true e = (refl, refl, refl)
passed true true false e = absurd (omega arith)
passed true false d e = absurd (omega arith)
passed false b d e = absurd (omega arith)

some_asked : (c : Call) → lent c ≡ true → 1 ≤ c.asked
unfolding lent
some_asked c e =
    let a = (and_parts (path_lent c.asked c.path) (reaches_lent c.asked c.reaches) e).0 in
    let b = (and_parts (between 1 2001 c.asked) (room_for c.asked c.path) a).0 in
    leb-true 1 c.asked (and_parts (leb 1 c.asked) (leb c.asked 2001) b).0

having_start : (v : Vehicle) (c : Call) → place_refusal v c ≡ 0 → Keeping (drawn_start v (start_heading c))
unfolding place_refusal
having_start v c e =
    let t = passed (lent c) (path_sound c.asked c.path) (vehicle_sound v) e in
    record { vehicle = t.2; lengths = step_rule_lem.start v (start_heading c) t.2 (at_least_one c.asked (some_asked c t.0) t.1) }
  where
    at_least_one : (n : ℕ) → 1 ≤ n → path_sound n c.path ≡ true → Near (start_heading c) heading_length (pos 2 *ℤ heading_length)
    at_least_one zero h q = absurd (omega arith)
    at_least_one (suc n) h q = start_heading_lem c.path n q

pub demand_three_lem : DemandThree
demand_three_lem v w c before r after p placed ts chain =
    let n = none_refused (place_refusal v c) (sym p.answered ∙ placed) in
    let s = drawn_start v (start_heading c) in
    let e : view r.walk ≡ s = p.placed ∙ ap (λ (k : ℕ). unless_refused k s (view w)) n in
    record {
      answers = followed_answers s r.walk e ts chain;
      ended = followed_end s r.walk e ts chain;
      kept = always s (having_start v c n) (map (λ (t : Turn). t.call) ts);
    }
