-- What placing, a step call and a run come to is what an answer of the program says: each of their numbers is a reason's.
use Prim.Native.Nat.{ℕ, zero, suc, ◌+◌}
use mathlib.Core.Path.{◌≡◌, refl, sym, ◌∙◌, ap}
use mathlib.Core.Bool.{Bool, true, false, ◌&&◌}
use mathlib.Core.Logic.{◌⊎◌, inl, inr}
use lib.Dec.{eqb}
use lib.ListN.{length}
use Rattle.std.specs.Prelude.{Result, Ok, Err}
use Rattle.refusal.specs.Numbers.{number_of}
use Rattle.refusal.specs.declared.Fault.{Fault}
use Rattle.refusal.specs.declared.Fault.TheVariants as F
use Rattle.number.specs.Read.{pick}
use Rattle.job.specs.declared.Job.{Job}
use Rattle.job.specs.declared.Vehicle.{Vehicle}
use Rattle.job.specs.Faults.{judge}
use Rattle.job.proofs.FaultLaws.{numbered}
use Rattle.path.specs.Stations.{stations}
use Rattle.path.specs.Laying.{PathRuns, room_for}
use Rattle.walk.specs.declared.StepRefusal.{StepRefusal}
use Rattle.walk.specs.declared.StepRefusal.TheVariants as S
use Rattle.walk.specs.Drawn.{Drawn, Call, Outcome, made, refused, refused_at, outcome_of, station_at}
use Rattle.walk.specs.Tests.{lent, reaches_lent, path_sound, vehicle_sound, record_sound, at_last, units_in_use}
use Rattle.walk.specs.Units.{none, Turning, turned, stopped}
use Rattle.walk.specs.Rig.{Stepped, turning_of, after_turning, turned_down, draw_step}
use Rattle.reaches.specs.Cells.{Reaches, lengths_of}
use Rattle.reaches.specs.Crossing.{crossed}
use Rattle.stations.specs.Placing.{call_of, place_refusal}
use Rattle.stations.specs.Stepping.{points_at, if_made}
use Rattle.run.specs.declared.Finish.{Finish}
use Rattle.run.specs.declared.RunRefusal.{RunRefusal}
use Rattle.run.specs.declared.RunRefusal.TheVariants as X
use Rattle.run.specs.Ran.{Ran, as_ran}
use Rattle.run.specs.Ran as R
use Rattle.run.specs.Walking.{Course, walk_on}
use Rattle.run.specs.Run.{finish_at, ran_by, ran_over, run_refusal, ran_answer}
use Rattle.run.proofs.StopLaws.{StopsIn, units_stop}
use Rattle.claim.specs.PremisesMet.{Told}
use Rattle.claim.proofs.FaultsNamed as N
use Rattle.claim.proofs.FaultsNamed.{Named, judge_named}

-- placing refuses by 21, 26 or 27
pub place_named : (v : Vehicle) (c : Call) → Named (place_refusal v c)
unfolding place_refusal
place_named v c = by (lent c) (path_sound c.asked c.path) (vehicle_sound v)
  where
    by : (a b d : Bool) → Named (pick a (pick b (pick d 0 27) 26) 21)
    by false b d = N.named F.RunTooShort refl
    by true false d = N.named F.PathUnsound refl
    by true true false = N.named F.RecordUnsound refl
    by true true true = N.none refl

-- a run refuses by its job's fault or by 21
pub run_named : (j : Job) (p : PathRuns) (r : Reaches) → Named (run_refusal j p r)
unfolding run_refusal
run_named j p r = by (eqb (judge j) 0) (room_for (length (stations j)) p) (reaches_lent (length (stations j)) (lengths_of r))
  where
    by : (a b c : Bool) → Named (pick a (pick (b && c) 0 21) (judge j))
    by false b c = judge_named j
    by true false c = N.named F.RunTooShort refl
    by true true false = N.named F.RunTooShort refl
    by true true true = N.none refl

-- an answer of a step call that says so
pub data Says (o : Outcome) : Type 0 where
  says : (a : Result (Unit {0}) StepRefusal) → outcome_of a ≡ o → Says o

pub step_says : (s : Drawn) (c : Call) → Says (draw_step s c).answer
unfolding draw_step
step_says s c = by (lent c) (path_sound c.asked c.path) (record_sound c.asked s) (at_last c.asked s) (after_turning s (turning_of s c)) (turning (turning_of s c) stops)
  where
    stops : StopsIn 1 (length (units_in_use s.vehicle)) (turning_of s c)
    stops = units_stop 1 none (units_in_use s.vehicle) s.vectors (station_at c.path s.station).position (station_at c.path (s.station + 1)).position

    at_unit : (f : Fault) (n u : ℕ) → n ≡ number_of f → Says (after_turning s (stopped n u)).answer
    at_unit f n u e = says (Err (S.Unit (record { fault = f; unit = u }))) (ap (λ (k : ℕ). (after_turning s (stopped k u)).answer) (sym e))

    turning : (t : Turning) → StopsIn 1 (length (units_in_use s.vehicle)) t → Says (after_turning s t).answer
    turning (turned ds) h = says (Ok tt) refl
    turning (stopped n u) (inl e, l, h) = at_unit F.MoveTooLong n u e
    turning (stopped n u) (inr e, l, h) = at_unit F.FoldLimit n u e

    by : (a b d l : Bool) (r : Stepped) → Says r.answer → Says (pick a (pick b (pick d (pick l (turned_down s 25) r) (turned_down s 27)) (turned_down s 26)) (turned_down s 21)).answer
    by false b d l r h = says (Err (S.Call F.RunTooShort)) refl
    by true false d l r h = says (Err (S.Call F.PathUnsound)) refl
    by true true false l r h = says (Err (S.Call F.RecordUnsound)) refl
    by true true true true r h = says (Err (S.Call F.LastStation)) refl
    by true true true false r h = h

pub step_told : (s : Drawn) (c : Call) → Told s c
step_told s c = by (step_says s c)
  where
    by : Says (draw_step s c).answer → Told s c
    by (says a e) = record { answer = a; told = e }

-- so does the last call of a walk
pub walk_says : (n asked : ℕ) (path : PathRuns) (s : Drawn) (r : Reaches) → Says (walk_on n asked path s r).answer
unfolding walk_on
walk_says zero asked path s r = says (Ok tt) refl
walk_says (suc n) asked path s r =
    let c = call_of asked path r in
    let t = draw_step s c in
    let r' = crossed asked path (points_at s c) (points_at t.state c) r in
    by t.answer (walk_on n asked path t.state r') (record { answer = t.answer; state = t.state; runs = r }) (walk_says n asked path t.state r') (step_says s c)
  where
    by : (o : Outcome) (a b : Course) → Says a.answer → Says b.answer → Says (if_made o a b).answer
    by made a b h k = h
    by (refused n) a b h k = k
    by (refused_at n u) a b h k = k

-- and an answer of a run
pub data RanSays (x : Ran) : Type 0 where
  ran_says : (a : Result Finish RunRefusal) → as_ran a ≡ x → RanSays x

over_says : (asked : ℕ) (path : PathRuns) (s : Drawn) (r : Reaches) (o : Outcome) → Says o → RanSays (ran_by asked path o s r)
over_says asked path s r o (says (Ok u) e) = ran_says (Ok (finish_at s.vehicle s.station asked path r)) (ap (λ (o : Outcome). ran_by asked path o s r) e)
over_says asked path s r o (says (Err (S.Call f)) e) = ran_says (Err (X.Stopped (record { fault = f; unit = 0; step = s.station + 1 }))) (ap (λ (o : Outcome). ran_by asked path o s r) e)
over_says asked path s r o (says (Err (S.Unit q)) e) = ran_says (Err (X.Stopped (record { fault = q.fault; unit = q.unit; step = s.station + 1 }))) (ap (λ (o : Outcome). ran_by asked path o s r) e)

refused_as : (m : ℕ) (x : Ran) → (m ≡ 0 → ⊥) → R.refused m ≡ ran_answer m x
refused_as zero x h = absurd (h refl)
refused_as (suc m) x h = refl

pub run_says : (asked : ℕ) (path : PathRuns) (c : Course) → Says c.answer → (m : ℕ) → Named m → RanSays (ran_answer m (ran_over asked path c))
run_says asked path c h m (N.none z) = by (over_says asked path c.state c.runs c.answer h)
  where
    by : RanSays (ran_over asked path c) → RanSays (ran_answer m (ran_over asked path c))
    by (ran_says a e) = ran_says a (e ∙ ap (λ (k : ℕ). ran_answer k (ran_over asked path c)) (sym z))
run_says asked path c h m (N.named f n) = ran_says (Err (X.Refused f)) (ap (λ (k : ℕ). R.refused k) n ∙ refused_as m (ran_over asked path c) (λ z. numbered f (n ∙ z)))
