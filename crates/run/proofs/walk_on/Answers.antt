-- `run::walk_on` meets its contract: at each turn the walk from here to the end is the walk from the start to the end.
use Prim.Native.Nat.{ℕ, ◌+◌, ◌<◌}
use mathlib.Core.Path.{refl, sym, ◌∙◌, ap}
use native.Mathlib.Omega.{arith}
use Rattle.std.proofs.lemmas.Result.{err_from_is_err_and}
use Rattle.path.specs.Lent.{path_of}
use Rattle.walk.specs.Drawn.{view}
use Rattle.walk.proofs.RecordTests.{sound_record}
use Rattle.reaches.specs.Lent.{room_reaches}
use Rattle.reaches.proofs.Loans.{same_loans, loans_on}
use Rattle.stations.proofs.StepLaws.{err_not_made}
use Rattle.run.proofs.WalkingLaws.{is_open, at_end, stopped_here, one_on, still_going, goes_on}
use Rattle.run.proofs.walk_on.Goals as goal
use Rattle.run.proofs.walk_on.Goals.{In-loop}

pub overflow_step : goal.overflow_step
overflow_step c = record { fits = omega (arith, c.ranges.asked.fits, (sound_record c.args.asked (view c.args.w.now) c.requires.rig).station) }

pub loop-init : goal.loop-init
loop-init c = record { loans = same_loans; going = c.requires; reached = refl; same = refl }

before_end : (c : In-loop) → c.loop.w.station + 1 < c.args.asked
before_end c = omega (arith, c.loop.invariant.reached, c.loop-test.true)

pub advance_and_enter-requires : goal.advance_and_enter-requires
advance_and_enter-requires c = is_open (view c.loop.w) _ c.loop.invariant.going (before_end (goal.at.advance_and_enter-requires c).In-loop)

pub returns-in_err-advance_and_enter-clause-loans : goal.returns-in_err-advance_and_enter-clause-loans
returns-in_err-advance_and_enter-clause-loans c = loans_on c.loop.invariant.loans c.in_err-advance_and_enter.ensures.loans

pub returns-in_err-advance_and_enter-clause-walked : goal.returns-in_err-advance_and_enter-clause-walked
returns-in_err-advance_and_enter-clause-walked c =
    let p = err_from_is_err_and c.from_residual.result c.from_residual.ensures.1 in
    let h = before_end (goal.at.returns-in_err-advance_and_enter-clause-walked c).In-loop in
    rw (p.1, p.2) (stopped_here c.args.asked (path_of c.args.path) c.loop.w (room_reaches c.loop.room) _ _ h c.in_err-advance_and_enter.ensures.stepped (err_not_made c.in_err-advance_and_enter.field-0.0)
    ∙ c.loop.invariant.same)

pub loop-preserved : goal.loop-preserved
loop-preserved c =
    let path = path_of c.args.path in
    let w = c.loop.w in
    let r = room_reaches c.loop.room in
    let i = c.loop.invariant in
    let k = c.in_ok-advance_and_enter.ensures in
    let h = before_end (goal.at.loop-preserved c).In-loop in
    record {
      loans = loans_on i.loans k.loans;
      going = still_going c.args.asked path w r _ _ h k.stepped refl i.going;
      reached = ap (λ (n : ℕ). n + 1) (one_on c.args.asked path w r _ _ h k.stepped refl i.going ∙ i.reached);
      same = goes_on c.args.asked path w r _ _ h k.stepped refl i.going ∙ i.same;
    }

pub returns-clause-loans : goal.returns-clause-loans
returns-clause-loans c = c.loop.invariant.loans

pub returns-clause-walked : goal.returns-clause-walked
returns-clause-walked c =
    let i = c.loop.invariant in
    sym (at_end c.args.asked (path_of c.args.path) (view c.loop.w) (room_reaches c.loop.room) (omega (arith, i.reached, c.loop-test.false))) ∙ i.same
