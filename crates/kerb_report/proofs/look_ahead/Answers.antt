-- `kerb_report::look_ahead` meets its contract: at each turn the look ahead from here is the look ahead from the start, and the old points are those of the walk here.
use Prim.Native.Nat.{ℕ, ◌+◌}
use mathlib.Core.Path.{◌≡◌, refl, sym, ◌∙◌, ap}
use native.Mathlib.Omega.{arith}
use lib.ListN.{length}
use borrow.Author.Rules.{rules}
use Rattle.std.specs.Prelude.{Err}
use Rattle.job.proofs.Arrays.{unmapped}
use Rattle.path.specs.Lent.{path_of}
use Rattle.walk.specs.Drawn.{view}
use Rattle.walk.proofs.RecordTests.{sound_record}
use Rattle.walk.proofs.VehicleTests.{units_counted}
use Rattle.run.specs.declared.Stop.{Stop}
use Rattle.run.specs.declared.RunRefusal.TheVariants.{Stopped}
use Rattle.kerb_line.specs.Kerb.{vertices}
use Rattle.kerb_line.specs.Lent.{runs_of}
use Rattle.kerb_report.specs.Answers.{as_report}
use Rattle.kerb_report.proofs.LookLaws.{look_end, on_path, steppable, fit, taken, meetable, stopped_here, one_on, still_here, touched_here, clear_here}
use Rattle.kerb_report.proofs.look_ahead.Goals as goal

pub point_count-count-requires : goal.point_count-count-requires
point_count-count-requires c = record { most = (units_counted c.args.w.vehicle (sound_record c.args.asked (view c.args.w) c.requires.rig).vehicle).1 }

pub points_here-olds-requires : goal.points_here-olds-requires
points_here-olds-requires c =
    let a = c.args in
    let places : length a.w.vehicle.units ≡ 4 = search (rules, unmapped) in
    on_path a.asked (path_of a.path) a.kerb.count (runs_of a.kerb) a.w _ (record { ahead = c.requires; places = places; count = c.point_count-count.ensures })

pub overflow_step-step : goal.overflow_step-step
overflow_step-step c = record { fits = omega (arith, c.ranges.asked.fits, (sound_record c.args.asked (view c.args.w) c.requires.rig).station) }

pub loop-step-init : goal.loop-step-init
loop-step-init c =
    let places : length c.args.w.vehicle.units ≡ 4 = search (rules, unmapped) in
    record { here = record { ahead = c.requires; places = places; count = c.point_count-count.ensures }; led = refl; olds = c.points_here-olds.ensures; rest = refl }

pub next_step-requires : goal.next_step-requires
next_step-requires c =
    let a = c.args in
    let l = c.loop-step in
    let i = l.invariant in
    steppable a.asked (path_of a.path) a.kerb.count (runs_of a.kerb) l.here _ i.here (omega (arith, i.led, c.loop-step-test.true))

pub returns-in-Err : goal.returns-in-Err
returns-in-Err c =
    let a = c.args in
    let l = c.loop-step in
    let i = l.invariant in
    ap (λ (s : Stop). as_report (Err (Stopped s))) c.stop_at.ensures
    ∙ stopped_here a.asked (path_of a.path) a.kerb.count (runs_of a.kerb) l.here _ i.here l.step i.led c.loop-step-test.true c.in-Err.refusal c.next_step.new.w c.in-Err.ensures ∙ i.rest

pub points_here-news-requires : goal.points_here-news-requires
points_here-news-requires c =
    let a = c.args in
    let l = c.loop-step in
    let i = l.invariant in
    let w = c.next_step.new.w in
    on_path a.asked (path_of a.path) a.kerb.count (runs_of a.kerb) w _ (still_here a.asked (path_of a.path) a.kerb.count (runs_of a.kerb) l.here _ i.here l.step i.led c.loop-step-test.true w c.in_default.ensures)

pub slice_bounds-olds-end : goal.slice_bounds-olds-end
slice_bounds-olds-end c = let a = c.args in let i = c.loop-step.invariant in fit a.asked (path_of a.path) a.kerb.count (runs_of a.kerb) c.loop-step.here _ i.here c.loop-step.olds i.olds

pub slice_bounds-lowest_touch-end : goal.slice_bounds-lowest_touch-end
slice_bounds-lowest_touch-end c = let a = c.args in let i = c.loop-step.invariant in taken a.asked (path_of a.path) a.kerb.count (runs_of a.kerb) c.loop-step.here _ i.here c.loop-step.olds i.olds

pub slice_bounds-news-end : goal.slice_bounds-news-end
slice_bounds-news-end c =
    let a = c.args in
    let l = c.loop-step in
    let i = l.invariant in
    let w = c.next_step.new.w in
    fit a.asked (path_of a.path) a.kerb.count (runs_of a.kerb) w _ (still_here a.asked (path_of a.path) a.kerb.count (runs_of a.kerb) l.here _ i.here l.step i.led c.loop-step-test.true w c.in_default.ensures) _ c.points_here-news.ensures

pub slice_bounds-lowest_touch-end-in-loop-step : goal.slice_bounds-lowest_touch-end-in-loop-step
slice_bounds-lowest_touch-end-in-loop-step c =
    let a = c.args in
    let l = c.loop-step in
    let i = l.invariant in
    let w = c.next_step.new.w in
    taken a.asked (path_of a.path) a.kerb.count (runs_of a.kerb) w _ (still_here a.asked (path_of a.path) a.kerb.count (runs_of a.kerb) l.here _ i.here l.step i.led c.loop-step-test.true w c.in_default.ensures) _ c.points_here-news.ensures

pub lowest_touch-requires : goal.lowest_touch-requires
lowest_touch-requires c =
    let a = c.args in
    let l = c.loop-step in
    let i = l.invariant in
    let w = c.next_step.new.w in
    let still = still_here a.asked (path_of a.path) a.kerb.count (runs_of a.kerb) l.here _ i.here l.step i.led c.loop-step-test.true w c.in_default.ensures in
    meetable a.asked (path_of a.path) a.kerb.count (runs_of a.kerb) l.here w _ i.here still l.olds _ i.olds c.points_here-news.ensures

pub returns-in-Some : goal.returns-in-Some
returns-in-Some c =
    let a = c.args in
    let l = c.loop-step in
    let i = l.invariant in
    touched_here a.asked (path_of a.path) a.kerb.count (runs_of a.kerb) l.here _ i.here l.step i.led c.loop-step-test.true c.next_step.new.w c.in_default.ensures l.olds _ i.olds c.points_here-news.ensures c.in-Some.point c.in-Some.ensures
    ∙ i.rest

pub loop-step-preserved : goal.loop-step-preserved
loop-step-preserved c =
    let a = c.args in
    let l = c.loop-step in
    let i = l.invariant in
    let w = c.next_step.new.w in
    record {
      here = still_here a.asked (path_of a.path) a.kerb.count (runs_of a.kerb) l.here _ i.here l.step i.led c.loop-step-test.true w c.in_default.ensures;
      led = ap (λ (k : ℕ). k + 1) (one_on a.asked (path_of a.path) a.kerb.count (runs_of a.kerb) l.here _ i.here l.step i.led c.loop-step-test.true w c.in_default.ensures);
      olds = c.points_here-news.ensures;
      rest = clear_here a.asked (path_of a.path) a.kerb.count (runs_of a.kerb) l.here _ i.here l.step i.led c.loop-step-test.true w c.in_default.ensures l.olds _ i.olds c.points_here-news.ensures (c.in_default-lowest_touch.ensures) ∙ i.rest;
    }

pub returns : goal.returns
returns c =
    let a = c.args in
    let l = c.loop-step in
    sym (look_end a.asked (path_of a.path) (vertices a.kerb.count (runs_of a.kerb)) (view l.here) (omega (arith, l.invariant.led, c.loop-step-test.false))) ∙ l.invariant.rest
