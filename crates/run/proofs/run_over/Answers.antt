-- `run::run_over` meets its contract: placed, walked to the end, told.
use mathlib.Core.Path.{◌≡◌, sym, ◌∙◌, ap, subst}
use native.Mathlib.Omega.{arith}
use borrow.Author.Rules.{rules}
use lib.ListN.{length}
use Rattle.job.proofs.Arrays.{unmapped}
use Rattle.path.specs.declared.Station.{Station}
use Rattle.path.specs.Lent.{path_of}
use Rattle.walk.specs.Drawn.{view, station_at}
use Rattle.walk.specs.Rig.{drawn_start}
use Rattle.walk.specs.Moving.{StartReady}
use Rattle.walk.proofs.PathTests.{station_lent}
use Rattle.walk.proofs.RecordTests.{lent_call}
use Rattle.walk.proofs.ReadyLaws.{start_ready}
use Rattle.reaches.specs.Cells.{Reaches}
use Rattle.reaches.specs.Lent.{room_reaches}
use Rattle.stations.specs.Placing.{call_of}
use Rattle.stations.proofs.Entering.{room_of}
use Rattle.run.specs.Run.{Tellable}
use Rattle.run.proofs.OverLaws.{some_asked, heading_near, placed_going, end_on_path, end_tellable}
use Rattle.run.proofs.run_over.Goals as goal
use Rattle.run.proofs.run_over.Goals.{After-start-w}

is_placed : (c : After-start-w) → view c.start-w.result ≡ drawn_start c.args.v (station_at (path_of c.args.path) 0).heading
is_placed c = c.start-w.ensures ∙ ap (λ (z : Station). drawn_start c.args.v z.heading) c.station_at-start.ensures

pub station_at-start-requires : goal.station_at-start-requires
station_at-start-requires c =
    let path = path_of c.args.path in
    station_lent path c.args.asked 0 (lent_call _ c.requires.lent).0.room (some_asked c.args.asked path c.args.v (room_reaches c.args.room.now) c.requires)

pub clear-requires : goal.clear-requires
clear-requires c = room_of c.args.asked (path_of c.args.path) (room_reaches c.args.room.now) c.requires.lent

pub start-w-requires : goal.start-w-requires
start-w-requires c =
    let places : length c.args.v.units ≡ 4 = search (rules, unmapped) in
    subst (λ (z : Station). StartReady c.args.v z.heading) (sym c.station_at-start.ensures)
    (start_ready c.args.v places c.requires.vehicle _ (heading_near c.args.asked (path_of c.args.path) c.args.v (room_reaches c.args.room.now) c.requires))

pub walk_on-requires : goal.walk_on-requires
walk_on-requires c =
    let p = is_placed (goal.at.walk_on-requires c).After-start-w in
    placed_going c.args.asked (path_of c.args.path) c.args.v (room_reaches c.args.room.now) c.requires c.start-w.result (room_reaches c.clear.new.self) p c.clear.ensures.cleared

pub finished-requires : goal.finished-requires
finished-requires c =
    let path = path_of c.args.path in
    let p = is_placed (goal.at.finished-requires c).After-start-w in
    subst (λ (r : Reaches). Tellable c.walk_on.new.w.vehicle c.walk_on.new.w.station (call_of c.args.asked path r)) (sym c.reached.ensures)
    (end_tellable c.args.asked path c.args.v (room_reaches c.args.room.now) c.requires c.start-w.result (room_reaches c.clear.new.self) p c.clear.ensures.cleared _ _ c.walk_on.ensures.walked)

pub overflow_add-w : goal.overflow_add-w
overflow_add-w c =
    let p = is_placed (goal.at.overflow_add-w c).After-start-w in
    let k = end_on_path c.args.asked (path_of c.args.path) c.args.v (room_reaches c.args.room.now) c.requires c.start-w.result (room_reaches c.clear.new.self) p c.clear.ensures.cleared _ _ c.walk_on.ensures.walked in
    record { fits = omega (arith, k, c.ranges.asked.fits) }
