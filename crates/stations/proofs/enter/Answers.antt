-- `stations::enter` meets its contract.
use mathlib.Core.Path.{sym, ◌∙◌, ap, ap₂, subst₂}
use mathlib.Core.List.{List}
use lib.ListN.{length}
use Rattle.plane.specs.declared.Vec2.{Vec2}
use Rattle.marks.specs.Count.{point_count}
use Rattle.path.specs.Lent.{path_of}
use Rattle.reaches.specs.Lent.{room_reaches}
use Rattle.reaches.specs.Inner.{Crossable}
use Rattle.reaches.specs.Crossing.{crossed}
use Rattle.stations.proofs.Entering.{points_fit, taken_count, taken_as, crossable}
use Rattle.stations.proofs.enter.Goals as goal

pub slice_bounds-olds-end : goal.slice_bounds-olds-end
slice_bounds-olds-end c = points_fit c.args.before.vehicle c.requires.before.rig.most c.args.before.d c.args.old c.point_count-count.ensures c.points-olds.ensures

pub slice_bounds-cross-end : goal.slice_bounds-cross-end
slice_bounds-cross-end c = taken_count c.args.before.vehicle c.requires.before.rig.most c.args.before.d c.args.old c.point_count-count.ensures c.points-olds.ensures

pub slice_bounds-news-end : goal.slice_bounds-news-end
slice_bounds-news-end c = points_fit c.args.after.vehicle c.requires.after.rig.most c.args.after.d c.args.new (c.point_count-count.ensures ∙ sym (ap point_count c.requires.vehicle)) c.points-news.ensures

pub slice_bounds-cross-end-2 : goal.slice_bounds-cross-end-2
slice_bounds-cross-end-2 c = taken_count c.args.after.vehicle c.requires.after.rig.most c.args.after.d c.args.new (c.point_count-count.ensures ∙ sym (ap point_count c.requires.vehicle)) c.points-news.ensures

pub cross-requires : goal.cross-requires
cross-requires c =
    let olds = taken_as c.args.before.vehicle c.requires.before.rig.most c.args.before.d c.args.old c.point_count-count.ensures c.points-olds.ensures in
    let news = taken_as c.args.after.vehicle c.requires.after.rig.most c.args.after.d c.args.new (c.point_count-count.ensures ∙ sym (ap point_count c.requires.vehicle)) c.points-news.ensures in
    let r = room_reaches c.args.room.now in
    subst₂ (λ (a b : List Vec2). Crossable c.args.asked (path_of c.args.path) (length a) a b r) (sym olds) (sym news)
    (crossable c.args.before c.args.after c.args.old c.args.new c.args.asked (path_of c.args.path) r c.requires)

pub returns-clause-entered : goal.returns-clause-entered
returns-clause-entered c =
    let olds = taken_as c.args.before.vehicle c.requires.before.rig.most c.args.before.d c.args.old c.point_count-count.ensures c.points-olds.ensures in
    let news = taken_as c.args.after.vehicle c.requires.after.rig.most c.args.after.d c.args.new (c.point_count-count.ensures ∙ sym (ap point_count c.requires.vehicle)) c.points-news.ensures in
    c.cross.ensures.crossed ∙ ap₂ (λ (a b : List Vec2). crossed c.args.asked (path_of c.args.path) a b (room_reaches c.args.room.now)) olds news
