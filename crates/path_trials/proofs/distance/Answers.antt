-- `path_trials::distance` is safe and ends: the gap of two such places is still moderate.
use mathlib.Core.Path.{sym, subst}
use Rattle.plane.specs.declared.Vec2.{Vec2}
use Rattle.plane.specs.Vector.{BothModerate}
use Rattle.path_trials.proofs.EndLaws.{ends_moderate, gap_moderate}
use Rattle.path_trials.proofs.distance.Goals as goal

pub minus-d-requires : goal.minus-d-requires
minus-d-requires c = ends_moderate c.args.a c.args.b c.requires

pub dot-requires : goal.dot-requires
dot-requires c =
    let s = c.before in
    let g = gap_moderate s.args.a s.args.b s.requires in
    subst (λ (v : Vec2). BothModerate v v) (sym c.minus-d.ensures) (record { first = g; second = g })
