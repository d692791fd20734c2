-- `reaches::ReachRoom::cross_station` meets its contract: a station that no point crosses is left as it stands.
use mathlib.Core.Path.{sym, ◌∙◌}
use Rattle.reaches.specs.Lent.{room_reaches}
use Rattle.reaches.proofs.CrossingLaws.{left_so}
use Rattle.reaches.proofs.FarLaws.{missed}
use Rattle.reaches.proofs.ReachRoom.cross_station.Goals as goal
use Rattle.reaches.proofs.ReachRoom.cross_station.Goals.{else-not-misses-via-then-not-misses+else-some_crosses, else-not-misses-via-else-not-misses}

pub returns-else-not-misses-clause-crossed : goal.returns-else-not-misses-clause-crossed
returns-else-not-misses-clause-crossed c =
    let a = c.args in
    let r = c.requires in
    let left = left_so a.i a.s a.olds.now a.news.now (room_reaches a.self.now) in
    elim c.else-not-misses.branch [
      | else-not-misses-via-then-not-misses+else-some_crosses w ↦ left (sym w.some_crosses.ensures ∙ w.if-some_crosses.false)
      | else-not-misses-via-else-not-misses w ↦ left (missed a.s r.station a.spread a.olds.now a.news.now r.spread (sym c.misses.ensures ∙ w.if-not-misses.false))
    ]
