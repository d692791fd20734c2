-- `bogie::list_settings` meets its contract: a job that passed its tests is laid and walked.
use mathlib.Core.Path.{sym, subst}
use Rattle.path.specs.Laying.{PathRuns}
use Rattle.reaches.specs.Lent.{room_reaches}
use Rattle.stations.specs.Placing.{call_of}
use Rattle.ranking.specs.Ranking.{as_listed}
use Rattle.bogie.specs.Walks.{Walkable, WalkEnsures}
use Rattle.bogie.proofs.ListLaws.{not_refused, laid_walkable, walked_list}
use Rattle.bogie.proofs.list_settings.Goals as goal

pub returns-in_err-asked-clause-listed : goal.returns-in_err-asked-clause-listed
returns-in_err-asked-clause-listed c = absurd (not_refused c.args.j c.args.rail _ _ (sym c.in_ok-list_tested.ensures) _ _ c.in_err-asked.ensures.laid)

pub walk_settings-requires : goal.walk_settings-requires
walk_settings-requires c =
    let a = c.args in
    let m = c.in_ok-asked in
    subst (λ (q : PathRuns). Walkable a.j.vehicle a.rail (call_of m.asked q (room_reaches a.room.now))) (sym c.laid.ensures)
    (laid_walkable a.j a.rail _ (room_reaches a.room.now) (sym c.in_ok-list_tested.ensures) _ _ m.ensures.laid)

pub returns-clause-listed : goal.returns-clause-listed
returns-clause-listed c =
    let w = c.walk_settings in
    let r = room_reaches c.args.room.now in
    let a = c.args in
    let m = c.in_ok-asked in
    walked_list a.j a.rail _ r (sym c.in_ok-list_tested.ensures) _ _ m.ensures.laid _ _
    (subst (λ (q : PathRuns). WalkEnsures m.asked q a.j.vehicle a.rail r (as_listed w.result) (room_reaches w.new.room)) c.laid.ensures w.ensures.listed)
