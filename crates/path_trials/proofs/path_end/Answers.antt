-- `path_trials::path_end` meets its contract: the last entry that was laid is the last station.
use Rattle.std.proofs.Common.{◌∙◌, ◌-◌, ap, subst, sym}
use Rattle.refusal.specs.Numbers.{answered}
use Rattle.path.specs.Laying.{PathRuns, station_at}
use Rattle.path.specs.declared.Station.{Station}
use Rattle.walk.specs.TestRequires.{StationLent}
use Rattle.path_trials.proofs.EndLaws.{some, last_lent, end_read}
use Rattle.path_trials.proofs.path_end.Goals as goal

pub overflow_sub-stations : goal.overflow_sub-stations
overflow_sub-stations c = some _ _ _ _ c.in_ok-stations.ensures.laid

pub station_at-end-requires : goal.station_at-end-requires
station_at-end-requires c =
    subst (λ (p : PathRuns). StationLent (c.in_ok-stations.stations - 1) p) (sym c.laid.ensures) (last_lent _ _ _ _ c.in_ok-stations.ensures.laid)

pub returns : goal.returns
returns c =
    let n = c.in_ok-stations.stations in
    ap (λ (s : Station). answered (record { stations = n; position = s.position })) (c.station_at-end.ensures ∙ ap (λ (p : PathRuns). station_at p (n - 1)) c.laid.ensures)
    ∙ end_read _ _ _ _ c.in_ok-stations.ensures.laid
