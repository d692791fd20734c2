-- `kerbed::placed_report` meets its contract.
use borrow.Author.Rules.{rules}
use mathlib.Core.Path.{◌≡◌, sym, ◌∙◌, ap, subst}
use lib.ListN.{length}
use Rattle.job.proofs.Arrays.{unmapped}
use Rattle.path.specs.declared.Station.{Station}
use Rattle.path.specs.Lent.{path_of}
use Rattle.walk.specs.Drawn.{Drawn}
use Rattle.walk.specs.Rig.{drawn_start}
use Rattle.walk.specs.Moving.{StartReady}
use Rattle.walk.proofs.PathTests.{path_station, station_lent}
use Rattle.walk.proofs.RecordTests.{lent_path}
use Rattle.walk.proofs.ReadyLaws.{start_ready}
use Rattle.kerb_line.specs.Lent.{runs_of}
use Rattle.kerb_report.specs.Answers.{as_report}
use Rattle.kerb_report.specs.Ranges.{ReportEnsures}
use Rattle.kerbed.proofs.placed_report.Goals as goal

pub station_at-start-requires : goal.station_at-start-requires
station_at-start-requires c =
    let a = c.args in
    let l = lent_path a.asked (path_of a.path) c.requires.lent in
    station_lent (path_of a.path) a.asked 0 l.room l.least

pub start-w-requires : goal.start-w-requires
start-w-requires c =
    let a = c.args in
    let l = lent_path a.asked (path_of a.path) c.requires.lent in
    let n : length a.j.vehicle.units ≡ 4 = search (rules, unmapped) in
    subst (λ (z : Station). StartReady a.j.vehicle z.heading) (sym c.station_at-start.ensures)
    (start_ready a.j.vehicle n c.requires.vehicle _ (path_station (path_of a.path) a.asked 0 c.requires.path l.least).heading)

pub returns : goal.returns
returns c =
    let a = c.args in
    subst (λ (d : Drawn). ReportEnsures d a.asked (path_of a.path) a.kerb.count (runs_of a.kerb) (as_report c.report.result))
    (c.start-w.ensures ∙ ap (λ (z : Station). drawn_start a.j.vehicle z.heading) c.station_at-start.ensures) c.report.ensures
