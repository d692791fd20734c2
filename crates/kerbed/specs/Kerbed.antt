-- Whether the rig of a job touches a kerb, from the job's bytes and the kerb's (02, N4): the report "from a copy of a walk" that stands at the job's own placement.
use Rattle.std.specs.Prelude.{ℕ, List, length, replicate, ℤ, pos}
use Rattle.std.proofs.lemmas.List.Edits.{sets}
use Rattle.number.specs.Read.{Read, got, refused}
use Rattle.job.specs.declared.Job.{Job}
use Rattle.job_reader.specs.Record.{read_job}
use Rattle.path.specs.Stations.{stations}
use Rattle.path.specs.Laying.{PathRuns}
use Rattle.walk.specs.Drawn.{Drawn, station_at}
use Rattle.walk.specs.Rig.{drawn_start}
use Rattle.run.specs.Run.{job_path}
use Rattle.swept.specs.Swept.{empty_path}
use Rattle.kerb_line.specs.Kerb.{KerbRuns, kerb_runs}
use Rattle.kerb_reader.specs.declared.Survey.{Survey}
use Rattle.kerb_reader.specs.Geometry.{vertices_of, read_geometry}
use Rattle.kerb_reader.specs.Ticks.{east_ticks, north_ticks}
use Rattle.kerb_report.specs.Answers.{KerbReport}
use Rattle.kerb_report.specs.Answers as R
use Rattle.kerb_report.specs.Report.{report_of}
use Rattle.kerbed.specs.Answers.{Kerbed}
use Rattle.kerbed.specs.Answers as K

-- the same answer; 21 and 26 name no byte, and byte 0 stands beside them
abbrev pub report_told : KerbReport → Kerbed
report_told R.nothing = K.nothing
report_told (R.touch k p) = K.touch k p
report_told (R.stopped n u k) = K.stopped n u k
report_told (R.refused n) = K.refused n 0

-- the vehicle placed at station 0 of a path
abbrev pub placed_rig : Job → PathRuns → Drawn
placed_rig j path = drawn_start j.vehicle (station_at path 0).heading

-- the report from there, over an accepted job's path, laid in runs of zeros
unfoldable pub kerbed_job : Job → ℕ → KerbRuns → Kerbed
kerbed_job j n kerb = let path = job_path j empty_path in report_told (report_of (placed_rig j path) (length (stations j)) path n kerb)

-- a record that is refused is told with its byte, before anything of the kerb
abbrev pub kerbed_ticks : Read Job → ℕ → KerbRuns → Kerbed
kerbed_ticks (got j e) n kerb = kerbed_job j n kerb
kerbed_ticks (refused n p) m kerb = K.refused n p

-- two runs of zeros, with an entry for every vertex that a kerb can have
unfoldable pub no_ticks : List ℤ
no_ticks = replicate 500 (pos 0)

abbrev pub survey_runs : Survey → KerbRuns
survey_runs g = kerb_runs (sets no_ticks 0 (east_ticks g)) (sets no_ticks 0 (north_ticks g))

-- so is a geometry that is refused, after the job
abbrev pub kerbed_survey : Job → Read Survey → Kerbed
kerbed_survey j (got g e) = kerbed_job j (length (vertices_of g)) (survey_runs g)
kerbed_survey j (refused n p) = K.refused n p

abbrev pub kerbed_read : Read Job → Read Survey → Kerbed
kerbed_read (got j e) geometry = kerbed_survey j geometry
kerbed_read (refused n p) geometry = K.refused n p

unfoldable pub kerbed_of : List ℕ → List ℕ → Kerbed
kerbed_of s g = kerbed_read (read_job s) (read_geometry g)
