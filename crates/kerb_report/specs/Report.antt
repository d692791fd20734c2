-- The kerb report (02, N4): "From a copy of a walk, writing no run, report the first step (step k leads to station k), then lowest point, whose move touches or crosses a kerb segment".
use Rattle.std.specs.Prelude.{ℕ, zero, suc, ◌+◌, List, Option, Some, None}
use Rattle.number.specs.Read.{pick}
use Rattle.plane.specs.declared.Vec2.{Vec2}
use Rattle.path.specs.Laying.{PathRuns}
use Rattle.walk.specs.Drawn.{Drawn, Call, Outcome, made, refused, refused_at}
use Rattle.walk.specs.Tests.{path_lent, path_sound, record_sound}
use Rattle.walk.specs.Rig.{draw_step}
use Rattle.stations.specs.Stepping.{points_at}
use Rattle.run.specs.Walking.{steps_left}
use Rattle.kerb_line.specs.Kerb.{KerbRuns, vertices, kerb_lent, kerb_sound}
use Rattle.kerb_line.specs.Contact.{lowest_touch}
use Rattle.kerb_report.specs.Answers.{KerbReport}
use Rattle.kerb_report.specs.Answers as R

-- a step call over a path, on runs as long as the stations asked for; what they hold is not looked at
abbrev pub call_over : ℕ → PathRuns → Call
call_over asked path = record { asked = asked; path = path; reaches = record { left = asked; right = asked; marks = asked } }

-- the point that touches in a step that leads to station k, or what the steps after it come to
abbrev pub first_or : ℕ → Option ℕ → KerbReport → KerbReport
first_or k (Some p) later = R.touch k p
first_or k None later = later

-- "a refused step ends the report with its refusal"; one that names no unit, which no sound path and record meet, would name unit 0
abbrev pub after_step : ℕ → Outcome → KerbReport → KerbReport
after_step k made r = r
after_step k (refused n) r = R.stopped n 0 k
after_step k (refused_at n u) r = R.stopped n u k

-- the next n steps of a walk: "or none, as at the last station"
unfoldable pub look_ahead : ℕ → ℕ → PathRuns → List Vec2 → Drawn → KerbReport
look_ahead zero asked path kerb s = R.nothing
look_ahead (suc n) asked path kerb s =
    let c = call_over asked path in
    let t = draw_step s c in
    let k = s.station + 1 in
    after_step k t.answer (first_or k (lowest_touch (points_at s c) (points_at t.state c) kerb) (look_ahead n asked path kerb t.state))

-- "The report tests the kerb's runs too by 21 (1 to 500 vertices) and 26": 21 and then 26 for the path, each followed by the kerb's; then 27
unfoldable pub report_of : Drawn → ℕ → PathRuns → ℕ → KerbRuns → KerbReport
report_of s asked path n kerb =
    pick (path_lent asked path)
    (pick (kerb_lent n kerb)
    (pick (path_sound asked path)
    (pick (kerb_sound n kerb)
    (pick (record_sound asked s)
    (look_ahead (steps_left asked s) asked path (vertices n kerb) s)
    (R.refused 27))
    (R.refused 26))
    (R.refused 26))
    (R.refused 21))
    (R.refused 21)
