-- `trial_tools::places::points_at` is safe and ends: what passed the tests is a rig at a station.
use Prim.Native.Nat.{ℕ, ◌<◌}
use mathlib.Core.Bool.{true}
use mathlib.Core.Path.{◌≡◌, sym, ◌∙◌, subst}
use Rattle.path.specs.Lent.{path_of}
use Rattle.path.specs.declared.Station.{Station}
use Rattle.job.proofs.Arrays.{unmapped}
use Rattle.walk.specs.declared.Walk.{Walk}
use Rattle.walk.specs.Drawn.{view}
use Rattle.walk.specs.Tests.{record_sound}
use Rattle.walk.proofs.PathTests.{station_lent}
use Rattle.walk.proofs.RecordTests.{lent_path, sound_record}
use Rattle.points.specs.Requires.{RigAt}
use Rattle.stations.proofs.RigLaws.{sound_keeping}
use Rattle.stations.proofs.Entering.{rig_at}
use borrow.Author.Rules.{rules}
use Rattle.trial_tools.proofs.places.points_at.Goals as goal

-- a station that a record which passed its test has reached
reached : (w : Walk) (asked : ℕ) → record_sound asked (view w) ≡ true → w.station < asked
reached w asked passed = (sound_record asked (view w) passed).station

pub station_at-here-requires : goal.station_at-here-requires
station_at-here-requires c =
    let w = c.args.w in
    let asked = c.args.asked in
    let p = path_of c.args.path in
    station_lent p asked w.station (lent_path asked p (sym c.path_lent.ensures ∙ c.if-not-path_lent.false)).room (reached w asked (sym c.record_sound.ensures ∙ c.if-not-record_sound.false))

pub points-requires : goal.points-requires
points-requires c =
    let w = c.args.w in
    let asked = c.args.asked in
    let p = path_of c.args.path in
    let passed = sym c.record_sound.ensures ∙ c.if-not-record_sound.false in
    subst (λ (z : Station). RigAt w.vehicle w.d z.position) (sym c.station_at-here.ensures)
    (rig_at w p asked w.station (search (rules, unmapped)) (sound_keeping asked (view w) passed) (sym c.path_sound.ensures ∙ c.if-not-path_sound.false) (reached w asked passed))
