-- A vehicle placed, or a record that no step takes where it is refused.
use Rattle.std.specs.Prelude.{replicate}
use Rattle.job.specs.declared.Vehicle.{Vehicle}
use Rattle.walk.specs.Drawn.{Drawn, Call}
use Rattle.walk.specs.Rig.{zero_vector, drawn_start}
use Rattle.reaches.specs.Cells.{Reaches, cleared}
use Rattle.stations.specs.Placing.{place_refusal, unless_refused, start_heading}

abbrev pub unplaced : Vehicle → Drawn
unplaced v = record { vehicle = v; station = 0; vectors = replicate 4 zero_vector }

abbrev pub walk_placed : Vehicle → Call → Drawn
walk_placed v c = unless_refused (place_refusal v c) (drawn_start v (start_heading c)) (unplaced v)

abbrev pub runs_placed : Vehicle → Call → Reaches → Reaches
runs_placed v c r = unless_refused (place_refusal v c) (cleared c.asked r) r
