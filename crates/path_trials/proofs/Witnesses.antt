-- What measuring asks can be met, at the ends of its range too.
use lib.Dec.{lit≤}
use lib.IntN.{pos, negsuc}
use Rattle.plane.specs.declared.Vec2.{Vec2}
use Rattle.path_trials.specs.Ends.{Measurable, BothMeasurable}

abbrev far : Vec2
far = record { x = pos 150000000; y = negsuc 149999999 }

measurable_met : Measurable far
measurable_met = record { x = record { size = lit≤ tt }; y = record { size = lit≤ tt } }

both_measurable_met : BothMeasurable far far
both_measurable_met = record { first = measurable_met; second = measurable_met }
