-- What the code's answer says, case by case.
use Rattle.std.proofs.Math.Option.{Option, some, none}
use Rattle.std.specs.Prelude.{Option as Reading, Some, None, Float}

abbrev pub as_metres : Reading Float → Option Float
as_metres (Some x) = some x
as_metres None = none
