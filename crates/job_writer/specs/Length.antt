-- The greatest length of a job's record, short or long: the sum of its fields' widths, and one byte more for as many lengths as can need it.
use Rattle.std.specs.Prelude.{ℕ, ◌+◌, ◌*◌}

-- a body's overhangs and half width; a short job's takes none
abbrev pub body_width : ℕ
body_width = 3 + 3 + 3

-- wheelbase, hitch, fold limit and body
abbrev pub unit_width : ℕ
unit_width = 3 + 3 + 2 + body_width

-- overhang and two half widths
abbrev pub widths_width : ℕ
widths_width = 3 + 3 + 3

-- start x and y, gx and gy
abbrev pub start_width : ℕ
start_width = 4 + 4 + 3 + 3

-- a length below 2^21 = 2,097,152, and a radius
abbrev pub element_width : ℕ
element_width = 3 + 3

-- a longer length takes a fourth byte; as a step is at most 20,000 ticks, it takes at least 105 of the job's 2,000 steps, so at most 19 lengths do
abbrev pub long_lengths : ℕ
long_lengths = 19

-- the number that announces the units, the units, the widths, the start, the step, the number of elements, the elements
abbrev pub longest_record : ℕ
longest_record = 1 + 4 * unit_width + widths_width + start_width + 3 + 1 + (64 * element_width + long_lengths)
