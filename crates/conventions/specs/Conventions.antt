-- Conventions of 01 and of 02, N3, that no law fixes, such as signs, orders and starting values: the rows of one list, covered by one claim.
use Rattle.std.specs.Prelude.{ℕ, ◌+◌, ◌≡◌, Bool, true, false, List, [], ◌∷◌, length, ℤ, pos}
use Rattle.plane.specs.declared.Vec2.{Vec2}
use Rattle.number.specs.Read.{Read, got, refused as not_read}
use Rattle.number.specs.Number.{read_number}
use Rattle.job.specs.declared.Unit.{Unit as VehicleUnit}
use Rattle.job.specs.declared.Vehicle.{Vehicle}
use Rattle.job.specs.declared.Job.{Job}
use Rattle.job.specs.Allowed.{heading_allowed}
use Rattle.job.specs.Faults.{judge}
use Rattle.job_reader.specs.Record.{read_job}
use Rattle.path.specs.declared.Station.{Station}
use Rattle.path.specs.Cuts.{Cut, cut, cuts}
use Rattle.path.specs.Laying.{PathRuns, path_runs}
use Rattle.walk.specs.Drawn.{Drawn, Call, Outcome, made, refused, refused_at}
use Rattle.walk.specs.Tests.{station_sound}
use Rattle.walk.specs.Units.{hitch_at}
use Rattle.walk.specs.Rig.{drawn_start, draw_step}
use Rattle.points.specs.Points.{rig_points}
use Rattle.reaches.specs.Cells.{Reaches, reach_runs, cleared}
use Rattle.reaches.specs.Crossing.{reach_of, crosses, crossed}
use Rattle.stations.specs.Placing.{call_of, place_refusal, start_heading}
use Rattle.stations.specs.Stepping.{points_at, if_made}
use Rattle.worked.specs.Rows.{AllHold, neg, vec}
use Rattle.conventions.specs.Rigs.{unit, vehicle, vehicle_of, single, hitched_last, bodied, long_vehicle, after_overhang, vectors, rig, single_at, station, north, call, call_marks, straight, right_bend, left_bend, job, three_stations, too_far_north, standing, three_units, third_square, second_square, slanted, trailer_behind, aside, short_turned_back, short_third, unused_vector}

-- a question, and last the answer
pub data Row : Type 0 where
  number_read : (bytes : List ℕ) (answer : Read ℕ) → Row
  element_cut : (step length : ℕ) (answer : List Cut) → Row
  heading_tested : (g : Vec2) (answer : Bool) → Row
  job_judged : (j : Job) (answer : ℕ) → Row
  job_refused : (bytes : List ℕ) (number place : ℕ) → Row
  placed : (v : Vehicle) (c : Call) (ds : List Vec2) → Row
  placement_refused : (v : Vehicle) (c : Call) (number : ℕ) → Row
  stepped : (s : Drawn) (c : Call) (answer : Outcome) (state : Drawn) → Row
  hitched : (u : VehicleUnit) (front d answer : Vec2) → Row
  points_placed : (v : Vehicle) (ds : List Vec2) (front : Vec2) (answer : List Vec2) → Row
  reached : (s : Station) (a : Vec2) (answer : ℤ) → Row
  crossing : (s : Station) (old new : Vec2) (answer : Bool) → Row
  entered : (s : Drawn) (asked : ℕ) (path : PathRuns) (before after : Reaches) → Row
  cleared_runs : (asked : ℕ) (before after : Reaches) → Row

-- the runs that a step call leaves
abbrev pub left_by : Drawn → Call → Reaches → Reaches
left_by s c before = if_made (draw_step s c).answer (crossed c.asked c.path (points_at s c) (points_at (draw_step s c).state c) before) before

-- what a row says: the definition that the contracts cite gives the answer
abbrev pub Holds : Row → Type 0
Holds (number_read bytes answer) = read_number bytes 0 ≡ answer
Holds (element_cut step length answer) = cuts step length ≡ answer
Holds (heading_tested g answer) = heading_allowed g.x g.y ≡ answer × station_sound (station (vec (pos 0) (pos 0)) g) ≡ answer
Holds (job_judged j answer) = judge j ≡ answer
Holds (job_refused bytes number place) = read_job bytes ≡ not_read number place
Holds (placed v c ds) = place_refusal v c ≡ 0 × drawn_start v (start_heading c) ≡ rig v 0 ds
Holds (placement_refused v c number) = place_refusal v c ≡ number
Holds (stepped s c answer state) = draw_step s c ≡ record { answer = answer; state = state }
Holds (hitched u front d answer) = hitch_at u front d ≡ answer
Holds (points_placed v ds front answer) = rig_points v (vectors ds) front ≡ answer
Holds (reached s a answer) = reach_of s a ≡ answer
Holds (crossing s old new answer) = crosses s old new ≡ answer
Holds (entered s asked path before after) = left_by s (call_of asked path before) before ≡ after
Holds (cleared_runs asked before after) = cleared asked before ≡ after

-- a refused step leaves the state; a made one is one station on, with these vectors
abbrev pub refused_step : Drawn → Call → Outcome → Row
refused_step s c answer = stepped s c answer s

abbrev pub made_step : Drawn → Call → List Vec2 → Row
made_step s c ds = stepped s c made (rig s.vehicle (s.station + 1) ds)

abbrev pub convention_rows : List Row
convention_rows =
    -- "A fifth group with its top bit set is 2", also where the bytes end with it; four such groups are 1; "value at most 4,294,967,295", and one more is 2
    number_read (0x80 ∷ 0x80 ∷ 0x80 ∷ 0x80 ∷ 0x80 ∷ []) (not_read 2 0)
    ∷ number_read (0x80 ∷ 0x80 ∷ 0x80 ∷ 0x80 ∷ []) (not_read 1 0)
    ∷ number_read (0xFF ∷ 0xFF ∷ 0xFF ∷ 0xFF ∷ 0x0F ∷ []) (got 4294967295 5)
    ∷ number_read (0x80 ∷ 0x80 ∷ 0x80 ∷ 0x80 ∷ 0x10 ∷ []) (not_read 2 0)
    -- "An element is cut into full steps and, where a remainder is left, one shorter step": by the ticks before each step, and its own
    ∷ element_cut 5000 12001 (cut 0 5000 ∷ cut 5000 5000 ∷ cut 10000 2001 ∷ [])
    ∷ element_cut 5000 10000 (cut 0 5000 ∷ cut 5000 5000 ∷ [])
    -- "gx² + gy² differs from N² by at most 2N", in the record and by 26: off by 1,999,993, −1,999,999, 2N + 1 and −2,000,003
    ∷ heading_tested (vec (pos 998288) (pos 58507)) true
    ∷ heading_tested (vec (pos 999999) (pos 0)) true
    ∷ heading_tested (vec (pos 1000001) (pos 0)) false
    ∷ heading_tested (vec (pos 999986) (pos 5099)) false
    -- "size at most that wheelbase; last unit 0": by value, in the record, where the hitch stands at byte 8, and by 27; on the first of two units it is let pass
    ∷ job_judged (job (vehicle_of (unit 5000 (neg 5000) (pos 0) ∷ unit 6000 (pos 0) (pos 0) ∷ [])) (straight 200000 ∷ [])) 0
    ∷ job_judged (job (vehicle_of (unit 5000 (neg 5000) (pos 0) ∷ unit 6000 (pos 1) (pos 0) ∷ [])) (straight 200000 ∷ [])) 4
    ∷ job_refused (0x02 ∷ 0x88 ∷ 0x27 ∷ 0x8F ∷ 0x4E ∷ 0x00 ∷ 0xF0 ∷ 0x2E ∷ 0x02 ∷ 0x00 ∷ 0xE8 ∷ 0x07 ∷ 0xD0 ∷ 0x0F ∷ 0xDC ∷ 0x0B ∷ 0x00 ∷ 0x00 ∷ 0x00 ∷ 0x80 ∷ 0x89 ∷ 0x7A ∷ 0x64 ∷ 0x01 ∷ 0xC0 ∷ 0x9A ∷ 0x0C ∷ 0x00 ∷ []) 4 8
    ∷ placement_refused hitched_last (call 3 three_stations) 27
    ∷ refused_step (rig hitched_last 1 (vec (pos 0) (pos 5000) ∷ [])) (call 3 three_stations) (refused 27)
    -- "A first number of 11 to 14 announces this long job for 1 to 4 units" (02, N3), and any other but 1 to 4 is 3; by value the count is 1 to 4 in a long job too
    ∷ job_refused (0x05 ∷ 0x88 ∷ 0x27 ∷ 0x00 ∷ 0x00 ∷ 0xE8 ∷ 0x07 ∷ 0xD0 ∷ 0x0F ∷ 0xDC ∷ 0x0B ∷ 0x00 ∷ after_overhang) 3 0
    ∷ job_refused (0x0A ∷ 0x88 ∷ 0x27 ∷ 0x00 ∷ 0x00 ∷ 0xE8 ∷ 0x07 ∷ 0xD0 ∷ 0x0F ∷ 0xDC ∷ 0x0B ∷ 0x00 ∷ after_overhang) 3 0
    ∷ job_refused (0x0F ∷ 0x88 ∷ 0x27 ∷ 0x00 ∷ 0x00 ∷ 0xE8 ∷ 0x07 ∷ 0xD0 ∷ 0x0F ∷ 0xDC ∷ 0x0B ∷ 0x00 ∷ after_overhang) 3 0
    ∷ job_judged (job (long_vehicle 11 (bodied (pos 0) 1500 ∷ []) 0) (straight 200000 ∷ [])) 3
    ∷ job_judged (job (long_vehicle 1 (bodied (pos 0) 1500 ∷ []) 0) (straight 200000 ∷ [])) 0
    -- "A body's overhang above 50,000 or half width outside 1,000 to 20,000 is 5 at that field", the fields standing at bytes 5, 7 and 9
    ∷ job_refused (0x0B ∷ 0x88 ∷ 0x27 ∷ 0x00 ∷ 0x00 ∷ 0xD1 ∷ 0x86 ∷ 0x03 ∷ 0xD0 ∷ 0x0F ∷ 0xDC ∷ 0x0B ∷ 0x00 ∷ after_overhang) 5 5
    ∷ job_refused (0x0B ∷ 0x88 ∷ 0x27 ∷ 0x00 ∷ 0x00 ∷ 0xE8 ∷ 0x07 ∷ 0xD1 ∷ 0x86 ∷ 0x03 ∷ 0xDC ∷ 0x0B ∷ 0x00 ∷ after_overhang) 5 7
    ∷ job_refused (0x0B ∷ 0x88 ∷ 0x27 ∷ 0x00 ∷ 0x00 ∷ 0xE8 ∷ 0x07 ∷ 0xD0 ∷ 0x0F ∷ 0xE7 ∷ 0x07 ∷ 0x00 ∷ after_overhang) 5 9
    ∷ job_refused (0x0B ∷ 0x88 ∷ 0x27 ∷ 0x00 ∷ 0x00 ∷ 0xE8 ∷ 0x07 ∷ 0xD0 ∷ 0x0F ∷ 0xA1 ∷ 0x9C ∷ 0x01 ∷ 0x00 ∷ after_overhang) 5 9
    -- "the old front overhang must be 0, else 5", at byte 11; by value, and by 27 of a placement
    ∷ job_refused (0x0B ∷ 0x88 ∷ 0x27 ∷ 0x00 ∷ 0x00 ∷ 0xE8 ∷ 0x07 ∷ 0xD0 ∷ 0x0F ∷ 0xDC ∷ 0x0B ∷ 0x01 ∷ after_overhang) 5 11
    ∷ job_judged (job (long_vehicle 1 (bodied (pos 0) 1500 ∷ []) 1) (straight 200000 ∷ [])) 5
    ∷ placement_refused (long_vehicle 1 (bodied (pos 0) 1500 ∷ []) 1) (call 3 three_stations) 27
    -- "with the body's three fields after each fold limit": 4 of a unit before 5 of its body, and that before 4 of the next unit; a short job's bodies "are never read"
    ∷ job_refused (0x0B ∷ 0x88 ∷ 0x27 ∷ 0x02 ∷ 0x00 ∷ 0xE8 ∷ 0x07 ∷ 0xD0 ∷ 0x0F ∷ 0xE7 ∷ 0x07 ∷ 0x00 ∷ after_overhang) 4 3
    ∷ job_refused (0x0C ∷ 0x88 ∷ 0x27 ∷ 0x00 ∷ 0x00 ∷ 0xE8 ∷ 0x07 ∷ 0xD0 ∷ 0x0F ∷ 0xE7 ∷ 0x07 ∷ 0x87 ∷ 0x27 ∷ 0x00 ∷ 0x00 ∷ 0xE8 ∷ 0x07 ∷ 0xD0 ∷ 0x0F ∷ 0xDC ∷ 0x0B ∷ 0x00 ∷ after_overhang) 5 9
    ∷ job_refused (0x0C ∷ 0x88 ∷ 0x27 ∷ 0x00 ∷ 0x00 ∷ 0xE8 ∷ 0x07 ∷ 0xD0 ∷ 0x0F ∷ 0xDC ∷ 0x0B ∷ 0x87 ∷ 0x27 ∷ 0x00 ∷ 0x00 ∷ 0xE8 ∷ 0x07 ∷ 0xD0 ∷ 0x0F ∷ 0xDC ∷ 0x0B ∷ 0x00 ∷ after_overhang) 4 11
    ∷ job_judged (job (long_vehicle 1 (bodied (pos 1) 999 ∷ []) 0) (straight 200000 ∷ [])) 4
    ∷ job_judged (job (long_vehicle 1 (bodied (pos 0) 999 ∷ []) 0) (straight 200000 ∷ [])) 5
    ∷ job_judged (job (long_vehicle 2 (bodied (pos 0) 999 ∷ bodied (pos 1) 1500 ∷ []) 0) (straight 200000 ∷ [])) 5
    ∷ job_judged (job (vehicle_of (bodied (pos 0) 999 ∷ [])) (straight 200000 ∷ [])) 0
    ∷ placement_refused (long_vehicle 1 (bodied (pos 0) 999 ∷ []) 0) (call 3 three_stations) 27
    ∷ placement_refused (long_vehicle 1 (bodied (pos 0) 1500 ∷ []) 0) (call 3 three_stations) 0
    -- the radius "0, or size 20,000 to 1,000,000", and "Radius 0 is a straight": by value an arc of radius 0 is none, to either side
    ∷ job_judged (job single (right_bend 1000 0 ∷ [])) 8
    ∷ job_judged (job single (left_bend 1000 0 ∷ [])) 8
    ∷ job_judged (job single (left_bend 1000 20000 ∷ [])) 0
    -- 9: "over 2,000 steps; tested after all elements, placed at their number": 1,001 and 1,000 steps, their number at byte 18; 1,000 and 1,000 pass
    ∷ job_judged (job single (straight 100000 ∷ right_bend 99901 20000 ∷ [])) 0
    ∷ job_judged (job single (straight 100001 ∷ right_bend 99901 20000 ∷ [])) 9
    ∷ job_refused (0x01 ∷ 0x88 ∷ 0x27 ∷ 0x00 ∷ 0x00 ∷ 0xE8 ∷ 0x07 ∷ 0xD0 ∷ 0x0F ∷ 0xDC ∷ 0x0B ∷ 0x00 ∷ 0x00 ∷ 0x00 ∷ 0x80 ∷ 0x89 ∷ 0x7A ∷ 0x64 ∷ 0x02 ∷ 0xA1 ∷ 0x8D ∷ 0x06 ∷ 0x00 ∷ 0xBD ∷ 0x8C ∷ 0x06 ∷ 0xC0 ∷ 0xB8 ∷ 0x02 ∷ []) 9 18
    -- "At the start every d is nearest L × g / N", g being the heading at station 0, "and unused vectors zero"
    ∷ placed (vehicle_of (unit 50001 (pos 5000) (pos 0) ∷ unit 80001 (pos 0) (neg 200) ∷ []))
    (call 2 (path_runs (pos 0 ∷ pos 0 ∷ []) (pos 0 ∷ pos 4000 ∷ []) (pos 600000 ∷ pos 1000000 ∷ []) (pos 800000 ∷ pos 0 ∷ [])))
    (vec (pos 30001) (pos 40001) ∷ vec (pos 48001) (pos 64001) ∷ [])
    -- "a later unit's F is the hitch ahead, R + nearest h × d / L": ahead of the axle and behind it, and a trailer drawn by either
    ∷ hitched (unit 50000 (pos 10000) (pos 0)) (vec (pos 1000) (pos 2000)) (vec (pos 30000) (pos 40000)) (vec (neg 23000) (neg 30000))
    ∷ hitched (unit 50000 (neg 10000) (pos 0)) (vec (pos 1000) (pos 2000)) (vec (pos 30000) (pos 40000)) (vec (neg 35000) (neg 46000))
    ∷ hitched (unit 50000 (pos 1) (pos 0)) (vec (pos 0) (pos 0)) (vec (pos 30000) (pos 40000)) (vec (neg 29999) (neg 39999))
    ∷ hitched (unit 50000 (neg 1) (pos 0)) (vec (pos 0) (pos 0)) (vec (pos 30000) (pos 40000)) (vec (neg 30001) (neg 40001))
    ∷ made_step (trailer_behind (pos 10000)) aside (vec (pos 30000) (pos 40000) ∷ vec (pos 6067) (pos 79770) ∷ [])
    ∷ made_step (trailer_behind (neg 10000)) aside (vec (pos 30000) (pos 40000) ∷ vec (neg 5918) (pos 79781) ∷ [])
    -- "1,000 × (d of the unit ahead · d) ≥ fold limit × both wheelbases", the limit being that of the unit behind, which is tested
    ∷ made_step (three_units (pos 900) (pos 0) third_square) standing third_square
    ∷ refused_step (three_units (pos 0) (pos 900) third_square) standing (refused_at 23 3)
    ∷ made_step (three_units (pos 0) (pos 900) second_square) standing second_square
    ∷ refused_step (three_units (pos 900) (pos 0) second_square) standing (refused_at 23 2)
    ∷ made_step (slanted (pos 600)) standing (vec (pos 0) (pos 50000) ∷ vec (pos 64000) (pos 48000) ∷ [])
    ∷ refused_step (slanted (pos 601)) standing (refused_at 23 2)
    -- "For each: a move longer than the wheelbase is refused (22); the unit turns; for units after the first, it is refused (23)": unit 2 would be both; then 23 alone
    ∷ refused_step short_turned_back (call 2 (north (pos 0 ∷ pos 6000 ∷ []))) (refused_at 22 2)
    ∷ refused_step short_turned_back (call 2 (north (pos 0 ∷ pos 5000 ∷ []))) (refused_at 23 2)
    -- "A step treats units from the first": 23 of unit 2 before 22 of unit 3; then 22 of unit 3 alone
    ∷ refused_step (short_third (pos 0)) (call 2 (north (pos 0 ∷ pos 6000 ∷ []))) (refused_at 23 2)
    ∷ refused_step (short_third (neg 1000)) (call 2 (north (pos 0 ∷ pos 6000 ∷ []))) (refused_at 22 3)
    -- the table of the points, "along" ahead of the base and "side" to the right: due north, and due east
    ∷ points_placed (vehicle (unit 50000 (pos 0) (pos 0) ∷ []) 10000 12000 11000) (vec (pos 0) (pos 50000) ∷ []) (vec (pos 0) (pos 65000))
    (vec (neg 12000) (pos 75000) ∷ vec (pos 12000) (pos 75000) ∷ vec (neg 12000) (pos 65000) ∷ vec (pos 12000) (pos 65000) ∷ vec (neg 11000) (pos 15000) ∷ vec (pos 11000) (pos 15000) ∷ vec (neg 11000) (pos 15000) ∷ vec (pos 11000) (pos 15000) ∷ [])
    ∷ points_placed (vehicle (unit 50000 (pos 0) (pos 0) ∷ []) 10000 12000 11000) (vec (pos 50000) (pos 0) ∷ []) (vec (pos 65000) (pos 0))
    (vec (pos 75000) (pos 12000) ∷ vec (pos 75000) (neg 12000) ∷ vec (pos 65000) (pos 12000) ∷ vec (pos 65000) (neg 12000) ∷ vec (pos 15000) (pos 11000) ∷ vec (pos 15000) (neg 11000) ∷ vec (pos 15000) (pos 11000) ∷ vec (pos 15000) (neg 11000) ∷ [])
    -- "Its reach at a station .. negative to the left": a point right and left of a station due north, and due east
    ∷ reached (station (vec (pos 100) (pos 200)) (vec (pos 0) (pos 1000000))) (vec (pos 103) (pos 207)) (pos 3)
    ∷ reached (station (vec (pos 100) (pos 200)) (vec (pos 0) (pos 1000000))) (vec (pos 97) (pos 207)) (neg 3)
    ∷ reached (station (vec (pos 100) (pos 200)) (vec (pos 1000000) (pos 0))) (vec (pos 107) (pos 197)) (pos 3)
    ∷ reached (station (vec (pos 100) (pos 200)) (vec (pos 1000000) (pos 0))) (vec (pos 107) (pos 203)) (neg 3)
    -- "A point crosses a station in a step when (A − P) · g goes from below 0 to 0 or more": from −1 to 0, and from 0 to 1
    ∷ crossing (station (vec (pos 0) (pos 0)) (vec (pos 998288) (pos 58507))) (vec (neg 2376) (pos 40541)) (vec (pos 0) (pos 0)) true
    ∷ crossing (station (vec (pos 0) (pos 0)) (vec (pos 998288) (pos 58507))) (vec (pos 0) (pos 0)) (vec (pos 2376) (neg 40541)) false
    -- "Then the reaches at both ends of that move enter the station's left (smallest) and right (greatest), and the point's bit is set in its mark"; "no step touches the bits above them" (02, N3):
    -- the rear wheels and corners cross station 0, the front ones the last; none crosses the station between them
    ∷ entered (single_at 1) 3 three_stations
    (reach_runs (pos 2000000000 ∷ neg 9 ∷ neg 2500 ∷ []) (neg 2000000000 ∷ pos 9 ∷ pos 1999 ∷ []) (4294967040 ∷ 0 ∷ 256 ∷ []))
    (reach_runs (neg 1500 ∷ neg 9 ∷ neg 2500 ∷ []) (pos 1500 ∷ pos 9 ∷ pos 2000 ∷ []) (4294967280 ∷ 0 ∷ 271 ∷ []))
    -- "A cleared station has left 2,000,000,000, right −2,000,000,000, mark 0", and the entry past the stations asked for stays
    ∷ cleared_runs 2
    (reach_runs (pos 1 ∷ pos 2 ∷ pos 3 ∷ []) (pos 1 ∷ pos 2 ∷ pos 3 ∷ []) (4294967295 ∷ 4294967295 ∷ 4294967295 ∷ []))
    (reach_runs (pos 2000000000 ∷ pos 2000000000 ∷ pos 3 ∷ []) (neg 2000000000 ∷ neg 2000000000 ∷ pos 3 ∷ []) (0 ∷ 0 ∷ 4294967295 ∷ []))
    -- "Tested in the order 21, 26, 27, 25": a step call that is wrong in every way, and as each is mended; then it is made
    ∷ refused_step unused_vector (call_marks 3 2 too_far_north) (refused 21)
    ∷ refused_step unused_vector (call 3 too_far_north) (refused 26)
    ∷ refused_step unused_vector (call 3 three_stations) (refused 27)
    ∷ refused_step (single_at 2) (call 3 three_stations) (refused 25)
    ∷ made_step (single_at 1) (call 3 three_stations) (vec (pos 0) (pos 5000) ∷ [])
    -- "Placement tests 21, 26, 27": the same of a placement
    ∷ placement_refused hitched_last (call_marks 3 2 too_far_north) 21
    ∷ placement_refused hitched_last (call 3 too_far_north) 26
    ∷ placement_refused hitched_last (call 3 three_stations) 27
    ∷ placed single (call 3 three_stations) (vec (pos 0) (pos 5000) ∷ [])
    -- 27: "a station beyond the last": station 3 of three, which is beyond station 2; 26 comes before it here too
    ∷ refused_step (single_at 3) (call 3 three_stations) (refused 27)
    ∷ refused_step (single_at 3) (call 3 too_far_north) (refused 26)
    ∷ []

-- the claim
pub record Conventions : Type 0 where
  pub count : length convention_rows ≡ 80
  pub hold : AllHold Holds convention_rows
