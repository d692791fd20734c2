-- Reports of each kind (02, N4): a rig of one unit on a straight due north, its points 1,000 to the left and to the right, its front ones at the station that it has reached.
use Rattle.std.specs.Prelude.{ℕ, ◌≡◌, List, [], ◌∷◌, ℤ, pos}
use Rattle.job.specs.declared.Form.TheVariants.{Short}
use Rattle.job.specs.declared.Vehicle.{Vehicle}
use Rattle.job.specs.Empty.{empty_body, empty_unit}
use Rattle.path.specs.Laying.{PathRuns, path_runs}
use Rattle.walk.specs.Drawn.{Drawn}
use Rattle.walk.specs.Rig.{zero_vector}
use Rattle.kerb_line.specs.Kerb.{kerb_runs}
use Rattle.kerb_report.specs.Answers.{KerbReport}
use Rattle.kerb_report.specs.Answers as R
use Rattle.kerb_report.specs.Report.{report_of}

abbrev pub vehicle : Vehicle
vehicle = record {
  form = Short;
  count = 1;
  units = record { wheelbase = 5000; hitch = pos 0; fold = pos 0; body = empty_body } ∷ empty_unit ∷ empty_unit ∷ empty_unit ∷ [];
  overhang = 0;
  front_half_width = 1000;
  rear_half_width = 1000;
}

-- the record at a station
abbrev pub at : ℕ → Drawn
at k = record { vehicle = vehicle; station = k; vectors = record { x = pos 0; y = pos 5000 } ∷ zero_vector ∷ zero_vector ∷ zero_vector ∷ [] }

-- three stations, the last one at y
abbrev pub path_to : ℕ → PathRuns
path_to y = path_runs (pos 0 ∷ pos 0 ∷ pos 0 ∷ []) (pos 0 ∷ pos 5000 ∷ pos y ∷ []) (pos 0 ∷ pos 0 ∷ pos 0 ∷ []) (pos 1000000 ∷ pos 1000000 ∷ pos 1000000 ∷ [])

-- from that record along three stations, by a kerb of these vertices
abbrev pub row : ℕ → ℕ → ℕ → List ℤ → List ℤ → KerbReport
row k y n xs ys = report_of (at k) 3 (path_to y) n (kerb_runs xs ys)

-- the claim
pub record WorkedReports : Type 0 where
  -- a line that the right front corner crosses in step 2, of which it is point 1
  pub crossed : row 0 10000 2 (pos 500 ∷ pos 1500 ∷ []) (pos 7000 ∷ pos 7000 ∷ []) ≡ R.touch 2 1
  -- a single vertex where it comes to rest, at the end of step 1
  pub ended : row 0 10000 1 (pos 1000 ∷ []) (pos 5000 ∷ []) ≡ R.touch 1 1
  -- a tick past where it comes to rest at last
  pub missed : row 0 10000 1 (pos 1000 ∷ []) (pos 10001 ∷ []) ≡ R.nothing
  -- none, as at the last station
  pub last : row 2 10000 1 (pos 1000 ∷ []) (pos 10000 ∷ []) ≡ R.nothing
  -- a second step of more than the wheelbase is refused, and not looked at
  pub stopped : row 0 10001 1 (pos 1000 ∷ []) (pos 7000 ∷ []) ≡ R.stopped 22 1 2
  -- but a touch before it is
  pub first : row 0 10001 1 (pos 1000 ∷ []) (pos 5000 ∷ []) ≡ R.touch 1 1
  -- no vertex, one too far off, and a station that the path does not have
  pub none : row 0 10000 0 (pos 1000 ∷ []) (pos 5000 ∷ []) ≡ R.refused 21
  pub far : row 0 10000 1 (pos 150000001 ∷ []) (pos 5000 ∷ []) ≡ R.refused 26
  pub beyond : row 3 10000 1 (pos 1000 ∷ []) (pos 5000 ∷ []) ≡ R.refused 27
  -- 21 before 26, and 26, of the path and of the kerb, before 27
  pub none_before_path : row 0 150000001 0 (pos 1000 ∷ []) (pos 5000 ∷ []) ≡ R.refused 21
  pub path_before_beyond : row 3 150000001 1 (pos 1000 ∷ []) (pos 5000 ∷ []) ≡ R.refused 26
  pub far_before_beyond : row 3 10000 1 (pos 150000001 ∷ []) (pos 5000 ∷ []) ≡ R.refused 26
