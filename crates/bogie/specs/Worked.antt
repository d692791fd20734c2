-- The worked job of 01, "Rigs to try", at some settings: on a straight every wheelbase has the same width, and above 50,000 no station of this one is complete.
use Rattle.std.specs.Prelude.{ℕ, ◌≡◌, List, [], ◌∷◌, replicate, ℤ, pos, negsuc}
use Rattle.job.specs.declared.Body.{Body}
use Rattle.job.specs.declared.Form.{Form}
use Rattle.job.specs.declared.Form.TheVariants.{Short, Long}
use Rattle.job.specs.declared.Vehicle.{Vehicle}
use Rattle.path.specs.Laying.{PathRuns, path_runs}
use Rattle.reaches.specs.Cells.{Reaches, reach_runs}
use Rattle.run.specs.Worked.{worked_job}
use Rattle.ranking.specs.Ranking.{Listed, two, three, refused}
use Rattle.bogie.specs.declared.Rail.{Rail}
use Rattle.bogie.specs.Settings.{vehicle_set}
use Rattle.bogie.specs.List.{ListEnsures}

-- runs of zeros, one entry a station
abbrev pub zeros : List ℤ
zeros = replicate 14 (pos 0)

abbrev pub unlaid : PathRuns
unlaid = path_runs zeros zeros zeros zeros

abbrev pub uncleared : Reaches
uncleared = reach_runs zeros zeros (replicate 14 0)

abbrev pub body : ℕ → ℕ → ℕ → Body
body front rear half = record { front_overhang = front; rear_overhang = rear; half_width = half }

-- a rig of two units, by its form, the old overhang and the wheelbase of its second; the measures of all four units differ
abbrev pub two_units : Form → ℕ → ℕ → Vehicle
two_units form overhang w = record {
  form = form;
  count = 2;
  units =
      record { wheelbase = 40000; hitch = negsuc 37367; fold = pos 0; body = body 9100 3100 12100 }
      ∷ record { wheelbase = w; hitch = pos 0; fold = negsuc 889; body = body 2200 6200 12200 }
      ∷ record { wheelbase = 1; hitch = pos 2; fold = pos 3; body = body 7 8 9 }
      ∷ record { wheelbase = 4; hitch = pos 5; fold = pos 6; body = body 10 11 12 }
      ∷ [];
  overhang = overhang;
  front_half_width = 8000;
  rear_half_width = 9000;
}

-- every call with these settings answers this
abbrev pub Lists : Rail → Listed → Type 0
Lists b wanted = (answer : Listed) (p' : PathRuns) (r' : Reaches) → ListEnsures worked_job b unlaid uncleared answer p' r' → answer ≡ wanted

-- the claim
pub record WorkedLists : Type 0 where
  -- "last wheelbase": the second unit's, and nothing else, in a rig of two, of a short job and of a long one; bodies stay as they are
  pub replaced : vehicle_set (two_units Short 7000 50000) 62000 ≡ two_units Short 7000 62000
  pub replaced_long : vehicle_set (two_units Long 0 50000) 62000 ≡ two_units Long 0 62000
  -- 20,000 to 60,000: five settings, of which four have the width 24,000, and the three shortest are listed
  pub three : Lists (record { lowest = 20000; pitch = 10000; number = 5 }) (three (record { wheelbase = 20000; width = pos 24000 }) (record { wheelbase = 30000; width = pos 24000 }) (record { wheelbase = 40000; width = pos 24000 }))
  -- 40,000 to 60,000: two are listed
  pub two : Lists (record { lowest = 40000; pitch = 10000; number = 3 }) (two (record { wheelbase = 40000; width = pos 24000 }) (record { wheelbase = 50000; width = pos 24000 }))
  -- 50,001 alone: its walk comes to the last station, but none to list
  pub none : Lists (record { lowest = 50001; pitch = 1; number = 1 }) (refused 30)
  -- 200,000 and one tick more
  pub outside : Lists (record { lowest = 200000; pitch = 1; number = 2 }) (refused 29)
