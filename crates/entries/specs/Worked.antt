-- Each kind of answer as it stands in an answer run, entry by entry: the orders that no law fixes.
use Rattle.std.specs.Prelude.{◌≡◌, [], ◌∷◌, pos, negsuc, Option, None, Some}
use Rattle.plane.specs.declared.Vec2.{Vec2}
use Rattle.refusal.specs.Numbers.{answered, refused as refused_by}
use Rattle.reaches.specs.declared.Place.{Place}
use Rattle.run.specs.declared.Finish.{Finish}
use Rattle.swept.specs.Answers as S
use Rattle.ranking.specs.Ranking as L
use Rattle.offered.specs.Answers as O
use Rattle.answer_run.specs.Answers.{told}
use Rattle.answer_run.specs.Turns.{path_told, unit_told}
use Rattle.entries.specs.Answers.{sweep_told}
use Rattle.entries.specs.Lists.{settings_told}

abbrev pub north_east : Vec2
north_east = record { x = pos 300; y = pos 400 }

abbrev pub south_west : Vec2
south_west = record { x = negsuc 4; y = negsuc 11 }

-- a walk of 20 steps, by where it is widest
abbrev pub finished : Option Place → Finish
finished b = record { steps = 20; widest = b; front = north_east }

-- the claim
pub record WorkedEntries : Type 0 where
  -- the steps, 1, station, width, left, right, the last x and y
  pub widest : sweep_told (S.finished (finished (Some (record { station = 7; width = pos 25; left = negsuc 9; right = pos 15 }))))
      ≡ told 0 (pos 20 ∷ pos 1 ∷ pos 7 ∷ pos 25 ∷ negsuc 9 ∷ pos 15 ∷ pos 300 ∷ pos 400 ∷ [])
  pub incomplete : sweep_told (S.finished (finished None)) ≡ told 0 (pos 20 ∷ pos 0 ∷ pos 0 ∷ pos 0 ∷ pos 0 ∷ pos 0 ∷ pos 300 ∷ pos 400 ∷ [])
  -- 23 at unit 2 in step 5, and 8 at byte 20
  pub stopped : sweep_told (S.stopped 23 2 5) ≡ told 328215 []
  pub refused : sweep_told (S.refused 8 20) ≡ told 5128 []
  -- the heading before the move, x before y
  pub path_turn_lem : path_told (answered (record { heading = north_east; shift = south_west })) ≡ told 0 (pos 300 ∷ pos 400 ∷ negsuc 4 ∷ negsuc 11 ∷ [])
  pub no_path_turn : path_told (refused_by 7) ≡ told 7 []
  pub unit_turn_lem : unit_told (answered south_west) ≡ told 0 (negsuc 4 ∷ negsuc 11 ∷ [])
  pub no_unit_turn : unit_told (refused_by 22) ≡ told 22 []
  -- how many are listed, wheelbase before width, zeros after
  pub two : settings_told (O.listed (L.two (record { wheelbase = 40000; width = pos 24000 }) (record { wheelbase = 50000; width = pos 24001 })))
      ≡ told 0 (pos 2 ∷ pos 40000 ∷ pos 24000 ∷ pos 50000 ∷ pos 24001 ∷ pos 0 ∷ pos 0 ∷ [])
  pub none : settings_told (O.listed (L.refused 30)) ≡ told 30 []
  -- the record's refusal has the byte beside it
  pub no_record : settings_told (O.refused 8 20) ≡ told 5128 []
