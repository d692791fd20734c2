-- Each kind of answer as it stands in an answer run, entry by entry: the orders that no law fixes.
use Rattle.std.specs.Prelude.{◌≡◌, [], ◌∷◌, pos}
use Rattle.answer_run.specs.Answers.{told}
use Rattle.kerb_reader.specs.Answers as R
use Rattle.kerbed.specs.Answers as K
use Rattle.kerb_told.specs.Entries.{touch_told, ticks_told}

-- the claim
pub record WorkedEntries : Type 0 where
  -- 1, the step, the point
  pub touch : touch_told (K.touch 17 4) ≡ told 0 (pos 1 ∷ pos 17 ∷ pos 4 ∷ [])
  pub none : touch_told K.nothing ≡ told 0 (pos 0 ∷ pos 0 ∷ pos 0 ∷ [])
  -- 23 at unit 2 in step 5, and 8 at byte 20 of the job
  pub stopped : touch_told (K.stopped 23 2 5) ≡ told 328215 []
  pub refused : touch_told (K.refused 8 20) ≡ told 5128 []
  -- the number of vertices; 13 at byte 9 of the geometry; no room in the runs
  pub vertices : ticks_told (R.vertices 2) ≡ told 0 (pos 2 ∷ [])
  pub unread : ticks_told (R.refused_at 13 9) ≡ told 2317 []
  pub no_room : ticks_told (R.refused 21) ≡ told 21 []
