-- The printed forms of 01, "Rigs to try", and of N1, word for word: what an answer of each kind prints.
use Rattle.std.specs.Prelude.{ℕ, ◌≡◌, pos, negsuc, None}
use Rattle.text.specs.Ascii.{ascii}
use Rattle.run.specs.declared.Finish.{Finish}
use Rattle.run.specs.Worked.{worked_finish}
use Rattle.swept.specs.Answers as S
use Rattle.ranking.specs.declared.Setting.{Setting}
use Rattle.ranking.specs.Ranking as L
use Rattle.offered.specs.Answers as O
use Rattle.answer_text.specs.Printed.{printed}
use Rattle.answer_text.specs.Settings.{printed_settings}

-- a walk without a complete station
unfoldable pub unmarked : Finish
unmarked = record { steps = 1; widest = None; front = record { x = negsuc 0; y = pos 0 } }

-- the claim
pub record PrintedForms : Type 0 where
  -- the three lines that the worked job prints
  pub finished : printed (S.finished worked_finish) ≡ ascii "steps 13\nwidest 3 24000 -12000 12000\nfront 0 65000\n"
  -- "Without a complete station line two is `widest none`"
  pub without_widest : printed (S.finished unmarked) ≡ ascii "steps 1\nwidest none\nfront -1 0\n"
  -- "A refused job prints only `refused 8 at 20`"
  pub refused_job : printed (S.refused 8 20) ≡ ascii "refused 8 at 20\n"
  -- "a refused step only `refused 23 unit 2 step 17`"
  pub refused_step : printed (S.stopped 23 2 17) ≡ ascii "refused 23 unit 2 step 17\n"

abbrev setting : ℕ → ℕ → Setting
setting wheelbase width = record { wheelbase = wheelbase; width = pos width }

-- the claim of N1
pub record SettingForms : Type 0 where
  -- "List wheelbase and widest width"
  pub one : printed_settings (O.listed (L.one (setting 62000 31240))) ≡ ascii "setting 62000 31240\n"
  -- "the best three", one after the other as they are listed
  pub three : printed_settings (O.listed (L.three (setting 62000 31240) (setting 60000 31250) (setting 61000 31250))) ≡ ascii "setting 62000 31240\nsetting 60000 31250\nsetting 61000 31250\n"
  -- "it refuses with 29, before any walk"
  pub outside : printed_settings (O.listed (L.refused 29)) ≡ ascii "refused 29\n"
  -- "and with 30 exactly when there is none to list"
  pub none : printed_settings (O.listed (L.refused 30)) ≡ ascii "refused 30\n"
  -- "After the job's own faults": a record that is refused, as 01 prints it
  pub refused_job : printed_settings (O.refused 8 20) ≡ ascii "refused 8 at 20\n"
