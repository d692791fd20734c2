-- A text in the making: its bytes so far, at the start of an array, and their number.
use Rattle.std.specs.Prelude.{ℕ, ◌+◌, ◌≤◌, ◌≡◌, List, length, replicate}
use Rattle.std.proofs.lemmas.List.Edits.{sets}
use Rattle.answer_text.specs.declared.Text.{Text}

abbrev pub appended : Text → List ℕ → Text
appended t bytes = record { bytes = sets t.bytes t.length bytes; length = t.length + length bytes }

unfoldable pub nothing : Text
nothing = record { bytes = replicate 192 0; length = 0 }

-- a line put after a text, of at most so many bytes
pub record Line (t : Text) (line : List ℕ) (most : ℕ) (r : Text) : Type 0 where
  pub put : r ≡ appended t line
  pub width : length line ≤ most
