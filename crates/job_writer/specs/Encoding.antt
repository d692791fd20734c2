-- A record in the making: its bytes so far, at the start of an array, and their number.
use Rattle.std.specs.Prelude.{ℕ, ◌+◌, List, length, replicate}
use Rattle.std.proofs.lemmas.List.Edits.{sets}
use Rattle.job_writer.specs.declared.encode.Encoded.{Encoded}

abbrev pub appended : Encoded → List ℕ → Encoded
appended e bytes = record { bytes = sets e.bytes e.at bytes; at = e.at + length bytes }

unfoldable pub nothing : Encoded
nothing = record { bytes = replicate 520 0; at = 0 }
