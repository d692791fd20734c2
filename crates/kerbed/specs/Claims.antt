-- The claims about what is read: the bytes that decide, and that a kerb that was read is let pass.
use Rattle.std.specs.Prelude.{ℕ, ◌≡◌, true, List, take, ℤ, Ok}
use Rattle.swept.specs.Claims.{bytes_read}
use Rattle.kerb_line.specs.Kerb.{kerb_runs, kerb_lent, kerb_sound}
use Rattle.kerb_reader.specs.Ticks.{KerbEnsures}
use Rattle.kerb_reader.specs.Claims.{bytes_read as geometry_bytes_read}
use Rattle.kerbed.specs.Kerbed.{kerbed_of}

-- of longer inputs the bytes that the program reads decide the answer
abbrev pub FirstBytes : Type 0
FirstBytes = (s g : List ℕ) → kerbed_of s g ≡ kerbed_of (take bytes_read s) (take geometry_bytes_read g)

-- a kerb that was read passes the report's 21 and 26
abbrev pub ReadPasses : Type 0
ReadPasses = (s : List ℕ) (xs ys : List ℤ) (n : ℕ) (xs' ys' : List ℤ) → KerbEnsures s xs ys (Ok n) xs' ys'
    → (kerb_lent n (kerb_runs xs' ys') ≡ true) × (kerb_sound n (kerb_runs xs' ys') ≡ true)
