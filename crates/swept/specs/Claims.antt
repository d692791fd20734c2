-- The claim about a job's answer, over what `sweep_job` ensures.
use Rattle.std.specs.Prelude.{ℕ, ◌≡◌, List, take}
use Rattle.swept.specs.Answers.{Swept}
use Rattle.swept.specs.Ranges.{SweptEnsures}

-- "The program sweep reads one job, at most 1,024 bytes" (01, "Rigs to try")
abbrev pub bytes_read : ℕ
bytes_read = 1024

-- of a longer input the bytes that the program reads decide the answer
abbrev pub FirstBytes : Type 0
FirstBytes = (s : List ℕ) (r q : Swept) → SweptEnsures s r → SweptEnsures (take bytes_read s) q → r ≡ q
