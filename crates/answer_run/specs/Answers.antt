-- An answer as programs in C and Rust get it: a number, and the entries at the start of a lent run. A refusal writes none ("nothing is written", 01, "Why a job is turned down").
use Rattle.std.specs.Prelude.{ℕ, ◌+◌, ◌*◌, ◌≡◌, List, length, leb, ℤ}
use Rattle.std.proofs.lemmas.List.Edits.{sets}
use Rattle.number.specs.Read.{pick}

-- a number, and the entries written from entry 0 on
pub record Told : Type 0 where
  pub number : ℕ
  pub entries : List ℤ

abbrev pub told : ℕ → List ℤ → Told
told n es = record { number = n; entries = es }

-- a number, and a run whose entries past those written stay
pub record TellEnsures (t : Told) (before : List ℤ) (n : ℕ) (after : List ℤ) : Type 0 where
  pub number : n ≡ t.number
  pub run : after ≡ sets before 0 t.entries

-- 21 where the run has too few entries, and nothing is written; the entries past those written stay
pub record Answered (room : ℕ) (t : Told) (before : List ℤ) (n : ℕ) (after : List ℤ) : Type 0 where
  pub number : n ≡ pick (leb room (length before)) t.number 21
  pub run : after ≡ pick (leb room (length before)) (sets before 0 t.entries) before

-- a refusal's number with the byte, or with the unit and the step, in one number
abbrev pub at_byte : ℕ → ℕ → ℕ
at_byte n p = n + 256 * p

abbrev pub at_unit : ℕ → ℕ → ℕ → ℕ
at_unit n u k = n + 256 * u + 65536 * k
