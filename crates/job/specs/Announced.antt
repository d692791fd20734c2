-- The first number of a record: "A first number of 11 to 14 announces this long job for 1 to 4 units" (02, N3); 1 to 4 are the units of a short one.
use Rattle.std.specs.Prelude.{ℕ, ◌+◌, ◌-◌, Bool, ◌||◌, leb}
use Rattle.number.specs.Read.{pick}
use Rattle.job.specs.Allowed.{between}
use Rattle.job.specs.declared.Form.{Form}
use Rattle.job.specs.declared.Form.TheVariants.{Short, Long}

abbrev pub announces : ℕ → Bool
announces n = between 1 4 n || between 11 14 n

abbrev pub announced_form : ℕ → Form
announced_form n = pick (leb n 4) Short Long

abbrev pub announced_count : ℕ → ℕ
announced_count n = pick (leb n 4) n (n - 10)

-- the number that announces so many units
abbrev pub announcing : Form → ℕ → ℕ
announcing Short count = count
announcing Long count = count + 10
