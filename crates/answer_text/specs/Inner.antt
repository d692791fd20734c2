-- What the functions that are no entries require of their callers.
use Rattle.std.specs.Prelude.{ℕ, ◌+◌, ◌≤◌}
use Rattle.answer_text.specs.declared.Text.{Text}

-- so many bytes more have room
pub record Space (t : Text) (most : ℕ) : Type 0 where
  pub ends : t.length + most ≤ 192
