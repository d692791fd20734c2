-- How an element is cut (01, "The job record"): "into full steps and, where a remainder is left, one shorter step".
use Rattle.std.specs.Prelude.{ℕ, zero, suc, ◌+◌, ◌*◌, ◌/◌, ◌%◌, List, [], ◌∷◌, ◌++◌}

-- a step by the ticks of the element before it, and its own length
pub record Cut : Type 0 where
  pub before : ℕ
  pub length : ℕ

abbrev pub cut : ℕ → ℕ → Cut
cut b s = record { before = b; length = s }

-- k full steps, the first after b ticks
unfoldable pub full_steps : ℕ → ℕ → ℕ → List Cut
full_steps step zero b = []
full_steps step (suc k) b = cut b step ∷ full_steps step k (b + step)

-- the shorter step for a remainder
abbrev pub shorter_step : ℕ → ℕ → List Cut
shorter_step zero b = []
shorter_step (suc r) b = cut b (suc r) ∷ []

-- n ticks, the first of them after b
unfoldable pub cuts_from : ℕ → ℕ → ℕ → List Cut
cuts_from step b n = full_steps step (n / step) b ++ shorter_step (n % step) (b + n / step * step)

abbrev pub cuts : ℕ → ℕ → List Cut
cuts step length = cuts_from step 0 length
