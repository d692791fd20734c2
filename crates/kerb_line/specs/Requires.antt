-- What the functions of this crate require of their callers.
use Rattle.std.specs.Prelude.{ℕ, ◌<◌, ◌≡◌, true, List, length, get_or}
use Rattle.plane.specs.declared.Vec2.{Vec2}
use Rattle.touching.specs.Touch.{OnMap}
use Rattle.kerb_line.specs.Kerb.{origin, KerbRuns, kerb_lent, kerb_sound}

-- runs that passed 21
pub record Lent (n : ℕ) (k : KerbRuns) : Type 0 where
  pub lent : kerb_lent n k ≡ true

-- a kerb that passed 21 and 26, and moves of points near the map
pub record Meetable (olds news : List Vec2) (n : ℕ) (k : KerbRuns) : Type 0 where
  pub moves : length olds ≡ length news
  pub old : (p : ℕ) → p < length olds → OnMap (get_or olds p origin)
  pub new : (p : ℕ) → p < length news → OnMap (get_or news p origin)
  pub lent : kerb_lent n k ≡ true
  pub sound : kerb_sound n k ≡ true
