-- What holds of every kerb that is read: its limits, and how many bytes decide it.
use Rattle.std.specs.Prelude.{ℕ, ◌≤◌, ◌<◌, ◌≡◌, List, ◌⊎◌, length, get_or, take, ℤ, pos, Ok}
use Rattle.exact.specs.Size.{Within}
use Rattle.number.specs.Read.{refused}
use Rattle.metres.specs.Tick.{ticks_most}
use Rattle.kerb_reader.specs.Geometry.{vertices_most, read_geometry}
use Rattle.kerb_reader.specs.Ticks.{KerbEnsures}

-- 1 to 500 vertices stand in both runs, and none of their ticks is larger than 150,000,000 in size
pub record KerbWithin (n : ℕ) (xs ys : List ℤ) : Type 0 where
  pub least : 1 ≤ n
  pub most : n ≤ vertices_most
  pub east_room : n ≤ length xs
  pub north_room : n ≤ length ys
  pub east : (i : ℕ) → i < n → Within ticks_most (get_or xs i (pos 0))
  pub north : (i : ℕ) → i < n → Within ticks_most (get_or ys i (pos 0))

-- the claim
abbrev pub KerbWithinLimits : Type 0
KerbWithinLimits = (s : List ℕ) (xs ys : List ℤ) (n : ℕ) (xs' ys' : List ℤ) → KerbEnsures s xs ys (Ok n) xs' ys' → KerbWithin n xs' ys'

-- the longest geometry has 8,009 bytes: a mark, a type, a count and 500 vertices of 16 bytes; one byte more tells that some are left over
abbrev pub bytes_read : ℕ
bytes_read = 8010

-- the claim: the first bytes decide the answer, and a refusal is 12 or 13, placed neither after them nor after the input
pub record FirstBytes : Type 0 where
  pub decide : (s : List ℕ) → read_geometry (take bytes_read s) ≡ read_geometry s
  pub place : (s : List ℕ) (n p : ℕ) → read_geometry s ≡ refused n p → (p < bytes_read) × (p ≤ length s)
  pub number : (s : List ℕ) (n p : ℕ) → read_geometry s ≡ refused n p → (n ≡ 12) ⊎ (n ≡ 13)
