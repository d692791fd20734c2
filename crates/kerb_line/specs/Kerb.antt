-- A kerb as its vertices in turn, in two lent runs of ticks (02, N4: "The report tests the kerb's runs too by 21 (1 to 500 vertices) and 26").
use Rattle.std.specs.Prelude.{ℕ, zero, suc, ◌+◌, Bool, true, ◌&&◌, List, [], ◌∷◌, leb, length, get_or, ℤ, pos}
use Rattle.number.specs.Field.{size_at_most}
use Rattle.plane.specs.declared.Vec2.{Vec2}
use Rattle.job.specs.Allowed.{between}

abbrev pub origin : Vec2
origin = record { x = pos 0; y = pos 0 }

-- how far east and how far north each vertex lies
pub record KerbRuns : Type 0 where
  pub xs : List ℤ
  pub ys : List ℤ

abbrev pub kerb_runs : List ℤ → List ℤ → KerbRuns
kerb_runs xs ys = record { xs = xs; ys = ys }

abbrev pub vertex_at : KerbRuns → ℕ → Vec2
vertex_at k i = record { x = get_or k.xs i (pos 0); y = get_or k.ys i (pos 0) }

-- n vertices from entry i on
unfoldable pub vertices_from : ℕ → ℕ → KerbRuns → List Vec2
vertices_from i zero k = []
vertices_from i (suc n) k = vertex_at k i ∷ vertices_from (i + 1) n k

abbrev pub vertices : ℕ → KerbRuns → List Vec2
vertices n k = vertices_from 0 n k

-- 21: "1 to 500 vertices", and a run shorter than that
unfoldable pub kerb_lent : ℕ → KerbRuns → Bool
kerb_lent n k = between 1 500 n && (leb n (length k.xs) && leb n (length k.ys))

-- 26: "a coordinate beyond ±150,000,000" (01, "Why a walk is turned down")
abbrev pub vertex_sound : Vec2 → Bool
vertex_sound v = size_at_most 150000000 v.x && size_at_most 150000000 v.y

unfoldable pub kerb_sound : ℕ → KerbRuns → Bool
kerb_sound zero k = true
kerb_sound (suc n) k = kerb_sound n k && vertex_sound (vertex_at k n)
