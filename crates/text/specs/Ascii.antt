-- Words as ASCII bytes.
use Rattle.std.specs.Prelude.{ℕ, List, [], ◌∷◌}
use Prim.Native.Char.{code}
use Prim.Native.String.{String, [] as ε, ◌∷◌ as ◌then◌}

-- the code of each character
unfoldable pub ascii : String → List ℕ
ascii ε = []
ascii (c then s) = code c ∷ ascii s
