-- Reading at a position of a list of bytes, and writing one value after the other.
use Rattle.std.specs.Prelude.{ℕ, zero, suc, ◌<◌, List, [], ◌∷◌, ◌++◌, Bool, true, false, get_or}
use Rattle.std.proofs.lemmas.List.Edits.{sets}

-- every number of a list is a byte
abbrev pub Bytes : List ℕ → Type 0
Bytes s = (i : ℕ) → get_or s i 0 < 256

-- a value with the position after it, or a refusal's number and place
pub data Read (A : Type 0) : Type 0 where
  got : A → ℕ → Read A
  refused : ℕ → ℕ → Read A

abbrev pub Reader : Type 0 → Type 0
Reader A = List ℕ → ℕ → Read A

abbrev pub pick : {A : Type 0} → Bool → A → A → A
pick true a b = a
pick false a b = b

-- what follows a value that was read; a refusal stands
abbrev pub and_then : {A B : Type 0} → Read A → (A → ℕ → Read B) → Read B
and_then (got a e) f = f a e
and_then (refused n p) f = refused n p

infixl 20 ◌>>=◌
abbrev pub ◌>>=◌ : {A B : Type 0} → Reader A → (A → Reader B) → Reader B
◌>>=◌ p f s at = and_then (p s at) (λ a e. f a s e)

abbrev pub return : {A : Type 0} → A → Reader A
return a s at = got a at

-- the position itself, where a later refusal is placed
abbrev pub here : Reader ℕ
here s at = got at at

-- goes on where a test holds, and is refused by n at p where it fails
abbrev pub unless : {A : Type 0} → Bool → ℕ → ℕ → Reader A → Reader A
unless t n p k s at = pick t (k s at) (refused n p)

-- k values, one after the other; a state t goes through them, and `end` has its last word
unfoldable pub many : {T A : Type 0} → (T → Reader A) → (T → A → T) → (T → Reader (List A)) → ℕ → T → Reader (List A)
many one next end zero t = end t
many one next end (suc k) t = do
  x ← one t
  xs ← many one next end k (next t x)
  return (x ∷ xs)

-- values that were read, laid over an array from place i on
abbrev pub into : {A : Type 0} → List A → ℕ → Read (List A) → Read (List A)
into l i (got xs e) = got (sets l i xs) e
into l i (refused n p) = refused n p

unfoldable pub write_many : {A : Type 0} → (A → List ℕ) → List A → List ℕ
write_many w [] = []
write_many w (x ∷ xs) = w x ++ write_many w xs
