-- The eleven cases of 01, "Rigs to try", that are shown by proof: the rows of one list, covered by one claim.
use Rattle.std.specs.Prelude.{ℕ, ◌≡◌, List, [], ◌∷◌, length, ℤ, pos}
use Rattle.exact.specs.Nearest.{nearest_z}
use Rattle.plane.specs.declared.Vec2.{Vec2}
use Rattle.plane.specs.Settle.{settle_z}
use Rattle.number.specs.Read.{Read, got, refused}
use Rattle.refusal.specs.Numbers.{Answer, answered}
use Rattle.number.specs.Number.{read_number}
use Rattle.number.specs.Field.{signed_number}
use Rattle.heading.specs.declared.Advance.{Advance}
use Rattle.heading.specs.PathTurn.{path_turn}
use Rattle.unit.specs.Turn.{unit_turn}
use Rattle.walk.specs.Drawn.{Outcome, made, refused_at}
use Rattle.worked.specs.Rows.{AllHold, neg, vec}
use Rattle.worked.specs.Standing.{FoldAnswer}

-- a question, in the paper's order of its parts, and last the answer
pub data Row : Type 0 where
  rounded : (n d answer : ℤ) → Row
  number_read : (bytes : List ℕ) (answer : Read ℕ) → Row
  signed_read : (bytes : List ℕ) (answer : Read ℤ) → Row
  path_turned : (g : Vec2) (s : ℕ) (r : ℤ) (answer : Answer Advance) → Row
  unit_turned : (d : Vec2) (l : ℕ) (f : Vec2) (answer : Answer Vec2) → Row
  settled : (v : Vec2) (k : ℤ) (answer : Vec2) → Row
  folded : (ahead d : Vec2) (limit : ℤ) (answer : Outcome) (other : Vec2) (other_answer : Outcome) → Row

-- what a row says: the definition that the contracts cite gives the answer
abbrev pub Holds : Row → Type 0
Holds (rounded n d answer) = nearest_z n d ≡ answer
Holds (number_read bytes answer) = read_number bytes 0 ≡ answer
Holds (signed_read bytes answer) = signed_number bytes 0 ≡ answer
Holds (path_turned g s r answer) = path_turn g s r ≡ answer
Holds (unit_turned d l f answer) = unit_turn d f l ≡ answer
Holds (settled v k answer) = settle_z v k ≡ answer
Holds (folded ahead d limit answer other other_answer) = FoldAnswer ahead d limit answer × FoldAnswer ahead other limit other_answer

-- the heading and the move that a path turn answers
abbrev pub turned_to : Vec2 → Vec2 → Answer Advance
turned_to g move = answered (record { heading = g; shift = move })

abbrev pub worked_rows : List Row
worked_rows =
    -- "rounding 5/2 → 3; −5/2 → −3"
    rounded (pos 5) (pos 2) (pos 3)
    ∷ rounded (neg 5) (pos 2) (neg 3)
    -- "bytes D0 86 03 are 50,000; 81 00 is refused 2; signed byte 01 is −1": with the place after the number, or where the field starts
    ∷ number_read (0xD0 ∷ 0x86 ∷ 0x03 ∷ []) (got 50000 3)
    ∷ number_read (0x81 ∷ 0x00 ∷ []) (refused 2 0)
    ∷ signed_read (0x01 ∷ []) (got (neg 1) 1)
    -- "g (0, 1000000), s 20,000, r 20,000 → (800000, 600000), move (8000, 16000); r −20,000 → (−800000, 600000), move (−8000, 16000)"
    ∷ path_turned (vec (pos 0) (pos 1000000)) 20000 (pos 20000) (turned_to (vec (pos 800000) (pos 600000)) (vec (pos 8000) (pos 16000)))
    ∷ path_turned (vec (pos 0) (pos 1000000)) 20000 (neg 20000) (turned_to (vec (neg 800000) (pos 600000)) (vec (neg 8000) (pos 16000)))
    -- "d (0, 50000), L 50,000, f (30000, −10000) → (30000, 40000); f (0, 5000) → (0, 50000)"
    ∷ unit_turned (vec (pos 0) (pos 50000)) 50000 (vec (pos 30000) (neg 10000)) (answered (vec (pos 30000) (pos 40000)))
    ∷ unit_turned (vec (pos 0) (pos 50000)) 50000 (vec (pos 0) (pos 5000)) (answered (vec (pos 0) (pos 50000)))
    -- "(0, 50001) settled to 50,000 is (0, 50000)"
    ∷ settled (vec (pos 0) (pos 50001)) (pos 50000) (vec (pos 0) (pos 50000))
    -- "vectors (0, 50000) and (50000, 0), limit 0: allowed; in the same row, (50000, −1): 23": made, and 23 with unit 2
    ∷ folded (vec (pos 0) (pos 50000)) (vec (pos 50000) (pos 0)) (pos 0) made (vec (pos 50000) (neg 1)) (refused_at 23 2)
    ∷ []

-- the claim
pub record WorkedRows : Type 0 where
  pub eleven : length worked_rows ≡ 11
  pub hold : AllHold Holds worked_rows
