-- What one element adds to the total of steps. Assumes nothing.
use Prim.Native.Nat.{ℕ, ◌+◌, ◌/◌, ◌%◌, ◌≤◌}
use mathlib.Core.Path.{◌≡◌}
use mathlib.Core.Bool.{true}
use native.Mathlib.Omega.{arith}
use native.Mathlib.Nat.{div-le_self}
use lib.Dec.{eqb}
use Rattle.std.proofs.lemmas.Bool.{and_parts}
use Rattle.number.proofs.GroupLaws.{pick_by}
use Rattle.number.proofs.FieldCodec.{within_most}
use Rattle.job.specs.declared.Element.{Element}
use Rattle.job.specs.Allowed.{length_allowed, curve_allowed, element_allowed}
use Rattle.job.specs.Steps.{steps_of, tally}

-- at most its length and one more
pub steps_le : (step length : ℕ) → steps_of step length ≤ length + 1
steps_le step length =
    let d = div-le_self length step in
    pick_by (λ x. length / step + x ≤ length + 1) (eqb (length % step) 0) {x = 0} {y = 1} (λ t. omega arith) (λ t. omega arith)

pub tally_most : (step total : ℕ) (e : Element) → element_allowed e ≡ true → tally step total e ≤ total + 40000001
tally_most step total e t =
    let l : length_allowed e.length ≡ true = (and_parts (length_allowed e.length) (curve_allowed e.curve) t).0 in
    omega (arith, steps_le step e.length, within_most (record { least = 1; most = 40000000 }) e.length l)
