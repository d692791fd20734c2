-- `plane::scaled` meets its contract.
use mathlib.Core.Path.{◌≡◌, ◌∙◌, ap₂}
use borrow.Author.Rules.{rules}
use lib.IntN.{◌*ℤ◌}
use Rattle.exact.proofs.Machine.{reread}
use Rattle.plane.specs.Vector.{nearest_v}
use Rattle.plane.proofs.scaled.Goals as goal

pub returns : goal.returns
returns c =
    let q : reread c.args.q ≡ c.args.q = search rules in
    let x : reread (reread c.args.v.x *ℤ reread c.args.n) ≡ c.args.v.x *ℤ c.args.n = search rules in
    let y : reread (reread c.args.v.y *ℤ reread c.args.n) ≡ c.args.v.y *ℤ c.args.n = search rules in
    c.nearest_vector.ensures ∙ ap₂ nearest_v (λ i. record { x = x i; y = y i }) q
