-- `kerb_line::bounds::Bounds::widened` meets its contract: each bound is read back as it is.
use mathlib.Core.Path.{◌≡◌}
use borrow.Author.Rules.{rules}
use lib.IntN.{ℤ}
use Rattle.exact.proofs.Machine.{reread}
use Rattle.exact.proofs.Order.{≤ℤ-trans}
use Rattle.kerb_line.proofs.BoundsLaws.{least_of, most_of}
use Rattle.kerb_line.proofs.bounds.Bounds.widened.Goals as goal

abbrev Exact : ℤ → Type 0
Exact z = reread z ≡ z

pub returns : goal.returns
returns c =
    let a = c.args in
    let x : Exact a.v.x = search rules in
    let y : Exact a.v.y = search rules in
    let bw : Exact a.self.west = search rules in
    let be : Exact a.self.east = search rules in
    let bs : Exact a.self.south = search rules in
    let bn : Exact a.self.north = search rules in
    let west = least_of c.min.type_inv bw x c.min.ensures.self_bound c.min.ensures.other_bound in
    let east = most_of c.max.type_inv be x c.max.ensures.self_bound c.max.ensures.other_bound in
    let south = least_of c.min-2.type_inv bs y c.min-2.ensures.self_bound c.min-2.ensures.other_bound in
    let north = most_of c.max-2.type_inv bn y c.max-2.ensures.self_bound c.max-2.ensures.other_bound in
    record {
      kept = λ u i. record { west = ≤ℤ-trans west.0 i.west; east = ≤ℤ-trans i.east east.0; south = ≤ℤ-trans south.0 i.south; north = ≤ℤ-trans i.north north.0 };
      taken = record { west = west.1; east = east.1; south = south.1; north = north.1 };
    }
