-- `bogie::Rail::allowed` meets its contract.
use Rattle.bogie.proofs.RailLaws.{outside_test, inside_test}
use Rattle.bogie.proofs.Rail.allowed.Goals as goal

pub returns-then-self : goal.returns-then-self
returns-then-self c = outside_test c.args.self c.if-self.true

pub returns : goal.returns
returns c = rw (c.from.ensures, c.from-2.ensures, c.from-3.ensures) (inside_test c.args.self c.if-self.false)
