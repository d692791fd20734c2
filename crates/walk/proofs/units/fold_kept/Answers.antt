-- `walk::units::fold_kept` meets its contract: the limit and the wheelbases keep their values when they are made wide.
use mathlib.Core.Path.{◌≡◌, ◌∙◌}
use borrow.Author.Rules.{rules}
use Rattle.exact.proofs.Machine.{reread}
use Rattle.walk.specs.Units.{wheelbase_of}
use Rattle.walk.proofs.DrawLaws.{coupled}
use Rattle.walk.proofs.units.fold_kept.Goals as goal
use Rattle.walk.proofs.units.fold_kept.Goals.{After-from-ld}

-- the limit and the wheelbases, wide
module _ (c : After-from-ld) where
  limit : reread c.from-limit.result ≡ c.args.u.fold
  limit = search rules

  base : reread c.from-la.result ≡ wheelbase_of c.args.ahead.unit
  base = search rules

  own : reread c.from-ld.result ≡ wheelbase_of c.args.u
  own = search rules

pub fold_allowed-requires : goal.fold_allowed-requires
fold_allowed-requires c = let w = (goal.at.fold_allowed-requires c).After-from-ld in rw (limit w, base w, own w) (coupled c.requires)

pub returns : goal.returns
returns c = let w = (goal.at.returns c).After-from-ld in c.fold_allowed.ensures ∙ rw (limit w, base w, own w)
