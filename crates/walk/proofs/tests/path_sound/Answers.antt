-- `walk::tests::path_sound` meets its contract: the stations asked for are tested one by one.
use Prim.Native.Nat.{◌-◌}
use mathlib.Core.Path.{◌≡◌, ◌∙◌}
use native.Mathlib.Omega.{arith}
use Rattle.std.proofs.Common.{rules, tests}
use Rattle.std.proofs.lemmas.Iterator.{YieldsList-from_range}
use Rattle.std.proofs.lemmas.Iterator.Search.{all_from_yields_List}
use Rattle.path.specs.Lent.{path_of}
use Rattle.walk.specs.Drawn.{station_at}
use Rattle.walk.specs.Tests.{station_sound}
use Rattle.walk.proofs.PathTests.{sound_one_by_one}
use Rattle.walk.proofs.tests.path_sound.Goals as goal

pub returns : goal.returns
returns c =
    all_from_yields_List (λ i. station_sound (station_at (path_of c.args.path) i)) _ _ c.all.result c.all.ensures.ran (YieldsList-from_range 0 c.args.asked c.args.asked (cc) (let e : c.args.asked - 0 ≡ c.args.asked = omega arith in e)) (λ x b q k. search (rules, tests))
    ∙ sound_one_by_one (path_of c.args.path) c.args.asked
