-- `walk::tests::vectors_sound` meets its contract: the vectors are tested one by one, each at its place.
use Prim.Native.Nat.{ℕ}
use mathlib.Core.Path.{◌≡◌, ◌∙◌}
use native.Mathlib.Omega.{arith}
use lib.ListN.{length, drop, length-take}
use Rattle.std.proofs.Common.{rules, tests}
use Rattle.std.proofs.lemmas.Iterator.{YieldsList-from_slice}
use Rattle.std.proofs.lemmas.Iterator.Consumers.{YieldsList-from_enumerate}
use Rattle.std.proofs.lemmas.Iterator.Search.{all_from_yields_List}
use Rattle.plane.specs.declared.Vec2.{Vec2}
use Rattle.walk.specs.Tests.{vector_sound, units_in_use}
use Rattle.walk.proofs.VectorTests.{vectors_one_by_one}
use Rattle.walk.proofs.VehicleTests.{units_counted}
use Rattle.walk.proofs.tests.vectors_sound.Goals as goal

pub returns : goal.returns
returns c =
    let a = c.args in
    let us = units_in_use a.v in
    let four : length a.d ≡ 4 = search rules in
    let most = (units_counted a.v c.requires.sound).1 in
    all_from_yields_List (λ (p : ℕ × Vec2). vector_sound (drop p.0 us) p.1) _ _ c.all.result c.all.ensures.ran
    (YieldsList-from_enumerate (YieldsList-from_slice a.d (cc)) (cc)) (λ x b q k. search (rules, tests))
    ∙ vectors_one_by_one us a.d (omega (arith, length-take a.v.count a.v.units))
