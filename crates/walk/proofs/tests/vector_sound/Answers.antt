-- `walk::tests::vector_sound` meets its contract: place k is that of a unit in use, or of none.
use Prim.Native.Nat.{◌+◌}
use mathlib.Core.Path.{◌≡◌, sym, ◌∙◌, ap, subst}
use native.Mathlib.Omega.{arith}
use borrow.Author.Rules.{rules}
use lib.ListN.{length, drop, get_or}
use lib.IntN.{pos}
use Rattle.number.proofs.ManyLaws.{next_of, none_of}
use Rattle.plane.specs.Length.{has_length, Nominal}
use Rattle.job.specs.Empty.{empty_unit}
use Rattle.job.specs.declared.Unit.{Unit as VehicleUnit}
use Rattle.job.proofs.Arrays.{unmapped}
use Rattle.unit.proofs.Turning.{wheelbase_nominal}
use Rattle.exact.proofs.Machine.{reread}
use Rattle.walk.specs.Tests.{vector_sound, units_in_use}
use Rattle.walk.proofs.VehicleTests.{units_counted, unit_ready_at}
use Rattle.walk.proofs.VectorTests.{vector_used, vector_unused}
use Rattle.walk.proofs.tests.vector_sound.Goals as goal
use Rattle.walk.proofs.tests.vector_sound.Goals.{After-from, Then-k-v}

-- the unit at place k, in use
module _ (c : Then-k-v) where
  abbrev u : VehicleUnit
  u = get_or c.args.v.units c.args.k empty_unit

  places : length c.args.v.units ≡ 4
  places = search (rules, unmapped)

  in_use : vector_sound (drop c.args.k (units_in_use c.args.v)) c.args.d ≡ has_length c.args.d (pos u.wheelbase)
  in_use =
      rw (next_of c.args.v.units c.args.v.count c.args.k empty_unit (omega (arith, places, units_counted c.args.v c.requires.sound)) c.if-k-v.true)
      (vector_used u (drop (c.args.k + 1) (units_in_use c.args.v)) c.args.d)

  nominal : Nominal (pos u.wheelbase)
  nominal = wheelbase_nominal (unit_ready_at c.args.v c.requires.sound places c.args.k empty_unit c.if-k-v.true).wheelbase

pub offset_bounds-v-k : goal.offset_bounds-v-k
offset_bounds-v-k c = record { fits = omega (arith, units_counted c.args.v c.requires.sound) }

pub bounds-v-k : goal.bounds-v-k
bounds-v-k c = omega (arith, units_counted c.args.v c.requires.sound)

-- the wheelbase, made wide
wheelbase : (c : After-from) → reread c.from.result ≡ pos (get_or c.args.v.units c.args.k empty_unit).wheelbase
wheelbase c = search rules

pub has_length-requires : goal.has_length-requires
has_length-requires c = let p = goal.at.has_length-requires c in subst Nominal (sym (wheelbase p.After-from)) (nominal p.Then-k-v)

pub returns-then-k-v : goal.returns-then-k-v
returns-then-k-v c =
    let p = goal.at.returns-then-k-v c in
    c.has_length.ensures ∙ ap (has_length c.args.d) (wheelbase p.After-from) ∙ sym (in_use p.Then-k-v)

pub returns : goal.returns
returns c = c.is_zero.ensures ∙ sym (rw (none_of c.args.v.units c.args.v.count c.args.k c.if-k-v.false) (vector_unused c.args.d))
