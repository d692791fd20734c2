-- `bogie::walk_settings` meets its contract: after each turn the list and the runs are those of the settings walked so far.
use mathlib.Core.Path.{refl}
use native.Mathlib.Omega.{arith}
use Rattle.path.specs.Lent.{path_of}
use Rattle.reaches.specs.Lent.{room_reaches}
use Rattle.reaches.proofs.Loans.{same_loans, loans_on}
use Rattle.bogie.proofs.RailLaws.{in_limits}
use Rattle.bogie.proofs.WalksLaws.{next_runnable, next_runs, next_listed, none_listed, last_unit}
use Rattle.bogie.proofs.walk_settings.Goals as goal

pub loop-i-init : goal.loop-i-init
loop-i-init c = record { loans = same_loans; runs = refl; listed = none_listed _ _ }

-- the setting of a turn is a wheelbase
pub overflow_mul-wheelbase : goal.overflow_mul-wheelbase
overflow_mul-wheelbase c = record { fits = omega (arith, ((in_limits c.args.rail c.requires.rail).settings c.loop-i.i c.loop-i-test.true).1) }

pub overflow_add-wheelbase : goal.overflow_add-wheelbase
overflow_add-wheelbase c = record { fits = omega (arith, ((in_limits c.args.rail c.requires.rail).settings c.loop-i.i c.loop-i-test.true).1) }

pub vehicle_set-requires : goal.vehicle_set-requires
vehicle_set-requires c = last_unit _ c.requires.vehicle

pub run_over-ran-requires : goal.run_over-ran-requires
run_over-ran-requires c =
    let s = c.args in
    next_runnable s.asked (path_of s.path) s.v s.rail (room_reaches s.room.now) c.loop-i.i _ c.loop-i.invariant.runs _ c.vehicle_set.ensures c.requires c.loop-i-test.true

pub loop-i-preserved : goal.loop-i-preserved
loop-i-preserved c =
    let a = c.args in
    let h = c.loop-i.invariant in
    let o = c.run_over-ran.ensures in
    record {
      loans = loans_on h.loans o.loans;
      runs = next_runs a.asked (path_of a.path) a.v a.rail (room_reaches a.room.now) c.loop-i.i _ h.runs _ c.vehicle_set.ensures _ _ o.ran;
      listed = next_listed a.asked (path_of a.path) a.v a.rail (room_reaches a.room.now) c.loop-i.i _ h.runs _ c.vehicle_set.ensures _ _ o.ran _ _ h.listed c.enter_run-listed.ensures;
    }
