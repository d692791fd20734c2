-- `trial_tools::tables::read_full` stays within the room lent, and ends.
use Rattle.std.proofs.Common.{◌-◌, ◌≤◌, length}
use Rattle.trial_tools.proofs.tables.read_full.Given as goal

abbrev pub invariant-loop-done : goal.invariant-loop-done
invariant-loop-done g l = l.done ≤ length l.text

abbrev pub decreases-loop-done : goal.decreases-loop-done
decreases-loop-done g l = length l.initial.text - l.done
