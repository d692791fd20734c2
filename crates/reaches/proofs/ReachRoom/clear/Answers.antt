-- `reaches::ReachRoom::clear` meets its contract: the stations so far are cleared.
use mathlib.Core.Path.{refl, sym, ◌∙◌}
use Rattle.reaches.specs.Cells.{cleared_cell}
use Rattle.reaches.specs.Lent.{room_reaches}
use Rattle.reaches.proofs.CellLaws.{none_yet, one_more, lengths_of_lem, same_room, lent_at}
use Rattle.reaches.proofs.Loans.{same_loans, loans_on}
use Rattle.reaches.proofs.ReachRoom.clear.Goals as goal

pub loop-at-init : goal.loop-at-init
loop-at-init c = record { loans = same_loans; cleared = sym (none_yet (λ i d. cleared_cell) (room_reaches c.args.self.now)) }

pub store-requires : goal.store-requires
store-requires c = lent_at c.loop-at-test.true (same_room (lengths_of_lem (λ i d. cleared_cell) c.loop-at.at (room_reaches c.args.self.now) c.loop-at.invariant.cleared) c.requires)

pub loop-at-preserved : goal.loop-at-preserved
loop-at-preserved c =
    record {
      loans = loans_on c.loop-at.invariant.loans c.store.ensures.loans;
      cleared = c.store.ensures.stored ∙ one_more (λ i d. cleared_cell) (room_reaches c.args.self.now) c.loop-at.at (room_reaches c.loop-at.self) _ c.loop-at.invariant.cleared refl;
    }
