-- `path::PathRoom::lay_stations` meets its contract.
use Prim.Native.Nat.{◌+◌}
use mathlib.Core.Path.{sym, ◌∙◌, ap, subst}
use native.Mathlib.Omega.{arith}
use lib.Dec.{lit≤}
use Rattle.exact.proofs.Sizes.{within_more}
use Rattle.path.specs.declared.PathCursor.{PathCursor}
use Rattle.path.specs.Stations.{steps_on, stations_from}
use Rattle.path.specs.Laying.{PathRuns, stored, start_at, Storable}
use Rattle.path.specs.Lent.{room_runs}
use Rattle.path.proofs.JobLaws.{start_sound}
use Rattle.path.proofs.Loans.{same_loans, loans_on}
use Rattle.path.proofs.LayLaws.{written_at, written_next, same_lengths, room_for_fewer, room_stored, Laying, laying_start, laying_next, laying_end, storable_next, usable}
use Rattle.path.proofs.PathRoom.lay_stations.Goals as goal

pub store-requires : goal.store-requires
store-requires c =
    let given = room_runs c.args.self.now in
    let b = start_sound (start_at c.args.start) c.requires.start in
    record {
      room = room_for_fewer 1 (c.args.steps + 1) given given same_lengths (omega arith) c.requires.room;
      station = record { x = within_more (lit≤ tt) b.0; y = within_more (lit≤ tt) b.1; heading = b.2 };
    }

pub loop-i-init : goal.loop-i-init
loop-i-init c =
    let b = start_sound (start_at c.args.start) c.requires.start in
    record {
      loans = same_loans;
      laying = laying_start c.args.start (room_runs c.store.new.self) (usable c.requires) b.2 (b.0, b.1);
    }

pub store-requires-in-loop-i : goal.store-requires-in-loop-i
store-requires-in-loop-i c =
    subst (λ (q : PathCursor). Storable (c.loop-i.i + 1) q.station (room_runs c.loop-i.self)) (sym c.next_cursor-c.ensures)
    (storable_next (usable c.requires) c.loop-i.invariant.laying c.loop-i-test.true
    (room_stored _ _ _ _ _ c.store.ensures.stored c.requires.room))

pub loop-i-preserved : goal.loop-i-preserved
loop-i-preserved c =
    let o = room_runs c.store.new.self in
    let whole = written_at 1 (stations_from c.args.start (steps_on c.args.step c.args.elements.now)) o in
    let L : PathCursor → PathRuns → Type 0 = λ q z. Laying c.args.step c.args.steps c.args.elements.now whole o q (c.loop-i.i + 1) z in
    record {
      loans = loans_on c.loop-i.invariant.loans c.store-in-loop-i.ensures.loans;
      laying = subst (L c.next_cursor-c.result) (sym c.store-in-loop-i.ensures.stored)
          (subst (λ (q : PathCursor). L q (stored (c.loop-i.i + 1) q.station (room_runs c.loop-i.self))) (sym c.next_cursor-c.ensures)
          (laying_next (usable c.requires) c.loop-i.invariant.laying c.loop-i-test.true));
    }

pub returns-clause-laid : goal.returns-clause-laid
returns-clause-laid c =
    let ps = stations_from c.args.start (steps_on c.args.step c.args.elements.now) in
    laying_end c.loop-i.invariant.laying c.loop-i-test.false ∙ ap (written_at 1 ps) c.store.ensures.stored ∙ sym (written_next 0 c.args.start ps (room_runs c.args.self.now))
