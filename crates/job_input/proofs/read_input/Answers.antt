-- `job_input::read_input` meets its contract: a piece stands after those before it.
use Rattle.job_input.proofs.Pieces.{read_on}
use borrow.Author.Rules.{rules}
use Rattle.job_input.proofs.read_input.Goals as goal

pub loop-done-preserved : goal.loop-done-preserved
loop-done-preserved g c =
    let i = c.loop-done.invariant in
    record {
      within = search rules;
      long = search rules;
      bytes = read_on _ _ _ c.loop-done.done c.in_ok-more.more _ _ _ i.within c.in_ok-more.ensures.bound.0 i.bytes c.in_ok-more.ensures.bytes.0;
    }
