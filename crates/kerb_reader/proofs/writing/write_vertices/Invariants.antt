-- `kerb_reader::writing::write_vertices` meets its contract: after the first vertex, those of the others from i on are still to be written.
use Rattle.kerb_reader.proofs.WriteLaws.{Writing}
use Rattle.kerb_reader.proofs.writing.write_vertices.Given as goal

abbrev pub invariant-loop-i : goal.invariant-loop-i
invariant-loop-i l = Writing l.others l.initial.xs l.initial.ys l.xs l.ys l.i
