-- `kerb_reader::writing::write_vertices` meets its contract: after the first vertex, those of the others from i on are still to be written.
use Prim.Native.Nat.{◌+◌}
use mathlib.Core.Path.{◌≡◌, sym, ◌∙◌, ap, subst, subst₂}
use mathlib.Core.List.{List, map}
use native.Mathlib.Omega.{arith}
use lib.IntN.{ℤ}
use lib.Ieee.{nan}
use lib.ListN.{get_or, set}
use lib.Seq.{sets}
use Rattle.std.proofs.lemmas.List.{get_or_default}
use Rattle.metres.specs.Tick.{VertexWithin}
use Rattle.metres.specs.declared.Vertex.{Vertex}
use Rattle.kerb_reader.specs.Geometry.{no_vertex}
use Rattle.kerb_reader.specs.Ticks.{east_of, north_of}
use Rattle.kerb_reader.proofs.WriteLaws.{Writing, writing_start, writing_next, written_east, written_north}
use Rattle.kerb_reader.proofs.writing.write_vertices.Goals as goal
use Rattle.kerb_reader.proofs.writing.write_vertices.Goals.{In-loop-i}

pub loop-i-init : goal.loop-i-init
loop-i-init c = writing_start _ _ _

-- the vertex that is written
read : (c : In-loop-i) → get_or c.args.others.now c.loop-i.i (record { x = nan; y = nan }) ≡ get_or c.args.others.now c.loop-i.i no_vertex
read c = get_or_default c.args.others.now c.loop-i.i _ _ c.loop-i-test.true

pub write_vertex-requires-in-loop-i : goal.write_vertex-requires-in-loop-i
write_vertex-requires-in-loop-i c =
    record {
      within = subst VertexWithin (sym (read (goal.at.write_vertex-requires-in-loop-i c).In-loop-i)) (c.requires.others_within c.loop-i.i);
      east = omega (arith, c.loop-i-test.true, c.requires.east);
      north = omega (arith, c.loop-i-test.true, c.requires.north);
    }

pub loop-i-preserved : goal.loop-i-preserved
loop-i-preserved c =
    let w = c.write_vertex-in-loop-i.ensures in
    let l = c.loop-i in
    let e = read (goal.at.loop-i-preserved c).In-loop-i in
    subst₂ (λ (xs ys : List ℤ). Writing c.args.others.now c.write_vertex.new.xs c.write_vertex.new.ys xs ys (l.i + 1))
    (sym (w.east ∙ ap (λ (v : Vertex). set l.xs (l.i + 1) (east_of v)) e))
    (sym (w.north ∙ ap (λ (v : Vertex). set l.ys (l.i + 1) (north_of v)) e))
    (writing_next c.loop-i-test.true l.invariant)

pub returns : goal.returns
returns c =
    let a = c.args in
    record {
      east = written_east c.loop-i-test.false c.loop-i.invariant ∙ ap (λ (run : List ℤ). sets run 1 (map east_of a.others.now)) c.write_vertex.ensures.east;
      north = written_north c.loop-i-test.false c.loop-i.invariant ∙ ap (λ (run : List ℤ). sets run 1 (map north_of a.others.now)) c.write_vertex.ensures.north;
    }
