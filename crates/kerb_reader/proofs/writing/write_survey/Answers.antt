-- `kerb_reader::writing::write_survey` meets its contract, by whether both runs have room.
use Prim.Native.Nat.{ℕ, ◌-◌}
use mathlib.Core.Path.{◌≡◌, sym, ◌∙◌, subst}
use mathlib.Core.Bool.{true, false}
use native.Mathlib.Omega.{arith}
use lib.ListN.{length, length-take, drop}
use Rattle.metres.specs.Tick.{VertexWithin}
use Rattle.kerb_reader.specs.Geometry.{no_vertex, vertices_of}
use Rattle.kerb_reader.specs.Ticks.{room_in, east_of, north_of}
use Rattle.kerb_reader.proofs.EachLaws.{each_take, each_drop}
use Rattle.kerb_reader.proofs.Reaching.{no_vertex_within}
use Rattle.kerb_reader.proofs.Limits.{ticks_are, count_is, roomy, too_short, answered, no_room}
use Rattle.kerb_reader.proofs.writing.write_survey.Goals as goal
use Rattle.kerb_reader.proofs.writing.write_survey.Goals.{After-count-count}

-- how many there are
count : (c : After-count-count) → c.count-count.result ≡ length (vertices_of c.args.survey.now)
count c = c.count-count.ensures ∙ count_is c.args.survey.now c.requires

pub returns-then-xs-count : goal.returns-then-xs-count
returns-then-xs-count c =
    let a = c.args in
    no_room a.survey.now a.xs.now a.ys.now
    (subst (λ (k : ℕ). room_in k a.xs.now a.ys.now ≡ false) (count (goal.at.returns-then-xs-count c).After-count-count) (too_short _ a.xs.now a.ys.now c.then-xs-count.either))

pub write_vertices-requires : goal.write_vertices-requires
write_vertices-requires c =
    let p = c.requires in
    let n = c.count-count.result in
    let rest = drop 1 c.args.survey.now.vertices in
    let fewer = length-take (n - 1) rest in
    record {
      within = subst VertexWithin (sym c.first.ensures) p.first;
      others_within = each_take VertexWithin (n - 1) rest no_vertex no_vertex_within (each_drop VertexWithin 1 c.args.survey.now.vertices no_vertex p.others);
      east = omega (arith, fewer, c.count-count.ensures, p.least);
      north = omega (arith, fewer, c.count-count.ensures, p.least);
    }

pub returns : goal.returns
returns c =
    let a = c.args in
    let g = a.survey.now in
    let n = count (goal.at.returns c).After-count-count in
    answered g c.requires a.xs.now a.ys.now (subst (λ (k : ℕ). room_in k a.xs.now a.ys.now ≡ true) n (roomy _ a.xs.now a.ys.now c.if-xs-count.false c.if-ys-count.false)) n
    (c.write_vertices.ensures.east ∙ ticks_are g c.requires east_of a.xs.now c.first.ensures c.count-count.ensures)
    (c.write_vertices.ensures.north ∙ ticks_are g c.requires north_of a.ys.now c.first.ensures c.count-count.ensures)
