-- `kerb_line::kerb_sound` meets its contract: the vertices in use are tested one by one.
use mathlib.Core.Path.{sym, ◌∙◌}
use lib.ListN.{take}
use lib.Seq.{length-take-le}
use Rattle.std.proofs.Common.{rules, tests}
use Rattle.std.proofs.lemmas.Iterator.{YieldsList-from_slice, YieldsList-from_zip}
use Rattle.std.proofs.lemmas.Iterator.Search.{all_from_yields_List}
use Rattle.kerb_line.specs.Lent.{runs_of}
use Rattle.kerb_line.proofs.KerbLaws.{lent_room, vertex_sound_at, sound_one_by_one}
use Rattle.kerb_line.proofs.kerb_sound.Goals as goal

pub slice_bounds-iter-end : goal.slice_bounds-iter-end
slice_bounds-iter-end c = sym (length-take-le c.args.kerb.count c.args.kerb.xs.now (lent_room (runs_of c.args.kerb) c.args.kerb.count c.requires.lent).0)

pub slice_bounds-zip-end : goal.slice_bounds-zip-end
slice_bounds-zip-end c = sym (length-take-le c.args.kerb.count c.args.kerb.ys.now (lent_room (runs_of c.args.kerb) c.args.kerb.count c.requires.lent).1)

pub returns : goal.returns
returns c =
    let n = c.args.kerb.count in
    let k = runs_of c.args.kerb in
    let room = lent_room k n c.requires.lent in
    all_from_yields_List vertex_sound_at c.all.new.self _ c.all.result c.all.ensures.ran
    (YieldsList-from_zip (YieldsList-from_slice (take n k.xs) (cc)) (YieldsList-from_slice (take n k.ys) (cc))) (λ x b q h. search (rules, tests))
    ∙ sound_one_by_one k n room.0 room.1
