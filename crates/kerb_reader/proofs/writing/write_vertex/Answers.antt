-- `kerb_reader::writing::write_vertex` meets its contract: each tick fits an entry.
use mathlib.Core.Path.{ap}
use lib.ListN.{set}
use Rattle.plane.specs.declared.Vec2.{Vec2}
use Rattle.metres.proofs.Ticks.{tick_bound}
use Rattle.kerb_reader.proofs.WriteLaws.{tick_fits, tick_kept}
use Rattle.kerb_reader.proofs.writing.write_vertex.Goals as goal

pub overflow_cast-xs : goal.overflow_cast-xs
overflow_cast-xs c = tick_fits (ap (λ (v : Vec2). v.x) c.ticks_of-tick.ensures) (tick_bound c.args.v.x c.requires.within.x)

pub overflow_cast-ys : goal.overflow_cast-ys
overflow_cast-ys c = tick_fits (ap (λ (v : Vec2). v.y) c.ticks_of-tick.ensures) (tick_bound c.args.v.y c.requires.within.y)

pub returns : goal.returns
returns c =
    let a = c.args in
    record {
      east = ap (set a.xs.now a.i) (tick_kept (ap (λ (v : Vec2). v.x) c.ticks_of-tick.ensures) (tick_bound a.v.x c.requires.within.x));
      north = ap (set a.ys.now a.i) (tick_kept (ap (λ (v : Vec2). v.y) c.ticks_of-tick.ensures) (tick_bound a.v.y c.requires.within.y));
    }
