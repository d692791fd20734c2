-- `turning::kerbs::turning_kerb_ticks` meets its contract.
use native.Mathlib.Omega.{arith}
use mathlib.Core.Path.{refl, sym, subst}
use Rattle.kerb_line.specs.Kerb.{kerb_runs}
use Rattle.kerb_reader.specs.Geometry.{read_geometry}
use Rattle.kerb_told.specs.Inner.{ReadFits}
use Rattle.turning.proofs.KerbLaws.{read_fits, ticks_called}
use Rattle.turning.proofs.kerbs.turning_kerb_ticks.Goals as goal

pub tell_ticks-requires : goal.tell_ticks-requires
tell_ticks-requires c =
    let g = c.args.geometry.now in
    let k = kerb_runs c.args.xs.now c.args.ys.now in
    record { room = record { room = omega (arith, c.if-answer-lt-TICKS_ENTRIES.false) }; ranges = subst ReadFits (sym c.read_kerb.ensures.answer) (read_fits g k (read_geometry g) refl) }

pub returns : goal.returns
returns c =
    ticks_called c.args.geometry.now (kerb_runs c.args.xs.now c.args.ys.now) c.args.answer.now (omega (arith, c.if-answer-lt-TICKS_ENTRIES.false))
    c.read_kerb.result _ _ c.read_kerb.ensures _ _ c.tell_ticks.ensures
