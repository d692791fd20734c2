-- `job_reader::elements::read_path` meets its contract. Assumes nothing.
use native.Mathlib.Omega.{arith}
use mathlib.Core.Path.{◌∙◌}
use Rattle.job_reader.specs.Record.{read_path}
use Rattle.job_reader.proofs.PartLaws.{handed_on}
use Rattle.job_reader.proofs.ReadLaws.{field_within}
use Rattle.job_reader.proofs.elements.read_path.Goals as goal

pub returns-in_err-step : goal.returns-in_err-step
unfolding read_path
returns-in_err-step c = rw (handed_on _ c.from_residual.result c.from_residual.ensures.1, ← (c.in_err-step.ensures ∙ c.read_within.ensures 7))

pub returns-in_err-count : goal.returns-in_err-count
unfolding read_path
returns-in_err-count c =
    rw (
      handed_on _ c.from_residual-in_err-count.result c.from_residual-in_err-count.ensures.1,
      ← (c.in_ok-step.ensures ∙ c.read_within.ensures 7),
      ← (c.in_err-count.ensures ∙ c.read_within-2.ensures 8),
    )

-- the step is at least 100, and the number of elements at most 64
pub read_elements-requires : goal.read_elements-requires
read_elements-requires c =
    let step = field_within 7 (record { least = 100; most = 20000 }) _ _ _ _ (c.in_ok-step.ensures ∙ c.read_within.ensures 7) in
    let count = field_within 8 (record { least = 1; most = 64 }) _ _ _ _ (c.in_ok-count.ensures ∙ c.read_within-2.ensures 8) in
    record { positive = omega (arith, step.0); most = count.1 }

pub returns-in_err-elements : goal.returns-in_err-elements
unfolding read_path
returns-in_err-elements c =
    rw (
      handed_on _ c.from_residual-in_err-elements.result c.from_residual-in_err-elements.ensures.1,
      ← (c.in_ok-step.ensures ∙ c.read_within.ensures 7),
      ← (c.in_ok-count.ensures ∙ c.read_within-2.ensures 8),
      ← c.in_err-elements.ensures,
    )

pub returns : goal.returns
unfolding read_path
returns c =
    rw (
      ← (c.in_ok-step.ensures ∙ c.read_within.ensures 7),
      ← (c.in_ok-count.ensures ∙ c.read_within-2.ensures 8),
      ← c.in_ok-elements.ensures,
    )
