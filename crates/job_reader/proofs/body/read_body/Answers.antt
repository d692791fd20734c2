-- `job_reader::body::read_body` meets its contract. Assumes nothing.
use mathlib.Core.Path.{◌∙◌}
use Rattle.job_reader.specs.Record.{read_body}
use Rattle.job_reader.proofs.PartLaws.{handed_on}
use Rattle.job_reader.proofs.body.read_body.Goals as goal

pub returns-in_err-front_overhang : goal.returns-in_err-front_overhang
unfolding read_body
returns-in_err-front_overhang c =
    rw (handed_on _ c.from_residual.result c.from_residual.ensures.1, ← (c.in_err-front_overhang.ensures ∙ c.read_within.ensures 5))

pub returns-in_err-rear_overhang : goal.returns-in_err-rear_overhang
unfolding read_body
returns-in_err-rear_overhang c =
    rw (
      handed_on _ c.from_residual-in_err-rear_overhang.result c.from_residual-in_err-rear_overhang.ensures.1,
      ← (c.in_ok-front_overhang.ensures ∙ c.read_within.ensures 5),
      ← (c.in_err-rear_overhang.ensures ∙ c.read_within-2.ensures 5),
    )

pub returns-in_err-half_width : goal.returns-in_err-half_width
unfolding read_body
returns-in_err-half_width c =
    rw (
      handed_on _ c.from_residual-in_err-half_width.result c.from_residual-in_err-half_width.ensures.1,
      ← (c.in_ok-front_overhang.ensures ∙ c.read_within.ensures 5),
      ← (c.in_ok-rear_overhang.ensures ∙ c.read_within-2.ensures 5),
      ← (c.in_err-half_width.ensures ∙ c.read_within-3.ensures 5),
    )

pub returns : goal.returns
unfolding read_body
returns c =
    rw (
      ← (c.in_ok-front_overhang.ensures ∙ c.read_within.ensures 5),
      ← (c.in_ok-rear_overhang.ensures ∙ c.read_within-2.ensures 5),
      ← (c.in_ok-half_width.ensures ∙ c.read_within-3.ensures 5),
    )
