-- `job_reader::units::read_widths` meets its contract. Assumes nothing.
use mathlib.Core.Path.{◌≡◌, ◌∙◌}
use Rattle.number.specs.Field.{field}
use Rattle.number.specs.Answers.{as_read}
use Rattle.job.specs.Allowed.{old_overhang_allowed}
use Rattle.job_reader.specs.Record.{read_widths}
use Rattle.job_reader.proofs.PartLaws.{handed_on}
use Rattle.job_reader.proofs.units.read_widths.Goals as goal

-- in each, `o`: the overhang is read in its form's range
pub returns-in_err-overhang : goal.returns-in_err-overhang
unfolding read_widths
returns-in_err-overhang c =
    let o : as_read 5 c.read_within.result ≡ field 5 (old_overhang_allowed c.args.form) c.args.s.now c.args.c.at = rw c.overhang_range-range.ensures at c.read_within.ensures 5 in
    rw (
      handed_on _ c.from_residual.result c.from_residual.ensures.1,
      ← (c.in_err-overhang.ensures ∙ o),
    )

pub returns-in_err-front_half_width : goal.returns-in_err-front_half_width
unfolding read_widths
returns-in_err-front_half_width c =
    let o : as_read 5 c.read_within.result ≡ field 5 (old_overhang_allowed c.args.form) c.args.s.now c.args.c.at = rw c.overhang_range-range.ensures at c.read_within.ensures 5 in
    rw (
      handed_on _ c.from_residual-in_err-front_half_width.result c.from_residual-in_err-front_half_width.ensures.1,
      ← (c.in_ok-overhang.ensures ∙ o),
      ← (c.in_err-front_half_width.ensures ∙ c.read_within-2.ensures 5),
    )

pub returns-in_err-rear_half_width : goal.returns-in_err-rear_half_width
unfolding read_widths
returns-in_err-rear_half_width c =
    let o : as_read 5 c.read_within.result ≡ field 5 (old_overhang_allowed c.args.form) c.args.s.now c.args.c.at = rw c.overhang_range-range.ensures at c.read_within.ensures 5 in
    rw (
      handed_on _ c.from_residual-in_err-rear_half_width.result c.from_residual-in_err-rear_half_width.ensures.1,
      ← (c.in_ok-overhang.ensures ∙ o),
      ← (c.in_ok-front_half_width.ensures ∙ c.read_within-2.ensures 5),
      ← (c.in_err-rear_half_width.ensures ∙ c.read_within-3.ensures 5),
    )

pub returns : goal.returns
unfolding read_widths
returns c =
    let o : as_read 5 c.read_within.result ≡ field 5 (old_overhang_allowed c.args.form) c.args.s.now c.args.c.at = rw c.overhang_range-range.ensures at c.read_within.ensures 5 in
    rw (
      ← (c.in_ok-overhang.ensures ∙ o),
      ← (c.in_ok-front_half_width.ensures ∙ c.read_within-2.ensures 5),
      ← (c.in_ok-rear_half_width.ensures ∙ c.read_within-3.ensures 5),
    )
