-- `job_reader::units::read_unit` meets its contract. Assumes nothing.
use mathlib.Core.Path.{◌≡◌, ◌∙◌}
use mir.Syntax.{w32}
use mir.Val.{to_z, of_z}
use borrow.Author.Rules.{rules}
use Rattle.job.specs.Allowed.{fold_allowed}
use Rattle.job_reader.specs.Record.{read_unit}
use Rattle.job_reader.proofs.PartLaws.{handed_on}
use Rattle.job_reader.proofs.units.read_unit.Goals as goal

pub returns-in_err-wheelbase : goal.returns-in_err-wheelbase
unfolding read_unit
returns-in_err-wheelbase c =
    rw (
      handed_on _ c.from_residual.result c.from_residual.ensures.1,
      ← (c.in_err-wheelbase.ensures ∙ c.read_within.ensures 4),
    )

pub returns-in_err-hitch : goal.returns-in_err-hitch
unfolding read_unit
returns-in_err-hitch c =
    rw (
      handed_on _ c.from_residual-in_err-hitch.result c.from_residual-in_err-hitch.ensures.1,
      ← (c.in_ok-wheelbase.ensures ∙ c.read_within.ensures 4),
      ← c.hitch_most.ensures,
      ← (c.in_err-hitch.ensures ∙ c.read_sized-sized.ensures 4),
    )

pub returns-in_err-fold : goal.returns-in_err-fold
unfolding read_unit
returns-in_err-fold c =
    rw (
      handed_on _ c.from_residual-in_err-fold.result c.from_residual-in_err-fold.ensures.1,
      ← (c.in_ok-wheelbase.ensures ∙ c.read_within.ensures 4),
      ← c.hitch_most.ensures,
      ← (c.in_ok-hitch.ensures ∙ c.read_sized-sized.ensures 4),
      ← c.in_err-fold.ensures (fold_allowed c.args.first) (λ z f b p. search rules),
    )

pub returns-in_err-body : goal.returns-in_err-body
unfolding read_unit
returns-in_err-body c =
    rw (
      handed_on _ c.from_residual-in_err-body.result c.from_residual-in_err-body.ensures.1,
      ← (c.in_ok-wheelbase.ensures ∙ c.read_within.ensures 4),
      ← c.hitch_most.ensures,
      ← (c.in_ok-hitch.ensures ∙ c.read_sized-sized.ensures 4),
      ← c.in_ok-fold.ensures (fold_allowed c.args.first) (λ z f b p. search rules),
      ← c.in_err-body.ensures,
    )

pub returns : goal.returns
unfolding read_unit
returns c =
    let hitch : to_z w32 (of_z w32 c.in_ok-hitch.hitch) ≡ c.in_ok-hitch.hitch = search rules in
    let fold : to_z w32 (of_z w32 c.in_ok-fold.fold) ≡ c.in_ok-fold.fold = search rules in
    rw (
      hitch,
      fold,
      ← (c.in_ok-wheelbase.ensures ∙ c.read_within.ensures 4),
      ← c.hitch_most.ensures,
      ← (c.in_ok-hitch.ensures ∙ c.read_sized-sized.ensures 4),
      ← c.in_ok-fold.ensures (fold_allowed c.args.first) (λ z f b p. search rules),
      ← c.in_ok-body.ensures,
    )
