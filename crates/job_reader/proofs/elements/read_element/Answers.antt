-- `job_reader::elements::read_element` meets its contract. Assumes nothing.
use mathlib.Core.Path.{◌≡◌, ap, ◌∙◌}
use mir.Syntax.{w32}
use mir.Val.{to_z, of_z}
use borrow.Author.Rules.{rules}
use Rattle.job.specs.Curves.{curve_of, radius_allowed}
use Rattle.job_reader.specs.Record.{read_element}
use Rattle.job_reader.proofs.PartLaws.{handed_on}
use Rattle.job_reader.proofs.elements.read_element.Goals as goal

pub returns-in_err-length : goal.returns-in_err-length
unfolding read_element
returns-in_err-length c =
    rw (handed_on _ c.from_residual.result c.from_residual.ensures.1, ← (c.in_err-length.ensures ∙ c.read_within.ensures 8))

pub returns-in_err-radius : goal.returns-in_err-radius
unfolding read_element
returns-in_err-radius c =
    rw (
      handed_on _ c.from_residual-in_err-radius.result c.from_residual-in_err-radius.ensures.1,
      ← (c.in_ok-length.ensures ∙ c.read_within.ensures 8),
      ← c.in_err-radius.ensures radius_allowed (λ z f b p. search rules),
    )

pub returns : goal.returns
unfolding read_element
returns c =
    let e : to_z w32 (of_z w32 c.in_ok-radius.radius) ≡ c.in_ok-radius.radius = search rules in
    rw (
      c.curve_of-curve.ensures ∙ ap curve_of e,
      ← (c.in_ok-length.ensures ∙ c.read_within.ensures 8),
      ← c.in_ok-radius.ensures radius_allowed (λ z f b p. search rules),
    )
