-- `job_reader::elements::read_start` meets its contract. Assumes nothing.
use mathlib.Core.Path.{◌≡◌, ◌∙◌, ap₂, sym}
use mir.Syntax.{w32}
use mir.Val.{to_z, of_z}
use borrow.Author.Rules.{rules}
use Rattle.job.specs.Allowed.{heading_allowed}
use Rattle.job_reader.specs.Record.{read_start}
use Rattle.job_reader.proofs.PartLaws.{handed_on}
use Rattle.job_reader.proofs.elements.read_start.Goals as goal

pub returns-in_err-x : goal.returns-in_err-x
unfolding read_start
returns-in_err-x c =
    rw (
      handed_on _ c.from_residual.result c.from_residual.ensures.1,
      ← (c.in_err-x.ensures ∙ c.read_sized.ensures 6),
    )

pub returns-in_err-y : goal.returns-in_err-y
unfolding read_start
returns-in_err-y c =
    rw (
      handed_on _ c.from_residual-in_err-y.result c.from_residual-in_err-y.ensures.1,
      ← (c.in_ok-x.ensures ∙ c.read_sized.ensures 6),
      ← (c.in_err-y.ensures ∙ c.read_sized-2.ensures 6),
    )

pub returns-in_err-gx : goal.returns-in_err-gx
unfolding read_start
returns-in_err-gx c =
    rw (
      handed_on _ c.from_residual-in_err-gx.result c.from_residual-in_err-gx.ensures.1,
      ← (c.in_ok-x.ensures ∙ c.read_sized.ensures 6),
      ← (c.in_ok-y.ensures ∙ c.read_sized-2.ensures 6),
      ← (c.in_err-gx.ensures ∙ c.read_signed.ensures 6),
    )

pub returns-in_err-gy : goal.returns-in_err-gy
unfolding read_start
returns-in_err-gy c =
    rw (
      handed_on _ c.from_residual-in_err-gy.result c.from_residual-in_err-gy.ensures.1,
      ← (c.in_ok-x.ensures ∙ c.read_sized.ensures 6),
      ← (c.in_ok-y.ensures ∙ c.read_sized-2.ensures 6),
      ← (c.in_ok-gx.ensures ∙ c.read_signed.ensures 6),
      ← (c.in_err-gy.ensures ∙ c.read_signed-2.ensures 6),
    )

-- each signed value is read back from its bits as it was
pub returns-then-heading_allowed : goal.returns-then-heading_allowed
unfolding read_start
returns-then-heading_allowed c =
    let x : to_z w32 (of_z w32 c.in_ok-x.x) ≡ c.in_ok-x.x = search rules in
    let y : to_z w32 (of_z w32 c.in_ok-y.y) ≡ c.in_ok-y.y = search rules in
    let gx : to_z w32 (of_z w32 c.in_ok-gx.gx) ≡ c.in_ok-gx.gx = search rules in
    let gy : to_z w32 (of_z w32 c.in_ok-gy.gy) ≡ c.in_ok-gy.gy = search rules in
    let heading : heading_allowed c.in_ok-gx.gx c.in_ok-gy.gy ≡ c.heading_allowed.result = sym (c.heading_allowed.ensures ∙ ap₂ heading_allowed gx gy) in
    rw (
      x,
      y,
      gx,
      gy,
      ← (c.in_ok-x.ensures ∙ c.read_sized.ensures 6),
      ← (c.in_ok-y.ensures ∙ c.read_sized-2.ensures 6),
      ← (c.in_ok-gx.ensures ∙ c.read_signed.ensures 6),
      ← (c.in_ok-gy.ensures ∙ c.read_signed-2.ensures 6),
      heading,
      c.if-heading_allowed.true,
    )

pub returns : goal.returns
unfolding read_start
returns c =
    let gx : to_z w32 (of_z w32 c.in_ok-gx.gx) ≡ c.in_ok-gx.gx = search rules in
    let gy : to_z w32 (of_z w32 c.in_ok-gy.gy) ≡ c.in_ok-gy.gy = search rules in
    let heading : heading_allowed c.in_ok-gx.gx c.in_ok-gy.gy ≡ c.heading_allowed.result = sym (c.heading_allowed.ensures ∙ ap₂ heading_allowed gx gy) in
    rw (
      c.at.ensures,
      ← (c.in_ok-x.ensures ∙ c.read_sized.ensures 6),
      ← (c.in_ok-y.ensures ∙ c.read_sized-2.ensures 6),
      ← (c.in_ok-gx.ensures ∙ c.read_signed.ensures 6),
      ← (c.in_ok-gy.ensures ∙ c.read_signed-2.ensures 6),
      heading,
      c.if-heading_allowed.false,
    )
