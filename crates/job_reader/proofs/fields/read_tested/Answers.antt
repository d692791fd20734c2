-- `job_reader::fields::read_tested` meets its contract: what the test answers is what any definition says that it decides. Assumes nothing.
use mathlib.Core.Path.{◌≡◌, sym, ◌∙◌, subst}
use mathlib.Core.Bool.{Bool, true, false}
use lib.IntN.{ℤ}
use mir.Syntax.{w32}
use mir.Val.{SFits, to_z, of_z}
use borrow.Author.Rules.{rules}
use Rattle.refusal.specs.Numbers.{number_of}
use Rattle.number.specs.Field.{signed_field}
use Rattle.number.proofs.SignedLaws.{kept}
use Rattle.job_reader.specs.Inner.{Decides}
use Rattle.job_reader.proofs.PartLaws.{handed_on}
use Rattle.job_reader.proofs.fields.read_tested.Goals as goal

pub returns-in_err-z : goal.returns-in_err-z
unfolding signed_field
returns-in_err-z g c = λ allowed d.
    rw (handed_on _ c.from_residual.result c.from_residual.ensures.1, ← (c.in_err-z.ensures ∙ c.read_signed.ensures (number_of c.args.own)))

-- the test of the number as it is passed on is that of the number
asked : (allowed : ℤ → Bool) (says : ℤ → Bool → Type 0) (z : ℤ) (b : Bool) → SFits w32 z → Decides says allowed → says (to_z w32 (of_z w32 z)) b → allowed z ≡ b
asked allowed says z b f d p = let e = kept z f in sym (d z f b (subst (λ (x : ℤ). says x b) e p))

pub returns-then-passes : goal.returns-then-passes
unfolding signed_field
returns-then-passes g c = λ allowed d.
    let f : SFits w32 c.in_ok-z.z = search rules in
    let test : allowed c.in_ok-z.z ≡ true = asked allowed _ c.in_ok-z.z _ f d c.passes.ensures ∙ c.if-passes.true in
    rw (kept c.in_ok-z.z f, ← (c.in_ok-z.ensures ∙ c.read_signed.ensures (number_of c.args.own)), test)

pub returns-else-passes : goal.returns-else-passes
unfolding signed_field
returns-else-passes g c = λ allowed d.
    let f : SFits w32 c.in_ok-z.z = search rules in
    let test : allowed c.in_ok-z.z ≡ false = asked allowed _ c.in_ok-z.z _ f d c.passes.ensures ∙ c.if-passes.false in
    rw (c.at.ensures, ← (c.in_ok-z.ensures ∙ c.read_signed.ensures (number_of c.args.own)), test)
