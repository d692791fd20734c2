-- `number::read_signed` meets its contract. Assumes nothing.
use borrow.Author.Rules.{sfits_of}
use Rattle.std.proofs.lemmas.Result.{err_from_is_err_and}
use Rattle.number.specs.Field.{signed_number}
use Rattle.number.proofs.SignedLaws.{kept}
use Rattle.number.proofs.read_signed.Goals as goal

pub returns-in_err-v : goal.returns-in_err-v
unfolding signed_number
returns-in_err-v c =
    let p = err_from_is_err_and c.from_residual.result c.from_residual.ensures.1 in
    λ own. rw (p.1, p.2, ← c.in_err-v.ensures own)

pub returns : goal.returns
unfolding signed_number
returns c = λ own. rw (kept c.signed_of.result (sfits_of c.signed_of.type_inv), c.signed_of.ensures, ← c.in_ok-v.ensures own)
