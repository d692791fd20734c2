-- What a `?` hands on is the refusal that it was given. Assumes nothing.
use Prim.Native.Nat.{ℕ}
use mathlib.Core.Path.{◌≡◌}
use Rattle.std.specs.Prelude.{Result}
use Rattle.std.specs.Result.{IsErrAnd}
use Rattle.std.proofs.lemmas.Result.{err_from_is_err_and}
use Rattle.refusal.specs.Numbers.{number_of}
use Rattle.refusal.specs.declared.Refusal.{Refusal}
use Rattle.number.specs.Read.{refused}
use Rattle.number.specs.Answers.{as_part}
use Rattle.number.specs.declared.Cursor.{Cursor}
use Rattle.job.specs.declared.Job.{Job}
use Rattle.job_reader.specs.Answers.{as_job}

-- from a part
pub handed_on : {A : Type 0} (e : Refusal) (r : Result (A × Cursor) Refusal) → IsErrAnd r (λ y. y ≡ e) → as_part r ≡ refused (number_of e.fault) e.place
handed_on e r h = let p = err_from_is_err_and r h in rw (p.1, p.2)

-- from the whole job
pub told : (size : ℕ) (e : Refusal) (r : Result Job Refusal) → IsErrAnd r (λ y. y ≡ e) → as_job size r ≡ refused (number_of e.fault) e.place
told size e r h = let p = err_from_is_err_and r h in rw (p.1, p.2)
