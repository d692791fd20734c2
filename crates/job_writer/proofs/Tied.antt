-- What the contracts of `read_job` and `write_job` tell a caller is what the claims ask of them. Assumes nothing.
use denote.Triple.Clauses.{AtExit}
use contract.Lifetimes.{Lfts}
use borrow.Fn.Kinds.{Dens, ended_of}
use Rattle.std.specs.Prelude.{Result}
use Rattle.refusal.specs.declared.Refusal.{Refusal}
use Rattle.job_reader.specs.Answers.{ReadEnsures}
use Rattle.job.specs.declared.Job.{Job}
use Rattle.job_reader.proofs.read_job.Kinds as read-kinds
use Rattle.job_reader.proofs.read_job.Reads as read-reads
use Rattle.job_writer.specs.Answers.{WriteEnsures}
use Prim.Native.Nat.{ℕ}
use Rattle.std.specs.Prelude.{Result}
use Rattle.refusal.specs.declared.Fault.{Fault}
use Rattle.job_writer.proofs.write_job.Kinds as write-kinds
use Rattle.job_writer.proofs.write_job.Reads as write-reads

pub read_tells : (κs : Lfts 1) (a : Dens κs read-kinds.ps) (r : Result Job Refusal) (x : AtExit (ended_of 1 read-kinds.ps read-kinds.r) κs) → read-reads.Learnt κs a r x → ReadEnsures a.0.now r
read_tells κs a r x h = h

pub write_tells : (κs : Lfts 1) (a : Dens κs write-kinds.ps) (r : Result ℕ Fault) (x : AtExit (ended_of 1 write-kinds.ps write-kinds.r) κs) → write-reads.Learnt κs a r x → WriteEnsures a.0 a.1.0.now r x.1.0.now
write_tells κs a r x h = h
