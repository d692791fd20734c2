-- `job_reader::read_job` meets its contract. Assumes nothing.
use native.Mathlib.Omega.{arith}
use mathlib.Core.Path.{ap, sym}
use borrow.Author.Tests.{eq-eqb, ne_eqb}
use Rattle.number.specs.Read.{got}
use Rattle.job_reader.specs.Record.{read_record, read_job}
use Rattle.job_reader.proofs.PartLaws.{told}
use Rattle.job_reader.proofs.read_job.Goals as goal

-- in each, `bytes`: a slice's numbers are bytes
pub returns-in_err-vehicle : goal.returns-in_err-vehicle
unfolding read_job read_record
returns-in_err-vehicle c = record {
  answer = rw (told _ _ c.from_residual.result c.from_residual.ensures.1, ← c.in_err-vehicle.ensures);
  bytes = λ i. omega (arith, c.type_inv.s i);
}

pub returns-in_err-start : goal.returns-in_err-start
unfolding read_job read_record
returns-in_err-start c = record {
  answer = rw (told _ _ c.from_residual-in_err-start.result c.from_residual-in_err-start.ensures.1, ← c.in_ok-vehicle.ensures, ← c.in_err-start.ensures);
  bytes = λ i. omega (arith, c.type_inv.s i);
}

pub returns-in_err-job : goal.returns-in_err-job
unfolding read_job read_record
returns-in_err-job c = record {
  answer = rw (told _ _ c.from_residual-in_err-job.result c.from_residual-in_err-job.ensures.1, ← c.in_ok-vehicle.ensures, ← c.in_ok-start.ensures, ← c.in_err-job.ensures);
  bytes = λ i. omega (arith, c.type_inv.s i);
}

pub returns-then-end-s : goal.returns-then-end-s
unfolding read_job read_record
returns-then-end-s c = record {
  answer = rw (← c.in_ok-vehicle.ensures, ← c.in_ok-start.ensures, ← c.in_ok-job.ensures, eq-eqb _ _ c.if-end-s.true) (ap (got c.in_ok-job.job) (sym c.if-end-s.true));
  bytes = λ i. omega (arith, c.type_inv.s i);
}

pub returns : goal.returns
unfolding read_job read_record
returns c = record {
  answer = rw (c.at.ensures, ← c.in_ok-vehicle.ensures, ← c.in_ok-start.ensures, ← c.in_ok-job.ensures, ne_eqb _ _ c.if-end-s.false);
  bytes = λ i. omega (arith, c.type_inv.s i);
}
