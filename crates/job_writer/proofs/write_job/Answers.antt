-- `job_writer::write_job` meets its contract. Assumes nothing.
use Prim.Native.Nat.{◌≤◌, ◌<◌}
use native.Mathlib.Omega.{arith}
use borrow.Author.Rules.{rules}
use borrow.Author.Tests.{le-leb, lt-leb}
use mathlib.Core.Path.{◌≡◌, ◌∙◌}
use lib.ListN.{length, take}
use Rattle.std.proofs.lemmas.Result.{err_from_is_err_and}
use Rattle.job.proofs.Arrays.{unmapped}
use Rattle.job.proofs.FaultLaws.{first_told}
use Rattle.job_writer.specs.Write.{write_job}
use Rattle.job_writer.proofs.AnswerLaws.{refuses, writes, encoded_count, encoded_bytes, put_first}
use Rattle.job_writer.proofs.write_job.Goals as goal

pub returns-in_err-judge : goal.returns-in_err-judge
returns-in_err-judge c =
    let p = err_from_is_err_and c.from_residual.result c.from_residual.ensures.1 in
    let j = c.args.j in
    let four : length j.vehicle.units ≡ 4 = search (rules, unmapped) in
    let sixty_four : length j.elements ≡ 64 = search (rules, unmapped) in
    rw (p.1, p.2) (refuses j c.args.run.now four sixty_four _ (rw (← c.judge.ensures) (first_told _ _ _ c.in_err-judge.was)))

pub returns-then-run-n : goal.returns-then-run-n
returns-then-run-n c =
    let j = c.args.j in
    let r = c.args.run.now in
    let four : length j.vehicle.units ≡ 4 = search (rules, unmapped) in
    let sixty_four : length j.elements ≡ 64 = search (rules, unmapped) in
    let n = encoded_count c.encode_job-e.result (write_job j) c.encode_job-e.ensures.whole in
    let l : length r < length (write_job j) = omega (arith, n, c.if-run-n.true) in
    refuses j r four sixty_four _ (rw (← c.in_ok-judge.ensures, lt-leb _ _ l))

pub returns : goal.returns
returns c =
    let j = c.args.j in
    let r = c.args.run.now in
    let e = c.encode_job-e.result in
    let four : length j.vehicle.units ≡ 4 = search (rules, unmapped) in
    let sixty_four : length j.elements ≡ 64 = search (rules, unmapped) in
    let n = encoded_count e (write_job j) c.encode_job-e.ensures.whole in
    let l : length (write_job j) ≤ length r = omega (arith, n, c.if-run-n.false) in
    let b : take e.at e.bytes ≡ write_job j = encoded_bytes e (write_job j) c.encode_job-e.ensures.whole (omega (arith, n, c.encode_job-e.ensures.within)) in
    let w = c.copy_from_slice.ensures.after ∙ b in
    writes j r four sixty_four (rw (← c.in_ok-judge.ensures, le-leb _ _ l)) n (rw w (put_first (write_job j) r e.at n l))
