-- From what `read_job` and `run` ensure to what a job comes to, on a caller's runs and on runs of zeros, which have room for every path.
use Prim.Native.Nat.{ℕ}
use mathlib.Core.Path.{◌≡◌, refl, sym, ◌∙◌, ap, subst}
use mathlib.Core.Bool.{Bool, true, false, ◌&&◌}
use mathlib.Core.List.{List}
use mathlib.Core.Logic.{inl, inr}
use borrow.Author.Tests.{le-leb, eq-eqb}
use lib.ListN.{length}
use Rattle.std.proofs.lemmas.Bool.{and_from}
use Rattle.std.specs.Prelude.{Result, Ok, Err, MatchResult, IsErrAnd}
use Rattle.refusal.specs.Numbers.{number_of}
use Rattle.refusal.specs.declared.Refusal.{Refusal}
use Rattle.number.specs.Read.{Bytes, Read, got, refused, pick}
use Rattle.job.specs.declared.Job.{Job}
use Rattle.job.specs.Faults.{judge}
use Rattle.job_reader.specs.Record.{read_job}
use Rattle.job_reader.specs.Answers.{ReadEnsures}
use Rattle.job_writer.proofs.RoundTrip.{read_written}
use Rattle.path.specs.Stations.{stations}
use Rattle.path.specs.Laying.{PathRuns, room_for}
use Rattle.path.proofs.SoundLaws.{sound_path}
use Rattle.walk.specs.Tests.{reaches_lent}
use Rattle.reaches.specs.Cells.{Reaches, lengths_of}
use Rattle.run.specs.declared.Finish.{Finish}
use Rattle.run.specs.declared.RunRefusal.{RunRefusal}
use Rattle.run.specs.Ran.{Ran, as_ran}
use Rattle.run.specs.Ran as R
use Rattle.run.specs.Run.{ran_over, ran_answer, job_path, job_course, run_refusal, RunEnsures}
use Rattle.run.proofs.RunLaws.{all_passed}
use Rattle.swept.specs.declared.SweepRefusal.{SweepRefusal}
use Rattle.swept.specs.Answers.{Swept, as_swept}
use Rattle.swept.specs.Answers as S
use Rattle.swept.specs.Swept.{empty_path, empty_reaches, swept_run, swept_job, swept_read, swept_of, swept_into, path_into, reaches_into}
use Rattle.swept.specs.Ranges.{AnsweredSo, SweptEnsures, IntoSo, IntoEnsures}
use Rattle.swept.proofs.RangeLaws.{RanSo, ran_so, refused_so}

module _ (j : Job) (sound : judge j ≡ 0) where
  abbrev asked : ℕ
  asked = length (stations j)

  path_room_lem : room_for asked empty_path ≡ true
  unfolding empty_path
  path_room_lem = let e = le-leb asked 2001 (sound_path j sound).most in and_from _ _ e (and_from _ _ e (and_from _ _ e e))

  reaches_room : reaches_lent asked (lengths_of empty_reaches) ≡ true
  unfolding empty_reaches
  reaches_room = let e = le-leb asked 2001 (sound_path j sound).most in and_from _ _ e (and_from _ _ e e)

  pub run_passes : run_refusal j empty_path empty_reaches ≡ 0
  run_passes = all_passed j empty_path empty_reaches sound path_room_lem reaches_room

-- the walk of a job that nothing refuses
abbrev whole : Job → PathRuns → Reaches → Ran
whole j p r = ran_over (length (stations j)) (job_path j p) (job_course j p r)

ran_answered : (s : List ℕ) (a : Ran) → RanSo a → AnsweredSo s (swept_run a)
ran_answered s (R.finished f) h = h
ran_answered s (R.stopped n u k) h = h
ran_answered s (R.refused n) h = absurd h

pub answered_into : (s : List ℕ) (a : Swept) → AnsweredSo s a → IntoSo s a
answered_into s (S.finished f) h = h
answered_into s (S.stopped n u k) h = h
answered_into s (S.refused n p) h = inl h

-- the answer on these runs, by how the bytes read
module _ (s : List ℕ) (bytes : Bytes s) where
  own_runs : swept_into (read_job s) empty_path empty_reaches ≡ swept_of s
  unfolding swept_of swept_job
  own_runs = by (read_job s) refl
    where
      by : (x : Read Job) → read_job s ≡ x → swept_into x empty_path empty_reaches ≡ swept_read x
      by (got j e) q =
          ap (λ (f : ℕ). swept_run (ran_answer f (whole j empty_path empty_reaches))) (run_passes j (read_written s j e bytes q).judged)
      by (refused n p) q = refl

  own_so : AnsweredSo s (swept_of s)
  unfolding swept_of swept_job
  own_so = by (read_job s) refl
    where
      by : (x : Read Job) → read_job s ≡ x → AnsweredSo s (swept_read x)
      by (got j e) q =
          let a = (read_written s j e bytes q).judged in
          ran_answered s (whole j empty_path empty_reaches) (ran_so j a empty_path empty_reaches (path_room_lem j a) (reaches_room j a))
      by (refused n p) q = refused_so s n p q

  pub own_tells : (a : Swept) (p : PathRuns) (r : Reaches) → IntoEnsures s empty_path empty_reaches a p r → SweptEnsures s a
  own_tells a p r k = let e = k.answer ∙ own_runs in record { answer = e; ranges = subst (AnsweredSo s) (sym e) own_so }

-- on a caller's runs
module _ (s : List ℕ) (bytes : Bytes s) (p : PathRuns) (r : Reaches) where
  job_so : (j : Job) → judge j ≡ 0 → IntoSo s (swept_run (ran_answer (run_refusal j p r) (whole j p r)))
  unfolding run_refusal
  job_so j sound = let z = eq-eqb (judge j) 0 sound in rw z (by (room_for (length (stations j)) p) (reaches_lent (length (stations j)) (lengths_of r)) refl refl)
    where
      by : (a b : Bool) → room_for (length (stations j)) p ≡ a → reaches_lent (length (stations j)) (lengths_of r) ≡ b → IntoSo s (swept_run (ran_answer (pick (a && b) 0 21) (whole j p r)))
      by true true e f = answered_into s (swept_run (whole j p r)) (ran_answered s (whole j p r) (ran_so j sound p r e f))
      by true false e f = inr (refl, refl)
      by false b e f = inr (refl, refl)

  into_so : (x : Read Job) → read_job s ≡ x → IntoSo s (swept_into x p r)
  into_so (got j e) q = job_so j (read_written s j e bytes q).judged
  into_so (refused n b) q = inl (refused_so s n b q)

  into : (a : Swept) (p' : PathRuns) (r' : Reaches) (x : Read Job) → read_job s ≡ x → a ≡ swept_into x p r → p' ≡ path_into x p r → r' ≡ reaches_into x p r → IntoEnsures s p r a p' r'
  into a p' r' x e f g h = record {
    answer = f ∙ ap (λ (y : Read Job). swept_into y p r) (sym e);
    path = g ∙ ap (λ (y : Read Job). path_into y p r) (sym e);
    reaches = h ∙ ap (λ (y : Read Job). reaches_into y p r) (sym e);
    ranges = subst (IntoSo s) (sym f) (into_so x e);
  }

-- a run's answer with what refused it told over
run_told : (a : Result Finish RunRefusal) (b : Result Finish SweepRefusal) → MatchResult a (λ f. b ≡ Ok f) (λ e. IsErrAnd b (λ x. as_swept (Err x) ≡ swept_run (as_ran (Err e)))) → as_swept b ≡ swept_run (as_ran a)
run_told (Ok f) b h = ap as_swept h
run_told (Err e) (Ok f) h = absurd h
run_told (Err e) (Err x) h = h

-- what `read_job` and `run` ensure, put together
module _ (s : List ℕ) (p : PathRuns) (r : Reaches) where
  pub refused_tells : (e : Refusal) → ReadEnsures s (Err e) → IntoEnsures s p r (S.refused (number_of e.fault) e.place) p r
  refused_tells e k = into s k.bytes p r _ _ _ (refused (number_of e.fault) e.place) (sym k.answer) refl refl refl

  pub accepted_tells : (j : Job) → ReadEnsures s (Ok j) → (answer : Result Finish RunRefusal) (p' : PathRuns) (r' : Reaches) → RunEnsures j p r (as_ran answer) p' r'
      → (told : Result Finish SweepRefusal) → MatchResult answer (λ f. told ≡ Ok f) (λ e. IsErrAnd told (λ x. as_swept (Err x) ≡ swept_run (as_ran (Err e)))) → IntoEnsures s p r (as_swept told) p' r'
  accepted_tells j k answer p' r' t told m =
      into s k.bytes p r _ _ _ (got j (length s)) (sym k.answer)
      (run_told answer told m ∙ ap swept_run t.answered) t.path t.reaches
