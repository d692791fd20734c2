-- The end of a path from what laying ensures, and the sizes in measuring from it.
use Prim.Native.Nat.{ℕ, ◌-◌, ◌≤◌}
use mathlib.Core.Path.{◌≡◌, refl, sym, ◌∙◌, ap, subst}
use native.Mathlib.Omega.{arith}
use lib.ListN.{length}
use Rattle.std.specs.Prelude.{Result, Ok, Err, IfOk}
use Rattle.refusal.specs.Numbers.{Answer, answered, refused, as_answer}
use Rattle.refusal.specs.declared.Fault.{Fault}
use Rattle.path_trials.specs.declared.PathEnd.{PathEnd}
use Rattle.exact.proofs.Sizes.{within_more, within_sub}
use Rattle.plane.specs.declared.Vec2.{Vec2}
use Rattle.plane.specs.Vector.{minus, Moderate, BothModerate}
use Rattle.job.specs.declared.Job.{Job}
use Rattle.path.specs.declared.Station.{Station}
use Rattle.path.specs.Stations.{stations}
use Rattle.path.specs.Laying.{PathRuns, station_at, lay_answer, laid_runs, LayEnsures}
use Rattle.path.specs.LaidPath.{job_station}
use Rattle.path.proofs.StoreLaws.{room}
use Rattle.path.proofs.LayLaws.{SameLengths}
use Rattle.path.proofs.JobLaws.{stations_count, stations_answered}
use Rattle.path.proofs.EntryLaws.{path_in_runs, written_lengths}
use Rattle.path.proofs.SoundLaws.{sound_path}
use Rattle.walk.specs.TestRequires.{StationLent}
use Rattle.path_trials.specs.Ends.{end_of, Measurable, BothMeasurable}

-- stations were answered
module _ (j : Job) (r : PathRuns) (n : ℕ) (q : PathRuns) (t : LayEnsures j r (Ok n) q) where
  pub some : 1 ≤ n
  some = omega (arith, (path_in_runs j r n q t).count, stations_count j)

  pub last_lent : StationLent (n - 1) q
  last_lent =
      let s = stations_answered j r n q t in
      let k = room (length (stations j)) r s.1 in
      let l : SameLengths q r = subst (λ (z : PathRuns). SameLengths z r) (sym s.3) (written_lengths (stations j) r) in
      record {
        xs = omega (arith, some, s.2, k.0, l.xs);
        ys = omega (arith, some, s.2, k.1, l.ys);
        gxs = omega (arith, some, s.2, k.2, l.gxs);
        gys = omega (arith, some, s.2, k.3, l.gys);
      }

  abbrev ended : Station → Answer PathEnd
  ended z = answered (record { stations = n; position = z.position })

  pub end_read : answered (record { stations = n; position = (station_at q (n - 1)).position }) ≡ end_of j (lay_answer j r)
  end_read =
      let e : station_at q (n - 1) ≡ job_station j (n - 1) = (path_in_runs j r n q t).entries (n - 1) (omega (arith, some)) in
      ap ended e ∙ ap (end_of j) t.answered

-- where a path ends can be measured from
pub end_measurable : (j : Job) (r : PathRuns) (e : Result PathEnd Fault) → as_answer e ≡ end_of j (lay_answer j r) → IfOk e (λ e. Measurable e.position)
end_measurable j r e h = by (lay_answer j r) refl e h
  where
    by : (a : Answer ℕ) → lay_answer j r ≡ a → (e : Result PathEnd Fault) → as_answer e ≡ end_of j a → IfOk e (λ e. Measurable e.position)
    by (answered n) h (Ok e) k =
        let t : LayEnsures j r (Ok n) (laid_runs (lay_answer j r) j r) = record { answered = sym h; runs = refl } in
        let s = stations_answered j r n (laid_runs (lay_answer j r) j r) t in
        let p = (sound_path j s.0).sound (n - 1) (omega (arith, some j r n (laid_runs (lay_answer j r) j r) t, s.2)) in
        let z : record { stations = n; position = (job_station j (n - 1)).position } ≡ e = cc in
        subst (λ (e : PathEnd). Measurable e.position) z (record { x = p.x; y = p.y })
    by (refused n) h (Ok e) k = cc
    by a h (Err f) k = tt

module _ (a b : Vec2) (t : BothMeasurable a b) where
  moderate : {v : Vec2} → Measurable v → Moderate v
  moderate m = record { x = within_more (omega arith) m.x; y = within_more (omega arith) m.y }

  pub ends_moderate : BothModerate a b
  ends_moderate = record { first = moderate t.first; second = moderate t.second }

  pub gap_moderate : Moderate (minus a b)
  gap_moderate = record { x = within_more (omega arith) (within_sub t.first.x t.second.x); y = within_more (omega arith) (within_sub t.first.y t.second.y) }
