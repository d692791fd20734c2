-- What laying wrote, read back entry by entry.
use Prim.Native.Nat.{ℕ, ◌+◌, ◌-◌, ◌≤◌, ◌<◌}
use mathlib.Core.Path.{◌≡◌, sym, ◌∙◌, ap}
use mathlib.Core.Bool.{true}
use mathlib.Core.List.{List, ◌++◌, map}
use native.Mathlib.Omega.{arith}
use lib.ListN.{length, drop, get_or, length-map, get_or-append, get_or-map}
use lib.Seq.{sets, sets-eq, length-sets, get_or-append-add, get_or-drop}
use lib.IntN.{ℤ, pos}
use Rattle.job.specs.declared.Job.{Job}
use Rattle.path.specs.declared.Station.{Station}
use Rattle.std.specs.Prelude.{Ok}
use Rattle.path.specs.Stations.{stations}
use Rattle.path.specs.Laying.{PathRuns, station_at, room_for, written, LayEnsures}
use Rattle.path.specs.LaidPath.{no_station, PathInRuns}
use Rattle.path.proofs.StoreLaws.{room}
use Rattle.path.proofs.LayLaws.{SameLengths}
use Rattle.path.proofs.JobLaws.{stations_answered}

-- values laid over the start of a run
module _ {A : Type 0} (l vs : List A) (z : A) (i : ℕ) (fits : length vs ≤ length l) where
  over : sets l 0 vs ≡ vs ++ drop (length vs) l
  over = let e : 0 + length vs ≡ length vs = omega arith in sets-eq vs l 0 (omega arith) ∙ ap (λ (k : ℕ). vs ++ drop k l) e

  pub laid_entry : i < length vs → get_or (sets l 0 vs) i z ≡ get_or vs i z
  laid_entry h = rw over (get_or-append vs (drop (length vs) l) z i h)

  pub entry_past : length vs ≤ i → get_or (sets l 0 vs) i z ≡ get_or l i z
  entry_past h =
      let e : length vs + (i - length vs) ≡ i = omega arith in
      rw over (ap (λ (k : ℕ). get_or (vs ++ drop (length vs) l) k z) (sym e) ∙ get_or-append-add vs (drop (length vs) l) (i - length vs) z ∙ get_or-drop (length vs) l (i - length vs) z ∙ ap (λ (k : ℕ). get_or l k z) e)

-- one coordinate of the stations, laid over a run
module _ (f : Station → ℤ) (ps : List Station) (l : List ℤ) (i : ℕ) (fits : length ps ≤ length l) where
  abbrev vs : List ℤ
  vs = map f ps

  count : length vs ≡ length ps
  count = length-map ps f

  coordinate_entry : (z : Station) → i < length ps → get_or (sets l 0 vs) i (f z) ≡ f (get_or ps i z)
  coordinate_entry z h = laid_entry l vs (f z) i (omega (arith, count)) (omega (arith, count)) ∙ get_or-map f ps i z

  coordinate_past : (z : ℤ) → length ps ≤ i → get_or (sets l 0 vs) i z ≡ get_or l i z
  coordinate_past z h = entry_past l vs z i (omega (arith, count)) (omega (arith, count))

module _ (ps : List Station) (r : PathRuns) (fits : room_for (length ps) r ≡ true) (i : ℕ) where
  pub written_entry : i < length ps → station_at (written ps r) i ≡ get_or ps i no_station
  written_entry h =
      let k = room (length ps) r fits in
      let x = coordinate_entry (λ (p : Station). p.position.x) ps r.xs i k.0 no_station h in
      let y = coordinate_entry (λ (p : Station). p.position.y) ps r.ys i k.1 no_station h in
      let gx = coordinate_entry (λ (p : Station). p.heading.x) ps r.gxs i k.2 no_station h in
      let gy = coordinate_entry (λ (p : Station). p.heading.y) ps r.gys i k.3 no_station h in
      λ t. record { position = record { x = x t; y = y t }; heading = record { x = gx t; y = gy t } }

  pub written_past : length ps ≤ i → station_at (written ps r) i ≡ station_at r i
  written_past h =
      let k = room (length ps) r fits in
      let x = coordinate_past (λ (p : Station). p.position.x) ps r.xs i k.0 (pos 0) h in
      let y = coordinate_past (λ (p : Station). p.position.y) ps r.ys i k.1 (pos 0) h in
      let gx = coordinate_past (λ (p : Station). p.heading.x) ps r.gxs i k.2 (pos 0) h in
      let gy = coordinate_past (λ (p : Station). p.heading.y) ps r.gys i k.3 (pos 0) h in
      λ t. record { position = record { x = x t; y = y t }; heading = record { x = gx t; y = gy t } }

pub written_lengths : (ps : List Station) (r : PathRuns) → SameLengths (written ps r) r
written_lengths ps r = record { xs = simp length-sets; ys = simp length-sets; gxs = simp length-sets; gys = simp length-sets }

-- the stations of a job that was laid
pub path_in_runs : (j : Job) (before : PathRuns) (n : ℕ) (after : PathRuns) → LayEnsures j before (Ok n) after → PathInRuns j before n after
path_in_runs j before n after t =
    let s = stations_answered j before n after t in
    record {
      accepted = s.0;
      count = s.2;
      entries = λ i h. ap (λ (r : PathRuns). station_at r i) s.3 ∙ written_entry (stations j) before s.1 i (omega (arith, s.2));
      past = λ i h. ap (λ (r : PathRuns). station_at r i) s.3 ∙ written_past (stations j) before s.1 i (omega (arith, s.2));
    }
