-- Two answers of the list of settings that say the same are the same. Assumes nothing.
use Prim.Native.Nat.{ℕ}
use mathlib.Core.Path.{◌≡◌, ap, ap₂}
use native.Mathlib.Omega.{arith}
use Rattle.std.specs.Prelude.{Result, Ok, Err}
use Rattle.refusal.specs.Numbers.{number_of}
use Rattle.refusal.proofs.NumberLaws.{same_number}
use Rattle.ranking.specs.declared.Shortlist.{Shortlist}
use Rattle.ranking.specs.Ranking.{Listed, as_list}
use Rattle.ranking.specs.Ranking as L
use Rattle.ranking.proofs.SameAnswers.{same_list, not_refused}
use Rattle.offered.specs.declared.OfferRefusal.{OfferRefusal}
use Rattle.offered.specs.declared.OfferRefusal.TheVariants as R
use Rattle.offered.specs.Answers.{as_offered}

pub same_offered : (a b : Result Shortlist OfferRefusal) → as_offered a ≡ as_offered b → a ≡ b
same_offered (Ok a) (Ok b) h = let e : as_list a ≡ as_list b = cc in ap Ok (same_list a b e)
same_offered (Ok a) (Err (R.List g)) h = let e : as_list a ≡ L.refused (number_of g) = cc in absurd (not_refused a (number_of g) e)
same_offered (Ok a) (Err (R.Record q)) h = absurd (let z : ◌≡◌ {A = ℕ} 0 1 = cc in omega arith)
same_offered (Err (R.List f)) (Ok b) h = let e : as_list b ≡ L.refused (number_of f) = cc in absurd (not_refused b (number_of f) e)
same_offered (Err (R.List f)) (Err (R.List g)) h = ap (λ f. Err (R.List f)) (same_number f g cc)
same_offered (Err (R.List f)) (Err (R.Record q)) h = absurd (let z : ◌≡◌ {A = ℕ} 0 1 = cc in omega arith)
same_offered (Err (R.Record r)) (Ok b) h = absurd (let z : ◌≡◌ {A = ℕ} 0 1 = cc in omega arith)
same_offered (Err (R.Record r)) (Err (R.List g)) h = absurd (let z : ◌≡◌ {A = ℕ} 0 1 = cc in omega arith)
same_offered (Err (R.Record r)) (Err (R.Record q)) h =
    let f : number_of r.fault ≡ number_of q.fault = cc in
    let p : r.place ≡ q.place = cc in
    ap₂ (λ f p. Err (R.Record (record { fault = f; place = p }))) (same_number r.fault q.fault f) p
