-- Two lists of settings that say the same are the same. Assumes nothing.
use Prim.Native.Nat.{ℕ}
use mathlib.Core.Path.{◌≡◌, refl, sym, ap, ap₂, ◌∙◌}
use native.Mathlib.Omega.{arith}
use Rattle.std.specs.Prelude.{Option, None, Some, Result, Ok, Err}
use Rattle.refusal.specs.Numbers.{number_of}
use Rattle.refusal.specs.declared.Fault.{Fault}
use Rattle.refusal.proofs.NumberLaws.{same_number}
use Rattle.ranking.specs.declared.Shortlist.{Shortlist}
use Rattle.ranking.specs.declared.Shortlist.TheVariants as S
use Rattle.ranking.specs.Ranking.{as_list, as_listed, so_far}
use Rattle.ranking.specs.Ranking as L

-- a list is no refusal
pub not_refused : (l : Shortlist) (n : ℕ) → as_list l ≡ L.refused n → ⊥
not_refused (S.One a) n h = let z : ◌≡◌ {A = ℕ} 0 1 = cc in omega arith
not_refused (S.Two a b) n h = let z : ◌≡◌ {A = ℕ} 0 1 = cc in omega arith
not_refused (S.Three a b c) n h = let z : ◌≡◌ {A = ℕ} 0 1 = cc in omega arith

pub same_list : (a b : Shortlist) → as_list a ≡ as_list b → a ≡ b
same_list (S.One a) (S.One p) h = let e : a ≡ p = cc in ap S.One e
same_list (S.One a) (S.Two p q) h = absurd (let z : ◌≡◌ {A = ℕ} 0 1 = cc in omega arith)
same_list (S.One a) (S.Three p q r) h = absurd (let z : ◌≡◌ {A = ℕ} 0 1 = cc in omega arith)
same_list (S.Two a b) (S.One p) h = absurd (let z : ◌≡◌ {A = ℕ} 0 1 = cc in omega arith)
same_list (S.Two a b) (S.Two p q) h = let e : a ≡ p = cc in let f : b ≡ q = cc in ap₂ S.Two e f
same_list (S.Two a b) (S.Three p q r) h = absurd (let z : ◌≡◌ {A = ℕ} 0 1 = cc in omega arith)
same_list (S.Three a b c) (S.One p) h = absurd (let z : ◌≡◌ {A = ℕ} 0 1 = cc in omega arith)
same_list (S.Three a b c) (S.Two p q) h = absurd (let z : ◌≡◌ {A = ℕ} 0 1 = cc in omega arith)
same_list (S.Three a b c) (S.Three p q r) h = let e : a ≡ p = cc in let f : b ≡ q = cc in let g : c ≡ r = cc in ap₂ (λ a b. S.Three a b c) e f ∙ ap (S.Three p q) g

pub same_listed : (a b : Result Shortlist Fault) → as_listed a ≡ as_listed b → a ≡ b
same_listed (Ok a) (Ok b) h = ap Ok (same_list a b h)
same_listed (Ok a) (Err g) h = absurd (not_refused a (number_of g) h)
same_listed (Err f) (Ok b) h = absurd (not_refused b (number_of f) (sym h))
same_listed (Err f) (Err g) h = ap Err (same_number f g cc)

pub same_so_far : (a b : Option Shortlist) → so_far a ≡ so_far b → a ≡ b
same_so_far None None h = refl
same_so_far None (Some b) h = absurd (not_refused b 30 (sym h))
same_so_far (Some a) None h = absurd (not_refused a 30 h)
same_so_far (Some a) (Some b) h = ap Some (same_list a b h)
