-- What a first number announces, and what its reading tells. Assumes nothing.
use Prim.Native.Nat.{ℕ, ◌+◌, ◌-◌, ◌≤◌}
use mathlib.Core.Path.{◌≡◌, refl, sym, ◌∙◌, ap, subst}
use mathlib.Core.List.{List}
use mathlib.Core.Bool.{Bool, true, false, ◌&&◌}
use native.Mathlib.Omega.{arith}
use lib.Dec.{leb}
use borrow.Author.Tests.{leb-true}
use Rattle.number.specs.Read.{Read, got, refused, and_then}
use Rattle.number.specs.Field.{field}
use Rattle.number.proofs.Codec.{first}
use Rattle.job.specs.Allowed.{between}
use Rattle.job.specs.Announced.{announces, announced_form, announced_count}
use Rattle.job.specs.declared.Form.{Form}
use Rattle.job.specs.declared.Form.TheVariants.{Short, Long}
use Rattle.job.proofs.FieldLaws.{range, inside}
use Rattle.job.proofs.AnnouncedLaws.{Announced, announced, announced_by}
use Rattle.job_reader.specs.Inner.{read_announced}
use Rattle.job_reader.proofs.ReadLaws.{field_allowed}

pub short : (n : ℕ) → 1 ≤ n → n ≤ 4 → Announced Short n n
short n a b = announced Short n (inside 1 4 n a b)

pub long : (n : ℕ) → 11 ≤ n → n ≤ 14 → Announced Long (n - 10) n
long n a b =
    let e : n - 10 + 10 ≡ n = omega arith in
    subst (Announced Long (n - 10)) e (announced Long (n - 10) (inside 1 4 (n - 10) (omega arith) (omega arith)))

outside : (a b n : ℕ) → (a ≤ n → n ≤ b → ⊥) → between a b n ≡ false
outside a b n h = by (leb a n) (leb n b) refl refl
  where
    by : (t u : Bool) → leb a n ≡ t → leb n b ≡ u → (t && u) ≡ false
    by true true p q = absurd (h (leb-true a n p) (leb-true n b q))
    by true false p q = refl
    by false u p q = refl

pub nothing : (n : ℕ) → (1 ≤ n → n ≤ 4 → ⊥) → (11 ≤ n → n ≤ 14 → ⊥) → announces n ≡ false
nothing n h k = rw (outside 1 4 n h, outside 11 14 n k)

-- the number that was read, and what it means
pub record FirstRead (s : List ℕ) (at : ℕ) (form : Form) (count e : ℕ) : Type 0 where
  pub n : ℕ
  pub reads : got n e ≡ field 3 announces s at
  pub meaning : Announced form count n
  pub most : count ≤ 4

pub first_read : (s : List ℕ) (at : ℕ) (form : Form) (count e : ℕ) → got (form, count) e ≡ read_announced s at → FirstRead s at form count e
first_read s at form count e h =
    let q = first (field 3 announces s at) (λ n x. got (announced_form n, announced_count n) x) (form, count) e (sym h) in
    let z : q.next ≡ e = cc in
    let p : ◌≡◌ {A = Form × ℕ} (announced_form q.value, announced_count q.value) (form, count) = cc in
    let f = ap (λ (x : Form × ℕ). x.0) p in
    let c = ap (λ (x : Form × ℕ). x.1) p in
    let a = field_allowed 3 announces s at q.value q.next q.reads in
    let m = (range 1 4 (announced_count q.value) (announced_by q.value a).0).1 in
    record {
      n = q.value;
      reads = ap (got q.value) (sym z) ∙ sym q.reads;
      meaning = record { allowed = a; form = f; count = c };
      most = omega (arith, c, m);
    }

-- what follows a first number that was read
abbrev meant : Read ℕ → Read (Form × ℕ)
meant x = and_then x (λ n e. got (announced_form n, announced_count n) e)

pub first_refused : (s : List ℕ) (at m p : ℕ) → refused m p ≡ read_announced s at → refused m p ≡ field 3 announces s at
first_refused s at m p h = by (field 3 announces s at) h
  where
    by : (x : Read ℕ) → refused m p ≡ meant x → refused m p ≡ x
    by (got n e) q = absurd (let z : ◌≡◌ {A = ℕ} 0 1 = cc in omega arith)
    by (refused k b) q = cc
