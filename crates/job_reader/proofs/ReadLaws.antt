-- What a field or an element that was read meets, and what an element adds to the total of steps. Assumes nothing.
use Prim.Native.Nat.{ℕ, ◌+◌, ◌≤◌}
use mathlib.Core.Path.{◌≡◌, refl, sym, ◌∙◌, ap}
use mathlib.Core.List.{List}
use mathlib.Core.Bool.{Bool, true}
use lib.IntN.{ℤ}
use Rattle.std.proofs.lemmas.Bool.{and_parts, and_from}
use Rattle.number.specs.Read.{got, and_then, unless, return}
use Rattle.number.specs.Number.{read_number}
use Rattle.number.specs.Field.{within, field, signed_number, signed_field}
use lib.Dec.{leb}
use borrow.Author.Tests.{leb-true}
use Rattle.number.proofs.Codec.{first, chosen}
use Rattle.job.specs.Allowed.{length_allowed, element_allowed}
use Rattle.job.specs.Curves.{curve_of, radius_allowed}
use Rattle.job.specs.Steps.{tally}
use Rattle.job.specs.declared.Element.{Element}
use Rattle.job.proofs.StepLaws.{tally_most}
use Rattle.number.specs.declared.Range.{Range}
use Rattle.job_reader.specs.Record.{read_element}

-- a field that was read meets its test
pub field_allowed : (n : ℕ) (allowed : ℕ → Bool) (s : List ℕ) (at v e : ℕ) → field n allowed s at ≡ got v e → allowed v ≡ true
unfolding field
field_allowed n allowed s at v e h =
    let f = first (read_number s at) (λ a x. unless (allowed a) n at (return a) s x) v e h in
    let m = chosen (allowed f.value) refl f.value f.next n at v e f.then in
    ap allowed (sym m.1) ∙ m.0

pub signed_allowed : (n : ℕ) (allowed : ℤ → Bool) (s : List ℕ) (at : ℕ) (z : ℤ) (e : ℕ) → signed_field n allowed s at ≡ got z e → allowed z ≡ true
unfolding signed_field
signed_allowed n allowed s at z e h =
    let f = first (signed_number s at) (λ a x. unless (allowed a) n at (return a) s x) z e h in
    let m = chosen (allowed f.value) refl f.value f.next n at z e f.then in
    ap allowed (sym m.1) ∙ m.0

pub element_allowed_lem : (s : List ℕ) (at : ℕ) (x : Element) (e : ℕ) → read_element s at ≡ got x e → element_allowed x ≡ true
unfolding read_element
element_allowed_lem s at x e h =
    let f = first (field 8 length_allowed s at) (λ l y. and_then (signed_field 8 radius_allowed s y) (λ r z. got (record { length = l; curve = curve_of r }) z)) x e h in
    let g = first (signed_field 8 radius_allowed s f.next) (λ r z. got (record { length = f.value; curve = curve_of r }) z) x e f.then in
    let l : length_allowed f.value ≡ true = field_allowed 8 length_allowed s at f.value f.next f.reads in
    let r : radius_allowed g.value ≡ true = signed_allowed 8 radius_allowed s f.next g.value g.next g.reads in
    let m : ◌≡◌ {A = Element} (record { length = f.value; curve = curve_of g.value }) x = cc in
    ap element_allowed (sym m) ∙ and_from _ _ l r

pub tally_read : (step total : ℕ) (s : List ℕ) (at : ℕ) (x : Element) (e : ℕ) → read_element s at ≡ got x e → tally step total x ≤ total + 40000001
tally_read step total s at x e h = tally_most step total x (element_allowed_lem s at x e h)

-- a field in a range that was read lies in it
pub field_within : (n : ℕ) (r : Range) (s : List ℕ) (at v e : ℕ) → got v e ≡ field n (within r) s at → (r.least ≤ v) × (v ≤ r.most)
field_within n r s at v e h =
    let b = and_parts (leb r.least v) (leb v r.most) (field_allowed n (within r) s at v e (sym h)) in
    (leb-true r.least v b.0, leb-true v r.most b.1)
