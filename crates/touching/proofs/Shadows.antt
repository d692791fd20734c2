-- Two segments on a line, from a to b and from c to d: neither lies beyond the other exactly where they share a point.
use mathlib.Core.Path.{◌≡◌, refl, sym}
use mathlib.Core.List.{List, [], ◌∷◌}
use mathlib.Core.Bool.{Bool, true, false, ◌||◌}
use mathlib.Core.Logic.{⊎_elim}
use Prim.Native.Nat.{ℕ, zero-le}
use lib.Dec.{T, leb}
use lib.IntN.{ℤ, pos, ◌+ℤ◌, ◌-ℤ◌, ◌*ℤ◌}
use lib.Signed.{◌≤ℤ◌, le_z, le_z_yes}
use Rattle.std.proofs.lemmas.Bool.{and_parts}
use Rattle.exact.proofs.Polynomial.{Expr, ◌⊕◌, ◌⊖◌, ◌⊗◌, lit, var, eval, ring, SamePoly}
use Rattle.exact.proofs.Order.{≤ℤ-antisym, total, le_z_true, le_z_false, pos-≤}
use Rattle.exact.proofs.Certificate.{NonNeg, ◌⊞◌, ◌⊠◌, ◌·◌, hyp, eqn, le, never}
use Rattle.touching.specs.Touch.{some_at_most, ranges_meet, Part, Fractions}

-- one of four tests holds, or none does
pub some_of : {X : Type 0} (s t u v : Bool) → (s || t || u || v) ≡ true → (s ≡ true → X) → (t ≡ true → X) → (u ≡ true → X) → (v ≡ true → X) → X
some_of true t u v e f g h k = f refl
some_of false true u v e f g h k = g refl
some_of false false true v e f g h k = h refl
some_of false false false v e f g h k = k e

unless_none : (s t u v : Bool) → (s ≡ false → t ≡ false → u ≡ false → v ≡ false → ⊥) → (s || t || u || v) ≡ true
unless_none true t u v f = refl
unless_none false true u v f = refl
unless_none false false true v f = refl
unless_none false false false true f = refl
unless_none false false false false f = absurd (f refl refl refl refl)

-- n times the point that is p/n of the way from a to b
abbrev pub point : ℤ → ℤ → ℤ → ℤ → ℤ
point a b n p = a *ℤ n +ℤ (b -ℤ a) *ℤ p

abbrev pub point_e : Expr → Expr → Expr → Expr → Expr
point_e a b n p = a ⊗ n ⊕ (b ⊖ a) ⊗ p

pub record Shared (a b c d : ℤ) : Type 0 where
  pub at : Fractions
  pub same : point a b at.n at.p ≡ point c d at.n at.q

abbrev A : Expr
A = var 0

abbrev B : Expr
B = var 1

abbrev C : Expr
C = var 2

abbrev D : Expr
D = var 3

-- an end that is not at most another lies beyond it
beyond : (p q : ℤ) → le_z p q ≡ false → (q +ℤ pos 1) ≤ℤ p
beyond = le_z_false

-- were the first beyond the second, then so would every point of it be, as a mean of its ends
some_at_most_lem : (a b c d : ℤ) (f : Fractions) → point a b f.n f.p ≡ point c d f.n f.q → some_at_most a b c d ≡ true
some_at_most_lem a b c d f e = unless_none _ _ _ _ λ ac ad bc bd.
    let ρ : List ℤ = a ∷ b ∷ c ∷ d ∷ f.n ∷ f.p ∷ f.q ∷ [] in
    let N1 = hyp {ρ = ρ} (lit 1) (var 4) f.divisor in
    let P0 = hyp {ρ = ρ} (lit 0) (var 5) f.first.least in
    let P1 = hyp {ρ = ρ} (var 5) (var 4) f.first.most in
    let Q0 = hyp {ρ = ρ} (lit 0) (var 6) f.second.least in
    let Q1 = hyp {ρ = ρ} (var 6) (var 4) f.second.most in
    never 0
    (P1 ⊠ Q1 ⊠ hyp (C ⊕ lit 1) A (beyond a c ac) ⊞ P1 ⊠ Q0 ⊠ hyp (D ⊕ lit 1) A (beyond a d ad)
    ⊞ P0 ⊠ Q1 ⊠ hyp (C ⊕ lit 1) B (beyond b c bc) ⊞ P0 ⊠ Q0 ⊠ hyp (D ⊕ lit 1) B (beyond b d bd)
    ⊞ eqn (point_e A B (var 4) (var 5)) (point_e C D (var 4) (var 6)) (var 4) e ⊞ N1 ⊠ N1 ⊞ 2 · N1) tt

pub ranges_meet_lem : (a b c d : ℤ) (f : Fractions) → point a b f.n f.p ≡ point c d f.n f.q → ranges_meet a b c d ≡ true
unfolding ranges_meet
ranges_meet_lem a b c d f e =
    let exchanged : Fractions = record { n = f.n; p = f.q; q = f.p; divisor = f.divisor; first = f.second; second = f.first } in
    rw (some_at_most_lem a b c d f e, some_at_most_lem c d a b exchanged (sym e))

-- an end of the first that is at most an end of the second
record Ordered (a b c d : ℤ) : Type 0 where
  p : ℤ
  q : ℤ
  first : Part p (pos 1)
  second : Part q (pos 1)
  order : point a b (pos 1) p ≤ℤ point c d (pos 1) q

module _ (a b c d : ℤ) where
  abbrev ρ : List ℤ
  ρ = a ∷ b ∷ c ∷ d ∷ []

  ends : (p q : ℕ) (e f : Expr) → T (leb p 1) → T (leb q 1) → SamePoly (point_e C D (lit 1) (lit q)) (point_e A B (lit 1) (lit p) ⊕ (f ⊖ e))
      → le_z (eval e ρ) (eval f ρ) ≡ true → Ordered a b c d
  ends p q e f s t k h =
      record {
        p = pos p;
        q = pos q;
        first = record { least = pos-≤ zero-le; most = le_z_yes s };
        second = record { least = pos-≤ zero-le; most = le_z_yes t };
        order = le {ρ = ρ} (point_e A B (lit 1) (lit p)) (point_e C D (lit 1) (lit q)) (hyp e f (le_z_true h)) k;
      }

  ordered : some_at_most a b c d ≡ true → Ordered a b c d
  ordered h = some_of _ _ _ _ h (ends 0 0 A C tt tt tt) (ends 0 1 A D tt tt tt) (ends 1 0 B C tt tt tt) (ends 1 1 B D tt tt tt)

-- a mean of two parts, with the weights s and t
part_mean : {s t p q : ℤ} → pos 0 ≤ℤ s → pos 0 ≤ℤ t → Part p (pos 1) → Part q (pos 1) → Part (s *ℤ p +ℤ t *ℤ q) (s +ℤ t)
part_mean {s} {t} {p} {q} s0 t0 i j =
    let ρ : List ℤ = s ∷ t ∷ p ∷ q ∷ [] in
    let S = hyp {ρ = ρ} (lit 0) (var 0) s0 in
    let U = hyp {ρ = ρ} (lit 0) (var 1) t0 in
    record {
      least = le {ρ = ρ} (lit 0) (var 0 ⊗ var 2 ⊕ var 1 ⊗ var 3) (S ⊠ hyp (lit 0) (var 2) i.least ⊞ U ⊠ hyp (lit 0) (var 3) j.least) tt;
      most = le {ρ = ρ} (var 0 ⊗ var 2 ⊕ var 1 ⊗ var 3) (var 0 ⊕ var 1) (S ⊠ hyp (var 2) (lit 1) i.most ⊞ U ⊠ hyp (var 3) (lit 1) j.most) tt;
    }

-- from two ends where the first is not beyond the second to two where the second is not beyond the first: on the way both are at one place
module _ (a b c d : ℤ) (r : Ordered a b c d) (s : Ordered c d a b) where
  abbrev ρ₂ : List ℤ
  ρ₂ = a ∷ b ∷ c ∷ d ∷ r.p ∷ r.q ∷ s.q ∷ s.p ∷ []

  abbrev UP : Expr
  UP = point_e C D (lit 1) (var 5) ⊖ point_e A B (lit 1) (var 4)

  abbrev DOWN : Expr
  DOWN = point_e A B (lit 1) (var 6) ⊖ point_e C D (lit 1) (var 7)

  up : NonNeg ρ₂ UP
  up = hyp (point_e A B (lit 1) (var 4)) (point_e C D (lit 1) (var 5)) r.order

  down : NonNeg ρ₂ DOWN
  down = hyp (point_e C D (lit 1) (var 7)) (point_e A B (lit 1) (var 6)) s.order

  level : eval UP ρ₂ ≤ℤ pos 0 → Shared a b c d
  level z =
      record {
        at = record { n = pos 1; p = r.p; q = r.q; divisor = le_z_yes tt; first = r.first; second = r.second };
        same = ≤ℤ-antisym r.order (le {ρ = ρ₂} (point_e C D (lit 1) (var 5)) (point_e A B (lit 1) (var 4)) (hyp UP (lit 0) z) tt);
      }

  apart : pos 1 ≤ℤ eval UP ρ₂ → Shared a b c d
  apart z =
      record {
        at = record {
          n = eval (DOWN ⊕ UP) ρ₂;
          p = eval (DOWN ⊗ var 4 ⊕ UP ⊗ var 6) ρ₂;
          q = eval (DOWN ⊗ var 5 ⊕ UP ⊗ var 7) ρ₂;
          divisor = le {ρ = ρ₂} (lit 1) (DOWN ⊕ UP) (hyp (lit 1) UP z ⊞ down) tt;
          first = part_mean down.nonneg up.nonneg r.first s.second;
          second = part_mean down.nonneg up.nonneg r.second s.first;
        };
        same = ring ρ₂ (point_e A B (DOWN ⊕ UP) (DOWN ⊗ var 4 ⊕ UP ⊗ var 6)) (point_e C D (DOWN ⊕ UP) (DOWN ⊗ var 5 ⊕ UP ⊗ var 7)) tt;
      }

pub shared : (a b c d : ℤ) → ranges_meet a b c d ≡ true → Shared a b c d
unfolding ranges_meet
shared a b c d e =
    let h = and_parts (some_at_most a b c d) (some_at_most c d a b) e in
    let r = ordered a b c d h.0 in
    let s = ordered c d a b h.1 in
    ⊎_elim (level a b c d r s) (apart a b c d r s) (total _ (pos 0))
