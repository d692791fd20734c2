-- Each number that announces a vehicle has one meaning, and each meaning one number. Assumes nothing.
use Prim.Native.Nat.{ℕ, ◌+◌, ◌-◌, ◌≤◌, ◌<◌}
use mathlib.Core.Path.{◌≡◌, refl}
use mathlib.Core.Bool.{Bool, true, false, ◌||◌}
use native.Mathlib.Omega.{arith}
use lib.Dec.{leb}
use borrow.Author.Tests.{le-leb, lt-leb}
use Rattle.std.proofs.lemmas.Bool.{or_right}
use Rattle.job.specs.Allowed.{between, unit_count_allowed}
use Rattle.job.specs.Announced.{announces, announced_form, announced_count, announcing}
use Rattle.job.proofs.FieldLaws.{range, inside}
use Rattle.job.specs.declared.Form.{Form}
use Rattle.job.specs.declared.Form.TheVariants.{Short, Long}

either : {P : Type 0} (a b : Bool) → (a || b) ≡ true → (a ≡ true → P) → (b ≡ true → P) → P
either true b t f g = f refl
either false b t f g = g t

-- n announces so many units of this form, and nothing else
pub record Announced (f : Form) (k n : ℕ) : Type 0 where
  pub allowed : announces n ≡ true
  pub form : announced_form n ≡ f
  pub count : announced_count n ≡ k

-- what the writer announces is what the reader takes it for
pub announced : (f : Form) (k : ℕ) → unit_count_allowed k ≡ true → Announced f k (announcing f k)
announced Short k t =
    let r = range 1 4 k t in
    record { allowed = rw t; form = rw (le-leb k 4 r.1); count = rw (le-leb k 4 r.1) }
announced Long k t =
    let r = range 1 4 k t in
    let high : leb (k + 10) 4 ≡ false = lt-leb (k + 10) 4 (omega arith) in
    let long : between 11 14 (k + 10) ≡ true = inside 11 14 (k + 10) (omega arith) (omega arith) in
    record { allowed = or_right (between 1 4 (k + 10)) _ long; form = rw high; count = rw high (omega arith) }

-- and what the reader takes is announced by that number alone
pub announced_by : (n : ℕ) → announces n ≡ true → (unit_count_allowed (announced_count n) ≡ true) × (announcing (announced_form n) (announced_count n) ≡ n)
announced_by n t = either (between 1 4 n) (between 11 14 n) t
    (λ s.
    let low = le-leb n 4 (range 1 4 n s).1 in
    rw low (s, refl))
    (λ l.
    let r = range 11 14 n l in
    let high = lt-leb n 4 (omega arith) in
    let k : between 1 4 (n - 10) ≡ true = inside 1 4 (n - 10) (omega arith) (omega arith) in
    rw high (k, omega arith))

-- where it is no short job's it has the 10 to take away, and it is at most 14
pub announced_least : (n : ℕ) → announces n ≡ true → 4 < n → 10 ≤ n
announced_least n t h = either (between 1 4 n) (between 11 14 n) t (λ s. omega (arith, (range 1 4 n s).1)) (λ l. omega (arith, (range 11 14 n l).0))

pub announced_most : (n : ℕ) → announces n ≡ true → n ≤ 14
announced_most n t = either (between 1 4 n) (between 11 14 n) t (λ s. omega (arith, (range 1 4 n s).1)) (λ l. (range 11 14 n l).1)
