-- No move inside the bounds touches a segment beyond them.
use Prim.Native.Nat.{ℕ, ◌+◌, ◌<◌, ◌^◌}
use mathlib.Core.Path.{◌≡◌, refl}
use mathlib.Core.Bool.{true, false}
use mathlib.Core.List.{List}
use borrow.Author.Count.{below_more}
use lib.ListN.{length, get_or}
use lib.IntN.{ℤ}
use lib.Signed.{◌≤ℤ◌, ◌<ℤ◌, lt_z, lt_z_yes, mag}
use Rattle.std.proofs.lemmas.Bool.{and_parts}
use Rattle.exact.proofs.Order.{of_true}
use Rattle.exact.proofs.Machine.{reread, reread_result}
use Rattle.plane.specs.declared.Vec2.{Vec2}
use Rattle.touching.specs.Touch.{touches}
use Rattle.touching.proofs.Shadows.{some_of}
use Rattle.touching.proofs.Apart.{apart_x, apart_y, second_below, second_above}
use Rattle.kerb_line.specs.declared.bounds.Bounds.{Bounds}
use Rattle.kerb_line.specs.Kerb.{origin}
use Rattle.kerb_line.specs.Inner.{Inside, TakesIn, TakesAllIn, Enclosed, beyond}

-- a number at most two others, and one at least them, read again from their bits
module _ {r a b : ℤ} (ok : mag r < 2 ^ 63) (p : reread a ≡ a) (q : reread b ≡ b) where
  pub least_of : r ≤ℤ reread a → r ≤ℤ reread b → (reread r ≤ℤ a) × (reread r ≤ℤ b)
  least_of h k = rw (reread_result ok refl) (rw p at h, rw q at k)

  pub most_of : reread a ≤ℤ r → reread b ≤ℤ r → (a ≤ℤ reread r) × (b ≤ℤ reread r)
  most_of h k = rw (reread_result ok refl) (rw p at h, rw q at k)

-- bounds that were widened by one more place, and by two lists of them
pub around_more : {b c d : Bounds} {places : List Vec2} {n : ℕ} → TakesAllIn b places n c → TakesIn c (get_or places n origin) d → TakesAllIn b places (n + 1) d
around_more {b} {c} {d} {places} {n} f g = record { kept = λ u i. g.kept u (f.kept u i); taken = below_more (λ p. Inside d (get_or places p origin)) n (λ p h. g.kept _ (f.taken p h)) g.taken }

pub enclosed_by : {a b c : Bounds} {olds news : List Vec2} → TakesAllIn a olds (length olds) b → TakesAllIn b news (length news) c → Enclosed c olds news
enclosed_by f g = record { old = λ p h. g.kept _ (f.taken p h); new = g.taken }

-- a segment wholly to one side
pub none_beyond : (b : Bounds) (v w : Vec2) → beyond b v w ≡ true → (old new : Vec2) → Inside b old → Inside b new → touches old new v w ≡ false
unfolding beyond
none_beyond b v w e old new i j =
    some_of _ _ _ _ e
    (λ h. let k = and_parts (lt_z v.x b.west) (lt_z w.x b.west) h in apart_x old new v w (second_below (less k.0) (less k.1) i.west j.west))
    (λ h. let k = and_parts (lt_z b.east v.x) (lt_z b.east w.x) h in apart_x old new v w (second_above (less k.0) (less k.1) i.east j.east))
    (λ h. let k = and_parts (lt_z v.y b.south) (lt_z w.y b.south) h in apart_y old new v w (second_below (less k.0) (less k.1) i.south j.south))
    (λ h. let k = and_parts (lt_z b.north v.y) (lt_z b.north w.y) h in apart_y old new v w (second_above (less k.0) (less k.1) i.north j.north))
  where
    less : {x y : ℤ} → lt_z x y ≡ true → x <ℤ y
    less h = lt_z_yes (of_true h)
