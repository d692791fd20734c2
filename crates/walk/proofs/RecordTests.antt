-- What the tests of a call say together: the lent runs (21), the record (27) and the last station (25). Assumes nothing.
use Prim.Native.Nat.{ℕ, ◌+◌, ◌≤◌, ◌<◌}
use mathlib.Core.Path.{◌≡◌}
use mathlib.Core.Bool.{true, false, ◌&&◌}
use borrow.Author.Tests.{leb-true, leb-false, ltb-true}
use lib.Dec.{leb, ltb}
use Rattle.std.proofs.lemmas.Bool.{and_parts}
use Rattle.job.specs.Allowed.{between}
use Rattle.path.specs.Laying.{PathRuns, room_for}
use Rattle.walk.specs.Drawn.{Drawn, Lengths, Call}
use Rattle.walk.specs.Tests.{path_lent, reaches_lent, lent, vehicle_sound, vectors_sound, units_in_use, record_sound, at_last}

-- a path that was lent
pub record LentPath (asked : ℕ) (p : PathRuns) : Type 0 where
  pub least : 1 ≤ asked
  pub most : asked ≤ 2001
  pub room : room_for asked p ≡ true

pub lent_path : (asked : ℕ) (p : PathRuns) → path_lent asked p ≡ true → LentPath asked p
lent_path asked p e =
    let a = and_parts (between 1 2001 asked) (room_for asked p) e in
    let b = and_parts (leb 1 asked) (leb asked 2001) a.0 in
    record { least = leb-true 1 asked b.0; most = leb-true asked 2001 b.1; room = a.1 }

-- the other three runs
pub record LentReaches (asked : ℕ) (l : Lengths) : Type 0 where
  pub left : asked ≤ l.left
  pub right : asked ≤ l.right
  pub marks : asked ≤ l.marks

pub lent_reaches : (asked : ℕ) (l : Lengths) → reaches_lent asked l ≡ true → LentReaches asked l
lent_reaches asked l e =
    let a = and_parts (leb asked l.left) (leb asked l.right && leb asked l.marks) e in
    let b = and_parts (leb asked l.right) (leb asked l.marks) a.1 in
    record { left = leb-true asked l.left a.0; right = leb-true asked l.right b.0; marks = leb-true asked l.marks b.1 }

pub lent_call : (c : Call) → lent c ≡ true → LentPath c.asked c.path × LentReaches c.asked c.reaches
unfolding lent
lent_call c e =
    let a = and_parts (path_lent c.asked c.path) (reaches_lent c.asked c.reaches) e in
    (lent_path c.asked c.path a.0, lent_reaches c.asked c.reaches a.1)

-- a sound record
pub record SoundRecord (asked : ℕ) (s : Drawn) : Type 0 where
  pub vehicle : vehicle_sound s.vehicle ≡ true
  pub station : s.station < asked
  pub vectors : vectors_sound (units_in_use s.vehicle) s.vectors ≡ true

pub sound_record : (asked : ℕ) (s : Drawn) → record_sound asked s ≡ true → SoundRecord asked s
unfolding record_sound
sound_record asked s e =
    let k = ltb s.station asked in
    let d = vectors_sound (units_in_use s.vehicle) s.vectors in
    let a = and_parts (vehicle_sound s.vehicle) (k && d) e in
    let b = and_parts k d a.1 in
    record { vehicle = a.0; station = ltb-true s.station asked b.0; vectors = b.1 }

-- a station that is not the last has one after it
pub not_last_lem : (asked : ℕ) (s : Drawn) → at_last asked s ≡ false → s.station + 1 < asked
unfolding at_last
not_last_lem asked s e = leb-false asked (s.station + 1) e
