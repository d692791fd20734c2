-- The tests of a call, one after the other, against what they come to.
use Prim.Native.Nat.{ℕ, ◌+◌}
use mathlib.Core.Path.{◌≡◌, refl, sym}
use mathlib.Core.Bool.{Bool, true, false, ◌&&◌}
use native.Mathlib.Omega.{arith}
use lib.Dec.{leb}
use Rattle.number.specs.Read.{pick}
use Rattle.job.specs.declared.Vehicle.{Vehicle}
use Rattle.job.specs.Faults.{first_of}
use Rattle.walk.specs.Drawn.{Drawn, Call}
use Rattle.walk.specs.Tests.{path_lent, reaches_lent, lent, path_sound, vehicle_sound, record_sound, at_last}
use Rattle.walk.specs.Rig.{Stepped, turning_of, after_turning, turned_down, draw_step}
use Rattle.stations.specs.Placing.{place_refusal}
use Rattle.stations.specs.Inner.{call_refusal, vehicle_refusal, record_refusal, Open}

module _ (c : Call) where
  pub lent_by : (a b t : Bool) → a ≡ path_lent c.asked c.path → b ≡ reaches_lent c.asked c.reaches → a && b ≡ t → lent c ≡ t
  unfolding lent
  lent_by a b t p q e = rw (sym p, sym q) e

  pub not_lent : lent c ≡ false → 21 ≡ call_refusal c
  unfolding call_refusal
  not_lent e = rw e refl

  pub not_sound : lent c ≡ true → path_sound c.asked c.path ≡ false → 26 ≡ call_refusal c
  unfolding call_refusal
  not_sound e f = rw (e, f) refl

  pub passed : lent c ≡ true → path_sound c.asked c.path ≡ true → 0 ≡ call_refusal c
  unfolding call_refusal
  passed e f = rw (e, f) refl

  pub record Passed : Type 0 where
    pub lent : lent c ≡ true
    pub path : path_sound c.asked c.path ≡ true

  by_tests : (a b : Bool) → ◌≡◌ {A = ℕ} (pick a (pick b 0 26) 21) 0 → (a ≡ true) × (b ≡ true)
  by_tests false b e = absurd (omega arith)
  by_tests true false e = absurd (omega arith)
  by_tests true true e = (refl, refl)

  pub call_passed : 0 ≡ call_refusal c → Passed
  unfolding call_refusal
  call_passed e = let t = by_tests (lent c) (path_sound c.asked c.path) (sym e) in record { lent = t.0; path = t.1 }

module _ (asked : ℕ) (s : Drawn) where
  pub at_end : record_sound asked s ≡ true → at_last asked s ≡ true → 25 ≡ record_refusal asked s
  unfolding record_refusal
  at_end e f = rw (e, f) refl

  pub ready : record_sound asked s ≡ true → at_last asked s ≡ false → 0 ≡ record_refusal asked s
  unfolding record_refusal
  ready e f = rw (e, f) refl

  pub unsound : record_sound asked s ≡ false → 27 ≡ record_refusal asked s
  unfolding record_refusal
  unsound e = rw e refl

  pub last_is : at_last asked s ≡ leb asked (s.station + 1)
  unfolding at_last
  last_is = refl

-- placing: the call's tests, then the vehicle's
module _ (v : Vehicle) (c : Call) where
  both_tests : (a b : Bool) (own : ℕ) → pick a (pick b own 26) 21 ≡ first_of (pick a (pick b 0 26) 21) own
  both_tests false b own = refl
  both_tests true false own = refl
  both_tests true true own = refl

  pub place_refusal_lem : place_refusal v c ≡ first_of (call_refusal c) (vehicle_refusal v)
  unfolding place_refusal call_refusal vehicle_refusal
  place_refusal_lem = both_tests (lent c) (path_sound c.asked c.path) (pick (vehicle_sound v) 0 27)

  by_call : (a b : Bool) (own n : ℕ) → n ≡ pick a (pick b 0 26) 21 → (n ≡ 0 → ⊥) → pick a (pick b own 26) 21 ≡ n
  by_call false b own n e h = sym e
  by_call true false own n e h = sym e
  by_call true true own n e h = absurd (h e)

  pub place_by_call : (n : ℕ) → n ≡ call_refusal c → (n ≡ 0 → ⊥) → place_refusal v c ≡ n
  unfolding place_refusal call_refusal
  place_by_call n e h = by_call (lent c) (path_sound c.asked c.path) (pick (vehicle_sound v) 0 27) n e h

  pub place_by_vehicle : 0 ≡ call_refusal c → place_refusal v c ≡ vehicle_refusal v
  unfolding place_refusal vehicle_refusal
  place_by_vehicle e = let p = call_passed c e in rw (p.lent, p.path) refl

module _ (v : Vehicle) where
  pub vehicle_ready : vehicle_sound v ≡ true → 0 ≡ vehicle_refusal v
  unfolding vehicle_refusal
  vehicle_ready e = rw e refl

  pub vehicle_unsound : vehicle_sound v ≡ false → 27 ≡ vehicle_refusal v
  unfolding vehicle_refusal
  vehicle_unsound e = rw e refl

  vehicle_by : (a : Bool) → ◌≡◌ {A = ℕ} (pick a 0 27) 0 → a ≡ true
  vehicle_by true e = refl
  vehicle_by false e = absurd (omega arith)

  pub vehicle_passed : 0 ≡ vehicle_refusal v → vehicle_sound v ≡ true
  unfolding vehicle_refusal
  vehicle_passed e = vehicle_by (vehicle_sound v) (sym e)

-- stepping
module _ (s : Drawn) (c : Call) where
  record_by : (r l : Bool) → ◌≡◌ {A = ℕ} (pick r (pick l 25 0) 27) 0 → (r ≡ true) × (l ≡ false)
  record_by false l e = absurd (omega arith)
  record_by true true e = absurd (omega arith)
  record_by true false e = (refl, refl)

  pub call_open : 0 ≡ call_refusal c → 0 ≡ record_refusal c.asked s → Open s c
  unfolding record_refusal
  call_open e f =
      let t = record_by (record_sound c.asked s) (at_last c.asked s) (sym f) in
      let p = call_passed c e in
      record { lent = p.lent; path = p.path; rig = t.0; not_last = t.1 }

  pub step_open : Open s c → draw_step s c ≡ after_turning s (turning_of s c)
  unfolding draw_step
  step_open o = rw (o.lent, o.path, o.rig, o.not_last) refl

  down_by : (a b : Bool) (n : ℕ) (x : Stepped) → n ≡ pick a (pick b 0 26) 21 → (n ≡ 0 → ⊥) → pick a (pick b x (turned_down s 26)) (turned_down s 21) ≡ turned_down s n
  down_by false b n x e h = rw e refl
  down_by true false n x e h = rw e refl
  down_by true true n x e h = absurd (h e)

  pub call_down : (n : ℕ) → n ≡ call_refusal c → (n ≡ 0 → ⊥) → draw_step s c ≡ turned_down s n
  unfolding draw_step call_refusal
  call_down n e h = down_by (lent c) (path_sound c.asked c.path) n _ e h

  record_down_by : (r l : Bool) (n : ℕ) (x : Stepped) → n ≡ pick r (pick l 25 0) 27 → (n ≡ 0 → ⊥) → pick r (pick l (turned_down s 25) x) (turned_down s 27) ≡ turned_down s n
  record_down_by false l n x e h = rw e refl
  record_down_by true true n x e h = rw e refl
  record_down_by true false n x e h = absurd (h e)

  pub record_down : 0 ≡ call_refusal c → (n : ℕ) → n ≡ record_refusal c.asked s → (n ≡ 0 → ⊥) → draw_step s c ≡ turned_down s n
  unfolding draw_step record_refusal
  record_down z n e h = let p = call_passed c z in rw (p.lent, p.path) (record_down_by (record_sound c.asked s) (at_last c.asked s) n _ e h)

  refused_by : (a b r l : Bool) (n : ℕ) (x : Stepped) → first_of (pick a (pick b 0 26) 21) (pick r (pick l 25 0) 27) ≡ n → (n ≡ 0 → ⊥)
      → pick a (pick b (pick r (pick l (turned_down s 25) x) (turned_down s 27)) (turned_down s 26)) (turned_down s 21) ≡ turned_down s n
  refused_by false b r l n x e h = rw (sym e) refl
  refused_by true false r l n x e h = rw (sym e) refl
  refused_by true true r l n x e h = record_down_by r l n x (sym e) h

  pub refused_draw : (n : ℕ) → first_of (call_refusal c) (record_refusal c.asked s) ≡ n → (n ≡ 0 → ⊥) → draw_step s c ≡ turned_down s n
  unfolding draw_step call_refusal record_refusal
  refused_draw n e h = refused_by (lent c) (path_sound c.asked c.path) (record_sound c.asked s) (at_last c.asked s) n _ e h
