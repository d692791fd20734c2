-- The units turned one after the other: what is left to turn, after what is turned, is the whole.
use Prim.Native.Nat.{ℕ, ◌+◌, ◌*◌, ◌≤◌, ◌<◌}
use mathlib.Core.Path.{◌≡◌, refl, sym, ◌∙◌, ap, ap₂, subst}
use mathlib.Core.Bool.{Bool, true, false}
use mathlib.Core.List.{List, [], ◌∷◌, ◌++◌, append_assoc}
use native.Mathlib.Omega.{arith}
use native.Mathlib.Numerals.{add-one}
use lib.ListN.{length, take, drop, get_or, set, length-drop, take-append-drop}
use lib.Seq.{drop-cons, drop-drop, take-suc-set, drop-set-lt}
use Rattle.exact.specs.Size.{Within}
use Rattle.exact.proofs.Sizes.{within_more}
use Rattle.number.specs.Read.{pick}
use Rattle.plane.specs.declared.Vec2.{Vec2}
use Rattle.plane.specs.Vector.{minus}
use Rattle.job.specs.declared.Unit.{Unit as VehicleUnit}
use Rattle.job.specs.declared.Vehicle.{Vehicle}
use Rattle.job.specs.Empty.{empty_unit}
use Rattle.refusal.specs.Numbers.{answered, refused}
use Rattle.unit.specs.Turn.{turned_by, too_far}
use Rattle.number.proofs.ManyLaws.{next_of, none_of}
use Rattle.walk.specs.Tests.{units_in_use}
use Rattle.walk.specs.Units.{wheelbase_of, hitch_at, Ahead, none, behind, fold_kept, Turning, turned, stopped, onto, turn_units}
use Rattle.walk.specs.Rig.{zero_vector}
use Rattle.walk.specs.Inner.{next_turn, UnitDrawn, AheadDrawn, Placed, HitchReady, TurnReady, RigReady, UnitsReady}
use Rattle.walk.proofs.DrawLaws.{drawn_again, hitch_within}

-- one unit, from what its own turn answered
module _ (i : ℕ) (a : Ahead) (u : VehicleUnit) (us : List VehicleUnit) (d : Vec2) (ds : List Vec2) (old new : Vec2) where
  abbrev f : Vec2
  f = minus new old

  abbrev d' : Vec2
  d' = turned_by d f (wheelbase_of u)

  abbrev rest : Vec2 → Turning
  rest x = onto x (turn_units (i + 1) (behind u x) us ds (hitch_at u old d) (hitch_at u new x))

  by_turned : (far fold : Bool) (x : Vec2) → pick far (refused 22) (pick fold (answered d') (refused 23)) ≡ answered x → pick far (stopped 22 i) (pick fold (rest d') (stopped 23 i)) ≡ rest x
  by_turned true fold x e = absurd (let z : ◌≡◌ {A = ℕ} 0 1 = cc in omega arith)
  by_turned false true x e = let z : d' ≡ x = cc in ap rest z
  by_turned false false x e = absurd (let z : ◌≡◌ {A = ℕ} 0 1 = cc in omega arith)

  by_refused : (far fold : Bool) (n : ℕ) → pick far (refused 22) (pick fold (answered d') (refused 23)) ≡ refused n → pick far (stopped 22 i) (pick fold (rest d') (stopped 23 i)) ≡ stopped n i
  by_refused true fold n e = let z : 22 ≡ n = cc in ap (λ (m : ℕ). stopped m i) z
  by_refused false true n e = absurd (let z : ◌≡◌ {A = ℕ} 0 1 = cc in omega arith)
  by_refused false false n e = let z : 23 ≡ n = cc in ap (λ (m : ℕ). stopped m i) z

  pub turned_next : (x : Vec2) → next_turn a u d old new ≡ answered x → turn_units i a (u ∷ us) (d ∷ ds) old new ≡ rest x
  unfolding next_turn turn_units
  turned_next x e = by_turned (too_far f (wheelbase_of u)) (fold_kept a u d') x e

  pub refused_next : (n : ℕ) → next_turn a u d old new ≡ refused n → turn_units i a (u ∷ us) (d ∷ ds) old new ≡ stopped n i
  unfolding next_turn turn_units
  refused_next n e = by_refused (too_far f (wheelbase_of u)) (fold_kept a u d') n e

-- vectors that are turned already, before those that are not
abbrev pub prefixed : List Vec2 → Turning → Turning
prefixed xs (turned ds) = turned (xs ++ ds)
prefixed xs (stopped n i) = stopped n i

prefixed_onto : (xs : List Vec2) (x : Vec2) (t : Turning) → prefixed xs (onto x t) ≡ prefixed (xs ++ (x ∷ [])) t
prefixed_onto xs x (turned ds) = ap turned (sym (append_assoc xs (x ∷ []) ds))
prefixed_onto xs x (stopped n i) = refl

turned_rest : (i : ℕ) (a : Ahead) (ds : List Vec2) (old new : Vec2) → turn_units i a [] ds old new ≡ turned ds
unfolding turn_units
turned_rest i a [] old new = refl
turned_rest i a (d ∷ ds) old new = refl

-- after i units: the vectors `out`, turned as far as i, the front points of the next unit, and the unit ahead of it
pub record UnitsLeft (v : Vehicle) (ds : List Vec2) (whole : Turning) (i : ℕ) (out : List Vec2) (old new : Vec2) (ahead : Ahead) : Type 0 where
  pub same : prefixed (take i out) (turn_units (i + 1) ahead (drop i (units_in_use v)) (drop i ds) old new) ≡ whole
  pub rest : drop i out ≡ drop i ds
  pub leading : AheadDrawn ahead
  pub from : Within (150000000 + 400000 * i) old.x × Within (150000000 + 400000 * i) old.y
  pub to : Within (150000000 + 400000 * i) new.x × Within (150000000 + 400000 * i) new.y

-- before the first unit
pub units_start : (v : Vehicle) (ds : List Vec2) (old new : Vec2) → UnitsReady v ds old new
    → UnitsLeft v ds (turn_units 1 none (units_in_use v) ds old new) 0 ds old new none
units_start v ds old new r = record {
  same = first (turn_units 1 none (units_in_use v) ds old new);
  rest = refl;
  leading = tt;
  from = (r.old_x, r.old_y);
  to = (r.new_x, r.new_y);
}
  where
    first : (t : Turning) → prefixed [] t ≡ t
    first (turned ds) = refl
    first (stopped n i) = refl

-- a unit that turned can be drawn again
pub turned_drawn : (a : Ahead) (u : VehicleUnit) (d old new x : Vec2) → UnitDrawn u d → next_turn a u d old new ≡ answered x → UnitDrawn u x
unfolding next_turn
turned_drawn a u d old new x t e = by (too_far (minus new old) (wheelbase_of u)) (fold_kept a u (turned_by d (minus new old) (wheelbase_of u))) refl e
  where
    v : Vec2
    v = turned_by d (minus new old) (wheelbase_of u)

    by : (far fold : Bool) → too_far (minus new old) (wheelbase_of u) ≡ far → pick far (refused 22) (pick fold (answered v) (refused 23)) ≡ answered x → UnitDrawn u x
    by true fold p q = absurd (let z : ◌≡◌ {A = ℕ} 0 1 = cc in omega arith)
    by false true p q = let z : v ≡ x = cc in subst (UnitDrawn u) z (drawn_again t (minus new old) p)
    by false false p q = absurd (let z : ◌≡◌ {A = ℕ} 0 1 = cc in omega arith)

module _ {v : Vehicle} {ds : List Vec2} {whole : Turning} {i : ℕ} {out : List Vec2} {old new : Vec2} {a : Ahead}
    (l : UnitsLeft v ds whole i out old new a) (r : RigReady v ds) (units : length v.units ≡ 4) (vectors : length ds ≡ 4) (h : i < v.count) where
  abbrev u : VehicleUnit
  u = get_or v.units i empty_unit

  abbrev d : Vec2
  d = get_or ds i zero_vector

  abbrev us : List VehicleUnit
  us = drop (i + 1) (units_in_use v)

  abbrev later : List Vec2
  later = drop (i + 1) ds

  inside : i < 4
  inside = omega (arith, r.most)

  units_split : drop i (units_in_use v) ≡ u ∷ us
  units_split = next_of v.units v.count i empty_unit (omega (arith, r.most)) h

  vectors_split : drop i ds ≡ d ∷ later
  vectors_split = drop-cons ds i zero_vector (omega (arith, inside)) ∙ rw add-one

  here : turn_units (i + 1) a (drop i (units_in_use v)) (drop i ds) old new ≡ turn_units (i + 1) a (u ∷ us) (d ∷ later) old new
  here = ap₂ (λ (xs : List VehicleUnit) (zs : List Vec2). turn_units (i + 1) a xs zs old new) units_split vectors_split

  place : {p : Vec2} → Within (150000000 + 400000 * i) p.x × Within (150000000 + 400000 * i) p.y → Placed p
  place w = record { x = within_more (omega (arith, inside)) w.0; y = within_more (omega (arith, inside)) w.1 }

  pub turn_ready : TurnReady a u d old new
  turn_ready = record { unit = r.units i h; lead = l.leading; from = place l.from; to = place l.to }

  pub stopped_here : (n : ℕ) → refused n ≡ next_turn a u d old new → stopped n (i + 1) ≡ whole
  stopped_here n q = ap (prefixed (take i out)) (sym (here ∙ refused_next (i + 1) a u us d later old new n (sym q))) ∙ l.same

  pub hitch_from : HitchReady u old d
  hitch_from = record { unit = r.units i h; place = place l.from }

  module _ (x : Vec2) (q : answered x ≡ next_turn a u d old new) where
    pub again : UnitDrawn u x
    again = turned_drawn a u d old new x (r.units i h) (sym q)

    pub hitch_to : HitchReady u new x
    hitch_to = record { unit = again; place = place l.to }

    long : i < length out
    long = omega (arith, length-drop i out, length-drop i ds, ap length l.rest, inside)

    same_next : prefixed (take (i + 1) (set out i x)) (turn_units (i + 1 + 1) (behind u x) us later (hitch_at u old d) (hitch_at u new x)) ≡ whole
    same_next =
        let left : take (i + 1) (set out i x) ≡ take i out ++ (x ∷ []) = rw add-one (take-suc-set out i x long) in
        rw left
        (sym (prefixed_onto (take i out) x (turn_units (i + 1 + 1) (behind u x) us later (hitch_at u old d) (hitch_at u new x)))
        ∙ ap (prefixed (take i out)) (sym (here ∙ turned_next (i + 1) a u us d later old new x (sym q))) ∙ l.same)

    rest_next : drop (i + 1) (set out i x) ≡ later
    rest_next = drop-set-lt (i + 1) out i x (omega arith) ∙ rw (← drop-drop 1 i out, ← drop-drop 1 i ds) (ap (drop 1) l.rest)

    farther : {p : Vec2} → Within (150000000 + 400000 * i + 400000) p.x × Within (150000000 + 400000 * i + 400000) p.y → Within (150000000 + 400000 * (i + 1)) p.x × Within (150000000 + 400000 * (i + 1)) p.y
    farther w = (within_more (omega arith) w.0, within_more (omega arith) w.1)

    pub units_next : UnitsLeft v ds whole (i + 1) (set out i x) (hitch_at u old d) (hitch_at u new x) (behind u x)
    units_next = record {
      same = same_next;
      rest = rest_next;
      leading = again;
      from = farther (hitch_within (r.units i h) old (150000000 + 400000 * i) l.from);
      to = farther (hitch_within again new (150000000 + 400000 * i) l.to);
    }

-- after the last unit
pub units_done : {v : Vehicle} {ds : List Vec2} {whole : Turning} {i : ℕ} {out : List Vec2} {old new : Vec2} {a : Ahead}
    → UnitsLeft v ds whole i out old new a → v.count ≤ i → turned out ≡ whole
units_done {v} {ds} {whole} {i} {out} {old} {new} {a} l h =
    let end = ap (λ (xs : List VehicleUnit). turn_units (i + 1) a xs (drop i ds) old new) (none_of v.units v.count i h) ∙ turned_rest (i + 1) a (drop i ds) old new in
    ap turned (sym (take-append-drop i out) ∙ ap (λ (zs : List Vec2). take i out ++ zs) l.rest) ∙ ap (prefixed (take i out)) (sym end) ∙ l.same
