-- No point of the rig crosses a station that lies farther off than the rig spreads.
use Prim.Native.Nat.{ℕ, zero, suc, zero-le, ◌+◌, ◌<◌}
use mathlib.Core.Path.{◌≡◌, refl, subst}
use mathlib.Core.Bool.{Bool, true, false, not, ◌&&◌, ◌||◌}
use mathlib.Core.List.{List, [], ◌∷◌}
use mathlib.Core.Logic.{◌⊎◌, inl, inr, ⊎_elim}
use native.Mathlib.Omega.{arith}
use borrow.Author.Count.{below_more}
use borrow.Author.Tests.{le-ltb}
use lib.Dec.{lit≤}
use lib.ListN.{take, length, get_or}
use lib.IntN.{ℤ, pos, negsuc, nat_abs, neg_ℤ, ◌+ℤ◌, ◌-ℤ◌, ◌*ℤ◌}
use lib.Signed.{le_z, lt_z, ◌≤ℤ◌, ≤ℤ_refl}
use Rattle.exact.specs.Size.{Within}
use Rattle.exact.proofs.Polynomial.{Expr, ◌⊕◌, ◌⊖◌, ◌⊗◌, neg, lit, var, ring}
use Rattle.exact.proofs.Order.{pos-≤, le_z_true, le_z_false, ≤ℤ-trans}
use Rattle.exact.proofs.Sizes.{≤-size, ≥-size, within, within_add, within_sub}
use Rattle.exact.proofs.Certificate.{NonNeg, ◌⊞◌, ◌⊠◌, ◌·◌, hyp, le, le_scaled, never}
use Rattle.plane.specs.declared.Vec2.{Vec2}
use Rattle.plane.specs.Length.{heading_length}
use Rattle.plane.proofs.Lengths.{coordinates}
use Rattle.path.specs.declared.Station.{Station}
use Rattle.path.specs.Laying.{SoundStation}
use Rattle.walk.specs.Rig.{zero_vector}
use Rattle.reaches.specs.declared.far.Spread.{Spread}
use Rattle.reaches.specs.Crossing.{ahead_of, crosses, some_crosses, greater}
use Rattle.reaches.specs.Inner.{SizedPoint}
use Rattle.reaches.specs.Far.{apart, far_off, misses, Near, Farthest, SpreadOf}
use Rattle.reaches.proofs.LeastGreatest.{sorted, greater_most}

-- |x·g| is at most |x|·N where g is at most N in size
module _ (x g : ℤ) (w : Within 1000000 g) where
  abbrev ρ : List ℤ
  ρ = x ∷ g ∷ pos (nat_abs x) ∷ []

  own : Within (nat_abs x) x
  own = record { size = omega arith }

  X⁺ : NonNeg ρ (var 2 ⊖ var 0)
  X⁺ = hyp (var 0) (var 2) (≤-size own)

  X⁻ : NonNeg ρ (var 0 ⊖ neg (var 2))
  X⁻ = hyp (neg (var 2)) (var 0) (≥-size own)

  G⁺ : NonNeg ρ (lit 1000000 ⊖ var 1)
  G⁺ = hyp (var 1) (lit 1000000) (≤-size w)

  G⁻ : NonNeg ρ (var 1 ⊖ neg (lit 1000000))
  G⁻ = hyp (neg (lit 1000000)) (var 1) (≥-size w)

  pub product-≤ : (x *ℤ g) ≤ℤ (pos (nat_abs x) *ℤ pos 1000000)
  product-≤ = le_scaled {ρ = ρ} (lit 2) (var 0 ⊗ var 1) (var 2 ⊗ lit 1000000) (pos-≤ (lit≤ tt)) (X⁺ ⊠ G⁻ ⊞ X⁻ ⊠ G⁺) tt

  pub product-≥ : neg_ℤ (pos (nat_abs x) *ℤ pos 1000000) ≤ℤ (x *ℤ g)
  product-≥ = le_scaled {ρ = ρ} (lit 2) (neg (var 2 ⊗ lit 1000000)) (var 0 ⊗ var 1) (pos-≤ (lit≤ tt)) (X⁻ ⊠ G⁻ ⊞ X⁺ ⊠ G⁺) tt

-- two points, at most r apart, differ by at most r·N in how far ahead of a station they lie
module _ (s : Station) (k : SoundStation s) (a b : Vec2) (r : ℤ) (near : apart a b ≤ℤ r) where
  abbrev dx : ℤ
  dx = b.x -ℤ a.x

  abbrev dy : ℤ
  dy = b.y -ℤ a.y

  abbrev gx : ℤ
  gx = s.heading.x

  abbrev gy : ℤ
  gy = s.heading.y

  heading_sized : Within 1000000 gx × Within 1000000 gy
  heading_sized = let c = coordinates gx gy heading_length (pos-≤ (lit≤ tt)) k.heading.high in (within c.0 c.1, within c.2 c.3)

  -- a's and b's coordinates, the station's and its heading's, r, and the two sizes
  abbrev σ : List ℤ
  σ = a.x ∷ a.y ∷ b.x ∷ b.y ∷ s.position.x ∷ s.position.y ∷ gx ∷ gy ∷ r ∷ pos (nat_abs dx) ∷ pos (nat_abs dy) ∷ []

  abbrev AHEAD-A : Expr
  AHEAD-A = (var 0 ⊖ var 4) ⊗ var 6 ⊕ (var 1 ⊖ var 5) ⊗ var 7

  abbrev AHEAD-B : Expr
  AHEAD-B = (var 2 ⊖ var 4) ⊗ var 6 ⊕ (var 3 ⊖ var 5) ⊗ var 7

  N·R : NonNeg σ (lit 1000000 ⊗ (var 8 ⊖ (var 9 ⊕ var 10)))
  N·R = 1000000 · hyp (var 9 ⊕ var 10) (var 8) near

  pub not_behind : (r *ℤ heading_length) ≤ℤ ahead_of s a → pos 0 ≤ℤ ahead_of s b
  not_behind h =
      le {ρ = σ} (lit 0) AHEAD-B
      (hyp (var 8 ⊗ lit 1000000) AHEAD-A h
      ⊞ N·R
      ⊞ hyp (neg (var 9 ⊗ lit 1000000)) ((var 2 ⊖ var 0) ⊗ var 6) (product-≥ dx gx heading_sized.0)
      ⊞ hyp (neg (var 10 ⊗ lit 1000000)) ((var 3 ⊖ var 1) ⊗ var 7) (product-≥ dy gy heading_sized.1))
      tt

  pub not_reached : (ahead_of s a +ℤ pos 1) ≤ℤ (pos 0 -ℤ r *ℤ heading_length) → (ahead_of s b +ℤ pos 1) ≤ℤ pos 0
  not_reached h =
      le {ρ = σ} (AHEAD-B ⊕ lit 1) (lit 0)
      (hyp (AHEAD-A ⊕ lit 1) (lit 0 ⊖ var 8 ⊗ lit 1000000) h
      ⊞ N·R
      ⊞ hyp ((var 2 ⊖ var 0) ⊗ var 6) (var 9 ⊗ lit 1000000) (product-≤ dx gx heading_sized.0)
      ⊞ hyp ((var 3 ⊖ var 1) ⊗ var 7) (var 10 ⊗ lit 1000000) (product-≤ dy gy heading_sized.1))
      tt

-- the tests of a crossing
not_below : (z : ℤ) → pos 0 ≤ℤ z → lt_z z (pos 0) ≡ false
not_below (pos n) h = le-ltb n 0 (omega arith)
not_below (negsuc n) h = absurd h.le

not_above : (z : ℤ) → (z +ℤ pos 1) ≤ℤ pos 0 → le_z (pos 0) z ≡ false
not_above z h = by (le_z (pos 0) z) refl
  where
    by : (t : Bool) → le_z (pos 0) z ≡ t → t ≡ false
    by false e = refl
    by true e =
        let ρ : List ℤ = z ∷ [] in
        absurd (never 0 (hyp {ρ = ρ} (var 0 ⊕ lit 1) (lit 0) h ⊞ hyp {ρ = ρ} (lit 0) (var 0) (le_z_true e)) tt)

either : (t u : Bool) → (t || not u) ≡ true → (t ≡ true) ⊎ (u ≡ false)
either true u e = inl refl
either false true e = absurd (let z : ◌≡◌ {A = ℕ} 0 1 = cc in omega arith)
either false false e = inr refl

nor_second : (t : Bool) → (t && false) ≡ false
nor_second true = refl
nor_second false = refl

-- a far station is not crossed by a point near a
module _ (s : Station) (k : SoundStation s) (a : Vec2) (r : ℤ) (far : far_off s a r ≡ true) where
  pub far_move : (old new : Vec2) → apart a old ≤ℤ r → apart a new ≤ℤ r → crosses s old new ≡ false
  unfolding far_off crosses
  far_move old new p q =
      let t = le_z (r *ℤ heading_length) (ahead_of s a) in
      let u = le_z (pos 0 -ℤ r *ℤ heading_length) (ahead_of s a) in
      ⊎_elim
      (λ (e : t ≡ true). rw (not_below (ahead_of s old) (not_behind s k a old r p (le_z_true e))) refl)
      (λ (e : u ≡ false). rw (not_above (ahead_of s new) (not_reached s k a new r q (le_z_false (pos 0 -ℤ r *ℤ heading_length) (ahead_of s a) e))) (nor_second (lt_z (ahead_of s old) (pos 0))))
      (either t u far)

-- nor by any of several
none_of : (s : Station) (olds news : List Vec2) → ((p : ℕ) → p < length olds → crosses s (get_or olds p zero_vector) (get_or news p zero_vector) ≡ false) → some_crosses s olds news ≡ false
unfolding some_crosses
none_of s [] news h = refl
none_of s (old ∷ olds) [] h = refl
none_of s (old ∷ olds) (new ∷ news) h = rw (h 0 (omega arith)) (none_of s olds news (λ p l. h (suc p) (omega arith)))

-- nor by any of the first n
none_of_first : (s : Station) (n : ℕ) (olds news : List Vec2) → ((p : ℕ) → p < n → crosses s (get_or olds p zero_vector) (get_or news p zero_vector) ≡ false) → some_crosses s (take n olds) (take n news) ≡ false
unfolding some_crosses
none_of_first s zero olds news h = refl
none_of_first s (suc n) [] news h = refl
none_of_first s (suc n) (old ∷ olds) [] h = refl
none_of_first s (suc n) (old ∷ olds) (new ∷ news) h = rw (h 0 (omega arith)) (none_of_first s n olds news (λ p l. h (suc p) (omega arith)))

pub far_none : (s : Station) → SoundStation s → (from : Vec2) (n : ℕ) (olds news : List Vec2) (r : ℤ) → Near from olds n r → Near from news n r → far_off s from r ≡ true → some_crosses s (take n olds) (take n news) ≡ false
far_none s k from n olds news r u w far = none_of_first s n olds news (λ p l. far_move s k from r far (get_or olds p zero_vector) (get_or news p zero_vector) (u.each p l) (w.each p l))

pub missed : (s : Station) → SoundStation s → (w : Spread) (olds news : List Vec2) → SpreadOf w olds news → misses w s ≡ true → some_crosses s olds news ≡ false
missed s k w olds news u far = none_of s olds news (λ p l. far_move s k w.from w.near far (get_or olds p zero_vector) (get_or news p zero_vector) (u.old.each p l) (u.new.each p l))

pub apart_sized : (a b : Vec2) → SizedPoint a → SizedPoint b → Within 640000000 (apart a b)
apart_sized a b p q =
    let x : Within 320000000 (pos (nat_abs (b.x -ℤ a.x))) = record { size = (within_sub q.x p.x).size } in
    let y : Within 320000000 (pos (nat_abs (b.y -ℤ a.y))) = record { size = (within_sub q.y p.y).size } in
    within_add x y

pub greater_sized : {b : ℕ} (x y : ℤ) → Within b x → Within b y → Within b (greater x y)
greater_sized x y p q = within (≤ℤ-trans (≥-size p) (sorted x y).most_first) (greater_most x y _ (≤-size p) (≤-size q))

-- a bound on the first n, and on the next, is one on n + 1
pub under : (P : ℕ → ℤ) (n : ℕ) (r r' : ℤ) → ((p : ℕ) → p < n → P p ≤ℤ r) → r ≤ℤ r' → P n ≤ℤ r' → (p : ℕ) → p < n + 1 → P p ≤ℤ r'
under P n r r' h k l = below_more (λ p. P p ≤ℤ r') n (λ p j. ≤ℤ-trans (h p j) k) l

-- the farthest of no points, and of one more
pub farthest_none : (from : Vec2) (low : ℤ) (points : List Vec2) → Within 640000000 low → Farthest from low points 0 low
farthest_none from low points w = record { least = ≤ℤ_refl low; near = record { each = λ p h. absurd (omega arith) }; size = w }

pub farthest_more : (from : Vec2) (low : ℤ) (points : List Vec2) (n : ℕ) (r a : ℤ) → Farthest from low points n r → a ≡ apart from (get_or points n zero_vector) → Within 640000000 a
    → Farthest from low points (n + 1) (greater r a)
farthest_more from low points n r a f e w =
    let o = sorted r a in
    record {
      least = ≤ℤ-trans f.least o.most_first;
      near = record { each = under (λ k. apart from (get_or points k zero_vector)) n r _ f.near.each o.most_first (subst (λ (z : ℤ). z ≤ℤ greater r a) e o.most_second) };
      size = greater_sized r a f.size w;
    }

-- a place is as near to itself as to any other
none_apart : (x : ℤ) → x -ℤ x ≡ pos 0
none_apart x = ring (x ∷ []) (var 0 ⊖ var 0) (lit 0) tt

here_near : (a b : Vec2) (r : ℤ) → apart a b ≤ℤ r → apart a a ≤ℤ r
here_near a b r h = ≤ℤ-trans (rw (none_apart a.x, none_apart a.y) (pos-≤ zero-le)) h

-- a pair that lies too far off: neither of its points crosses
pub far_pair : (s : Station) → SoundStation s → (near : ℤ) (old new other moved : Vec2) → far_off s old near ≡ true → apart old new ≤ℤ near → apart old other ≤ℤ near → apart old moved ≤ℤ near
    → (crosses s old new || crosses s other moved) ≡ false
far_pair s k near old new other moved far p q r =
    rw (far_move s k old near far old new (here_near old new near p) p, far_move s k old near far other moved q r) refl
