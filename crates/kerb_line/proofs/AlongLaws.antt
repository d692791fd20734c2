-- The segments of a kerb, one after the other, and the lowest point that touches one of them.
use Prim.Native.Nat.{ℕ, suc, ◌+◌, ◌-◌, ◌≤◌, ◌<◌}
use mathlib.Core.Path.{◌≡◌, refl, sym, ◌∙◌, ap, subst}
use mathlib.Core.Bool.{true, false}
use mathlib.Core.List.{List, [], ◌∷◌}
use native.Mathlib.Omega.{arith}
use lib.ListN.{length}
use Rattle.std.specs.Prelude.{Option, None}
use Rattle.std.specs.Option.{unwrap_or, option_or}
use Rattle.plane.specs.declared.Vec2.{Vec2}
use Rattle.kerb_line.specs.declared.bounds.Bounds.{Bounds}
use Rattle.kerb_line.specs.Kerb.{KerbRuns, vertex_at, vertices_from, vertices}
use Rattle.kerb_line.specs.Contact.{Segment, segment, segments_from, segments, touches_one}
use Rattle.kerb_line.specs.Inner.{segments_after, LowestOf, move_touches, move_touches_one, Enclosed, beyond}
use Rattle.kerb_line.proofs.LowestLaws.{lowest_of_both, tested_to, tested_most, or_or, or_none}
use Rattle.kerb_line.proofs.BoundsLaws.{none_beyond}

module _ (k : KerbRuns) (n : ℕ) where
  next_segment : (i : ℕ) → i < n - 1 → segments_after i n k ≡ segment (vertex_at k i) (vertex_at k (i + 1)) ∷ segments_after (i + 1) n k
  unfolding vertices_from segments_from
  next_segment i h = let e : n - 1 - i ≡ suc (n - 1 - (i + 1)) = omega arith in rw e

  last_segment : (i : ℕ) → n - 1 ≤ i → segments_after i n k ≡ []
  unfolding vertices_from segments_from
  last_segment i h = let e : n - 1 - i ≡ 0 = omega arith in rw e

  -- the segments of a kerb of two vertices or more
  pub of_line : (1 < n) → segments_after 0 n k ≡ segments (vertices n k)
  unfolding vertices_from segments_from segments
  of_line h =
      let e : n ≡ suc (suc (n - 2)) = omega arith in
      let f : n - 1 - 0 ≡ suc (n - 2) = omega arith in
      ap (λ (m : ℕ). segments_from (vertex_at k 0) (vertices_from (0 + 1) m k)) f ∙ sym (ap (λ (m : ℕ). segments (vertices_from 0 m k)) e)

module _ (olds news : List Vec2) where
  -- no point touches a segment beyond the bounds
  pub beyond_none : (b : Bounds) (v w : Vec2) (m : ℕ) → m ≤ length olds → length olds ≡ length news → Enclosed b olds news → beyond b v w ≡ true → LowestOf m (move_touches olds news v w) None
  beyond_none b v w m h k e far = λ p l. none_beyond b v w far _ _ (e.old p (omega arith)) (e.new p (omega arith))

  module _ (k : KerbRuns) (n : ℕ) where
    -- what is lowest of the rest, below the lowest so far, or else the lowest so far is lowest of all
    abbrev pub Rest : Option ℕ → ℕ → Type 0
    Rest o i = (q : Option ℕ) → LowestOf (unwrap_or o (length olds)) (move_touches_one olds news (segments_after i n k)) q → LowestOf (length olds) (move_touches_one olds news (segments_after 0 n k)) (option_or q o)

    pub none_yet : Rest None 0
    none_yet q a = rw (or_none q) a

    pub one_more : (o q : Option ℕ) (i : ℕ) → i < n - 1 → LowestOf (unwrap_or o (length olds)) (move_touches olds news (vertex_at k i) (vertex_at k (i + 1))) q → Rest o i → Rest (option_or q o) (i + 1)
    unfolding touches_one
    one_more o q i h low rest r a =
        let b : LowestOf (unwrap_or q (unwrap_or o (length olds))) (move_touches_one olds news (segments_after (i + 1) n k)) r =
        subst (λ (m : ℕ). LowestOf m (move_touches_one olds news (segments_after (i + 1) n k)) r) (tested_to o q (length olds)) a in
        rw (or_or o q r)
        (rest (option_or r q) (subst (λ (ss : List Segment). LowestOf (unwrap_or o (length olds)) (move_touches_one olds news ss) (option_or r q)) (sym (next_segment k n i h)) (lowest_of_both (unwrap_or o (length olds)) (move_touches olds news (vertex_at k i) (vertex_at k (i + 1))) (move_touches_one olds news (segments_after (i + 1) n k)) q r low b)))

    pub all_done : (o : Option ℕ) (i : ℕ) → n - 1 ≤ i → Rest o i → LowestOf (length olds) (move_touches_one olds news (segments_after 0 n k)) o
    unfolding touches_one
    all_done o i h rest = rest None (subst (λ (ss : List Segment). LowestOf (unwrap_or o (length olds)) (move_touches_one olds news ss) None) (sym (last_segment k n i h)) (λ p l. refl))

    -- a single vertex is a segment of no length
    pub of_point : n ≡ 1 → (o : Option ℕ) → LowestOf (length olds) (move_touches olds news (vertex_at k 0) (vertex_at k 0)) o → LowestOf (length olds) (move_touches_one olds news (segments (vertices n k))) o
    unfolding vertices_from segments touches_one
    of_point e o low = rw e (lowest_of_both (length olds) (move_touches olds news (vertex_at k 0) (vertex_at k 0)) (λ p. false) o None low (λ p l. refl))

-- at vertex i of the kerb, which is v: how far the points are still tested, and what the lowest of the rest comes to
pub record Along (olds news : List Vec2) (k : KerbRuns) (n : ℕ) (o : Option ℕ) (v : Vec2) (i : ℕ) : Type 0 where
  pub at : v ≡ vertex_at k i
  pub most : unwrap_or o (length olds) ≤ length olds
  pub rest : Rest olds news k n o i

module _ (olds news : List Vec2) (k : KerbRuns) (n : ℕ) where
  pub along_start : (v : Vec2) → v ≡ vertex_at k 0 → Along olds news k n None v 0
  along_start v e = record { at = e; most = omega arith; rest = none_yet olds news k n }

  pub along_more : (o q : Option ℕ) (v w : Vec2) (i j : ℕ) → Along olds news k n o v i → i + 1 ≡ j → j < n → w ≡ vertex_at k j → LowestOf (unwrap_or o (length olds)) (move_touches olds news v w) q → Along olds news k n (option_or q o) w j
  along_more o q v w i j a e l f low =
      let m = tested_most (unwrap_or o (length olds)) (move_touches olds news v w) q low in
      let d : w ≡ vertex_at k (i + 1) = rw e f in
      let here : LowestOf (unwrap_or o (length olds)) (move_touches olds news (vertex_at k i) (vertex_at k (i + 1))) q = rw (a.at, d) at low in
      record {
        at = f;
        most = omega (arith, m, tested_to o q (length olds), a.most);
        rest = subst (Rest olds news k n (option_or q o)) e (one_more olds news k n o q i (omega arith) here a.rest);
      }
