-- Ticks that are written one vertex after the other.
use Prim.Native.Nat.{ℕ, ◌+◌, ◌≤◌, ◌<◌}
use mathlib.Core.Path.{◌≡◌, refl, sym, ◌∙◌, ap, subst}
use mathlib.Core.List.{List, map}
use native.Mathlib.Omega.{arith}
use native.Mathlib.Numerals.{add-one}
use lib.Dec.{lit≤}
use lib.IntN.{ℤ, pos, negsuc, neg_ℤ}
use lib.Signed.{le_z_yes}
use lib.ListN.{length, get_or, drop, set, drop_of_length-le}
use lib.Seq.{sets, drop-cons}
use mir.Syntax.{w32, w64}
use mir.Val.{SFits}
use mir.Facts.{to_z-of_z}
use Rattle.exact.specs.Size.{Within}
use Rattle.exact.proofs.Order.{≤ℤ-trans, pos-≤}
use Rattle.exact.proofs.Sizes.{fits64, mag-≤-abs, ≤-size, ≥-size}
use Rattle.exact.proofs.Machine.{reread, reread32}
use Rattle.plane.specs.Run.{Stored}
use Rattle.metres.specs.Tick.{ticks_most}
use Rattle.metres.specs.declared.Vertex.{Vertex}
use Rattle.kerb_reader.specs.Geometry.{no_vertex}
use Rattle.kerb_reader.specs.Ticks.{east_of, north_of}

-- a tick fits an entry of a run
pub stored_tick : {z : ℤ} (i n : ℕ) → i < n → Within ticks_most z → Stored i n z
stored_tick i n h w = record { inside = h; least = ≤ℤ-trans (le_z_yes {a = negsuc 2147483647} {b = neg_ℤ (pos ticks_most)} tt) (≥-size w); most = ≤ℤ-trans (≤-size w) (pos-≤ (lit≤ tt)) }

-- a tick fits 32 bits, and is read back from them as it is
fits32 : {z : ℤ} → Within ticks_most z → SFits w32 z
fits32 {z} b = record { sfits = omega (arith, mag-≤-abs z, b.size) }

as_read : {z w : ℤ} → z ≡ w → Within ticks_most w → reread z ≡ w
as_read e b = ap reread e ∙ to_z-of_z {w = w64} (fits64 tt b)

pub tick_fits : {z w : ℤ} → z ≡ w → Within ticks_most w → SFits w32 (reread z)
tick_fits e b = subst (SFits w32) (sym (as_read e b)) (fits32 b)

pub tick_kept : {z w : ℤ} → z ≡ w → Within ticks_most w → reread32 (reread z) ≡ w
tick_kept e b = ap reread32 (as_read e b) ∙ to_z-of_z {w = w32} (fits32 b)

-- those of the others from i on are still to be written, after the first vertex
abbrev ahead : (Vertex → ℤ) → List Vertex → List ℤ → ℕ → List ℤ
ahead tick others run i = sets run (i + 1) (map tick (drop i others))

ahead_next : (tick : Vertex → ℤ) (others : List Vertex) (run : List ℤ) (i : ℕ) → i < length others → ahead tick others run i ≡ ahead tick others (set run (i + 1) (tick (get_or others i no_vertex))) (i + 1)
ahead_next tick others run i l = rw (drop-cons others i no_vertex l, add-one, add-one)

ahead_none : (tick : Vertex → ℤ) (others : List Vertex) (run : List ℤ) (i : ℕ) → length others ≤ i → ahead tick others run i ≡ run
ahead_none tick others run i h = rw (drop_of_length-le others {i = i} h)

-- what holds at each turn, of the runs as they were after the first vertex and as they are
pub record Writing (others : List Vertex) (xs₀ ys₀ xs ys : List ℤ) (i : ℕ) : Type 0 where
  pub east : ahead east_of others xs i ≡ ahead east_of others xs₀ 0
  pub north : ahead north_of others ys i ≡ ahead north_of others ys₀ 0

pub writing_start : (others : List Vertex) (xs ys : List ℤ) → Writing others xs ys xs ys 0
writing_start others xs ys = record { east = refl; north = refl }

pub writing_next : {others : List Vertex} {xs₀ ys₀ xs ys : List ℤ} {i : ℕ} → i < length others → Writing others xs₀ ys₀ xs ys i
    → Writing others xs₀ ys₀ (set xs (i + 1) (east_of (get_or others i no_vertex))) (set ys (i + 1) (north_of (get_or others i no_vertex))) (i + 1)
writing_next {others} {xs₀} {ys₀} {xs} {ys} {i} l w = record {
  east = sym (ahead_next east_of others xs i l) ∙ w.east;
  north = sym (ahead_next north_of others ys i l) ∙ w.north;
}

pub written_east : {others : List Vertex} {xs₀ ys₀ xs ys : List ℤ} {i : ℕ} → length others ≤ i → Writing others xs₀ ys₀ xs ys i → xs ≡ sets xs₀ 1 (map east_of others)
written_east {others} {xs₀} {ys₀} {xs} {ys} {i} h w = sym (ahead_none east_of others xs i h) ∙ w.east

pub written_north : {others : List Vertex} {xs₀ ys₀ xs ys : List ℤ} {i : ℕ} → length others ≤ i → Writing others xs₀ ys₀ xs ys i → ys ≡ sets ys₀ 1 (map north_of others)
written_north {others} {xs₀} {ys₀} {xs} {ys} {i} h w = sym (ahead_none north_of others ys i h) ∙ w.north
