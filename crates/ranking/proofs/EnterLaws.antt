-- A setting put into its place, and the three first of a list with one more: those behind them do not matter.
use Prim.Native.Nat.{ℕ}
use mathlib.Core.Path.{◌≡◌, refl}
use mathlib.Core.Bool.{Bool, true, false}
use mathlib.Core.List.{List, [], ◌∷◌}
use Rattle.ranking.specs.declared.Setting.{Setting}
use Rattle.ranking.specs.Ranking.{is_before, insert, Listed, one, two, three, refused, listed_of, entered}

module _ (s : Setting) where
  pub put_last : insert s [] ≡ s ∷ []
  unfolding insert
  put_last = refl

  pub put_here : (t : Setting) (ts : List Setting) → is_before s t ≡ true → insert s (t ∷ ts) ≡ s ∷ t ∷ ts
  unfolding insert
  put_here t ts e = rw e refl

  pub put_on : (t : Setting) (ts : List Setting) → is_before s t ≡ false → insert s (t ∷ ts) ≡ t ∷ insert s ts
  unfolding insert
  put_on t ts e = rw e refl

  -- the list with one more, by the list and by the settings that it comes before
  module _ (l : Listed) where
    pub only_one : (n : ℕ) → l ≡ refused n → one s ≡ entered s l
    only_one n e = rw (e, put_last)

    pub one_first : (a : Setting) → l ≡ one a → is_before s a ≡ true → two s a ≡ entered s l
    one_first a e f = rw (e, put_here a [] f)

    pub one_second : (a : Setting) → l ≡ one a → is_before s a ≡ false → two a s ≡ entered s l
    one_second a e f = rw (e, put_on a [] f, put_last)

    pub two_first : (a b : Setting) → l ≡ two a b → is_before s a ≡ true → three s a b ≡ entered s l
    two_first a b e f = rw (e, put_here a (b ∷ []) f)

    pub two_second : (a b : Setting) → l ≡ two a b → is_before s a ≡ false → is_before s b ≡ true → three a s b ≡ entered s l
    two_second a b e f g = rw (e, put_on a (b ∷ []) f, put_here b [] g)

    pub two_third : (a b : Setting) → l ≡ two a b → is_before s a ≡ false → is_before s b ≡ false → three a b s ≡ entered s l
    two_third a b e f g = rw (e, put_on a (b ∷ []) f, put_on b [] g, put_last)

    module _ (a b c : Setting) (e : l ≡ three a b c) where
      pub three_first : is_before s a ≡ true → three s a b ≡ entered s l
      three_first f = rw (e, put_here a (b ∷ c ∷ []) f)

      pub three_second : is_before s a ≡ false → is_before s b ≡ true → three a s b ≡ entered s l
      three_second f g = rw (e, put_on a (b ∷ c ∷ []) f, put_here b (c ∷ []) g)

      pub three_third : is_before s a ≡ false → is_before s b ≡ false → is_before s c ≡ true → three a b s ≡ entered s l
      three_third f g h = rw (e, put_on a (b ∷ c ∷ []) f, put_on b (c ∷ []) g, put_here c [] h)

      pub three_still : is_before s a ≡ false → is_before s b ≡ false → is_before s c ≡ false → three a b c ≡ entered s l
      three_still f g h = rw (e, put_on a (b ∷ c ∷ []) f, put_on b (c ∷ []) g, put_on c [] h)

  -- of a longer list only the first three matter
  by_tests : (x y z : Bool) (a b c d : Setting) (ts : List Setting) → is_before s a ≡ x → is_before s b ≡ y → is_before s c ≡ z → entered s (three a b c) ≡ listed_of (insert s (a ∷ b ∷ c ∷ d ∷ ts))
  unfolding insert
  by_tests true y z a b c d ts p q r = rw p refl
  by_tests false true z a b c d ts p q r = rw (p, q) refl
  by_tests false false true a b c d ts p q r = rw (p, q, r) refl
  by_tests false false false a b c d ts p q r = rw (p, q, r) refl

  pub enter_first : (ts : List Setting) → entered s (listed_of ts) ≡ listed_of (insert s ts)
  enter_first [] = refl
  enter_first (a ∷ []) = refl
  enter_first (a ∷ b ∷ []) = refl
  enter_first (a ∷ b ∷ c ∷ []) = refl
  enter_first (a ∷ b ∷ c ∷ d ∷ ts) = by_tests (is_before s a) (is_before s b) (is_before s c) a b c d ts refl refl refl
