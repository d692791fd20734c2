-- How an element is cut, by computing: the remainder comes last, and there is none where the steps come out even.
use mathlib.Core.Path.{◌≡◌, refl}
use mathlib.Core.List.{[], ◌∷◌}
use Rattle.path.specs.Cuts.{cut, full_steps, cuts_from, cuts}

pub remainder_last : cuts 5000 12001 ≡ cut 0 5000 ∷ cut 5000 5000 ∷ cut 10000 2001 ∷ []
unfolding full_steps cuts_from
remainder_last = refl

pub no_remainder : cuts 5000 10000 ≡ cut 0 5000 ∷ cut 5000 5000 ∷ []
unfolding full_steps cuts_from
no_remainder = refl
