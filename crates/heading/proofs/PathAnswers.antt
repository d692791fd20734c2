-- What the path turn answers, test by test.
use mathlib.Core.Path.{◌≡◌}
use mathlib.Core.Bool.{true, false}
use Prim.Native.Nat.{ℕ}
use lib.IntN.{ℤ, pos}
use Rattle.plane.specs.declared.Vec2.{Vec2}
use Rattle.plane.specs.Length.{heading_length, has_length}
use Rattle.job.specs.Allowed.{between}
use Rattle.job.specs.Curves.{radius_allowed}
use Rattle.refusal.specs.Numbers.{answered, refused}
use Rattle.heading.specs.PathTurn.{advance_of, path_turn}

module _ (g : Vec2) (s : ℕ) (r : ℤ) where
  pub refused_heading : has_length g heading_length ≡ false → path_turn g s r ≡ refused 6
  unfolding path_turn
  refused_heading h = rw h

  pub refused_step_lem : has_length g heading_length ≡ true → between 1 20000 s ≡ false → path_turn g s r ≡ refused 7
  unfolding path_turn
  refused_step_lem h l = rw (h, l)

  pub refused_radius : has_length g heading_length ≡ true → between 1 20000 s ≡ true → radius_allowed r ≡ false → path_turn g s r ≡ refused 8
  unfolding path_turn
  refused_radius h l m = rw (h, l, m)

  pub turned_path : has_length g heading_length ≡ true → between 1 20000 s ≡ true → radius_allowed r ≡ true → path_turn g s r ≡ answered (advance_of g (pos s) r)
  unfolding path_turn
  turned_path h l m = rw (h, l, m)
