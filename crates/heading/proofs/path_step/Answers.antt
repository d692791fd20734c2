-- `heading::path_step` meets its contract.
use mathlib.Core.Path.{◌≡◌, ◌∙◌, ap₂}
use borrow.Author.Rules.{rules}
use lib.IntN.{pos, ◌*ℤ◌}
use Rattle.exact.proofs.Machine.{reread}
use Rattle.plane.specs.Length.{heading_length, Near}
use Rattle.heading.specs.Turn.{heading_after}
use Rattle.heading.proofs.Steering.{after_near}
use Rattle.heading.proofs.path_step.Goals as goal

pub move_along-shift-requires : goal.move_along-shift-requires
move_along-shift-requires c =
    let s : reread c.args.s ≡ c.args.s = search rules in
    let r : reread c.args.r ≡ c.args.r = search rules in
    let turned = c.heading_after-heading.ensures ∙ ap₂ (heading_after c.args.g) s r in
    let p = c.requires in
    let near : Near c.heading_after-heading.result heading_length (pos 2 *ℤ heading_length) = rw turned (after_near c.args.g c.args.s c.args.r p) in
    record { old = p.heading; new = search (rules, near); least = rw s p.least; most = rw s p.most }
