-- `path::PathRoom::store` meets its contract: each coordinate fits a run's entry.
use mathlib.Core.Path.{◌≡◌}
use borrow.Author.Rules.{rules}
use lib.Dec.{lit≤}
use Rattle.exact.proofs.Machine.{reread}
use Rattle.heading.proofs.Rotation.{heading_within}
use Rattle.path.proofs.StoreLaws.{entry_fits, entry_kept}
use Rattle.path.proofs.PathRoom.store.Goals as goal

pub overflow_cast-self-3 : goal.overflow_cast-self-3
overflow_cast-self-3 c =
    let e : reread c.args.p.heading.x ≡ c.args.p.heading.x = search rules in
    entry_fits (lit≤ tt) (heading_within c.args.p.heading c.requires.station.heading).0 e

pub overflow_cast-self-4 : goal.overflow_cast-self-4
overflow_cast-self-4 c =
    let e : reread c.args.p.heading.y ≡ c.args.p.heading.y = search rules in
    entry_fits (lit≤ tt) (heading_within c.args.p.heading c.requires.station.heading).1 e

pub returns-clause-stored : goal.returns-clause-stored
returns-clause-stored c =
    let p = c.args.p in
    let s = c.requires.station in
    let h = heading_within p.heading s.heading in
    let x : reread p.position.x ≡ p.position.x = search rules in
    let y : reread p.position.y ≡ p.position.y = search rules in
    let gx : reread p.heading.x ≡ p.heading.x = search rules in
    let gy : reread p.heading.y ≡ p.heading.y = search rules in
    rw (entry_kept (lit≤ tt) s.x x, entry_kept (lit≤ tt) s.y y, entry_kept (lit≤ tt) h.0 gx, entry_kept (lit≤ tt) h.1 gy)
