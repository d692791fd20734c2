-- `reaches::widest` meets its contract.
use Prim.Native.Nat.{ℕ, ◌≤◌}
use mathlib.Core.Path.{◌≡◌, refl, sym, ◌∙◌, ap}
use mathlib.Core.Bool.{true}
use Rattle.std.specs.Prelude.{Option, None, Some}
use Rattle.std.specs.Option.{ok_or}
use Rattle.refusal.specs.declared.Fault.TheVariants as F
use Rattle.refusal.specs.Numbers.{as_answer}
use Rattle.marks.proofs.CountLaws.{count_fits, bits_fit}
use Rattle.walk.specs.Drawn.{Drawn, view}
use Rattle.walk.specs.Tests.{record_sound}
use Rattle.walk.proofs.RecordTests.{sound_record}
use Rattle.walk.proofs.VehicleTests.{units_counted}
use Rattle.reaches.specs.declared.Place.{Place}
use Rattle.reaches.specs.Lent.{reached_of}
use Rattle.reaches.specs.Widest.{widest_among, answer_of}
use Rattle.reaches.proofs.WidestLaws.{lent_room, not_lent, not_sound, answer_best}
use Rattle.reaches.proofs.widest.Goals as goal

pub returns-then-not-widest_lent : goal.returns-then-not-widest_lent
returns-then-not-widest_lent c = let a = c.args in sym (not_lent (view a.w) a.asked (reached_of a.runs) (sym c.widest_lent.ensures ∙ c.if-not-widest_lent.true))

pub returns-then-not-record_sound : goal.returns-then-not-record_sound
returns-then-not-record_sound c =
    let a = c.args in
    sym (not_sound (view a.w) a.asked (reached_of a.runs) (sym c.widest_lent.ensures ∙ c.if-not-widest_lent.false) (sym c.record_sound.ensures ∙ c.if-not-record_sound.true))

-- a sound record has no more than four units
units : (s : Drawn) (asked : ℕ) → record_sound asked s ≡ true → s.vehicle.count ≤ 4
units s asked e = (units_counted s.vehicle (sound_record asked s e).vehicle).1

pub point_count-count-requires : goal.point_count-count-requires
point_count-count-requires c = let a = c.args in record { most = units (view a.w) a.asked (sym c.record_sound.ensures ∙ c.if-not-record_sound.false) }

pub widest_among-requires : goal.widest_among-requires
widest_among-requires c =
    let a = c.args in
    let most = units (view a.w) a.asked (sym c.record_sound.ensures ∙ c.if-not-record_sound.false) in
    record {
      bits = bits_fit (record { most = rw c.point_count-count.ensures (count_fits a.w.vehicle most) });
      room = lent_room a.asked (reached_of a.runs) (sym c.widest_lent.ensures ∙ c.if-not-widest_lent.false);
    }

-- the best, or that there is none, as an answer
told : (b : Option Place) → as_answer (ok_or b F.NoneComplete) ≡ answer_of b
told None = refl
told (Some p) = refl

pub returns : goal.returns
returns c =
    let a = c.args in
    let best = c.widest_among.ensures ∙ ap (λ (n : ℕ). widest_among n a.asked (reached_of a.runs)) c.point_count-count.ensures in
    ap as_answer c.ok_or.ensures.value ∙ told c.widest_among.result
    ∙ sym (answer_best (view a.w) a.asked (reached_of a.runs) _ (sym c.widest_lent.ensures ∙ c.if-not-widest_lent.false) (sym c.record_sound.ensures ∙ c.if-not-record_sound.false) best)
