-- `job_reader::elements::read_elements` meets its contract. Assumes nothing.
use Prim.Native.Nat.{ℕ, ◌≤◌, ◌<◌}
use native.Mathlib.Omega.{arith}
use native.Mathlib.Nat.{sub-zero}
use mathlib.Core.Path.{◌≡◌, ◌∙◌, sym}
use mathlib.Core.List.{List}
use lib.ListN.{length, take, drop}
use Rattle.std.proofs.lemmas.List.{set-append_left, take-append-drop, length-take-le}
use Rattle.number.specs.Read.{Read, into}
use Rattle.number.proofs.ManyLaws.{into_end, into_more, into_refused}
use Rattle.job.specs.Empty.{empty_elements}
use Rattle.job.specs.Steps.{tally}
use Rattle.job.specs.declared.Element.{Element}
use Rattle.job_reader.specs.Record.{read_element, read_total, read_elements}
use Rattle.job_reader.proofs.PartLaws.{handed_on}
use Rattle.job_reader.proofs.ReadLaws.{tally_read}
use Rattle.job_reader.proofs.elements.read_elements.Invariants.{rest, all}
use Rattle.job_reader.proofs.elements.read_elements.Goals as goal

-- as many elements as are in use
size : (es : List Element) (count : ℕ) → es ≡ empty_elements → count ≤ 64 → length (take count es) ≡ count
unfolding empty_elements
size es count e h = rw e (length-take-le count empty_elements h)

-- after the last element the total is tested
done : (s : List ℕ) (used : List Element) (step place count i at total : ℕ) {r : Read (List Element)} → count ≤ i
    → into (all used count) i (rest step place count i total s at) ≡ r → into (all used count) i (read_total place total s at) ≡ r
done s used step place count i at total le h =
    sym (into_end (λ t. read_element) (tally step) (read_total place) s (all used count) count i at total le) ∙ h

pub loop-slot-init : goal.loop-slot-init
unfolding read_elements
loop-slot-init c = (omega arith, rw (c.empty_elements-elements.ensures, take-append-drop c.args.count empty_elements, sub-zero))

pub returns-in_err-element : goal.returns-in_err-element
returns-in_err-element c =
    let l = c.loop-slot in
    let a = c.args in
    let n = size _ a.count c.empty_elements-elements.ensures c.requires.most in
    let lt : l.slot-index < a.count = omega (arith, n, c.loop-slot-test.true) in
    rw (handed_on _ c.from_residual.result c.from_residual.ensures.1)
    (sym (into_refused (λ t. read_element) (tally a.step) (read_total a.place) _ (all l.slot-items a.count) a.count l.slot-index _ l.total lt c.in_err-element.ensures) ∙ l.invariant.1)

pub tally_element-total-requires : goal.tally_element-total-requires
tally_element-total-requires c =
    let n = size _ c.args.count c.empty_elements-elements.ensures c.requires.most in
    record { positive = c.requires.positive; room = omega (arith, n, c.loop-slot.invariant.0, c.requires.most, c.loop-slot-test.true) }

pub loop-slot-preserved : goal.loop-slot-preserved
loop-slot-preserved c =
    let l = c.loop-slot in
    let a = c.args in
    let e = c.in_ok-element.element in
    let n = size _ a.count c.empty_elements-elements.ensures c.requires.most in
    let lt : l.slot-index < a.count = omega (arith, n, c.loop-slot-test.true) in
    let within : l.slot-index < length l.slot-items = omega (arith, c.loop-slot-test.true) in
    let t : c.tally_element-total.result ≡ tally a.step l.total e = c.tally_element-total.ensures in (
      omega (arith, t, l.invariant.0, tally_read a.step l.total _ _ e _ (sym c.in_ok-element.ensures)),
      rw (← set-append_left l.slot-items (drop a.count empty_elements) l.slot-index e within, t)
          (sym (into_more (λ t. read_element) (tally a.step) (read_total a.place) _ (all l.slot-items a.count) a.count l.slot-index _ l.total lt c.in_ok-element.ensures) ∙ l.invariant.1),
    )

pub returns-then-steps_allowed : goal.returns-then-steps_allowed
returns-then-steps_allowed c =
    let l = c.loop-slot in
    let a = c.args in
    let n = size _ a.count c.empty_elements-elements.ensures c.requires.most in
    let le : a.count ≤ l.slot-index = omega (arith, n, c.loop-slot-test.false) in
    let total = done a.s.now l.slot-items a.step a.place a.count l.slot-index l.at.at l.total le l.invariant.1 in
    rw c.empty_elements-elements.ensures (rw (sym c.steps_allowed.ensures ∙ c.if-steps_allowed.true) at total)

pub returns : goal.returns
returns c =
    let l = c.loop-slot in
    let a = c.args in
    let n = size _ a.count c.empty_elements-elements.ensures c.requires.most in
    let le : a.count ≤ l.slot-index = omega (arith, n, c.loop-slot-test.false) in
    let total = done a.s.now l.slot-items a.step a.place a.count l.slot-index l.at.at l.total le l.invariant.1 in
    rw c.at.ensures (rw (sym c.steps_allowed.ensures ∙ c.if-steps_allowed.false) at total)
