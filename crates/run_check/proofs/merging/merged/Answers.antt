use Rattle.std.proofs.Common.{rules, ℕ, ◌≡◌, ◌+◌, ◌-◌, length, take, refl, sym, ap, ◌∙◌}
use Rattle.std.proofs.lemmas.List.{take-map}
use Rattle.std.proofs.lemmas.Bool.{false≢true}
use Rattle.run_check.specs.Gathering.{left_of}
use Rattle.run_check.specs.Merging.{dones_in}
use Rattle.run_check.specs.declared.merging.Done.{Done}
use Rattle.run_check.proofs.FrontLemmas.{stops}
use Rattle.run_check.proofs.MergingLemmas.{so-far-none, so-far-next, numbered-next, left_total-set, part-is, part-shorter, none-first}
use Rattle.run_check.proofs.merging.merged.Goals as goal

pub loop-lane-init : goal.loop-lane-init
loop-lane-init c = rw c.new-dones.ensures.items (so-far-none (left_of c.args.left.items))

pub returns-in_default-first_of : goal.returns-in_default-first_of
returns-in_default-first_of c =
    absurd
    (none-first c.loop-lane.left.items c.in-Some.lane c.loop-lane.number c.index-notes.result.now
    (rw c.deref.ensures.value at c.in-Some.ensures.0) (rw c.deref.ensures.value at c.in-Some.ensures.1)
    c.index-notes.ensures c.in_default-first_of.ensures)

pub loop-lane-smaller : goal.loop-lane-smaller
loop-lane-smaller c =
    let notes = c.index-notes.result.now in
    left_total-set c.loop-lane.left.items c.in-Some.lane notes _ (rw c.deref.ensures.value at c.in-Some.ensures.1)
    c.index-notes.ensures (part-shorter notes.now c.in-Some-first_of.first c.in-Some-first_of.ensures.0)

pub loop-lane-preserved : goal.loop-lane-preserved
loop-lane-preserved c =
    let notes = c.index-notes.result.now in
    let size : c.len.result ≡ length c.push.new.self.items = search rules in
    let next : c.len.result + 1 ≡ c.loop-lane.number + 1 =
    numbered-next c.loop-lane.dones.items c.push.new.self.items _ c.loop-lane.number c.len.result
    c.loop-lane.invariant.numbers c.in_ok-push.ensures.items size in
    so-far-next (left_of c.args.left.items) c.loop-lane.left.items c.in-Some.lane c.loop-lane.number
    (c.len.result + 1) notes _ c.in-Some-first_of.first c.loop-lane.dones.items c.push.new.self.items _
    c.loop-lane.invariant (rw c.deref.ensures.value at c.in-Some.ensures.0)
    (rw c.deref.ensures.value at c.in-Some.ensures.1) c.index-notes.ensures c.in-Some-first_of.ensures.0
    (part-is notes.now) c.in_ok-push.ensures.items refl refl next

pub returns : goal.returns
returns c =
    let left = c.loop-lane.left.items in
    let dones = c.loop-lane.dones.items in
    let least = c.least_left-number.result in
    stops (left_of c.args.left.items) (left_of left) (dones_in dones) c.loop-lane.number least c.loop-lane.invariant
    c.least_left-number.ensures.most
    (rw c.deref-3.ensures.value at c.least_left-number.ensures.least)
    (rw c.deref.ensures.value at c.in_default.ensures)
    (λ none. false≢true (sym c.if-none_left.false ∙ c.none_left.ensures.1 (rw c.deref-2.ensures.value none)))
    (rw c.deref-3.ensures.value at c.least_left-number.ensures.there)
    (dones_in c.truncate.new.self.items)
    (ap dones_in (c.truncate.ensures.items ∙ ap (λ (n : ℕ). take n dones) c.saturating_sub.ensures)
    ∙ sym (take-map (λ (d : Done). (d.lane, d.did.now)) (least - 1) dones))
