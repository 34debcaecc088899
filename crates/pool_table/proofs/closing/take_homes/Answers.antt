use Rattle.std.proofs.Common.{rules, ◌≡◌, ◌≢◌, ◌+◌, ◌<◌, ◌≤◌, ℕ, false, refl, sym, ap, ◌∙◌, subst, arith, get_or-set_same, get_or-set_other, length, lt_of_not-le}
use Rattle.std.specs.Prelude.{Some, is_some, slice_index_or, slice_set}
use mathlib.Core.Option.{some, some-injective}
use Rattle.std.specs.Mem.Slots.{slots_items, slots_filled, slots_len, slots_counts}
use mathlib.Core.Logic.{dite}
use native.Mathlib.Decide.{ℕ_discrete, dec_le}
use lib.ListN.{get_elem?}
use Rattle.atomic_table.proofs.Lists.{at_last}
use Rattle.pool_law.specs.Homes.{objects_of}
use Rattle.pool_table.specs.Slots.{slot_at, slots_of}
use Rattle.pool_table.proofs.Slots.{first_slot, slots_rise, slots_rise_on}
use Rattle.pool_table.proofs.closing.take_homes.Goals as goal
use Rattle.step_law.proofs.Changes.{at_left}

pub loop-i-init : goal.loop-i-init
loop-i-init g c = let s = c.args.shape.now in record {
  many = search (rules, c.requires.room.0);
  laid = λ k lt. absurd (omega (arith, lt));
  room = c.requires.room.1;
  same = refl;
  count = c.requires.full.1;
  full = λ k le lt. c.requires.full.0 k (omega arith) (subst (λ (n : ℕ). k < n) (sym c.requires.full.1) lt);
  empty =
      λ k lt. (let n : ℕ = slot_at s 0 in let z : n
      ≡ 0 = first_slot s in let lt' : k < n = lt in absurd (omega (arith, z, lt')));
}

pub take-bare-requires : goal.take-bare-requires
take-bare-requires g c = let s = c.args.shape.now in let i : ℕ = c.loop-i.i in
    let fs = slots_filled c.loop-i.closed.slots in
    let lt : i < objects_of s = subst (λ (n : ℕ). i < n) c.object_count-count.ensures c.loop-i-test.true in
    let near : slot_at s i < slots_of s = slots_rise s i (objects_of s) lt in
    let le : slot_at s i ≤ slot_at s i = slots_rise_on s i i (omega arith) in (
      subst (λ (y : ℕ × ℕ). y.0 < y.1) (λ q. (sym c.slot_index-slot.ensures q, sym c.loop-i.invariant.count q)) near,
      ap (λ (n : ℕ). slice_index_or fs n false) c.slot_index-slot.ensures
          ∙ c.loop-i.invariant.full (slot_at s i) le near,
    )

pub take-requires : goal.take-requires
take-requires g c = let s = c.args.shape.now in let i : ℕ = c.loop-i.i in
    let lt : i < objects_of s = subst (λ (n : ℕ). i < n) c.object_count-count.ensures c.loop-i-test.true in
    let home = c.requires.there i lt in
    ap is_some
    (some-injective c.take-bare.result (Some home.0)
    (sym c.take-bare.ensures.value
    ∙ (ap (λ (n : ℕ). get_elem? (slots_items c.loop-i.closed.slots) n) c.slot_index-slot.ensures
    ∙ (ap (λ l. get_elem? l (slot_at s i)) c.loop-i.invariant.same ∙ home.1))))

pub pass_empty-requires-clause-within : goal.pass_empty-requires-clause-within
pass_empty-requires-clause-within g c = let s = c.args.shape.now in let i : ℕ = c.loop-i.i in
    let lt : i < objects_of s = subst (λ (n : ℕ). i < n) c.object_count-count.ensures c.loop-i-test.true in (
      subst (λ (y : ℕ × ℕ). y.0 < y.1) (λ q. (sym c.slot_index-slot.ensures q, sym c.slot_index.ensures q))
          (slots_rise s i (i + 1) (omega arith)),
      subst (λ (y : ℕ × ℕ). y.0 ≤ y.1)
          (λ q. (sym c.slot_index.ensures q, sym (c.take-bare.ensures.others.2 ∙ c.loop-i.invariant.count) q))
          (slots_rise_on s (i + 1) (objects_of s)
          (let n : ℕ = objects_of s in let lt' : i < n = lt in omega (arith, lt'))),
    )

pub pass_empty-requires-clause-full : goal.pass_empty-requires-clause-full
pass_empty-requires-clause-full g c = λ k low high.
    let s = c.args.shape.now in let i : ℕ = c.loop-i.i in let d : ℕ = c.slot_index-slot.result in let fs =
    slots_filled c.loop-i.closed.slots in
    let lt : i < objects_of s = subst (λ (n : ℕ). i < n) c.object_count-count.ensures c.loop-i-test.true in
    let u : ℕ = slot_at s i in let w : ℕ = slot_at s (i + 1) in let t : ℕ = slots_of s in
    let is : d ≡ u = c.slot_index-slot.ensures in let end : c.slot_index.result ≡ w = c.slot_index.ensures in
    let most : w ≤ t = slots_rise_on s (i + 1) (objects_of s)
    (let n : ℕ = objects_of s in let lt' : i < n = lt in omega (arith, lt')) in
    ap (λ l. slice_index_or l k false) c.take-bare.ensures.others.1
    ∙ (get_or-set_other fs d k false false (λ e. omega (arith, e, low))
    ∙ c.loop-i.invariant.full k (let g : u ≤ k = omega (arith, is, low) in g)
    (let g : k < t = omega (arith, end, most, high) in g))

pub loop-i-preserved : goal.loop-i-preserved
loop-i-preserved g c =
    let s = c.args.shape.now in let i : ℕ = c.loop-i.i in let d : ℕ = c.slot_index-slot.result in let fs =
    slots_filled c.loop-i.closed.slots in
    let xs = slots_items c.loop-i.closed.slots in let ws = c.loop-i.homes.items in let x = Some c.take.result in
    let lt : i < objects_of s = subst (λ (n : ℕ). i < n) c.object_count-count.ensures c.loop-i-test.true in
    let u : ℕ = slot_at s i in let w : ℕ = slot_at s (i + 1) in let t : ℕ = slots_of s in
    let is : d ≡ u = c.slot_index-slot.ensures in let end : c.slot_index.result ≡ w = c.slot_index.ensures in
    let near : u < t = slots_rise s i (objects_of s) lt in let up : u < w = slots_rise s i (i + 1) (omega arith) in
    let long : length ws ≡ i = search (rules, c.loop-i.invariant.many) in
    let values : slots_items c.pass_empty.new.closed.slots ≡ xs = c.pass_empty.ensures.same.0
    ∙ c.take-bare.ensures.others.0 in
    let other : (k : ℕ) → k ≢ d → slice_index_or (slots_filled c.take-bare.new.self.slots) k false
    ≡ slice_index_or fs k false =
    (λ k ne. ap (λ l. slice_index_or l k false) c.take-bare.ensures.others.1
    ∙ get_or-set_other fs d k false false ne) in
    record {
      many = c.in-Ok.ensures.len ∙ (let a = c.loop-i.invariant.many in omega (arith, a));
      laid = λ k near. ap (λ l. get_elem? l k) c.in-Ok.ensures.items ∙ (dite (ℕ_discrete k i)
          (λ e. at_last ws x k (long ∙ sym e)
          ∙ (sym (c.take-bare.ensures.value ∙ ap some c.take.ensures.0)
          ∙ ap (λ (n : ℕ). get_elem? xs n) (is ∙ ap (slot_at s) (sym e))))
          (λ ne. at_left ws x k (subst (λ (n : ℕ). k < n) (sym long) (omega (arith, near, ne)))
          ∙ c.loop-i.invariant.laid k (omega (arith, near, ne)))
          ∙ ap (λ l. get_elem? l (slot_at s k)) (sym values));
      room = (let a = c.loop-i.invariant.room in let b = c.in-Ok.ensures.capacity in omega (arith, a, b));
      same = values ∙ c.loop-i.invariant.same;
      count = c.pass_empty.ensures.same.1 ∙ (c.take-bare.ensures.others.2 ∙ c.loop-i.invariant.count);
      full =
          λ k le lt. (let le' : w ≤ k = le in c.pass_empty.ensures.behind k
          (let g : c.slot_index.result ≤ k = omega (arith, le', end) in g)
          ∙ (other k (λ e. omega (arith, e, is, up, le'))
          ∙ c.loop-i.invariant.full k (let g : u ≤ k = omega (arith, up, le') in g) lt));
      empty = λ k lt. (let lt' : k < w = lt in dite (dec_le k d)
          (λ le. c.pass_empty.ensures.before k le ∙ dite (ℕ_discrete k d)
          (λ e. ap (λ l. slice_index_or l k false) c.take-bare.ensures.others.1
          ∙ (ap (λ j. slice_index_or (slice_set fs d false) j false) e
          ∙ get_or-set_same fs d false false
          (let a = (slots_counts c.loop-i.closed.slots).1 in let b = c.loop-i.invariant.count in let n : ℕ =
          length fs in let m : ℕ = slots_len c.loop-i.closed.slots in let a' : m ≡ n = a in let b' : m
          ≡ t = b in let q : d < n = omega (arith, a', b', near, is) in q)))
          (λ ne. other k ne ∙ c.loop-i.invariant.empty k (let g : k < u = omega (arith, is, le, ne) in g)))
          (λ gt. c.pass_empty.ensures.empty k (lt_of_not-le gt)
          (let g : k < c.slot_index.result = omega (arith, end, lt') in g)));
    }
