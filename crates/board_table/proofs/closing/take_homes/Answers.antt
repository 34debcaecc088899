use Rattle.std.proofs.Common.{rules, ◌≡◌, ◌≢◌, ◌<◌, ℕ, false, length, sym, ap, ◌∙◌, arith, get_or-set_same, get_or-set_other}
use Rattle.std.specs.Prelude.{slice_index_or, slice_set}
use Rattle.std.specs.Mem.Slots.{slots_items, slots_filled, slots_len, slots_counts}
use mathlib.Core.Logic.{dite}
use native.Mathlib.Decide.{ℕ_discrete}
use lib.ListN.{get_elem?}
use Rattle.atomic_table.proofs.Lists.{at_last}
use Rattle.board_table.proofs.closing.take_homes.Goals as goal
use Rattle.step_law.proofs.Changes.{at_left}

pub loop-k-preserved : goal.loop-k-preserved
loop-k-preserved g c =
    let n : ℕ = c.loop-k.k in let xs = slots_items c.loop-k.closed.slots in let fs = slots_filled c.loop-k.closed.slots
    in let ws = c.loop-k.slots.items in let x = c.take.result in let lt = c.loop-k-test.true in
    let items = c.in-Ok.ensures.items in
    let other : (k : ℕ) → k ≢ n → slice_index_or (slots_filled c.take.new.self.slots) k false
    ≡ slice_index_or fs k false =
    (λ k ne. ap (λ l. slice_index_or l k false) c.take.ensures.others.1 ∙ get_or-set_other fs n k false false ne) in
    let near : n < length fs = (let a = (slots_counts c.loop-k.closed.slots).1 in let b = c.loop-k.invariant.count in
    let m : ℕ = slots_len c.loop-k.closed.slots in let z : ℕ = length fs in let a' : m ≡ z = a in let b' : m
    ≡ c.args.composites = b in omega (arith, a', b', lt)) in
    record {
      many = search (rules, c.in-Ok.ensures.len, c.loop-k.invariant.many);
      laid = λ k here. ap (λ l. get_elem? l k) items ∙ (dite (ℕ_discrete k n)
          (λ e. at_last ws x k (c.loop-k.invariant.many ∙ sym e)
          ∙ (sym c.take.ensures.value ∙ ap (λ (j : ℕ). get_elem? xs j) (sym e)))
          (λ ne. at_left ws x k (let m = c.loop-k.invariant.many in omega (arith, here, ne, m))
          ∙ c.loop-k.invariant.laid k (omega (arith, here, ne)))
          ∙ ap (λ l. get_elem? l k) (sym c.take.ensures.others.0));
      room = (let a = c.loop-k.invariant.room in let b = c.in-Ok.ensures.capacity in omega (arith, a, b));
      same = c.take.ensures.others.0 ∙ c.loop-k.invariant.same;
      count = c.take.ensures.others.2 ∙ c.loop-k.invariant.count;
      full = λ k le here. other k (λ e. omega (arith, e, le)) ∙ c.loop-k.invariant.full k (omega (arith, le)) here;
      empty = λ k here. dite (ℕ_discrete k n)
          (λ e. ap (λ l. slice_index_or l k false) c.take.ensures.others.1
          ∙ (ap (λ j. slice_index_or (slice_set fs n false) j false) e ∙ get_or-set_same fs n false false near))
          (λ ne. other k ne ∙ c.loop-k.invariant.empty k (omega (arith, here, ne)));
    }
