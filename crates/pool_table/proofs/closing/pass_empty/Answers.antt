use Rattle.std.proofs.Common.{◌≡◌, ◌<◌, ℕ, false, ap, ◌∙◌, arith, get_or-set_same, get_or-set_other, length}
use Rattle.std.specs.Prelude.{slice_index_or, slice_set}
use Rattle.std.specs.Mem.Slots.{slots_filled, slots_len, slots_counts}
use mathlib.Core.Logic.{dite}
use native.Mathlib.Decide.{ℕ_discrete}
use Rattle.pool_table.proofs.closing.pass_empty.Goals as goal

pub loop-k-preserved : goal.loop-k-preserved
loop-k-preserved g c =
    let k = c.loop-k.k in let fs = slots_filled c.loop-k.closed.slots in let past = c.loop-k.invariant.past in record {
      same = c.take.ensures.others.0 ∙ c.loop-k.invariant.same;
      count = c.take.ensures.others.2 ∙ c.loop-k.invariant.count;
      past = omega (arith, past);
      full =
          λ j le lt. ap (λ l. slice_index_or l j false) c.take.ensures.others.1
          ∙ (get_or-set_other fs k j false false (λ e. omega (arith, e, le))
          ∙ c.loop-k.invariant.full j (omega (arith, le)) lt);
      empty = λ j low lt. ap (λ l. slice_index_or l j false) c.take.ensures.others.1 ∙ dite (ℕ_discrete j k)
          (λ e. ap (λ m. slice_index_or (slice_set fs k false) m false) e
          ∙ get_or-set_same fs k false false
          (let a = (slots_counts c.loop-k.closed.slots).1 in let b = c.loop-k.invariant.count in let w =
          c.requires.within.1 in let d =
          c.loop-k-test.true in let n : ℕ = length fs in let m : ℕ = slots_len c.loop-k.closed.slots in
          let a' : m ≡ n = a in let q : k < n = omega (arith, a', b, w, d) in q))
          (λ ne. get_or-set_other fs k j false false ne ∙ c.loop-k.invariant.empty j low (omega (arith, lt, ne)));
      before =
          λ j le. ap (λ l. slice_index_or l j false) c.take.ensures.others.1
          ∙ (get_or-set_other fs k j false false (λ e. omega (arith, e, le, past)) ∙ c.loop-k.invariant.before j le);
      behind =
          λ j le. ap (λ l. slice_index_or l j false) c.take.ensures.others.1
          ∙ (get_or-set_other fs k j false false (λ e. let d = c.loop-k-test.true in omega (arith, e, le, d))
          ∙ c.loop-k.invariant.behind j le);
    }
