use Rattle.std.proofs.Common.{◌≡◌, ◌+◌, ◌≤◌, ℕ, List, [], length, sym, ap, ◌∙◌, subst, arith}
use Rattle.pool_law.specs.declared.id.Part.{Part}
use Rattle.pool_law.specs.Composites.{size_of}
use Rattle.share_run.specs.Standing.{IsFilled, IsFilling}
use Rattle.share_run.proofs.PartLaws.{filled, filling_first, filling_more, get_same, size_least}
use Rattle.share_run.proofs.parts.fill.Goals as goal

pub loop-number-init : goal.loop-number-init
loop-number-init g c =
    let e = c.in-Ok.ensures in
    record {
      filling =
          subst (λ (ps : List Part). IsFilling c.args.pool.now c.args.lane c.args.parts.now 0 ps c.args.seat.now)
          (sym e.items)
          (filling_first c.args.pool.now c.args.lane c.args.parts.now c.args.seat.now c.requires.parts.few.1
          c.requires.fresh);
      many = e.len;
      room = (let a = e.exact in omega (arith, a));
    }

pub place-requires-clause-few : goal.place-requires-clause-few
place-requires-clause-few g c =
    let a = ap (λ (x : List ℕ). length x) c.index-parts-number.is in
    let b = ap (λ (x : List ℕ). length x) c.items.ensures in
    let d = c.requires.parts.short c.loop-number.number c.index-parts-number.result c.loop-number-test.true in
    omega (arith, a, b, d)

pub loop-number-preserved : goal.loop-number-preserved
loop-number-preserved g c =
    let inv = c.loop-number.invariant in let e = c.push_reserved.ensures in
    let at = c.loop-number.number in let inputs = c.args.parts.now in
    let bytes = c.items.ensures ∙ c.index-parts-number.is
    ∙ get_same inputs at c.index-parts-number.result [] c.loop-number-test.true in
    let short : length c.items.result.now ≤ 2048 =
    (let a = ap (λ (x : List ℕ). length x) c.index-parts-number.is in
    let b = ap (λ (x : List ℕ). length x) c.items.ensures in
    let d = c.requires.parts.short at c.index-parts-number.result c.loop-number-test.true in
    omega (arith, a, b, d)) in
    record {
      filling =
          subst (λ (ps : List Part). IsFilling c.args.pool.now c.args.lane inputs (at + 1) ps c.place.new.seat)
          (sym e.items)
          (filling_more c.args.pool.now c.args.lane inputs at c.loop-number.placed.items c.loop-number.seat
          c.place.new.seat c.in_ok-part.part c.items.result.now c.loop-number-test.true bytes short inv.filling
          c.in_ok-part.ensures.placed);
      many = (let a = e.len in let b = inv.many in omega (arith, a, b));
      room = (let a = e.capacity in let b = inv.room in omega (arith, a, b));
    }

pub new-requires-clause-size : goal.new-requires-clause-size
new-requires-clause-size g c =
    let inv = c.loop-number.invariant in
    let a = ap (λ (ps : List Part). size_of ps) c.of.ensures in
    let b = size_least c.loop-number.placed.items inv.filling.short in let d = inv.many in
    let e = c.loop-number.placed.ok.0 in let f = c.loop-number.auto.number-end in
    let h = c.requires.parts.few.1 in omega (arith, a, b, d, e, f, h)

pub returns-in-Ok-new-clause-filled : goal.returns-in-Ok-new-clause-filled
returns-in-Ok-new-clause-filled g c =
    let pool = c.args.pool.now in let lane = c.args.lane in let inputs = c.args.parts.now in
    let seat = c.loop-number.seat in let placed = c.loop-number.placed.items in
    let all : c.loop-number.number ≡ length inputs =
    (let a = c.loop-number.auto.number-end in let b = c.loop-number-test.false in omega (arith, a, b)) in
    let one = filled pool lane inputs placed seat
    (subst (λ (n : ℕ). IsFilling pool lane inputs n placed seat) all c.loop-number.invariant.filling) in
    subst (λ (ps : List Part). IsFilled pool lane inputs ps seat) (sym (c.in-Ok-new.ensures ∙ c.of.ensures)) one
