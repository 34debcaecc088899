use Rattle.std.proofs.Common.{rules, ◌≡◌, ℕ, ◌+◌, ◌-◌, ◌++◌, [], ◌∷◌, length, sym, ap, ◌∙◌, arith, length-append, append-nil, take, drop}
use Rattle.std.proofs.Math.Seq.{take-append_seam}
use Rattle.std.specs.Prelude.{Some, None, is_some, replicate, filter_map, vec_len, reverse}
use Rattle.pool_law.specs.Homes.{objects_of}
use Rattle.pool_table.specs.Slots.{laid_out}
use Rattle.pool_table.proofs.Unwrapping.{last_slot, last_once, goes_over, still_laid, none_left, some_once}
use Rattle.pool_table.proofs.making.unwrapped.Goals as goal

pub loop-left-init : goal.loop-left-init
loop-left-init g c = record {
  laid = c.requires.laid;
  left = c.requires.many ∙ sym c.object_count-left.ensures;
  order = ap (λ l. filter_map (λ x. x) c.args.slots.items ++ reverse l) c.requires.empty
      ∙ append-nil (filter_map (λ x. x) c.args.slots.items);
  many =
      (let n : ℕ = objects_of c.args.shape.now in let long : length c.args.homes.items ≡ vec_len c.args.homes =
      search (rules) in
      let none = ap length c.requires.empty in let all : c.object_count-left.result ≡ n = c.object_count-left.ensures in
      let out : c.object_count-left.result + vec_len c.args.homes ≡ n = omega (arith, long, none, all) in out);
  room = c.requires.room;
}

pub drop_empty-requires : goal.drop_empty-requires
drop_empty-requires g c =
    let s = c.args.shape.now in let slots = c.loop-left.slots.items in let gap : ℕ = c.gap_count.result in
    let r = last_slot s slots c.loop-left.left gap c.loop-left.invariant.laid c.loop-left.invariant.left
    c.loop-left-test.true c.gap_count.ensures in
    λ κs below. (below, r.2 ∙ ap (λ l. l ++ replicate gap None) (sym r.5))

pub unreachable-requires : goal.unreachable-requires
unreachable-requires g c =
    let s = c.args.shape.now in let slots = c.loop-left.slots.items in let gap : ℕ = c.gap_count.result in
    let r = last_slot s slots c.loop-left.left gap c.loop-left.invariant.laid c.loop-left.invariant.left
    c.loop-left-test.true c.gap_count.ensures in
    let now = ap length (c.drop_empty.ensures ∙ r.5) in
    let more = length-append (laid_out s 0 r.0) (Some r.1 ∷ []) in
    let long : length c.drop_empty.new.slots.items ≡ vec_len c.drop_empty.new.slots = search (rules) in
    let none = c.in_default.ensures.cases.0 in omega (arith, now, more, long, none)

pub take-requires : goal.take-requires
take-requires g c =
    let s = c.args.shape.now in let slots = c.loop-left.slots.items in let gap : ℕ = c.gap_count.result in
    let r = last_slot s slots c.loop-left.left gap c.loop-left.invariant.laid c.loop-left.invariant.left
    c.loop-left-test.true c.gap_count.ensures in
    ap is_some
    (last_once c.pop.new.self.items (laid_out s 0 r.0) c.in-Some.bare (Some r.1)
    (sym c.in-Some.ensures.items ∙ (c.drop_empty.ensures ∙ r.5))).1

pub loop-left-preserved : goal.loop-left-preserved
loop-left-preserved g c =
    let s = c.args.shape.now in let slots = c.loop-left.slots.items in let gap : ℕ = c.gap_count.result in
    let r = last_slot s slots c.loop-left.left gap c.loop-left.invariant.laid c.loop-left.invariant.left
    c.loop-left-test.true c.gap_count.ensures in
    let last = last_once c.pop.new.self.items (laid_out s 0 r.0) c.in-Some.bare (Some r.1)
    (sym c.in-Some.ensures.items ∙ (c.drop_empty.ensures ∙ r.5)) in
    let same = some_once r.1 c.take.result (sym last.1 ∙ c.take.ensures.0) in
    let still = still_laid s c.pop.new.self.items r.0 (c.loop-left.left - 1) last.0 r.4 in
    let test = c.loop-left-test.true in let many = c.loop-left.invariant.many in
    let room = c.loop-left.invariant.room in let more = c.in-Ok.ensures.len in
    let most = c.in-Ok.ensures.capacity in record {
      laid = still.0;
      left = still.1;
      order =
          ap (λ l. filter_map (λ x. x) c.pop.new.self.items ++ reverse l) c.in-Ok.ensures.items
          ∙ goes_over s slots c.pop.new.self.items c.loop-left.homes.items _ r.0 r.1 c.take.result r.3 last.0 same
          c.loop-left.invariant.order;
      many = omega (arith, many, more, test);
      room = omega (arith, room, most);
    }

pub destroy_empty-requires : goal.destroy_empty-requires
destroy_empty-requires g c =
    let test = c.loop-left-test.false in let left = c.loop-left.invariant.left in
    let none = ap length
    (none_left c.args.shape.now c.loop-left.slots.items c.loop-left.invariant.laid (omega (arith, left, test))) in
    let long : length c.loop-left.slots.items ≡ vec_len c.loop-left.slots = search (rules) in omega (arith, none, long)

pub returns : goal.returns
returns g c =
    let test = c.loop-left-test.false in let left = c.loop-left.invariant.left in
    let none = none_left c.args.shape.now c.loop-left.slots.items c.loop-left.invariant.laid
    (omega (arith, left, test)) in
    let order : reverse c.loop-left.homes.items ≡ filter_map (λ x. x) c.args.slots.items =
    ap (λ l. filter_map (λ x. x) l ++ reverse c.loop-left.homes.items) (sym none)
    ∙ c.loop-left.invariant.order in
    let homes = c.loop-left.homes.items in let now = c.reverse.new.self in let rest = drop (length now) homes in
    let long : length now ≡ c.loop-left.homes.len = c.reverse.ensures.len ∙ c.as_mut_slice.ensures.len in
    ap (λ n. take n (now ++ rest)) (sym long)
    ∙ (take-append_seam now rest ∙ (c.reverse.ensures.after ∙ (ap reverse c.as_mut_slice.ensures.value ∙ order)))
