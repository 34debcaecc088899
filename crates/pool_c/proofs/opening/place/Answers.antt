use Rattle.std.proofs.Common.{◌≡◌, ◌+◌, ◌<◌, ◌≤◌, ◌++◌, length, map, set, take, refl, sym, ap, ◌∙◌, subst, arith}
use Rattle.std.specs.Prelude.{All}
use Rattle.std.proofs.lemmas.List.{length-set, take_all}
use Rattle.pool_member.proofs.Lists.{all_passed}
use Rattle.pool_c.proofs.Placed.{held, held_more, in_boxes, IsReady, none_in, ready_more}
use Rattle.pool_c.proofs.opening.place.Goals as goal

pub loop-thread-init : goal.loop-thread-init
loop-thread-init c = record {
  left = omega (arith, c.requires.many);
  ready = λ k d lt. absurd (omega (arith, lt));
  held = refl;
}

pub remove-requires : goal.remove-requires
remove-requires c = let inv = c.loop-thread.invariant in omega (arith, inv.left, c.loop-thread-test.true)

pub loop-thread-preserved : goal.loop-thread-preserved
loop-thread-preserved c =
    let l = c.loop-thread in let inv = l.invariant in let r = c.put.new.self in let at = l.thread-index in
    let lt : at < length l.thread-items = omega (arith, c.loop-thread-test.true) in
    let some : 0 < length l.all.items = omega (arith, inv.left, lt) in
    record {
      left = (let w = length-set l.thread-items at r in let n = c.remove.ensures.len in omega (arith, w, n, inv.left));
      ready = ready_more l.thread-items at r lt inv.ready c.put.ensures.1;
      held =
          ap (λ all. map held (take (at + 1) (set l.thread-items at r)) ++ in_boxes all) c.remove.ensures.items
          ∙ held_more l.thread-items at r lt l.all.items c.remove.result some c.remove.ensures.value c.put.ensures.0
          ∙ inv.held;
    }

pub returns : goal.returns
returns c =
    let l = c.loop-thread in let inv = l.invariant in
    let past : length l.thread-items ≤ l.thread-index = omega (arith, c.loop-thread-test.false) in
    let all : take l.thread-index l.thread-items ≡ l.thread-items = take_all l.thread-index l.thread-items past in
    let none : length l.all.items ≡ 0 = omega (arith, inv.left, past) in
    record {
      ready = subst (All IsReady) all inv.ready;
      held =
          ap (map held) (sym all)
          ∙ all_passed (map held (take l.thread-index l.thread-items)) (in_boxes l.all.items)
          (in_boxes c.args.all.items) inv.held (none_in l.all.items none);
    }
