use Rattle.std.proofs.Common.{ℕ, ◌+◌, ◌-◌, ◌*◌, ◌<◌, ◌≤◌, length, get_or, refl, sym, subst, ap, arith}
use Rattle.shared_composite.specs.Boards.{view_of}
use Rattle.share_run.specs.declared.readers.Reader.{Reader}
use Rattle.share_run.specs.Reading.{IsBlank, IsReady}
use Rattle.share_run.proofs.ListSteps.{left_more, length_set, next_item}
use Rattle.share_run.proofs.MeetLaws.{all_more, asked_more, moves_more, new_spent, turns_more}
use Rattle.share_run.proofs.dealing.deal_all.Goals as goal

pub deal-requires-clause-blank : goal.deal-requires-clause-blank
deal-requires-clause-blank c =
    let l = c.loop-reader in let d = c.reader-item.result in
    subst (λ (r : Reader). IsBlank c.args.wholes.now r)
    (sym (next_item l.reader-index c.args.readers.now l.readers d l.invariant.left))
    (c.requires.blank l.reader-index d (let a = l.invariant.many in let b = c.loop-reader-test.true in
    omega (arith, a, b)))

pub loop-reader-preserved : goal.loop-reader-preserved
loop-reader-preserved c =
    let l = c.loop-reader in let inv = l.invariant in let d = c.reader-item.result in let at = l.reader-index in
    let old = c.args.readers.now in let r = c.deal.new.reader in let e = c.deal.ensures in
    let lt : at < length l.readers = (let a = inv.many in let b = c.loop-reader-test.true in omega (arith, a, b)) in
    let below : at < length old = (let a = inv.many in omega (arith, a, lt)) in
    let next = next_item at old l.readers d inv.left in
    let wide = length_set l.readers at r in
    record {
      chief = e.chief;
      turns =
          (let a = turns_more c.args.composites (length l.readers - at) (length l.readers - (at + 1)) c.args.share
          (view_of l.chief).turns (view_of c.deal.new.chief).turns
          (omega (arith, lt)) inv.turns e.deals.turns_left in
          subst (λ (n : ℕ). c.args.composites + (n - (at + 1)) * c.args.share
          ≤ (view_of c.deal.new.chief).turns) (sym wide) a);
      moves =
          (let a = inv.moves in let b = moves_more at old d below in let f = e.deals.moves_left in
          let h = ap (λ (x : Reader). length x.seen.items) next in
          let k = (get_or l.readers at d).seen.ok.0 in omega (arith, a, b, f, h, k));
      many = (let a = wide in let b = inv.many in omega (arith, a, b));
      left = left_more at old l.readers r inv.left;
      ready = all_more at old l.readers d r lt (IsReady c.args.board.now c.args.wholes.now) inv.ready e.ready;
      asked = asked_more at old l.readers d r lt inv.many inv.left (get_or l.readers at d) refl e.seen inv.asked;
      spent =
          (let a = new_spent at old l.readers d r lt in let b = inv.spent in let f = e.deals.spent_is in
          omega (arith, a, b, f));
    }
