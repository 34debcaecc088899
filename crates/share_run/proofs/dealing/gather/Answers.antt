use Rattle.std.proofs.Common.{◌<◌, ◌∙◌, length, refl, sym, subst, ap, arith, get_or}
use Rattle.share_run.specs.declared.readers.Reader.{Reader}
use Rattle.share_run.specs.Reading.{HasOwn, spent_in}
use Rattle.share_run.proofs.ListSteps.{left_more, length_set, next_item}
use Rattle.share_run.proofs.MeetLaws.{old_spent, seen_more}
use Rattle.share_run.proofs.dealing.gather.Goals as goal

pub take_back-requires-clause-own : goal.take_back-requires-clause-own
take_back-requires-clause-own c =
    let l = c.loop-reader in let d = c.reader-item.result in
    subst (λ (r : Reader). HasOwn c.args.board.now r.seat)
    (sym (next_item l.reader-index c.args.readers.now l.readers d l.invariant.left))
    (c.requires.own l.reader-index d (let a = l.invariant.many in let b = c.loop-reader-test.true in
    omega (arith, a, b)))

pub loop-reader-preserved : goal.loop-reader-preserved
loop-reader-preserved c =
    let l = c.loop-reader in let inv = l.invariant in let d = c.reader-item.result in let at = l.reader-index in
    let old = c.args.readers.now in let r = c.take_back.new.reader in let e = c.take_back.ensures in
    let lt : at < length l.readers = (let a = inv.many in let b = c.loop-reader-test.true in omega (arith, a, b)) in
    record {
      chief = e.chief;
      many = length_set l.readers at r ∙ inv.many;
      left = left_more at old l.readers r inv.left;
      seen = seen_more at old l.readers d r lt inv.many inv.left (get_or l.readers at d) refl e.seen inv.seen;
      spent =
          (let a = e.spent in let b = inv.spent in let f = old_spent at old l.readers d r lt inv.many inv.left in
          let h = ap (λ (x : Reader). spent_in x.seat) (next_item at old l.readers d inv.left) in
          omega (arith, a, b, f, h));
    }
