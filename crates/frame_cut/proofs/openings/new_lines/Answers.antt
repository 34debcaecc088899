use Rattle.std.proofs.Common.{ℕ, subst, arith}
use Rattle.frame_cut.specs.Openings.{AreLines}
use Rattle.frame_cut.proofs.LineLaws.{lines_none, lines_pushed}
use Rattle.frame_cut.proofs.openings.new_lines.Goals as goal

pub loop-init : goal.loop-init
loop-init c =
    let q = c.in_ok-queues in let s = c.in_ok-senders in let r = c.in_ok-receivers in
    record {
      lines =
          lines_none q.queues.items s.senders.items r.receivers.items q.ensures.items s.ensures.items r.ensures.items;
      queues = q.ensures.capacity;
      senders = s.ensures.capacity;
      receivers = r.ensures.capacity;
    }

pub push_reserved-requires : goal.push_reserved-requires
push_reserved-requires c =
    let l = c.loop in let a = l.invariant.lines.queues_many in let b = l.queues.ok.0 in let d = l.invariant.queues in
    let lt = c.loop-test.true in omega (arith, a, b, d, lt)

pub push_reserved-requires-in-loop : goal.push_reserved-requires-in-loop
push_reserved-requires-in-loop c =
    let l = c.loop in let a = l.invariant.lines.senders_many in let b = l.senders.ok.0 in let d = l.invariant.senders in
    let lt = c.loop-test.true in omega (arith, a, b, d, lt)

pub push_reserved-requires-in-loop-2 : goal.push_reserved-requires-in-loop-2
push_reserved-requires-in-loop-2 c =
    let l = c.loop in let a = l.invariant.lines.receivers_many in let b = l.receivers.ok.0 in
    let d = l.invariant.receivers in let lt = c.loop-test.true in omega (arith, a, b, d, lt)

pub loop-preserved : goal.loop-preserved
loop-preserved c =
    let l = c.loop in let inv = l.invariant in let x = c.in_ok-queue in
    let q = c.push_reserved.ensures in let s = c.push_reserved-in-loop.ensures in
    let r = c.push_reserved-in-loop-2.ensures in
    record {
      lines =
          lines_pushed l.counter l.queues.items c.push_reserved.new.self.items l.senders.items
          c.push_reserved-in-loop.new.self.items l.receivers.items c.push_reserved-in-loop-2.new.self.items x.queue
          x.sender x.receiver inv.lines
          (record {
            sends = x.ensures.sender.0;
            sent = x.ensures.sender.1;
            receives = x.ensures.receiver.0;
            got = x.ensures.receiver.1;
          }) q.items s.items r.items;
      queues = (let a = q.capacity in let b = inv.queues in omega (arith, a, b));
      senders = (let a = s.capacity in let b = inv.senders in omega (arith, a, b));
      receivers = (let a = r.capacity in let b = inv.receivers in omega (arith, a, b));
    }

pub returns : goal.returns
returns c =
    let l = c.loop in
    subst (λ (n : ℕ). AreLines n l.queues.items l.senders.items l.receivers.items)
    (let a = c.loop-test.false in let b = l.auto.counter-end in omega (arith, a, b)) l.invariant.lines
