use Rattle.std.proofs.Common.{◌≡◌, ◌+◌, ◌-◌, List, [], length, sym, subst, ◌∙◌, arith}
use Rattle.nest_run.specs.declared.replies.Reply.{Reply}
use Rattle.nest_run.specs.Standing.{HasGone, HasAnswered}
use Rattle.nest_run.proofs.CallLaws.{gone_first, gone_on, gone_last}
use Rattle.nest_run.proofs.RefusalLaws.{stands_fewer}
use Rattle.nest_run.proofs.play.play_all.Goals as goal

pub loop-call-init : goal.loop-call-init
loop-call-init g c =
    let e = c.in_ok-replies.ensures in
    record {
      gone =
          subst (λ (rs : List Reply). HasGone c.args.pool.now c.args.calls.now 0 c.args.play.now rs c.args.play.now)
          (sym e.items) (gone_first c.args.pool.now c.args.calls.now c.args.play.now c.requires);
      room = e.exact;
      many = e.len;
    }

pub answer-requires : goal.answer-requires
answer-requires g c =
    let lt = c.loop-call-test.true in
    stands_fewer c.args.pool.now c.loop-call.play (length c.args.calls.now - c.loop-call.call-index) 1
    (omega (arith, lt)) c.loop-call.invariant.gone.stands

pub loop-call-preserved : goal.loop-call-preserved
loop-call-preserved g c =
    let inv = c.loop-call.invariant in let e = c.push_reserved.ensures in
    record {
      gone =
          subst (λ (rs : List Reply).
          HasGone c.args.pool.now c.args.calls.now (c.loop-call.call-index + 1) c.args.play.now rs c.answer.new.self)
          (sym e.items)
          (gone_on c.args.pool.now c.args.calls.now c.loop-call.call-index c.args.play.now c.loop-call.play
          c.answer.new.self c.loop-call.replies.items c.call-item.result c.in_ok-reply.reply c.loop-call-test.true
          c.call-item.is inv.gone c.in_ok-reply.ensures.ok);
      room = e.capacity ∙ inv.room;
      many = (let a = e.len in let b = inv.many in omega (arith, a, b));
    }

pub returns-clause-ok : goal.returns-clause-ok
returns-clause-ok g c =
    subst (λ (rs : List Reply). HasAnswered c.args.pool.now c.args.calls.now c.args.play.now rs c.loop-call.play)
    (sym c.of.ensures)
    (gone_last c.args.pool.now c.args.calls.now c.loop-call.call-index c.args.play.now c.loop-call.play
    c.loop-call.replies.items c.loop-call-test.false c.loop-call.invariant.gone)
