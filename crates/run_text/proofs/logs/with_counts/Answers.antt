use Rattle.std.proofs.Common.{◌≡◌, ◌++◌, ◌∷◌, [], rules, List, length, take, sym, ap, arith, ◌∙◌}
use Rattle.std.proofs.lemmas.Iterator.Adapters.{YieldsList-from_vec}
use Rattle.std.proofs.lemmas.Iterator.Consumers.{YieldsList-end, YieldsList-turn}
use Rattle.std.proofs.lemmas.List.{length_push, length-map, length-take, take_all}
use Rattle.pool_law.specs.declared.run.Answered.{Answered}
use Rattle.pool_law.specs.declared.run.Reply.{Reply}
use Rattle.run_text.proofs.LogsLemmas.{answer-at}
use Rattle.run_text.proofs.logs.with_counts.Goals as goal

pub loop-reply-preserved : goal.loop-reply-preserved
loop-reply-preserved c answered said counted few =
    let all = c.args.replies.items in
    let i = length c.loop-reply.yielded in
    let x = c.in-Some.reply in
    let t = YieldsList-turn
    (YieldsList-from_vec {s = c.into_iter-reply-iterator.result} all (search (rules)) (search (rules)))
    c.loop-reply.yielded c.loop-reply.reply-iterator c.loop-reply.yielded_by c.next.result c.next.new.self x
    c.in-Some.is c.next.ensures.steps in
    let now = c.loop-reply.invariant answered said counted few in
    let long : c.len.result ≡ i =
    omega (
      arith,
      ap (λ (list : List Answered). length list) now,
      length-take i answered,
      t.0,
      ap (λ (rs : List Reply). length rs) said,
      length-map answered (λ (a : Answered). a.reply),
    ) in
    c.in_ok-push.ensures.items
    ∙ ap (λ (list : List Answered). list ++ record { reply = x; notes = c.count_at-notes.result } ∷ []) now
    ∙ sym
    (answer-at answered all c.args.counts.now i x c.count_at-notes.result said counted t.0 t.1
    (λ k is small. c.count_at-notes.ensures k (rw long is) small) few)
    ∙ ap (λ k. take k answered) (sym (length_push c.loop-reply.yielded x))

pub returns : goal.returns
returns c answered said counted few =
    let all = c.args.replies.items in
    let t = YieldsList-end
    (YieldsList-from_vec {s = c.into_iter-reply-iterator.result} all (search (rules)) (search (rules)))
    c.loop-reply.yielded c.loop-reply.reply-iterator c.loop-reply.yielded_by c.next.result c.next.new.self c.in-None.is
    c.next.ensures.steps in
    c.of.ensures
    ∙ c.loop-reply.invariant answered said counted few
    ∙ take_all (length c.loop-reply.yielded) answered
    (omega (
      arith,
      t.1,
      ap (λ (rs : List Reply). length rs) said,
      length-map answered (λ (a : Answered). a.reply),
    ))
