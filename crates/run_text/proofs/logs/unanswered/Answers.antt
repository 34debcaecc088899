use Rattle.std.proofs.Common.{rules, length, take, sym, ap, arith, ◌∙◌}
use Rattle.std.proofs.lemmas.Iterator.Adapters.{YieldsList-from_vec}
use Rattle.std.proofs.lemmas.Iterator.Consumers.{YieldsList-end, YieldsList-turn}
use Rattle.std.proofs.lemmas.List.{length_push, take_all}
use Rattle.run_text.specs.Knowing.{notes_in}
use Rattle.run_text.proofs.LogsLemmas.{notes-further}
use Rattle.run_text.proofs.logs.unanswered.Goals as goal

pub loop-list-preserved : goal.loop-list-preserved
loop-list-preserved c =
    let all = c.args.notes.items in
    let i = length c.loop-list.yielded in
    let x = c.in-Some.list in
    let t = YieldsList-turn
    (YieldsList-from_vec {s = c.into_iter-list-iterator.result} all (search (rules)) (search (rules)))
    c.loop-list.yielded c.loop-list.list-iterator c.loop-list.yielded_by c.next.result c.next.new.self x c.in-Some.is
    c.next.ensures.steps in
    notes-further c.loop-list.logs.items c.push.new.self.items _ all i x c.in_ok-push.ensures.items c.of-notes.ensures
    t.0 t.1 c.loop-list.invariant
    ∙ ap (λ k. notes_in (take k all)) (sym (length_push c.loop-list.yielded x))

pub returns : goal.returns
returns c =
    let all = c.args.notes.items in
    let t = YieldsList-end
    (YieldsList-from_vec {s = c.into_iter-list-iterator.result} all (search (rules)) (search (rules)))
    c.loop-list.yielded c.loop-list.list-iterator c.loop-list.yielded_by c.next.result c.next.new.self c.in-None.is
    c.next.ensures.steps in
    c.loop-list.invariant ∙ ap notes_in (take_all (length c.loop-list.yielded) all (omega (arith, t.1)))
