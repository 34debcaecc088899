use Rattle.std.proofs.Common.{List, get_or, length, rules, take, sym, ap, subst, ◌∙◌, arith}
use Rattle.std.proofs.lemmas.Iterator.Adapters.{YieldsList-from_vec}
use Rattle.std.proofs.lemmas.Iterator.Consumers.{YieldsList-end, YieldsList-turn}
use Rattle.std.proofs.lemmas.List.{length_push}
use Rattle.run_text.specs.Lines.{Line}
use Rattle.run_text.specs.Knowing.{AreMade}
use Rattle.run_text.proofs.LineLemmas.{refused_on}
use Rattle.run_text.proofs.MakeLemmas.{next_told}
use Rattle.run_text.proofs.TellLemmas.{all_taken, one_more}
use Rattle.run_text.proofs.making.Making.of.Goals as goal

pub loop-line-init : goal.loop-line-init
loop-line-init c notes is are some low =
    c.in_ok-making.ensures c.args.arenas notes (c.in_ok-filler.ensures notes (c.deref.ensures.value ∙ is) are some)

pub returns-in_err-add : goal.returns-in_err-add
returns-in_err-add c notes is are some low =
    let told = c.args.told.items in
    let i = length c.loop-line.yielded in
    let x = c.in-Some.line in
    let t = YieldsList-turn
    (YieldsList-from_vec {s = c.into_iter-line-iterator.result} told (search (rules)) (search (rules)))
    c.loop-line.yielded c.loop-line.line-iterator c.loop-line.yielded_by c.next.result c.next.new.self x c.in-Some.is
    c.next.ensures.steps in
    let n = next_told c.args.arenas c.args.lanes notes told is are low i x t.0 t.1 in
    refused_on _ _ _ c.from_residual-in_err-add.ensures.1
    (c.in_err-add.ensures c.args.arenas c.args.lanes notes (take i notes) (get_or notes i x).1
    (c.loop-line.invariant notes is are some low) n.0 n.1 n.2)

pub loop-line-preserved : goal.loop-line-preserved
loop-line-preserved c notes is are some low =
    let told = c.args.told.items in
    let i = length c.loop-line.yielded in
    let x = c.in-Some.line in
    let t = YieldsList-turn
    (YieldsList-from_vec {s = c.into_iter-line-iterator.result} told (search (rules)) (search (rules)))
    c.loop-line.yielded c.loop-line.line-iterator c.loop-line.yielded_by c.next.result c.next.new.self x c.in-Some.is
    c.next.ensures.steps in
    let n = next_told c.args.arenas c.args.lanes notes told is are low i x t.0 t.1 in
    subst (λ (before : List Line). AreMade c.args.arenas c.args.lanes notes before c.add.new.self)
    (one_more c.args.arenas notes told is are i t.0 x x t.1
    ∙ ap (λ k. take k notes) (sym (length_push c.loop-line.yielded x)))
    (c.in_ok-add.ensures c.args.arenas c.args.lanes notes (take i notes) (get_or notes i x).1
    (c.loop-line.invariant notes is are some low) n.0 n.1 n.2)

pub returns : goal.returns
returns c notes is are some low =
    let told = c.args.told.items in
    let t = YieldsList-end
    (YieldsList-from_vec {s = c.into_iter-line-iterator.result} told (search (rules)) (search (rules)))
    c.loop-line.yielded c.loop-line.line-iterator c.loop-line.yielded_by c.next.result c.next.new.self c.in-None.is
    c.next.ensures.steps in
    subst (λ (before : List Line). AreMade c.args.arenas c.args.lanes notes before c.loop-line.making)
    (all_taken c.args.arenas notes told is are (length c.loop-line.yielded) (omega (arith, t.1)))
    (c.loop-line.invariant notes is are some low)
