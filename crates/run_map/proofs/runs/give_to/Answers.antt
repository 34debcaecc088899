use Rattle.std.proofs.Common.{◌∙◌, sym, subst, arith}
use Rattle.size_classes.specs.Spans.{Span, AreApart, AreSpacedFrom}
use Rattle.size_classes.proofs.OutLaws.{each-of}
use Rattle.run_map.specs.Spaced.{span_of_run}
use Rattle.run_map.specs.Stored.{stored}
use Rattle.run_map.proofs.Joining.{given-spaced, joined-placed}
use Rattle.run_map.proofs.runs.give_to.Goals as goal

pub put-requires-clause-spaced : goal.put-requires-clause-spaced
put-requires-clause-spaced c =
    let r : Span = span_of_run c.args.run in
    let runs = stored c.args.store.now in
    let is = c.requires.store.1 in
    let apart = each-of (AreApart r) runs c.requires.run.1 in
    let before = c.join_before-run in
    let after = c.join_after-run in
    subst (AreSpacedFrom 0)
    (sym (joined-placed r (span_of_run before.result) (span_of_run after.result) runs (stored before.new.store)
    (stored after.new.store)
    c.requires.run.0.some is.spaced apart before.ensures.runs before.ensures.joined.0 before.ensures.joined.1
    after.ensures.runs after.ensures.joined.0 after.ensures.joined.1))
    (given-spaced 0 r runs (omega arith) c.requires.run.0.some is.spaced apart)

pub returns-clause-runs : goal.returns-clause-runs
returns-clause-runs c =
    let r : Span = span_of_run c.args.run in
    let runs = stored c.args.store.now in
    let apart = each-of (AreApart r) runs c.requires.run.1 in
    let before = c.join_before-run in
    let after = c.join_after-run in
    c.put.ensures.runs
    ∙ joined-placed r (span_of_run before.result) (span_of_run after.result) runs (stored before.new.store)
    (stored after.new.store)
    c.requires.run.0.some c.requires.store.1.spaced apart before.ensures.runs before.ensures.joined.0
    before.ensures.joined.1
    after.ensures.runs after.ensures.joined.0 after.ensures.joined.1
