use Rattle.std.proofs.Common.{ℕ, ◌+◌, ◌-◌, ◌<◌, List, arith, refl, sym, ap, ◌∙◌, subst}
use Rattle.size_classes.specs.Spans.{Span, AreSpacedFrom}
use Rattle.run_map.specs.declared.runs.FreeRun.{FreeRun}
use Rattle.run_map.specs.Stored.{stored}
use Rattle.run_map.proofs.Parts.{front_part, rest_run}
use Rattle.run_map.proofs.StoreSteps.{among-beginning, taken-spaced, taking-whole, taking-part}
use Rattle.run_map.proofs.runs.take_from.Goals as goal

pub returns-then-long-pages-clause-runs : goal.returns-then-long-pages-clause-runs
returns-then-long-pages-clause-runs c =
    let at = c.pull-long.ensures.place in
    sym (taking-whole c.args.first c.pull-long.result.pages c.args.pages (stored c.args.store.now)
    (stored c.pull-long.new.self)
    c.requires.store.1.spaced c.pull-long.ensures.runs at.1 c.requires.run.0 c.requires.run.1 c.if-long-pages.true)

pub put-requires-clause-run : goal.put-requires-clause-run
put-requires-clause-run c =
    let r = c.pull-long.result in
    let l = c.args.layout.now in
    let is = c.pull-long.ensures.run in
    let at = c.pull-long.ensures.place in
    let fewer : c.args.pages < r.pages = omega (arith, at.1, c.requires.run.1, c.if-long-pages.false) in
    let q : FreeRun =
    record { first = c.args.first + c.args.pages; pages = r.pages - c.args.pages; piece = c.split-front.result.1 } in
    let front = front_part l r.first r.pages c.args.pages r.piece c.split-front.result.0 is.part (omega (arith, fewer))
    c.split-front.ensures.left in
    rest_run l r q c.args.pages c.split-front.result.0 is fewer front c.split-front.ensures.right.0
    c.split-front.ensures.right.1 (ap (λ (k : ℕ). k + c.args.pages) (sym at.0)) refl

pub put-requires-clause-spaced : goal.put-requires-clause-spaced
put-requires-clause-spaced c =
    let at = c.pull-long.ensures.place in
    let old : List Span = stored c.args.store.now in
    let some = c.requires.run.0 in
    let le = c.requires.run.1 in
    let h = c.requires.store.1.spaced in
    subst (AreSpacedFrom 0)
    (taking-part c.args.first c.pull-long.result.pages c.args.pages old (stored c.pull-long.new.self)
    h c.pull-long.ensures.runs at.1 some le c.if-long-pages.false)
    (taken-spaced 0 c.args.first _ c.args.pages old h (among-beginning c.args.first old (omega (arith, some, le))) some
    le)

pub returns-clause-runs : goal.returns-clause-runs
returns-clause-runs c =
    let at = c.pull-long.ensures.place in
    c.put.ensures.runs
    ∙ sym (taking-part c.args.first c.pull-long.result.pages c.args.pages (stored c.args.store.now)
    (stored c.pull-long.new.self)
    c.requires.store.1.spaced c.pull-long.ensures.runs at.1 c.requires.run.0 c.requires.run.1 c.if-long-pages.false)
