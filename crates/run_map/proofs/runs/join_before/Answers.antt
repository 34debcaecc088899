use Rattle.std.proofs.Common.{◌≡◌, ℕ, ◌+◌, ◌-◌, refl, ap, ◌∙◌, arith}
use Rattle.size_classes.specs.Spans.{AreApart}
use Rattle.size_classes.proofs.OutLaws.{each-of}
use Rattle.run_map.specs.Spaced.{span_of_run}
use Rattle.run_map.specs.Stored.{stored}
use Rattle.run_map.proofs.SpanEnds.{ending-begins}
use Rattle.run_map.proofs.Joining.{ends-value, none-before}
use Rattle.run_map.proofs.Parts.{follows_run, joined_run}
use Rattle.run_map.proofs.runs.join_before.Goals as goal

pub returns-then-before-eq0-clause-runs : goal.returns-then-before-eq0-clause-runs
returns-then-before-eq0-clause-runs c =
    let s = c.args.store.now in
    let r = c.args.run in
    let is = c.requires.store.1 in
    let run = c.requires.run.0 in
    none-before s (span_of_run r) c.index-before.result.now is.spaced run.some
    (each-of (AreApart (span_of_run r)) (stored s) c.requires.run.1)
    (ends-value c.args.layout.now s r.first c.index-before.result.now is (omega (arith, run.within))
    c.index-before.ensures)
    c.if-before-eq0.true

pub overflow_sub-start : goal.overflow_sub-start
overflow_sub-start c =
    let s = c.args.store.now in
    let is = c.requires.store.1 in
    let first : ℕ = c.args.run.first in
    let n : ℕ = c.index-before.result.now in
    (ending-begins 0 first n (stored s) is.spaced
    (ends-value c.args.layout.now s first n is (omega (arith, c.requires.run.0.within)) c.index-before.ensures)
    (omega (arith, c.if-before-eq0.false))).1

pub pull-first-requires-clause-run : goal.pull-first-requires-clause-run
pull-first-requires-clause-run c =
    let s = c.args.store.now in
    let is = c.requires.store.1 in
    let first : ℕ = c.args.run.first in
    let n : ℕ = c.index-before.result.now in
    let begins = ending-begins 0 first n (stored s) is.spaced
    (ends-value c.args.layout.now s first n is (omega (arith, c.requires.run.0.within)) c.index-before.ensures)
    (omega (arith, c.if-before-eq0.false)) in
    omega (arith, begins.0, c.if-before-eq0.false)

pub join-requires : goal.join-requires
join-requires c =
    let s = c.args.store.now in
    let is = c.requires.store.1 in
    let first : ℕ = c.args.run.first in
    let n : ℕ = c.index-before.result.now in
    let begins = ending-begins 0 first n (stored s) is.spaced
    (ends-value c.args.layout.now s first n is (omega (arith, c.requires.run.0.within)) c.index-before.ensures)
    (omega (arith, c.if-before-eq0.false)) in
    let meet : c.pull-first.result.first + c.pull-first.result.pages ≡ first =
    omega (arith, c.pull-first.ensures.place.0, c.pull-first.ensures.place.1, begins.0, begins.1) in
    follows_run c.args.layout.now c.pull-first.result c.args.run c.pull-first.ensures.run c.requires.run.0 meet

pub returns-clause-runs : goal.returns-clause-runs
returns-clause-runs c =
    let s = c.args.store.now in
    let first : ℕ = c.args.run.first in
    let value = ends-value c.args.layout.now s first c.index-before.result.now c.requires.store.1
    (omega (arith, c.requires.run.0.within)) c.index-before.ensures in
    rw (← value) c.pull-first.ensures.runs

pub returns-clause-joined : goal.returns-clause-joined
returns-clause-joined c =
    let s = c.args.store.now in
    let is = c.requires.store.1 in
    let first : ℕ = c.args.run.first in
    let n : ℕ = c.index-before.result.now in
    let value =
    ends-value c.args.layout.now s first n is (omega (arith, c.requires.run.0.within)) c.index-before.ensures in
    let begins = ending-begins 0 first n (stored s) is.spaced value (omega (arith, c.if-before-eq0.false)) in
    let place = c.pull-first.ensures.place in
    (place.0 ∙ ap (λ (k : ℕ). first - k) value, ap (λ (k : ℕ). k + c.args.run.pages) (place.1 ∙ begins.0 ∙ value))

pub returns-clause-run : goal.returns-clause-run
returns-clause-run c =
    let s = c.args.store.now in
    let is = c.requires.store.1 in
    let first : ℕ = c.args.run.first in
    let n : ℕ = c.index-before.result.now in
    let begins = ending-begins 0 first n (stored s) is.spaced
    (ends-value c.args.layout.now s first n is (omega (arith, c.requires.run.0.within)) c.index-before.ensures)
    (omega (arith, c.if-before-eq0.false)) in
    let meet : c.pull-first.result.first + c.pull-first.result.pages ≡ first =
    omega (arith, c.pull-first.ensures.place.0, c.pull-first.ensures.place.1, begins.0, begins.1) in
    joined_run c.args.layout.now c.pull-first.result c.args.run _ c.pull-first.ensures.run c.requires.run.0 meet refl
    refl
    c.join.ensures
