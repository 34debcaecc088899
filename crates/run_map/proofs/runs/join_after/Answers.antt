use Rattle.std.proofs.Common.{◌≡◌, ℕ, ◌+◌, refl, sym, ◌∙◌, arith}
use Rattle.run_map.specs.Lengths.{beginning}
use Rattle.run_map.specs.Stored.{stored}
use Rattle.run_map.proofs.StoreSteps.{begins-value}
use Rattle.run_map.proofs.SpanEnds.{without-none}
use Rattle.run_map.proofs.Joining.{none-past}
use Rattle.run_map.proofs.Parts.{follows_run}
use Rattle.run_map.proofs.runs.join_after.Goals as goal
use Rattle.run_map.proofs.runs.join_after.Goals.{Joined-then-end-layout, then-end-layout-via-then-end-layout, then-end-layout-via-else-end-layout+then-index-eq0}

-- no run begins where it ends
none-behind : (c : Joined-then-end-layout) →
    beginning (c.args.run.first + c.args.run.pages) (stored c.args.store.now) ≡ 0
none-behind c =
    let l = c.args.layout.now in
    let s = c.args.store.now in
    let end : ℕ = c.args.run.first + c.args.run.pages in
    let is = c.requires.store.1 in
    elim c.then-end-layout.branch [
      | then-end-layout-via-then-end-layout w ↦ none-past l s end is (omega (arith, w.if-end-layout.true))
      | then-end-layout-via-else-end-layout+then-index-eq0 w ↦
          sym (begins-value s.begins.items end w.index.result.now
          (omega (arith, w.if-end-layout.false, c.requires.run.within, is.long.begins)) w.index.ensures) ∙
          w.if-index-eq0.true
    ]

pub returns-then-end-layout-clause-runs : goal.returns-then-end-layout-clause-runs
returns-then-end-layout-clause-runs c =
    sym (without-none 0 (c.args.run.first + c.args.run.pages) (stored c.args.store.now) c.requires.store.1.spaced
    (none-behind c))

pub returns-then-end-layout-clause-joined : goal.returns-then-end-layout-clause-joined
returns-then-end-layout-clause-joined c = (refl, omega (arith, none-behind c))

pub pull-more-requires-clause-run : goal.pull-more-requires-clause-run
pull-more-requires-clause-run c =
    let s = c.args.store.now in
    let end : ℕ = c.args.run.first + c.args.run.pages in
    let value = begins-value s.begins.items end c.index.result.now
    (omega (arith, c.if-end-layout.false, c.requires.run.within, c.requires.store.1.long.begins)) c.index.ensures in
    omega (arith, value, c.if-index-eq0.false)

pub join-requires : goal.join-requires
join-requires c =
    follows_run c.args.layout.now c.args.run c.pull-more.result c.requires.run c.pull-more.ensures.run
    (sym c.pull-more.ensures.place.0)
