use Rattle.std.proofs.Common.{◌≡◌, ℕ, ◌+◌, take, Option, ap, ◌∙◌, arith, length-take}
use Rattle.std.specs.Option.{unwrap_or}
use Rattle.std.proofs.lemmas.List.Sums.{count_by-le-length}
use Rattle.pool_law.specs.declared.id.RootId.{RootId}
use Rattle.pool_law.specs.Same.{same_root}
use Rattle.run_report.specs.Roots.{counted}
use Rattle.run_report.proofs.RootLaws.{of_key, tally_step, times_more}
use Rattle.run_report.proofs.roots.tally.Goals as goal

pub overflow_add-count : goal.overflow_add-count
overflow_add-count c =
    let root : RootId = of_key c.key_of-key.result in
    let read : c.unwrap_or-count.result ≡ counted c.loop-root.tally root =
    c.unwrap_or-count.ensures ∙ ap (λ (o : Option ℕ). unwrap_or o 0) (c.copied.ensures ∙ c.get.ensures.value) in
    let before = take c.loop-root.root-index c.args.roots.now in
    let few = count_by-le-length (λ (r : RootId). same_root r root) before in
    let long = length-take c.loop-root.root-index c.args.roots.now in
    omega (arith, read, c.loop-root.invariant root, few, long)

pub loop-root-preserved : goal.loop-root-preserved
loop-root-preserved c q =
    let root : RootId = of_key c.key_of-key.result in
    let read : c.unwrap_or-count.result ≡ counted c.loop-root.tally root =
    c.unwrap_or-count.ensures ∙ ap (λ (o : Option ℕ). unwrap_or o 0) (c.copied.ensures ∙ c.get.ensures.value) in
    let i = c.loop-root.root-index in
    let roots = c.args.roots.now in
    let more = times_more roots i _ c.key_of-key.result q c.loop-root-test.true c.key_of-key.ensures in
    tally_step c.loop-root.tally c.insert.new.self (take i roots) (take (i + 1) roots) root q _ more
    (c.in_ok-insert.ensures.updates.0 _)
    (read ∙ c.loop-root.invariant root) (c.loop-root.invariant q)
