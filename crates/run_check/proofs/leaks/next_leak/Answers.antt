use Rattle.std.proofs.Common.{◌≡◌, ◌+◌, ◌-◌, ◌<◌, true, false, List, [], ◌∷◌, length, sym, subst, arith, ◌∙◌}
use Rattle.std.proofs.lemmas.Bool.{false≢true}
use Rattle.pool_law.specs.declared.note.Object.{Object}
use Rattle.pool_law.specs.declared.report.Leak.{Leak}
use Rattle.pool_law.specs.Leaks.{is_sampled, accesses}
use Rattle.run_check.specs.Reporting.{capacity_by, leak_by, one_leak, GoesOn, Strays}
use Rattle.run_check.specs.Storing.{history_in}
use Rattle.run_check.proofs.LeakLemmas.{one-leak-is}
use Rattle.run_check.proofs.ReportLemmas.{goes-by-one, strays-past, strays-here}
use Rattle.run_check.proofs.leaks.next_leak.Goals as goal

pub returns-then-at-report : goal.returns-then-at-report
returns-then-at-report c =
    let r = c.args.report.now in
    let root = c.args.root.now in
    let sums = c.total_of-sums.result in
    let leak = leak_by r.shape.now.level c.args.lane c.args.serial (capacity_by r.histories.now root) sums
    (accesses root false (history_in r.histories.now (Object.Root root.place))) in
    let live : (1 + sums.retains) - sums.releases ≡ 0 → ⊥ =
    λ over. false≢true (sym c.if-is_over.false ∙ c.is_over.ensures.1 over) in
    let sampled : is_sampled r.shape.now.level r.shape.now.interval c.args.serial ≡ true =
    sym c.is_sampled.ensures ∙ c.if-not-is_sampled.false in
    let one : one_leak r.shape.now r.histories.now r.tallies.now c.args.lane c.args.serial root ≡ leak ∷ [] =
    one-leak-is r.shape.now r.histories.now r.tallies.now c.args.lane c.args.serial root sums
    c.total_of-sums.ensures live sampled in
    subst (λ (ls : List Leak). Strays r.leaks.now c.args.at ls c.args.at) (sym one)
    (strays-past r.leaks.now c.args.at leak c.requires.inside c.if-at-report.true)

pub returns-then-not-branch : goal.returns-then-not-branch
returns-then-not-branch c =
    let r = c.args.report.now in
    let root = c.args.root.now in
    let sums = c.total_of-sums.result in
    let leak = leak_by r.shape.now.level c.args.lane c.args.serial (capacity_by r.histories.now root) sums
    (accesses root false (history_in r.histories.now (Object.Root root.place))) in
    let live : (1 + sums.retains) - sums.releases ≡ 0 → ⊥ =
    λ over. false≢true (sym c.if-is_over.false ∙ c.is_over.ensures.1 over) in
    let sampled : is_sampled r.shape.now.level r.shape.now.interval c.args.serial ≡ true =
    sym c.is_sampled.ensures ∙ c.if-not-is_sampled.false in
    let one : one_leak r.shape.now r.histories.now r.tallies.now c.args.lane c.args.serial root ≡ leak ∷ [] =
    one-leak-is r.shape.now r.histories.now r.tallies.now c.args.lane c.args.serial root sums
    c.total_of-sums.ensures live sampled in
    let inside : c.args.at < length r.leaks.now = omega arith in
    subst (λ (ls : List Leak). Strays r.leaks.now c.args.at ls c.args.at) (sym one)
    (strays-here r.leaks.now c.args.at c.index-report-at.result leak inside
    (λ e. false≢true (sym c.if-not-branch.true ∙ c.in_ok-is_leak_of.ensures.1 e)))

pub returns : goal.returns
returns c =
    let r = c.args.report.now in
    let root = c.args.root.now in
    let sums = c.total_of-sums.result in
    let leak = leak_by r.shape.now.level c.args.lane c.args.serial (capacity_by r.histories.now root) sums
    (accesses root false (history_in r.histories.now (Object.Root root.place))) in
    let live : (1 + sums.retains) - sums.releases ≡ 0 → ⊥ =
    λ over. false≢true (sym c.if-is_over.false ∙ c.is_over.ensures.1 over) in
    let sampled : is_sampled r.shape.now.level r.shape.now.interval c.args.serial ≡ true =
    sym c.is_sampled.ensures ∙ c.if-not-is_sampled.false in
    let one : one_leak r.shape.now r.histories.now r.tallies.now c.args.lane c.args.serial root ≡ leak ∷ [] =
    one-leak-is r.shape.now r.histories.now r.tallies.now c.args.lane c.args.serial root sums
    c.total_of-sums.ensures live sampled in
    let inside : c.args.at < length r.leaks.now = omega arith in
    subst (λ (ls : List Leak). GoesOn r.leaks.now c.args.at ls (c.args.at + 1)) (sym one)
    (goes-by-one r.leaks.now c.args.at c.index-report-at.result leak inside
    (c.in_ok-is_leak_of.ensures.0 c.if-not-branch.false))
