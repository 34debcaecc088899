use Rattle.std.proofs.Common.{rules, ◌≡◌, ◌+◌, ◌*◌, ◌-◌, ◌^◌, ◌<◌, ◌≤◌, List, length, drop, sym, ap, arith, ◌∙◌}
use Rattle.std.proofs.lemmas.List.{drop_all}
use Rattle.run_check.specs.declared.tally.Sums.{Sums}
use Rattle.run_check.specs.declared.tally.Tally.{Tally}
use Rattle.run_check.specs.declared.tally.Totals.{Totals}
use Rattle.run_check.specs.Tallying.{plus, sums_in, total_sums}
use Rattle.run_check.proofs.TallyLemmas.{joined, joined-none, joined-plus, no-totals-at-most, none-joined, totals-at-most-more, totals-step}
use Rattle.run_check.proofs.tally.total_of.Goals as goal

pub loop-tally-init : goal.loop-tally-init
loop-tally-init c =
    let e = c.none-totals.ensures in
    let all = total_sums c.args.tallies.now c.args.root.now in
    (ap (λ (t : Totals). joined t all) e ∙ joined-none all, no-totals-at-most c.none-totals.result e)

pub plus-totals-requires : goal.plus-totals-requires
plus-totals-requires c =
    let i = c.loop-tally.tally-index in
    let there : i < length c.args.tallies.now = search rules in
    totals-at-most-more (i * (2 ^ 64 - 1)) (2 ^ 128 - 2 ^ 64) c.loop-tally.totals (omega (arith, there))
    c.loop-tally.invariant.1

pub loop-tally-preserved : goal.loop-tally-preserved
loop-tally-preserved c =
    let tallies = c.args.tallies.now in
    let root = c.args.root.now in
    let i = c.loop-tally.tally-index in
    let old = c.loop-tally.totals in
    let new = c.plus-totals.result in
    let rest : Totals = total_sums (drop (i + 1) tallies) root in
    let there : i < length tallies = search rules in
    let is : new ≡ plus (sums_in c.tally-item.result root) old =
    c.plus-totals.ensures.sums ∙ ap (λ (s : Sums). plus s old) c.of.ensures in
    let next : i * (2 ^ 64 - 1) + (2 ^ 64 - 1) ≤ (i + 1) * (2 ^ 64 - 1) = omega arith in (
      ap (λ (t : Totals). joined t rest) is
          ∙ joined-plus (sums_in c.tally-item.result root) old rest
          ∙ ap (joined old) (sym (totals-step root i tallies c.tally-item.result there c.tally-item.is))
          ∙ c.loop-tally.invariant.0,
      totals-at-most-more (i * (2 ^ 64 - 1) + (2 ^ 64 - 1)) ((i + 1) * (2 ^ 64 - 1)) new next
          (c.plus-totals.ensures.most (i * (2 ^ 64 - 1)) c.loop-tally.invariant.1),
    )

pub returns : goal.returns
returns c =
    let tallies = c.args.tallies.now in
    let root = c.args.root.now in
    let i = c.loop-tally.tally-index in
    let past : length tallies ≤ i = search rules in
    sym (none-joined c.loop-tally.totals)
    ∙ ap (λ (ts : List Tally). joined c.loop-tally.totals (total_sums ts root)) (sym (drop_all i tallies past))
    ∙ c.loop-tally.invariant.0
