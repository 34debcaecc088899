use Rattle.std.proofs.Common.{rules, arith, ◌≡◌, ◌+◌, ◌<◌, ◌≤◌, ◌-◌, ◌^◌, List, ◌∷◌, length, drop, sym, ◌∙◌}
use Rattle.std.specs.Prelude.{slice_get, unwrap_or}
use Rattle.std.proofs.lemmas.Bool.{false≢true}
use Rattle.pool_law.specs.declared.id.RootId.{RootId}
use Rattle.pool_law.specs.Logs.{ToldNote}
use Rattle.lane_reader.specs.Reading.{untold, entry, entries}
use Rattle.run_check.specs.Tallying.{others_sum, sums_in}
use Rattle.lane_reader.specs.Counting.{count_in}
use Rattle.lane_reader.proofs.CountLemmas.{count-within}
use Rattle.lane_reader.proofs.ReadingLemmas.{entries-past}
use Rattle.run_check.proofs.ReadingLemmas.{entries-at}
use Rattle.run_check.proofs.NeedingLemmas.{passed_on, all_passed_on, none_passed, passed, AllLooks, AllLooked, all-looked-front, all-looked-back}
use Rattle.run_check.proofs.TallyLemmas.{at-most-after, at-most-more, none-at-most}
use Rattle.run_check.proofs.FirstLemmas.{reached-none, reached-more, breaks-here, holds-whole}
use Rattle.run_check.proofs.counting.mislooked_at.Goals as goal

pub loop-at-init : goal.loop-at-init
loop-at-init c =
    let others = λ (root : RootId). others_sum root c.args.lane 0 c.args.tallies.now in
    let start : (root : RootId) → passed c.new-own.result c.new-counts.result root ≡ none_passed =
    (λ root i. record {
      retains = (c.new-own.ensures root i).retains;
      releases = (c.new-own.ensures root i).releases;
      count = c.new-counts.ensures root i;
    }) in (
      reached-none (AllLooks others) all_passed_on (AllLooked others) (λ s root. tt) (all-looked-front others)
          (all-looked-back others) (λ root. none_passed) (entries c.args.log.now)
          (passed c.new-own.result c.new-counts.result) (λ i root. start root i),
      (
        λ root. omega (arith, c.new-counts.ensures root),
        λ root. none-at-most (sums_in c.new-own.result root) (c.new-own.ensures root),
      ),
    )

pub pass-requires : goal.pass-requires
pass-requires c root =
    let there : c.loop-at.at < length c.args.log.now.notes.now = search rules in
    let within = c.loop-at.invariant.1.0 root in
    omega (arith, there, within)

pub pass-requires-in-loop-at : goal.pass-requires-in-loop-at
pass-requires-in-loop-at c root =
    let there : c.loop-at.at < length c.args.log.now.notes.now = search rules in
    at-most-more c.loop-at.at (2 ^ 64 - 2) (sums_in c.loop-at.own root) (omega (arith, there))
    (c.loop-at.invariant.1.1 root)

pub returns-then-not-look_holds : goal.returns-then-not-look_holds
returns-then-not-look_holds c =
    let others = λ (root : RootId). others_sum root c.args.lane 0 c.args.tallies.now in
    let log = c.args.log.now in
    let i = c.loop-at.at in
    let note = c.note-item.result in
    let old = passed c.loop-at.own c.loop-at.counts in
    let e : ToldNote = entry note (unwrap_or (slice_get log.told.now i) untold) in
    let es : List ToldNote = drop (i + 1) (entries log) in
    let there : i < length log.notes.now = search rules in
    let here : drop i (entries log) ≡ e ∷ es =
    entries-at log.notes.now log.told.now i note there c.note-item.is in
    breaks-here (AllLooks others) all_passed_on (AllLooked others) (λ s root. tt) (all-looked-front others)
    (all-looked-back others) (λ root. none_passed) (entries log) i old e es c.loop-at.invariant.0 here
    (λ looks. false≢true (sym c.if-not-look_holds.true ∙ c.look_holds.ensures.1 looks))

pub loop-at-preserved : goal.loop-at-preserved
loop-at-preserved c =
    let others = λ (root : RootId). others_sum root c.args.lane 0 c.args.tallies.now in
    let log = c.args.log.now in
    let i = c.loop-at.at in
    let note = c.note-item.result in
    let old = passed c.loop-at.own c.loop-at.counts in
    let new = passed c.pass-in-loop-at.new.self c.pass.new.self in
    let e : ToldNote = entry note (unwrap_or (slice_get log.told.now i) untold) in
    let es : List ToldNote = drop (i + 1) (entries log) in
    let there : i < length log.notes.now = search rules in
    let here : drop i (entries log) ≡ e ∷ es =
    entries-at log.notes.now log.told.now i note there c.note-item.is in
    let step : (root : RootId) → new root ≡ passed_on root (old root) e =
    (λ root k. record {
      retains = (c.in_ok-pass-2.ensures root k).retains;
      releases = (c.in_ok-pass-2.ensures root k).releases;
      count = c.in_ok-pass.ensures root k;
    }) in (
      reached-more (AllLooks others) all_passed_on (AllLooked others) (λ s root. tt) (all-looked-front others)
          (all-looked-back others) (λ root. none_passed) (entries log) i old e es c.loop-at.invariant.0 here new
          (λ k root. step root k) (c.look_holds.ensures.0 c.if-not-look_holds.false),
      (
        λ root.
            omega (
              arith,
              c.in_ok-pass.ensures root,
              c.loop-at.invariant.1.0 root,
              count-within root (count_in c.loop-at.counts root) note,
            ),
        λ root.
            at-most-after root i (sums_in c.loop-at.own root) (sums_in c.pass-in-loop-at.new.self root) note
            (c.in_ok-pass-2.ensures root) (c.loop-at.invariant.1.1 root),
      ),
    )

pub returns : goal.returns
returns c =
    let others = λ (root : RootId). others_sum root c.args.lane 0 c.args.tallies.now in
    let log = c.args.log.now in
    let i = c.loop-at.at in
    let past : length log.notes.now ≤ i = search rules in
    holds-whole (AllLooks others) all_passed_on (AllLooked others) (λ s root. tt) (all-looked-front others)
    (all-looked-back others) (λ root. none_passed) (entries log) i (passed c.loop-at.own c.loop-at.counts)
    c.loop-at.invariant.0 (entries-past log.notes.now log.told.now i past)
