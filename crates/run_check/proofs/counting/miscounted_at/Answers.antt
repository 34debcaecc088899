use Rattle.std.proofs.Common.{rules, ◌≡◌, ◌+◌, ◌<◌, ◌≤◌, List, ◌∷◌, length, drop, get_or, sym, ap, subst, arith, ◌∙◌}
use Rattle.std.specs.Prelude.{◌↔◌, IsTrue, slice_get, unwrap_or}
use Rattle.std.proofs.lemmas.Bool.{false≢true}
use Rattle.pool_law.specs.declared.id.RootId.{RootId}
use Rattle.pool_law.specs.Logs.{ToldNote}
use Rattle.object_steps.specs.declared.told.PlaceTold.{PlaceTold}
use Rattle.lane_reader.specs.Counting.{count_in}
use Rattle.run_check.specs.Needing.{NeedsHold}
use Rattle.lane_reader.specs.Reading.{untold, entry, entries}
use Rattle.lane_reader.proofs.CountLemmas.{count-within}
use Rattle.lane_reader.proofs.ReadingLemmas.{entries-past}
use Rattle.run_check.proofs.ReadingLemmas.{entries-at, told-or}
use Rattle.run_check.proofs.NeedingLemmas.{AllNeeds, AllCounts, counts_after, all-counts-front, all-counts-back}
use Rattle.run_check.proofs.FirstLemmas.{reached-none, reached-more, breaks-here, holds-whole}
use Rattle.run_check.proofs.counting.miscounted_at.Goals as goal

pub loop-at-init : goal.loop-at-init
loop-at-init c = (
  reached-none AllNeeds counts_after AllCounts (λ s root. tt) all-counts-front all-counts-back (λ root. 0)
      (entries c.args.log.now) (count_in c.new-counts.result) (λ i root. c.new-counts.ensures root i),
  λ root. omega (arith, c.new-counts.ensures root),
)

pub pass-requires : goal.pass-requires
pass-requires c root =
    let there : c.loop-at.at < length c.args.log.now.notes.now = search rules in
    let within = c.loop-at.invariant.1 root in
    omega (arith, there, within)

pub returns-then-not-may_note : goal.returns-then-not-may_note
returns-then-not-may_note c =
    let log = c.args.log.now in
    let i = c.loop-at.at in
    let note = get_or log.notes.now i c.index-log-at.result in
    let old = count_in c.loop-at.counts in
    let e : ToldNote = entry note (unwrap_or (slice_get log.told.now i) untold) in
    let es : List ToldNote = drop (i + 1) (entries log) in
    let there : i < length log.notes.now = search rules in
    let here : drop i (entries log) ≡ e ∷ es =
    entries-at log.notes.now log.told.now i note there (ap (get_or log.notes.now i) c.index-log-at.is) in
    let within : i < length log.told.now = omega (arith, there, c.requires) in
    let may : IsTrue c.may_note.result ↔ ((root : RootId) → NeedsHold root (old root) e) =
    subst (λ (t : PlaceTold). IsTrue c.may_note.result ↔ ((root : RootId) → NeedsHold root (old root) (entry note t)))
    (told-or log.told.now i _ within) c.may_note.ensures in
    breaks-here AllNeeds counts_after AllCounts (λ s root. tt) all-counts-front all-counts-back (λ root. 0)
    (entries log) i old e es c.loop-at.invariant.0 here
    (λ needs. false≢true (sym c.if-not-may_note.true ∙ may.1 needs))

pub loop-at-preserved : goal.loop-at-preserved
loop-at-preserved c =
    let log = c.args.log.now in
    let i = c.loop-at.at in
    let note = get_or log.notes.now i c.index-log-at.result in
    let old = count_in c.loop-at.counts in
    let new = count_in c.pass.new.self in
    let e : ToldNote = entry note (unwrap_or (slice_get log.told.now i) untold) in
    let es : List ToldNote = drop (i + 1) (entries log) in
    let there : i < length log.notes.now = search rules in
    let here : drop i (entries log) ≡ e ∷ es =
    entries-at log.notes.now log.told.now i note there (ap (get_or log.notes.now i) c.index-log-at.is) in
    let within : i < length log.told.now = omega (arith, there, c.requires) in
    let may : IsTrue c.may_note.result ↔ ((root : RootId) → NeedsHold root (old root) e) =
    subst (λ (t : PlaceTold). IsTrue c.may_note.result ↔ ((root : RootId) → NeedsHold root (old root) (entry note t)))
    (told-or log.told.now i _ within) c.may_note.ensures in
    let step = c.in_ok-pass.ensures in (
      reached-more AllNeeds counts_after AllCounts (λ s root. tt) all-counts-front all-counts-back (λ root. 0)
          (entries log) i old e es c.loop-at.invariant.0 here new (λ k root. step root k)
          (may.0 c.if-not-may_note.false),
      λ root. omega (arith, step root, c.loop-at.invariant.1 root, count-within root (old root) note),
    )

pub returns : goal.returns
returns c =
    let log = c.args.log.now in
    let i = c.loop-at.at in
    let past : length log.notes.now ≤ i = search rules in
    holds-whole AllNeeds counts_after AllCounts (λ s root. tt) all-counts-front all-counts-back (λ root. 0)
    (entries log) i (count_in c.loop-at.counts) c.loop-at.invariant.0
    (entries-past log.notes.now log.told.now i past)
