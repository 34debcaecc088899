use Rattle.std.proofs.Common.{rules, ◌≡◌, ℕ, ◌<◌, ◌≤◌, List, length, map, sym, ap, subst, arith, below_more, ◌∙◌}
use Rattle.pool_law.specs.declared.id.RootId.{RootId}
use Rattle.pool_law.specs.declared.note.Note.{Note}
use Rattle.pool_law.specs.Logs.{ToldNote, of_lane, entry_of, entries_of}
use Rattle.pool_law.specs.Counts.{count_in, count_over, is_birth, names_root}
use Rattle.pool_law.proofs.LogLemmas.{entry-note}
use Rattle.run_check.specs.ByObject.{notes_in}
use Rattle.run_check.specs.Tallying.{total_sums, NamesHold}
use Rattle.run_check.proofs.FirstLemmas.{found-first, breaks-map}
use Rattle.run_check.proofs.LaneLemmas.{notes-get, entries-lane, each-lane, length-entries}
use Rattle.run_check.proofs.TotalLemmas.{each-hold, each-back, births-are, over-born}
use Rattle.run_check.proofs.lanes.first_unborn.Goals as goal

-- the roots that these entries name were born
abbrev AreBorn : List (List ToldNote) → List ToldNote → Type 0
AreBorn all es = (root : RootId) → 0 < count_in (names_root root) es → 0 < count_over (is_birth root) all

pub returns-in-Some : goal.returns-in-Some
returns-in-Some c =
    let logs = c.args.logs.now in
    let tallies = c.args.tallies.now in
    let lane = c.loop-lane.lane in
    let notes : List Note = c.items.result.now in
    let all = entries_of (notes_in logs) in
    let g = entry_of (notes_in logs) in
    let bare = entry-note (notes_in logs) in
    let right : RootId → Type 0 = λ root. 0 < (total_sums tallies root).births in
    let same : (root : RootId) → (total_sums tallies root).births ≡ count_over (is_birth root) all =
    λ root. births-are g bare tallies root logs c.requires.tallies in
    let here : of_lane (notes_in logs) lane ≡ notes =
    notes-get logs lane c.index-logs-lane.result (search rules) ∙ sym c.items.ensures in
    found-first (λ k (es : List ToldNote). AreBorn all es) all lane c.in-Some.at (map g notes) c.spot.result
    c.spot.ensures (entries-lane (notes_in logs) lane ∙ ap (λ (ns : List Note). map g ns) here)
    c.loop-lane.invariant
    (breaks-map g (NamesHold tallies) (AreBorn all) notes c.in-Some.at
    (λ ns holds root some.
    subst (λ (n : ℕ). 0 < n) (same root) (each-back g bare names_root right ns holds root some))
    (λ ns born.
    each-hold g bare names_root right ns (λ root some.
    subst (λ (n : ℕ). 0 < n) (sym (same root)) (born root some)))
    (rw c.in-Some.is at c.unborn_at.ensures))

pub loop-lane-preserved : goal.loop-lane-preserved
loop-lane-preserved c =
    let logs = c.args.logs.now in
    let tallies = c.args.tallies.now in
    let lane = c.loop-lane.lane in
    let notes : List Note = c.items.result.now in
    let all = entries_of (notes_in logs) in
    let g = entry_of (notes_in logs) in
    let bare = entry-note (notes_in logs) in
    let right : RootId → Type 0 = λ root. 0 < (total_sums tallies root).births in
    let here : of_lane (notes_in logs) lane ≡ notes =
    notes-get logs lane c.index-logs-lane.result (search rules) ∙ sym c.items.ensures in
    let holds : NamesHold tallies notes = rw c.in_default.is at c.unborn_at.ensures in
    below_more (λ (k : ℕ). AreBorn all (of_lane all k)) lane c.loop-lane.invariant
    (subst (λ (es : List ToldNote). AreBorn all es)
    (sym (entries-lane (notes_in logs) lane ∙ ap (λ (ns : List Note). map g ns) here))
    (λ root some.
    subst (λ (n : ℕ). 0 < n) (births-are g bare tallies root logs c.requires.tallies)
    (each-back g bare names_root right notes holds root some)))

pub returns : goal.returns
returns c =
    let all = entries_of (notes_in c.args.logs.now) in
    let past : length c.args.logs.now ≤ c.loop-lane.lane = search rules in
    let each : (k : ℕ) → AreBorn all (of_lane all k) =
    each-lane (λ k (es : List ToldNote). AreBorn all es) all c.loop-lane.lane c.loop-lane.invariant
    (omega (arith, past, length-entries c.args.logs.now)) (λ k root some. absurd (omega (arith, some))) in
    λ root some. over-born (names_root root) all (λ k here. each k root here) some
