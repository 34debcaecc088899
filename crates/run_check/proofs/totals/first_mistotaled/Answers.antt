use Rattle.std.proofs.Common.{rules, ◌≡◌, ℕ, List, sym, subst, below_more, ◌∙◌}
use Rattle.std.specs.Prelude.{IsTrue}
use Rattle.std.specs.List.{list_any}
use Rattle.pool_law.specs.declared.id.RootId.{RootId}
use Rattle.pool_law.specs.declared.note.Note.{Note}
use Rattle.pool_law.specs.Logs.{of_lane, entry_of}
use Rattle.pool_law.specs.Counts.{is_birth}
use Rattle.pool_law.proofs.LogLemmas.{entry-note}
use Rattle.run_check.specs.ByObject.{notes_in}
use Rattle.run_check.specs.Tallying.{total_sums, AreTotals, BirthsHold}
use Rattle.run_check.proofs.LaneLemmas.{notes-at, each-notes}
use Rattle.run_check.proofs.TotalLemmas.{any-over, over-back, totals-on, totals-back}
use Rattle.run_check.proofs.totals.first_mistotaled.Goals as goal

pub returns-in-Some : goal.returns-in-Some
returns-in-Some c =
    let logs = c.args.logs.now in
    let tallies = c.args.tallies.now in
    let g = entry_of (notes_in logs) in
    let bare = entry-note (notes_in logs) in
    let root = c.in-Some.root in
    let right : RootId → Type 0 = λ r. AreTotals (total_sums tallies r) in
    let i = c.loop-log.log-index in
    let here : of_lane (notes_in logs) i ≡ c.items.result.now =
    notes-at logs i c.log-item.result (search rules) c.log-item.is ∙ sym c.items.ensures in
    let found = rw c.in-Some.is at c.mistotaled_in.ensures in (
      any-over g bare is_birth right root (notes_in logs) i
          (subst (λ (ns : List Note). IsTrue (list_any (is_birth root) ns)) (sym here) found.0),
      λ total. found.1 (totals-back g bare tallies root logs c.requires total),
    )

pub loop-log-preserved : goal.loop-log-preserved
loop-log-preserved c =
    let logs = c.args.logs.now in
    let tallies = c.args.tallies.now in
    let i = c.loop-log.log-index in
    let here : of_lane (notes_in logs) i ≡ c.items.result.now =
    notes-at logs i c.log-item.result (search rules) c.log-item.is ∙ sym c.items.ensures in
    below_more (λ (k : ℕ). BirthsHold tallies (of_lane (notes_in logs) k)) i c.loop-log.invariant
    (subst (λ (ns : List Note). BirthsHold tallies ns) (sym here) (rw c.in_default.is at c.mistotaled_in.ensures))

pub returns : goal.returns
returns c =
    let logs = c.args.logs.now in
    let tallies = c.args.tallies.now in
    let g = entry_of (notes_in logs) in
    let bare = entry-note (notes_in logs) in
    let right : RootId → Type 0 = λ root. AreTotals (total_sums tallies root) in
    let each : (k : ℕ) → BirthsHold tallies (of_lane (notes_in logs) k) =
    each-notes (λ k (ns : List Note). BirthsHold tallies ns) logs c.loop-log.log-index c.loop-log.invariant
    (search rules) (λ k. tt) in
    λ root some.
    totals-on g bare tallies root logs c.requires (over-back g bare is_birth right (notes_in logs) each root some)
