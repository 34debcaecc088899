use Rattle.std.proofs.Common.{◌<◌, List, sym, ap, subst, ◌∙◌}
use Rattle.std.specs.List.{AllZip}
use Rattle.pool_law.specs.declared.id.RootId.{RootId}
use Rattle.pool_law.specs.declared.report.Leak.{Leak}
use Rattle.pool_law.specs.declared.run.LaneLog.{LaneLog}
use Rattle.pool_law.specs.Leaks.{leaks_of}
use Rattle.pool_law.specs.Logs.{ToldNote, of_lane, entries_of}
use Rattle.pool_law.specs.Counts.{CountsHold, TotalHolds, count_in, count_over, is_birth, names_root}
use Rattle.pool_law.specs.Legal.{LooksHold, others_retains}
use Rattle.run_check.specs.Placing.{BreaksFirst, DifferAt}
use Rattle.run_check.specs.ByObject.{notes_in}
use Rattle.run_check.specs.Tallying.{IsTally}
use Rattle.run_check.specs.Reporting.{all_leaks}
use Rattle.run_check.specs.declared.tally.Tally.{Tally}
use Rattle.run_check.proofs.LeakLemmas.{leaks-are}
use Rattle.run_check.proofs.checking.breach_of_counts.Goals as goal

-- each root that is named was born
abbrev AreBorn : List (List ToldNote) → Type 0
AreBorn logs = (root : RootId) → 0 < count_over (names_root root) logs → 0 < count_over (is_birth root) logs

-- the totals of the roots that were born
abbrev AreTotal : List (List ToldNote) → Type 0
AreTotal logs = (root : RootId) → 0 < count_over (is_birth root) logs → TotalHolds root logs

pub returns-in-Some : goal.returns-in-Some
returns-in-Some c =
    subst
    (λ (ls : List LaneLog). BreaksFirst (λ lane (es : List ToldNote). (root : RootId) → CountsHold root 0 es)
    (entries_of (notes_in ls)) c.in-Some.spot)
    c.items-logs.ensures (rw c.in-Some.is at c.in_ok-spot.ensures)

pub returns-in-Some-first_mistotaled : goal.returns-in-Some-first_mistotaled
returns-in-Some-first_mistotaled c =
    let root = c.in-Some-first_mistotaled.root in
    subst
    (λ (ls : List LaneLog). (0 < count_over (is_birth root) (entries_of (notes_in ls)))
    × (TotalHolds root (entries_of (notes_in ls)) → ⊥))
    c.items-logs.ensures c.in-Some-first_mistotaled.ensures

pub returns-in-Some-first_unborn : goal.returns-in-Some-first_unborn
returns-in-Some-first_unborn c =
    subst
    (λ (ls : List LaneLog). BreaksFirst
    (λ lane (es : List ToldNote). (root : RootId) → 0 < count_in (names_root root) es →
    0 < count_over (is_birth root) (entries_of (notes_in ls)))
    (entries_of (notes_in ls)) c.in-Some-first_unborn.spot)
    c.items-logs.ensures c.in-Some-first_unborn.ensures

pub returns-in-Some-2 : goal.returns-in-Some-2
returns-in-Some-2 c =
    subst
    (λ (ls : List LaneLog). BreaksFirst
    (λ lane (es : List ToldNote). (root : RootId) →
    LooksHold root (others_retains root lane 0 (entries_of (notes_in ls))) 0 0 0 es)
    (entries_of (notes_in ls)) c.in-Some-2.spot)
    c.items-logs.ensures (rw c.in-Some-2.is at c.in_ok-spot-2.ensures)

pub returns-in-Some-3 : goal.returns-in-Some-3
returns-in-Some-3 c =
    let run = c.args.run.now in
    let m = c.args.histories.now in
    let tallies = c.in_ok-tallies.tallies.items in
    let sums : AllZip IsTally tallies run.logs =
    subst (λ (ls : List LaneLog). AllZip IsTally tallies ls) c.items-logs.ensures c.in_ok-tallies.ensures in
    let law = leaks-are run.shape run.logs m tallies c.requires.histories sums 0 run.logs in
    let told = λ (ts : List Tally) (ls : List LaneLog). all_leaks run.shape m ts 0 ls in
    let by = ap (λ (ts : List Tally). told ts c.items-logs.result.now) c.deref-4.ensures.value
    ∙ ap (λ (ls : List LaneLog). told tallies ls) c.items-logs.ensures in
    let Q = λ (xs ys : List Leak). DifferAt xs ys c.in-Some-3.at in
    subst (λ (xs : List Leak). Q xs (leaks_of run.shape (notes_in run.logs))) c.items.ensures
    (subst (λ (ys : List Leak). Q c.items.result.now ys) (by ∙ law) (rw c.in-Some-3.is at c.in_ok-at.ensures))

pub returns : goal.returns
returns c =
    let run = c.args.run.now in
    let m = c.args.histories.now in
    let tallies = c.in_ok-tallies.tallies.items in
    let sums : AllZip IsTally tallies run.logs =
    subst (λ (ls : List LaneLog). AllZip IsTally tallies ls) c.items-logs.ensures c.in_ok-tallies.ensures in
    let law = leaks-are run.shape run.logs m tallies c.requires.histories sums 0 run.logs in
    let told = λ (ts : List Tally) (ls : List LaneLog). all_leaks run.shape m ts 0 ls in
    let by = ap (λ (ts : List Tally). told ts c.items-logs.result.now) c.deref-4.ensures.value
    ∙ ap (λ (ls : List LaneLog). told tallies ls) c.items-logs.ensures in
    record {
      counts = record {
        lanes = λ root lane.
            subst (λ (ls : List LaneLog). CountsHold root 0 (of_lane (entries_of (notes_in ls)) lane))
            c.items-logs.ensures (rw c.in_default.is at c.in_ok-spot.ensures lane root);
        totals =
            subst (λ (ls : List LaneLog). AreTotal (entries_of (notes_in ls))) c.items-logs.ensures
            c.in_default-first_mistotaled.ensures;
        born =
            subst (λ (ls : List LaneLog). AreBorn (entries_of (notes_in ls))) c.items-logs.ensures
            c.in_default-first_unborn.ensures;
        looks = λ root lane.
            subst
            (λ (ls : List LaneLog). LooksHold root (others_retains root lane 0 (entries_of (notes_in ls))) 0 0 0
            (of_lane (entries_of (notes_in ls)) lane))
            c.items-logs.ensures (rw c.in_default-2.is at c.in_ok-spot-2.ensures lane root);
      };
      leaks = sym c.items.ensures ∙ rw c.in_default-3.is at c.in_ok-at.ensures ∙ by ∙ law;
    }
