use Rattle.std.proofs.Common.{rules, ◌≡◌, ℕ, ◌+◌, ◌<◌, ◌≤◌, List, ◌∷◌, drop, length, sym, ap, ◌∙◌}
use Rattle.std.proofs.lemmas.Bool.{false≢true}
use Rattle.std.proofs.lemmas.List.{drop_more, drop_all}
use Rattle.pool_law.specs.declared.note.Note.{Note}
use Rattle.pool_law.specs.declared.note.Object.{Object}
use Rattle.pool_law.specs.Logs.{History}
use Rattle.pool_law.specs.Busy.{BusyHolds}
use Rattle.run_check.specs.Placing.{BreaksAt}
use Rattle.run_check.specs.Marking.{none_had, had_of}
use Rattle.run_check.specs.Storing.{history_in}
use Rattle.run_check.proofs.FirstLemmas.{reached-none, reached-more, breaks-here, breaks-same, holds-whole}
use Rattle.run_check.proofs.MarkLemmas.{AllCome, AllFit, all_had_after, all-fit-front, all-fit-back}
use Rattle.run_check.proofs.busy.mismarked_at.Goals as goal

pub loop-at-init : goal.loop-at-init
loop-at-init c =
    let m = history_in c.args.histories.now in
    let lane = c.args.lane in
    reached-none (AllCome lane m) all_had_after (AllFit lane m) (λ s. (λ object. tt, tt)) (all-fit-front lane m)
    (all-fit-back lane m) (λ object. none_had) c.args.notes.now (had_of c.new-marked.result)
    (λ i object. c.new-marked.ensures object i)

-- the marks break the law of a lane where the program's break
of-fit : (lane : ℕ) (history : Object → History) (notes : List Note) (at : ℕ) →
    BreaksAt (AllFit lane history (λ object. none_had)) notes at → BreaksAt (BusyHolds lane history) notes at
of-fit lane history notes at =
    breaks-same (AllFit lane history (λ object. none_had)) (BusyHolds lane history) notes at
    (λ n fit. record { fit = fit.0; marks = fit.1 }) (λ n busy. (busy.fit, busy.marks))

pub returns-then-not-may_stand : goal.returns-then-not-may_stand
returns-then-not-may_stand c =
    let m = history_in c.args.histories.now in
    let lane = c.args.lane in
    let notes = c.args.notes.now in
    let i = c.loop-at.at in
    let note = c.index-notes-at.result in
    let there : i < length notes = search rules in
    let step : drop i notes ≡ note ∷ drop (i + 1) notes =
    drop_more notes i note there ∙ ap (λ (n : Note). n ∷ drop (i + 1) notes) (sym c.index-notes-at.is) in
    of-fit lane m notes i
    (breaks-here (AllCome lane m) all_had_after (AllFit lane m) (λ s. (λ object. tt, tt)) (all-fit-front lane m)
    (all-fit-back lane m) (λ object. none_had) notes i (had_of c.loop-at.marked) note (drop (i + 1) notes)
    c.loop-at.invariant step
    (λ come. false≢true (sym c.if-not-may_stand.true ∙ c.may_stand.ensures.1 come)))

pub loop-at-preserved : goal.loop-at-preserved
loop-at-preserved c =
    let m = history_in c.args.histories.now in
    let lane = c.args.lane in
    let notes = c.args.notes.now in
    let i = c.loop-at.at in
    let note = c.index-notes-at.result in
    let there : i < length notes = search rules in
    let step : drop i notes ≡ note ∷ drop (i + 1) notes =
    drop_more notes i note there ∙ ap (λ (n : Note). n ∷ drop (i + 1) notes) (sym c.index-notes-at.is) in
    reached-more (AllCome lane m) all_had_after (AllFit lane m) (λ s. (λ object. tt, tt)) (all-fit-front lane m)
    (all-fit-back lane m) (λ object. none_had) notes i (had_of c.loop-at.marked) note (drop (i + 1) notes)
    c.loop-at.invariant step (had_of c.pass.new.self) (λ k object. c.in_ok-pass.ensures object k)
    (c.may_stand.ensures.0 c.if-not-may_stand.false)

pub returns : goal.returns
returns c =
    let m = history_in c.args.histories.now in
    let lane = c.args.lane in
    let notes = c.args.notes.now in
    let i = c.loop-at.at in
    let past : length notes ≤ i = search rules in
    let fit : AllFit lane m (λ object. none_had) notes =
    holds-whole (AllCome lane m) all_had_after (AllFit lane m) (λ s. (λ object. tt, tt)) (all-fit-front lane m)
    (all-fit-back lane m) (λ object. none_had) notes i (had_of c.loop-at.marked) c.loop-at.invariant
    (drop_all i notes past) in
    record { fit = fit.0; marks = fit.1 }
