use Rattle.std.proofs.Common.{ℕ, List, take, sym, subst, ◌∙◌}
use Rattle.std.specs.Prelude.{IsTrue}
use Rattle.std.specs.List.{list_all}
use Rattle.pool_law.specs.declared.note.Note.{Note}
use Rattle.size_classes.specs.Sizes.{below}
use Rattle.pool_law.specs.declared.report.ChunkEnd.{ChunkEnd}
use Rattle.pool_law.specs.declared.run.LaneLog.{LaneLog}
use Rattle.pool_law.specs.Legal.{ends_from}
use Rattle.pool_law.specs.Logs.{of_lane, note_stands, history_of}
use Rattle.pool_law.specs.Busy.{BusyHolds}
use Rattle.run_check.specs.Placing.{BreaksFirst, DifferAt}
use Rattle.run_check.specs.ByObject.{notes_in}
use Rattle.run_check.specs.Storing.{history_in}
use Rattle.run_check.proofs.CheckingLemmas.{busy-on, busy-back}
use Rattle.run_check.proofs.FirstLemmas.{first-same}
use Rattle.run_check.proofs.ItemLemmas.{all-pass-take}
use Rattle.run_check.proofs.checking.breach_of_notes.Goals as goal

pub returns-in-Some : goal.returns-in-Some
returns-in-Some c =
    let run = c.args.run.now in
    subst
    (λ (ls : List LaneLog). BreaksFirst (λ lane (ns : List Note). IsTrue (list_all (note_stands run.shape lane) ns))
    (notes_in ls) c.in-Some.spot)
    c.items-logs.ensures c.in-Some.ensures

pub returns-in-Some-2 : goal.returns-in-Some-2
returns-in-Some-2 c =
    let run = c.args.run.now in
    let logs = notes_in run.logs in
    let m = c.args.histories.now in
    let spot = c.in-Some-2.spot in
    let stand : (lane n : ℕ) → IsTrue (list_all (note_stands run.shape lane) (take n (of_lane logs lane))) =
    λ lane n.
    all-pass-take (note_stands run.shape lane) n (of_lane logs lane)
    (subst (λ (ls : List LaneLog). IsTrue (list_all (note_stands run.shape lane) (of_lane (notes_in ls) lane)))
    c.items-logs.ensures (rw c.in_default.is at c.first_astray.ensures lane)) in
    first-same (λ lane (ns : List Note). BusyHolds lane (history_in m) ns)
    (λ lane (ns : List Note). BusyHolds lane (λ object. history_of object logs) ns) logs spot
    (λ lane n. busy-on run.shape logs m c.requires.histories lane (take n (of_lane logs lane)) (stand lane n))
    (λ lane n. busy-back run.shape logs m c.requires.histories lane (take n (of_lane logs lane)) (stand lane n))
    (subst
    (λ (ls : List LaneLog). BreaksFirst (λ lane (ns : List Note). BusyHolds lane (history_in m) ns) (notes_in ls) spot)
    c.items-logs.ensures (rw c.in-Some-2.is at c.in_ok-spot.ensures))

pub returns-in-Some-first_unlike : goal.returns-in-Some-first_unlike
returns-in-Some-first_unlike c =
    let run = c.args.run.now in
    let logs = notes_in run.logs in
    let Q = λ (xs ys : List ChunkEnd). DifferAt xs ys c.in-Some-first_unlike.at in
    subst (λ (xs : List ChunkEnd). Q xs (ends_from run.shape logs (below run.shape.arenas))) c.items.ensures
    (subst (λ (ys : List ChunkEnd). Q c.items.result.now ys)
    (c.deref.ensures.value ∙ c.in_ok-ends.ensures logs c.requires.histories) c.in-Some-first_unlike.ensures)

pub returns : goal.returns
returns c =
    let run = c.args.run.now in
    let logs = notes_in run.logs in
    let m = c.args.histories.now in
    let stand : (lane : ℕ) → IsTrue (list_all (note_stands run.shape lane) (of_lane logs lane)) =
    λ lane.
    subst (λ (ls : List LaneLog). IsTrue (list_all (note_stands run.shape lane) (of_lane (notes_in ls) lane)))
    c.items-logs.ensures (rw c.in_default.is at c.first_astray.ensures lane) in
    record {
      stand = stand;
      busy = λ lane.
          busy-on run.shape logs m c.requires.histories lane (of_lane logs lane) (stand lane)
          (subst (λ (ls : List LaneLog). BusyHolds lane (history_in m) (of_lane (notes_in ls) lane))
          c.items-logs.ensures (rw c.in_default-2.is at c.in_ok-spot.ensures lane));
      chunks =
          sym c.items.ensures
          ∙ rw c.in_default-first_unlike.is at c.first_unlike.ensures
          ∙ c.deref.ensures.value
          ∙ c.in_ok-ends.ensures logs c.requires.histories;
    }
