use Rattle.std.proofs.Common.{rules, ℕ, ◌≤◌, List, length, sym, subst, arith, below_more}
use Rattle.pool_law.specs.declared.id.RootId.{RootId}
use Rattle.pool_law.specs.Logs.{ToldNote, of_lane, entries_of}
use Rattle.pool_law.specs.Counts.{CountsHold}
use Rattle.lane_reader.specs.Reading.{entries}
use Rattle.run_check.specs.ByObject.{notes_in}
use Rattle.run_check.proofs.FirstLemmas.{found-first}
use Rattle.run_check.proofs.LaneLemmas.{each-lane, length-entries}
use Rattle.run_check.proofs.lanes.first_miscounted.Goals as goal

pub returns-in-Some : goal.returns-in-Some
returns-in-Some c =
    found-first (λ k (es : List ToldNote). (root : RootId) → CountsHold root 0 es)
    (entries_of (notes_in c.args.logs.now)) c.loop-lane.lane c.in-Some.at (entries c.log_at.result) c.spot.result
    c.spot.ensures (sym c.log_at.ensures.entries) c.loop-lane.invariant (rw c.in-Some.is at c.in_ok-at.ensures)

pub loop-lane-preserved : goal.loop-lane-preserved
loop-lane-preserved c =
    below_more
    (λ (k : ℕ). (root : RootId) → CountsHold root 0 (of_lane (entries_of (notes_in c.args.logs.now)) k))
    c.loop-lane.lane c.loop-lane.invariant
    (subst (λ (es : List ToldNote). (root : RootId) → CountsHold root 0 es) c.log_at.ensures.entries
    (rw c.in_default.is at c.in_ok-at.ensures))

pub returns : goal.returns
returns c =
    let past : length c.args.logs.now ≤ c.loop-lane.lane = search rules in
    each-lane (λ k (es : List ToldNote). (root : RootId) → CountsHold root 0 es)
    (entries_of (notes_in c.args.logs.now)) c.loop-lane.lane c.loop-lane.invariant
    (omega (arith, past, length-entries c.args.logs.now)) (λ k root. tt)
