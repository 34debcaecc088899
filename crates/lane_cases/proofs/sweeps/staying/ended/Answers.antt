use Rattle.std.proofs.Common.{ap, sym, subst, arith}
use Rattle.pool_law.specs.declared.id.RootId.{RootId}
use Rattle.seat_work.specs.Answers.{with_both, with_token}
use Rattle.seat_work.specs.Hands.{empty_hand}
use Rattle.seat_work.specs.Works.{Works}
use Rattle.seat_work.proofs.Calls.{ended_root, released_last}
use Rattle.seat_work.proofs.Proceeding.{goes_none, works_after}
use Rattle.lane_cases.proofs.sweeps.staying.ended.Goals as goal

pub retire-requires-clause-turn : goal.retire-requires-clause-turn
retire-requires-clause-turn c =
    let turns = ap (λ m. m.0.turns) c.in-Ended.ensures.did.2 in let left = c.requires.works.turns_left in
    omega (arith, turns, left)

pub returns-in-Ended-clause-works : goal.returns-in-Ended-clause-works
returns-in-Ended-clause-works c =
    let pool = c.args.pool.now in let old = c.args.seat.now in let mid = c.release.new.seat in
    let new = c.retire.new.seat in let out = c.retire.result in let root = c.args.root in
    let did = c.in-Ended.ensures.did in let token = c.in-Ended.token in
    let here : Works pool (with_token token.root) 1000001 0 mid =
    subst (λ (r : RootId). Works pool (with_token r) 1000001 0 mid) (sym did.0)
    (works_after pool empty_hand (with_token root) 1000001 0 0 0 1000001 0 old mid c.requires.works
    (released_last pool old mid c.release.ensures.seat root 1000001 0 c.requires.works c.requires.counts did.2).goes
    (omega arith) (omega arith)) in
    let one : Works pool (with_token token.root) 1 0 mid =
    works_after pool (with_token token.root) (with_token token.root) 1000001 0 0 0 1 0 mid mid here
    (goes_none pool (with_token token.root) 1000001 0 mid here) (omega arith) (omega arith) in
    works_after pool (with_token token.root) (with_both out.handle.place out.region.id) 1000001 0 1 0 1000000 0 mid new
    here
    (ended_root pool mid new c.retire.ensures.seat token.root out.handle.place out.number out.region.id one
    c.retire.ensures.did c.retire.ensures.handle.1).goes (omega arith) (omega arith)

pub returns-in-Ended-clause-region : goal.returns-in-Ended-clause-region
returns-in-Ended-clause-region c = let holds = c.retire.ensures.region in
    record { here = holds.here; owner = holds.owner; class = holds.class; len = holds.len }
