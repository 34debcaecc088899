use Rattle.std.proofs.Common.{◌+◌, ◌≤◌, length, sym, subst, Some}
use Rattle.pool_law.specs.declared.id.RootId.{RootId}
use Rattle.pool_law.specs.declared.note.Did.{Did}
use Rattle.pool_table.specs.Capacities.{knows_of}
use Rattle.pool_table.specs.Counts.{HasCount}
use Rattle.shared_pool.specs.SeatViews.{view_of}
use Rattle.seat_tries.proofs.Carrying.{set_access}
use Rattle.pool_member.specs.Alone.{LaysOver}
use Rattle.pool_member.specs.Tries.{HasAccessed, StaysOut}
use Rattle.pool_member.proofs.Accessing.{after_turns, has_accessed, stays_out}
use Rattle.pool_member.proofs.Alone.{lays_over, stays_set}
use Rattle.pool_member.proofs.Keeping.{has_count, knows_too}
use Rattle.pool_member.proofs.work.access.try_set.Goals as goal

pub write-requires-clause-range : goal.write-requires-clause-range
write-requires-clause-range c =
    let a = c.args in let old = a.member.now in
    subst (λ (r : RootId). a.offset + length a.bytes.now ≤ knows_of r (view_of old.seat)) (sym c.in_parts.ensures)
    (knows_too a.pool.now old c.requires.thread a.root.now (a.offset + length a.bytes.now) c.requires.range)

pub write-requires-clause-counts : goal.write-requires-clause-counts
write-requires-clause-counts c =
    let a = c.args in let old = a.member.now in
    subst (λ (r : RootId). HasCount r (view_of old.seat)) (sym c.in_parts.ensures)
    (has_count a.pool.now old c.requires.thread a.root.now c.requires.counts)

pub returns-in-Did : goal.returns-in-Did
returns-in-Did c =
    let did = c.in-Did in let a = c.args in let old = a.member.now in let new = c.write.new.seat in
    let pool = a.pool.now in let number = did._number in let bytes = a.bytes.now in let noted = did.ensures.did in
    let root = c.in_parts.result in
    subst (λ (r : RootId). HasAccessed pool r (Did.Set a.offset bytes) (Some r) old (after_turns 1 old new)
    × LaysOver r a.offset bytes old (after_turns 1 old new)) c.in_parts.ensures (
      has_accessed pool old c.requires.thread c.requires.turns root new number (Did.Set a.offset bytes)
          did.ensures.seat (set_access a.offset bytes) noted (Some root)
          (stays_set pool old.seat new root number a.offset bytes noted),
      lays_over pool old (after_turns 1 old new) root number a.offset bytes noted,
    )

pub returns-in-Held : goal.returns-in-Held
returns-in-Held c =
    let held = c.in-Held in let pool = c.args.pool.now in let old = c.args.member.now in
    let new = c.write.new.seat in
    subst (λ (r : RootId). StaysOut pool r old (record old { seat = new })) c.in_parts.ensures
    (stays_out pool c.in_parts.result old new held._held c.requires.thread held.ensures.seat held.ensures.held)
