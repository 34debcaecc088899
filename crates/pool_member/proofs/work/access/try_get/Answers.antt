use Rattle.std.proofs.Common.{◌≡◌, ◌+◌, ◌≤◌, length, sym, subst, None}
use Rattle.pool_law.specs.declared.id.RootId.{RootId}
use Rattle.pool_law.specs.declared.note.Did.{Did}
use Rattle.pool_table.specs.Capacities.{knows_of}
use Rattle.pool_table.specs.Counts.{HasCount}
use Rattle.shared_pool.specs.SeatViews.{view_of}
use Rattle.seat_tries.proofs.Carrying.{get_access}
use Rattle.pool_member.specs.Alone.{AreLaid}
use Rattle.pool_member.specs.Tries.{HasAccessed, StaysOut}
use Rattle.pool_member.proofs.Accessing.{after_turns, has_accessed, stays_out}
use Rattle.pool_member.proofs.Alone.{stays_got}
use Rattle.pool_member.proofs.Keeping.{has_count, knows_too}
use Rattle.pool_member.proofs.work.access.try_get.Goals as goal

pub read-requires-clause-range : goal.read-requires-clause-range
read-requires-clause-range c =
    let a = c.args in let old = a.member.now in
    subst (λ (r : RootId). a.offset + length a.out.now ≤ knows_of r (view_of old.seat)) (sym c.in_parts.ensures)
    (knows_too a.pool.now old c.requires.thread a.root.now (a.offset + length a.out.now) c.requires.range)

pub read-requires-clause-counts : goal.read-requires-clause-counts
read-requires-clause-counts c =
    let a = c.args in let old = a.member.now in
    subst (λ (r : RootId). HasCount r (view_of old.seat)) (sym c.in_parts.ensures)
    (has_count a.pool.now old c.requires.thread a.root.now c.requires.counts)

pub returns-in-Did-clause-tried : goal.returns-in-Did-clause-tried
returns-in-Did-clause-tried c =
    let did = c.in-Did in let a = c.args in let old = a.member.now in let out = c.read.new.out in
    let pool = a.pool.now in let new = c.read.new.seat in let number = did._number in let noted = did.ensures.did in
    let root = c.in_parts.result in
    subst (λ (r : RootId). HasAccessed pool r (Did.Get a.offset out) None old (after_turns 1 old new)
    × AreLaid old r a.offset out) c.in_parts.ensures (
      has_accessed pool old c.requires.thread c.requires.turns root new number (Did.Get a.offset out)
          did.ensures.seat (get_access a.offset out) noted None
          (stays_got pool old.seat new root number a.offset out noted),
      did.ensures.lone,
    )

pub returns-in-Held-clause-tried : goal.returns-in-Held-clause-tried
returns-in-Held-clause-tried c =
    let held = c.in-Held in let found = held.ensures.held in let pool = c.args.pool.now in
    let old = c.args.member.now in let new = c.read.new.seat in
    subst (λ (r : RootId). StaysOut pool r old (record old { seat = new }) × (c.read.new.out ≡ c.args.out.now))
    c.in_parts.ensures (
      stays_out pool c.in_parts.result old new held._held c.requires.thread held.ensures.seat found.1,
      found.0,
    )
