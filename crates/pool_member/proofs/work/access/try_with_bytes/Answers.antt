use Rattle.std.proofs.Common.{◌+◌, None}
use Rattle.pool_law.specs.declared.note.Did.{Did}
use Rattle.seat_tries.proofs.Carrying.{get_access}
use Rattle.pool_member.proofs.Accessing.{has_accessed, stays_out}
use Rattle.pool_member.proofs.Alone.{stays_got}
use Rattle.pool_member.proofs.Keeping.{has_count, knows_too}
use Rattle.pool_member.proofs.work.access.try_with_bytes.Goals as goal

pub with_bytes-requires-clause-range : goal.with_bytes-requires-clause-range
with_bytes-requires-clause-range g c =
    knows_too c.args.pool.now c.args.member.now c.requires.thread c.args.root (c.args.offset + c.args.len)
    c.requires.range

pub with_bytes-requires-clause-counts : goal.with_bytes-requires-clause-counts
with_bytes-requires-clause-counts g c =
    has_count c.args.pool.now c.args.member.now c.requires.thread c.args.root c.requires.counts

pub returns-in-Did-clause-shown : goal.returns-in-Did-clause-shown
returns-in-Did-clause-shown g c =
    let did = c.in-Did.ensures {u = tt} in let number = c.in-Did._number in let a = c.args in
    let old = a.member.now in let bytes = did.did.0 in (
      bytes,
      did.did.1,
      did.did.2,
      has_accessed a.pool.now old c.requires.thread c.requires.turns a.root c.with_bytes.new.seat number
          (Did.Get a.offset bytes) did.seat
          (get_access a.offset bytes) did.did.3 None
          (stays_got a.pool.now old.seat c.with_bytes.new.seat a.root number a.offset bytes did.did.3),
    )

pub returns-in-Held-clause-back : goal.returns-in-Held-clause-back
returns-in-Held-clause-back g c =
    let held = c.in-Held.ensures {u = tt} in (
      held.held.0,
      stays_out c.args.pool.now c.args.root c.args.member.now c.with_bytes.new.seat c.in-Held._held
          c.requires.thread held.seat held.held.1,
    )

pub returns-in-Did-clause-own : goal.returns-in-Did-clause-own
returns-in-Did-clause-own g c = (c.in-Did.ensures {u = tt}).lone
