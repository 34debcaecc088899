use Rattle.std.proofs.Common.{◌+◌}
use Rattle.pool_member.proofs.Accessing.{has_set_over, stays_out}
use Rattle.pool_member.proofs.Keeping.{has_count, knows_too}
use Rattle.pool_member.proofs.work.in_place.try_with_bytes_mut.Goals as goal

pub with_bytes_mut-requires-clause-range : goal.with_bytes_mut-requires-clause-range
with_bytes_mut-requires-clause-range g c =
    knows_too c.args.pool.now c.args.member.now c.requires.thread c.args.root (c.args.offset + c.args.len)
    c.requires.range

pub with_bytes_mut-requires-clause-counts : goal.with_bytes_mut-requires-clause-counts
with_bytes_mut-requires-clause-counts g c =
    has_count c.args.pool.now c.args.member.now c.requires.thread c.args.root c.requires.counts

pub returns-in-Did-clause-set : goal.returns-in-Did-clause-set
returns-in-Did-clause-set g c =
    let did = c.in-Did.ensures {u = tt} in let a = c.args in let before = did.did.0 in let bytes = did.did.1 in (
      before,
      bytes,
      did.did.2,
      did.did.3,
      did.did.4,
      has_set_over a.pool.now a.member.now c.requires.thread c.requires.turns a.root c.with_bytes_mut.new.seat
          c.in-Did._number a.offset before bytes did.seat did.did.5,
    )

pub returns-in-Held-clause-back : goal.returns-in-Held-clause-back
returns-in-Held-clause-back g c =
    let held = c.in-Held.ensures {u = tt} in (
      held.held.0,
      stays_out c.args.pool.now c.args.root c.args.member.now c.with_bytes_mut.new.seat c.in-Held._held
          c.requires.thread held.seat held.held.1,
    )
