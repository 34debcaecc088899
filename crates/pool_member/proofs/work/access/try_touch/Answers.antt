use Rattle.std.proofs.Common.{None}
use Rattle.pool_law.specs.declared.note.Did.{Did}
use Rattle.seat_tries.proofs.Carrying.{touch_access}
use Rattle.pool_member.proofs.Accessing.{has_accessed, stays_out}
use Rattle.pool_member.proofs.Alone.{stays_touched}
use Rattle.pool_member.proofs.Keeping.{has_count}
use Rattle.pool_member.proofs.work.access.try_touch.Goals as goal

pub touch-requires-clause-counts : goal.touch-requires-clause-counts
touch-requires-clause-counts c =
    has_count c.args.pool.now c.args.member.now c.requires.thread c.args.root c.requires.counts

pub returns-in-Did : goal.returns-in-Did
returns-in-Did c =
    let did = c.in-Did in let a = c.args in let old = a.member.now in
    has_accessed a.pool.now old c.requires.thread c.requires.turns a.root c.touch.new.seat did._number
    Did.Touch did.ensures.seat
    touch_access did.ensures.did None
    (stays_touched a.pool.now old.seat c.touch.new.seat a.root did._number did.ensures.did)

pub returns-in-Held : goal.returns-in-Held
returns-in-Held c =
    let held = c.in-Held in
    stays_out c.args.pool.now c.args.root c.args.member.now c.touch.new.seat held._held c.requires.thread
    held.ensures.seat held.ensures.held
