use Rattle.std.proofs.Common.{◌+◌, None, refl, arith}
use Rattle.seat_work.specs.Changes.{no_change}
use Rattle.seat_tries.proofs.Carrying.{looks}
use Rattle.pool_member.specs.declared.member.Member.{Member}
use Rattle.pool_member.specs.Pendings.{hand_of, owed}
use Rattle.pool_member.proofs.Alone.{stays_ref}
use Rattle.pool_member.proofs.Keeping.{has_count, kept_on, spends_none, tells_known}
use Rattle.pool_member.proofs.Letters.{ref_letters}
use Rattle.pool_law.specs.declared.note.RefDid.TheVariants.{Look}
use Rattle.shared_pool.specs.SeatViews.{view_of}
use Rattle.pool_member.proofs.Pendings.{pending_stays}
use Rattle.pool_member.proofs.work.counting.look.Goals as goal

pub look-requires-clause-seat : goal.look-requires-clause-seat
look-requires-clause-seat c = c.requires.thread.works.seat

pub look-requires-clause-counts : goal.look-requires-clause-counts
look-requires-clause-counts c =
    has_count c.args.pool.now c.args.member.now c.requires.thread c.args.root c.requires.counts

pub returns-clause-does : goal.returns-clause-does
returns-clause-does c =
    let pool = c.args.pool.now in let old = c.args.member.now in let call = c.look in let is = c.requires.thread in
    let new : Member = record old { seat = call.new.seat } in
    let did = looks pool (hand_of old.pending) old.seat new.seat call.ensures.seat c.args.root
    (old.account.turns + owed old.pending) old.account.moves is.works call.result call.ensures.did in
    let spends = spends_none no_change 0 old.account old.account refl (omega arith) refl (λ other. refl)
    (λ other. refl) (λ other. refl) (λ other. omega arith) (λ q kept. kept) in
    kept_on pool no_change 0 0 0 old new is did.goes did.changes spends
    (tells_known pool no_change 0 0 0 old new is did.goes did.changes spends (λ root. omega arith))
    (omega arith) (let a = did.goes.moves_left in let b = is.works.moves_left in omega (arith, a, b))
    (pending_stays pool old.pending old.seat new.seat did.sends.setting is.pending)
    (ref_letters old.seat new.seat c.args.root (Look call.result) (view_of old.seat).moves call.ensures.did) refl None
    (stays_ref None old.seat new.seat c.args.root (Look call.result) (view_of old.seat).moves call.ensures.did)
    (λ q kept. kept)
