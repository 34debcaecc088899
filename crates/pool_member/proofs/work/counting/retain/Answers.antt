use Rattle.std.proofs.Common.{◌-◌, None, refl, arith}
use Rattle.pool_law.specs.declared.note.RefDid.TheVariants.{Retain}
use Rattle.shared_pool.specs.SeatViews.{view_of}
use Rattle.seat_work.specs.Changes.{once_more}
use Rattle.seat_work.proofs.Counting.{still_counts}
use Rattle.seat_tries.proofs.Carrying.{retains}
use Rattle.pool_member.specs.declared.member.Member.{Member}
use Rattle.pool_member.proofs.CountLaws.{counted_within}
use Rattle.pool_member.specs.Pendings.{hand_of}
use Rattle.pool_member.proofs.Alone.{stays_ref}
use Rattle.pool_member.proofs.Keeping.{alone_at, few_of, has_count, kept_on, may_work, spends_more, tells_known, times_one}
use Rattle.pool_member.proofs.Letters.{ref_letters}
use Rattle.pool_member.proofs.Pendings.{pending_stays}
use Rattle.pool_member.proofs.work.counting.retain.Goals as goal

pub retain-requires-clause-seat : goal.retain-requires-clause-seat
retain-requires-clause-seat c = c.requires.thread.works.seat

pub retain-requires-clause-counts : goal.retain-requires-clause-counts
retain-requires-clause-counts c =
    has_count c.args.pool.now c.args.member.now c.requires.thread c.args.root c.requires.counts

pub retain-requires-clause-moves : goal.retain-requires-clause-moves
retain-requires-clause-moves c =
    let a = c.requires.thread.works.moves_left in let b = c.requires.moves in omega (arith, a, b)

pub add-requires-clause-place : goal.add-requires-clause-place
add-requires-clause-place c = counted_within c.args.member.now.account.counts c.args.root c.requires.counts

pub add-requires-clause-alone : goal.add-requires-clause-alone
add-requires-clause-alone c =
    let pool = c.args.pool.now in let old = c.args.member.now in let call = c.retain in let is = c.requires.thread in
    let root = c.args.root in
    let did = retains pool (hand_of old.pending) old.seat call.new.seat call.ensures.seat root 0 1
    (may_work pool old is 0 1 (omega arith) c.requires.moves)
    (let a = is.works.moves_left in let b = c.requires.moves in omega (arith, a, b)) call.ensures.did in
    alone_at pool old is root (once_more root) call.new.seat call.ensures.seat did.changes (λ other. refl)
    (still_counts (once_more root) (view_of old.seat) (view_of call.new.seat) root refl did.changes
    (has_count pool old is root c.requires.counts))

pub add-requires-clause-few : goal.add-requires-clause-few
add-requires-clause-few c = few_of c.args.pool.now c.args.member.now c.requires.thread c.args.root

pub returns-clause-does : goal.returns-clause-does
returns-clause-does c =
    let pool = c.args.pool.now in let old = c.args.member.now in let call = c.retain in let is = c.requires.thread in
    let root = c.args.root in
    let did = retains pool (hand_of old.pending) old.seat call.new.seat call.ensures.seat root 0 1
    (may_work pool old is 0 1 (omega arith) c.requires.moves)
    (let a = is.works.moves_left in let b = c.requires.moves in omega (arith, a, b)) call.ensures.did in
    let new : Member = record old {
      seat = call.new.seat;
      account =
          record old.account {
            turns = old.account.turns - 1;
            moves = old.account.moves - 1;
            counts = c.add.new.self;
          };
    } in
    let le = c.requires.turns in let lf = c.requires.moves in
    let more = once_more root in
    let spends = spends_more more 1 old.account new.account refl (omega (arith, le)) c.add.ensures.places
    root (omega arith) (times_one root) (λ other. refl) c.add.ensures.counts c.add.ensures.keeps c.add.ensures.owns in
    kept_on pool more 0 1 1 old new is did.goes did.changes spends
    (tells_known pool more 0 1 1 old new is did.goes did.changes spends c.add.ensures.tells) (omega arith)
    (let a = did.goes.moves_left in let b = is.works.moves_left in omega (arith, a, b, lf))
    (pending_stays pool old.pending old.seat call.new.seat did.sends.setting is.pending)
    (ref_letters old.seat call.new.seat root Retain ((view_of old.seat).moves - 1) call.ensures.did) refl None
    (stays_ref None old.seat call.new.seat root Retain ((view_of old.seat).moves - 1) call.ensures.did)
    c.add.ensures.alone

pub returns-clause-moves : goal.returns-clause-moves
returns-clause-moves c = let lf = c.requires.moves in omega (arith, lf)
