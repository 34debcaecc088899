use Rattle.std.proofs.Common.{◌≡◌, ◌+◌, ◌-◌, ◌<◌, true, false, List, Some, refl, sym, ap, subst, arith, ◌∙◌}
use Rattle.std.specs.Prelude.{IsSome}
use Rattle.pool_law.specs.declared.id.Parcel.{Parcel}
use Rattle.pool_table.specs.declared.views.Letter.{Letter}
use Rattle.seat_work.specs.HandOvers.{posted}
use Rattle.seat_tries.proofs.Carrying.{posts_changes, posts_goes, posts_sends}
use Rattle.pool_law.specs.declared.id.RootId.{RootId}
use Rattle.pool_member.specs.declared.counts.Counted.{Counted}
use Rattle.pool_member.specs.declared.member.Member.{Member}
use Rattle.pool_member.specs.Counting.{is_alone}
use Rattle.pool_member.specs.Pendings.{hand_of}
use Rattle.pool_member.proofs.Alone.{keeps_posted}
use Rattle.pool_member.proofs.Keeping.{has_count, kept_by, knows_too, may_work, not_gone, spends_less, tells_known, times_one}
use Rattle.pool_member.proofs.Passing.{few_to, one_sent, own_to, sender_below, still_received}
use Rattle.pool_member.proofs.Pendings.{pending_stays}
use Rattle.pool_member.proofs.work.passing.part.Goals as goal

pub send-posted-requires-clause-seat : goal.send-posted-requires-clause-seat
send-posted-requires-clause-seat c = c.requires.thread.works.seat

pub send-posted-requires-clause-own : goal.send-posted-requires-clause-own
send-posted-requires-clause-own c =
    own_to c.args.pool.now c.args.member.now c.requires.thread c.args.to c.requires.own c.requires.to

pub send-posted-requires-clause-few : goal.send-posted-requires-clause-few
send-posted-requires-clause-few c = few_to c.args.pool.now c.args.member.now c.requires.thread c.args.to
    c.requires.turns

pub send-posted-requires-clause-counts : goal.send-posted-requires-clause-counts
send-posted-requires-clause-counts c =
    has_count c.args.pool.now c.args.member.now c.requires.thread c.args.at.root c.requires.counts

pub send-posted-requires-clause-known : goal.send-posted-requires-clause-known
send-posted-requires-clause-known c =
    let at = c.args.at in
    knows_too c.args.pool.now c.args.member.now c.requires.thread at.root (at.offset + at.len) c.requires.reaches

-- a root that is kept as its own is none that is not
other : (cs : List Counted) (root q : RootId) → is_alone cs root ≡ false → is_alone cs q ≡ true → root ≡ q → ⊥
other cs root q gone kept same = cc (sym (subst (λ (r : RootId). is_alone cs r ≡ true) (sym same) kept) ∙ gone)

pub returns-clause-does : goal.returns-clause-does
returns-clause-does c =
    let pool = c.args.pool.now in let old = c.args.member.now in let call = c.send-posted in let is =
    c.requires.thread in
    let root = c.args.at.root in let parcel : Parcel = record { view = Some c.args.at } in let le = c.requires.turns in
    let number = call.result.letter.number in let hand = hand_of old.pending in let to = c.args.to in
    let new : Member = record old {
      seat = call.new.seat;
      account = record old.account { turns = old.account.turns - 1; counts = c.part.new.self };
    } in
    let works = may_work pool old is 0 0 (omega arith) (omega arith) in
    let counts = has_count pool old is root c.requires.counts in let posted_is = call.ensures.posted in
    let goes = posts_goes pool hand old.seat new.seat call.ensures.seat number works to parcel counts posted_is in
    let changes = posts_changes pool hand old.seat new.seat call.ensures.seat number works to parcel counts posted_is in
    let sends = posts_sends pool hand old.seat new.seat call.ensures.seat number works to parcel counts posted_is in
    let spends = spends_less (posted parcel) 1 old.account new.account refl (omega (arith, le)) c.part.ensures.places
    root (λ other. refl) (times_one root) c.part.ensures.counts c.part.ensures.tells
    (λ q none kept. c.part.ensures.owns q (not_gone root q none) kept) in
    kept_by pool (posted parcel) 0 0 1 old new is goes changes spends
    (tells_known pool (posted parcel) 0 0 1 old new is goes changes spends
    (λ q. (let a = c.part.ensures.tells q in omega (arith, a)))) (omega arith)
    (let a = goes.moves_left in let b = is.works.moves_left in omega (arith, a, b))
    (pending_stays pool old.pending old.seat new.seat sends.setting is.pending)
    (one_sent pool old is new.seat to number parcel posted_is sends)
    (λ from lt.
    is.received from lt
    ∙ ap (λ n. Some n)
    (sym (still_received pool old is new.seat to number parcel posted_is from))) (Some root)
    (keeps_posted old new to number parcel root refl posted_is)
    (λ q kept. (keeps_posted old new to number parcel root refl posted_is q
    (λ e. other c.part.new.self root q c.part.ensures.gone kept (cc e))
    (is.alone q (c.part.ensures.alone q kept))).0)

pub returns-clause-parcel : goal.returns-clause-parcel
returns-clause-parcel c =
    let letter = c.send-posted.ensures.letter in
    record {
      table = letter.0;
      sender =
          subst (λ (x : Letter). x.from < c.args.pool.now.table.layout.shape.lanes) (sym letter.1)
          (sender_below c.args.pool.now c.args.member.now c.requires.thread);
      buffer = subst (λ (x : Letter). IsSome x.parcel.view) (sym letter.1) refl;
    }
