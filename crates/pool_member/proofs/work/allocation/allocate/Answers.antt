use Rattle.std.proofs.Common.{◌-◌, None, refl, arith, ap, ◌∙◌}
use Rattle.seat_work.specs.Answers.{refused}
use Rattle.seat_work.specs.Changes.{once_more}
use Rattle.seat_work.proofs.Later.{born_on}
use Rattle.seat_work.proofs.Counting.{one_self}
use Rattle.pool_member.specs.declared.member.Member.{Member}
use Rattle.pool_member.proofs.AloneLater.{stays_later}
use Rattle.pool_member.proofs.Keeping.{alone_at, few_of, may_begin, settled_on, spends_more, spends_none, tells_settled, times_one}
use Rattle.pool_member.proofs.Letters.{later_letters}
use Rattle.pool_member.proofs.Settling.{alloc_cause, settled_does, still_turns}
use Rattle.pool_member.specs.Allotting.{BearsOf}
use Rattle.pool_member.specs.Watching.{watch_next}
use Rattle.pool_member.proofs.Allotted.{bears_of, from_settled, refused_of}
use Rattle.pool_member.proofs.work.allocation.allocate.Goals as goal

pub overflow_sub-member : goal.overflow_sub-member
overflow_sub-member g c =
    still_turns c.args.pool.now c.args.member.now c.settle.new.member 6 c.settle.ensures.settles c.requires.turns

pub allocate-requires-clause-works : goal.allocate-requires-clause-works
allocate-requires-clause-works g c =
    let pool = c.args.pool.now in let mid = c.settle.new.member in let settles = c.settle.ensures.settles in
    may_begin pool mid settles.thread 6 0 c.settle.ensures.settled
    (still_turns pool c.args.member.now mid 6 settles c.requires.turns) (omega arith)

pub add-requires-clause-place : goal.add-requires-clause-place
add-requires-clause-place g c =
    let a = c.in-Ok.ensures.place in let b = c.settle.ensures.settles.thread.places in omega (arith, a, b)

pub add-requires-clause-alone : goal.add-requires-clause-alone
add-requires-clause-alone g c =
    let root = c.in-Ok.root in let did = c.in-Ok.ensures.proceeds in
    alone_at c.args.pool.now c.settle.new.member c.settle.ensures.settles.thread root (once_more root)
    c.allocate.new.seat did.goes.seat did.changes (λ other. refl) c.in-Ok.ensures.root.1

pub add-requires-clause-few : goal.add-requires-clause-few
add-requires-clause-few g c =
    few_of c.args.pool.now c.settle.new.member c.settle.ensures.settles.thread c.in-Ok.root

pub returns-in-Ok-clause-counts : goal.returns-in-Ok-clause-counts
returns-in-Ok-clause-counts g c =
    let a = c.add.ensures.counts c.in-Ok.root in let b = one_self c.in-Ok.root in omega (arith, a, b)

pub returns-in-Ok-clause-born : goal.returns-in-Ok-clause-born
returns-in-Ok-clause-born g c =
    born_on c.args.pool.now c.in-Ok.root c.args.member.now.seat c.settle.new.member.seat c.allocate.new.seat
    c.settle.ensures.settles.later c.in-Ok.ensures.born

pub returns-in-Ok-clause-does : goal.returns-in-Ok-clause-does
returns-in-Ok-clause-does g c =
    let pool = c.args.pool.now in let mid = c.settle.new.member in let call = c.allocate in let root = c.in-Ok.root in
    let settles = c.settle.ensures.settles in let did = c.in-Ok.ensures.proceeds in let is = settles.thread in
    let new : Member = record mid {
      seat = call.new.seat;
      account = record mid.account { turns = mid.account.turns - 6; counts = c.add.new.self };
      watcher = c.count.new.self;
    } in
    let le = still_turns pool c.args.member.now mid 6 settles c.requires.turns in
    let none = c.settle.ensures.settled in
    let spends = spends_more (once_more root) 6 mid.account new.account refl (omega (arith, le)) c.add.ensures.places
    root (omega arith) (times_one root) (λ other. refl) c.add.ensures.counts c.add.ensures.keeps c.add.ensures.owns in
    settled_does pool c.args.member.now mid new 6 (once_more root) None settles
    (settled_on pool (once_more root) 6 0 6 mid new is none refl did.goes did.changes spends
    (tells_settled pool (once_more root) 6 0 6 mid new is none refl did.goes did.changes spends c.add.ensures.tells)
    (omega arith) (let a = did.goes.moves_left in let b = is.works.moves_left in omega (arith, a, b))
    (later_letters pool mid.seat call.new.seat call.ensures.later) refl None
    (stays_later pool mid.seat call.new.seat call.ensures.later) c.add.ensures.alone)

pub returns-in-Err-clause-does : goal.returns-in-Err-clause-does
returns-in-Err-clause-does g c =
    let pool = c.args.pool.now in let mid = c.settle.new.member in let call = c.allocate in
    let change = refused c.in-Err.no in
    let settles = c.settle.ensures.settles in let did = c.in-Err.ensures.proceeds in let is = settles.thread in
    let new : Member = record mid {
      seat = call.new.seat;
      account = record mid.account { turns = mid.account.turns - 6 };
    } in
    let le = still_turns pool c.args.member.now mid 6 settles c.requires.turns in
    let none = c.settle.ensures.settled in
    let spends = spends_none change 6 mid.account new.account refl (omega (arith, le)) refl (λ other. refl)
    (λ other. refl) (λ other. refl) (λ other. omega arith) (λ q kept. kept) in
    settled_does pool c.args.member.now mid new 6 change None settles
    (settled_on pool change 6 0 6 mid new is none refl did.goes did.changes spends
    (tells_settled pool change 6 0 6 mid new is none refl did.goes did.changes spends (λ root. omega arith))
    (omega arith) (let a = did.goes.moves_left in let b = is.works.moves_left in omega (arith, a, b))
    (later_letters pool mid.seat call.new.seat call.ensures.later) refl None
    (stays_later pool mid.seat call.new.seat call.ensures.later) (λ q kept. kept))

pub returns-in-Err-clause-cause : goal.returns-in-Err-clause-cause
returns-in-Err-clause-cause g c =
    let mid = c.settle.new.member in
    let new : Member = record mid {
      seat = c.allocate.new.seat;
      account = record mid.account { turns = mid.account.turns - 6 };
    } in
    alloc_cause c.args.pool.now c.args.member.now mid new c.settle.ensures.settles c.in-Err.no c.in-Err.ensures.worn

pub returns-in-Ok-clause-notes : goal.returns-in-Ok-clause-notes
returns-in-Ok-clause-notes g c =
    let a = c.args in let pool = a.pool.now in let old = a.member.now in let mid = c.settle.new.member in
    let new = c.allocate.new.seat in let settles = c.settle.ensures.settles in
    let next = watch_next old.watcher in let watch = c.watch-watch in
    from_settled pool (λ m. BearsOf pool a.size next c.in-Ok.root m new) old mid settles c.settle.ensures.settled
    (bears_of pool a.size a.class watch.result mid.seat new c.requires.class next
    (watch.ensures ∙ ap (λ (m : Member). watch_next m.watcher) settles.rest) c.in-Ok.root c.in-Ok.ensures.allots)

pub returns-in-Err-clause-notes : goal.returns-in-Err-clause-notes
returns-in-Err-clause-notes g c =
    let a = c.args in let mid = c.settle.new.member in
    let new : Member = record mid {
      seat = c.allocate.new.seat;
      account = record mid.account { turns = mid.account.turns - 6 };
    } in
    refused_of a.pool.now a.size a.class c.watch-watch.result a.member.now mid new c.settle.ensures.settles
    c.settle.ensures.settled c.in-Err.no c.in-Err.ensures.allots
