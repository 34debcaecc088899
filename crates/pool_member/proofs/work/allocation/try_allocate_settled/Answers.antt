use Rattle.std.proofs.Common.{◌≡◌, ◌*◌, ◌-◌, ◌<◌, Result, None, refl, sym, subst, arith}
use Rattle.std.specs.Prelude.{IfOk}
use Rattle.pool_law.specs.declared.id.RootId.{RootId}
use Rattle.pool_table.specs.Counts.{HasCount}
use Rattle.shared_pool.specs.SeatViews.{view_of}
use Rattle.seat_work.specs.Changes.{once_more}
use Rattle.seat_work.proofs.Counting.{one_self}
use Rattle.seat_tries.specs.declared.allocation.AllocNo.{AllocNo}
use Rattle.seat_tries.specs.Allocations.{allocated, refused, Allots}
use Rattle.seat_tries.specs.Leaving.{GoesOn}
use Rattle.pool_member.specs.declared.member.Member.{Member}
use Rattle.pool_member.specs.declared.pending.Pending.{Pending}
use Rattle.pool_member.specs.declared.pending.Pending.TheVariants.{Tried}
use Rattle.pool_member.specs.Threads.{Does}
use Rattle.pool_member.proofs.AloneLater.{stays_later}
use Rattle.pool_member.proofs.Keeping.{alone_at, few_of, kept_on, may_begin, spends_more, spends_none, tells_known, times_one}
use Rattle.pool_member.proofs.Letters.{later_letters}
use Rattle.pool_member.proofs.Settling.{none_got, none_gone}
use Rattle.pool_law.specs.Patterns.{allot}
use Rattle.shared_pool.specs.SeatLanes.{lane_of}
use Rattle.pool_member.specs.Watching.{watch_next}
use Rattle.pool_member.proofs.Allotted.{bears_of, tried_of}
use Rattle.pool_member.proofs.work.allocation.try_allocate_settled.Goals as goal

pub allocate-answer-requires-clause-works : goal.allocate-answer-requires-clause-works
allocate-answer-requires-clause-works c =
    may_begin c.args.pool.now c.args.member.now c.requires.thread 6 0 c.requires.settled c.requires.turns (omega arith)

pub add-requires-clause-place : goal.add-requires-clause-place
add-requires-clause-place c =
    let pool = c.args.pool.now in let shape = pool.table.layout.shape in
    let a : c.in-Ok.root.place < shape.lanes * shape.handles =
    subst (λ (r : Result RootId AllocNo). IfOk r (λ root. root.place < shape.lanes * shape.handles)) c.in-Ok.is
    c.allocate-answer.ensures.place in
    let b = c.requires.thread.places in omega (arith, a, b)

pub add-requires-clause-alone : goal.add-requires-clause-alone
add-requires-clause-alone c =
    let pool = c.args.pool.now in let old = c.args.member.now in let call = c.allocate-answer in
    let root = c.in-Ok.root in let left = call.result.1 in
    let goes : GoesOn pool 6 (once_more root) old.seat call.new.seat left =
    subst (λ (r : Result RootId AllocNo). GoesOn pool 6 (allocated r) old.seat call.new.seat left) c.in-Ok.is
    call.ensures.goes in
    let has = subst (λ (r : Result RootId AllocNo). IfOk r (λ root.
    (root.capacity ≡ c.args.size) × HasCount root (view_of call.new.seat))) c.in-Ok.is call.ensures.root in
    alone_at pool old c.requires.thread root (once_more root) call.new.seat goes.proceeds.goes.seat
    goes.proceeds.changes (λ other. refl) has.1

pub add-requires-clause-few : goal.add-requires-clause-few
add-requires-clause-few c = few_of c.args.pool.now c.args.member.now c.requires.thread c.in-Ok.root

pub returns-in-Ok-clause-counts : goal.returns-in-Ok-clause-counts
returns-in-Ok-clause-counts c =
    let a = c.add.ensures.counts c.in-Ok.root in let b = one_self c.in-Ok.root in omega (arith, a, b)

pub returns-in-Ok-clause-does : goal.returns-in-Ok-clause-does
returns-in-Ok-clause-does c =
    let pool = c.args.pool.now in let old = c.args.member.now in let call = c.allocate-answer in
    let root = c.in-Ok.root in let left = call.result.1 in let is = c.requires.thread in
    let goes : GoesOn pool 6 (once_more root) old.seat call.new.seat left =
    subst (λ (r : Result RootId AllocNo). GoesOn pool 6 (allocated r) old.seat call.new.seat left) c.in-Ok.is
    call.ensures.goes in
    let did = goes.proceeds in let le = c.requires.turns in
    let after : Member = record old {
      seat = call.new.seat;
      account = record old.account { turns = old.account.turns - 6; counts = c.add.new.self };
      pending = Tried left;
      watcher = c.count.new.self;
    } in
    let spends = spends_more (once_more root) 6 old.account after.account refl (omega (arith, le)) c.add.ensures.places
    root (omega arith) (times_one root) (λ other. refl) c.add.ensures.counts c.add.ensures.keeps c.add.ensures.owns in
    subst (λ (p : Pending). Does pool 6 (once_more root) None old (record after { pending = p })) (sym c.keep.ensures)
    (kept_on pool (once_more root) goes.spent 0 6 old after is did.goes did.changes spends
    (tells_known pool (once_more root) goes.spent 0 6 old after is did.goes did.changes spends c.add.ensures.tells)
    (let a = goes.within in omega (arith, a))
    (let a = did.goes.moves_left in let b = is.works.moves_left in omega (arith, a, b)) goes.begun
    (later_letters pool old.seat call.new.seat goes.later) refl None
    (stays_later pool old.seat call.new.seat goes.later) c.add.ensures.alone)

pub returns-in-Err-clause-does : goal.returns-in-Err-clause-does
returns-in-Err-clause-does c =
    let pool = c.args.pool.now in let old = c.args.member.now in let call = c.allocate-answer in
    let no = c.in-Err.no in let left = call.result.1 in let is = c.requires.thread in let change = refused no in
    let goes : GoesOn pool 6 change old.seat call.new.seat left =
    subst (λ (r : Result RootId AllocNo). GoesOn pool 6 (allocated r) old.seat call.new.seat left) c.in-Err.is
    call.ensures.goes in
    let did = goes.proceeds in let le = c.requires.turns in
    let after : Member = record old {
      seat = call.new.seat;
      account = record old.account { turns = old.account.turns - 6 };
      pending = Tried left;
    } in
    let spends = spends_none change 6 old.account after.account refl (omega (arith, le)) refl (none_got no)
    (none_gone no) (λ other. refl) (λ other. omega arith) (λ q kept. kept) in
    subst (λ (p : Pending). Does pool 6 change None old (record after { pending = p })) (sym c.keep.ensures)
    (kept_on pool change goes.spent 0 6 old after is did.goes did.changes spends
    (tells_known pool change goes.spent 0 6 old after is did.goes did.changes spends (λ root. omega arith))
    (let a = goes.within in omega (arith, a))
    (let a = did.goes.moves_left in let b = is.works.moves_left in omega (arith, a, b)) goes.begun
    (later_letters pool old.seat call.new.seat goes.later) refl None
    (stays_later pool old.seat call.new.seat goes.later) (λ q kept. kept))

pub returns-in-Ok-clause-notes : goal.returns-in-Ok-clause-notes
returns-in-Ok-clause-notes c =
    let a = c.args in let pool = a.pool.now in let old = a.member.now in let call = c.allocate-answer in
    let new = call.new.seat in let watch = c.watch-watch in
    let whole = allot pool.table.layout.shape (lane_of old.seat) a.size in
    bears_of pool a.size a.class watch.result old.seat new c.requires.class (watch_next old.watcher) watch.ensures
    c.in-Ok.root
    (subst (λ (r : Result RootId AllocNo).
    Allots whole a.class watch.result r call.result.1 (view_of old.seat) (view_of new)) c.in-Ok.is
    call.ensures.allots)

pub returns-in-Err-clause-notes : goal.returns-in-Err-clause-notes
returns-in-Err-clause-notes c =
    let a = c.args in let pool = a.pool.now in let old = a.member.now in let call = c.allocate-answer in
    let new : Member = record old {
      seat = call.new.seat;
      account = record old.account { turns = old.account.turns - 6 };
      pending = c.keep.new.pending;
    } in
    let watch = c.watch-watch in let whole = allot pool.table.layout.shape (lane_of old.seat) a.size in
    tried_of pool a.size a.class watch.result old.seat new call.result.1 c.keep.ensures c.in-Err.no
    (subst (λ (r : Result RootId AllocNo).
    Allots whole a.class watch.result r call.result.1 (view_of old.seat) (view_of call.new.seat)) c.in-Err.is
    call.ensures.allots)
