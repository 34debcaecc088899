use Rattle.std.proofs.Common.{◌≡◌, ℕ, ◌+◌, ◌-◌, ◌<◌, ◌≤◌, length, Option, None, Some, refl, sym, ap, ◌∙◌, subst, arith}
use Rattle.std.specs.Prelude.{IfSome, slice_get}
use Rattle.std.specs.Vec.{with_item}
use Rattle.pool_law.specs.declared.id.Parcel.{Parcel}
use Rattle.pool_law.specs.declared.id.ViewData.{ViewData}
use Rattle.pool_law.specs.declared.id.RootId.{RootId}
use Rattle.pool_law.specs.Views.{IsView}
use Rattle.pool_table.specs.Capacities.{knows_of}
use Rattle.pool_table.specs.Counts.{HasCount}
use Rattle.pool_table.specs.Letters.{received_on}
use Rattle.pool_table.specs.declared.views.Letter.{Letter}
use Rattle.shared_pool.specs.Knowing.{ReachesKnown}
use Rattle.shared_pool.specs.SeatViews.{view_of}
use Rattle.seat_work.specs.Changes.{once_more}
use Rattle.seat_work.specs.HandOvers.{fetched}
use Rattle.seat_work.specs.Works.{Proceeds}
use Rattle.seat_work.proofs.Counting.{one_self}
use Rattle.seat_work.proofs.Regrowing.{told_so}
use Rattle.seat_tries.proofs.Carrying.{fetches}
use Rattle.pool_member.specs.declared.member.Member.{Member}
use Rattle.pool_member.specs.Counting.{counted, told}
use Rattle.pool_member.specs.Pendings.{hand_of}
use Rattle.pool_member.proofs.Alone.{keeps, stays_fetched}
use Rattle.pool_member.proofs.Keeping.{alone_at, kept_by, may_work, spends_more, tell_known, times_one}
use Rattle.pool_member.proofs.Passing.{lane_below, next_here, none_sent, received_now, to_here}
use Rattle.pool_member.proofs.Pendings.{pending_stays}
use Rattle.pool_member.proofs.work.passing.accept.Goals as goal

pub receive-number-requires-clause-seat : goal.receive-number-requires-clause-seat
receive-number-requires-clause-seat c = c.requires.thread.works.seat

pub receive-number-requires-clause-to : goal.receive-number-requires-clause-to
receive-number-requires-clause-to c =
    to_here c.args.pool.now c.args.member.now c.requires.thread c.args.posted.letter c.requires.may
    c.requires.parcel.sender

pub receive-number-requires-clause-next : goal.receive-number-requires-clause-next
receive-number-requires-clause-next c =
    next_here c.args.pool.now c.args.member.now c.requires.thread c.args.posted.letter c.requires.may
    c.requires.parcel.sender

pub receive-number-requires-clause-own : goal.receive-number-requires-clause-own
receive-number-requires-clause-own c =
    c.requires.own c.args.posted.letter.from _ c.requires.parcel.sender
    (lane_below c.args.pool.now c.args.member.now c.requires.thread)

pub add-requires-clause-alone : goal.add-requires-clause-alone
add-requires-clause-alone c =
    let pool = c.args.pool.now in let old = c.args.member.now in let call = c.receive-number in
    let is = c.requires.thread in let root = c.in-Some.at.root in let parcel : Parcel = call.result.1 in
    let has : HasCount root (view_of call.new.seat) =
    subst (λ (o : Option ViewData). IfSome o (λ w. HasCount w.root (view_of call.new.seat))) c.in-Some.is
    call.ensures.counts in
    let came : Proceeds pool (hand_of old.pending) 0 0 (once_more root) old.seat call.new.seat =
    subst (λ (o : Option ViewData).
    Proceeds pool (hand_of old.pending) 0 0 (fetched (Some (record { view = o }))) old.seat call.new.seat) c.in-Some.is
    (fetches pool (hand_of old.pending) old.seat call.new.seat call.ensures.seat call.result.0
    (may_work pool old is 0 0 (omega arith) (omega arith)) c.args.posted.letter.from parcel call.ensures.received) in
    alone_at pool old is root (once_more root) call.new.seat call.ensures.seat came.changes (λ other. refl) has

-- the view fits, and its root is counted
in_view : (o : Option ViewData) (at : ViewData) → o ≡ Some at → IfSome o IsView → IsView at
in_view o at is view = subst (λ (p : Option ViewData). IfSome p IsView) is view

pub overflow_add-at : goal.overflow_add-at
overflow_add-at c =
    let a = (in_view _ c.in-Some.at c.in-Some.is c.receive-number.ensures.view).inside in omega (arith, a)

pub tell-requires : goal.tell-requires
tell-requires c = let a = c.add.ensures.counts c.in-Some.at.root in let b = one_self c.in-Some.at.root in
    omega (arith, a, b)

pub returns-clause-counts : goal.returns-clause-counts
returns-clause-counts c =
    let root = c.in-Some.at.root in let a = c.add.ensures.counts root in let b = one_self root in
    let d = c.tell.ensures.counts root in omega (arith, a, b, d)

pub returns-clause-reaches : goal.returns-clause-reaches
returns-clause-reaches c =
    let at = c.in-Some.at in let a = c.tell.ensures.tells at.root in let b = told_so at.root (at.offset + at.len) in
    omega (arith, a, b)

pub returns-clause-does : goal.returns-clause-does
returns-clause-does c =
    let pool = c.args.pool.now in let old = c.args.member.now in let call = c.receive-number in
    let is = c.requires.thread in let at = c.in-Some.at in let root = at.root in
    let parcel : Parcel = call.result.1 in let number = call.result.0 in let letter = c.args.posted.letter in
    let may = c.requires.may in
    let sender = c.requires.parcel.sender in let le = may.turns in
    let came : Proceeds pool (hand_of old.pending) 0 0 (once_more root) old.seat call.new.seat =
    subst (λ (o : Option ViewData).
    Proceeds pool (hand_of old.pending) 0 0 (fetched (Some (record { view = o }))) old.seat call.new.seat) c.in-Some.is
    (fetches pool (hand_of old.pending) old.seat call.new.seat call.ensures.seat number
    (may_work pool old is 0 0 (omega arith) (omega arith)) letter.from parcel call.ensures.received) in
    let new : Member = record old {
      seat = call.new.seat;
      account =
          record old.account {
            turns = old.account.turns - 1;
            counts = c.tell.new.self;
            received = with_item old.account.received c.letter-from.result.from number;
          };
    } in
    let places : length new.account.counts ≡ length old.account.counts =
    (let a = c.tell.ensures.places in let b = c.add.ensures.places in omega (arith, a, b)) in
    let spends = spends_more (once_more root) 1 old.account new.account refl (omega (arith, le)) places root
    (omega arith) (times_one root) (λ other. refl)
    (λ q. (let a = c.tell.ensures.counts q in let b = c.add.ensures.counts q in omega (arith, a, b)))
    (λ q lt. (let a = c.tell.ensures.counts q in let some : 0 < counted c.add.new.self q = omega (arith, a, lt) in
    let b = c.add.ensures.keeps q some in let d = c.tell.ensures.tells q in omega (arith, b, d)))
    (λ q lt kept. c.tell.ensures.alone q ∙ c.add.ensures.owns q lt kept) in
    let knows = λ (q : RootId). tell_known (view_of call.new.seat) root q (at.offset + at.len) _ _
    (c.tell.ensures.tells q)
    (let a = c.add.ensures.tells q in let b = is.knows q in let d = came.goes.knows q in
    let u : ℕ = knows_of q (view_of old.seat) in let w : ℕ = knows_of q (view_of call.new.seat) in
    let b' : told old.account.counts q ≤ u = b in let d' : u ≤ w = d in
    let g : told c.add.new.self q ≤ w = omega (arith, a, b', d') in g)
    (subst (λ (o : Option ViewData). IfSome o (ReachesKnown (view_of call.new.seat))) c.in-Some.is
    call.ensures.known) in
    kept_by pool (once_more root) 0 0 1 old new is came.goes came.changes spends knows (omega arith)
    (let a = came.goes.moves_left in let b = is.works.moves_left in omega (arith, a, b))
    (pending_stays pool old.pending old.seat new.seat came.sends.setting is.pending)
    (none_sent pool old is letter may sender call.new.seat number parcel call.ensures.received)
    (λ f lt.
    subst (λ (k : ℕ). slice_get (with_item old.account.received k number).items f
    ≡ Some (received_on f old.account.lane (view_of call.new.seat).own.notes))
    (sym (ap (λ (x : Letter). x.from) c.letter-from.ensures))
    (received_now pool old is letter may sender call.new.seat number parcel call.ensures.received f lt)) None
    (keeps None old new (stays_fetched old new letter.from number parcel call.ensures.received))
    (λ q kept. (stays_fetched old new letter.from number parcel call.ensures.received).alone q
    (is.alone q (c.add.ensures.alone q (sym (c.tell.ensures.alone q) ∙ kept))))
