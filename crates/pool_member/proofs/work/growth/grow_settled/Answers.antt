use Rattle.std.proofs.Common.{◌≡◌, ℕ, ◌-◌, le_refl, ◌≤◌, Ok, Err, Some, refl, sym, ◌∙◌, arith}
use Rattle.std.proofs.Math.Nat.{le_trans}
use Rattle.pool_law.specs.declared.id.RootId.{RootId}
use Rattle.pool_table.specs.Capacities.{knows_of}
use Rattle.shared_pool.specs.SeatViews.{view_of}
use Rattle.seat_work.specs.declared.regrowth.GrowNo.{GrowNo}
use Rattle.seat_work.specs.declared.regrowth.GrowNo.TheVariants.{Full}
use Rattle.seat_work.specs.Changes.{times}
use Rattle.seat_work.specs.Regrowths.{grown, reply_of}
use Rattle.seat_work.proofs.Regrowing.{told_so}
use Rattle.pool_member.specs.declared.member.Member.{Member}
use Rattle.pool_member.specs.Counting.{known, told}
use Rattle.pool_member.proofs.AloneLater.{grows_alone, stays_asked}
use Rattle.pool_member.proofs.Keeping.{has_count, knows_too, may_begin, settled_on, spends_none, tell_known, tells_settled}
use Rattle.pool_member.proofs.Letters.{later_letters_but}
use Rattle.pool_law.specs.Patterns.{regrow}
use Rattle.shared_pool.specs.SeatLanes.{lane_of}
use Rattle.pool_member.proofs.Asked.{nothing_left}
use Rattle.pool_member.proofs.work.growth.grow_settled.Goals as goal

pub grow-requires-clause-works : goal.grow-requires-clause-works
grow-requires-clause-works g c =
    may_begin c.args.pool.now c.args.member.now c.requires.thread 6 0 c.requires.settled c.requires.turns (omega arith)

pub grow-requires-clause-counts : goal.grow-requires-clause-counts
grow-requires-clause-counts g c =
    has_count c.args.pool.now c.args.member.now c.requires.thread c.args.root c.requires.counts

pub returns-in-Ok-clause-does : goal.returns-in-Ok-clause-does
returns-in-Ok-clause-does g c =
    let pool = c.args.pool.now in let old = c.args.member.now in let call = c.grow in
    let did = c.in-Ok.ensures.proceeds in let is = c.requires.thread in let root = c.args.root in
    let change = grown (Ok c.in-Ok.capacity) in let le = c.requires.turns in
    let new : Member = record old {
      seat = call.new.seat;
      account = record old.account { turns = old.account.turns - 6; counts = c.tell.new.self };
    } in
    let spends = spends_none change 6 old.account new.account refl (omega (arith, le)) c.tell.ensures.places
    (λ q. refl) (λ q. refl) c.tell.ensures.counts (λ q. (let a = c.tell.ensures.tells q in omega (arith, a)))
    (λ q kept. c.tell.ensures.alone q ∙ kept) in
    let knows = λ (q : RootId). tell_known (view_of call.new.seat) root q c.in-Ok.capacity _ _ (c.tell.ensures.tells q)
    (let b = is.knows q in let d = did.goes.knows q in
    let u : ℕ = knows_of q (view_of old.seat) in let w : ℕ = knows_of q (view_of call.new.seat) in
    let b' : told old.account.counts q ≤ u = b in let d' : u ≤ w = d in
    let g : told old.account.counts q ≤ w = omega (arith, b', d') in g) c.in-Ok.ensures.capacity.knows in
    settled_on pool change 6 0 6 old new is c.requires.settled refl did.goes did.changes spends knows (omega arith)
    (let a = did.goes.moves_left in let b = is.works.moves_left in omega (arith, a, b))
    (later_letters_but pool root old.seat call.new.seat call.ensures.later) refl (Some root)
    (stays_asked pool root old.seat call.new.seat call.ensures.later) (λ q kept. sym (c.tell.ensures.alone q) ∙ kept)

-- a refusal counts no root
none_got : (no : GrowNo) (q : RootId) → times q (grown (Err no)).got ≡ 0
none_got Full q = refl

none_gone : (no : GrowNo) (q : RootId) → times q (grown (Err no)).gone ≡ 0
none_gone Full q = refl

pub returns-in-Err-clause-does : goal.returns-in-Err-clause-does
returns-in-Err-clause-does g c =
    let pool = c.args.pool.now in let old = c.args.member.now in let call = c.grow in
    let did = c.in-Err.ensures.proceeds in let is = c.requires.thread in
    let change = grown (Err c.in-Err.no) in let le = c.requires.turns in
    let new : Member = record old {
      seat = call.new.seat;
      account = record old.account { turns = old.account.turns - 6 };
    } in
    let spends = spends_none change 6 old.account new.account refl (omega (arith, le)) refl (none_got c.in-Err.no)
    (none_gone c.in-Err.no) (λ q. refl) (λ q. omega arith) (λ q kept. kept) in
    settled_on pool change 6 0 6 old new is c.requires.settled refl did.goes did.changes spends
    (tells_settled pool change 6 0 6 old new is c.requires.settled refl did.goes did.changes spends
    (λ q. omega arith)) (omega arith)
    (let a = did.goes.moves_left in let b = is.works.moves_left in omega (arith, a, b))
    (later_letters_but pool c.args.root old.seat call.new.seat call.ensures.later) refl (Some c.args.root)
    (stays_asked pool c.args.root old.seat call.new.seat call.ensures.later) (λ q kept. kept)

pub returns-in-Ok-clause-counts : goal.returns-in-Ok-clause-counts
returns-in-Ok-clause-counts g c =
    let a = c.tell.ensures.counts c.args.root in let b = c.requires.counts in omega (arith, a, b)

pub returns-in-Ok-clause-knows : goal.returns-in-Ok-clause-knows
returns-in-Ok-clause-knows g c =
    let pool = c.args.pool.now in let old = c.args.member.now in let root = c.args.root in
    let a = c.tell.ensures.tells root in let b = told_so root c.in-Ok.capacity in
    let u : ℕ = knows_of root (view_of old.seat) in
    let below : known old.account.counts root ≤ u = knows_too pool old c.requires.thread root
    (known old.account.counts root) (le_refl (known old.account.counts root)) in
    let learned : u ≤ c.in-Ok.capacity = c.in-Ok.ensures.capacity.knew in
    let first : known old.account.counts root ≤ c.in-Ok.capacity = le_trans below learned in
    (first, omega (arith, a, b))

pub returns-in-Ok-clause-alone : goal.returns-in-Ok-clause-alone
returns-in-Ok-clause-alone g c =
    let old = c.args.member.now in let new : Member = record old { seat = c.grow.new.seat } in
    grows_alone c.args.pool.now c.args.root old new c.grow.ensures.later

pub returns-in-Err-clause-alone : goal.returns-in-Err-clause-alone
returns-in-Err-clause-alone g c =
    let old = c.args.member.now in let new : Member = record old { seat = c.grow.new.seat } in
    grows_alone c.args.pool.now c.args.root old new c.grow.ensures.later

-- what the law reads of it
pub returns-in-Ok-clause-notes : goal.returns-in-Ok-clause-notes
returns-in-Ok-clause-notes g c =
    let a = c.args in let old = a.member.now in let shape = a.pool.now.table.layout.shape in
    nothing_left (regrow shape (lane_of old.seat) a.root a.size) (Ok c.in-Ok.capacity) (view_of old.seat)
    (view_of c.grow.new.seat) old.pending c.requires.settled c.in-Ok.ensures.reads

pub returns-in-Err-clause-notes : goal.returns-in-Err-clause-notes
returns-in-Err-clause-notes g c =
    let a = c.args in let old = a.member.now in let shape = a.pool.now.table.layout.shape in
    nothing_left (regrow shape (lane_of old.seat) a.root a.size) (reply_of (Err c.in-Err.no)) (view_of old.seat)
    (view_of c.grow.new.seat) old.pending c.requires.settled c.in-Err.ensures.reads
