use Rattle.std.proofs.Common.{ℕ, ◌-◌, ◌≤◌, Result, Ok, Err, Some, refl, sym, ◌∙◌, subst, arith}
use Rattle.pool_law.specs.declared.id.RootId.{RootId}
use Rattle.pool_table.specs.Capacities.{knows_of}
use Rattle.shared_pool.specs.SeatViews.{view_of}
use Rattle.pool_member.specs.declared.member.Member.{Member}
use Rattle.pool_member.specs.declared.pending.Pending.{Pending}
use Rattle.pool_member.specs.declared.work.attempted.AskNo.{AskNo}
use Rattle.pool_member.specs.Counting.{told}
use Rattle.pool_member.specs.Growths.{asked, AsksOn}
use Rattle.pool_member.specs.Threads.{Does}
use Rattle.pool_member.proofs.Asking.{asked_got, asked_gone}
use Rattle.pool_member.proofs.AloneLater.{grows_alone, stays_asked}
use Rattle.pool_member.proofs.Keeping.{has_count, kept_on, may_begin, spends_none, tell_known, tells_known}
use Rattle.pool_member.proofs.Letters.{later_letters_but}
use Rattle.pool_law.specs.Patterns.{regrow}
use Rattle.shared_pool.specs.SeatLanes.{lane_of}
use Rattle.pool_member.specs.Growths.{Regrows}
use Rattle.pool_member.proofs.work.growth.try_grow_settled.Goals as goal

pub ask-answer-requires-clause-works : goal.ask-answer-requires-clause-works
ask-answer-requires-clause-works c =
    may_begin c.args.pool.now c.args.member.now c.requires.thread 6 0 c.requires.settled c.requires.turns (omega arith)

pub ask-answer-requires-clause-counts : goal.ask-answer-requires-clause-counts
ask-answer-requires-clause-counts c =
    has_count c.args.pool.now c.args.member.now c.requires.thread c.args.root c.requires.counts

pub returns-in-Ok-clause-does : goal.returns-in-Ok-clause-does
returns-in-Ok-clause-does c =
    let pool = c.args.pool.now in let old = c.args.member.now in let call = c.ask-answer in
    let root = c.args.root in let left = call.result.1 in let is = c.requires.thread in let le = c.requires.turns in
    let answer : Result ℕ AskNo = Ok c.in-Ok.capacity in
    let asks : AsksOn pool 6 root c.args.size old.seat call.new.seat answer left =
    subst (λ (r : Result ℕ AskNo). AsksOn pool 6 root c.args.size old.seat call.new.seat r left) c.in-Ok.is
    call.ensures.asks in
    let did = asks.proceeds in let change = asked answer in
    let after : Member = record old {
      seat = call.new.seat;
      account = record old.account { turns = old.account.turns - 6; counts = c.tell.new.self };
      pending = left;
    } in
    let spends = spends_none change 6 old.account after.account refl (omega (arith, le)) c.tell.ensures.places
    (λ q. refl) (λ q. refl) c.tell.ensures.counts (λ q. (let a = c.tell.ensures.tells q in omega (arith, a)))
    (λ q kept. c.tell.ensures.alone q ∙ kept) in
    let knows = λ (q : RootId). tell_known (view_of call.new.seat) root q c.in-Ok.capacity _ _ (c.tell.ensures.tells q)
    (let b = is.knows q in let d = did.goes.knows q in
    let u : ℕ = knows_of q (view_of old.seat) in let w : ℕ = knows_of q (view_of call.new.seat) in
    let b' : told old.account.counts q ≤ u = b in let d' : u ≤ w = d in
    let g : told old.account.counts q ≤ w = omega (arith, b', d') in g) asks.has.1.knows in
    subst (λ (p : Pending). Does pool 6 change (Some root) old (record after { pending = p })) (sym c.keep.ensures)
    (kept_on pool change asks.spent 0 6 old after is did.goes did.changes spends knows
    (let a = asks.within in omega (arith, a))
    (let a = did.goes.moves_left in let b = is.works.moves_left in omega (arith, a, b)) asks.pending
    (later_letters_but pool root old.seat call.new.seat asks.later) refl (Some root)
    (stays_asked pool root old.seat call.new.seat asks.later) (λ q kept. sym (c.tell.ensures.alone q) ∙ kept))

pub returns-in-Err-clause-does : goal.returns-in-Err-clause-does
returns-in-Err-clause-does c =
    let pool = c.args.pool.now in let old = c.args.member.now in let call = c.ask-answer in
    let root = c.args.root in let left = call.result.1 in let is = c.requires.thread in let le = c.requires.turns in
    let answer : Result ℕ AskNo = Err c.in-Err.no in
    let asks : AsksOn pool 6 root c.args.size old.seat call.new.seat answer left =
    subst (λ (r : Result ℕ AskNo). AsksOn pool 6 root c.args.size old.seat call.new.seat r left) c.in-Err.is
    call.ensures.asks in
    let did = asks.proceeds in let change = asked answer in
    let after : Member = record old {
      seat = call.new.seat;
      account = record old.account { turns = old.account.turns - 6 };
      pending = left;
    } in
    let spends = spends_none change 6 old.account after.account refl (omega (arith, le)) refl (asked_got c.in-Err.no)
    (asked_gone c.in-Err.no) (λ q. refl) (λ q. omega arith) (λ q kept. kept) in
    subst (λ (p : Pending). Does pool 6 change (Some root) old (record after { pending = p })) (sym c.keep.ensures)
    (kept_on pool change asks.spent 0 6 old after is did.goes did.changes spends
    (tells_known pool change asks.spent 0 6 old after is did.goes did.changes spends (λ q. omega arith))
    (let a = asks.within in omega (arith, a))
    (let a = did.goes.moves_left in let b = is.works.moves_left in omega (arith, a, b)) asks.pending
    (later_letters_but pool root old.seat call.new.seat asks.later) refl (Some root)
    (stays_asked pool root old.seat call.new.seat asks.later) (λ q kept. kept))

pub returns-in-Ok-clause-counts : goal.returns-in-Ok-clause-counts
returns-in-Ok-clause-counts c =
    let a = c.tell.ensures.counts c.args.root in let b = c.requires.counts in omega (arith, a, b)

pub returns-in-Ok-clause-alone : goal.returns-in-Ok-clause-alone
returns-in-Ok-clause-alone c =
    let old = c.args.member.now in let new : Member = record old { seat = c.ask-answer.new.seat } in
    grows_alone c.args.pool.now c.args.root old new c.ask-answer.ensures.asks.later

pub returns-in-Err-clause-alone : goal.returns-in-Err-clause-alone
returns-in-Err-clause-alone c =
    let old = c.args.member.now in let new : Member = record old { seat = c.ask-answer.new.seat } in
    grows_alone c.args.pool.now c.args.root old new c.ask-answer.ensures.asks.later

-- what the law reads of it
pub returns-in-Ok-clause-notes : goal.returns-in-Ok-clause-notes
returns-in-Ok-clause-notes c =
    let a = c.args in let old = a.member.now in let call = c.ask-answer in
    let whole = regrow a.pool.now.table.layout.shape (lane_of old.seat) a.root a.size in
    let u = view_of old.seat in let v = view_of call.new.seat in
    subst (λ (p : Pending). Regrows whole (Ok c.in-Ok.capacity) p u v) (sym c.keep.ensures)
    (subst (λ (r : Result ℕ AskNo). Regrows whole r call.result.1 u v) c.in-Ok.is call.ensures.reads)

pub returns-in-Err-clause-notes : goal.returns-in-Err-clause-notes
returns-in-Err-clause-notes c =
    let a = c.args in let old = a.member.now in let call = c.ask-answer in
    let whole = regrow a.pool.now.table.layout.shape (lane_of old.seat) a.root a.size in
    let u = view_of old.seat in let v = view_of call.new.seat in
    subst (λ (p : Pending). Regrows whole (Err c.in-Err.no) p u v) (sym c.keep.ensures)
    (subst (λ (r : Result ℕ AskNo). Regrows whole r call.result.1 u v) c.in-Err.is call.ensures.reads)
