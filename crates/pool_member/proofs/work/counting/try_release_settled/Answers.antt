use Rattle.std.proofs.Common.{◌-◌, None, refl, sym, subst, ◌∙◌, arith}
use Rattle.seat_work.specs.Changes.{once_less}
use Rattle.pool_member.specs.declared.member.Member.{Member}
use Rattle.pool_member.specs.declared.pending.Pending.{Pending}
use Rattle.pool_member.specs.declared.pending.Pending.TheVariants.{Tried}
use Rattle.pool_member.specs.Threads.{Does}
use Rattle.pool_member.proofs.AloneLater.{stays_later}
use Rattle.pool_member.proofs.Keeping.{has_count, kept_on, may_begin, spends_less, tells_known, times_one}
use Rattle.pool_member.proofs.Letters.{later_letters}
use Rattle.pool_member.proofs.MoveLaws.{moves_left}
use Rattle.pool_member.proofs.work.counting.try_release_settled.Goals as goal

pub release-last-requires-clause-works : goal.release-last-requires-clause-works
release-last-requires-clause-works c =
    may_begin c.args.pool.now c.args.member.now c.requires.thread 4 0 c.requires.settled c.requires.turns (omega arith)

pub release-last-requires-clause-counts : goal.release-last-requires-clause-counts
release-last-requires-clause-counts c =
    has_count c.args.pool.now c.args.member.now c.requires.thread c.args.root c.requires.counts

pub returns-clause-does : goal.returns-clause-does
returns-clause-does c =
    let pool = c.args.pool.now in let old = c.args.member.now in let call = c.release-last in
    let last = call.result.0 in let change = once_less c.args.root last in let left = call.result.1 in
    let goes = call.ensures.goes in let did = goes.proceeds in let is = c.requires.thread in
    let after : Member = record old {
      seat = call.new.seat;
      account =
          record old.account {
            turns = old.account.turns - 4;
            moves = c.regain.new.moves;
            counts = c.take.new.self;
          };
      pending = Tried left;
    } in
    let le = c.requires.turns in
    let spends = spends_less change 4 old.account after.account refl (omega (arith, le)) c.take.ensures.places
    c.args.root (λ other. refl) (times_one c.args.root) c.take.ensures.counts c.take.ensures.tells
    (λ q none kept. c.take.ensures.alone q ∙ kept) in
    subst (λ (p : Pending). Does pool 4 change None old (record after { pending = p })) (sym c.keep.ensures)
    (kept_on pool change goes.spent 0 4 old after is did.goes did.changes spends
    (tells_known pool change goes.spent 0 4 old after is did.goes did.changes spends
    (λ root. (let a = c.take.ensures.tells root in omega (arith, a))))
    (let a = goes.within in omega (arith, a))
    (moves_left pool old call.new.seat is last c.regain.new.moves did.goes.moves_left call.ensures.moves
    c.regain.ensures)
    goes.begun (later_letters pool old.seat call.new.seat goes.later) refl None
    (stays_later pool old.seat call.new.seat goes.later) (λ q kept. sym (c.take.ensures.alone q) ∙ kept))
