use Rattle.std.proofs.Common.{◌≡◌, ◌+◌, ◌≤◌, sym, ap, subst, arith}
use Rattle.pool_member.specs.declared.member.Member.{Member}
use Rattle.pool_member.specs.Threads.{IsThread, less_turns, Settles, with_turns}
use Rattle.pool_member.proofs.Settling.{still_turns}
use Rattle.pool_member.proofs.Turns.{turns_again}
use Rattle.pool_member.proofs.work.settling.settle_between.Goals as goal

-- the turns are back while it waits
pub wait_to_settle-requires : goal.wait_to_settle-requires
wait_to_settle-requires g c = record {
  thread =
      subst (λ (m : Member). IsThread c.args.pool.now m) (sym (c.give_back.ensures.small c.requires.turns))
      c.requires.thread;
}

pub overflow_sub-member : goal.overflow_sub-member
overflow_sub-member g c =
    let back : Member = c.give_back.new.member in
    let had : back.account.turns ≡ c.args.member.now.account.turns + c.args.turns =
    ap (λ (m : Member). m.account.turns) (c.give_back.ensures.small c.requires.turns) in
    still_turns c.args.pool.now back c.wait_to_settle.new.member c.args.turns c.wait_to_settle.ensures.settles
    (omega (arith, had))

pub returns-clause-settles : goal.returns-clause-settles
returns-clause-settles g c =
    let pool = c.args.pool.now in let n = c.args.turns in let back : Member = c.give_back.new.member in
    let mid : Member = c.wait_to_settle.new.member in
    let had : back.account.turns ≡ c.args.member.now.account.turns + n =
    ap (λ (m : Member). m.account.turns) (c.give_back.ensures.small c.requires.turns) in
    let enough : n ≤ mid.account.turns =
    still_turns pool back mid n c.wait_to_settle.ensures.settles (omega (arith, had)) in
    -- what the last line makes of it, with the turns again, is what the waiting left
    subst (λ (m : Member). Settles pool m (with_turns n (less_turns n mid)))
    (c.give_back.ensures.small c.requires.turns)
    (subst (λ (m : Member). Settles pool back m) (sym (turns_again mid n enough)) c.wait_to_settle.ensures.settles)
