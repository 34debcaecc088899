-- Turns that are taken and come back.
use Rattle.std.proofs.Common.{◌≡◌, ℕ, ◌+◌, ◌-◌, ◌≤◌, ap, arith}
use Rattle.pool_member.specs.declared.member.Member.{Member}
use Rattle.pool_member.specs.Threads.{less_turns, with_turns}

-- the thread is what it was
pub turns_again : (m : Member) (n : ℕ) → n ≤ m.account.turns → with_turns n (less_turns n m) ≡ m
turns_again m n le =
    let same : m.account.turns - n + n ≡ m.account.turns = omega (arith, le) in
    ap (λ (k : ℕ). record m { account = record m.account { turns = k } }) same

-- and the other way
pub turns_anew : (m : Member) (n : ℕ) → less_turns n (with_turns n m) ≡ m
turns_anew m n =
    let same : m.account.turns + n - n ≡ m.account.turns = omega arith in
    ap (λ (k : ℕ). record m { account = record m.account { turns = k } }) same
