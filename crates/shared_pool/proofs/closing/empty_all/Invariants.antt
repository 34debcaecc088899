use Rattle.std.proofs.Common.{ℕ, ◌+◌, ◌*◌, ◌<◌, ◌≤◌}
use Rattle.std.specs.Prelude.{HoldsAt}
use Rattle.shared_pool.specs.declared.mail.Mail.{Mail}
use Rattle.shared_pool.specs.Joining.{IsFetchesOf}
use Rattle.shared_pool.proofs.closing.empty_all.Given as goal

abbrev pub invariant-loop-from : goal.invariant-loop-from
invariant-loop-from g l =
    (k : ℕ) → l.from ≤ k → k < l.lanes →
    HoldsAt (λ pass. HoldsAt (λ (m : Mail). IsFetchesOf m pass) l.mails (k * l.lanes + l.lane)) l.ends.items k
