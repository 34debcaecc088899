-- Each round takes one out.
use Rattle.std.proofs.Common.{◌≡◌, ◌+◌, vec_len}
use Rattle.pool_hammer.proofs.held.leave_all.Given as goal

abbrev pub invariant-loop-left : goal.invariant-loop-left
invariant-loop-left g l = vec_len l.held + l._left ≡ vec_len l.fn.held
