use Rattle.std.proofs.Common.{List, map, refl, sym, subst}
use Rattle.std.proofs.lemmas.Result.{err_from_is_err_and}
use Rattle.std.specs.Prelude.{box_value}
use Rattle.pool_c.specs.declared.codes.Refusal.{Refusal}
use Rattle.pool_c.specs.declared.codes.Refusal.TheVariants.{Empty, InCall}
use Rattle.pool_c.specs.declared.handle.PoolThread.{PoolThread}
use Rattle.pool_c.specs.Closing.{AreWhole, ClosesAs, HasCause, IsIdle, MayLeave}
use Rattle.pool_c.proofs.Closed.{one_pool}
use Rattle.pool_c.proofs.closing.close.Goals as goal

-- some handle has no thread for a call
idle_refusal : (threads : List PoolThread) (why : Refusal) → IsIdle threads why
    → HasCause threads why × MayLeave threads threads why
idle_refusal threads Empty idle = (idle.1, refl)
idle_refusal threads InCall idle = (idle.1, refl)
idle_refusal threads why idle = absurd idle.0

pub returns-in_err-are_ready : goal.returns-in_err-are_ready
returns-in_err-are_ready c =
    let p = err_from_is_err_and c.from_residual.result c.from_residual.ensures.1 in let threads = c.args.threads.now in
    subst (ClosesAs threads threads) (sym p.1)
    (idle_refusal threads p.0 (subst (IsIdle threads) (sym p.2) c.in_err-are_ready.ensures))

pub close_taken-requires-clause-one : goal.close_taken-requires-clause-one
close_taken-requires-clause-one c =
    let all = c.take_all-all.result.items in
    one_pool c.args.threads.now (map box_value all) c.requires c.take_all-all.ensures.had
    (subst (λ xs. AreWhole (map box_value xs)) c.deref.ensures.value c.in_default-may_close.ensures.0)
