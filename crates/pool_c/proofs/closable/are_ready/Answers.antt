use Rattle.std.proofs.Common.{refl, arith}
use Rattle.std.proofs.lemmas.Option.{slice_get_read}
use Rattle.std.proofs.lemmas.Result.{err_from_is_err_and}
use Rattle.pool_c.proofs.closable.are_ready.Goals as goal

pub returns-in_err-may_call : goal.returns-in_err-may_call
returns-in_err-may_call c =
    let p = err_from_is_err_and c.from_residual.result c.from_residual.ensures.1 in
    let is = c.in_err-may_call.ensures in let at = c.loop-thread.thread-index in let t = c.thread-item.result in
    let there = slice_get_read c.args.threads.now _ at t refl (omega arith) c.thread-item.is in
    rw (p.1, p.2) (is.1, (at, t, there, is.0))
