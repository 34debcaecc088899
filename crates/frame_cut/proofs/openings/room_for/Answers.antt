use Rattle.std.proofs.Common.{arith}
use Rattle.std.proofs.Math.Nat.{div-le_self}
use Rattle.frame_core.specs.declared.limits.TheConstants.{MAX_FRAMES, MAX_STREAM}
use Rattle.frame_cut.proofs.openings.room_for.Goals as goal

pub overflow_add-result : goal.overflow_add-result
overflow_add-result c =
    let a = c.div_ceil.ensures in let b = c.div_ceil-2.ensures in
    let d = div-le_self MAX_STREAM c.args.block in let e = div-le_self MAX_FRAMES c.args.workers in
    omega (arith, a, b, d, e)
