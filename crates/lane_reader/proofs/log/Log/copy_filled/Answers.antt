use Rattle.std.proofs.Common.{◌≡◌, false, refl, arith}
use Rattle.std.specs.Prelude.{◌==◌}
use Rattle.std.proofs.lemmas.Bool.Decides.{nat_tests}
use Rattle.lane_reader.proofs.log.Log.copy_filled.Goals as goal

pub returns-in_err-got : goal.returns-in_err-got
returns-in_err-got c before =
    let some : (c.args.part.now.len == 0) ≡ false = grind (arith, nat_tests) in
    let none = c.in_err-got.ensures before in
    rw (c.from_residual.ensures, some, none) refl
