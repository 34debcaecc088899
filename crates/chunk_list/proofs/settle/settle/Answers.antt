use Rattle.std.proofs.Common.{◌≤◌, sym, subst, arith}
use Rattle.pool_law.specs.ChunkLists.{greatest}
use Rattle.chunk_list.specs.Settling.{IsWithin}
use Rattle.chunk_list.proofs.Usages.{rises_within}
use Rattle.chunk_list.proofs.settle.settle.Goals as goal

pub returns-then-usage-greatest_of-clause-within : goal.returns-then-usage-greatest_of-clause-within
returns-then-usage-greatest_of-clause-within c most =
    let usage = c.args.usage in
    let up : greatest c.args.list ≤ usage = omega (arith, c.greatest_of.ensures, c.if-usage-greatest_of.true) in
    subst (IsWithin usage) (sym c.up_from.ensures) (rises_within usage c.args.list most up)
