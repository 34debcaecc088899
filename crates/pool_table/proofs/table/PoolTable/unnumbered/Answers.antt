use Rattle.pool_table.proofs.Counting.{counts_unnumbered}
use Rattle.pool_table.proofs.table.PoolTable.unnumbered.Goals as goal

pub invariant_of-result : goal.invariant_of-result
invariant_of-result g c = record {
  of_view = record {
    numbered = c.requires.number;
    lettered = c.requires.letter;
    counted = counts_unnumbered c.args.seat.me.0.own _ c.requires.number;
  };
}
