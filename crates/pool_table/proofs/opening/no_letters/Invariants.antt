use Rattle.std.proofs.Common.{◌≡◌, vec_len}
use Rattle.std.specs.Prelude.{All}
use Rattle.pool_table.specs.Opened.{AreNone}
use Rattle.pool_table.proofs.opening.no_letters.Given as goal

abbrev pub invariant-loop-lane : goal.invariant-loop-lane
invariant-loop-lane l = record {
  many : vec_len l.counts ≡ l._lane;
  none : All (λ c. AreNone 16 c.items) l.counts.items;
}
