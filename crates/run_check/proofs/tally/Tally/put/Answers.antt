use Rattle.std.proofs.Common.{Bool, Option, Some, ap, ◌∙◌}
use Rattle.std.specs.Prelude.{unwrap_or, if◌then◌else◌}
use Rattle.std.specs.BTreeMap.{get}
use Rattle.pool_law.specs.Same.{same_root}
use Rattle.run_check.specs.declared.tally.Sums.{Sums}
use Rattle.lane_reader.specs.Counting.{key_cmp, key_of}
use Rattle.run_check.specs.Tallying.{no_sums}
use Rattle.lane_reader.proofs.CountLemmas.{is_at-key}
use Rattle.run_check.proofs.TallyLemmas.{sums-put}
use Rattle.run_check.proofs.tally.Tally.put.Goals as goal

pub returns : goal.returns
returns c other =
    let old : Option Sums = get key_cmp c.args.self.now.map (key_of other) in
    ap (λ (o : Option Sums). unwrap_or o no_sums) (c.in_ok-insert.ensures.updates.0 (key_of other))
    ∙ ap (λ (b : Bool). unwrap_or (if b then Some c.args.sums else old) no_sums) (is_at-key c.args.root.now other)
    ∙ sums-put (same_root c.args.root.now other) c.args.sums old
