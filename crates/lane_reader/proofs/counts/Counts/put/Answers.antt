use Rattle.std.proofs.Common.{ℕ, Bool, Option, Some, ap, ◌∙◌}
use Rattle.std.specs.Prelude.{unwrap_or, if◌then◌else◌}
use Rattle.std.specs.BTreeMap.{get}
use Rattle.pool_law.specs.Same.{same_root}
use Rattle.lane_reader.specs.Counting.{key_cmp, key_of}
use Rattle.lane_reader.proofs.CountLemmas.{is_at-key, count-put}
use Rattle.lane_reader.proofs.counts.Counts.put.Goals as goal

pub returns : goal.returns
returns c other =
    let old : Option ℕ = get key_cmp c.args.self.now.map (key_of other) in
    ap (λ (o : Option ℕ). unwrap_or o 0) (c.in_ok-insert.ensures.updates.0 (key_of other))
    ∙ ap (λ (b : Bool). unwrap_or (if b then Some c.args.count else old) 0) (is_at-key c.args.root.now other)
    ∙ count-put (same_root c.args.root.now other) c.args.count old
