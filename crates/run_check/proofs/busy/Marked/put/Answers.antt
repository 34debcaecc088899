use Rattle.std.proofs.Common.{ℕ, Bool, Option, Some, ap, ◌∙◌}
use Rattle.std.specs.Prelude.{unwrap_or, if◌then◌else◌}
use Rattle.std.specs.BTreeMap.{get, is_at}
use Rattle.pool_law.specs.Same.{same_object}
use Rattle.pool_law.proofs.SameLemmas.{same_object-swap}
use Rattle.run_check.specs.declared.busy.Had.{Had}
use Rattle.lane_reader.specs.Counting.{key_cmp}
use Rattle.run_check.specs.Keying.{object_key}
use Rattle.run_check.specs.Marking.{none_had}
use Rattle.run_check.proofs.KeyLemmas.{is_at-object}
use Rattle.run_check.proofs.MarkLemmas.{had-put}
use Rattle.run_check.proofs.busy.Marked.put.Goals as goal

pub returns : goal.returns
returns c other =
    let object = c.args.object.now in
    let had : Had = c.args.had in
    let old : Option Had = get key_cmp c.args.self.now.map (object_key other) in
    ap (λ (o : Option Had). unwrap_or o none_had) (c.in_ok-insert.ensures.updates.0 (object_key other))
    ∙ ap (λ (k : ℕ × ℕ × ℕ). unwrap_or (if is_at (key_cmp k) (object_key other) then Some had else old) none_had)
    c.object_key.ensures
    ∙ ap (λ (b : Bool). unwrap_or (if b then Some had else old) none_had)
    (is_at-object object other ∙ same_object-swap object other)
    ∙ had-put (same_object other object) had old
