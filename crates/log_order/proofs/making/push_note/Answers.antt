use Rattle.std.proofs.Common.{rules, ◌≡◌, ℕ, [], ◌∷◌, ◌++◌, length, subst}
use Rattle.std.specs.Prelude.{if◌then◌else◌}
use Rattle.log_order.specs.Spots.{notes_in}
use Rattle.log_order.specs.Staging.{Stage}
use Rattle.log_order.specs.Indexing.{same_stage, listed}
use Rattle.log_order.proofs.FillLemmas.{filled-more}
use Rattle.log_order.proofs.making.push_note.Goals as goal

pub returns : goal.returns
returns c =
    let old = c.args.index.now in
    let new = c.add.new.self in
    let size : c.len-node.result ≡ length c.args.graph.now.spots.items = search rules in
    let counted = subst
    (λ (z : ℕ). (other : Stage) → listed new other ≡ (if same_stage c.stage_of.result other
    then listed old c.stage_of.result ++ z ∷ [] else listed old other))
    size c.in_ok-add.ensures in
    let more = subst
    (λ (z : Stage). (other : Stage) → listed new other ≡ (if same_stage z other
    then listed old z ++ length c.args.graph.now.spots.items ∷ [] else listed old other))
    c.stage_of.ensures counted in
    filled-more (notes_in c.args.logs.now) c.args.graph.now c.push.new.self old new c.args.spot c.args.note.now
    c.requires.filled c.requires.stands (c.in_ok-push.ensures.graph (notes_in c.args.logs.now) c.requires.filled.graph)
    c.in_ok-push.ensures.spots more
