use Rattle.std.proofs.Common.{◌≡◌, ℕ, ◌≤◌, List, length, replicate, None, sym, ap, ◌∙◌, subst}
use Rattle.std.specs.Prelude.{All, vec_capacity}
use Rattle.std.specs.List.{list_any}
use Rattle.std.proofs.lemmas.List.{length-replicate}
use Rattle.pool_law.specs.declared.command.Command.{Command}
use Rattle.pool_law.specs.Bounds.{composes, note_bound}
use Rattle.leak_records.specs.Records.{new_sampler}
use Rattle.lane_core.specs.Opened.{ChangesBelow}
use Rattle.lane_core.proofs.lane.equipped.Goals as goal

pub returns : goal.returns
returns c =
    let names_are = c.in_ok-names.ensures {u = tt} in let counts = c.in_ok-counts.ensures {u = tt} in
    let replies = c.in_ok-replies.ensures {u = tt} in let notes = c.in_ok-notes.ensures {u = tt} in
    let len : length c.in_ok-names.names ≡ c.name_count.result = ap length names_are
    ∙ length-replicate c.name_count.result None in
    record {
      classes = c.in_ok-classes.ensures {u = tt};
      composes = c.makes_composites-composes.ensures ∙ ap (list_any composes) c.items.ensures;
      names = names_are ∙ ap (λ n. replicate n None) (sym len);
      below =
          subst (λ (x : ℕ × List Command). All (ChangesBelow x.0) x.1) (λ i. (sym len i, c.items-2.ensures i))
          c.name_count.ensures;
      counts = counts.none;
      places = counts.places;
      sampler =
          c.new-5.ensures ∙ ap (λ n. new_sampler n c.args.shape.now.level c.args.shape.now.interval)
          c.lane_of.ensures.lane;
      replies = (
        replies.items,
        subst (λ (xs : List Command). length xs ≤ vec_capacity c.in_ok-replies.replies)
            c.items-3.ensures replies.capacity,
      );
      notes = (
        notes.items,
        subst (λ n. n ≤ vec_capacity c.in_ok-notes.notes)
            (c.note_bound.ensures.bound ∙ ap note_bound c.items-4.ensures) notes.capacity,
      );
      spare = c.in_ok-spare.ensures {u = tt};
    }
