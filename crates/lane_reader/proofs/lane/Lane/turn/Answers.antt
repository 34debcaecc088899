use Rattle.std.proofs.Common.{ℕ, ◌+◌, Option, refl, sym, ap, arith, subst, ◌∙◌}
use Rattle.std.specs.Prelude.{option_map, IfSome}
use Rattle.std.specs.Ordering.{nat_cmp}
use Rattle.std.specs.BTreeMap.{get}
use Rattle.lane_reader.specs.declared.bound.Bound.{Bound}
use Rattle.pool_law.specs.Counts.{count_from}
use Rattle.pool_law.specs.LaneLaw.{sweep_period, lane_step}
use Rattle.lane_reader.specs.declared.bound.Change.{Change}
use Rattle.lane_reader.specs.declared.counts.Counts.{Counts}
use Rattle.lane_reader.specs.Bounding.{IsBounded, ChangeIsBounded}
use Rattle.lane_reader.specs.Counting.{count_in}
use Rattle.lane_reader.specs.Reading.{entries}
use Rattle.lane_reader.specs.Running.{next_state}
use Rattle.lane_reader.specs.Viewing.{bound_of}
use Rattle.lane_reader.proofs.BoundLemmas.{are_bounded-more}
use Rattle.lane_reader.proofs.CountLemmas.{count-append}
use Rattle.lane_reader.proofs.ReplyLemmas.{answered-this, answered-other}
use Rattle.lane_reader.proofs.lane.Lane.turn.Goals as goal

pub returns-in_default-clause-bad : goal.returns-in_default-clause-bad
returns-in_default-clause-bad c s is bad next step =
    let setting = c.args.setting.now in
    let log = c.args.log.now in
    answered-other c.args.reply.now
    (lane_step sweep_period setting.shape.now setting.lane s c.args.command.now (entries log)) next
    (c.in_ok-change.ensures.row s is
    ∙ ap (λ (o : Option (Change × ℕ)). option_map (next_state s log) o) c.in_default.is)
    step

pub returns-clause-good : goal.returns-clause-good
returns-clause-good c s is good =
    let setting = c.args.setting.now in
    let log = c.args.log.now in
    let next = next_state s log (c.in-Some.change, c.in-Some.asked) in
    record {
      next = next;
      step =
          answered-this c.args.reply.now
          (lane_step sweep_period setting.shape.now setting.lane s c.args.command.now (entries log)) next
          (c.in_ok-change.ensures.row s is
          ∙ ap (λ (o : Option (Change × ℕ)). option_map (next_state s log) o) c.in-Some.is);
      is = record {
        names = λ name.
            c.in_ok-change-2.ensures.names s is name
            ∙ sym (λ i. option_map bound_of (get nat_cmp (c.in_ok-pass.ensures.names i) name));
        counts = λ root.
            count-append root 0 s.seen (entries log)
            ∙ ap (λ (k : ℕ). count_from root k (entries log))
            (is.counts root ∙ sym (ap (λ (counts : Counts). count_in counts root) c.in_ok-change-2.ensures.counts))
            ∙ sym (c.in_ok-pass.ensures.counts root);
        asked = refl;
      };
    }

pub returns-clause-bounded : goal.returns-clause-bounded
returns-clause-bounded c most some bounded good name =
    let old = are_bounded-more most (most + 1) c.args.self.now (omega arith) bounded in
    let change =
    subst (λ (o : Option (Change × ℕ)). IfSome o (λ p. ChangeIsBounded (most + 1) p.0)) c.in-Some.is
    (c.in_ok-change.ensures.bounded most some bounded) in
    subst (λ (o : Option Bound). IfSome o (IsBounded (most + 1)))
    (sym (λ i. get nat_cmp (c.in_ok-pass.ensures.names i) name))
    (c.in_ok-change-2.ensures.bounded (most + 1) old change name)

pub returns-clause-counted : goal.returns-clause-counted
returns-clause-counted c most within good =
    c.in_ok-pass.ensures.within most
    (λ root. omega (arith, within root, ap (λ (counts : Counts). count_in counts root) c.in_ok-change-2.ensures.counts))
