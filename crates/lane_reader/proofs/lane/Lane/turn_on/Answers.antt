use Rattle.std.proofs.Common.{ℕ, ◌≡◌, ◌+◌, Option, refl, sym, ap, arith, subst, ◌∙◌, length, take}
use Rattle.std.specs.Prelude.{min, option_map, IfSome}
use Rattle.std.specs.Ordering.{nat_cmp}
use Rattle.std.specs.BTreeMap.{get}
use Rattle.pool_law.specs.Counts.{count_from}
use Rattle.pool_law.specs.LaneLaw.{sweep_period}
use Rattle.pool_law.specs.Readers.{ToldNotes}
use Rattle.lane_reader.specs.declared.bound.Bound.{Bound}
use Rattle.lane_reader.specs.declared.bound.Change.{Change}
use Rattle.lane_reader.specs.declared.counts.Counts.{Counts}
use Rattle.lane_reader.specs.declared.log.At.{At}
use Rattle.lane_reader.specs.Bounding.{IsBounded, ChangeIsBounded}
use Rattle.lane_reader.specs.Counting.{count_in}
use Rattle.lane_reader.specs.Reading.{entries}
use Rattle.lane_reader.specs.Replying.{changes}
use Rattle.lane_reader.specs.Viewing.{bound_of}
use Rattle.lane_reader.proofs.BoundLemmas.{are_bounded-more}
use Rattle.lane_reader.proofs.CountLemmas.{count-append}
use Rattle.lane_reader.proofs.TakenLemmas.{taken-step, taken_state, untaken}
use Rattle.lane_reader.proofs.lane.Lane.turn_on.Goals as goal

pub pass-requires : goal.pass-requires
pass-requires c root =
    omega (
      arith,
      c.requires.room root,
      c.first-piece.ensures.count,
      c.min-count.ensures,
      ap (λ (counts : Counts). count_in counts root) c.in_ok-change-2.ensures.counts,
    )

pub returns-in_default-clause-row : goal.returns-in_default-clause-row
returns-in_default-clause-row c s is count next step =
    let setting = c.args.setting.now in
    let log = c.args.log.now in
    untaken sweep_period setting.shape.now setting.lane s c.args.command.now c.args.reply.now (entries log)
    (c.in_ok-change.ensures.row s is ∙ ap (λ (o : Option (Change × At)). changes s log o) c.in_default.is)
    count next step

pub returns-clause-row : goal.returns-clause-row
returns-clause-row c s is =
    let setting = c.args.setting.now in
    let log = c.args.log.now in
    let command = c.args.command.now in
    let reply = c.args.reply.now in
    let change = c.in-Some.change in
    let at = c.in-Some.at in
    let count = c.min-count.result in
    let found = c.in_ok-change.ensures.row s is ∙ ap (λ (o : Option (Change × At)). changes s log o) c.in-Some.is in
    let least : count ≡ min at.place (length log.notes.now) = omega (arith, c.min-count.ensures) in
    let piece = c.first-piece.ensures.entries in
    record {
      next = taken_state s change at (take count (entries log));
      step = taken-step sweep_period setting.shape.now setting.lane s command reply log change at count least found;
      is = record {
        names = λ name.
            c.in_ok-change-2.ensures.names s is name
            ∙ sym (λ i. option_map bound_of (get nat_cmp (c.in_ok-pass.ensures.names i) name));
        counts = λ root.
            count-append root 0 s.seen (take count (entries log))
            ∙ ap (λ (es : ToldNotes). count_from root (count_from root 0 s.seen) es) (sym piece)
            ∙ ap (λ (k : ℕ). count_from root k (entries c.first-piece.result))
            (is.counts root ∙ sym (ap (λ (counts : Counts). count_in counts root) c.in_ok-change-2.ensures.counts))
            ∙ sym (c.in_ok-pass.ensures.counts root);
        asked = refl;
      };
    }

pub returns-clause-bounded : goal.returns-clause-bounded
returns-clause-bounded c most some bounded name =
    let old = are_bounded-more most (most + 1) c.args.self.now (omega arith) bounded in
    let change =
    subst (λ (o : Option (Change × At)). IfSome o (λ p. ChangeIsBounded (most + 1) p.0)) c.in-Some.is
    (c.in_ok-change.ensures.bounded most some bounded) in
    subst (λ (o : Option Bound). IfSome o (IsBounded (most + 1)))
    (sym (λ i. get nat_cmp (c.in_ok-pass.ensures.names i) name))
    (c.in_ok-change-2.ensures.bounded (most + 1) old change name)

pub returns-clause-counted : goal.returns-clause-counted
returns-clause-counted c most within root =
    let passed =
    c.in_ok-pass.ensures.within most
    (λ other.
    omega (arith, within other, ap (λ (counts : Counts). count_in counts other) c.in_ok-change-2.ensures.counts))
    root in
    omega (arith, passed, c.first-piece.ensures.count)
