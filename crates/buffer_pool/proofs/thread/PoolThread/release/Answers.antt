use Rattle.std.proofs.Common.{◌≡◌, ◌<◌, ◌≤◌, ◌∙◌, None, sym, subst}
use Rattle.std.specs.Prelude.{IfSome, Option}
use Rattle.pool_law.specs.declared.id.RootId.{RootId}
use Rattle.pool_table.specs.Counts.{HasCount}
use Rattle.shared_pool.specs.declared.pool.SharedPool.{SharedPool}
use Rattle.shared_pool.specs.SeatViews.{view_of}
use Rattle.seat_work.specs.Changes.{once_less}
use Rattle.seat_work.specs.Hands.{empty_hand}
use Rattle.seat_work.specs.Works.{Proceeds}
use Rattle.pool_member.specs.declared.member.Member.{Member}
use Rattle.pool_member.specs.Counting.{counted}
use Rattle.pool_member.specs.Threads.{Does, HasChanged, IsSettled, IsThread, less_turns, Settles, with_turns}
use Rattle.pool_member.specs.Windows.{Window}
use Rattle.buffer_pool.proofs.Releases.{at_once, did_release, has_one, is_taken, may_less, still_counted, waited}
use Rattle.buffer_pool.proofs.thread.PoolThread.release.Goals as goal
use Rattle.buffer_pool.proofs.thread.PoolThread.release.Goals.{then-not-is_nothing, else-not-is_nothing}

pub settle_between-requires-clause-thread : goal.settle_between-requires-clause-thread
settle_between-requires-clause-thread g c =
    let pool = c.pool.inside.shared in let old : Member = c.self.inside.member in
    let mid : Member = c.lacks.new.member in
    let is : IsThread pool old =
    subst (λ (o : Option SharedPool). IfSome o (λ p. IsThread p old)) c.pool.invariant.named c.self.invariant in
    let took : (4 ≤ old.account.turns) × (mid ≡ less_turns 4 old) = c.if-lacks.ensures in
    is_taken pool old mid is took.0 took.1

pub release-last-requires-clause-works : goal.release-last-requires-clause-works
release-last-requires-clause-works g c =
    let pool = c.pool.inside.shared in let old : Member = c.self.inside.member in
    let mid : Member = c.lacks.new.member in
    let is : IsThread pool old =
    subst (λ (o : Option SharedPool). IfSome o (λ p. IsThread p old)) c.pool.invariant.named c.self.invariant in
    let took : (4 ≤ old.account.turns) × (mid ≡ less_turns 4 old) = c.if-lacks.ensures in
    let after : Member = c.if-not-is_nothing.member in let root : RootId = c.buffer.inside.view.at.root in
    let ready : Settles pool old (with_turns 4 after) × IsSettled after = elim c.if-not-is_nothing.branch [
      | then-not-is_nothing w ↦
          let between : Member = w.settle_between.new.member in
          waited pool old mid is took.0 took.1 between after w.settle_between.ensures.settles
          w.settle_between.ensures.settled w.member-is
      | else-not-is_nothing w ↦
          at_once pool old mid is took.0 took.1 after (c.is_nothing.ensures.0 w.if-not-is_nothing.false) w.member-is
    ] in
    let some : 0 < counted old.account.counts root = still_counted old c.args.self.now
    (record { at = c.buffer.inside.view.at; thread = c.buffer.inside.thread }) c.args.buffer c.self.view_is
    c.buffer.view_is (sym c.has.ensures ∙ c.if-not-has.false) in
    may_less pool old after took.0 ready.0 ready.1 root some

pub release-last-requires-clause-counts : goal.release-last-requires-clause-counts
release-last-requires-clause-counts g c =
    let pool = c.pool.inside.shared in let old : Member = c.self.inside.member in
    let mid : Member = c.lacks.new.member in
    let is : IsThread pool old =
    subst (λ (o : Option SharedPool). IfSome o (λ p. IsThread p old)) c.pool.invariant.named c.self.invariant in
    let took : (4 ≤ old.account.turns) × (mid ≡ less_turns 4 old) = c.if-lacks.ensures in
    let after : Member = c.if-not-is_nothing.member in let root : RootId = c.buffer.inside.view.at.root in
    let ready : Settles pool old (with_turns 4 after) × IsSettled after = elim c.if-not-is_nothing.branch [
      | then-not-is_nothing w ↦
          let between : Member = w.settle_between.new.member in
          waited pool old mid is took.0 took.1 between after w.settle_between.ensures.settles
          w.settle_between.ensures.settled w.member-is
      | else-not-is_nothing w ↦
          at_once pool old mid is took.0 took.1 after (c.is_nothing.ensures.0 w.if-not-is_nothing.false) w.member-is
    ] in
    let some : 0 < counted old.account.counts root = still_counted old c.args.self.now
    (record { at = c.buffer.inside.view.at; thread = c.buffer.inside.thread }) c.args.buffer c.self.view_is
    c.buffer.view_is (sym c.has.ensures ∙ c.if-not-has.false) in
    subst (λ (r : RootId). HasCount r (view_of after.seat)) (sym c.in_parts.ensures)
    (has_one pool old after took.0 ready.0 ready.1 root some)

pub invariant_of-self-2 : goal.invariant_of-self-2
invariant_of-self-2 g c =
    let pool = c.pool.inside.shared in let old : Member = c.self.inside.member in
    let mid : Member = c.lacks.new.member in
    let is : IsThread pool old =
    subst (λ (o : Option SharedPool). IfSome o (λ p. IsThread p old)) c.pool.invariant.named c.self.invariant in
    let took : (4 ≤ old.account.turns) × (mid ≡ less_turns 4 old) = c.if-lacks.ensures in
    let after : Member = c.if-not-is_nothing.member in let root : RootId = c.buffer.inside.view.at.root in
    let ready : Settles pool old (with_turns 4 after) × IsSettled after = elim c.if-not-is_nothing.branch [
      | then-not-is_nothing w ↦
          let between : Member = w.settle_between.new.member in
          waited pool old mid is took.0 took.1 between after w.settle_between.ensures.settles
          w.settle_between.ensures.settled w.member-is
      | else-not-is_nothing w ↦
          at_once pool old mid is took.0 took.1 after (c.is_nothing.ensures.0 w.if-not-is_nothing.false) w.member-is
    ] in
    let some : 0 < counted old.account.counts root = still_counted old c.args.self.now
    (record { at = c.buffer.inside.view.at; thread = c.buffer.inside.thread }) c.args.buffer c.self.view_is
    c.buffer.view_is (sym c.has.ensures ∙ c.if-not-has.false) in
    let call = c.release-last in let less = c.count_less.ensures in
    let did : Does pool 4 (once_less root call.result) None old c.count_less.new.member =
    subst (Does pool 4 (once_less root call.result) None old) (sym less.rest)
    (did_release pool old after took.0 ready.0 ready.1 root some call.result call.new.seat
    (subst (λ (r : RootId). Proceeds pool empty_hand 4 0 (once_less r call.result) after.seat call.new.seat)
    c.in_parts.ensures call.ensures.proceeds) call.ensures.moves call.ensures.later
    c.count_less.new.member.account.counts less.counts less.tells less.alone less.places) in
    subst (λ (o : Option SharedPool). IfSome o (λ p. IsThread p c.count_less.new.member)) (sym c.pool.invariant.named)
    did.thread

pub returns-clause-changed : goal.returns-clause-changed
returns-clause-changed g c =
    let pool = c.pool.inside.shared in let old : Member = c.self.inside.member in
    let mid : Member = c.lacks.new.member in
    let is : IsThread pool old =
    subst (λ (o : Option SharedPool). IfSome o (λ p. IsThread p old)) c.pool.invariant.named c.self.invariant in
    let took : (4 ≤ old.account.turns) × (mid ≡ less_turns 4 old) = c.if-lacks.ensures in
    let after : Member = c.if-not-is_nothing.member in let root : RootId = c.buffer.inside.view.at.root in
    let ready : Settles pool old (with_turns 4 after) × IsSettled after = elim c.if-not-is_nothing.branch [
      | then-not-is_nothing w ↦
          let between : Member = w.settle_between.new.member in
          waited pool old mid is took.0 took.1 between after w.settle_between.ensures.settles
          w.settle_between.ensures.settled w.member-is
      | else-not-is_nothing w ↦
          at_once pool old mid is took.0 took.1 after (c.is_nothing.ensures.0 w.if-not-is_nothing.false) w.member-is
    ] in
    let some : 0 < counted old.account.counts root = still_counted old c.args.self.now
    (record { at = c.buffer.inside.view.at; thread = c.buffer.inside.thread }) c.args.buffer c.self.view_is
    c.buffer.view_is (sym c.has.ensures ∙ c.if-not-has.false) in
    let call = c.release-last in let less = c.count_less.ensures in
    let did : Does pool 4 (once_less root call.result) None old c.count_less.new.member =
    subst (Does pool 4 (once_less root call.result) None old) (sym less.rest)
    (did_release pool old after took.0 ready.0 ready.1 root some call.result call.new.seat
    (subst (λ (r : RootId). Proceeds pool empty_hand 4 0 (once_less r call.result) after.seat call.new.seat)
    c.in_parts.ensures call.ensures.proceeds) call.ensures.moves call.ensures.later
    c.count_less.new.member.account.counts less.counts less.tells less.alone less.places) in
    subst (λ (m : Member). HasChanged 4 (once_less c.args.buffer.at.root call.result) None m c.count_less.new.member)
    c.self.view_is
    (subst (λ (w : Window). HasChanged 4 (once_less w.at.root call.result) None old c.count_less.new.member)
    c.buffer.view_is did.changed)
