use Rattle.std.proofs.Common.{Bool, Some, subst}
use Rattle.std.specs.Prelude.{MatchBool}
use Rattle.pool_law.specs.declared.note.Did.{Did}
use Rattle.seat_work.specs.Changes.{no_change}
use Rattle.pool_member.specs.declared.member.Member.{Member}
use Rattle.pool_member.specs.Alone.{LaysOver}
use Rattle.pool_member.specs.Threads.{HasChanged}
use Rattle.pool_member.specs.Tries.{HasAccessed, StaysOut}
use Rattle.pool_member.specs.Windows.{Window}
use Rattle.pool_member.proofs.Accessing.{changed_out}
use Rattle.buffer_pool.proofs.thread.PoolThread.set.Goals as goal
use Rattle.buffer_pool.proofs.thread.PoolThread.set.Goals.{then-not-try_set, else-not-try_set}

pub returns-clause-changed : goal.returns-clause-changed
returns-clause-changed g c =
    let pool = c.pool.inside.shared in let old : Member = c.self.inside.member in let mid = c.try_set.new.member in
    let root = c.buffer.inside.view.at.root in let last : Member = c.if-not-try_set.self-inside.member in
    let Tried : Bool → Type 0 = λ (b : Bool). MatchBool b
    (HasAccessed pool root (Did.Set c.in_ok-offset.offset c.args.bytes.now) (Some root) old mid
    × LaysOver root c.in_ok-offset.offset c.args.bytes.now old mid) (StaysOut pool root old mid) in
    subst (λ (m : Member). HasChanged 1 no_change (Some c.args.buffer.now.at.root) m last) c.self.view_is
    (subst (λ (w : Window). HasChanged 1 no_change (Some w.at.root) old last) c.buffer.view_is
    (elim c.if-not-try_set.branch [
      | then-not-try_set w ↦
          let out = subst Tried w.if-not-try_set.true c.try_set.ensures in
          rw w.self-inside-is (changed_out pool root old mid w.wait_to_set.new.member 1 no_change (Some root) out
          w.wait_to_set.ensures.does.changed)
      | else-not-try_set w ↦
          let it = subst Tried w.if-not-try_set.false c.try_set.ensures in
          rw w.self-inside-is it.0.does.changed
    ]))
