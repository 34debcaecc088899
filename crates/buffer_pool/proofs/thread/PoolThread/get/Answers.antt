use Rattle.std.proofs.Common.{◌≡◌, Bool, None, subst}
use Rattle.std.specs.Prelude.{MatchBool}
use Rattle.pool_law.specs.declared.note.Did.{Did}
use Rattle.seat_work.specs.Changes.{no_change}
use Rattle.pool_member.specs.declared.member.Member.{Member}
use Rattle.pool_member.specs.Alone.{AreLaid}
use Rattle.pool_member.specs.Threads.{HasChanged}
use Rattle.pool_member.specs.Tries.{HasAccessed, StaysOut}
use Rattle.pool_member.proofs.Accessing.{changed_out}
use Rattle.buffer_pool.proofs.thread.PoolThread.get.Goals as goal
use Rattle.buffer_pool.proofs.thread.PoolThread.get.Goals.{then-not-try_get, else-not-try_get}

pub returns-clause-changed : goal.returns-clause-changed
returns-clause-changed g c =
    let pool = c.pool.inside.shared in let old : Member = c.self.inside.member in let mid = c.try_get.new.member in
    let root = c.buffer.inside.view.at.root in let last : Member = c.if-not-try_get.self-inside.member in
    let Tried : Bool → Type 0 = λ (b : Bool). MatchBool b
    (HasAccessed pool root (Did.Get c.in_ok-offset.offset c.try_get.new.out) None old mid
    × AreLaid old root c.in_ok-offset.offset c.try_get.new.out)
    (StaysOut pool root old mid × (c.try_get.new.out ≡ c.args.out.now)) in
    subst (λ (m : Member). HasChanged 1 no_change None m last) c.self.view_is
    (elim c.if-not-try_get.branch [
      | then-not-try_get w ↦
          let out = subst Tried w.if-not-try_get.true c.try_get.ensures.tried in
          rw w.self-inside-is (changed_out pool root old mid w.wait_to_get.new.member 1 no_change None out.0
          w.wait_to_get.ensures.does.changed)
      | else-not-try_get w ↦
          let it = subst Tried w.if-not-try_get.false c.try_get.ensures.tried in
          rw w.self-inside-is it.0.does.changed
    ])
