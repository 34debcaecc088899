use Rattle.std.proofs.Common.{None, sym, ◌∙◌, subst}
use Rattle.std.specs.Prelude.{IsTrue}
use Rattle.seat_work.specs.Changes.{once_more}
use Rattle.pool_member.specs.declared.member.Member.{Member}
use Rattle.pool_member.specs.Allotting.{IsAllotted}
use Rattle.pool_member.specs.Alone.{IsAlone}
use Rattle.pool_member.specs.Counting.{is_alone}
use Rattle.pool_member.specs.Refusals.{is_here}
use Rattle.pool_member.specs.Threads.{HasChanged}
use Rattle.pool_member.specs.Windows.{Window}
use Rattle.buffer_pool.proofs.Lones.{here_same, if_owned, owned_changed}
use Rattle.buffer_pool.proofs.thread.PoolThread.alloc_lone.Goals as goal

pub invariant_of-self : goal.invariant_of-self
invariant_of-self g c =
    let m : Member = c.self.inside.member in let root = c.buffer.inside.view.at.root in let own = c.own.ensures in
    let born : IsAlone c.alloc.new.self root =
    subst (λ (w : Window). IsAlone c.alloc.new.self w.at.root) (sym c.buffer.view_is) c.in-Ok.ensures.born.lone in
    let alone = subst (λ (m : Member). IsAlone m root) (sym c.self.view_is) born in
    if_owned m c.own.new.self root own.counts own.tells own.alone own.places alone _ c.self.invariant

pub returns-in-Ok-clause-here : goal.returns-in-Ok-clause-here
returns-in-Ok-clause-here g c =
    let m : Member = c.self.inside.member in let b = c.in-Ok.buffer in let own = c.own.ensures in
    let here = subst (λ (m : Member). IsTrue (is_here m.account b)) (sym c.self.view_is) c.in-Ok.ensures.here in (
      here_same m.account c.own.new.self b own.counts own.tells ∙ here,
      subst (λ (w : Window). IsTrue (is_alone c.own.new.self w.at.root)) c.buffer.view_is own.own,
    )

pub returns-in-Ok-clause-changed : goal.returns-in-Ok-clause-changed
returns-in-Ok-clause-changed g c =
    let m : Member = c.self.inside.member in let change = once_more c.in-Ok.buffer.at.root in
    let own = c.own.ensures in
    owned_changed m c.own.new.self c.buffer.inside.view.at.root own.counts own.tells own.owns 6 change c.args.self.now
    (subst (λ (m : Member). HasChanged 6 change None c.args.self.now m) (sym c.self.view_is) c.in-Ok.ensures.changed)

pub returns-in-Ok-clause-allotted : goal.returns-in-Ok-clause-allotted
returns-in-Ok-clause-allotted g c =
    subst (λ (m : Member). IsAllotted c.args.pool.now c.args.size c.in-Ok.buffer.at.root c.args.self.now m)
    (sym c.self.view_is) c.in-Ok.ensures.allotted
