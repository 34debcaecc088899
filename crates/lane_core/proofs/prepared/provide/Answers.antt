use Rattle.std.proofs.Common.{length, subst, Option}
use Rattle.std.specs.Prelude.{IfNone, IfSome}
use Rattle.pool_law.specs.LaneStates.{LaneState}
use Rattle.lane_context.specs.declared.access.Access.{Access}
use Rattle.lane_context.specs.declared.work.Work.{Work}
use Rattle.lane_plans.specs.Reaching.{BindsBelow}
use Rattle.lane_context.specs.Accesses.{IsAccess, IsPrepared, IsState}
use Rattle.lane_context.specs.Works.{IsPlanned, IsReady, IsUnplanned}
use Rattle.lane_core.proofs.prepared.provide.Goals as goal

pub returns-in-Some : goal.returns-in-Some
returns-in-Some c =
    let d = c.args.context.now in let command = c.args.command.now in let is = c.in-Some.is in
    let planned = c.in_ok-work.ensures in (
      subst (λ (o : Option Work). IfSome o (IsReady d)) is planned.ready,
      subst (λ (o : Option Work). IfSome o (λ work. (s : LaneState) → IsState s d.names d.counts
          → IsPlanned d command work s)) is planned.planned,
    )

pub prepare-requires : goal.prepare-requires
prepare-requires c = record {
  plain =
      subst (λ (o : Option Work). IfNone o (IsUnplanned c.args.context.now.names c.args.command.now)) c.in_default.is
      c.in_ok-work.ensures.other;
}

pub returns-in-Some-2 : goal.returns-in-Some-2
returns-in-Some-2 c =
    let d = c.args.context.now in let command = c.args.command.now in let is = c.in-Some-2.is in
    let made = c.in_ok-access.ensures in (
      subst (λ (o : Option Access). IfSome o (λ a. (s : LaneState) → IsState s d.names d.counts
          → IsPrepared d.names d.counts command a s)) is made.access,
      subst (λ (o : Option Access). IfSome o (BindsBelow (length d.names))) is made.within,
      subst (λ (o : Option Access). IfSome o (λ a. IsAccess command)) is made.none,
    )

pub returns-in-None : goal.returns-in-None
returns-in-None c =
    let command = c.args.command.now in (
      subst (λ (o : Option Access). IfNone o (IsAccess command → ⊥)) c.in-None.is c.in_ok-access.ensures.other,
      subst (λ (o : Option Work). IfNone o (IsUnplanned c.args.context.now.names command)) c.in_default.is
          c.in_ok-work.ensures.other,
    )
