use Rattle.std.proofs.Common.{sym, subst}
use Rattle.shared_pool.specs.SeatLanes.{lane_of}
use Rattle.lane_context.specs.declared.access.Access.{Access}
use Rattle.lane_context.specs.declared.context.Stage.TheVariants.{Ready}
use Rattle.lane_context.specs.declared.context.Turn.{Turn}
use Rattle.lane_context.specs.Accesses.{AccessIsReady, IsPrepared}
use Rattle.lane_stages.specs.Budgets.{notes_alone}
use Rattle.lane_context.specs.Contexts.{AccessFits, HasTurned}
use Rattle.lane_context.specs.Named.{known_to}
use Rattle.lane_context.specs.ContextSteps.{MayTurn, AccessTurns}
use Rattle.lane_context.proofs.ContextLaws.{can_answer}
use Rattle.lane_context.proofs.Turning.{refused_turn}
use Rattle.lane_context.proofs.context.Context.access.Goals as goal

pub refuse-requires : goal.refuse-requires
refuse-requires c =
    can_answer c.args.pool.now (notes_alone 1) c.args.self.now
    (record {
      context = c.requires.context;
      room = c.requires.room;
      replies = c.requires.replies;
      asked =
          c.requires.asked;
    })

pub returns-in-Refused : goal.returns-in-Refused
returns-in-Refused c = λ s command state prepared.
    let pool = c.args.pool.now in let old = c.args.self.now in let new = c.refuse.new.self in let refusal =
    c.in-Refused.refusal in
    let may : MayTurn pool (notes_alone 1) old = record
    { context = c.requires.context; room = c.requires.room; replies = c.requires.replies; asked = c.requires.asked } in
    let read = subst (λ (a : Access). IsPrepared old.names old.counts command a s) c.in-Refused.is prepared in
    subst (λ (t : Turn). HasTurned pool old new s command Ready t) (sym c.refuse.ensures.ready)
    (refused_turn pool (notes_alone 1) old new may refusal c.refuse.ensures.replied s command state.names_are
    (read.read old.shape (lane_of old.seat)))

pub set-requires-clause-may : goal.set-requires-clause-may
set-requires-clause-may c =
    record {
      context = c.requires.context;
      room = c.requires.room;
      replies = c.requires.replies;
      asked =
          c.requires.asked;
    }

pub set-requires-clause-reaches : goal.set-requires-clause-reaches
set-requires-clause-reaches c =
    let old = c.args.self.now in
    subst (λ (a : Access). AccessIsReady (known_to old.seat) old.counts a) c.in-Set.is c.requires.ready

pub set-requires-clause-name : goal.set-requires-clause-name
set-requires-clause-name c = subst (λ (a : Access). AccessFits c.args.self.now a) c.in-Set.is c.requires.name

pub returns-in-Set : goal.returns-in-Set
returns-in-Set c =
    subst (λ (a : Access). AccessTurns c.args.pool.now c.args.self.now c.set.new.self a c.set.result) (sym c.in-Set.is)
    c.set.ensures

pub get-requires-clause-may : goal.get-requires-clause-may
get-requires-clause-may c =
    record {
      context = c.requires.context;
      room = c.requires.room;
      replies = c.requires.replies;
      asked =
          c.requires.asked;
    }

pub get-requires-clause-reaches : goal.get-requires-clause-reaches
get-requires-clause-reaches c =
    let old = c.args.self.now in
    (subst (λ (a : Access). AccessIsReady (known_to old.seat) old.counts a) c.in-Get.is c.requires.ready).0

pub get-requires-clause-reply : goal.get-requires-clause-reply
get-requires-clause-reply c =
    let old = c.args.self.now in
    (subst (λ (a : Access). AccessIsReady (known_to old.seat) old.counts a) c.in-Get.is c.requires.ready).1

pub get-requires-clause-name : goal.get-requires-clause-name
get-requires-clause-name c = subst (λ (a : Access). AccessFits c.args.self.now a) c.in-Get.is c.requires.name

pub returns-in-Get : goal.returns-in-Get
returns-in-Get c =
    subst (λ (a : Access). AccessTurns c.args.pool.now c.args.self.now c.get.new.self a c.get.result) (sym c.in-Get.is)
    c.get.ensures
