use Rattle.std.proofs.Common.{◌≡◌, sym, ap, ◌∙◌, subst, Some, None}
use Rattle.size_classes.specs.Sizes.{Geometry, class_of}
use Rattle.pool_law.specs.declared.command.Command.{Command}
use Rattle.pool_law.specs.Limits.{geometry_of}
use Rattle.lane_context.specs.Named.{bound_of}
use Rattle.lane_context.specs.declared.context.Stage.TheVariants.{Ready}
use Rattle.lane_context.specs.declared.context.Turn.{Turn}
use Rattle.lane_context.specs.Contexts.{left_for, HasTurned}
use Rattle.lane_context.proofs.ContextLaws.{can_answer}
use Rattle.lane_context.proofs.AllocTurns.{taken_turn, too_large, begun_turn}
use Rattle.lane_context.proofs.context.Context.alloc.Goals as goal

pub refuse-requires : goal.refuse-requires
refuse-requires c =
    can_answer c.args.pool.now (left_for c.args.self.now.composes (Command.Alloc c.args.name c.args.size))
    c.args.self.now c.requires.may

pub answer-requires : goal.answer-requires
answer-requires c =
    can_answer c.args.pool.now (left_for c.args.self.now.composes (Command.Alloc c.args.name c.args.size))
    c.args.self.now c.requires.may

pub returns-in-Some : goal.returns-in-Some
returns-in-Some c = λ s state.
    let pool = c.args.pool.now in let old = c.args.self.now in let new = c.refuse.new.self in
    subst (λ (t : Turn). HasTurned pool old new s (Command.Alloc c.args.name c.args.size) Ready t)
    (sym c.refuse.ensures.ready)
    (taken_turn pool old new c.args.name c.args.size s state c.requires.may (bound_of c.in-Some.field-0.now)
    c.in-Some.ensures.bound c.refuse.ensures.replied)

pub returns-in_default-class_of : goal.returns-in_default-class_of
returns-in_default-class_of c = λ s state.
    let pool = c.args.pool.now in let old = c.args.self.now in let new = c.answer.new.self in let size = c.args.size in
    let is : class_of (geometry_of old.shape) size
    ≡ None =
    ap (λ (g : Geometry). class_of g size) (sym c.requires.may.context.classes) ∙ sym c.class_of.ensures.class
    ∙ c.in_default-class_of.is in
    subst (λ (t : Turn). HasTurned pool old new s (Command.Alloc c.args.name size) Ready t) (sym c.answer.ensures.ready)
    (too_large pool old new c.args.name size s state c.in_default.ensures.unbound c.requires.may is
    c.answer.ensures.replied)

pub returns : goal.returns
returns c = λ s state.
    let pool = c.args.pool.now in let old = c.args.self.now in let name = c.args.name in let size = c.args.size in
    let class = c.in-Some-class_of.class in
    let is : class_of (geometry_of old.shape) size
    ≡ Some class =
    ap (λ (g : Geometry). class_of g size) (sym c.requires.may.context.classes) ∙ sym c.class_of.ensures.class
    ∙ c.in-Some-class_of.is in
    begun_turn pool old c.allot.new.self name size s state c.in_default.ensures.unbound class is c.allot.result
    (c.allot.ensures s (Command.Alloc name size) state.names_are)
