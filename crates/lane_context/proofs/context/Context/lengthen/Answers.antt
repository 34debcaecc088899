use Rattle.std.proofs.Common.{◌≡◌, ℕ, ◌<◌, List, sym, ap, ◌∙◌, subst, Option, Some}
use Rattle.size_classes.specs.Sizes.{Geometry, class_of}
use Rattle.pool_law.specs.declared.command.Command.{Command}
use Rattle.pool_law.specs.declared.id.ViewData.{ViewData}
use Rattle.pool_law.specs.Limits.{geometry_of}
use Rattle.pool_law.specs.Names.{Bound, Plain}
use Rattle.lane_stages.specs.declared.counts.Counted.{Counted}
use Rattle.lane_context.specs.declared.context.Stage.TheVariants.{Ready}
use Rattle.lane_context.specs.declared.context.Turn.{Turn}
use Rattle.lane_context.specs.Contexts.{left_for, HasTurned}
use Rattle.lane_stages.specs.Counting.{counted}
use Rattle.lane_context.specs.Named.{bound_at}
use Rattle.lane_context.proofs.ContextLaws.{can_answer}
use Rattle.lane_context.proofs.GrowTurns.{begun_ask, large_ask, may_begin_grow, refused_ask}
use Rattle.lane_context.proofs.context.Context.lengthen.Goals as goal

-- the copy of a name's view is what it is bound to, and its root is counted
module _ (names : List (Option Bound)) (cs : List Counted) (name : ℕ) (v w : ViewData) (same : w ≡ v) where
  copy_bound : bound_at names name ≡ Some (Plain v) → bound_at names name ≡ Some (Plain w)
  copy_bound is = is ∙ ap (λ (x : ViewData). Some (Plain x)) (sym same)

  copy_counted : 0 < counted cs v.root → 0 < counted cs w.root
  copy_counted lt = subst (λ (x : ViewData). 0 < counted cs x.root) (sym same) lt

-- the class of the size, by the classes that the lane keeps
class_is : (g h : Geometry) (size : ℕ) (o p : Option ℕ) → g ≡ h → o ≡ class_of g size → o ≡ p → class_of h size ≡ p
class_is g h size o p same is answer = ap (λ (x : Geometry). class_of x size) (sym same) ∙ sym is ∙ answer

pub refuse-requires : goal.refuse-requires
refuse-requires c =
    can_answer c.args.pool.now (left_for c.args.self.now.composes (Command.Capacity c.args.name c.args.size))
    c.args.self.now c.requires.may

pub refuse-requires-in_default : goal.refuse-requires-in_default
refuse-requires-in_default c =
    can_answer c.args.pool.now (left_for c.args.self.now.composes (Command.Capacity c.args.name c.args.size))
    c.args.self.now c.requires.may

pub returns-in-Err : goal.returns-in-Err
returns-in-Err c = λ s state.
    let pool = c.args.pool.now in let old = c.args.self.now in let new = c.refuse.new.self in
    subst (λ (t : Turn). HasTurned pool old new s (Command.Capacity c.args.name c.args.size) Ready t)
    (sym c.refuse.ensures.ready)
    (refused_ask pool old new c.args.name c.args.size s state c.requires.may c.in-Err.refusal c.in-Err.ensures.refused
    c.refuse.ensures.replied)

pub returns-in_default : goal.returns-in_default
returns-in_default c = λ s state.
    let pool = c.args.pool.now in let old = c.args.self.now in let new = c.refuse-in_default.new.self in
    let name = c.args.name in let size = c.args.size in let v = c.duplicate-view.result in
    let ok = c.in-Ok.ensures.ok in let held : ViewData = c.in-Ok.view.now.at in let same = c.duplicate-view.ensures in
    subst (λ (t : Turn). HasTurned pool old new s (Command.Capacity name size) Ready t)
    (sym c.refuse-in_default.ensures.ready)
    (large_ask pool old new name size s state v (copy_bound old.names old.counts name held v.at same ok.0)
    (copy_counted old.names old.counts name held v.at same ok.1) c.requires.may
    (class_is old.classes (geometry_of old.shape) size _ _ c.requires.may.context.classes c.class_of.ensures.class
    c.in_default.is) c.refuse-in_default.ensures.replied)

pub regrow-requires : goal.regrow-requires
regrow-requires c =
    let old = c.args.self.now in let name = c.args.name in let size = c.args.size in let v = c.duplicate-view.result in
    let ok = c.in-Ok.ensures.ok in let held : ViewData = c.in-Ok.view.now.at in let same = c.duplicate-view.ensures in
    record {
      may =
          may_begin_grow c.args.pool.now old name size c.in-Some.class v c.requires.may
          (class_is old.classes (geometry_of old.shape) size _ _ c.requires.may.context.classes
          c.class_of.ensures.class c.in-Some.is)
          (copy_bound old.names old.counts name held v.at same ok.0)
          (copy_counted old.names old.counts name held v.at same ok.1);
    }

pub returns : goal.returns
returns c = λ s state.
    let pool = c.args.pool.now in let old = c.args.self.now in let name = c.args.name in let size = c.args.size in
    let v = c.duplicate-view.result in let ok = c.in-Ok.ensures.ok in let held : ViewData = c.in-Ok.view.now.at in
    let same = c.duplicate-view.ensures in let class = c.in-Some.class in
    begun_ask pool old c.regrow.new.self name size s state v (copy_bound old.names old.counts name held v.at same ok.0)
    (copy_counted old.names old.counts name held v.at same ok.1) class
    (class_is old.classes (geometry_of old.shape) size _ _ c.requires.may.context.classes c.class_of.ensures.class
    c.in-Some.is) c.regrow.result
    (c.regrow.ensures s (Command.Capacity name size) state.names_are)
