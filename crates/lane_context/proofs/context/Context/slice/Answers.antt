use Rattle.std.proofs.Common.{◌≡◌, List, [], ◌∷◌, Bool, true, false, refl, sym, ap, ◌∙◌, subst, Option, Some}
use Rattle.std.specs.Prelude.{slice_set, IsTrue}
use Rattle.pool_law.specs.declared.command.Command.{Command}
use Rattle.pool_law.specs.declared.id.RootId.{RootId}
use Rattle.pool_law.specs.declared.id.ViewData.{ViewData}
use Rattle.pool_law.specs.declared.run.Reply.{Reply}
use Rattle.pool_law.specs.Views.{in_range, slice_of}
use Rattle.pool_law.specs.Refusals.{range}
use Rattle.pool_law.specs.Names.{Bound, Plain}
use Rattle.lane_context.specs.Accesses.{reply_for}
use Rattle.shared_pool.specs.SeatLanes.{lane_of}
use Rattle.lane_context.specs.declared.access.Refusal.TheVariants.{Range}
use Rattle.lane_context.specs.declared.context.Context.{Context}
use Rattle.lane_context.specs.declared.context.Stage.TheVariants.{Ready}
use Rattle.lane_context.specs.declared.context.Turn.{Turn}
use Rattle.lane_context.specs.declared.context.Turn.TheVariants.{Went}
use Rattle.lane_context.specs.Contexts.{left_for, HasTurned}
use Rattle.lane_context.specs.ContextSteps.{HasReplied, HasRetained, MayTurn}
use Rattle.lane_context.proofs.StateReads.{refused_fresh, refuses}
use Rattle.lane_context.proofs.Turning.{refused_turn}
use Rattle.lane_context.proofs.Commands.{bound_turn, slice_lies, slice_turn, reads_slice, reads_range}
use Rattle.lane_context.proofs.context.Context.slice.Goals as goal
use Rattle.lane_context.proofs.context.Context.slice.Goals.{then-retained, else-retained}

no_range : (b : Bool) → (IsTrue b → false ≡ true) → b ≡ false
no_range false f = refl
no_range true f = absurd (cc (f refl))

pub returns-in-Err : goal.returns-in-Err
returns-in-Err c = λ s state.
    let pool = c.args.pool.now in let old = c.args.self.now in let new = c.refuse.new.self in
    let fresh = c.args.fresh in let name = c.args.name in let at = c.args.range.0 in let len = c.args.range.1 in
    let kept = c.args.retained in
    let command = Command.Slice fresh name at len kept in
    subst (λ (t : Turn). HasTurned pool old new s command Ready t) (sym c.refuse.ensures.ready)
    (refused_turn pool (left_for old.composes command) old new c.requires.may c.in-Err.refusal
    c.refuse.ensures.replied s command
    state.names_are
    (refuses s old.names old.counts state old.shape (lane_of old.seat) command (reply_for c.in-Err.refusal)
    (refused_fresh s old.names old.counts state name fresh c.in-Err.refusal c.in-Err.ensures.refused
    (range s name at len ∷ []))))

pub returns-in_default : goal.returns-in_default
returns-in_default c = λ s state.
    let pool = c.args.pool.now in let old = c.args.self.now in let new = c.refuse-in_default.new.self in
    let fresh = c.args.fresh in let name = c.args.name in let at = c.args.range.0 in let len = c.args.range.1 in
    let kept = c.args.retained in
    let command = Command.Slice fresh name at len kept in let v : ViewData = c.in-Ok.view.now.at in let ok =
    c.in-Ok.ensures.ok in
    subst (λ (t : Turn). HasTurned pool old new s command Ready t) (sym c.refuse-in_default.ensures.ready)
    (refused_turn pool (left_for old.composes command) old new c.requires.may Range
    c.refuse-in_default.ensures.replied s command
    state.names_are
    (reads_range old.shape (lane_of old.seat) s old.names old.counts state fresh name v ok.0 ok.1 ok.2 at len kept
    (no_range (in_range v at len) c.in_default.ensures.succeeds.1)))

pub returns : goal.returns
returns c = λ s state.
    let pool = c.args.pool.now in let old = c.args.self.now in let new = c.answer.new.self in let mid : Context =
    c.if-retained.self in
    let fresh = c.args.fresh in let name = c.args.name in let at = c.args.range.0 in let len = c.args.range.1 in
    let v : ViewData = c.in-Ok.view.now.at in let ok = c.in-Ok.ensures.ok in let w : ViewData = slice_of v at len in
    let made : c.in-Ok-slice.slice.at ≡ w = c.in-Ok-slice.ensures.ok in
    let inside : in_range v at len ≡ true = c.in-Ok-slice.ensures.succeeds.0 refl in
    let replied : HasReplied (record mid { names = slice_set mid.names fresh (Some (Plain w)) }) new Reply.Ok =
    subst (λ (names : List (Option Bound)). HasReplied (record mid { names = names }) new Reply.Ok)
    (c.bind.ensures ∙ ap (λ (x : ViewData). slice_set mid.names fresh (Some
    (Plain x))) made) c.answer.ensures.replied in
    let turned : HasTurned pool old new s (Command.Slice fresh name at len c.args.retained) Ready (Went Ready) =
    elim c.if-retained.branch [
      | then-retained b ↦
          let did : HasRetained pool old mid v.root =
          subst (λ (p : Context × RootId). HasRetained pool old p.0 p.1) (λ i. (sym b.self-is i, (made i).root))
          b.count_more.ensures in
          let may : MayTurn pool (left_for c.args.self.now.composes (Command.Slice fresh name at len true)) old =
          subst (λ (kept : Bool). MayTurn pool (left_for c.args.self.now.composes
          (Command.Slice fresh name at len kept)) old)
          b.if-retained.true c.requires.may in
          subst (λ (kept : Bool). HasTurned pool old new s (Command.Slice fresh name at len kept) Ready (Went Ready))
          (sym b.if-retained.true)
          (slice_turn pool fresh name at len old mid new may c.requires.name v ok.0 ok.1 ok.2 inside did replied s
          state)
      | else-retained b ↦
          subst (λ (kept : Bool). HasTurned pool old new s (Command.Slice fresh name at len kept) Ready (Went Ready))
          (sym b.if-retained.false)
          (bound_turn pool fresh old new c.requires.may.context c.requires.may.asked c.requires.name w
          (slice_lies old name v c.requires.may.context.inside ok.0 at len inside)
          (subst (λ (x : Context). HasReplied (record x { names = slice_set x.names fresh (Some (Plain w)) }) new
          Reply.Ok)
          b.self-is replied) s state.names_are (Command.Slice fresh name at len false)
          (reads_slice old.shape (lane_of old.seat) s old.names old.counts state fresh name v ok.0 ok.1 ok.2 at len
          inside))
    ] in
    subst (λ (t : Turn). HasTurned pool old new s (Command.Slice fresh name at len c.args.retained) Ready t)
    (sym c.answer.ensures.ready) turned
