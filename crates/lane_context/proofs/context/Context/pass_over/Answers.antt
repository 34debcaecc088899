use Rattle.std.proofs.Common.{[], ◌∷◌, refl, sym, subst, arith, append-nil}
use Rattle.pool_law.specs.declared.command.Command.{Command}
use Rattle.pool_law.specs.declared.note.Did.{Did}
use Rattle.pool_law.specs.declared.note.Note.{Note}
use Rattle.pool_law.specs.declared.note.Object.TheVariants.{Mail}
use Rattle.pool_law.specs.declared.run.Reply.{Reply}
use Rattle.pool_law.specs.Lanes.{no_parcel}
use Rattle.shared_pool.specs.SeatLanes.{lane_of}
use Rattle.lane_context.specs.declared.context.Context.{Context}
use Rattle.lane_context.specs.declared.context.Turn.{Turn}
use Rattle.lane_context.specs.Contexts.{HasRoomFor, left_for, PassesOver}
use Rattle.lane_context.specs.ContextSteps.{CanAnswer, HasPosted, HasReplied, left_to_post}
use Rattle.lane_context.proofs.PassTurns.{can_answer_behind, passed_silently, passed_post}
use Rattle.lane_context.proofs.context.Context.pass_over.Goals.{in-Send, in_default}
use Rattle.lane_context.proofs.context.Context.pass_over.Goals as goal

pub post-requires-clause-room : goal.post-requires-clause-room
post-requires-clause-room g c =
    subst (λ (x : Command). HasRoomFor c.args.pool.now c.args.self.now (left_for c.args.self.now.composes x))
    c.in-Send.is c.requires.room

pub answer-requires : goal.answer-requires
answer-requires g c =
    let pool = c.args.pool.now in let old = c.args.self.now in let q = c.requires in
    elim c.match-command.branch [
      | in-Send w ↦
          let mid = w.post.new.self in let to = w.in-Send.lane in
          let did : HasPosted pool old mid to no_parcel = w.post.ensures in
          subst (λ (x : Context). CanAnswer x) (sym w.self-is)
          (can_answer_behind pool (left_to_post to) old mid q.context
          (subst (λ (x : Command). HasRoomFor pool old (left_for old.composes x)) w.in-Send.is q.room) q.replies
          (Note.At (Mail (lane_of old.seat) to) did.number (Did.Post no_parcel) ∷ []) (omega arith) did.noted)
      | in_default w ↦
          subst (λ (x : Context). CanAnswer x) (sym w.self-is)
          (can_answer_behind pool (left_for old.composes c.args.command.now) old old q.context q.room q.replies []
          (omega arith) (record { log = sym (append-nil old.notes.items); room = omega arith; rest = refl }))
    ]

pub returns : goal.returns
returns g c =
    let pool = c.args.pool.now in let old = c.args.self.now in let new = c.answer.new.self in
    let command = c.args.command.now in let context = c.requires.context in
    elim c.match-command.branch [
      | in-Send w ↦
          subst (λ (x : Command × Turn). PassesOver pool old new x.0 x.1)
          (λ i. (sym w.in-Send.is i, sym c.answer.ensures.ready i))
          (passed_post pool _ w.in-Send.lane old w.post.new.self context new w.post.ensures
          (subst (λ (x : Context). HasReplied x new Reply.Stopped) w.self-is c.answer.ensures.replied))
      | in_default w ↦
          subst (λ (x : Turn). PassesOver pool old new command x) (sym c.answer.ensures.ready)
          (passed_silently pool command old new context (λ name to. w.in_default.not-Send name to)
          (subst (λ (x : Context). HasReplied x new Reply.Stopped) w.self-is c.answer.ensures.replied))
    ]
