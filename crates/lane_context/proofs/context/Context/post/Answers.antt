use Rattle.std.proofs.Common.{[], ◌∷◌, ◌<◌, ℕ, refl, ap, ◌∙◌, subst, arith}
use Rattle.pool_law.specs.declared.note.Did.{Did}
use Rattle.pool_law.specs.declared.note.Note.{Note}
use Rattle.pool_law.specs.declared.note.Object.TheVariants.{Mail}
use Rattle.pool_law.specs.declared.run.Shape.{Shape}
use Rattle.lane_context.specs.declared.context.Context.{Context}
use Rattle.lane_context.specs.ContextSteps.{HasNoted, left_to_post}
use Rattle.lane_context.proofs.ContextLaws.{room_to_note}
use Rattle.lane_context.proofs.PostTurns.{has_room, counted_views, has_posted}
use Rattle.lane_context.proofs.context.Context.post.Goals as goal

pub post-number-requires-clause-seat : goal.post-number-requires-clause-seat
post-number-requires-clause-seat g c = c.requires.context.seat

pub post-number-requires-clause-to : goal.post-number-requires-clause-to
post-number-requires-clause-to g c =
    subst (λ (s : Shape). c.args.lane < s.lanes) c.requires.context.shape c.requires.lane

pub post-number-requires-clause-room : goal.post-number-requires-clause-room
post-number-requires-clause-room g c =
    has_room c.args.pool.now c.args.self.now c.args.lane c.requires.room c.requires.lane

pub post-number-requires-clause-counts : goal.post-number-requires-clause-counts
post-number-requires-clause-counts g c =
    counted_views c.args.pool.now c.args.self.now c.requires.context c.args.sent.view c.requires.counts

pub note-requires : goal.note-requires
note-requires g c =
    room_to_note c.args.pool.now (left_to_post c.args.lane) c.args.self.now c.requires.context c.requires.room
    (omega arith)

pub returns : goal.returns
returns g c =
    let old = c.args.self.now in let post = c.post-number in
    let start : Context = record old { seat = post.new.seat } in
    has_posted c.args.pool.now old start c.note.new.self refl post.ensures.same post.ensures.seat c.args.lane
    post.result c.args.sent post.ensures.posted
    (subst (λ (n : Note). HasNoted start c.note.new.self (n ∷ []))
    (c.note_at.ensures ∙ ap (λ (from : ℕ). Note.At (Mail from c.args.lane) post.result (Did.Post c.args.sent))
    c.lane_of.ensures.lane) c.note.ensures)
