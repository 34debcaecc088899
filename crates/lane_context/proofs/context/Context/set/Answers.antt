use Rattle.std.proofs.Common.{ℕ, List, [], ◌∷◌, refl, sym, ap, ◌∙◌, subst, Option}
use Rattle.pool_law.specs.declared.note.Did.{Did}
use Rattle.pool_law.specs.declared.note.Note.{Note}
use Rattle.pool_law.specs.declared.note.Object.TheVariants.{Root}
use Rattle.pool_law.specs.declared.run.Reply.{Reply}
use Rattle.pool_law.specs.Names.{Bound}
use Rattle.shared_pool.specs.RootNotes.{access}
use Rattle.shared_pool.specs.Seats.{IsNoted}
use Rattle.lane_context.specs.declared.access.Access.TheVariants.{Set}
use Rattle.lane_context.specs.declared.context.Context.{Context}
use Rattle.lane_context.specs.declared.context.Turn.{Turn}
use Rattle.lane_context.specs.ContextSteps.{HasNoted, HasReplied, AccessTurns}
use Rattle.lane_context.proofs.Commands.{counts_root}
use Rattle.lane_context.proofs.ByteTurns.{set_turn, set_found}
use Rattle.lane_context.proofs.context.Context.set.Goals as goal

pub write-requires-clause-counts : goal.write-requires-clause-counts
write-requires-clause-counts c =
    counts_root c.args.pool.now c.args.self.now c.requires.may.context c.args.reach.root c.requires.reaches.counts

pub returns-in-Did : goal.returns-in-Did
returns-in-Did c =
    let pool = c.args.pool.now in let old = c.args.self.now in let reach = c.args.reach in let mid = c.note.new.self in
    let new = c.answer.new.self in
    let start : Context = record old { seat = c.write.new.seat } in let did = c.in-Did in
    let noted = subst (λ (n : Note). HasNoted start mid (n ∷ []))
    (c.note_at.ensures ∙ ap (λ (bytes : List ℕ). Note.At (Root reach.root.place) did.number (Did.Set reach.offset
    bytes))
    c.of-bytes.ensures) c.note.ensures in
    subst (λ (t : Turn). AccessTurns pool old new (Set reach c.args.bytes) t) (sym c.answer.ensures.ready)
    (set_turn pool old start mid new c.requires.may.context c.requires.may.asked refl did.ensures.same did.ensures.seat
    reach c.requires.reaches.counts c.requires.name did.number c.requires.reaches.lies c.args.bytes
    (subst (λ (bytes : List ℕ). IsNoted pool old.seat start.seat (Root reach.root.place) did.number
    (access reach.root (Did.Set reach.offset bytes))) c.deref.ensures.value did.ensures.did) noted
    (subst (λ (names : List (Option Bound)). HasReplied (record mid { names = names }) new Reply.Ok) c.bind.ensures
    c.answer.ensures.replied))

pub returns-in-Held : goal.returns-in-Held
returns-in-Held c =
    let pool = c.args.pool.now in let old = c.args.self.now in let held = c.in-Held in
    let start : Context = record old { seat = c.write.new.seat } in
    set_found pool old start c.find_busy.new.self c.requires.may.context c.requires.may.asked refl held.ensures.same
    held.ensures.seat c.args.reach c.requires.reaches.view held.held c.find_busy.result held.ensures.held
    c.find_busy.ensures c.args.bytes
