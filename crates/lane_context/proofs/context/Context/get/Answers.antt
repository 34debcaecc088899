use Rattle.std.proofs.Common.{◌≡◌, ℕ, List, [], ◌∷◌, ◌++◌, length, take, drop, refl, sym, ap, ◌∙◌, subst, arith, Option, Some}
use Rattle.std.specs.Prelude.{slice_set}
use Rattle.std.proofs.Math.Seq.{take-append_seam}
use Rattle.pool_law.specs.declared.note.Did.{Did}
use Rattle.pool_law.specs.declared.note.Note.{Note}
use Rattle.pool_law.specs.declared.note.Object.TheVariants.{Root}
use Rattle.pool_law.specs.declared.run.Reply.{Reply}
use Rattle.pool_law.specs.Names.{Bound, Plain}
use Rattle.lane_context.specs.declared.access.Access.TheVariants.{Get}
use Rattle.lane_context.specs.declared.context.Context.{Context}
use Rattle.lane_context.specs.declared.context.Turn.{Turn}
use Rattle.lane_context.specs.ContextSteps.{HasNoted, HasReplied, AccessTurns}
use Rattle.lane_context.proofs.Commands.{counts_root}
use Rattle.lane_context.proofs.ByteTurns.{get_turn, get_found}
use Rattle.lane_context.proofs.context.Context.get.Goals as goal

pub read-requires-clause-counts : goal.read-requires-clause-counts
read-requires-clause-counts c =
    counts_root c.args.pool.now c.args.self.now c.requires.may.context c.args.reach.root c.requires.reaches.counts

pub returns-in-Did : goal.returns-in-Did
returns-in-Did c =
    let pool = c.args.pool.now in let old = c.args.self.now in let reach = c.args.reach in let mid = c.note.new.self in
    let new = c.answer.new.self in
    let start : Context = record old { seat = c.read.new.seat } in let did = c.in-Did in let bytes : List ℕ =
    c.read.new.out in
    let note = c.args.note in let len : length bytes ≡ length note.items = did.ensures.len
    ∙ ap (λ (bs : List ℕ). length bs) c.deref_mut.ensures.value in
    let whole : take note.len (bytes ++ drop (length bytes) note.items) ≡ bytes =
    ap (λ (n : ℕ). take n (bytes ++ drop (length bytes) note.items)) (omega (arith, note.ok.0, len))
    ∙ take-append_seam bytes (drop (length bytes) note.items) in
    let noted : HasNoted start mid (Note.At (Root reach.root.place) did.number (Did.Get reach.offset bytes) ∷ []) =
    subst (λ (n : Note). HasNoted start mid (n ∷ []))
    (c.note_at.ensures ∙ ap (λ (bs : List ℕ). Note.At (Root reach.root.place) did.number (Did.Get reach.offset bs))
    (c.of-bytes.ensures ∙ whole)) c.note.ensures in
    let answers : c.of.result ≡ bytes = c.of.ensures ∙ c.copy_from_slice.ensures.items ∙ c.deref.ensures.value
    ∙ whole in
    let replied : HasReplied (record mid { names = slice_set mid.names reach.name (Some (Plain reach.after.at)) }) new
    (Reply.OkBytes bytes) =
    subst (λ (p : List (Option Bound) × List ℕ). HasReplied (record mid { names = p.0 }) new (Reply.OkBytes p.1))
    (λ i. (c.bind.ensures i, answers i)) c.answer.ensures.replied in
    subst (λ (t : Turn). AccessTurns pool old new (Get reach c.args.note c.args.reply) t) (sym c.answer.ensures.ready)
    (get_turn pool old start mid new c.requires.may.context c.requires.may.asked refl did.ensures.same did.ensures.seat
    reach c.requires.reaches.counts c.requires.name did.number c.requires.reaches.lies note c.args.reply bytes
    len did.ensures.did noted replied)

pub returns-in-Held : goal.returns-in-Held
returns-in-Held c =
    let pool = c.args.pool.now in let old = c.args.self.now in let held = c.in-Held in
    let start : Context = record old { seat = c.read.new.seat } in
    get_found pool old start c.find_busy.new.self c.requires.may.context c.requires.may.asked refl held.ensures.same
    held.ensures.seat c.args.reach c.requires.reaches.view held.held c.find_busy.result held.ensures.held.1
    c.find_busy.ensures c.args.note c.args.reply
