use Rattle.std.proofs.Common.{◌≡◌, ℕ, ◌<◌, List, length, get_or, refl, sym, subst}
use Rattle.std.specs.Prelude.{slice_set}
use Rattle.std.specs.Vec.{with_items}
use Rattle.ground.specs.Ground.{Segment}
use Rattle.size_classes.specs.Pages.{Used}
use Rattle.size_classes.specs.Runs.{Begins}
use Rattle.size_classes.specs.Spans.{given_back}
use Rattle.size_classes.proofs.Runs.{Begins-run_at}
use Rattle.run_map.specs.FreeRuns.{span_of}
use Rattle.pool_law.specs.Chunks.{Whole}
use Rattle.pool_chunk.specs.declared.slot.PageUse.{PageUse}
use Rattle.pool_chunk.specs.declared.chunk.Chunk.TheInside.{Inside}
use Rattle.pool_chunk.specs.ChunkStates.{ChunkState, IsRunOut}
use Rattle.pool_chunk.specs.Held.{runs_in, state_in}
use Rattle.pool_chunk.proofs.SlotLaws.{slot-within, slot-run, written}
use Rattle.pool_chunk.proofs.HeldLaws.{Follows, given-pages, given-out, given-state, given-held}
use Rattle.pool_chunk.proofs.chunk.Chunk.give_run.Goals as goal

-- the run, by the fields of the chunk
asked : (s : Inside) (v : ChunkState) (page : ℕ) (piece : Segment) → state_in s ≡ v → IsRunOut v page piece
    → IsRunOut (state_in s) page piece
asked s v page piece same out = subst (λ (x : ChunkState). IsRunOut x page piece) (sym same) out

begins : (s : Inside) (page : ℕ) (piece : Segment) → (out : IsRunOut (state_in s) page piece)
    → Begins page (Used out.pages Whole) (runs_in s)
begins s page piece out = Begins-run_at (runs_in s) page (Used out.pages Whole) out.run

pub clear-requires-clause-within : goal.clear-requires-clause-within
clear-requires-clause-within c =
    let s = c.self.inside in
    let page = c.args.page in
    let out = asked s c.args.self.now page c.args.piece c.self.view_is c.requires in
    subst (λ (slots : List PageUse). page < length slots) (sym c.deref_mut.ensures.value)
    (slot-within s.classes s.map.runs s.slots.items (runs_in s) c.self.invariant.runs page (Used out.pages Whole)
    (begins s page c.args.piece out))

pub clear-requires-clause-run : goal.clear-requires-clause-run
clear-requires-clause-run c =
    let s = c.self.inside in
    let page = c.args.page in
    let out = asked s c.args.self.now page c.args.piece c.self.view_is c.requires in (
      out.pages,
      subst (λ (slots : List PageUse). (d : PageUse) → get_or slots page d ≡ PageUse.Run out.pages)
          (sym c.deref_mut.ensures.value)
          (slot-run s.classes s.map.runs s.slots.items (runs_in s) c.self.invariant.runs page out.pages
          (begins s page c.args.piece out)),
    )

pub give-requires-clause-pages : goal.give-requires-clause-pages
give-requires-clause-pages c =
    let s = c.self.inside in
    let out = asked s c.args.self.now c.args.page c.args.piece c.self.view_is c.requires in
    given-pages s c.self.invariant c.args.page out.pages Whole c.args.piece (begins s c.args.page c.args.piece out)
    out.piece

pub give-requires-clause-out : goal.give-requires-clause-out
give-requires-clause-out c =
    let s = c.self.inside in
    let out = asked s c.args.self.now c.args.page c.args.piece c.self.view_is c.requires in
    given-out s c.self.invariant c.args.page out.pages Whole c.args.piece (begins s c.args.page c.args.piece out)
    out.piece

abbrev after : goal.After-give → Inside
after c =
    record {
      map = c.give.new.self;
      classes = c.self.inside.classes;
      bytes = c.self.inside.bytes;
      slots =
          with_items c.self.inside.slots c.clear.new.slots;
    }

follows : (c : goal.After-give) → Follows c.self.inside (after c)
    (given_back (span_of c.self.inside.map.page c.args.piece) c.self.inside.map.runs)
    (slice_set c.self.inside.slots.items c.args.page PageUse.Nothing)
follows c =
    let s = c.self.inside in
    record {
      map_is = c.give.ensures.back;
      classes = refl;
      bytes = refl;
      slots_are =
          written s.slots c.deref_mut.result.now c.clear.new.slots c.args.page PageUse.Nothing c.deref_mut.ensures.value
          c.clear.ensures;
    }

pub invariant_of-self : goal.invariant_of-self
invariant_of-self c =
    let s = c.self.inside in
    let out = asked s c.args.self.now c.args.page c.args.piece c.self.view_is c.requires in
    given-held s c.self.invariant c.args.page out.pages Whole c.args.piece (begins s c.args.page c.args.piece out)
    out.piece (after c) (follows c)

pub returns : goal.returns
returns c =
    let s = c.self.inside in
    let out = asked s c.args.self.now c.args.page c.args.piece c.self.view_is c.requires in
    rw (← c.self.view_is) (given-state s c.self.invariant c.args.page out.pages Whole c.args.piece
    (begins s c.args.page c.args.piece out) out.piece (after c) (follows c))
