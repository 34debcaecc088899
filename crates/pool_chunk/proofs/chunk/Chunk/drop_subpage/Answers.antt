use Rattle.std.proofs.Common.{◌≡◌, ◌<◌, true, List, length, get_or, refl, sym, subst}
use Rattle.std.specs.Prelude.{slice_set}
use Rattle.std.specs.Vec.{with_items}
use Rattle.size_classes.specs.Spans.{given_back}
use Rattle.size_classes.specs.Elements.{Elements, is_idle}
use Rattle.run_map.specs.FreeRuns.{span_of}
use Rattle.pool_law.specs.Chunks.{Sub}
use Rattle.pool_chunk.specs.declared.slot.PageUse.{PageUse}
use Rattle.pool_chunk.specs.declared.slot.CutRun.{CutRun}
use Rattle.pool_chunk.specs.declared.chunk.Chunk.TheInside.{Inside}
use Rattle.pool_chunk.specs.ChunkStates.{ChunkState, IsBytesAt, page_start, HasIdleSubpage}
use Rattle.pool_chunk.specs.Held.{state_in}
use Rattle.pool_chunk.proofs.SlotLaws.{written}
use Rattle.pool_chunk.proofs.HeldLaws.{Follows, given-pages, given-out, given-state, given-held}
use Rattle.pool_chunk.proofs.CutLaws.{cut-within, cut-there, cut-is, cut-begins, cut-run}
use Rattle.pool_chunk.proofs.chunk.Chunk.drop_subpage.Goals as goal

pub take_cut-subpage-requires-clause-within : goal.take_cut-subpage-requires-clause-within
take_cut-subpage-requires-clause-within c =
    let i = subst (λ (v : ChunkState). HasIdleSubpage v c.args.page) (sym c.self.view_is) c.requires in
    subst (λ (slots : List PageUse). c.args.page < length slots) (sym c.deref_mut.ensures.value)
    (cut-within c.self.inside c.self.invariant c.args.page i.subpage)

pub take_cut-subpage-requires-clause-cut : goal.take_cut-subpage-requires-clause-cut
take_cut-subpage-requires-clause-cut c =
    let i = subst (λ (v : ChunkState). HasIdleSubpage v c.args.page) (sym c.self.view_is) c.requires in
    subst (λ (slots : List PageUse). (run : CutRun) × ((d : PageUse) → get_or slots c.args.page d ≡ PageUse.Cut run))
    (sym c.deref_mut.ensures.value)
    (cut-there c.self.inside c.self.invariant c.args.page i.subpage)

-- the slot that was taken out
stood : (slots items : List PageUse) (page : _) (run : CutRun) → slots ≡ items
    → ((d : PageUse) → get_or slots page d ≡ PageUse.Cut run) → PageUse.Cut run ≡ get_or items page (PageUse.Cut run)
stood slots items page run same at =
    sym (subst (λ (ss : List PageUse). get_or ss page (PageUse.Cut run) ≡ PageUse.Cut run) same (at (PageUse.Cut run)))

pub into_run-requires : goal.into_run-requires
into_run-requires c =
    let s = c.self.inside in
    let run = c.take_cut-subpage.result in
    let i = subst (λ (v : ChunkState). HasIdleSubpage v c.args.page) (sym c.self.view_is) c.requires in
    let here = stood c.deref_mut.result.now s.slots.items c.args.page run c.deref_mut.ensures.value
    c.take_cut-subpage.ensures.run in
    let cuts = cut-is s c.self.invariant c.args.page i.subpage (PageUse.Cut run) run here refl in
    subst (λ (e : Elements). is_idle e ≡ true) (sym cuts.elements) i.idle

at : (c : goal.After-into_run) → (i : HasIdleSubpage (state_in c.self.inside) c.args.page) →
    IsBytesAt (state_in c.self.inside) (page_start (state_in c.self.inside) c.args.page)
    (page_start (state_in c.self.inside) i.subpage.pages) c.into_run.result
at c i =
    let s = c.self.inside in
    let run = c.take_cut-subpage.result in
    let here = stood c.deref_mut.result.now s.slots.items c.args.page run c.deref_mut.ensures.value
    c.take_cut-subpage.ensures.run in
    cut-run s c.self.invariant c.args.page i.subpage (PageUse.Cut run) run here refl c.into_run.result
    c.into_run.ensures.place c.into_run.ensures.len

pub give-requires-clause-pages : goal.give-requires-clause-pages
give-requires-clause-pages c =
    let s = c.self.inside in
    let i = subst (λ (v : ChunkState). HasIdleSubpage v c.args.page) (sym c.self.view_is) c.requires in
    given-pages s c.self.invariant c.args.page i.subpage.pages (Sub i.subpage.class i.subpage.elements)
    c.into_run.result (cut-begins s c.self.invariant c.args.page i.subpage) (at c i)

pub give-requires-clause-out : goal.give-requires-clause-out
give-requires-clause-out c =
    let s = c.self.inside in
    let i = subst (λ (v : ChunkState). HasIdleSubpage v c.args.page) (sym c.self.view_is) c.requires in
    given-out s c.self.invariant c.args.page i.subpage.pages (Sub i.subpage.class i.subpage.elements) c.into_run.result
    (cut-begins s c.self.invariant c.args.page i.subpage) (at c i)

abbrev after : goal.After-give → Inside
after c =
    record {
      map = c.give.new.self;
      classes = c.self.inside.classes;
      bytes = c.self.inside.bytes;
      slots =
          with_items c.self.inside.slots c.take_cut-subpage.new.slots;
    }

follows : (c : goal.After-give) → Follows c.self.inside (after c)
    (given_back (span_of c.self.inside.map.page c.into_run.result) c.self.inside.map.runs)
    (slice_set c.self.inside.slots.items c.args.page PageUse.Nothing)
follows c =
    let s = c.self.inside in
    record {
      map_is = c.give.ensures.back;
      classes = refl;
      bytes = refl;
      slots_are =
          written s.slots c.deref_mut.result.now c.take_cut-subpage.new.slots c.args.page PageUse.Nothing
          c.deref_mut.ensures.value c.take_cut-subpage.ensures.slots;
    }

pub invariant_of-self : goal.invariant_of-self
invariant_of-self c =
    let s = c.self.inside in
    let i = subst (λ (v : ChunkState). HasIdleSubpage v c.args.page) (sym c.self.view_is) c.requires in
    given-held s c.self.invariant c.args.page i.subpage.pages (Sub i.subpage.class i.subpage.elements) c.into_run.result
    (cut-begins s c.self.invariant c.args.page i.subpage) (at c.before i)
    (after c) (follows c)

pub returns : goal.returns
returns c =
    let s = c.self.inside in
    let i = subst (λ (v : ChunkState). HasIdleSubpage v c.args.page) (sym c.self.view_is) c.requires in
    rw (← c.self.view_is) (given-state s c.self.invariant c.args.page i.subpage.pages
    (Sub i.subpage.class i.subpage.elements) c.into_run.result (cut-begins s c.self.invariant c.args.page i.subpage)
    (at c.before i)
    (after c) (follows c))
