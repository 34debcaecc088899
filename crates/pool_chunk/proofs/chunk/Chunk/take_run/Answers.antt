use Rattle.std.proofs.Common.{◌≡◌, ◌<◌, ℕ, List, length, get_or, refl, sym, ap, ap₂, ◌∙◌, subst}
use Rattle.std.specs.Vec.{with_items}
use Rattle.std.specs.Prelude.{slice_set}
use Rattle.size_classes.specs.Sizes.{Geometry, IsPageClass, of_pages}
use Rattle.size_classes.proofs.PageClasses.{page_class-within}
use Rattle.size_classes.specs.Pages.{Free}
use Rattle.size_classes.specs.Spans.{taken_from}
use Rattle.pool_law.specs.Chunks.{Whole}
use Rattle.run_map.specs.FreeRuns.{FreeRuns}
use Rattle.pool_chunk.specs.declared.slot.PageUse.{PageUse}
use Rattle.pool_chunk.specs.declared.chunk.Chunk.TheInside.{Inside}
use Rattle.pool_chunk.specs.Held.{IsHeld, runs_in, state_in}
use Rattle.pool_chunk.specs.ChunkStates.{ChunkState}
use Rattle.pool_chunk.proofs.SlotLaws.{slot-within, slot-nothing, written}
use Rattle.pool_chunk.proofs.HeldLaws.{Follows, chosen-same, bytes-at, taken-chosen, taken-begins, taken-few, taken-held, taken-state}
use Rattle.pool_chunk.proofs.chunk.Chunk.take_run.Goals as goal

-- a page class has a page
some : (s : Inside) (v : ChunkState) (pages : ℕ) → IsHeld s → state_in s ≡ v → IsPageClass v.geometry pages → 0 < pages
some s v pages is same class =
    let G : ChunkState → Type 0 = λ x. IsPageClass x.geometry pages in
    (page_class-within s.classes is.sizes pages (subst G (sym same) class)).0

pub take-requires : goal.take-requires
take-requires c =
    let G : ChunkState → Type 0 = λ x. IsPageClass x.geometry c.args.pages in
    let P : Geometry → Type 0 = λ g. IsPageClass g c.args.pages in
    subst P (ap₂ of_pages (sym c.self.invariant.same) (sym c.self.invariant.page))
    (subst G (sym c.self.view_is) c.requires)

pub fill-requires-clause-within : goal.fill-requires-clause-within
fill-requires-clause-within c =
    let s = c.self.inside in
    let taken = (c.in-Some.ensures {u = tt}).some in
    let begins = taken-begins s c.self.invariant c.take.new.self c.args.pages c.in-Some.page c.in-Some.piece taken in
    subst (λ (slots : List PageUse). c.in-Some.page < length slots) (sym c.deref_mut.ensures.value)
    (slot-within s.classes s.map.runs s.slots.items (runs_in s) c.self.invariant.runs c.in-Some.page (Free taken.long)
    begins.0)

pub fill-requires-clause-nothing : goal.fill-requires-clause-nothing
fill-requires-clause-nothing c =
    let s = c.self.inside in
    let taken = (c.in-Some.ensures {u = tt}).some in
    let begins = taken-begins s c.self.invariant c.take.new.self c.args.pages c.in-Some.page c.in-Some.piece taken in
    subst (λ (slots : List PageUse). (d : PageUse) → get_or slots c.in-Some.page d ≡ PageUse.Nothing)
    (sym c.deref_mut.ensures.value)
    (slot-nothing s.classes s.map.runs s.slots.items (runs_in s) c.self.invariant.runs c.in-Some.page taken.long
    begins.0)

pub place_pack-requires : goal.place_pack-requires
place_pack-requires c =
    taken-few c.self.inside c.self.invariant c.take.new.self c.args.pages c.in-Some.page c.in-Some.piece
    (c.in-Some.ensures {u = tt}).some

abbrev after : goal.After-place_pack → Inside
after c =
    record {
      map = c.take.new.self;
      classes = c.self.inside.classes;
      bytes = c.self.inside.bytes;
      slots =
          with_items c.self.inside.slots c.fill.new.slots;
    }

follows : (c : goal.After-place_pack) → Follows c.self.inside (after c)
    (taken_from c.in-Some.page c.args.pages c.self.inside.map.runs)
    (slice_set c.self.inside.slots.items c.in-Some.page (PageUse.Run c.args.pages))
follows c =
    let s = c.self.inside in
    record {
      map_is = (c.in-Some.ensures {u = tt}).some.rest;
      classes = refl;
      bytes = refl;
      slots_are =
          written s.slots c.deref_mut.result.now c.fill.new.slots c.in-Some.page (PageUse.Run c.args.pages)
          c.deref_mut.ensures.value c.fill.ensures;
    }

pub invariant_of-self-in-Some : goal.invariant_of-self-in-Some
invariant_of-self-in-Some c =
    taken-held c.self.inside c.self.invariant c.take.new.self c.args.pages c.in-Some.page c.in-Some.piece
    (c.in-Some.ensures {u = tt}).some
    (after c) Whole (PageUse.Run c.args.pages)
    (some c.self.inside c.args.self.now c.args.pages c.self.invariant c.self.view_is c.requires) refl tt (follows c)
    tt

pub returns-in-None-clause-none : goal.returns-in-None-clause-none
returns-in-None-clause-none c =
    let s = c.self.inside in
    let none = (c.in-None.ensures {u = tt}).none in
    rw (← c.self.view_is) (
      ap (λ (m : FreeRuns). state_in (record s { map = m })) none.0,
      chosen-same s c.args.pages
          c.self.invariant ∙ none.1,
    )

pub returns-in-Some-clause-some : goal.returns-in-Some-clause-some
returns-in-Some-clause-some c =
    let s = c.self.inside in
    let is = c.self.invariant in
    let taken = (c.in-Some.ensures {u = tt}).some in
    rw (← c.self.view_is) (record {
      page = c.in-Some.page;
      long = taken.long;
      run = taken-chosen s is c.take.new.self c.args.pages c.in-Some.page c.in-Some.piece taken;
      piece = bytes-at s is c.in-Some.page c.args.pages c.in-Some.piece taken.piece;
      place = c.place_pack.ensures;
      rest =
          taken-state s is c.take.new.self c.args.pages c.in-Some.page c.in-Some.piece taken (after c) Whole
          (PageUse.Run c.args.pages) (some c.self.inside c.args.self.now c.args.pages c.self.invariant c.self.view_is
          c.requires) refl tt (follows c);
    })
