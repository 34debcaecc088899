use Rattle.std.proofs.Common.{◌≡◌, ℕ, ◌<◌, true, List, length, get_or, refl, sym, ap, ap₂, ◌∙◌, subst, arith}
use Rattle.std.specs.Prelude.{slice_set}
use Rattle.std.specs.Vec.{with_items}
use Rattle.ground.specs.Ground.{Segment}
use Rattle.size_classes.specs.Sizes.{Geometry, IsPageClass, of_pages, is_small, subpage_pages}
use Rattle.size_classes.specs.Pages.{Free, free_runs, chosen}
use Rattle.size_classes.specs.Spans.{taken_from}
use Rattle.size_classes.proofs.Powers.{size_at-least}
use Rattle.size_classes.proofs.Subpages.{subpage_pages_within}
use Rattle.run_map.specs.FreeRuns.{FreeRuns, IsTaken}
use Rattle.pool_chunk.specs.declared.slot.PageUse.{PageUse}
use Rattle.pool_chunk.specs.declared.slot.CutRun.{CutRun}
use Rattle.pool_chunk.specs.declared.chunk.Chunk.TheInside.{Inside}
use Rattle.pool_chunk.specs.ChunkStates.{ChunkState}
use Rattle.pool_chunk.specs.Outcomes.{new_subpage}
use Rattle.pool_chunk.specs.Held.{runs_in, state_in}
use Rattle.pool_chunk.proofs.ChunkLaws.{new-fits}
use Rattle.pool_chunk.proofs.SlotLaws.{slot-within, slot-nothing, written}
use Rattle.pool_chunk.proofs.HeldLaws.{Follows, chosen-same, taken-chosen, taken-begins, taken-held, taken-state}
use Rattle.pool_chunk.proofs.NewSubpages.{new-whole, new-few, new-entry, new-placed}
use Rattle.pool_chunk.proofs.chunk.Chunk.take_subpage.Goals as goal

-- the class is small, by the fields of the chunk
small : (s : Inside) (v : ChunkState) (class : ℕ) → state_in s ≡ v → is_small v.geometry class ≡ true
    → is_small s.classes class ≡ true
small s v class same is = subst (λ (x : ChunkState). is_small x.geometry class ≡ true) (sym same) is

-- what is taken are the pages of its subpages
its : (s : Inside) (m : FreeRuns) (class pages page : ℕ) (piece : Segment) → pages ≡ subpage_pages s.classes class
    → IsTaken s.map m pages piece page
    → IsTaken s.map m (subpage_pages s.classes class) piece page
its s m class pages page piece same taken = subst (λ (p : ℕ). IsTaken s.map m p piece page) same taken

pub take-requires : goal.take-requires
take-requires c =
    let s = c.self.inside in
    let G : Geometry → Type 0 = λ g. IsPageClass g c.subpage_pages-pages.result in
    subst G (ap₂ of_pages (sym c.self.invariant.same) (sym c.self.invariant.page))
    c.subpage_pages-pages.ensures.page_class

pub of-subpage-requires-clause-size : goal.of-subpage-requires-clause-size
of-subpage-requires-clause-size c = omega (arith, c.size_of-size.ensures.value, size_at-least c.args.class)

pub of-subpage-requires-clause-whole : goal.of-subpage-requires-clause-whole
of-subpage-requires-clause-whole c =
    let s = c.self.inside in
    let taken = its s c.take.new.self c.args.class c.subpage_pages-pages.result c.in-Some.page c.in-Some.piece
    c.subpage_pages-pages.ensures.pages (c.in-Some.ensures {u = tt}).some in
    new-whole s c.self.invariant c.args.class (small s c.args.self.now c.args.class c.self.view_is c.requires.1)
    c.take.new.self c.in-Some.page c.in-Some.piece taken
    c.size_of-size.result c.size_of-size.ensures.value

pub of-subpage-requires-clause-few : goal.of-subpage-requires-clause-few
of-subpage-requires-clause-few c =
    let s = c.self.inside in
    let taken = its s c.take.new.self c.args.class c.subpage_pages-pages.result c.in-Some.page c.in-Some.piece
    c.subpage_pages-pages.ensures.pages (c.in-Some.ensures {u = tt}).some in
    new-few s c.self.invariant c.args.class (small s c.args.self.now c.args.class c.self.view_is c.requires.1)
    c.take.new.self c.in-Some.page c.in-Some.piece taken
    c.size_of-size.result c.size_of-size.ensures.value

pub fill-requires-clause-within : goal.fill-requires-clause-within
fill-requires-clause-within c =
    let s = c.self.inside in
    let taken = (c.in-Some.ensures {u = tt}).some in
    let begins = taken-begins s c.self.invariant c.take.new.self c.subpage_pages-pages.result c.in-Some.page
    c.in-Some.piece taken in
    subst (λ (slots : List PageUse). c.in-Some.page < length slots) (sym c.deref_mut.ensures.value)
    (slot-within s.classes s.map.runs s.slots.items (runs_in s) c.self.invariant.runs c.in-Some.page (Free taken.long)
    begins.0)

pub fill-requires-clause-nothing : goal.fill-requires-clause-nothing
fill-requires-clause-nothing c =
    let s = c.self.inside in
    let taken = (c.in-Some.ensures {u = tt}).some in
    let begins = taken-begins s c.self.invariant c.take.new.self c.subpage_pages-pages.result c.in-Some.page
    c.in-Some.piece taken in
    subst (λ (slots : List PageUse). (d : PageUse) → get_or slots c.in-Some.page d ≡ PageUse.Nothing)
    (sym c.deref_mut.ensures.value)
    (slot-nothing s.classes s.map.runs s.slots.items (runs_in s) c.self.invariant.runs c.in-Some.page taken.long
    begins.0)

abbrev run : goal.After-self-1 → CutRun
run c = record { class = c.args.class; pages = c.subpage_pages-pages.result; subpage = c.of-subpage.result }

abbrev after : goal.After-self-1 → Inside
after c =
    record {
      map = c.take.new.self;
      classes = c.self.inside.classes;
      bytes = c.self.inside.bytes;
      slots =
          with_items c.self.inside.slots c.fill.new.slots;
    }

follows : (c : goal.After-self-1) → Follows c.self.inside (after c)
    (taken_from c.in-Some.page (subpage_pages c.self.inside.classes c.args.class) c.self.inside.map.runs)
    (slice_set c.self.inside.slots.items c.in-Some.page (PageUse.Cut (run c)))
follows c =
    let s = c.self.inside in
    record {
      map_is =
          (its s c.take.new.self c.args.class c.subpage_pages-pages.result c.in-Some.page c.in-Some.piece
          c.subpage_pages-pages.ensures.pages (c.in-Some.ensures {u = tt}).some).rest;
      classes = refl;
      bytes = refl;
      slots_are =
          written s.slots c.deref_mut.result.now c.fill.new.slots c.in-Some.page (PageUse.Cut (run c))
          c.deref_mut.ensures.value c.fill.ensures;
    }

pub invariant_of-self-in-Some : goal.invariant_of-self-in-Some
invariant_of-self-in-Some c =
    let s = c.self.inside in
    let class = c.args.class in
    let is_small = small s c.args.self.now class c.self.view_is c.requires.1 in
    let taken = its s c.take.new.self class c.subpage_pages-pages.result c.in-Some.page c.in-Some.piece
    c.subpage_pages-pages.ensures.pages (c.in-Some.ensures {u = tt}).some in
    taken-held s c.self.invariant c.take.new.self (subpage_pages s.classes class) c.in-Some.page c.in-Some.piece taken
    (after c) (new_subpage s.classes class) (PageUse.Cut (run c))
    (subpage_pages_within s.classes c.self.invariant.sizes.page class is_small).0
    (new-entry s c.self.invariant class is_small c.take.new.self c.in-Some.page c.in-Some.piece taken
    c.size_of-size.result c.size_of-size.ensures.value (run c) refl c.subpage_pages-pages.ensures.pages
    c.of-subpage.ensures)
    (new-fits s.classes class is_small) (follows c)
    (new-placed s c.self.invariant class is_small c.take.new.self c.in-Some.page c.in-Some.piece taken
    c.size_of-size.result c.size_of-size.ensures.value (run c) refl c.subpage_pages-pages.ensures.pages
    c.of-subpage.ensures)

pub returns-in-None-clause-none : goal.returns-in-None-clause-none
returns-in-None-clause-none c =
    let s = c.self.inside in
    let none = (c.in-None.ensures {u = tt}).none in
    rw (← c.self.view_is) (
      ap (λ (m : FreeRuns). state_in (record s { map = m })) none.0,
      ap (λ (n : ℕ). chosen s.classes n (free_runs 0 (runs_in s))) (sym c.subpage_pages-pages.ensures.pages)
          ∙ chosen-same s c.subpage_pages-pages.result c.self.invariant ∙ none.1,
    )

pub returns-in-Some-clause-some : goal.returns-in-Some-clause-some
returns-in-Some-clause-some c =
    let s = c.self.inside in
    let class = c.args.class in
    let is_small = small s c.args.self.now class c.self.view_is c.requires.1 in
    let taken = its s c.take.new.self class c.subpage_pages-pages.result c.in-Some.page c.in-Some.piece
    c.subpage_pages-pages.ensures.pages (c.in-Some.ensures {u = tt}).some in
    rw (← c.self.view_is) (record {
      long = taken.long;
      run =
          taken-chosen s c.self.invariant c.take.new.self (subpage_pages s.classes class) c.in-Some.page c.in-Some.piece
          taken;
      rest =
          taken-state s c.self.invariant c.take.new.self (subpage_pages s.classes class) c.in-Some.page c.in-Some.piece
          taken (after c) (new_subpage s.classes class) (PageUse.Cut (run c))
          (subpage_pages_within s.classes c.self.invariant.sizes.page class is_small).0
          (new-entry s c.self.invariant class is_small c.take.new.self c.in-Some.page c.in-Some.piece taken
          c.size_of-size.result c.size_of-size.ensures.value (run c) refl c.subpage_pages-pages.ensures.pages
          c.of-subpage.ensures)
          (new-fits s.classes class is_small) (follows c);
    })
