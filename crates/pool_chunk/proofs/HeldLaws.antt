-- A chunk after one of its calls: it holds the runs that the call makes.
use Rattle.std.proofs.Common.{◌≡◌, ℕ, ◌*◌, ◌/◌, ◌%◌, ◌^◌, ◌<◌, ◌≤◌, List, length, replicate, Some, None, refl, sym, ap, ap₂, ◌∙◌, subst, arith, lit<, zero-add}
use Rattle.std.specs.Prelude.{map, slice_set}
use Rattle.std.proofs.Math.Nat.{pow-le-pow_right, mul-div_cancel, mul-mod_left, mul_comm}
use Rattle.std.proofs.lemmas.List.{append-nil}
use lib.Pow.{pow_pos}
use Rattle.ground.specs.Ground.{Segment}
use Rattle.size_classes.specs.Sizes.{Geometry, IsGeometry, IsPage, of_pages, page_of, chunk_bytes}
use Rattle.size_classes.proofs.SmallClasses.{page-some}
use Rattle.size_classes.specs.Pages.{Run, Free, Used, Span, pages_in, run_at, free_runs, chosen, taken_at, given_at}
use Rattle.size_classes.specs.Spans.{taken_from, given_back, IsOut}
use Rattle.size_classes.specs.Runs.{Begins}
use Rattle.size_classes.proofs.Runs.{Begins-inside, Begins-run_at}
use Rattle.run_map.specs.FreeRuns.{FreeRuns, geometry_in, IsRunOf, IsTaken, span_of, IsPages}
use Rattle.run_map.specs.FreeRuns.{with_runs as with_spans, all_free as all_spans, IsPagesGround}
use Rattle.pool_law.specs.Chunks.{Chunk, Use, new_chunk}
use Rattle.pool_chunk.specs.declared.slot.PageUse.{PageUse}
use Rattle.pool_chunk.specs.PlaceWords.{AreFields}
use Rattle.pool_chunk.specs.declared.chunk.Chunk.TheInside.{Inside}
use Rattle.pool_chunk.specs.ChunkStates.{ChunkState, with_runs, geometry_on, all_free, IsChunkGround, IsBytesAt, page_start}
use Rattle.pool_chunk.specs.Slots.{PageEntry, entry_of, AreOf, IsPlaced, ArePlaced}
use Rattle.pool_chunk.specs.Held.{entries_in, runs_in, state_in, IsHeld}
use Rattle.pool_chunk.proofs.ChunkLaws.{Fits, run-some}
use Rattle.pool_chunk.proofs.Steps.{the-runs, of-runs, taken-of, given-of, run-out, chosen-begins}
use Rattle.pool_chunk.proofs.SlotLaws.{entries-set, placed-set, entries-nothing, placed-nothing}

-- the second has other free runs and other slots than the first
pub record Follows (c d : Inside) (spans : List Span) (slots : List PageUse) : Type 0 where
  pub map_is : d.map ≡ with_spans c.map spans
  pub classes : d.classes ≡ c.classes
  pub bytes : d.bytes ≡ c.bytes
  pub slots_are : d.slots.items ≡ slots

module _ (c d : Inside) (spans : List Span) (slots : List PageUse) (runs : Chunk) (follows : Follows c d spans slots)
    (of : AreOf c.classes spans (map entry_of slots) runs) where
  are : AreOf d.classes d.map.runs (entries_in d) runs
  are =
      let free : d.map.runs ≡ spans = ap (λ (m : FreeRuns). m.runs) follows.map_is in
      let es : entries_in d ≡ map entry_of slots = ap (map entry_of) follows.slots_are in
      subst (λ (g : Geometry). AreOf g d.map.runs (entries_in d) runs) (sym follows.classes)
      (record { free = of.free ∙ sym free; entries = of.entries ∙ sym es; chunk = of.chunk })

  -- it is seen as these runs
  pub state-after : state_in d ≡ with_runs (state_in c) runs
  state-after =
      let origin = ap (λ (m : FreeRuns). m.origin) follows.map_is in
      ap₂ (λ (m : FreeRuns) (g : Geometry). record { origin = m.origin; geometry = g; runs = runs_in d }) follows.map_is
      follows.classes
      ∙ ap (λ (rs : Chunk). with_runs (state_in c) rs) (the-runs d.classes d.map.runs (entries_in d) runs are)

  -- and holds them
  pub held-after : IsHeld c → ArePlaced c.map.origin (page_of c.classes) 0 slots → IsHeld d
  held-after is placed =
      let order : d.classes.order ≡ c.classes.order = ap (λ (g : Geometry). g.order) follows.classes in
      record {
        sizes = subst IsGeometry (sym follows.classes) is.sizes;
        same = ap (λ (m : FreeRuns). m.order) follows.map_is ∙ is.same ∙ sym order;
        page =
            ap (λ (m : FreeRuns). m.page) follows.map_is ∙ is.page
            ∙ ap (λ (g : Geometry). g.page) (sym follows.classes);
        bytes = follows.bytes ∙ is.bytes ∙ ap chunk_bytes (sym follows.classes);
        runs = of-runs d.classes d.map.runs (entries_in d) runs are;
        placed =
            subst (λ (g : Geometry). ArePlaced d.map.origin (page_of g) 0 d.slots.items) (sym follows.classes)
            (subst (λ (ss : List PageUse). ArePlaced d.map.origin (page_of c.classes) 0 ss) (sym follows.slots_are)
            (subst (λ (m : FreeRuns). ArePlaced m.origin (page_of c.classes) 0 slots) (sym follows.map_is) placed));
      }

-- the run that the map chooses is the run that the law chooses
pub chosen-same : (c : Inside) (pages : ℕ) → IsHeld c
    → chosen c.classes pages (free_runs 0 (runs_in c)) ≡ chosen (geometry_in c.map) pages c.map.runs
chosen-same c pages is =
    ap₂ (λ (o p : ℕ). chosen (of_pages o p) pages (free_runs 0 (runs_in c))) (sym is.same) (sym is.page)
    ∙ ap (λ (ss : List Span). chosen (geometry_in c.map) pages ss) is.runs.free

-- pages of the map are pages of the chunk
pub bytes-at : (c : Inside) → IsHeld c → (page pages : ℕ) (s : Segment) → IsRunOf c.map page pages s
    → IsBytesAt (state_in c) (page_start (state_in c) page) (page_start (state_in c) pages) s
bytes-at c is page pages s run =
    record {
      origin = run.origin;
      start = run.start ∙ ap (λ (k : ℕ). page * k) is.page ∙ mul_comm page (page_of c.classes);
      size = run.size ∙ ap (λ (k : ℕ). pages * k) is.page ∙ mul_comm pages (page_of c.classes);
    }

module _ (c : Inside) (is : IsHeld c) (m : FreeRuns) (pages page : ℕ) (piece : Segment)
    (taken : IsTaken c.map m pages piece page) where
  -- the law chooses it too
  pub taken-chosen : chosen c.classes pages (free_runs 0 (runs_in c)) ≡ Some (page, taken.long)
  taken-chosen = chosen-same c pages is ∙ taken.run

  -- it is free, and holds the pages
  pub taken-begins : Begins page (Free taken.long) (runs_in c) × (pages ≤ taken.long)
  taken-begins = chosen-begins c.classes pages page taken.long (runs_in c) taken-chosen

  -- the pages of the chunk are few
  pub taken-few : (page < 2 ^ 15) × (pages < 2 ^ 15)
  taken-few =
      let few : 2 ^ c.classes.order ≤ 2048 = pow-le-pow_right {n = 2} (lit< tt) {i = c.classes.order} {j = 11}
      is.sizes.most in
      let inside = Begins-inside (runs_in c) page (Free taken.long) taken-begins.0 in (
        omega (
          arith,
          few,
          inside,
          is.runs.chunk.covers,
          taken-begins.1,
          run-some (runs_in c) page (Free taken.long)
              is.runs.chunk.none_empty taken-begins.0,
        ),
        omega (arith, few, inside, is.runs.chunk.covers, taken-begins.1),
      )

  module _ (d : Inside) (what : Use) (slot : PageUse) (some : 0 < pages) (entry : entry_of slot ≡ Some (pages, what))
      (fits : Fits c.classes (Used pages what))
      (follows : Follows c d (taken_from page pages c.map.runs) (slice_set c.slots.items page slot)) where
    of : AreOf c.classes (taken_from page pages c.map.runs) (map entry_of (slice_set c.slots.items page slot))
        (taken_at page pages what (runs_in c))
    of =
        subst (λ (es : List PageEntry). AreOf c.classes (taken_from page pages c.map.runs) es
        (taken_at page pages what (runs_in c)))
        (sym (entries-set c.slots.items page slot (Some (pages, what)) entry))
        (taken-of c.classes c.map.runs (entries_in c) (runs_in c) page is.runs taken.long pages what taken-begins.0 some
        taken-begins.1 fits)

    -- the chunk is seen with its front taken, and holds it
    pub taken-state : state_in d ≡ with_runs (state_in c) (taken_at page pages what (runs_in c))
    taken-state =
        state-after c d (taken_from page pages c.map.runs) (slice_set c.slots.items page slot)
        (taken_at page pages what (runs_in c)) follows of

    pub taken-held : IsPlaced c.map.origin (page_of c.classes) page slot → IsHeld d
    taken-held placed =
        held-after c d (taken_from page pages c.map.runs) (slice_set c.slots.items page slot)
        (taken_at page pages what (runs_in c)) follows of is
        (placed-set c.map.origin (page_of c.classes) 0 page c.slots.items slot is.placed
        (subst (λ (i : ℕ). IsPlaced c.map.origin (page_of c.classes) i slot) (sym (zero-add page)) placed))

-- ---- giving back

module _ (c : Inside) (is : IsHeld c) (page pages : ℕ) (what : Use) (piece : Segment)
    (begins : Begins page (Used pages what) (runs_in c))
    (at : IsBytesAt (state_in c) (page_start (state_in c) page) (page_start (state_in c) pages) piece) where
  -- the bytes of a run are whole pages of the map
  pub given-span : span_of c.map.page piece ≡ (page, pages)
  given-span =
      let some = page-some c.classes is.sizes.page in
      let first : piece.start / c.map.page ≡ page =
      ap₂ (λ (n k : ℕ). n / k) (at.start ∙ mul_comm (page_of c.classes) page) is.page ∙ mul-div_cancel page some in
      let long : length piece.bytes / c.map.page ≡ pages =
      ap₂ (λ (n k : ℕ). n / k) (at.size ∙ mul_comm (page_of c.classes) pages) is.page ∙ mul-div_cancel pages some in
      ap₂ (λ (a b : ℕ). (a, b)) first long

  pub given-pages : IsPages c.map piece
  given-pages =
      record {
        origin = at.origin;
        start =
            ap₂ (λ (n k : ℕ). n % k) (at.start ∙ mul_comm (page_of c.classes) page) is.page
            ∙ mul-mod_left page (page_of c.classes);
        size =
            ap₂ (λ (n k : ℕ). n % k) (at.size ∙ mul_comm (page_of c.classes) pages) is.page
            ∙ mul-mod_left pages (page_of c.classes);
      }

  -- and apart from those of the free runs
  pub given-out : IsOut (2 ^ c.map.order) c.map.runs (span_of c.map.page piece)
  given-out =
      subst (λ (x : Span). IsOut (2 ^ c.map.order) c.map.runs x) (sym given-span)
      (subst (λ (o : ℕ). IsOut (2 ^ o) c.map.runs (page, pages)) (sym is.same)
      (run-out c.classes c.map.runs (entries_in c) (runs_in c) page is.runs pages what begins))

  module _ (d : Inside) (follows : Follows c d (given_back (span_of c.map.page piece) c.map.runs)
      (slice_set c.slots.items page PageUse.Nothing)) where
    given : AreOf c.classes (given_back (span_of c.map.page piece) c.map.runs)
        (map entry_of (slice_set c.slots.items page PageUse.Nothing)) (given_at page (runs_in c))
    given =
        subst (λ (x : Span). AreOf c.classes (given_back x c.map.runs)
        (map entry_of (slice_set c.slots.items page PageUse.Nothing)) (given_at page (runs_in c))) (sym given-span)
        (subst (λ (es : List PageEntry). AreOf c.classes (given_back (page, pages) c.map.runs) es
        (given_at page (runs_in c)))
        (sym (entries-set c.slots.items page PageUse.Nothing None refl))
        (given-of c.classes c.map.runs (entries_in c) (runs_in c) page is.runs pages what begins))

    -- the chunk is seen with the run given back, and holds it
    pub given-state : state_in d ≡ with_runs (state_in c) (given_at page (runs_in c))
    given-state =
        state-after c d (given_back (span_of c.map.page piece) c.map.runs) (slice_set c.slots.items page
        PageUse.Nothing)
        (given_at page (runs_in c)) follows given

    pub given-held : IsHeld d
    given-held =
        held-after c d (given_back (span_of c.map.page piece) c.map.runs) (slice_set c.slots.items page PageUse.Nothing)
        (given_at page (runs_in c)) follows given is
        (placed-set c.map.origin (page_of c.classes) 0 page c.slots.items PageUse.Nothing is.placed tt)

-- ---- the fields of a word

-- a run of the chunk has room in a word
pub run-fields : (c : Inside) → IsHeld c → (page : ℕ) (r : Run Use) (index : ℕ) → Begins page r (runs_in c)
    → index < 2 ^ 32 → AreFields page (pages_in r) index
run-fields c is page r index b small =
    let few : 2 ^ c.classes.order ≤ 2048 = pow-le-pow_right {n = 2} (lit< tt) {i = c.classes.order} {j = 11}
    is.sizes.most in
    let inside = Begins-inside (runs_in c) page r b in
    let some = run-some (runs_in c) page r is.runs.chunk.none_empty b in
    record {
      page_fits = omega (arith, few, inside, is.runs.chunk.covers, some);
      pages_fit = omega (arith, few, inside, is.runs.chunk.covers);
      index_fits = small;
    }

-- so have the fields of a place
pub place-fields : (c : Inside) → IsHeld c → (v : ChunkState) → state_in c ≡ v → (page : ℕ) (r : Run Use) (index : ℕ)
    → run_at page v.runs ≡ Some r
    → index < 2 ^ 32 → AreFields page (pages_in r) index
place-fields c is v same page r index at small =
    run-fields c is page r index (Begins-run_at (runs_in c) page r
    (subst (λ (x : ChunkState). run_at page x.runs ≡ Some r) (sym same) at)) small

-- ---- a new chunk

module _ (d : Inside) (order : ℕ) (piece : Segment) (sizes : IsGeometry (geometry_on order piece))
    (stands : IsChunkGround (geometry_on order piece) piece)
    (map_is : d.map ≡ all_spans order piece) (classes : d.classes ≡ geometry_on order piece)
    (bytes : d.bytes ≡ length piece.bytes)
    (slots : d.slots.items ≡ replicate (2 ^ order) PageUse.Nothing) where
  new-runs : AreOf d.classes d.map.runs (entries_in d) (new_chunk (geometry_on order piece))
  new-runs =
      let some : 0 < 2 ^ order = pow_pos order in
      subst (λ (g : Geometry). AreOf g d.map.runs (entries_in d) (new_chunk (geometry_on order piece))) (sym classes)
      (record {
        free = sym (ap (λ (m : FreeRuns). m.runs) map_is);
        entries = append-nil (replicate (2 ^ order) None) ∙ sym (ap (map entry_of) slots ∙ entries-nothing (2 ^ order));
        chunk = record { covers = omega arith; none_empty = (some, tt); none_side_by_side = (refl, tt); subpages = tt };
      })

  pub new-state : state_in d ≡ all_free (geometry_on order piece) piece
  new-state =
      ap₂ (λ (m : FreeRuns) (g : Geometry). record { origin = m.origin; geometry = g; runs = runs_in d }) map_is classes
      ∙ ap (λ (rs : Chunk). record { origin = piece.origin; geometry = geometry_on order piece; runs = rs })
      (the-runs d.classes d.map.runs (entries_in d) (new_chunk (geometry_on order piece)) new-runs)

  pub new-held : IsHeld d
  new-held =
      let page : piece.origin.size / 2 ^ order ≡ length piece.bytes / 2 ^ order =
      ap (λ (k : ℕ). k / 2 ^ order) (sym stands.0.1) in
      record {
        sizes = subst IsGeometry (sym classes) sizes;
        same = ap (λ (m : FreeRuns). m.order) map_is ∙ sym (ap (λ (g : Geometry). g.order) classes);
        page = ap (λ (m : FreeRuns). m.page) map_is ∙ page ∙ ap (λ (g : Geometry). g.page) (sym classes);
        bytes = bytes ∙ stands.1 ∙ ap chunk_bytes (sym classes);
        runs = of-runs d.classes d.map.runs (entries_in d) (new_chunk (geometry_on order piece)) new-runs;
        placed =
            subst (λ (ss : List PageUse). ArePlaced d.map.origin (page_of d.classes) 0 ss) (sym slots)
            (placed-nothing d.map.origin (page_of d.classes) 0 (2 ^ order));
      }

-- a ground of the bytes of a chunk is whole pages
pub ground-pages : (order : ℕ) (piece : Segment) → IsGeometry (geometry_on order piece)
    → IsChunkGround (geometry_on order piece) piece → IsPagesGround order piece
ground-pages order piece sizes stands =
    let page : ℕ = length piece.bytes / 2 ^ order in
    let size : piece.origin.size ≡ page * 2 ^ order = sym stands.0.1 ∙ stands.1 in
    record {
      whole = stands.0;
      pages = ap (λ (k : ℕ). k % 2 ^ order) size ∙ mul-mod_left page (2 ^ order);
      page = subst IsPage (ap (λ (k : ℕ). k / 2 ^ order) stands.0.1) sizes.page;
    }
