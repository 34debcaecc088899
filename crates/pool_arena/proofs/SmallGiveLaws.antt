-- An element that comes back to an arena: which it is, and what becomes of its subpage.
use Rattle.std.proofs.Common.{◌≡◌, ℕ, ◌+◌, ◌-◌, ◌*◌, ◌/◌, ◌<◌, ◌≤◌, List, [], length, refl, sym, ap, ◌∙◌, subst, Bool, true, false, Some, arith, inl, inr}
use Rattle.std.specs.Prelude.{◌⊎◌, Option, unwrap_or, if◌then◌else◌}
use Rattle.ground.specs.Ground.{Segment}
use Rattle.size_classes.specs.Sizes.{Geometry, page_of, chunk_pages, class_count, is_small, size_at}
use Rattle.size_classes.specs.Pages.{Run, Used, run_at, run_start, pages_in, total_pages, NoneEmpty}
use Rattle.size_classes.specs.Runs.{Begins}
use Rattle.size_classes.specs.Elements.{Elements, is_full, is_idle, with_back}
use Rattle.size_classes.proofs.Runs.{run_at-Begins, Begins-inside, run_start-Begins}
use Rattle.size_classes.proofs.Geometries.{page_shift-is}
use Rattle.size_classes.proofs.SmallClasses.{small_below, page-some}
use Rattle.pool_law.specs.declared.id.RegionId.{RegionId}
use Rattle.pool_law.specs.Chunks.{Use, Sub, IsChunk}
use Rattle.pool_law.specs.ChunkLists.{list_of}
use Rattle.pool_law.specs.Arenas.{Arena, chunk_at, elements_at, front_of, is_alone, run_given, idle_given, element_given, small_given, given_place}
use Rattle.pool_law.proofs.ListLemmas.{slice_get-below}
use Rattle.arena_laws.specs.Slots.{IsElement}
use Rattle.arena_laws.specs.Orderly.{IsOrderly, has_subpage, chunk_of}
use Rattle.arena_laws.proofs.SlotLemmas.{element-inside}
use Rattle.arena_laws.proofs.ChunkSteps.{size_at-pos}
use Rattle.arena_laws.proofs.ArenaSteps.{chunk_at-below}
use Rattle.arena_laws.proofs.ElementGives.{page-of, number-of, small_given-element}
use Rattle.arena_laws.proofs.OrderlyParts.{roomy-of, elements-found, begins-listed}
use Rattle.arena_laws.proofs.OrderlyGives.{back_in-here, back_in-orderly}
use Rattle.pool_chunk.specs.ChunkStates.{IsInUse}
use Rattle.pool_chunk.proofs.ChunkLaws.{subpage-fits, run-some}
use Rattle.pool_arena.specs.Places.{PlaceState, runs_of, state_of}
use Rattle.pool_arena.specs.Stocks.{StockState, arena_with, arena_in, Becomes, HasChunk, IsPlaceOut, IsElementOutOf, IsIdleAt, element_back, subpage_given}
use Rattle.pool_arena.proofs.WalkLaws.{there}
use Rattle.pool_arena.proofs.GiveLaws.{small-out}
use Rattle.pool_arena.proofs.RoomLaws.{AreWithin, within-of, room-for}

-- a small class is a class
pub small-class : (g : Geometry) (a : Arena) (class : ℕ) → IsOrderly g a → is_small g class ≡ true
    → class < class_count g
small-class g a class o small =
    omega (arith, small_below g (o.sound 0).page class small, o.order, (page_shift-is g.page (o.sound 0).page).least)

-- a run lies in the pages of its chunk
pub run-inside : (g : Geometry) (a : Arena) (c p : ℕ) (r : Run Use) → IsOrderly g a → Begins p r (chunk_at a c)
    → p < chunk_pages g
run-inside g a c p r o b =
    let some = run-some (chunk_at a c) p r (o.sound c).none_empty b in
    by (o.whole c) (Begins-inside (chunk_at a c) p r b) some
  where
    by : (chunk_at a c ≡ []) ⊎ (total_pages (chunk_at a c) ≡ chunk_pages g)
        → p + pages_in r ≤ total_pages (chunk_at a c) → 0 < pages_in r → p < chunk_pages g
    by (inl none) inside some =
        let empty : total_pages (chunk_at a c) ≡ 0 = ap total_pages none in absurd (omega (arith, inside, some, empty))
    by (inr whole) inside some = omega (arith, inside, some, whole)

-- the subpages of a class lie in the chunks
pub fronts-within : (g : Geometry) (a : Arena) (class : ℕ) → IsOrderly g a → is_small g class ≡ true
    → AreWithin (length a.chunks) (chunk_pages g) (front_of a class)
fronts-within g a class o small =
    within-of (length a.chunks) (chunk_pages g) (front_of a class)
    (λ c p there.
    let r = roomy-of a class c p ((o.in_list class c p small).0 there) in (
      chunk_at-below a c p (Used r.pages (Sub class r.elements)) r.begins,
      run-inside g a c p
          (Used r.pages (Sub class r.elements)) o r.begins,
    ))

-- a full subpage is not among them
pub full-absent : (g : Geometry) (a : Arena) (class c p : ℕ) (e : Elements) → IsOrderly g a → is_small g class ≡ true
    → elements_at a class c p ≡ Some e → is_full e ≡ true
    → has_subpage c p (front_of a class) ≡ false
full-absent g a class c p e o small here full = by (has_subpage c p (front_of a class)) refl
  where
    by : (b : Bool) → has_subpage c p (front_of a class) ≡ b → has_subpage c p (front_of a class) ≡ false
    by false is = is
    by true is =
        let r = (o.in_list class c p small).0 is in
        let same : ◌≡◌ {A = Option Elements} (Some r.elements) (Some e) = sym r.here ∙ here in
        let is_same : r.elements ≡ e = cc same in
        absurd (cc (r.room, ap is_full is_same, full))

module _ (v : StockState) (o : IsOrderly v.geometry (arena_in v)) (class c : ℕ) (piece : Segment)
    (asked : IsPlaceOut v class c piece) (small : is_small v.geometry class ≡ true) where
  abbrev pub it : IsElement v.geometry (chunk_at (arena_in v) c) asked.id
  it = small-out v class c piece asked small

  pub it-begins : Begins it.page (Used it.pages (Sub class it.elements)) (chunk_at (arena_in v) c)
  it-begins =
      subst (λ (k : ℕ). Begins it.page (Used it.pages (Sub k it.elements)) (chunk_at (arena_in v) c)) asked.class_is
      it.begins

  pub it-starts : piece.start ≡ page_of v.geometry * it.page + it.at * size_at class
  it-starts =
      sym asked.offset ∙ it.starts ∙ ap (λ (k : ℕ). page_of v.geometry * it.page + it.at * size_at k) asked.class_is

  it-lies : (it.page ≤ piece.start / page_of v.geometry) × (piece.start / page_of v.geometry < it.page + it.pages)
  it-lies =
      let inside = element-inside v.geometry (chunk_at (arena_in v) c) (o.sound c) asked.id it in
      let lies = page-of (page_of v.geometry) it.page it.pages (it.at * size_at class)
      (page-some v.geometry (o.sound c).page)
      (omega (
        arith,
        subst (λ (k : ℕ). it.at * size_at k + size_at k ≤ page_of v.geometry * it.pages) asked.class_is
            inside,
        size_at-pos class,
      )) in
      subst (λ (n : ℕ). (it.page ≤ n / page_of v.geometry) × (n / page_of v.geometry < it.page + it.pages))
      (sym it-starts) lies

  pub it-run : run_at it.page (chunk_at (arena_in v) c) ≡ Some (Used it.pages (Sub class it.elements))
  it-run =
      run_at-Begins (chunk_at (arena_in v) c) it.page (Used it.pages (Sub class it.elements)) (o.sound c).none_empty
      it-begins

  -- its page is in use
  pub it-in_use : (x : PlaceState) → chunk_at (arena_in v) c ≡ runs_of x
      → IsInUse (state_of x) (piece.start / page_of v.geometry)
  it-in_use x same =
      record {
        start = it.page;
        pages = it.pages;
        what = Sub class it.elements;
        run = ap (run_at it.page) (sym same) ∙ it-run;
        from = it-lies.0;
        within = it-lies.1;
      }

  -- the page and the number that are found
  pub it-page : run_start (piece.start / page_of v.geometry) (chunk_at (arena_in v) c) ≡ it.page
  it-page =
      run_start-Begins (chunk_at (arena_in v) c) it.page (piece.start / page_of v.geometry)
      (Used it.pages (Sub class it.elements)) it-begins it-lies.0 it-lies.1

  pub it-index : (piece.start - page_of v.geometry * it.page) / size_at class ≡ it.at
  it-index =
      ap (λ (n : ℕ). (n - page_of v.geometry * it.page) / size_at class) it-starts
      ∙ number-of (page_of v.geometry * it.page) it.at (size_at class) (size_at-pos class)

  pub it-here : elements_at (arena_in v) class c it.page ≡ Some it.elements
  it-here = elements-found (arena_in v) class c it.page it.pages it.elements (o.sound c).none_empty it-begins

  -- it is out
  abbrev pub it-out : IsChunk v.geometry (chunk_at (arena_in v) c) → IsElementOutOf v class c it.page it.at piece
  it-out whole =
      record {
        pages = it.pages;
        elements = it.elements;
        run = it-run;
        pages_are =
            (subpage-fits v.geometry (chunk_at (arena_in v) c) it.page it.pages class it.elements whole
            it-begins).whole;
        out = ap (λ (x : Option Bool). unwrap_or x false) it.out;
        piece_is =
            record {
              origin = asked.piece_is.origin;
              start = it-starts;
              size = asked.piece_is.size ∙ it.ends ∙ ap size_at asked.class_is;
            };
        room = λ full.
            room-for (length v.chunks) (chunk_pages v.geometry) (c, it.page) (front_of (arena_in v) class)
            (chunk_at-below (arena_in v) c it.page (Used it.pages (Sub class it.elements)) it-begins)
            (run-inside v.geometry (arena_in v) c it.page (Used it.pages (Sub class it.elements)) o it-begins)
            (fronts-within v.geometry (arena_in v) class o small) (o.once class)
            (full-absent v.geometry (arena_in v) class c it.page it.elements o small it-here full);
      }

  -- what is given back is this element
  by-element : (takings : ℕ) (out : List RegionId)
      → given_place v.geometry (arena_with v takings out) class c piece.start
      ≡ element_given v.geometry (arena_with v takings out) class c it.page it.at it.elements
  by-element takings out =
      let a : Arena = arena_with v takings out in
      let P : ℕ → ℕ → ℕ → Type 0 =
      λ k d n. (x : IsElement v.geometry (chunk_at a d) asked.id)
      → small_given v.geometry a k d n ≡ element_given v.geometry a k d x.page x.at x.elements in
      let base : P asked.id.class asked.id.place.chunk asked.id.place.offset =
      λ x. small_given-element v.geometry a o.sound o.whole asked.id x in
      let class_is : P class asked.id.place.chunk asked.id.place.offset =
      subst (λ (k : ℕ). P k asked.id.place.chunk asked.id.place.offset) asked.class_is base in
      let chunk_is : P class c asked.id.place.offset =
      subst (λ (d : ℕ). P class d asked.id.place.offset) asked.chunk_is class_is in
      let offset : P class c piece.start = subst (λ (n : ℕ). P class c n) asked.offset chunk_is in
      ap (λ (b : Bool). if b then small_given v.geometry a class c piece.start else run_given v.geometry a c
      (piece.start / page_of v.geometry)) small ∙ offset it

  module _ (mid : StockState) (back : Becomes v (element_back class c it.page it.at it.elements) mid) where
    mid-is : element_back class c it.page it.at it.elements (arena_in v) ≡ arena_in mid
    mid-is = back.law 0 []

    pub mid-orderly : IsOrderly v.geometry (arena_in mid)
    mid-orderly =
        subst (λ (a : Arena). IsOrderly v.geometry a) mid-is
        (back_in-orderly v.geometry (arena_in v) o class c it.page it.pages it.at it.elements small it-begins
        (slice_get-below it.elements.out it.at true it.out))

    mid-begins : Begins it.page (Used it.pages (Sub class (with_back it.elements it.at))) (chunk_at (arena_in mid) c)
    mid-begins =
        subst (λ (a : Arena). Begins it.page (Used it.pages (Sub class (with_back it.elements it.at))) (chunk_at a c))
        mid-is
        (back_in-here (arena_in v) class c it.page it.pages it.at it.elements (o.sound c).none_empty it-begins)

    pub mid-some : NoneEmpty (chunk_at (arena_in mid) c)
    mid-some = (mid-orderly.sound c).none_empty

    pub mid-idle : is_idle (with_back it.elements it.at) ≡ true → IsIdleAt mid class c it.page
    mid-idle idle =
        record {
          elements = with_back it.elements it.at;
          here =
              elements-found (arena_in mid) class c it.page it.pages (with_back it.elements it.at) mid-some mid-begins;
          idle = idle;
        }

    pub mid-there : HasChunk mid c
    mid-there =
        let name = there (list_of mid.lists c)
        (begins-listed (arena_in mid) c it.page (Used it.pages (Sub class (with_back it.elements it.at)))
        mid-orderly.listed mid-begins) in
        let runs = there (chunk_of (arena_in mid) c)
        (λ none. absurd (cc (sym name.1 ∙ (mid-orderly.listed c).1 none))) in
        record { runs = runs.0; name = name.0; there = runs.1; listed = name.1 }

    -- the subpage has others out
    pub not-idle : is_idle (with_back it.elements it.at) ≡ false
        → Becomes v (λ a. given_place v.geometry a class c piece.start) mid
    not-idle idle =
        record {
          law = λ takings out.
              by-element takings out
              ∙ ap (λ (b : Bool). if b then idle_given v.geometry
              (element_back class c it.page it.at it.elements (arena_with v takings out)) class c it.page else
              element_back class c it.page it.at it.elements (arena_with v takings out)) idle
              ∙ back.law takings out;
          geometry = back.geometry;
          grounds = back.grounds;
        }

    -- it is idle
    idle-is : is_idle (with_back it.elements it.at) ≡ true → (takings : ℕ) (out : List RegionId)
        → given_place v.geometry (arena_with v takings out) class c piece.start
        ≡ idle_given v.geometry (arena_with mid takings out) class c it.page
    idle-is idle takings out =
        by-element takings out
        ∙ ap (λ (b : Bool). if b then idle_given v.geometry
        (element_back class c it.page it.at it.elements (arena_with v takings out)) class c it.page else
        element_back class c it.page it.at it.elements (arena_with v takings out)) idle
        ∙ ap (λ (a : Arena). idle_given v.geometry a class c it.page) (back.law takings out)

    pub idle-alone : is_idle (with_back it.elements it.at) ≡ true → is_alone (front_of (arena_in mid) class) ≡ true
        → Becomes v (λ a. given_place v.geometry a class c piece.start) mid
    idle-alone idle alone =
        record {
          law = λ takings out.
              idle-is idle takings out
              ∙ ap (λ (b : Bool). if b then arena_with mid takings out else subpage_given v.geometry class c it.page
              (arena_with mid takings out)) alone;
          geometry = back.geometry;
          grounds = back.grounds;
        }

    pub idle-dropped : (new : StockState) → is_idle (with_back it.elements it.at) ≡ true
        → is_alone (front_of (arena_in mid) class) ≡ false
        → Becomes mid (subpage_given mid.geometry class c it.page) new
        → Becomes v (λ a. given_place v.geometry a class c piece.start) new
    idle-dropped new idle others dropped =
        record {
          law = λ takings out.
              idle-is idle takings out
              ∙ ap (λ (b : Bool). if b then arena_with mid takings out else subpage_given v.geometry class c it.page
              (arena_with mid takings out)) others
              ∙ ap (λ (g : Geometry). subpage_given g class c it.page (arena_with mid takings out)) (sym back.geometry)
              ∙ dropped.law takings out;
          geometry = dropped.geometry ∙ back.geometry;
          grounds = dropped.grounds ∙ back.grounds;
        }
