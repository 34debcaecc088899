-- A run that comes back, and its chunk, which settles.
use Rattle.std.proofs.Common.{◌≡◌, ℕ, ◌*◌, ◌/◌, ◌<◌, ◌≤◌, List, length, sym, ap, ap₂, ◌∙◌, subst, Bool, true, false, Some, arith, inl, inr}
use Rattle.std.specs.Prelude.{Option, map, slice_get, if◌then◌else◌}
use Rattle.std.proofs.lemmas.List.{length-map}
use Rattle.ground.specs.Ground.{Segment}
use Rattle.size_classes.specs.Sizes.{Geometry, page_of, is_small}
use Rattle.size_classes.specs.Pages.{Run, Used, free_pages, given_at, run_at, NoneEmpty}
use Rattle.size_classes.specs.Runs.{Begins}
use Rattle.size_classes.proofs.Runs.{run_at-Begins}
use Rattle.std.proofs.Math.Nat.{mul-div_cancel_left}
use Rattle.pool_law.specs.declared.report.ListName.{ListName}
use Rattle.pool_law.specs.Chunks.{Chunk, Use, Whole, usage}
use Rattle.pool_law.specs.ChunkLists.{list_of, greatest}
use Rattle.pool_law.specs.Arenas.{Arena, chunk_at, run_given, small_given, given_place}
use Rattle.arena_laws.specs.Slots.{IsWholeRun, IsElement, IsSlot}
use Rattle.arena_laws.specs.Orderly.{IsOrderly}
use Rattle.arena_laws.proofs.ArenaSteps.{chunk_at-below}
use Rattle.arena_laws.proofs.OrderlyParts.{begins-listed}
use Rattle.pool_chunk.specs.ChunkStates.{IsRunOut}
use Rattle.pool_arena.specs.Places.{PlaceState, runs_of, state_of, with_chunk}
use Rattle.pool_arena.specs.SubpageLists.{SubpagesState}
use Rattle.pool_arena.specs.Stocks.{StockState, arena_in, Becomes, IsPlaceOut}
use Rattle.pool_arena.specs.Held.{stock_in, IsStock}
use Rattle.pool_arena.specs.declared.stock.ChunkStock.TheInside.{Inside}
use Rattle.pool_arena.proofs.UsageLaws.{usage-rises, given-free}
use Rattle.pool_arena.proofs.WalkLaws.{there}
use Rattle.pool_arena.proofs.StockLaws.{place-chunk_at, place-geometry, place-origin}
use Rattle.pool_arena.proofs.SettleLaws.{Settles, settle-down}

-- ---- the chunk settles

module _ (s t : Inside) (is : IsStock s) (c page n : ℕ) (what : Use) (x y q : PlaceState)
    (begins : Begins page (Used n what) (runs_of x)) (some : NoneEmpty (runs_of x))
    (given : y ≡ with_chunk x (Some (given_at page (runs_of x)))) (d : Settles s t c x q (runs_of y)) where
  before : chunk_at (arena_in (stock_in s)) c ≡ runs_of x
  before = place-chunk_at s c x d.written.found

  sunk : usage s.classes (runs_of y) < greatest d.here
  sunk =
      let free = given-free (runs_of x) page n what some begins in
      let more : free_pages (chunk_at (arena_in (stock_in s)) c) ≤ free_pages (runs_of y) =
      omega (arith, ap free_pages before, ap (λ (p : PlaceState). free_pages (runs_of p)) given, free) in
      omega (
        arith,
        (is.settled c d.here d.there).1,
        usage-rises s.classes is.sizes.page
            (chunk_at (arena_in (stock_in s)) c) (runs_of y) more,
      )

  pub given-law : (fronts : List (List (ℕ × ℕ))) → map (λ (f : SubpagesState). f.subpages) t.fronts.items ≡ fronts
      → Becomes (stock_in s) (λ a. run_given s.classes (record a { fronts = fronts }) c page) (stock_in t)
  given-law fronts fronts_are =
      settle-down s t c x q (runs_of y) d is fronts fronts_are sunk page
      (ap runs_of given ∙ ap (given_at page) (sym before))

-- ---- where a place lies

-- a chunk in which a run begins has a place, and stands in a list
pub begins-within : (s : Inside) (c page : ℕ) (r : Run Use) → Begins page r (chunk_at (arena_in (stock_in s)) c)
    → c < length s.places.items
begins-within s c page r b =
    omega (
      arith,
      chunk_at-below (arena_in (stock_in s)) c page r b,
      length-map s.places.items
          (λ (p : PlaceState). p.chunk),
    )

pub begins-name : (s : Inside) (g : Geometry) → IsOrderly g (arena_in (stock_in s)) → (c page : ℕ) (r : Run Use)
    → Begins page r (chunk_at (arena_in (stock_in s)) c)
    → (name : ListName) × (list_of s.lists.lists c ≡ Some name)
begins-name s g o c page r b =
    there (list_of s.lists.lists c) (begins-listed (arena_in (stock_in s)) c page r o.listed b)

-- a normal class has a whole run
pub whole-out : (v : StockState) (class chunk : ℕ) (piece : Segment) → (out : IsPlaceOut v class chunk piece)
    → is_small v.geometry class ≡ false
    → IsWholeRun v.geometry (chunk_at (arena_in v) chunk) out.id
whole-out v class chunk piece out whole = by out.slot
  where
    by : IsSlot v.geometry (chunk_at (arena_in v) chunk) out.id
        → IsWholeRun v.geometry (chunk_at (arena_in v) chunk) out.id
    by (inl run) = run
    by (inr element) = absurd (cc (element.kind, ap (is_small v.geometry) out.class_is, whole))

-- a small class has an element
pub small-out : (v : StockState) (class chunk : ℕ) (piece : Segment) → (out : IsPlaceOut v class chunk piece)
    → is_small v.geometry class ≡ true
    → IsElement v.geometry (chunk_at (arena_in v) chunk) out.id
small-out v class chunk piece out small = by out.slot
  where
    by : IsSlot v.geometry (chunk_at (arena_in v) chunk) out.id
        → IsElement v.geometry (chunk_at (arena_in v) chunk) out.id
    by (inl run) = absurd (cc (run.kind, ap (is_small v.geometry) out.class_is, small))
    by (inr element) = element

-- ---- a whole run

-- the page of a piece that is a whole run
pub whole-page_is : (v : StockState) → 0 < page_of v.geometry → (class chunk : ℕ) (piece : Segment)
    → (out : IsPlaceOut v class chunk piece) → (run : IsWholeRun v.geometry (chunk_at (arena_in v) chunk) out.id)
    → piece.start / page_of v.geometry ≡ run.page
whole-page_is v some class chunk piece out run =
    ap (λ (n : ℕ). n / page_of v.geometry) (sym out.offset ∙ run.starts) ∙ mul-div_cancel_left run.page some

module _ (s : Inside) (class c : ℕ) (piece : Segment) (out : IsPlaceOut (stock_in s) class c piece)
    (run : IsWholeRun s.classes (chunk_at (arena_in (stock_in s)) c) out.id)
    (x : PlaceState) (found : slice_get s.places.items c ≡ Some x) where
  pub whole-begins : Begins run.page (Used run.pages Whole) (runs_of x)
  whole-begins =
      subst (λ (rs : Chunk). Begins run.page (Used run.pages Whole) rs) (place-chunk_at s c x found) run.begins

  -- the run is out as the piece
  pub whole-run_out : IsStock s → NoneEmpty (runs_of x) → (page : ℕ) → page ≡ run.page
      → IsRunOut (state_of x) page piece
  whole-run_out is some page page_is =
      let origin : ◌≡◌ {A = Option _} (Some piece.origin) (Some x.origin) = sym out.piece_is.origin
      ∙ place-origin s c x found in
      let sizes : s.classes ≡ x.geometry = sym (place-geometry s c x found is) in
      record {
        pages = run.pages;
        run =
            ap (λ (k : ℕ). run_at k (runs_of x)) page_is
            ∙ run_at-Begins (runs_of x) run.page (Used run.pages Whole) some whole-begins;
        piece =
            record {
              origin = cc origin;
              start = sym out.offset ∙ run.starts ∙ ap₂ (λ (g : Geometry) (k : ℕ). page_of g * k) sizes (sym page_is);
              size = out.piece_is.size ∙ run.ends ∙ ap (λ (g : Geometry). page_of g * run.pages) sizes;
            };
      }

-- what a normal class gives back
pub by-run : (g : Geometry) (class c page offset : ℕ) (a : Arena) → is_small g class ≡ false → offset / page_of g ≡ page
    → given_place g a class c offset ≡ run_given g a c page
by-run g class c page offset a whole page_is =
    ap (λ (b : Bool). if b then small_given g a class c offset else run_given g a c (offset / page_of g)) whole
    ∙ ap (run_given g a c) page_is
