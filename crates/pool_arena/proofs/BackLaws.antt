-- An element that comes back to its subpage.
use Rattle.std.proofs.Common.{◌≡◌, ℕ, ◌+◌, ◌*◌, ◌<◌, List, ◌∷◌, length, sym, ap, ◌∙◌, Bool, true, false, Some, arith}
use Rattle.std.specs.Prelude.{Option, map, slice_get, slice_set, slice_index_or, if◌then◌else◌}
use Rattle.std.proofs.lemmas.List.{length-map}
use Rattle.ground.specs.Ground.{Segment, Origin}
use Rattle.size_classes.specs.Sizes.{Geometry, page_of, is_small, chunk_pages, size_at}
use Rattle.size_classes.specs.Pages.{Used, run_at}
use Rattle.size_classes.specs.Elements.{Elements, is_full, with_back}
use Rattle.size_classes.proofs.Runs.{Begins-run_at}
use Rattle.pool_law.specs.Chunks.{Sub}
use Rattle.pool_law.specs.Arenas.{Arena, chunk_at, front_of}
use Rattle.pool_chunk.specs.ChunkStates.{with_elements, HasSubpage, IsElementOut}
use Rattle.chunk_list.specs.Listing.{Listing}
use Rattle.pool_arena.specs.Places.{PlaceState, runs_of, state_of, with_chunk}
use Rattle.pool_arena.specs.SubpageLists.{SubpagesState}
use Rattle.pool_arena.specs.Stocks.{StockState, arena_with, arena_in, Becomes, IsElementOutOf, element_back}
use Rattle.pool_arena.specs.Held.{stock_in, IsStock}
use Rattle.pool_arena.specs.declared.stock.ChunkStock.TheInside.{Inside}
use Rattle.pool_arena.proofs.ListLaws.{found-is}
use Rattle.pool_arena.proofs.StockLaws.{sizes_of, place-chunk_at, place-geometry, place-origin}
use Rattle.pool_arena.proofs.FrontsLaws.{front_of-is, subpages-set}
use Rattle.pool_arena.proofs.ElementLaws.{front-choice, elements-chunks, elements-grounds}
use Rattle.pool_arena.proofs.GiveLaws.{begins-within}

-- the place of an element that is out
pub out-found : (s : Inside) (class c page index : ℕ) (piece : Segment) (x : PlaceState)
    → IsElementOutOf (stock_in s) class c page index piece → x ≡ slice_index_or s.places.items c x
    → slice_get s.places.items c ≡ Some x
out-found s class c page index piece x o here =
    found-is s.places.items c x
    (begins-within s c page (Used o.pages (Sub class o.elements))
    (Begins-run_at (chunk_at (arena_in (stock_in s)) c) page (Used o.pages (Sub class o.elements)) o.run)) here

-- its subpage
abbrev pub out-sub : (s : Inside) (class c page index : ℕ) (piece : Segment) (x : PlaceState)
    → IsElementOutOf (stock_in s) class c page index piece
    → slice_get s.places.items c ≡ Some x → HasSubpage (state_of x) page
out-sub s class c page index piece x o found =
    record {
      pages = o.pages;
      class = class;
      elements = o.elements;
      run = ap (run_at page) (sym (place-chunk_at s c x found)) ∙ o.run;
    }

-- two that are there are one
pub same-origin : (a b : Origin) → ◌≡◌ {A = Option Origin} (Some a) (Some b) → a ≡ b
same-origin a b e = cc e

-- the element, by the place
abbrev pub out-element : (s : Inside) → IsStock s → (class c page index : ℕ) (piece : Segment) (x : PlaceState)
    → IsElementOutOf (stock_in s) class c page index piece
    → slice_get s.places.items c ≡ Some x → IsElementOut (state_of x) page index piece
out-element s is class c page index piece x o found =
    record {
      subpage = out-sub s class c page index piece x o found;
      out = o.out;
      piece =
          record {
            origin = same-origin piece.origin x.origin (sym o.piece_is.origin ∙ place-origin s c x found);
            start =
                o.piece_is.start
                ∙ ap (λ (g : Geometry). page_of g * page + index * size_at class) (sym (place-geometry s c x found is));
            size = o.piece_is.size;
          };
    }

-- there is room for a subpage that was full
pub back-room : (s : Inside) (is : IsStock s) (class c page index : ℕ) (piece : Segment) (f : SubpagesState)
    → IsElementOutOf (stock_in s) class c page index piece
    → slice_get s.fronts.items class ≡ Some f → is_small s.classes class ≡ true
    → (o : IsElementOutOf (stock_in s) class c page index piece) → is_full o.elements ≡ true
    → length f.subpages < f.room
back-room s is class c page index piece f _ found small o full =
    let room = is.fronts.room class f small found in
    let subpages : length (front_of (arena_in (stock_in s)) class)
    ≡ length f.subpages = ap length (front_of-is s class f found) in
    let places : length (stock_in s).chunks * chunk_pages s.classes ≡ length s.places.items * chunk_pages s.classes =
    ap (λ (n : ℕ). n * chunk_pages s.classes) (length-map s.places.items (λ (p : PlaceState). p.chunk)) in
    omega (arith, o.room full, subpages, places, room)

-- the fronts once the element is back: the subpage enters if it was full
abbrev pub fronts_back : StockState → ℕ → ℕ → ℕ → Elements → List (List (ℕ × ℕ))
fronts_back s class c page e =
    if is_full e then slice_set s.fronts class ((c, page) ∷ front_of (arena_in s) class) else s.fronts

pub full-back : (s : Inside) (class c page : ℕ) (e : Elements) (f h : SubpagesState) (items : List SubpagesState)
    → slice_get s.fronts.items class ≡ Some f
    → h.subpages ≡ (c, page) ∷ f.subpages → items ≡ slice_set s.fronts.items class h → is_full e ≡ true
    → map (λ (z : SubpagesState). z.subpages) items ≡ fronts_back (stock_in s) class c page e
full-back s class c page e f h items found entered is full =
    ap (map (λ (z : SubpagesState). z.subpages)) is ∙ subpages-set s.fronts.items class h
    ∙ ap (slice_set (stock_in s).fronts class)
    (entered ∙ ap (λ (xs : List (ℕ × ℕ)). (c, page) ∷ xs) (sym (front_of-is s class f found)))
    ∙ sym (ap (λ (b : Bool). if b then slice_set (stock_in s).fronts class
    ((c, page) ∷ front_of (arena_in (stock_in s)) class) else (stock_in s).fronts) full)

pub other-back : (s : Inside) (class c page : ℕ) (e : Elements) → is_full e ≡ false
    → (stock_in s).fronts ≡ fronts_back (stock_in s) class c page e
other-back s class c page e other =
    sym (ap (λ (b : Bool). if b then slice_set (stock_in s).fronts class
    ((c, page) ∷ front_of (arena_in (stock_in s)) class) else (stock_in s).fronts) other)

module _ (s t : Inside) (is : IsStock s) (class c page index : ℕ) (piece : Segment) (x y : PlaceState)
    (o : IsElementOutOf (stock_in s) class c page index piece)
    (found : slice_get s.places.items c ≡ Some x)
    (changed : y ≡ with_chunk x (Some (with_elements page class (with_back o.elements index) (runs_of x))))
    (items : t.places.items ≡ slice_set s.places.items c y) (lists : t.lists ≡ s.lists)
    (sizes : sizes_of t ≡ sizes_of s)
    (fronts : (stock_in t).fronts ≡ fronts_back (stock_in s) class c page o.elements) where
  pub back-law : Becomes (stock_in s) (element_back class c page index o.elements) (stock_in t)
  back-law =
      let e = o.elements in
      let sub = out-sub s class c page index piece x o found in
      let chunks : (stock_in t).chunks ≡ slice_set (stock_in s).chunks c
      (Some (with_elements page class (with_back e index) (chunk_at (arena_in (stock_in s)) c))) =
      elements-chunks s t is c x y page found sub (with_back e index) changed items lists sizes in
      record {
        law = λ takings out.
            let a : Arena = arena_with (stock_in s) takings out in
            front-choice (is_full e)
            (record a {
              chunks = slice_set a.chunks c
                  (Some (with_elements page class (with_back e index) (chunk_at a c)));
            })
            (slice_set a.fronts class ((c, page) ∷ front_of a class))
            ∙ (λ i. record {
              chunks = sym chunks i;
              lists = ap (λ (l : Listing). l.lists) (sym lists) i;
              fronts = sym fronts i;
              takings = takings;
              out = out;
            });
        geometry = ap (λ (x : Geometry × ℕ). x.0) sizes;
        grounds = elements-grounds s t is c x y page found sub (with_back e index) changed items lists sizes;
      }
