-- An element of a subpage that is taken or comes back.
use Rattle.std.proofs.Common.{◌≡◌, ℕ, ◌+◌, ◌-◌, ◌*◌, ◌<◌, List, [], ◌∷◌, length, refl, sym, ap, ◌∙◌, subst, Bool, true, false, Some, None, arith, eqb-true}
use Rattle.std.specs.Prelude.{Option, map, slice_get, slice_set, nat_lt, ◌==◌, if◌then◌else◌, option_map, option_and_then}
use Rattle.std.proofs.lemmas.Bool.{cond_both}
use Rattle.std.proofs.lemmas.List.{length-map}
use Rattle.arena_laws.proofs.ArenaSteps.{chunk_at-below}
use Rattle.ground.specs.Ground.{Segment}
use Rattle.size_classes.specs.Sizes.{Geometry, page_of, chunk_pages, size_at}
use Rattle.size_classes.specs.Pages.{Run, Free, Used, pages_in, replaced, run_at, NoneEmpty}
use Rattle.size_classes.specs.Elements.{Elements, is_full, next_element, with_out}
use Rattle.size_classes.proofs.Runs.{Begins-run_at}
use Rattle.pool_law.specs.Chunks.{Chunk, Use, Whole, Sub, usage}
use Rattle.pool_law.specs.ChunkLists.{list_of}
use Rattle.pool_law.specs.Arenas.{Arena, chunk_at, elements_in, front_of, without_subpage, element_taken, take_element}
use Rattle.pool_chunk.specs.ChunkStates.{with_elements, HasSubpage}
use Rattle.chunk_list.specs.Listing.{Listing}
use Rattle.chunk_list.specs.Settling.{IsWithin}
use Rattle.pool_arena.specs.Places.{PlaceState, runs_of, state_of, with_chunk, HandsOut}
use Rattle.pool_arena.specs.SubpageLists.{SubpagesState}
use Rattle.pool_arena.specs.Stocks.{StockState, arena_with, arena_in, IsOpen, GivesPlace}
use Rattle.pool_arena.specs.Held.{stock_in, HasRoomAt, IsStock}
use Rattle.pool_arena.specs.declared.stock.ChunkStock.TheInside.{Inside}
use Rattle.pool_arena.proofs.FrontsLaws.{front_of-is, subpages-set}
use Rattle.pool_arena.proofs.UsageLaws.{usage-same, elements-free}
use Rattle.pool_arena.proofs.StockLaws.{sizes_of, Written, place-chunk_at, place-geometry, place-origin, written-grounds, written-chunks, written-held, written-settled}

-- ---- runs

-- the elements of a class are those of a subpage
pub elements-run : (class : ℕ) (o : Option (Run Use)) (e : Elements) → elements_in class o ≡ Some e
    → (n : ℕ) × (o ≡ Some (Used n (Sub class e)))
elements-run class None e is = absurd (cc is)
elements-run class (Some (Free n)) e is = absurd (cc is)
elements-run class (Some (Used n Whole)) e is = absurd (cc is)
elements-run class (Some (Used n (Sub other f))) e is =
    cond_both (class == other) (Some f) None
    (λ z. z ≡ Some e → (m : ℕ) × (Some (Used n (Sub other f)) ≡ Some (Used m (Sub class e))))
    (λ same found.
    let classes : other ≡ class = sym (eqb-true class other same) in
    let elements : f ≡ e = cc found in
    (n, λ i. Some (Used n (Sub (classes i) (elements i)))))
    (λ other_class found. absurd (cc found))
    is

-- the run that is changed is found where it was
pub run_at-changed : (rs : Chunk) (at n : ℕ) (v w : Use) → run_at at rs ≡ Some (Used n v)
    → run_at at (replaced at (λ r. Used (pages_in r) w ∷ []) rs) ≡ Some (Used n w)
run_at-changed [] at n v w e = absurd (cc e)
run_at-changed (r ∷ rs) at n v w e =
    by (at == 0) refl (nat_lt at (pages_in r)) refl e (run_at-changed rs (at - pages_in r) n v w)
  where
    by : (here : Bool) → (at == 0) ≡ here → (inside : Bool) → nat_lt at (pages_in r) ≡ inside
        → run_at at (r ∷ rs) ≡ Some (Used n v)
        → (run_at (at - pages_in r) rs ≡ Some (Used n v)
        → run_at (at - pages_in r) (replaced (at - pages_in r) (λ q. Used (pages_in q) w ∷ []) rs) ≡ Some (Used n w))
        → run_at at (replaced at (λ q. Used (pages_in q) w ∷ []) (r ∷ rs)) ≡ Some (Used n w)
    by true is inside in_run found rest =
        let first : ◌≡◌ {A = Option (Run Use)} (Some r) (Some (Used n v)) =
        sym (ap (λ (b : Bool). if b then Some r else
        (if nat_lt at (pages_in r) then None else run_at (at - pages_in r) rs)) is) ∙ found in
        let same : r ≡ Used n v = cc first in
        rw is (rw is (ap (λ (q : Run Use). Some (Used (pages_in q) w)) same))
    by false is true in_run found rest =
        let none : ◌≡◌ {A = Option (Run Use)} None (Some (Used n v)) =
        sym (ap (λ (b : Bool). if b then Some r else
        (if nat_lt at (pages_in r) then None else run_at (at - pages_in r) rs)) is
        ∙ ap (λ (b : Bool). if b then None else run_at (at - pages_in r) rs) in_run) ∙ found in
        absurd (cc none)
    by false is false in_run found rest =
        let further : run_at (at - pages_in r) rs ≡ Some (Used n v) =
        sym (ap (λ (b : Bool). if b then Some r else
        (if nat_lt at (pages_in r) then None else run_at (at - pages_in r) rs)) is
        ∙ ap (λ (b : Bool). if b then None else run_at (at - pages_in r) rs) in_run) ∙ found in
        rw is (rw (is, in_run) (rest further))

-- a subpage is still there with other elements
abbrev pub subpage-changed : (p q : PlaceState) (page : ℕ) (sub : HasSubpage (state_of p) page) (f : Elements)
    → q ≡ with_chunk p (Some (with_elements page sub.class f (runs_of p)))
    → HasSubpage (state_of q) page
subpage-changed p q page sub f is =
    record {
      pages = sub.pages;
      class = sub.class;
      elements = f;
      run =
          ap (λ (x : PlaceState). run_at page (runs_of x)) is
          ∙ run_at-changed (runs_of p) page sub.pages (Sub sub.class sub.elements) (Sub sub.class f) sub.run;
    }

-- ---- the elements of one subpage are written

module _ (s t : Inside) (is : IsStock s) (c : ℕ) (x y : PlaceState) (page : ℕ)
    (found : slice_get s.places.items c ≡ Some x)
    (sub : HasSubpage (state_of x) page) (f : Elements)
    (changed : y ≡ with_chunk x (Some (with_elements page sub.class f (runs_of x))))
    (items : t.places.items ≡ slice_set s.places.items c y) (lists : t.lists ≡ s.lists)
    (sizes : sizes_of t ≡ sizes_of s) where
  elements-written : Written s t c x y
  elements-written =
      record {
        found = found;
        items = items;
        origin = ap (λ (p : PlaceState). p.origin) changed;
        geometry = ap (λ (p : PlaceState). p.geometry) changed;
        classes = ap (λ (x : Geometry × ℕ). x.0) sizes;
        page = ap (λ (x : Geometry × ℕ). x.1) sizes;
        places = ap (λ (l : Listing). l.places) lists;
      }

  pub elements-held : NoneEmpty (runs_of x) → HasRoomAt (length s.places.items * chunk_pages s.classes) s.classes
      t.fronts.items → IsStock t
  elements-held some rooms =
      written-held s t c x y elements-written is rooms
      (written-settled s t c x y elements-written is
      (λ d other. ap (λ (l : Listing). list_of l.lists d) lists)
      (λ name listed.
      let free =
      elements-free (runs_of x) page sub.pages sub.class sub.elements f some
      (Begins-run_at (runs_of x) page (Used sub.pages (Sub sub.class sub.elements)) sub.run) in
      let same : usage s.classes (runs_of y) ≡ usage s.classes (chunk_at (arena_in (stock_in s)) c) =
      ap (λ (p : PlaceState). usage s.classes (runs_of p)) changed
      ∙ usage-same s.classes (with_elements page sub.class f (runs_of x)) (runs_of x) free
      ∙ ap (usage s.classes) (sym (place-chunk_at s c x found)) in
      subst (λ (n : ℕ). IsWithin n name) (sym same)
      (is.settled c name (sym (ap (λ (l : Listing). list_of l.lists c) lists) ∙ listed))))

  pub elements-grounds : (stock_in t).grounds ≡ (stock_in s).grounds
  elements-grounds = written-grounds s t c x y elements-written

  pub elements-chunks : (stock_in t).chunks ≡ slice_set (stock_in s).chunks c
      (Some (with_elements page sub.class f (chunk_at (arena_in (stock_in s)) c)))
  elements-chunks =
      written-chunks s t c x y elements-written
      ∙ ap (λ (p : PlaceState). slice_set (stock_in s).chunks c p.chunk) changed
      ∙ ap (λ (rs : Chunk). slice_set (stock_in s).chunks c (Some (with_elements page sub.class f rs)))
      (sym (place-chunk_at s c x found))

-- ---- one is taken

-- the subpage of a place that is open
abbrev pub open-sub : (s : Inside) (class c page : ℕ) (x : PlaceState) → slice_get s.places.items c ≡ Some x
    → IsOpen (stock_in s) class c page → HasSubpage (state_of x) page
open-sub s class c page x found o =
    let run = elements-run class (run_at page (chunk_at (arena_in (stock_in s)) c)) o.elements o.here in
    record {
      pages = run.0;
      class = class;
      elements = o.elements;
      run = ap (run_at page) (sym (place-chunk_at s c x found)) ∙ run.1;
    }

-- an open subpage lies in a chunk
pub open-within : (s : Inside) (class c page : ℕ) → IsOpen (stock_in s) class c page → c < length s.places.items
open-within s class c page o =
    let run = elements-run class (run_at page (chunk_at (arena_in (stock_in s)) c)) o.elements o.here in
    let begins = Begins-run_at (chunk_at (arena_in (stock_in s)) c) page (Used run.0 (Sub class o.elements)) run.1 in
    omega (
      arith,
      chunk_at-below (arena_in (stock_in s)) c page (Used run.0 (Sub class o.elements)) begins,
      length-map
          s.places.items (λ (p : PlaceState). p.chunk),
    )

-- a choice of fronts is a choice of arenas
pub front-choice : (full : Bool) (b : Arena) (fronts : List (List (ℕ × ℕ))) →
    (if full then record b { fronts = fronts } else b) ≡ record b { fronts = (if full then fronts else b.fronts) }
front-choice true b fronts = refl
front-choice false b fronts = refl

-- the fronts once a subpage has these elements: it leaves them if it is full
abbrev pub fronts_after : StockState → ℕ → ℕ → ℕ → Elements → List (List (ℕ × ℕ))
fronts_after s class c page e =
    if is_full e then slice_set s.fronts class (without_subpage c page (front_of (arena_in s) class)) else s.fronts

-- a full subpage leaves its front, and another stays
pub full-fronts : (s : Inside) (class c page : ℕ) (e : Elements) (f h : SubpagesState) (items : List SubpagesState)
    → slice_get s.fronts.items class ≡ Some f
    → h.subpages ≡ without_subpage c page f.subpages → items ≡ slice_set s.fronts.items class h → is_full e ≡ true
    → map (λ (z : SubpagesState). z.subpages) items ≡ fronts_after (stock_in s) class c page e
full-fronts s class c page e f h items found left is full =
    ap (map (λ (z : SubpagesState). z.subpages)) is ∙ subpages-set s.fronts.items class h
    ∙ ap (slice_set (stock_in s).fronts class) (left ∙ ap (without_subpage c page) (sym (front_of-is s class f found)))
    ∙ sym (ap (λ (b : Bool). if b then slice_set (stock_in s).fronts class
    (without_subpage c page (front_of (arena_in (stock_in s)) class)) else (stock_in s).fronts) full)

pub other-fronts : (s : Inside) (class c page : ℕ) (e : Elements) → is_full e ≡ false
    → (stock_in s).fronts ≡ fronts_after (stock_in s) class c page e
other-fronts s class c page e other =
    sym (ap (λ (b : Bool). if b then slice_set (stock_in s).fronts class
    (without_subpage c page (front_of (arena_in (stock_in s)) class)) else (stock_in s).fronts) other)

module _ (s t : Inside) (is : IsStock s) (class c page : ℕ) (x y : PlaceState)
    (found : slice_get s.places.items c ≡ Some x) (o : IsOpen (stock_in s) class c page)
    (piece : Segment) (given : HandsOut x page (open-sub s class c page x found o) y piece)
    (items : t.places.items ≡ slice_set s.places.items c y) (lists : t.lists ≡ s.lists)
    (sizes : sizes_of t ≡ sizes_of s)
    (fronts : (stock_in t).fronts ≡ fronts_after (stock_in s) class c page (with_out o.elements given.element))
  where
    pub take-law : GivesPlace (stock_in s) (λ a. take_element s.classes a class (c, page)) class (stock_in t) c piece
    take-law =
        let e = o.elements in
        let k = given.element in
        let sub = open-sub s class c page x found o in
        let start : piece.start ≡ page_of s.classes * page + k * size_at class =
        given.piece.start
        ∙ ap (λ (g : Geometry). page_of g * page + k * size_at class) (place-geometry s c x found is) in
        let chunks : (stock_in t).chunks ≡ slice_set (stock_in s).chunks c
        (Some (with_elements page class (with_out e k) (chunk_at (arena_in (stock_in s)) c))) =
        elements-chunks s t is c x y page found sub (with_out e k) given.rest items lists sizes in
        record {
          yields =
              record {
                law = λ takings out.
                    let a : Arena = arena_with (stock_in s) takings out in
                    ap (option_and_then (λ f. option_map (λ n. element_taken s.classes a class (c, page) f n)
                    (next_element f))) o.here
                    ∙ ap (option_map (λ n. element_taken s.classes a class (c, page) e n)) given.next
                    ∙ ap (λ (b : Arena). Some (c, page_of s.classes * page + k * size_at class, b))
                    (front-choice (is_full (with_out e k))
                    (record a {
                      chunks = slice_set a.chunks c
                          (Some (with_elements page class (with_out e k) (chunk_at a c)));
                    })
                    (slice_set a.fronts class (without_subpage c page (front_of a class))))
                    ∙ (λ i. Some (
                      c,
                      sym start i,
                      record {
                        chunks = sym chunks i;
                        lists = ap (λ (l : Listing). l.lists) (sym lists) i;
                        fronts = sym fronts i;
                        takings = takings;
                        out = out;
                      },
                    ));
                geometry = ap (λ (x : Geometry × ℕ). x.0) sizes;
                grounds = elements-grounds s t is c x y page found sub (with_out e k) given.rest items lists sizes;
              };
          piece_is =
              record {
                origin = place-origin s c x found
                    ∙ ap Some (sym given.piece.origin);
                start = refl;
                size = given.piece.size;
              };
        }
