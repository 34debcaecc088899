-- What an arena has to give, in the law's words. No public clause cites this module.
use Rattle.std.specs.Prelude.{◌≡◌, ◌↔◌, ℕ, ◌+◌, ◌*◌, ◌<◌, true, false, if◌then◌else◌, List, [], ◌∷◌, length, Option, Some, None, slice_get}
use Rattle.ground.specs.Ground.{Origin, Segment}
use Rattle.size_classes.specs.Sizes.{Geometry, page_of, chunk_pages, size_at, subpage_pages}
use Rattle.size_classes.specs.Pages.{Span, Used, free_runs, chosen, run_at}
use Rattle.size_classes.specs.Elements.{Elements, is_full, is_idle, is_out, with_back}
use Rattle.pool_law.specs.declared.id.RegionId.{RegionId}
use Rattle.pool_law.specs.declared.report.ListName.{ListName}
use Rattle.pool_law.specs.Chunks.{Chunk, Sub}
use Rattle.pool_law.specs.ChunkLists.{Lists, list_of, walk}
use Rattle.pool_law.specs.Arenas.{Arena, Yielded, chunk_at, elements_at, front_of, with_front, without_subpage, with_elements, run_given, with_run, first_holding, take_run, with_subpage}
use Rattle.arena_laws.specs.Orderly.{chunk_of}
use Rattle.arena_laws.specs.Slots.{IsSlot}
use Rattle.pool_arena.specs.declared.place.Wanted.{Wanted}
use Rattle.pool_arena.specs.declared.place.Cut.{Cut}
use Rattle.pool_arena.specs.Places.{pages_wanted, use_wanted}

-- the chunks of an arena, their lists, and the subpages that have a free element
pub record StockState : Type 0 where
  pub geometry : Geometry
  pub grounds : List Origin
  pub chunks : List (Option Chunk)
  pub lists : Lists
  pub fronts : List (List (ℕ × ℕ))

-- the law's arena with these, so many takings, and these out
abbrev pub arena_with : StockState → ℕ → List RegionId → Arena
arena_with s takings out =
    record {
      chunks = s.chunks;
      lists = s.lists;
      fronts = s.fronts;
      takings = takings;
      out = out;
    }

-- and with no takings
abbrev pub arena_in : StockState → Arena
arena_in s = arena_with s 0 []

-- the law leads from one to the other, whatever is out
pub record Becomes (old : StockState) (step : Arena → Arena) (new : StockState) : Type 0 where
  pub law : (takings : ℕ) (out : List RegionId) →
      step (arena_with old takings out) ≡ arena_with new takings out
  pub geometry : new.geometry ≡ old.geometry
  pub grounds : new.grounds ≡ old.grounds

-- and to this chunk, and page or offset
pub record Yields (old : StockState) (step : Arena → Option Yielded) (chunk at : ℕ)
    (new : StockState) : Type 0 where
  pub law : (takings : ℕ) (out : List RegionId) →
      step (arena_with old takings out) ≡ Some (chunk, at, arena_with new takings out)
  pub geometry : new.geometry ≡ old.geometry
  pub grounds : new.grounds ≡ old.grounds

-- or to nothing
abbrev pub YieldsNone : StockState → (Arena → Option Yielded) → Type 0
YieldsNone old step =
    (takings : ℕ) (out : List RegionId) → step (arena_with old takings out) ≡ None

-- s is so many bytes of the chunk place, from the byte `at` on
pub record IsBytesIn (s : StockState) (chunk at bytes : ℕ) (piece : Segment) : Type 0 where
  pub origin : slice_get s.grounds chunk ≡ Some piece.origin
  pub start : piece.start ≡ at
  pub size : length piece.bytes ≡ bytes

-- the chunk place has a chunk, which stands in a list
pub record HasChunk (s : StockState) (chunk : ℕ) : Type 0 where
  pub runs : Chunk
  pub name : ListName
  pub there : chunk_of (arena_in s) chunk ≡ Some runs
  pub listed : list_of s.lists chunk ≡ Some name

-- the place has none, which stands in no list
pub record HasNoChunk (s : StockState) (chunk : ℕ) : Type 0 where
  pub within : chunk < length s.chunks
  pub none : chunk_of (arena_in s) chunk ≡ None
  pub unlisted : list_of s.lists chunk ≡ None

-- a chunk place has a chunk exactly where it stands in a list
abbrev pub AreListed : StockState → Type 0
AreListed s =
    (c : ℕ) → (list_of s.lists c ≡ None) ↔ (chunk_of (arena_in s) c ≡ None)

-- what is cut off a chunk is the run that begins at a page: its bytes, or a subpage
abbrev pub IsCutIn : StockState → ℕ → Wanted → ℕ → Cut → Type 0
IsCutIn s chunk (Wanted.Run pages) page (Cut.Run piece) =
    IsBytesIn s chunk (page_of s.geometry * page) (page_of s.geometry * pages) piece
IsCutIn s chunk (Wanted.Run pages) page (Cut.Subpage first) = ⊥
IsCutIn s chunk (Wanted.Subpage class) page (Cut.Run piece) = ⊥
IsCutIn s chunk (Wanted.Subpage class) page (Cut.Subpage first) = first ≡ page

-- the first page of the run that a chunk gives for what is wanted
abbrev pub found_in : StockState → ℕ → Wanted → Option Span
found_in s chunk wanted =
    chosen s.geometry (pages_wanted s.geometry wanted) (free_runs 0 (chunk_at (arena_in s) chunk))

-- the chunk gives what is wanted, and settles
pub record CutsFrom (old : StockState) (chunk : ℕ) (wanted : Wanted) (new : StockState) (cut : Cut)
    : Type 0 where
  pub page : ℕ
  pub long : ℕ
  pub run : found_in old chunk wanted ≡ Some (page, long)
  pub becomes : Becomes old (λ a. with_run old.geometry a chunk page
      (pages_wanted old.geometry wanted) (use_wanted old.geometry wanted)) new
  pub given : IsCutIn old chunk wanted page cut

-- none of the chunks that are asked has what is wanted
abbrev pub FindsNone : StockState → Wanted → Type 0
FindsNone s wanted =
    (takings : ℕ) (out : List RegionId) →
    first_holding s.geometry (arena_with s takings out) (pages_wanted s.geometry wanted)
    (walk s.lists) ≡ None

-- this one is the first that has it, and gives it
pub record FindsIn (old : StockState) (wanted : Wanted) (new : StockState) (chunk : ℕ) (cut : Cut)
    : Type 0 where
  pub cuts : CutsFrom old chunk wanted new cut
  pub first : (takings : ℕ) (out : List RegionId) →
      first_holding old.geometry (arena_with old takings out) (pages_wanted old.geometry wanted)
      (walk old.lists) ≡ Some (chunk, cuts.page)

-- a run that is wanted, from the first chunk that has it or from a new one
abbrev pub run_wanted : StockState → Wanted → Arena → Option Yielded
run_wanted s wanted a =
    take_run s.geometry a (pages_wanted s.geometry wanted) (use_wanted s.geometry wanted)

-- what is wanted is cut off this chunk
pub record CutsOff (old : StockState) (wanted : Wanted) (new : StockState) (chunk : ℕ) (cut : Cut)
    : Type 0 where
  pub page : ℕ
  pub yields : Yields old (run_wanted old wanted) chunk page new
  pub fronts : new.fronts ≡ old.fronts
  pub given : IsCutIn old chunk wanted page cut

-- a subpage of the class is cut off this chunk, and is the front of the class
pub record NewFront (old : StockState) (class : ℕ) (new : StockState) (chunk page : ℕ) : Type 0
  where
    pub mid : StockState
    pub yields : Yields old (run_wanted old (Wanted.Subpage class)) chunk page mid
    pub becomes : Becomes mid (λ a. with_subpage class (chunk, page, a)) new

-- a subpage of the class begins there, and has a free element
pub record IsOpen (s : StockState) (class chunk page : ℕ) : Type 0 where
  pub elements : Elements
  pub here : elements_at (arena_in s) class chunk page ≡ Some elements
  pub room : is_full elements ≡ false

-- an idle subpage of the class begins there
pub record IsIdleAt (s : StockState) (class chunk page : ℕ) : Type 0 where
  pub elements : Elements
  pub here : elements_at (arena_in s) class chunk page ≡ Some elements
  pub idle : is_idle elements ≡ true

-- an element of a subpage of the class is out as s, and there is room for the subpage in its list
pub record IsElementOutOf (s : StockState) (class chunk page index : ℕ) (piece : Segment) : Type 0
  where
    pub pages : ℕ
    pub elements : Elements
    pub run : run_at page (chunk_at (arena_in s) chunk) ≡ Some (Used pages (Sub class elements))
    pub pages_are : pages ≡ subpage_pages s.geometry class
    pub out : is_out elements index ≡ true
    pub piece_is : IsBytesIn s chunk (page_of s.geometry * page + index * size_at class)
        (size_at class) piece
    pub room : is_full elements ≡ true →
        length (front_of (arena_in s) class) < length s.chunks * chunk_pages s.geometry

-- the element is back, and its subpage enters its list if it was full
abbrev pub element_back : ℕ → ℕ → ℕ → ℕ → Elements → Arena → Arena
element_back class chunk page index e a =
    let b = with_elements a chunk page class (with_back e index) in
    if is_full e then with_front b class ((chunk, page) ∷ front_of b class) else b

-- the idle subpage leaves its list and gives its run back
abbrev pub subpage_given : Geometry → ℕ → ℕ → ℕ → Arena → Arena
subpage_given g class chunk page a =
    run_given g (with_front a class (without_subpage chunk page (front_of a class))) chunk page

-- the bytes of a class, from the offset on
abbrev pub IsPieceOf : StockState → ℕ → ℕ → Segment → Type 0
IsPieceOf s class chunk piece = IsBytesIn s chunk piece.start (size_at class) piece

-- the arena gives a place of the class
pub record GivesPlace (old : StockState) (step : Arena → Option Yielded) (class : ℕ)
    (new : StockState) (chunk : ℕ) (piece : Segment) : Type 0 where
  pub yields : Yields old step chunk piece.start new
  pub piece_is : IsPieceOf old class chunk piece

-- the place of a class is out, and s is its bytes
pub record IsPlaceOut (s : StockState) (class chunk : ℕ) (piece : Segment) : Type 0 where
  pub id : RegionId
  pub class_is : id.class ≡ class
  pub chunk_is : id.place.chunk ≡ chunk
  pub offset : id.place.offset ≡ piece.start
  pub slot : IsSlot s.geometry (chunk_at (arena_in s) chunk) id
  pub piece_is : IsBytesIn s chunk id.place.offset id.place.len piece
