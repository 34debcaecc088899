-- An arena: its chunks, and what each taking and giving does to them.
use Rattle.std.specs.Prelude.{ℕ, suc, ◌+◌, ◌-◌, ◌*◌, ◌/◌, Bool, true, false, ◌==◌, ◌&&◌, not, nat_lt, if◌then◌else◌, List, [], ◌∷◌, ◌++◌, replicate, filter, slice_get, slice_set, Option, Some, None, option_map, option_and_then, unwrap_or}
use Rattle.std.specs.List.{list_any}
use Rattle.size_classes.specs.Sizes.{Geometry, page_of, class_count, is_small, pages_of, size_at, subpage_pages, element_count}
use Rattle.size_classes.specs.Pages.{Run, Free, Used, pages_in, free_runs, chosen, taken_at, given_at, replaced, run_at, run_start}
use Rattle.size_classes.specs.Elements.{Elements, new_elements, next_element, with_out, with_back, is_full, is_idle}
use Rattle.pool_law.specs.declared.id.RegionId.{RegionId}
use Rattle.pool_law.specs.declared.note.Did.{Did}
use Rattle.pool_law.specs.declared.note.Did.TheVariants.{Take, Full, Give}
use Rattle.pool_law.specs.declared.report.ListName.{ListName}
use Rattle.pool_law.specs.declared.report.ListName.TheVariants.{QInit}
use Rattle.pool_law.specs.declared.report.ChunkEnd.{ChunkEnd}
use Rattle.pool_law.specs.Same.{same_region, same_taking}
use Rattle.pool_law.specs.Chunks.{Chunk, Use, Whole, Sub, new_chunk, usage, free_bytes, used_bytes}
use Rattle.pool_law.specs.ChunkLists.{Lists, no_chunks, entered, list_of, walk, settled_up, down_to, settled_down}

-- the first of two, if there is one
abbrev pub or_else : {X : Type 0} → Option X → Option X → Option X
or_else None second = second
or_else (Some x) second = Some x

-- a list of what is there, made into something
abbrev pub listed : {X Y : Type 0} → Option X → (X → Y) → List Y
listed None f = []
listed (Some x) f = f x ∷ []

-- the state of an arena (PoolArena)
pub record Arena : Type 0 where
  pub chunks : List (Option Chunk)  -- for each chunk place, its chunk if it has one
  pub lists : Lists
  -- for each class, its subpages that have a free element, each by its chunk and first page
  pub fronts : List (List (ℕ × ℕ))
  pub takings : ℕ
  pub out : List RegionId  -- the takings that are out, as they were taken

-- an arena at first: no chunk, no subpage, nothing taken
abbrev pub new_arena : Geometry → ℕ → Arena
new_arena g chunks =
    record {
      chunks = replicate chunks None;
      lists = no_chunks;
      fronts = replicate (class_count g) [];
      takings = 0;
      out = [];
    }

-- the chunk at a place, empty where there is none
abbrev pub chunk_at : Arena → ℕ → Chunk
chunk_at a c = unwrap_or (unwrap_or (slice_get a.chunks c) None) []

-- a chunk place has this chunk
abbrev pub with_chunk : Arena → ℕ → Chunk → Arena
with_chunk a c chunk = record a { chunks = slice_set a.chunks c (Some chunk) }

-- the subpages of a class that have a free element
abbrev pub front_of : Arena → ℕ → List (ℕ × ℕ)
front_of a class = unwrap_or (slice_get a.fronts class) []

-- the subpages of a class that have a free element are these
abbrev pub with_front : Arena → ℕ → List (ℕ × ℕ) → Arena
with_front a class subpages = record a { fronts = slice_set a.fronts class subpages }

-- a list of subpages without the one at this chunk and page
abbrev pub without_subpage : ℕ → ℕ → List (ℕ × ℕ) → List (ℕ × ℕ)
without_subpage c page subpages = filter (λ s. not ((s.0 == c) && (s.1 == page))) subpages

-- the elements of a run, where it is a subpage of the class
abbrev pub elements_in : ℕ → Option (Run Use) → Option Elements
elements_in class None = None
elements_in class (Some (Free n)) = None
elements_in class (Some (Used n Whole)) = None
elements_in class (Some (Used n (Sub other e))) = if class == other then Some e else None

-- the elements of a class at a chunk and page, where a subpage of it begins there
abbrev pub elements_at : Arena → ℕ → ℕ → ℕ → Option Elements
elements_at a class c page = elements_in class (run_at page (chunk_at a c))

-- a subpage has these elements
abbrev pub with_elements : Arena → ℕ → ℕ → ℕ → Elements → Arena
with_elements a c page class e =
    with_chunk a c (replaced page (λ r. Used (pages_in r) (Sub class e) ∷ []) (chunk_at a c))

-- a chunk gives the front pages of a free run, and settles upwards
abbrev pub with_run : Geometry → Arena → ℕ → ℕ → ℕ → Use → Arena
with_run g a c at pages what =
    let chunk = taken_at at pages what (chunk_at a c) in
    let b = with_chunk a c chunk in
    record b { lists = settled_up a.lists c (usage g chunk) (list_of a.lists c) }

-- the first of these chunks that has a free run of the pages, and the first page of the run chosen
abbrev pub first_holding : Geometry → Arena → ℕ → List ℕ → Option (ℕ × ℕ)
first_holding g a pages [] = None
first_holding g a pages (c ∷ cs) =
    or_else (option_map (λ run. (c, run.0)) (chosen g pages (free_runs 0 (chunk_at a c))))
    (first_holding g a pages cs)

-- the lowest chunk place that has no chunk
abbrev pub first_unused : List (Option Chunk) → Option ℕ
first_unused [] = None
first_unused (None ∷ rest) = Some 0
first_unused (Some chunk ∷ rest) = option_map (λ k. suc k) (first_unused rest)

-- a chunk place gets a chunk of one free run, which enters the first list
abbrev pub opened : Geometry → Arena → ℕ → Arena
opened g a c =
    let b = with_chunk a c (new_chunk g) in
    record b { lists = entered a.lists QInit c }

-- a chunk, a page or an offset in it, and the arena then
abbrev pub Yielded : Type 0
Yielded = ℕ × ℕ × Arena

-- a run of the pages at this chunk and page, of this arena
abbrev pub run_from : Geometry → Arena → ℕ → Use → ℕ × ℕ → Yielded
run_from g a pages what spot = (spot.0, spot.1, with_run g a spot.0 spot.1 pages what)

-- a run from a new chunk at the lowest place without one
abbrev pub run_from_new : Geometry → Arena → ℕ → Use → Option ℕ → Option Yielded
run_from_new g a pages what None = None
run_from_new g a pages what (Some c) =
    option_map (run_from g (opened g a c) pages what)
    (first_holding g (opened g a c) pages (c ∷ []))

-- the run that is taken: from a chunk that holds it, or else from a new one
abbrev pub run_taken : Geometry → Arena → ℕ → Use → Option (ℕ × ℕ) → Option Yielded
run_taken g a pages what (Some spot) = Some (run_from g a pages what spot)
run_taken g a pages what None = run_from_new g a pages what (first_unused a.chunks)

-- a run of the pages: the chunk, its first page, and the arena then; none where the arena is full
abbrev pub take_run : Geometry → Arena → ℕ → Use → Option Yielded
take_run g a pages what = run_taken g a pages what (first_holding g a pages (walk a.lists))

-- the front subpage gives its next element, and leaves its list if it is then full
abbrev pub element_taken : Geometry → Arena → ℕ → ℕ × ℕ → Elements → ℕ → Yielded
element_taken g a class spot e k =
    let b = with_elements a spot.0 spot.1 class (with_out e k) in (
      spot.0,
      page_of g * spot.1 + k * size_at class,
      (if is_full (with_out e k)
          then with_front b class (without_subpage spot.0 spot.1 (front_of b class))
          else b),
    )

-- the next element of a subpage, where it has one
abbrev pub take_element : Geometry → Arena → ℕ → ℕ × ℕ → Option Yielded
take_element g a class spot =
    option_and_then (λ e. option_map (λ k. element_taken g a class spot e k) (next_element e))
    (elements_at a class spot.0 spot.1)

-- a run that is taken for a class becomes its front subpage
abbrev pub with_subpage : ℕ → Yielded → Arena
with_subpage class t = with_front t.2 class ((t.0, t.1) ∷ front_of t.2 class)

-- a small class takes from its front subpage, and from a new one where there is none
abbrev pub take_small : Geometry → Arena → ℕ → List (ℕ × ℕ) → Option Yielded
take_small g a class (spot ∷ subpages) = take_element g a class spot
take_small g a class [] =
    option_and_then (λ t. take_element g (with_subpage class t) class (t.0, t.1))
    (take_run g a (subpage_pages g class) (Sub class (new_elements (element_count g class))))

-- the chunk and the offset that a class is given, and the arena then
abbrev pub take_class : Geometry → Arena → ℕ → Option Yielded
take_class g a class =
    if is_small g class
    then take_small g a class (front_of a class)
    else option_map (λ t. (t.0, page_of g * t.1, t.2)) (take_run g a (pages_of g class) Whole)

-- the region of a taking
abbrev pub region_of : ℕ → ℕ → ℕ → ℕ → ℕ → ℕ → RegionId
region_of number class owner taking chunk offset =
    record {
      place = record { arena = number; chunk = chunk; offset = offset; len = size_at class };
      class = class;
      taking = taking;
      uses = 0;
      owner = owner;
    }

-- the taking is numbered, and is out
abbrev pub noted_taking : ℕ → ℕ → ℕ → Yielded → RegionId × Arena
noted_taking number class owner t =
    let b = t.2 in
    let region = region_of number class owner (b.takings + 1) t.0 t.1 in
    (region, record b { takings = b.takings + 1; out = b.out ++ region ∷ [] })

-- what the arena of this number gives an owner for a class, and the arena then; none where full
abbrev pub take : Geometry → ℕ → Arena → ℕ → ℕ → Option (RegionId × Arena)
take g number a class owner = option_map (noted_taking number class owner) (take_class g a class)

-- a chunk that was in a list and is in none any more is destroyed
abbrev pub unless_gone : Option ListName → Option ListName → Chunk → Option Chunk
unless_gone (Some here) None chunk = None
unless_gone (Some here) (Some there) chunk = Some chunk
unless_gone None there chunk = Some chunk

-- a run is given back, and its chunk settles downwards: a chunk that is destroyed leaves its place
abbrev pub run_given : Geometry → Arena → ℕ → ℕ → Arena
run_given g a c page =
    let chunk = given_at page (chunk_at a c) in
    let there = down_to (usage g chunk) (list_of a.lists c) in
    record a {
      chunks = slice_set a.chunks c (unless_gone (list_of a.lists c) there chunk);
      lists = settled_down a.lists c (list_of a.lists c) there;
    }

-- whether a subpage that is idle is the only one in its list
abbrev pub is_alone : List (ℕ × ℕ) → Bool
is_alone [] = true
is_alone (spot ∷ []) = true
is_alone (spot ∷ other ∷ rest) = false

-- an idle subpage that is not alone gives its run back
abbrev pub idle_given : Geometry → Arena → ℕ → ℕ → ℕ → Arena
idle_given g a class c page =
    if is_alone (front_of a class)
    then a
    else run_given g (with_front a class (without_subpage c page (front_of a class))) c page

-- an element is given back, and its subpage enters its list if it was full
abbrev pub element_given : Geometry → Arena → ℕ → ℕ → ℕ → ℕ → Elements → Arena
element_given g a class c page k e =
    let b = with_elements a c page class (with_back e k) in
    let d = (if is_full e then with_front b class ((c, page) ∷ front_of b class) else b) in
    if is_idle (with_back e k) then idle_given g d class c page else d

-- what a place of a small class leaves when it is given back
abbrev pub small_given : Geometry → Arena → ℕ → ℕ → ℕ → Arena
small_given g a class c offset =
    let page = run_start (offset / page_of g) (chunk_at a c) in
    let element = (offset - page_of g * page) / size_at class in
    unwrap_or (option_map (element_given g a class c page element) (elements_at a class c page)) a

-- what is left when a place of a class is given back
abbrev pub given_place : Geometry → Arena → ℕ → ℕ → ℕ → Arena
given_place g a class c offset =
    if is_small g class
    then small_given g a class c offset
    else run_given g a c (offset / page_of g)

-- the taking is out
abbrev pub is_out_of : Arena → RegionId → Bool
is_out_of a region = list_any (λ other. same_taking region other) a.out

-- the arena after a taking that is out is given back
abbrev pub give : Geometry → Arena → RegionId → Arena
give g a region =
    let b = given_place g a region.class region.place.chunk region.place.offset in
    record b { out = filter (λ other. not (same_taking region other)) a.out }

-- a note of taking says what is taken
abbrev pub as_noted : RegionId → Option (RegionId × Arena) → Option Arena
as_noted region None = None
as_noted region (Some t) = if same_region region t.0 then Some t.1 else None

-- an arena is full where nothing is taken
abbrev pub if_none : Option (RegionId × Arena) → Arena → Option Arena
if_none None a = Some a
if_none (Some t) a = None

-- what a note makes of an arena; none where it may not stand
abbrev pub arena_step : Geometry → ℕ → Arena → Did → Option Arena
arena_step g number a (Take class region) = as_noted region (take g number a class region.owner)
arena_step g number a (Full class) =
    if nat_lt class (class_count g) then if_none (take g number a class 0) a else None
arena_step g number a (Give region) = if is_out_of a region then Some (give g a region) else None
arena_step g number a _ = None

-- the chunks that are in a list
abbrev pub chunk_end : Geometry → ℕ → Arena → ℕ → Option Chunk → List ChunkEnd
chunk_end g number a c None = []
chunk_end g number a c (Some chunk) =
    listed (list_of a.lists c) (λ name. record {
      arena = number;
      chunk = c;
      list = name;
      used = used_bytes g chunk;
      free = free_bytes g chunk;
    })

-- the chunks that are in a list, from a chunk place on
abbrev pub chunk_ends_from : Geometry → ℕ → Arena → ℕ → List (Option Chunk) → List ChunkEnd
chunk_ends_from g number a c [] = []
chunk_ends_from g number a c (chunk ∷ rest) =
    chunk_end g number a c chunk ++ chunk_ends_from g number a (c + 1) rest

-- the chunks of an arena that are in a list
abbrev pub chunk_ends : Geometry → ℕ → Arena → List ChunkEnd
chunk_ends g number a = chunk_ends_from g number a 0 a.chunks
