-- A chunk that settles once a run is taken from it or comes back.
use Rattle.std.proofs.Common.{◌≡◌, ℕ, ◌*◌, ◌<◌, ◌≤◌, List, [], length, refl, sym, ap, ◌∙◌, subst, Some, Bool, true, false, arith}
use Rattle.std.specs.Prelude.{Option, map, slice_get, slice_set, if◌then◌else◌, unwrap_or, nat_le}
use Rattle.std.proofs.lemmas.Bool.Decides.{nat_tests}
use Rattle.size_classes.specs.Sizes.{Geometry, chunk_pages}
use Rattle.size_classes.specs.Pages.{taken_at, given_at}
use Rattle.pool_law.specs.declared.report.ListName.{ListName}
use Rattle.pool_law.specs.Chunks.{Chunk, Use, usage}
use Rattle.pool_law.specs.ChunkLists.{list_of, least, greatest, lists_above, lists_below, risen, settled_up, settled_down, down_to}
use Rattle.pool_law.specs.Arenas.{chunk_at, with_run, run_given, unless_gone}
use Rattle.arena_laws.proofs.ListSteps.{down-other}
use Rattle.chunk_list.specs.Listing.{Listing, with_lists}
use Rattle.chunk_list.specs.Settling.{settled, goes_to, IsWithin}
use Rattle.chunk_list.proofs.SettlingLaws.{settled-is, settled-up, settled-down, sunk_stays}
use Rattle.pool_arena.specs.Places.{PlaceState, runs_of, with_chunk}
use Rattle.pool_arena.specs.SubpageLists.{SubpagesState}
use Rattle.pool_arena.specs.Stocks.{arena_in, Becomes}
use Rattle.pool_arena.specs.Held.{stock_in, HasRoomAt, AreSettled, IsStock}
use Rattle.pool_arena.specs.declared.stock.ChunkStock.TheInside.{Inside}
use Rattle.pool_arena.proofs.StockLaws.{sizes_of, Written, place-geometry, written-grounds, written-chunks, written-held, written-settled}

-- from the least usage of its list on a chunk goes to a list
goes-there : (percent : ℕ) (here : ListName) → least here ≤ percent
    → (name : ListName) × (goes_to percent (Some here) ≡ Some name)
goes-there percent here le = by (nat_le (greatest here) percent) refl
  where
    up : ListName
    up = risen percent here (lists_above here)

    by : (b : Bool) → nat_le (greatest here) percent ≡ b → (name : ListName) × (goes_to percent (Some here) ≡ Some name)
    by true e = (up, ap (λ (b : Bool). if b then Some up else down_to percent (Some here)) e)
    by false e = (
      here,
      ap (λ (b : Bool). if b then Some up else down_to percent (Some here)) e
          ∙ sunk_stays percent here (lists_below here) le,
    )

-- below the greatest usage of its list it goes down
goes-down : (percent : ℕ) (here : ListName) → percent < greatest here
    → goes_to percent (Some here) ≡ down_to percent (Some here)
goes-down percent here lt =
    ap (λ (b : Bool). if b then Some (risen percent here (lists_above here)) else down_to percent (Some here))
    (not-le (greatest here) percent lt)
  where
    not-le : (n m : ℕ) → m < n → nat_le n m ≡ false
    not-le n m lt' = grind (arith, nat_tests)

-- the second is the first with other runs at one place, which has settled
pub record Settles (s t : Inside) (c : ℕ) (x q : PlaceState) (runs : Chunk) : Type 0 where
  pub written : Written s t c x q
  pub here : ListName
  pub there : list_of s.lists.lists c ≡ Some here
  pub chunk_is : q.chunk ≡ unless_gone (list_of s.lists.lists c)
      (goes_to (usage s.classes runs) (list_of s.lists.lists c)) runs
  pub lists_are : t.lists ≡ with_lists s.lists (settled s.lists.lists c (usage s.classes runs))
  pub list_is : list_of t.lists.lists c ≡ goes_to (usage s.classes runs) (list_of s.lists.lists c)
  pub within : (name : ListName) → list_of t.lists.lists c ≡ Some name → IsWithin (usage s.classes runs) name

module _ (s t : Inside) (c : ℕ) (x q : PlaceState) (runs : Chunk) (d : Settles s t c x q runs) (is : IsStock s) where
  percent : ℕ
  percent = usage s.classes runs

  lists-settled : t.lists.lists ≡ settled s.lists.lists c (usage s.classes runs)
  lists-settled = ap (λ (l : Listing). l.lists) d.lists_are

  -- the chunk stays where it goes to a list
  chunk-stays : (name : ListName) → goes_to (usage s.classes runs) (list_of s.lists.lists c) ≡ Some name
      → q.chunk ≡ Some runs
  chunk-stays name goes =
      d.chunk_is ∙ ap (λ (o : Option ListName). unless_gone (list_of s.lists.lists c) o runs) goes
      ∙ ap (λ (o : Option ListName). unless_gone o (Some name) runs) d.there

  settle-settled : AreSettled (stock_in t)
  settle-settled =
      written-settled s t c x q d.written is
      (λ k other. ap (λ l. list_of l k)
      (lists-settled ∙ settled-is s.lists.lists c (usage s.classes runs) d.here d.there)
      ∙ down-other s.lists.lists c k (Some d.here) (goes_to (usage s.classes runs) (Some d.here)) other)
      (λ name listed.
      let stays : q.chunk ≡ Some runs = chunk-stays name (sym d.list_is ∙ listed) in
      subst (λ (rs : Chunk). IsWithin (usage s.classes rs) name) (sym (ap (λ (o : Option Chunk). unwrap_or o []) stays))
      (d.within name listed))

  pub settle-held : HasRoomAt (length s.places.items * chunk_pages s.classes) s.classes t.fronts.items → IsStock t
  settle-held rooms = written-held s t c x q d.written is rooms settle-settled

  -- after a run is taken
  pub settle-up : t.fronts.items ≡ s.fronts.items → least d.here ≤ usage s.classes runs → (at pages : ℕ) (what : Use)
      → runs ≡ taken_at at pages what (chunk_at (arena_in (stock_in s)) c)
      → Becomes (stock_in s) (λ a. with_run s.classes a c at pages what) (stock_in t)
  settle-up fronts le at pages what runs_are =
      let goes = goes-there (usage s.classes runs) d.here le in
      let stays : q.chunk ≡ Some runs = chunk-stays goes.0 (ap (goes_to (usage s.classes runs)) d.there ∙ goes.1) in
      let up : t.lists.lists ≡ settled_up s.lists.lists c (usage s.classes runs) (list_of s.lists.lists c) =
      lists-settled ∙ settled-up s.lists.lists c (usage s.classes runs) d.here d.there le in
      record {
        law = λ takings out.
            ap (λ (rs : Chunk). record {
              chunks = slice_set (stock_in s).chunks c (Some rs);
              lists = settled_up s.lists.lists c (usage s.classes rs) (list_of s.lists.lists c);
              fronts = (stock_in s).fronts;
              takings = takings;
              out = out;
            }) (sym runs_are)
            ∙ (λ i. record {
              chunks = (ap (slice_set (stock_in s).chunks c) (sym stays) ∙ sym (written-chunks s t c x q d.written)) i;
              lists = sym up i;
              fronts = ap (map (λ (f : SubpagesState). f.subpages)) (sym fronts) i;
              takings = takings;
              out = out;
            });
        geometry = d.written.classes;
        grounds = written-grounds s t c x q d.written;
      }

  -- after one comes back, among these fronts
  pub settle-down : (fronts : List (List (ℕ × ℕ))) → map (λ (f : SubpagesState). f.subpages) t.fronts.items ≡ fronts
      → usage s.classes runs < greatest d.here → (page : ℕ)
      → runs ≡ given_at page (chunk_at (arena_in (stock_in s)) c)
      → Becomes (stock_in s) (λ a. run_given s.classes (record a { fronts = fronts }) c page) (stock_in t)
  settle-down fronts fronts_are lt page runs_are =
      let goes : goes_to (usage s.classes runs) (list_of s.lists.lists c)
      ≡ down_to (usage s.classes runs) (list_of s.lists.lists c) =
      ap (goes_to (usage s.classes runs)) d.there ∙ goes-down (usage s.classes runs) d.here lt
      ∙ ap (down_to (usage s.classes runs)) (sym d.there) in
      let down : t.lists.lists ≡ settled_down s.lists.lists c (list_of s.lists.lists c)
      (down_to (usage s.classes runs) (list_of s.lists.lists c)) =
      lists-settled ∙ settled-down s.lists.lists c (usage s.classes runs) d.here d.there lt in
      let left : q.chunk ≡ unless_gone (list_of s.lists.lists c)
      (down_to (usage s.classes runs) (list_of s.lists.lists c)) runs =
      d.chunk_is ∙ ap (λ (o : Option ListName). unless_gone (list_of s.lists.lists c) o runs) goes in
      record {
        law = λ takings out.
            ap (λ (rs : Chunk). record {
              chunks =
                  slice_set (stock_in s).chunks c
                  (unless_gone (list_of s.lists.lists c) (down_to (usage s.classes rs) (list_of s.lists.lists c))
                  rs);
              lists =
                  settled_down s.lists.lists c (list_of s.lists.lists c)
                  (down_to (usage s.classes rs) (list_of s.lists.lists c));
              fronts = fronts;
              takings = takings;
              out = out;
            }) (sym runs_are)
            ∙ (λ i. record {
              chunks = (ap (slice_set (stock_in s).chunks c) (sym left) ∙ sym (written-chunks s t c x q d.written)) i;
              lists = sym down i;
              fronts = sym fronts_are i;
              takings = takings;
              out = out;
            });
        geometry = d.written.classes;
        grounds = written-grounds s t c x q d.written;
      }

-- what is said of a place that settles, in the words of what the arena has
pub settles-of : (s t : Inside) (is : IsStock s) (c : ℕ) (x y q : PlaceState) (here : ListName)
    → slice_get s.places.items c ≡ Some x
    → y.origin ≡ x.origin → y.geometry ≡ x.geometry → list_of s.lists.lists c ≡ Some here
    → t.places.items ≡ slice_set s.places.items c q → sizes_of t ≡ sizes_of s
    → t.lists ≡ with_lists s.lists (settled s.lists.lists c (usage y.geometry (runs_of y)))
    → q ≡ with_chunk y (unless_gone (list_of s.lists.lists c)
    (goes_to (usage y.geometry (runs_of y)) (list_of s.lists.lists c)) (runs_of y))
    → list_of t.lists.lists c ≡ goes_to (usage y.geometry (runs_of y)) (list_of s.lists.lists c)
    → ((name : ListName) → list_of t.lists.lists c ≡ Some name → IsWithin (usage y.geometry (runs_of y)) name)
    → Settles s t c x q (runs_of y)
settles-of s t is c x y q here found origin geometry there items sizes lists place list within =
    let g : y.geometry ≡ s.classes = geometry ∙ place-geometry s c x found is in
    record {
      written =
          record {
            found = found;
            items = items;
            origin = ap (λ (p : PlaceState). p.origin) place ∙ origin;
            geometry = ap (λ (p : PlaceState). p.geometry) place ∙ geometry;
            classes = ap (λ (x : Geometry × ℕ). x.0) sizes;
            page = ap (λ (x : Geometry × ℕ). x.1) sizes;
            places = ap (λ (l : Listing). l.places) lists;
          };
      here = here;
      there = there;
      chunk_is =
          subst (λ (h : Geometry). q.chunk ≡ unless_gone (list_of s.lists.lists c)
          (goes_to (usage h (runs_of y)) (list_of s.lists.lists c)) (runs_of y)) g
          (ap (λ (p : PlaceState). p.chunk) place);
      lists_are =
          subst (λ (h : Geometry). t.lists ≡ with_lists s.lists (settled s.lists.lists c (usage h (runs_of y)))) g
          lists;
      list_is =
          subst (λ (h : Geometry). list_of t.lists.lists c ≡ goes_to (usage h (runs_of y)) (list_of s.lists.lists c)) g
          list;
      within = λ name listed. subst (λ (h : Geometry). IsWithin (usage h (runs_of y)) name) g (within name listed);
    }
