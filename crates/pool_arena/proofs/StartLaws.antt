-- A chunk that comes into use.
use Rattle.std.proofs.Common.{◌≡◌, ℕ, ◌*◌, ◌-◌, ◌/◌, ◌<◌, List, [], length, sym, ap, ◌∙◌, subst, Some, None, Bool, false, arith, ne_eqb}
use Rattle.std.specs.Prelude.{Option, map, slice_set, if◌then◌else◌, ◌==◌, unwrap_or}
use Rattle.std.proofs.Math.Nat.{mul-div_cancel_left}
use Rattle.size_classes.specs.Pages.{free_pages}
use Rattle.size_classes.specs.Sizes.{Geometry, IsPage, page_of, chunk_pages, chunk_bytes}
use Rattle.pool_law.specs.declared.report.ListName.{ListName}
use Rattle.pool_law.specs.declared.report.ListName.TheVariants.{QInit}
use Rattle.pool_law.specs.Chunks.{Chunk, new_chunk, usage_of, usage, free_bytes}
use Rattle.pool_law.specs.ChunkLists.{list_of, entered}
use Rattle.pool_law.specs.Arenas.{opened}
use Rattle.arena_laws.proofs.ListSteps.{entered-other}
use Rattle.chunk_list.specs.Listing.{Listing, with_lists}
use Rattle.chunk_list.specs.Settling.{added, IsWithin}
use Rattle.chunk_list.proofs.ListsLemmas.{in_none}
use Rattle.chunk_list.proofs.SettlingLaws.{added-is}
use Rattle.pool_arena.specs.Places.{PlaceState, runs_of}
use Rattle.pool_arena.specs.Stocks.{Becomes}
use Rattle.pool_arena.specs.Held.{stock_in, HasRoomAt, IsStock}
use Rattle.pool_arena.specs.SubpageLists.{SubpagesState}
use Rattle.pool_arena.specs.declared.stock.ChunkStock.TheInside.{Inside}
use Rattle.pool_arena.proofs.UsageLaws.{size-some}
use Rattle.pool_arena.proofs.StockLaws.{Written, place-geometry, written-grounds, written-chunks, written-held, written-settled}

-- nothing of a new chunk is used
all-usage : (free size : ℕ) → free ≡ size → 0 < size → usage_of free size ≡ 0
all-usage free size same some =
    let not_none : (free == 0) ≡ false = ne_eqb free 0 (λ e. omega (arith, e, same, some)) in
    let quotient : (free * 100) / size ≡ 100 =
    ap (λ (n : ℕ). (n * 100) / size) same ∙ mul-div_cancel_left 100 some in
    ap (λ (b : Bool). if b then 100 else if (free * 100) / size == 0 then 99 else 100 - (free * 100) / size) not_none
    ∙ ap (λ (n : ℕ). if n == 0 then 99 else 100 - n) quotient

pub new-usage : (g : Geometry) → IsPage g.page → usage g (new_chunk g) ≡ 0
new-usage g page =
    let all : free_pages (new_chunk g) ≡ chunk_pages g = omega arith in
    all-usage (free_bytes g (new_chunk g)) (chunk_bytes g) (ap (λ (n : ℕ). page_of g * n) all) (size-some g page)

module _ (s t : Inside) (c : ℕ) (x q : PlaceState) (w : Written s t c x q) (is : IsStock s)
    (chunk_is : q.chunk ≡ Some (new_chunk x.geometry))
    (lists_are : t.lists ≡ with_lists s.lists (added s.lists.lists c 0))
    (fronts : t.fronts.items ≡ s.fronts.items) (unlisted : list_of s.lists.lists c ≡ None) where
  chunk-new : q.chunk ≡ Some (new_chunk s.classes)
  chunk-new = chunk_is ∙ ap (λ (g : Geometry). Some (new_chunk g)) (place-geometry s c x w.found is)

  lists-entered : t.lists.lists ≡ entered s.lists.lists QInit c
  lists-entered =
      ap (λ (l : Listing). l.lists) lists_are ∙ added-is s.lists.lists c 0 (in_none s.lists.lists c unlisted)

  pub start-held : (name : ListName) → list_of t.lists.lists c ≡ Some name → IsWithin 0 name → IsStock t
  start-held name listed within =
      written-held s t c x q w is
      (subst (λ (fs : List SubpagesState). HasRoomAt (length s.places.items * chunk_pages s.classes) s.classes fs)
      (sym fronts) is.fronts)
      (written-settled s t c x q w is
      (λ d other. ap (λ l. list_of l d) lists-entered ∙ entered-other s.lists.lists c d QInit other)
      (λ n here.
      let same : ◌≡◌ {A = Option ListName} (Some name) (Some n) = sym listed ∙ here in
      let usage_is : 0 ≡ usage s.classes (runs_of q) =
      sym (new-usage s.classes is.sizes.page) ∙ ap (λ (o : Option Chunk). usage s.classes (unwrap_or o []))
      (sym chunk-new) in
      subst (λ (k : ListName). IsWithin (usage s.classes (runs_of q)) k) (cc same)
      (subst (λ (u : ℕ). IsWithin u name) usage_is within)))

  pub start-law : Becomes (stock_in s) (λ a. opened s.classes a c) (stock_in t)
  start-law =
      record {
        law = λ takings out i. record {
          chunks = (ap (slice_set (stock_in s).chunks c) (sym chunk-new) ∙ sym (written-chunks s t c x q w)) i;
          lists = sym lists-entered i;
          fronts = ap (map (λ (f : SubpagesState). f.subpages)) (sym fronts) i;
          takings = takings;
          out = out;
        };
        geometry = w.classes;
        grounds = written-grounds s t c x q w;
      }
