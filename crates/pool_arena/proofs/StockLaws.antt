-- What an arena has to give, by its fields, and after one of its chunk places is written.
use Rattle.std.proofs.Common.{◌≡◌, ◌≢◌, ℕ, ◌*◌, ◌<◌, ◌≤◌, List, [], length, sym, ap, ◌∙◌, subst, Some, None, arith, inl, inr}
use Rattle.std.specs.Prelude.{◌⊎◌, Option, map, slice_get, slice_set, All, unwrap_or, option_map}
use Rattle.std.proofs.lemmas.Option.{slice_get-map}
use Rattle.std.proofs.lemmas.List.{map-set, length-set, length-map}
use Rattle.std.proofs.Math.Seq.{map-set_same}
use Rattle.size_classes.specs.Sizes.{Geometry, IsGeometry, chunk_pages}
use Rattle.size_classes.specs.Pages.{NoneEmpty}
use Rattle.pool_law.specs.declared.report.ListName.{ListName}
use Rattle.pool_law.specs.Chunks.{Chunk, usage}
use Rattle.pool_law.specs.ChunkLists.{list_of}
use Rattle.pool_law.specs.Arenas.{chunk_at}
use Rattle.pool_law.proofs.ListLemmas.{slice_get-set_same, slice_get-set_other, slice_get-below}
use Rattle.arena_laws.specs.Orderly.{chunk_of}
use Rattle.arena_laws.proofs.ChunkSteps.{same_or-not}
use Rattle.chunk_list.specs.Listing.{Listing}
use Rattle.chunk_list.specs.Settling.{settled, IsWithin}
use Rattle.pool_arena.specs.Places.{PlaceState, runs_of}
use Rattle.pool_arena.specs.SubpageLists.{SubpagesState}
use Rattle.pool_arena.specs.Stocks.{StockState, arena_in}
use Rattle.pool_arena.specs.Held.{stock_in, HasRoomAt, AreSettled, IsStock}
use Rattle.pool_arena.specs.declared.stock.ChunkStock.TheInside.{Inside}
use Rattle.pool_arena.proofs.ListLaws.{All-set, read-is, some-of}

-- ---- one place

module _ (s : Inside) (c : ℕ) (x : PlaceState) (found : slice_get s.places.items c ≡ Some x) where
  pub place-within : c < length s.places.items
  place-within = slice_get-below s.places.items c x found

  pub place-chunk_of : chunk_of (arena_in (stock_in s)) c ≡ x.chunk
  place-chunk_of =
      ap (λ o. unwrap_or o None) (slice_get-map (λ (p : PlaceState). p.chunk) s.places.items c
      ∙ ap (option_map (λ (p : PlaceState). p.chunk)) found)

  pub place-chunk_at : chunk_at (arena_in (stock_in s)) c ≡ runs_of x
  place-chunk_at = ap (λ o. unwrap_or o []) place-chunk_of

  pub place-origin : slice_get (stock_in s).grounds c ≡ Some x.origin
  place-origin =
      slice_get-map (λ (p : PlaceState). p.origin) s.places.items c
      ∙ ap (option_map (λ (p : PlaceState). p.origin)) found

  pub place-geometry : IsStock s → x.geometry ≡ s.classes
  place-geometry is =
      subst (λ (p : PlaceState). p.geometry ≡ s.classes) (read-is s.places.items c x x found)
      (is.places c x place-within)

-- what is asked of the runs of a chunk is asked of those of its place
pub some_at : (s : Inside) (v : StockState) (c : ℕ) (x : PlaceState) → stock_in s ≡ v
    → slice_get s.places.items c ≡ Some x → NoneEmpty (chunk_at (arena_in v) c) → NoneEmpty (runs_of x)
some_at s v c x same found some =
    subst (λ (rs : Chunk). NoneEmpty rs)
    (ap (λ (w : StockState). chunk_at (arena_in w) c) (sym same) ∙ place-chunk_at s c x found) some

-- a place that has a chunk
pub place-of : (s : Inside) (c : ℕ) (runs : Chunk) → chunk_of (arena_in (stock_in s)) c ≡ Some runs
    → c < length s.places.items
place-of s c runs there =
    let chunks = slice_get-below (stock_in s).chunks c (Some runs)
    (some-of (slice_get (stock_in s).chunks c) runs there) in
    omega (arith, chunks, length-map s.places.items (λ (p : PlaceState). p.chunk))

-- ---- one place is written

-- the sizes that it holds
abbrev pub sizes_of : Inside → Geometry × ℕ
sizes_of s = (s.classes, s.page)

-- the second has another place at one chunk, on the same ground
pub record Written (s t : Inside) (c : ℕ) (x q : PlaceState) : Type 0 where
  pub found : slice_get s.places.items c ≡ Some x
  pub items : t.places.items ≡ slice_set s.places.items c q
  pub origin : q.origin ≡ x.origin
  pub geometry : q.geometry ≡ x.geometry
  pub classes : t.classes ≡ s.classes
  pub page : t.page ≡ s.page
  pub places : t.lists.places ≡ s.lists.places

module _ (s t : Inside) (c : ℕ) (x q : PlaceState) (w : Written s t c x q) where
  pub written-grounds : (stock_in t).grounds ≡ (stock_in s).grounds
  written-grounds =
      ap (map (λ (p : PlaceState). p.origin)) w.items
      ∙ map-set_same (λ (p : PlaceState). p.origin) s.places.items c q x
      (w.origin ∙ ap (λ (p : PlaceState). p.origin) (sym (read-is s.places.items c x x w.found)))

  pub written-chunks : (stock_in t).chunks ≡ slice_set (stock_in s).chunks c q.chunk
  written-chunks =
      ap (map (λ (p : PlaceState). p.chunk)) w.items ∙ map-set (λ (p : PlaceState). p.chunk) s.places.items c q

  pub written-length : length t.places.items ≡ length s.places.items
  written-length = ap length w.items ∙ length-set s.places.items c q

  -- its chunk is that of the new place, and the others are as before
  pub written-here : chunk_of (arena_in (stock_in t)) c ≡ q.chunk
  written-here =
      ap (λ (chunks : List (Option Chunk)). unwrap_or (slice_get chunks c) None) written-chunks
      ∙ ap (λ (o : Option (Option Chunk)). unwrap_or o None)
      (slice_get-set_same (stock_in s).chunks c q.chunk
      (omega (arith, place-within s c x w.found, length-map s.places.items (λ (p : PlaceState). p.chunk))))

  pub written-other : (d : ℕ) → d ≢ c → chunk_of (arena_in (stock_in t)) d ≡ chunk_of (arena_in (stock_in s)) d
  written-other d other =
      ap (λ (chunks : List (Option Chunk)). unwrap_or (slice_get chunks d) None) written-chunks
      ∙ ap (λ (o : Option (Option Chunk)). unwrap_or o None) (slice_get-set_other (stock_in s).chunks c d q.chunk other)

  -- what it keeps
  pub written-held : IsStock s → HasRoomAt (length s.places.items * chunk_pages s.classes) s.classes t.fronts.items
      → AreSettled (stock_in t) → IsStock t
  written-held is rooms settled =
      let order = ap (λ (g : Geometry). g.order) w.classes in
      record {
        least = subst (λ (g : Geometry). 3 ≤ g.order) (sym w.classes) is.least;
        order = subst (λ (g : Geometry). g.order ≤ 11) (sym w.classes) is.order;
        sizes = subst (λ (g : Geometry). IsGeometry g) (sym w.classes) is.sizes;
        page = w.page ∙ is.page ∙ ap (λ (g : Geometry). g.page) (sym w.classes);
        few = (omega (arith, written-length, is.few.0), omega (arith, written-length, is.few.1));
        lists = w.places ∙ is.lists ∙ sym written-length;
        places =
            subst (λ (ps : List PlaceState). All (λ (p : PlaceState). p.geometry ≡ t.classes) ps) (sym w.items)
            (subst (λ (g : Geometry). All (λ (p : PlaceState). p.geometry ≡ g) (slice_set s.places.items c q))
            (sym w.classes)
            (All-set (λ (p : PlaceState). p.geometry ≡ s.classes) s.places.items c q is.places
            (w.geometry ∙ place-geometry s c x w.found is)));
        fronts =
            subst (λ (n : ℕ). HasRoomAt (n * chunk_pages t.classes) t.classes t.fronts.items) (sym written-length)
            (subst (λ (g : Geometry). HasRoomAt (length s.places.items * chunk_pages g) g t.fronts.items)
            (sym w.classes) rooms);
        settled = settled;
      }

-- ---- the place is written as it was

module _ (s t : Inside) (c : ℕ) (x q : PlaceState) (w : Written s t c x q) (same : q ≡ x) (lists : t.lists ≡ s.lists)
    (fronts : t.fronts.items ≡ s.fronts.items) where
  pub unwritten-state : stock_in t ≡ stock_in s
  unwritten-state = λ i. record {
    geometry = w.classes i;
    grounds = written-grounds s t c x q w i;
    chunks =
        (ap (map (λ (p : PlaceState). p.chunk)) w.items
        ∙ map-set_same (λ (p : PlaceState). p.chunk) s.places.items c q x
        (ap (λ (p : PlaceState). p.chunk) (same ∙ sym (read-is s.places.items c x x w.found)))) i;
    lists = ap (λ (l : Listing). l.lists) lists i;
    fronts = ap (map (λ (f : SubpagesState). f.subpages)) fronts i;
  }

  pub unwritten-held : IsStock s → IsStock t
  unwritten-held is =
      written-held s t c x q w is
      (subst (λ (fs : List SubpagesState). HasRoomAt (length s.places.items * chunk_pages s.classes) s.classes fs)
      (sym fronts) is.fronts)
      (subst AreSettled (sym unwritten-state) is.settled)

-- ---- and its chunk settles

module _ (s t : Inside) (c : ℕ) (x q : PlaceState) (w : Written s t c x q) (is : IsStock s) where
  -- each chunk is still in the list in which its usage lies, if this one is
  pub written-settled : ((d : ℕ) → d ≢ c → list_of t.lists.lists d ≡ list_of s.lists.lists d)
      → ((name : ListName) → list_of t.lists.lists c ≡ Some name → IsWithin (usage s.classes (runs_of q)) name)
      → AreSettled (stock_in t)
  written-settled others here d name listed =
      subst (λ (g : Geometry). IsWithin (usage g (chunk_at (arena_in (stock_in t)) d)) name) (sym w.classes)
      (by (same_or-not d c))
    where
      by : (d ≡ c) ⊎ (d ≢ c) → IsWithin (usage s.classes (chunk_at (arena_in (stock_in t)) d)) name
      by (inl same) =
          subst (λ (k : ℕ). IsWithin (usage s.classes (chunk_at (arena_in (stock_in t)) k)) name) (sym same)
          (subst (λ (runs : Chunk). IsWithin (usage s.classes runs) name)
          (sym (ap (λ (o : Option Chunk). unwrap_or o []) (written-here s t c x q w)))
          (here name (subst (λ (k : ℕ). list_of t.lists.lists k ≡ Some name) same listed)))
      by (inr other) =
          subst (λ (runs : Chunk). IsWithin (usage s.classes runs) name)
          (sym (ap (λ (o : Option Chunk). unwrap_or o []) (written-other s t c x q w d other)))
          (is.settled d name (sym (others d other) ∙ listed))
