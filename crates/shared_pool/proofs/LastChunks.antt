-- The chunks that the arenas of a closed table have in a list are those that the notes tell.
use Rattle.std.proofs.Common.{◌≡◌, ℕ, zero, suc, ◌+◌, ◌<◌, ◌≤◌, List, [], ◌∷◌, ◌++◌, length, sym, refl, ap, ◌∙◌, subst, arith, append_assoc, append-nil, drop, Some, None}
use Rattle.std.specs.Prelude.{Option, IfSome, unwrap_or, slice_get}
use Rattle.step_law.specs.Settings.{Setting}
use Rattle.step_law.proofs.Changes.{in_list}
use Rattle.size_classes.specs.Sizes.{below}
use Rattle.pool_law.specs.declared.id.RegionId.{RegionId}
use Rattle.pool_law.specs.declared.note.Object.{Object}
use Rattle.pool_law.specs.declared.note.Object.TheVariants.{Arena as ArenaOf}
use Rattle.pool_law.specs.declared.report.ChunkEnd.{ChunkEnd}
use Rattle.pool_law.specs.Arenas.{listed, chunk_end, chunk_ends_from, chunk_ends}
use Rattle.pool_law.specs.Chunks.{Chunk}
use Rattle.pool_law.specs.Histories.{arena_after}
use Rattle.pool_law.specs.Homes.{home_of, IsObjectOf}
use Rattle.pool_law.specs.Legal.{ends_of, arena_ends, ends_from}
use Rattle.pool_law.specs.Limits.{geometry_of}
use Rattle.pool_law.proofs.LogLemmas.{ends-push}
use Rattle.history_laws.specs.Measures.{measures_of}
use Rattle.pool_table.specs.declared.views.Layout.{Layout}
use Rattle.pool_table.specs.declared.views.SeatView.{SeatView}
use Rattle.pool_table.specs.Closed.{IsClosed}
use Rattle.pool_table.specs.Views.{parts_of}
use Rattle.pool_arena.specs.ArenaStates.{ArenaState, law_of, end_of}
use Rattle.shared_pool.specs.Closing.{AreLanes, logs_in}
use Rattle.shared_pool.specs.Ends.{chunks_in, chunks_from, IsArenaOf, AreArenas}
use Rattle.shared_pool.specs.Standing.{HomeStands}
use Rattle.shared_pool.specs.declared.home.Home.{Home}
use Rattle.shared_pool.specs.declared.home.Home.TheVariants.{Arena, Cache, Bin, Root}
use Rattle.shared_pool.proofs.ArenaHomes.{as_told}
use Rattle.shared_pool.proofs.ClosingWhole.{dids_at}

-- what is told of one more
pub chunks_push : (homes : List (Option Home)) (ks : List ℕ) (k : ℕ)
    → chunks_from homes (ks ++ k ∷ []) ≡ chunks_from homes ks ++ chunks_in (slice_get homes k)
chunks_push homes [] k = append-nil (chunks_in (slice_get homes k))
chunks_push homes (j ∷ ks) k =
    ap (λ es. chunks_in (slice_get homes j) ++ es) (chunks_push homes ks k)
    ∙ sym (append_assoc (chunks_in (slice_get homes j)) (chunks_from homes ks) (chunks_in (slice_get homes k)))

-- what is left of a list from a place on
drop_at : (xs : List (Option Chunk)) (i : ℕ) → i < length xs
    → drop i xs ≡ unwrap_or (slice_get xs i) None ∷ drop (i + 1) xs
drop_at [] i lt = absurd (omega (arith, lt))
drop_at (x ∷ xs) zero lt = refl
drop_at (x ∷ xs) (suc i) lt =
    let n : ℕ = length xs in let lt' : suc i < suc n = lt in
    drop_at xs i (let g : i < n = omega (arith, lt') in g)
    ∙ ap (λ k. unwrap_or (slice_get xs i) None ∷ drop k (x ∷ xs))
    (let e : suc (i + 1) ≡ suc i + 1 = omega arith in e)

-- what is told of one chunk more
pub one_more : (a : ArenaState) (i : ℕ) (old new all : List ChunkEnd) (o : Option ChunkEnd) → i < length a.chunks
    → new ≡ old ++ listed o (λ e. e) → end_of a i ≡ listed o (λ e. e) →
    old ++ chunk_ends_from a.geometry a.number (law_of a []) i (drop i a.chunks) ≡ all
    → new ++ chunk_ends_from a.geometry a.number (law_of a []) (i + 1) (drop (i + 1) a.chunks) ≡ all
one_more a i old new all o lt added told rest =
    let left : List ChunkEnd = chunk_ends_from a.geometry a.number (law_of a []) (i + 1) (drop (i + 1) a.chunks) in
    ap (λ xs. xs ++ left) added ∙ append_assoc old (listed o (λ e. e)) left ∙ ap (λ xs. old ++ (xs ++ left)) (sym told)
    ∙ ap (λ xs. old ++ chunk_ends_from a.geometry a.number (law_of a []) i xs) (sym (drop_at a.chunks i lt)) ∙ rest

pub listed_most : {X : Type 0} (o : Option X) → length (listed o (λ x. x)) ≤ 1
listed_most None = omega arith
listed_most (Some x) = omega arith

-- an arena stands within the list
pub arena_within : (n : ℕ) (homes : List (Option Home)) (k : ℕ) → IsArenaOf n (slice_get homes k) → k < length homes
arena_within n [] k is = absurd is
arena_within n (x ∷ homes) zero is = omega arith
arena_within n (x ∷ homes) (suc k) is =
    let r = arena_within n homes k is in let m : ℕ = length homes in let r' : k < m = r in let g : suc k < suc m =
    omega (arith, r') in
    g

-- no chunk depends on the takings that are out
ends_out : (a : ArenaState) (out : List RegionId) (c : ℕ) (xs : List (Option Chunk))
    → chunk_ends_from a.geometry a.number (law_of a out) c xs ≡ chunk_ends_from a.geometry a.number (law_of a []) c xs
ends_out a out c [] = refl
ends_out a out c (None ∷ xs) = ends_out a out (c + 1) xs
ends_out a out c (Some x ∷ xs) =
    ap (λ es. chunk_end a.geometry a.number (law_of a []) c (Some x) ++ es) (ends_out a out (c + 1) xs)

module _ (l : Layout) (v : SeatView) (homes : List (Option Home)) (words : List ℕ)
    (closed : IsClosed HomeStands l v homes words) (lanes : AreLanes l.shape (parts_of v)) (setting : Setting)
    (known : v.setting ≡ Some setting) where
  -- the value of an object, which stands for its history
  pub record Stood (o : Object) (fits : IsObjectOf l.shape o) : Type 0 where
    pub value : Home
    pub here : slice_get homes (home_of l.shape o) ≡ Some (Some value)
    pub stands : HomeStands (measures_of l.shape o) setting (closed.objects o fits).history value

  pub stood : (o : Object) (fits : IsObjectOf l.shape o) → Stood o fits
  stood o fits =
      let h = (closed.objects o fits).home_is in
      record {
        value = h.0;
        here = in_list homes (home_of l.shape o) (Some h.0) h.1;
        stands =
            subst (λ (y : Option Setting). IfSome y
            (λ g. HomeStands (measures_of l.shape o) g (closed.objects o fits).history h.0)) known h.2;
      }

  -- an arena, with its chunks at the end
  arena_at : (k : ℕ) (fits : k < l.shape.arenas) (x : Home)
      → HomeStands (measures_of l.shape (ArenaOf k)) setting (closed.objects (ArenaOf k) fits).history x →
      IsArenaOf l.shape.chunks (Some (Some x))
      × (chunks_in (Some (Some x)) ≡ arena_ends l.shape (logs_in (parts_of v)) k)
  arena_at k fits (Arena a) at =
      let state : ArenaState = a.value in
      let out : List RegionId = at.stands.out in
      let number_is : k ≡ state.number = cc at.measured in
      let order_is : l.shape.order ≡ state.geometry.order = cc at.measured in
      let page_is : l.shape.page ≡ state.geometry.page = cc at.measured in
      let chunks_is : l.shape.chunks ≡ length state.chunks = cc at.measured in
      let told = ap (arena_after l.shape k) (dids_at HomeStands l v homes words closed lanes (ArenaOf k) fits)
      ∙ as_told l.shape setting k (closed.objects (ArenaOf k) fits).history state at in
      let geometry : state.geometry ≡ geometry_of l.shape =
      λ i. record { order = sym order_is i; page = sym page_is i } in
      let named : chunk_ends state.geometry state.number (law_of state out)
      ≡ chunk_ends (geometry_of l.shape) k (law_of state out) =
      λ i. chunk_ends (geometry i) (sym number_is i) (law_of state out) in
      (chunks_is, sym (ends_out state out 0 state.chunks) ∙ named ∙ sym (ap (ends_of l.shape k) told))
  arena_at k fits (Cache q) at = absurd (cc at.measured)
  arena_at k fits (Bin b) at = absurd (cc at.measured)
  arena_at k fits (Root s) at = absurd (cc at.measured)

  pub arenas_here : AreArenas l.shape homes
  arenas_here k lt =
      let s = stood (ArenaOf k) lt in
      subst (IsArenaOf l.shape.chunks) (sym s.here) (arena_at k lt s.value s.stands).0

  one_end : (k : ℕ) → k < l.shape.arenas → chunks_in (slice_get homes k) ≡ arena_ends l.shape (logs_in (parts_of v)) k
  one_end k lt = let s = stood (ArenaOf k) lt in ap chunks_in s.here ∙ (arena_at k lt s.value s.stands).1

  ends_below : (n : ℕ) → n ≤ l.shape.arenas → chunks_from homes (below n)
      ≡ ends_from l.shape (logs_in (parts_of v)) (below n)
  ends_below zero le = refl
  ends_below (suc n) le =
      let one = one_end n (omega (arith, le)) in let ih = ends_below n (omega (arith, le)) in
      chunks_push homes (below n) n ∙ (λ i. ih i ++ one i) ∙ sym (ends-push l.shape (logs_in (parts_of v)) (below n) n)

  -- the chunks are those that the notes tell
  pub chunks_told : chunks_from homes (below l.shape.arenas)
      ≡ ends_from l.shape (logs_in (parts_of v)) (below l.shape.arenas)
  chunks_told = ends_below l.shape.arenas (omega arith)
