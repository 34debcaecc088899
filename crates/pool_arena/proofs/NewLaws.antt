-- What is wanted, from the first chunk that has it or from a new one.
use Rattle.std.proofs.Common.{◌≡◌, ℕ, ◌*◌, ◌≤◌, List, [], ◌∷◌, refl, sym, ap, ◌∙◌, subst, true, Some, None, arith, eq-eqb}
use Rattle.std.specs.Prelude.{Option, option_map, slice_get, unwrap_or, nat_le, ◌==◌}
use Rattle.std.proofs.Math.Nat.{pow-le-pow_right}
use Rattle.std.proofs.lemmas.Bool.Decides.{nat_tests}
use Rattle.size_classes.specs.Sizes.{Geometry, IsPage, page_of, chunk_pages, page_class_under}
use Rattle.size_classes.specs.Pages.{Span, free_runs, chosen, NoneEmpty}
use Rattle.size_classes.proofs.Subpages.{subpage_pages_within}
use Rattle.pool_law.specs.declared.id.RegionId.{RegionId}
use Rattle.pool_law.specs.Chunks.{Chunk, Use, new_chunk}
use Rattle.pool_law.specs.ChunkLists.{list_of}
use Rattle.pool_law.specs.Arenas.{Arena, or_else, chunk_at, with_run, first_holding, first_unused, opened, run_from, run_taken, run_from_new}
use Rattle.arena_laws.specs.Orderly.{IsOrderly, chunk_of}
use Rattle.arena_laws.proofs.UsedSteps.{opened-below, opened-chunk}
use Rattle.arena_laws.proofs.ArenaSteps.{first_unused-is}
use Rattle.arena_laws.proofs.OrderlySteps.{opened-orderly}
use Rattle.pool_arena.specs.declared.place.Wanted.{Wanted}
use Rattle.pool_arena.specs.declared.place.Cut.{Cut}
use Rattle.pool_arena.specs.Places.{pages_wanted, use_wanted, IsWanted}
use Rattle.pool_arena.specs.Stocks.{StockState, arena_with, arena_in, Becomes, HasChunk, HasNoChunk, IsCutIn, found_in, CutsFrom, FindsNone, FindsIn, CutsOff}
use Rattle.pool_arena.proofs.WalkLaws.{there}

-- ---- from a chunk that is there

pub cuts-first : (old new : StockState) (wanted : Wanted) (chunk : ℕ) (cut : Cut) → FindsIn old wanted new chunk cut
    → CutsOff old wanted new chunk cut
cuts-first old new wanted chunk cut found =
    let g = old.geometry in
    let pages = pages_wanted g wanted in
    let what = use_wanted g wanted in
    record {
      page = found.cuts.page;
      yields =
          record {
            law = λ takings out.
                ap (run_taken g (arena_with old takings out) pages what) (found.first takings out)
                ∙ ap (λ (a : Arena). Some (chunk, found.cuts.page, a)) (found.cuts.becomes.law takings out);
            geometry = found.cuts.becomes.geometry;
            grounds = found.cuts.becomes.grounds;
          };
      fronts = ap (λ (a : Arena). a.fronts) (sym (found.cuts.becomes.law 0 []));
      given = found.cuts.given;
    }

-- ---- a place without a chunk

pub unused-none : (old : StockState) → IsOrderly old.geometry (arena_in old) → (c : ℕ)
    → first_unused old.chunks ≡ Some c → HasNoChunk old c
unused-none old o c unused =
    let none : chunk_of (arena_in old) c ≡ None = ap (λ (x : Option (Option Chunk)). unwrap_or x None)
    (first_unused-is old.chunks c unused) in
    record { within = opened-below old.geometry (arena_in old) c unused; none = none; unlisted = (o.listed c).1 none }

module _ (old mid : StockState) (o : IsOrderly old.geometry (arena_in old)) (c : ℕ)
    (unused : first_unused old.chunks ≡ Some c)
    (becomes : Becomes old (λ a. opened old.geometry a c) mid) where
  mid-is : opened old.geometry (arena_in old) c ≡ arena_in mid
  mid-is = becomes.law 0 []

  mid-orderly : IsOrderly old.geometry (arena_in mid)
  mid-orderly =
      subst (λ (a : Arena). IsOrderly old.geometry a) mid-is (opened-orderly old.geometry (arena_in old) c o unused)

  mid-chunk_at : chunk_at (arena_in mid) c ≡ new_chunk old.geometry
  mid-chunk_at = ap (λ (a : Arena). chunk_at a c) (sym mid-is) ∙ opened-chunk old.geometry (arena_in old) c unused

  pub mid-some : NoneEmpty (chunk_at (arena_in mid) c)
  mid-some = (mid-orderly.sound c).none_empty

  -- it has a chunk then
  pub mid-there : HasChunk mid c
  mid-there =
      let runs = there (chunk_of (arena_in mid) c)
      (λ none. absurd (cc (sym mid-chunk_at ∙ ap (λ (x : Option Chunk). unwrap_or x []) none))) in
      let name = there (list_of mid.lists c) (λ none. absurd (cc (sym runs.1 ∙ (mid-orderly.listed c).0 none))) in
      record { runs = runs.0; name = name.0; there = runs.1; listed = name.1 }

-- ---- a new chunk has what is wanted

one-chosen : (g : Geometry) (pages n : ℕ) → pages ≤ n → chosen g pages ((0, n) ∷ []) ≡ Some (0, n)
one-chosen g pages n le =
    let holds : nat_le pages n ≡ true = grind (arith, nat_tests) in
    let same : (page_class_under g n == page_class_under g n)
    ≡ true = eq-eqb (page_class_under g n) (page_class_under g n) refl in
    rw (holds, same) refl

few-pages : (g : Geometry) → 3 ≤ g.order → 7 ≤ chunk_pages g
few-pages g le = omega (arith, pow-le-pow_right {n = 2} (omega arith) le)

wanted-fits : (g : Geometry) → IsPage g.page → 3 ≤ g.order → (wanted : Wanted) → IsWanted g wanted
    → pages_wanted g wanted ≤ chunk_pages g
wanted-fits g page le (Wanted.Run pages) is = is.0
wanted-fits g page le (Wanted.Subpage class) is =
    omega (arith, (subpage_pages_within g page class is.1).1, few-pages g le)

module _ (old mid : StockState) (o : IsOrderly old.geometry (arena_in old)) (wanted : Wanted)
    (is : IsWanted old.geometry wanted) (c : ℕ)
    (unused : first_unused old.chunks ≡ Some c) (becomes : Becomes old (λ a. opened old.geometry a c) mid) where
  mid-found : found_in mid c wanted ≡ Some (0, chunk_pages old.geometry)
  mid-found =
      ap (λ (g : Geometry). chosen g (pages_wanted g wanted) (free_runs 0 (chunk_at (arena_in mid) c))) becomes.geometry
      ∙ ap (λ (rs : Chunk). chosen old.geometry (pages_wanted old.geometry wanted) (free_runs 0 rs))
      (mid-chunk_at old mid o c unused becomes)
      ∙ one-chosen old.geometry (pages_wanted old.geometry wanted) (chunk_pages old.geometry)
      (wanted-fits old.geometry (o.sound 0).page o.order wanted is)

  pub mid-has : found_in mid c wanted ≡ None → ⊥
  mid-has none = absurd (cc (sym mid-found ∙ none))

  cut-same : (s t : StockState) (chunk : ℕ) (w : Wanted) (page : ℕ) (cut : Cut) → t.grounds ≡ s.grounds
      → t.geometry ≡ s.geometry → IsCutIn t chunk w page cut → IsCutIn s chunk w page cut
  cut-same s t chunk (Wanted.Run pages) page (Cut.Run piece) grounds geometry at =
      record {
        origin = ap (λ os. slice_get os chunk) (sym grounds) ∙ at.origin;
        start = at.start ∙ ap (λ (g : Geometry). page_of g * page) geometry;
        size = at.size ∙ ap (λ (g : Geometry). page_of g * pages) geometry;
      }
  cut-same s t chunk (Wanted.Run pages) page (Cut.Subpage first) grounds geometry at = at
  cut-same s t chunk (Wanted.Subpage class) page (Cut.Run piece) grounds geometry at = at
  cut-same s t chunk (Wanted.Subpage class) page (Cut.Subpage first) grounds geometry at = at

  -- and gives it
  pub cuts-new : (new : StockState) (cut : Cut) → FindsNone old wanted → CutsFrom mid c wanted new cut
      → CutsOff old wanted new c cut
  cuts-new new cut none cuts =
      record {
        page = cuts.page;
        yields =
            record {
              law = λ takings out.
                  ap (run_taken g (arena_with old takings out) pages what) (none takings out)
                  ∙ ap (run_from_new g (arena_with old takings out) pages what) unused
                  ∙ ap (λ (b : Arena). option_map (run_from g b pages what) (first_holding g b pages (c ∷ [])))
                  (becomes.law takings out)
                  ∙ ap (λ (x : Option Span). option_map (run_from g (arena_with mid takings out) pages what)
                  (or_else (option_map (λ run. (c, run.0)) x) None)) found
                  ∙ ap (λ (a : Arena). Some (c, cuts.page, a)) (law takings out);
              geometry = cuts.becomes.geometry ∙ becomes.geometry;
              grounds = cuts.becomes.grounds ∙ becomes.grounds;
            };
        fronts = ap (λ (a : Arena). a.fronts) (sym (law 0 [])) ∙ ap (λ (a : Arena). a.fronts) (sym (becomes.law 0 []));
        given = cut-same old mid c wanted cuts.page cut becomes.grounds becomes.geometry cuts.given;
      }
    where
      g : Geometry
      g = old.geometry

      pages : ℕ
      pages = pages_wanted old.geometry wanted

      what : Use
      what = use_wanted old.geometry wanted

      found : chosen old.geometry (pages_wanted old.geometry wanted) (free_runs 0 (chunk_at (arena_in mid) c))
          ≡ Some (cuts.page, cuts.long)
      found =
          subst (λ (h : Geometry). chosen h (pages_wanted h wanted) (free_runs 0 (chunk_at (arena_in mid) c))
          ≡ Some (cuts.page, cuts.long)) becomes.geometry cuts.run

      law : (takings : ℕ) (out : List RegionId) →
          with_run old.geometry (arena_with mid takings out) c cuts.page (pages_wanted old.geometry wanted)
          (use_wanted old.geometry wanted) ≡ arena_with new takings out
      law takings out =
          subst (λ (h : Geometry). with_run h (arena_with mid takings out) c cuts.page (pages_wanted h wanted)
          (use_wanted h wanted) ≡ arena_with new takings out)
          becomes.geometry (cuts.becomes.law takings out)
