-- An arena of which nothing is out, and the memory that it gives back.
use Rattle.std.proofs.Common.{◌≡◌, ◌≢◌, ℕ, ◌+◌, ◌<◌, ◌≤◌, List, [], ◌∷◌, length, get_or, refl, sym, ap, ◌∙◌, subst, Bool, true, false, Some, None, arith, inl, inr}
use Rattle.std.specs.Prelude.{◌⊎◌, ◌==◌, ◌&&◌, Option, All, not, unwrap_or, if◌then◌else◌}
use Rattle.std.specs.List.{list_all}
use Rattle.std.proofs.lemmas.Bool.{cond_both}
use Rattle.std.proofs.lemmas.Option.{slice_get-get_or}
use lib.Pow.{pow_pos}
use Rattle.size_classes.specs.Sizes.{Geometry, is_small}
use Rattle.size_classes.specs.Pages.{Run, Free, Used, pages_in, total_pages, free_in, free_pages, freed, replaced, given_at, NoneEmpty}
use Rattle.size_classes.specs.Runs.{Begins, EachRun}
use Rattle.size_classes.specs.Elements.{is_full, is_idle}
use Rattle.size_classes.proofs.Runs.{EachRun-Begins, replaced-EachRun, merged-EachRun}
use Rattle.pool_law.specs.declared.report.ListName.{ListName}
use Rattle.pool_law.specs.Chunks.{Chunk, Use, Whole, Sub, IsChunk, usage, new_chunk}
use Rattle.pool_law.specs.ChunkLists.{list_of, down_to}
use Rattle.pool_law.specs.Arenas.{Arena, chunk_at, front_of, without_subpage, unless_gone, run_given}
use Rattle.arena_laws.specs.Orderly.{IsOrderly, IsAtRest, ChunkAtRest, has_subpage, chunk_of}
use Rattle.arena_laws.proofs.ChunkSteps.{same_or-not}
use Rattle.arena_laws.proofs.ElementSteps.{some-elements}
use Rattle.arena_laws.proofs.FrontSteps.{spot-first, test-here, front-same, front-other}
use Rattle.arena_laws.proofs.ArenaSteps.{chunk_at-below}
use Rattle.arena_laws.proofs.OrderlyParts.{Roomy, roomy-of, has-room, elements-found, begins-listed, small-below, chunk_of-same, chunk_of-other}
use Rattle.arena_laws.proofs.OrderlyGives.{subpage_given-orderly}
use Rattle.pool_chunk.proofs.ChunkLaws.{subpage-fits}
use Rattle.pool_arena.specs.Places.{PlaceState, runs_of}
use Rattle.pool_arena.specs.Stocks.{StockState, arena_in, Becomes, HasChunk, IsIdleAt, subpage_given}
use Rattle.pool_arena.specs.Held.{stock_in, IsStock}
use Rattle.pool_arena.specs.Closing.{IsAllFree, IsResting, HasNoFront}
use Rattle.pool_arena.specs.declared.stock.ChunkStock.TheInside.{Inside}
use Rattle.pool_arena.proofs.StockLaws.{place-chunk_at, place-geometry}
use Rattle.pool_arena.proofs.UsageLaws.{all-free}
use Rattle.pool_arena.proofs.WalkLaws.{there}

-- ---- a chunk at rest

each-rest : (rs : Chunk) → ChunkAtRest rs → EachRun IsAtRest rs
each-rest [] rest = tt
each-rest (r ∷ rs) rest = (rest.0, each-rest rs rest.1)

rest-each : (rs : Chunk) → EachRun IsAtRest rs → ChunkAtRest rs
rest-each [] each = tt
rest-each (r ∷ rs) each = (each.0, rest-each rs each.1)

-- a run that begins there is at rest
run-rest : (rs : Chunk) (page : ℕ) (r : Run Use) → ChunkAtRest rs → Begins page r rs → IsAtRest r
run-rest rs page r rest b = EachRun-Begins IsAtRest rs page r (each-rest rs rest) b

-- so it is once a run comes back
given-rest : (rs : Chunk) (page : ℕ) (r : Run Use) → NoneEmpty rs → Begins page r rs → ChunkAtRest rs
    → ChunkAtRest (given_at page rs)
given-rest rs page r ne b rest =
    rest-each (given_at page rs)
    (merged-EachRun IsAtRest (replaced page freed rs) (λ n. tt)
    (replaced-EachRun IsAtRest rs page freed r ne b (tt, tt) (each-rest rs rest)))

gone-rest : (here to : Option ListName) (rs : Chunk) → ChunkAtRest rs
    → ChunkAtRest (unwrap_or (unless_gone here to rs) [])
gone-rest None to rs rest = rest
gone-rest (Some here) None rs rest = tt
gone-rest (Some here) (Some to) rs rest = rest

back-rest : (g : Geometry) (a : Arena) (c page : ℕ) (r : Run Use) → NoneEmpty (chunk_at a c)
    → Begins page r (chunk_at a c) → ((d : ℕ) → ChunkAtRest (chunk_at a d))
    → (d : ℕ) → ChunkAtRest (chunk_at (run_given g a c page) d)
back-rest g a c page r ne b rest d = by (same_or-not d c)
  where
    new : Chunk
    new = given_at page (chunk_at a c)

    left : Option Chunk
    left = unless_gone (list_of a.lists c) (down_to (usage g new) (list_of a.lists c)) new

    by : (d ≡ c) ⊎ (d ≢ c) → ChunkAtRest (chunk_at (run_given g a c page) d)
    by (inl same) =
        subst (λ (k : ℕ). ChunkAtRest (chunk_at (run_given g a c page) k)) (sym same)
        (subst (λ (o : Option Chunk). ChunkAtRest (unwrap_or o []))
        (sym (chunk_of-same a (run_given g a c page) c left refl (chunk_at-below a c page r b)))
        (gone-rest (list_of a.lists c) (down_to (usage g new) (list_of a.lists c)) new
        (given-rest (chunk_at a c) page r ne b (rest c))))
    by (inr other) =
        subst (λ (o : Option Chunk). ChunkAtRest (unwrap_or o []))
        (sym (chunk_of-other a (run_given g a c page) c d left refl other)) (rest d)

-- ---- the first subpage of a class

without-first : (c page : ℕ) (subpages : List (ℕ × ℕ))
    → without_subpage c page ((c, page) ∷ subpages) ≡ without_subpage c page subpages
without-first c page subpages =
    ap (λ (b : Bool). if not b then (c, page) ∷ without_subpage c page subpages else without_subpage c page subpages)
    (test-here c page)

without-length : (c page : ℕ) (subpages : List (ℕ × ℕ)) → length (without_subpage c page subpages) ≤ length subpages
without-length c page [] = omega arith
without-length c page (s ∷ subpages) =
    cond_both (not ((s.0 == c) && (s.1 == page))) (s ∷ without_subpage c page subpages)
    (without_subpage c page subpages)
    (λ z. length z ≤ length (s ∷ subpages))
    (λ _. omega (arith, without-length c page subpages))
    (λ _. omega (arith, without-length c page subpages))

module _ (v : StockState) (resting : IsResting v) (class c page : ℕ) (subpages : List (ℕ × ℕ))
    (small : is_small v.geometry class ≡ true)
    (front : front_of (arena_in v) class ≡ (c, page) ∷ subpages) where
  roomy : Roomy (arena_in v) class c page
  roomy =
      roomy-of (arena_in v) class c page
      ((resting.orderly.in_list class c page small).0 (ap (has_subpage c page) front ∙ spot-first c page subpages))

  pub first-some : NoneEmpty (chunk_at (arena_in v) c)
  first-some = (resting.orderly.sound c).none_empty

  pub first-idle : IsIdleAt v class c page
  first-idle =
      record {
        elements = roomy.elements;
        here = elements-found (arena_in v) class c page roomy.pages roomy.elements first-some roomy.begins;
        idle =
            run-rest (chunk_at (arena_in v) c) page (Used roomy.pages (Sub class roomy.elements)) (resting.rest c)
            roomy.begins;
      }

  pub first-there : HasChunk v c
  first-there =
      let o = resting.orderly in
      let name = there (list_of v.lists c)
      (begins-listed (arena_in v) c page (Used roomy.pages (Sub class roomy.elements)) o.listed roomy.begins) in
      let runs = there (chunk_of (arena_in v) c) (λ none. absurd (cc (sym name.1 ∙ (o.listed c).1 none))) in
      record { runs = runs.0; name = name.0; there = runs.1; listed = name.1 }

  module _ (w : StockState) (dropped : Becomes v (subpage_given v.geometry class c page) w) where
    dropped-is : subpage_given v.geometry class c page (arena_in v) ≡ arena_in w
    dropped-is = dropped.law 0 []

    pub dropped-resting : IsResting w
    dropped-resting =
        record {
          orderly =
              subst (λ (g : Geometry). IsOrderly g (arena_in w)) (sym dropped.geometry)
              (subst (λ (a : Arena). IsOrderly v.geometry a) dropped-is
              (subpage_given-orderly v.geometry (arena_in v) resting.orderly class c page roomy.pages roomy.elements
              small roomy.begins));
          rest =
              subst (λ (a : Arena). (d : ℕ) → ChunkAtRest (chunk_at a d)) dropped-is
              (back-rest v.geometry (record (arena_in v)
              { fronts = (subpage_given v.geometry class c page (arena_in v)).fronts }) c page
              (Used roomy.pages (Sub class roomy.elements)) first-some roomy.begins resting.rest);
        }

    pub dropped-shorter : length (front_of (arena_in w) class) < length (front_of (arena_in v) class)
    dropped-shorter =
        let below = small-below v.geometry (arena_in v) class resting.orderly small in
        let now : front_of (arena_in w) class ≡ without_subpage c page subpages =
        ap (λ (a : Arena). front_of a class) (sym dropped-is)
        ∙ front-same (arena_in v) class (without_subpage c page (front_of (arena_in v) class)) below
        ∙ ap (without_subpage c page) front ∙ without-first c page subpages in
        omega (arith, ap length now, ap length front, without-length c page subpages)

    pub dropped-other : (k : ℕ) → k ≢ class → front_of (arena_in w) k ≡ front_of (arena_in v) k
    dropped-other k other =
        ap (λ (a : Arena). front_of a k) (sym dropped-is)
        ∙ front-other (arena_in v) class k (without_subpage c page (front_of (arena_in v) class)) other

-- ---- an arena without a front is all free

-- a subpage of which nothing is out has a free element
idle-room : (out : List Bool) → 0 < length out → list_all not out ≡ true → list_all (λ b. b) out ≡ false
idle-room [] some idle = absurd (omega (arith, some))
idle-room (true ∷ out) some idle = absurd (cc idle)
idle-room (false ∷ out) some idle = refl

all-pages : (rs : Chunk) → ((page : ℕ) (r : Run Use) → Begins page r rs → pages_in r ≤ free_in r)
    → total_pages rs ≤ free_pages rs
all-pages [] each = omega arith
all-pages (r ∷ rs) each =
    omega (
      arith,
      each 0 r (inl (refl, refl)),
      all-pages rs
          (λ page s b. each (pages_in r + page) s (inr (page, refl, b))),
    )

module _ (g : Geometry) (a : Arena) (o : IsOrderly g a) (rest : (c : ℕ) → ChunkAtRest (chunk_at a c))
    (none : (class : ℕ) → is_small g class ≡ true → front_of a class ≡ []) (c : ℕ) (whole : IsChunk g (chunk_at a c))
  where
    run-free : (page : ℕ) (r : Run Use) → Begins page r (chunk_at a c) → pages_in r ≤ free_in r
    run-free page (Free n) b = omega arith
    run-free page (Used n Whole) b = absurd (run-rest (chunk_at a c) page (Used n Whole) (rest c) b)
    run-free page (Used n (Sub class e)) b =
        let fits = subpage-fits g (chunk_at a c) page n class e whole b in
        let idle : is_idle e ≡ true = run-rest (chunk_at a c) page (Used n (Sub class e)) (rest c) b in
        let room : is_full e ≡ false = idle-room e.out
        (omega (arith, fits.elements, some-elements g (o.sound c).page class fits.small)) idle in
        let listed = (o.in_list class c page fits.small).1
        (has-room a class c page whole.none_empty (record { pages = n; elements = e; begins = b; room = room })) in
        let both : false ≡ true = sym (ap (has_subpage c page) (none class fits.small)) ∙ listed in
        absurd (cc both)

    pub chunk-free : total_pages (chunk_at a c) ≤ free_pages (chunk_at a c)
    chunk-free = all-pages (chunk_at a c) run-free

-- each place of such an arena
pub places-free : (s : Inside) → IsStock s → IsResting (stock_in s) → HasNoFront (stock_in s)
    → All IsAllFree s.places.items
places-free s is resting none k d less =
    let x : PlaceState = get_or s.places.items k d in
    let found = slice_get-get_or s.places.items k d less in
    let runs : chunk_at (arena_in (stock_in s)) k ≡ runs_of x = place-chunk_at s k x found in
    λ whole. subst (λ (rs : Chunk). total_pages rs ≤ free_pages rs) runs
    (chunk-free s.classes (arena_in (stock_in s)) resting.orderly resting.rest none k
    (subst (λ (rs : Chunk). IsChunk s.classes rs) (sym runs)
    (subst (λ (g : Geometry). IsChunk g (runs_of x)) (place-geometry s k x found is) whole)))

-- ---- a place of which all is free

-- a chunk of free pages is one free run
pub whole-free : (g : Geometry) (rs : Chunk) → IsChunk g rs → total_pages rs ≤ free_pages rs → rs ≡ new_chunk g
whole-free g rs is all =
    all-free rs is.none_empty is.none_side_by_side all (omega (arith, is.covers, pow_pos g.order))
    ∙ ap (λ (k : ℕ). Free k ∷ []) is.covers
