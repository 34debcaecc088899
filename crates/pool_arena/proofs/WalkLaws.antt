-- The chunks in the order in which they are asked.
use Rattle.std.proofs.Common.{◌≡◌, ℕ, zero, suc, List, [], ◌∷◌, ◌++◌, drop, refl, ap, ◌∙◌, true, false, Some, None, eq-eqb}
use Rattle.std.specs.Prelude.{Option, ◌==◌, ◌||◌, slice_get, option_map}
use Rattle.std.proofs.lemmas.Bool.{or_parts, or_right}
use Rattle.pool_law.specs.declared.id.RegionId.{RegionId}
use Rattle.pool_law.specs.declared.report.ListName.TheVariants.{QInit, Q000, Q025, Q050, Q075}
use Rattle.size_classes.specs.Pages.{Span}
use Rattle.pool_law.specs.ChunkLists.{Lists, has, list_of, walk}
use Rattle.pool_law.specs.Arenas.{or_else, first_holding}
use Rattle.arena_laws.specs.Orderly.{IsOrderly, chunk_of}
use Rattle.arena_laws.proofs.ListSteps.{in-none}
use Rattle.pool_arena.specs.declared.place.Wanted.{Wanted}
use Rattle.pool_arena.specs.Places.{pages_wanted}
use Rattle.pool_arena.specs.Stocks.{StockState, arena_with, arena_in, HasChunk, found_in}

-- ---- the rest of a list

pub drop-step : {X : Type 0} (xs : List X) (k : ℕ) (x : X) → slice_get xs k ≡ Some x → drop k xs ≡ x ∷ drop (suc k) xs
drop-step [] k x e = absurd (cc e)
drop-step (y ∷ xs) zero x e = let same : y ≡ x = cc e in ap (λ z. z ∷ xs) same
drop-step (y ∷ xs) (suc k) x e = drop-step xs k x e

pub drop-end : {X : Type 0} (xs : List X) (k : ℕ) → slice_get xs k ≡ None → drop k xs ≡ []
drop-end [] zero e = refl
drop-end [] (suc k) e = refl
drop-end (y ∷ xs) zero e = absurd (cc e)
drop-end (y ∷ xs) (suc k) e = drop-end xs k e

-- ---- a chunk that is asked is in a list

has-there : (xs : List ℕ) (k c : ℕ) → slice_get xs k ≡ Some c → has c xs ≡ true
has-there [] k c e = absurd (cc e)
has-there (x ∷ xs) zero c e = let same : x ≡ c = cc e in ap (λ b. b || has c xs) (eq-eqb x c same)
has-there (x ∷ xs) (suc k) c e = ap (λ b. (x == c) || b) (has-there xs k c e) ∙ or_right (x == c) true refl

has-append : (c : ℕ) (xs ys : List ℕ) → has c xs ≡ false → has c ys ≡ false → has c (xs ++ ys) ≡ false
has-append c [] ys none rest = rest
has-append c (x ∷ xs) ys none rest =
    ap (λ b. b || has c (xs ++ ys)) (or_parts (x == c) (has c xs) none).0
    ∙ has-append c xs ys (or_parts (x == c) (has c xs) none).1 rest

pub walked : (l : Lists) (k c : ℕ) → slice_get (walk l) k ≡ Some c → list_of l c ≡ None → ⊥
walked l k c found none =
    let nowhere = in-none l c none in
    absurd
    (cc (
      has-there (walk l) k c found,
      has-append c l.q050 (l.q025 ++ (l.q000 ++ (l.init ++ l.q075))) (nowhere Q050)
          (has-append c l.q025 (l.q000 ++ (l.init ++ l.q075)) (nowhere Q025)
          (has-append c l.q000 (l.init ++ l.q075) (nowhere Q000)
          (has-append c l.init l.q075 (nowhere QInit) (nowhere Q075)))),
    ))

-- what is there where not nothing is
pub there : {X : Type 0} (o : Option X) → (o ≡ None → ⊥) → (x : X) × (o ≡ Some x)
there None e = absurd (e refl)
there (Some x) e = (x, refl)

-- so it has a chunk
pub walked-chunk : (s : StockState) → IsOrderly s.geometry (arena_in s) → (k c : ℕ)
    → slice_get (walk s.lists) k ≡ Some c → HasChunk s c
walked-chunk s o k c found =
    let name = there (list_of s.lists c) (walked s.lists k c found) in
    let runs = there (chunk_of (arena_in s) c) (λ none. walked s.lists k c found ((o.listed c).1 none)) in
    record { runs = runs.0; name = name.0; there = runs.1; listed = name.1 }

-- ---- the first that has a run

-- what is asked from the k-th chunk on
abbrev pub first_from : StockState → Wanted → ℕ → ℕ → List RegionId → Option (ℕ × ℕ)
first_from s wanted k takings out =
    first_holding s.geometry (arena_with s takings out) (pages_wanted s.geometry wanted) (drop k (walk s.lists))

module _ (s : StockState) (wanted : Wanted) (takings : ℕ) (out : List RegionId) where
  -- a chunk that has none is passed over
  pub first-passed : (k c : ℕ) → slice_get (walk s.lists) k ≡ Some c → found_in s c wanted ≡ None
      → first_from s wanted k takings out ≡ first_from s wanted (suc k) takings out
  first-passed k c at none =
      ap (first_holding s.geometry (arena_with s takings out) (pages_wanted s.geometry wanted))
      (drop-step (walk s.lists) k c at)
      ∙ ap (λ (o : Option Span). or_else (option_map (λ run. (c, run.0)) o) (first_from s wanted (suc k) takings out))
      none

  -- one that has a run is the first
  pub first-found : (k c page long : ℕ) → slice_get (walk s.lists) k ≡ Some c → found_in s c wanted ≡ Some (page, long)
      → first_from s wanted k takings out ≡ Some (c, page)
  first-found k c page long at found =
      ap (first_holding s.geometry (arena_with s takings out) (pages_wanted s.geometry wanted))
      (drop-step (walk s.lists) k c at)
      ∙ ap (λ (o : Option Span). or_else (option_map (λ run. (c, run.0)) o) (first_from s wanted (suc k) takings out))
      found

  -- past the last there is none
  pub first-none : (k : ℕ) → slice_get (walk s.lists) k ≡ None → first_from s wanted k takings out ≡ None
  first-none k at =
      ap (first_holding s.geometry (arena_with s takings out) (pages_wanted s.geometry wanted))
      (drop-end (walk s.lists) k at)
