-- A cache stands for one note more after each step, and its object accepts the note.
use Rattle.std.proofs.Common.{◌≡◌, ℕ, zero, suc, List, [], ◌∷◌, ◌++◌, refl, sym, ap, subst, arith, Bool, true, false, Some, None, ◌∙◌}
use Rattle.std.specs.Prelude.{if◌then◌else◌, Option, option_and_then}
use Rattle.std.specs.List.{All}
use Rattle.std.proofs.lemmas.List.Elements.{All-append}
use Rattle.ground.specs.Grounds.{Grounds}
use Rattle.pool_law.specs.declared.id.Region.{Region}
use Rattle.pool_law.specs.declared.note.Noted.{Noted}
use Rattle.pool_law.specs.declared.note.Did.{Did}
use Rattle.pool_law.specs.Limits.{cache_capacity}
use Rattle.pool_law.specs.Caches.{Cache, new_cache, cache_step, is_own, lane_cache_step}
use Rattle.pool_law.specs.Histories.{after, cache_after}
use Rattle.pool_law.specs.NotedHistories.{noted_dids}
use Rattle.pool_law.proofs.HistoryLemmas.{after-noted}
use Rattle.region_cache.specs.Queues.{Queue, cache_of, new_queue, Makes}
use Rattle.region_cache.specs.Standing.{IsRegionOf, cache_told, StandsFor}

-- a new cache stands for no notes
pub stands_new : (grounds : Grounds) (capacity : ℕ) → StandsFor grounds [] (new_queue capacity)
stands_new grounds capacity = record { told = refl; in_place = λ k d lt. absurd (omega (arith, lt)) }

-- after a step that a note makes the cache stands for one note more
pub stands_more : (grounds : Grounds) (h : List Noted) (n : Noted) (old new : Queue) →
    StandsFor grounds h old → Makes old n.did new → All (IsRegionOf grounds) new.regions →
    StandsFor grounds (h ++ n ∷ []) new
stands_more grounds h n old new stands makes in_place =
    let step : Cache → Did → Option Cache = cache_step old.capacity in
    let told : cache_told old.capacity (h ++ n ∷ []) ≡ Some (cache_of new) =
    after-noted step new_cache h n ∙ ap (option_and_then (λ c. step c n.did)) stands.told ∙ makes.step in
    record {
      told = subst (λ capacity. cache_told capacity (h ++ n ∷ []) ≡ Some (cache_of new)) (sym makes.capacity) told;
      in_place = in_place;
    }

-- the front and the regions behind it are in place
pub in_place_front : (grounds : Grounds) (r : Region) (rs : List Region) →
    All (IsRegionOf grounds) (r ∷ rs) → IsRegionOf grounds r
in_place_front grounds r rs all = all 0 r (omega arith)

pub in_place_rest : (grounds : Grounds) (r : Region) (rs : List Region) →
    All (IsRegionOf grounds) (r ∷ rs) → All (IsRegionOf grounds) rs
in_place_rest grounds r rs all k d lt = all (suc k) d (omega (arith, lt))

-- so are regions to which one in place is added
pub in_place_more : (grounds : Grounds) (rs : List Region) (r : Region) →
    All (IsRegionOf grounds) rs → IsRegionOf grounds r → All (IsRegionOf grounds) (rs ++ r ∷ [])
in_place_more grounds rs r all one = All-append (IsRegionOf grounds) rs (r ∷ []) all alone
  where
    alone : All (IsRegionOf grounds) (r ∷ [])
    alone zero d lt = one
    alone (suc k) d lt = absurd (omega (arith, lt))

-- what a lane's cache of a class makes of notes, a cache of that capacity makes of them
pub of_class : (lane class : ℕ) (ds : List Did) (s c : Cache) →
    after (lane_cache_step lane class) s ds ≡ Some c → after (cache_step (cache_capacity class)) s ds ≡ Some c
of_class lane class [] s c e = e
of_class lane class (d ∷ ds) s c e =
    go (is_own lane class d) (cache_step (cache_capacity class) s d) e (λ t. of_class lane class ds t c)
  where
    go : (own : Bool) (o : Option Cache) →
        option_and_then (λ t. after (lane_cache_step lane class) t ds) (if own then o else None) ≡ Some c →
        ((t : Cache) → after (lane_cache_step lane class) t ds ≡ Some c →
        after (cache_step (cache_capacity class)) t ds ≡ Some c) →
        option_and_then (λ t. after (cache_step (cache_capacity class)) t ds) o ≡ Some c
    go true None is rest = absurd (cc is)
    go true (Some t) is rest = rest t is
    go false o is rest = absurd (cc is)

-- by a history of its object, a cache that stands for it is the law's cache
pub stands_as_told : (grounds : Grounds) (lane class : ℕ) (h : List Noted) (q : Queue) (c : Cache) →
    StandsFor grounds h q → q.capacity ≡ cache_capacity class → cache_after lane class (noted_dids h) ≡ Some c →
    c ≡ cache_of q
stands_as_told grounds lane class h q c stands same accepted =
    let told : cache_told (cache_capacity class) h ≡ Some (cache_of q) =
    subst (λ capacity. cache_told capacity h ≡ Some (cache_of q)) same stands.told in
    let both : Some c ≡ Some (cache_of q) = sym (of_class lane class (noted_dids h) new_cache c accepted) ∙ told in
    cc both
