-- The home value of a cache: which it is, and what it stands for after a call.
use Rattle.std.proofs.Common.{◌≡◌, ℕ, List, [], ◌∷◌, ◌++◌, sym, ap, ◌∙◌, subst, refl, true}
use Rattle.std.specs.Prelude.{Option, Some, None, is_some, IsTrue, option_and_then, if◌then◌else◌}
use Rattle.std.specs.List.{All}
use Rattle.step_law.specs.Settings.{Setting}
use Rattle.step_law.specs.declared.Told.{Ghosts}
use Rattle.pool_law.specs.declared.run.Shape.{Shape}
use Rattle.pool_law.specs.declared.note.Did.{Did}
use Rattle.pool_law.specs.declared.note.Noted.{Noted}
use Rattle.pool_law.specs.declared.note.Object.TheVariants.{Cache as CacheOf}
use Rattle.pool_law.specs.Caches.{Cache as CacheState, new_cache, cache_step, lane_cache_step, is_own}
use Rattle.pool_law.specs.Limits.{cache_capacity}
use Rattle.pool_law.specs.Histories.{cache_after}
use Rattle.pool_law.specs.NotedHistories.{noted_dids, IsRightAt, IsRightWatch}
use Rattle.pool_law.specs.Naming.{noted_by}
use Rattle.pool_law.proofs.HistoryLemmas.{after-noted}
use Rattle.history_laws.specs.Histories.{IsLawful, IsCacheAfter}
use Rattle.history_laws.specs.Measures.{measures_of}
use Rattle.history_laws.proofs.Runs.{right_push}
use Rattle.history_laws.proofs.Told.{cache_there}
use Rattle.region_cache.specs.Queues.{Queue, cache_of, Makes}
use Rattle.region_cache.specs.Standing.{IsRegionOf, cache_told}
use Rattle.region_cache.proofs.StandingLaws.{stands_more, stands_as_told, of_class}
use Rattle.pool_table.specs.declared.views.Layout.{Layout}
use Rattle.pool_table.specs.declared.table.PoolSeat.{PoolSeat}
use Rattle.pool_table.specs.declared.table.Section.{Section}
use Rattle.pool_table.specs.Seats.{view_of}
use Rattle.pool_table.specs.Sections.{GotSection}
use Rattle.shared_pool.specs.declared.home.Home.{Home}
use Rattle.shared_pool.specs.declared.home.Home.TheVariants.{Arena, Cache, Bin, Root}
use Rattle.shared_pool.specs.Standing.{HomeStands, HasClassLength, IsCacheAt, IsCache, IfCache}
use Rattle.shared_pool.specs.Notes.{plain}
use Rattle.shared_pool.proofs.Endings.{IsNext, plain_watch}

-- the regions are as long as their classes say
abbrev pub Lens : Queue → Type 0
Lens q = All (λ r. HasClassLength r.id) q.regions

-- a step of the cache stands for a note more, where its regions are in place and of their lengths
pub cache_more : (did : Did) (old new : Queue) → Makes old did new
    → (measures : List ℕ) (setting : Setting) (h : List Noted) (n : Noted) → n.did ≡ did →
    All (IsRegionOf setting.grounds) new.regions → Lens new → IsCacheAt measures setting h old
    → IsCacheAt measures setting (h ++ n ∷ []) new
cache_more did old new makes measures setting h n is in_place lens at =
    record {
      lane = at.lane;
      class = at.class;
      measured = at.measured;
      capacity = makes.capacity ∙ at.capacity;
      stands = stands_more setting.grounds h n old new at.stands (subst (λ d. Makes old d new) (sym is) makes) in_place;
      lens = lens;
    }

pub is_cache : (setting : Setting) (h : List Noted) (lane class : ℕ) (home : Home)
    → HomeStands (1 ∷ lane ∷ class ∷ []) setting h home → IsCache home
is_cache setting h lane class (Arena a) at = absurd (cc at.measured)
is_cache setting h lane class (Cache q) at = tt
is_cache setting h lane class (Bin b) at = absurd (cc at.measured)
is_cache setting h lane class (Root s) at = absurd (cc at.measured)

-- the value is the law's cache after its history
pub cache_has : (s : Shape) (setting : Setting) (lane class : ℕ) (h : List Noted) (home : Home) (P : Queue → Type 0)
    → HomeStands (measures_of s (CacheOf lane class)) setting h home → IsCache home →
    ((q : Queue) (c : CacheState) → IsCacheAfter lane class h c → c ≡ cache_of q → P q)
    → IsLawful s (CacheOf lane class) h → IfCache home P
cache_has s setting lane class h (Cache q) P at is so accepted =
    let c = cache_there s lane class h accepted in
    so q.value c.0 c.1 (stands_as_told setting.grounds lane class h q.value c.0 at.stands
    (at.capacity ∙ ap cache_capacity class_is) c.1)
  where
    class_is : at.class ≡ class
    class_is = cc at.measured
cache_has s setting lane class h (Arena a) P at is so accepted = absurd is
cache_has s setting lane class h (Bin b) P at is so accepted = absurd is
cache_has s setting lane class h (Root r) P at is so accepted = absurd is

-- what a cache of that capacity makes of a note, the lane's makes of it, if it is of the lane
step_of_lane : (lane class : ℕ) (h : List Noted) (n : Noted) (x : CacheState)
    → IsTrue (is_some (cache_after lane class (noted_dids h))) → is_own lane class n.did ≡ true →
    cache_told (cache_capacity class) (h ++ n ∷ []) ≡ Some x
    → IsTrue (is_some (cache_after lane class (noted_dids (h ++ n ∷ []))))
step_of_lane lane class h n x accepted own told = go (cache_after lane class (noted_dids h)) refl accepted
  where
    go : (o : Option CacheState) → cache_after lane class (noted_dids h) ≡ o → IsTrue (is_some o)
        → IsTrue (is_some (cache_after lane class (noted_dids (h ++ n ∷ []))))
    go None is there = absurd (cc there)
    go (Some c) is there =
        let step : CacheState → Did → Option CacheState = cache_step (cache_capacity class) in
        let by_class : step c n.did ≡ Some x =
        sym (after-noted step new_cache h n ∙ ap (option_and_then (λ t. step t n.did))
        (of_class lane class (noted_dids h) new_cache c is)) ∙ told in
        let by_lane : cache_after lane class (noted_dids (h ++ n ∷ [])) ≡ Some x =
        after-noted (lane_cache_step lane class) new_cache h n
        ∙ ap (option_and_then (λ t. lane_cache_step lane class t n.did)) is
        ∙ ap (λ b. if b then step c n.did else None) own
        ∙ by_class in
        ap is_some by_lane

pub cache_follows : (s : Shape) (setting : Setting) (lane class : ℕ) (h : List Noted) (n : Noted) (home : Home)
    → IsLawful s (CacheOf lane class) h → IsCache home → is_own lane class n.did ≡ true →
    HomeStands (measures_of s (CacheOf lane class)) setting (h ++ n ∷ []) home → IsRightAt (CacheOf lane class) h n
    → IsLawful s (CacheOf lane class) (h ++ n ∷ [])
cache_follows s setting lane class h n (Cache q) t is own at right =
    record {
      accepted =
          step_of_lane lane class h n (cache_of q.value) t.accepted own
          (subst (λ m. cache_told m (h ++ n ∷ []) ≡ Some (cache_of q.value))
          (at.capacity ∙ ap cache_capacity class_is) at.stands.told);
      right = right_push (CacheOf lane class) h n t.right right;
    }
  where
    class_is : at.class ≡ class
    class_is = cc at.measured
cache_follows s setting lane class h n (Arena a) t is own at right = absurd is
cache_follows s setting lane class h n (Bin b) t is own at right = absurd is
cache_follows s setting lane class h n (Root r) t is own at right = absurd is

-- after a call on the cache its note follows, and the home value stands for it
module _ {G : Ghosts Home Noted} (l : Layout) (lane class : ℕ) (old new : PoolSeat Home G) (section : Section Home)
    (got : GotSection HomeStands l (CacheOf lane class) old new section) (setting : Setting)
    (known : (view_of old).setting ≡ Some setting) where
  pub next : (after : Section Home) (did : Did) → after.object ≡ section.object → after.slot ≡ section.slot
      → IsCache after.home → is_own lane class did ≡ true →
      ((n : Noted) → n.did ≡ did → HomeStands (measures_of l.shape (CacheOf lane class)) setting (got.history ++ n ∷ [])
      after.home) →
      (n : Noted) → n ≡ plain did → IsNext l (CacheOf lane class) old new section got setting known after n
  next after did same_object same_slot cache own more n is =
      let m : Noted = noted_by (view_of old).own.number n in
      let did_is : n.did ≡ did = ap (λ (x : Noted). x.did) is in
      let stands = more m did_is in
      record {
        same_object = same_object;
        same_slot = same_slot;
        follows =
            cache_follows l.shape setting lane class got.history m after.home got.learned.accepted cache
            (ap (is_own lane class) did_is ∙ own) stands (
              ap (λ (x : Noted). x.root) is,
              ap (λ (x : Noted). x.region) is,
              subst
                  (λ (x : Noted). IsRightWatch x.did x.watch) (sym is) (plain_watch did),
            );
        stands = stands;
      }
