-- What stood as a pool was closed, and what its threads have in common again where it was not.
use Rattle.std.proofs.Common.{◌≡◌, ◌⊎◌, ℕ, List, length, map, refl, sym, ap, ◌∙◌, subst}
use Rattle.std.specs.Coded.{Coded-set, coded_ℕ}
use Rattle.std.specs.Prelude.{Box, box_value}
use Rattle.std.proofs.lemmas.List.{length-map}
use Rattle.size_classes.specs.Sizes.{below, Geometry}
use Rattle.pool_law.specs.Legal.{ends_from}
use Rattle.pool_law.specs.Limits.{geometry_of}
use Rattle.leak_records.specs.declared.live.LiveRoot.{LiveRoot}
use Rattle.shared_pool.specs.declared.pool.SharedPool.{SharedPool}
use Rattle.shared_pool.specs.Closing.{logs_in}
use Rattle.shared_pool.specs.Live.{AreLiveRoots}
use Rattle.pool_member.specs.declared.member.Member.{Member}
use Rattle.pool_member.specs.Closing.{parts_of}
use Rattle.pool_member.specs.Threads.{HasOwnChannels}
use Rattle.pool_c.specs.declared.closing.PoolEnd.{PoolEnd}
use Rattle.pool_c.specs.declared.handle.PoolThread.{PoolThread}
use Rattle.pool_c.specs.declared.held.Common.{Common}
use Rattle.pool_c.specs.Closing.{AreEmpty, HasEnded, HasEndedAs}
use Rattle.pool_c.specs.Holding.{behind, Holding}
use Rattle.pool_c.specs.Opening.{ArePut}
use Rattle.pool_c.proofs.Closed.{all_have, members_back}

-- the end of the pool of these threads
pub has_ended : (c : Common) (pool : SharedPool) (ms : List Member) (hs : List Holding) (chunks : ℕ)
    (leaks : List LiveRoot) → map (behind c) ms ≡ hs → pool ≡ c.shared
    → chunks ≡ length (ends_from pool.table.layout.shape (logs_in (parts_of ms)) (below pool.table.layout.shape.arenas))
    → AreLiveRoots (parts_of ms) leaks → HasEndedAs hs (record { chunks = chunks; leaks = length leaks })
has_ended c pool ms hs chunks leaks held is told live =
    let end : PoolEnd = record { chunks = chunks; leaks = length leaks } in
    record {
      common = c;
      of = all_have c ms hs held;
      ended =
          subst (λ xs. HasEnded c xs end) (sym (members_back c ms hs held))
          (record {
            chunks =
                told
                ∙ ap (λ (p : SharedPool). length (ends_from p.table.layout.shape (logs_in (parts_of ms))
                (below p.table.layout.shape.arenas))) is;
            leaks = leaks;
            live = live;
            leaks_are = refl;
          });
    }

-- what threads have in common is known by its parts
module _ (x : Common) where
  sizes_once : IsProp (x.sizes ≡ geometry_of x.shared.table.layout.shape)
  sizes_once = hlevel (Coded-set coded_ℕ)

  threads_once : IsProp (x.threads ≡ x.shared.table.layout.shape.lanes)
  threads_once = Coded-set coded_ℕ x.threads x.shared.table.layout.shape.lanes

  own_once : IsProp (HasOwnChannels x.shared)
  own_once = hlevel (Coded-set coded_ℕ)

  abbrev IsMade : SharedPool → Geometry → ℕ → ℕ → Type 0
  IsMade shared sizes threads name =
      (sizes_are : sizes ≡ geometry_of shared.table.layout.shape)
      (threads_are : threads ≡ shared.table.layout.shape.lanes) (own : HasOwnChannels shared)
      → ◌≡◌ {A = Common} x (record {
        shared = shared;
        sizes = sizes;
        threads = threads;
        name = name;
        sizes_are = sizes_are;
        threads_are = threads_are;
        own = own;
      })

  is_made : IsMade x.shared x.sizes x.threads x.name
  is_made sizes_are threads_are own = λ i.
      record x {
        sizes_are = sizes_once x.sizes_are sizes_are i;
        threads_are = threads_once x.threads_are threads_are i;
        own = own_once x.own own i;
      }

  pub same_parts : (y : Common) → x.shared ≡ y.shared → x.sizes ≡ y.sizes → x.threads ≡ y.threads
      → x.name ≡ y.name → x ≡ y
  same_parts y shared sizes threads name =
      subst (λ (p : SharedPool × Geometry × ℕ × ℕ). IsMade p.0 p.1 p.2 p.3)
      (λ i. (shared i, sizes i, threads i, name i)) is_made y.sizes_are y.threads_are y.own

-- the threads that are behind handles again, or none
pub back_again : (x y : Common) (ms ns : List Member) (hs : List Holding) (threads : List PoolThread)
    → map (behind x) ms ≡ hs → ArePut (map (behind y) ns) threads ⊎ AreEmpty threads → ns ≡ ms → x ≡ y
    → ArePut hs threads ⊎ AreEmpty threads
back_again x y ms ns hs threads held put same is =
    subst (λ gs. ArePut gs threads ⊎ AreEmpty threads)
    (ap (λ (z : Common). map (behind z) ns) (sym is) ∙ ap (map (behind x)) same ∙ held) put

-- there are as many as there were boxes
pub as_many : {Z : Type 0} (c : Common) (ms : List Member) (all : List (Box Holding Z))
    → map (behind c) ms ≡ map box_value all → length ms ≡ length all
as_many c ms all held = sym (length-map ms (behind c)) ∙ ap length held ∙ length-map all box_value
