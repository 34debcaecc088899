-- Each home value with which a pool opens stands for no notes, under what they settle.
use Rattle.std.proofs.Common.{◌≡◌, ℕ, ◌+◌, ◌*◌, ◌%◌, ◌<◌, List, [], ◌∷◌, length, map, sym, ap, ◌∙◌, subst, refl, arith}
use Rattle.std.specs.Prelude.{Some, None, slice_get, filter_map, unwrap_or}
use Rattle.std.proofs.lemmas.List.{length-map, length-replicate}
use Rattle.std.proofs.lemmas.List.Elements.{All-nil}
use Rattle.ground.specs.Ground.{Origin}
use Rattle.step_law.specs.Settings.{Setting}
use Rattle.pool_law.specs.declared.id.Region.{Region}
use Rattle.pool_law.specs.declared.note.Object.TheVariants.{Arena as ArenaOf, Cache as CacheOf, Bin as BinOf, Mail as MailOf, Root as RootOf}
use Rattle.pool_law.specs.declared.run.Shape.{Shape}
use Rattle.pool_law.specs.Arenas.{Arena as ArenaLaw, new_arena}
use Rattle.pool_law.specs.Homes.{objects_of}
use Rattle.pool_law.specs.Limits.{cache_capacity}
use Rattle.pool_law.proofs.ListLemmas.{get-map}
use Rattle.history_laws.specs.Measures.{measures_of}
use Rattle.pool_arena.specs.ArenaStates.{ArenaState, IsNew}
use Rattle.region_cache.proofs.StandingLaws.{stands_new as cache_new}
use Rattle.handle_bin.proofs.StandingLaws.{stands_new as bin_new}
use Rattle.pool_table.specs.Opened.{StandAtFirst}
use Rattle.shared_pool.specs.declared.home.Home.{Home}
use Rattle.shared_pool.specs.declared.home.Home.TheVariants.{Arena, Cache, Bin, Root}
use Rattle.shared_pool.specs.Settling.{grounds_in, settled_by}
use Rattle.shared_pool.specs.Standing.{HomeStands, HasClassLength, IsArenaAt, IsCacheAt, IsBinAt, IsPlaceAt}
use Rattle.shared_pool.specs.Opening.{IsFirstArena, IsCacheOf, IsFirstCache, IsFirstBin, IsNewRoot, AreFirst}
use Rattle.shared_pool.proofs.Openings.{added, kept, longer_by, silent, told_at}

-- ---- A new value stands for no notes.

chunks_are : (s : Shape) (k : ℕ) (a : ArenaState) → IsNew k s.page s.order s.chunks a → length a.chunks ≡ s.chunks
chunks_are s k a new = ap (λ (x : ArenaLaw). length x.chunks) new.law ∙ length-replicate s.chunks None

arena_stands : (s : Shape) (g : Setting) (k : ℕ) (a : ArenaState) → IsNew k s.page s.order s.chunks a
    → slice_get g.grounds k ≡ Some a.grounds → IsArenaAt (measures_of s (ArenaOf k)) g [] a
arena_stands s g k a new here =
    record {
      measured =
          λ i.
          0 ∷ sym new.number_is i ∷ (sym new.geometry i).order ∷ (sym new.geometry i).page ∷ sym (chunks_are s k a new)
          i ∷ [];
      stands = record {
        out = [];
        told = ap (λ (x : ArenaLaw). Some x) ((λ i. new_arena (new.geometry i) (chunks_are s k a new i)) ∙ sym new.law);
        on = subst (λ (n : ℕ). slice_get g.grounds n ≡ Some a.grounds) (sym new.number_is) here;
      };
    }

cache_stands : (s : Shape) (g : Setting) (lane class : ℕ) (x : Home) → IsCacheOf class x
    → HomeStands (measures_of s (CacheOf lane class)) g [] x
cache_stands s g lane class (Cache q) is =
    subst (IsCacheAt (1 ∷ lane ∷ class ∷ []) g []) (sym is)
    (record {
      lane = lane;
      class = class;
      measured = refl;
      capacity = refl;
      stands =
          cache_new g.grounds (cache_capacity class);
      lens = All-nil (λ (r : Region). HasClassLength r.id);
    })
cache_stands s g lane class (Arena a) is = absurd is
cache_stands s g lane class (Bin b) is = absurd is
cache_stands s g lane class (Root r) is = absurd is

bin_stands : (s : Shape) (g : Setting) (lane : ℕ) (x : Home) → IsFirstBin s.handles lane x
    → HomeStands (measures_of s (BinOf lane)) g [] x
bin_stands s g lane (Bin b) is =
    subst (IsBinAt (2 ∷ lane ∷ s.handles ∷ []) g []) (sym is)
    (record { measured = refl; stands = bin_new g.grounds lane s.handles })
bin_stands s g lane (Arena a) is = absurd is
bin_stands s g lane (Cache q) is = absurd is
bin_stands s g lane (Root r) is = absurd is

root_stands : (s : Shape) (g : Setting) (place : ℕ) (x : Home) → IsNewRoot x
    → HomeStands (measures_of s (RootOf place)) g [] x
root_stands s g place (Root r) is =
    subst (IsPlaceAt (4 ∷ place ∷ s.handles ∷ s.lanes ∷ s.order ∷ s.page ∷ []) g []) (sym is)
    (record {
      place = place;
      handles = s.handles;
      lanes = s.lanes;
      order = s.order;
      page = s.page;
      measured =
          refl;
      stands = record { told = refl; root = tt };
      region = tt;
    })
root_stands s g place (Arena a) is = absurd is
root_stands s g place (Cache q) is = absurd is
root_stands s g place (Bin b) is = absurd is

-- ---- What tells of no grounds.

cache_quiet : (class : ℕ) (x : Home) → IsCacheOf class x → grounds_in x ≡ None
cache_quiet class (Cache q) is = refl
cache_quiet class (Arena a) is = absurd is
cache_quiet class (Bin b) is = absurd is
cache_quiet class (Root r) is = absurd is

bin_quiet : (handles k : ℕ) (x : Home) → IsFirstBin handles k x → grounds_in x ≡ None
bin_quiet handles k (Bin b) is = refl
bin_quiet handles k (Arena a) is = absurd is
bin_quiet handles k (Cache q) is = absurd is
bin_quiet handles k (Root r) is = absurd is

root_quiet : (x : Home) → IsNewRoot x → grounds_in x ≡ None
root_quiet (Root r) is = refl
root_quiet (Arena a) is = absurd is
root_quiet (Cache q) is = absurd is
root_quiet (Bin b) is = absurd is

-- the grounds of an arena, and none of another value
abbrev grounds_at : Home → List Origin
grounds_at x = unwrap_or (grounds_in x) []

arena_tells : (s : Shape) (k : ℕ) (x : Home) → IsFirstArena s k x → grounds_in x ≡ Some (grounds_at x)
arena_tells s k (Arena a) is = refl
arena_tells s k (Cache q) is = absurd is
arena_tells s k (Bin b) is = absurd is
arena_tells s k (Root r) is = absurd is

arena_home_stands : (s : Shape) (g : Setting) (k : ℕ) (x : Home) → IsFirstArena s k x
    → slice_get g.grounds k ≡ Some (grounds_at x) → HomeStands (measures_of s (ArenaOf k)) g [] x
arena_home_stands s g k (Arena a) is here = arena_stands s g k a.value is here
arena_home_stands s g k (Cache q) is here = absurd is
arena_home_stands s g k (Bin b) is here = absurd is
arena_home_stands s g k (Root r) is here = absurd is

-- the class of a place in rows of forty
column : (lane class : ℕ) → class < 40 → (lane * 40 + class) % 40 ≡ class
column lane class lt = omega (arith, lt)

-- ---- All of them together.

module _ (s : Shape) (homes : List Home) (f : AreFirst s homes) where
  len_first : length f.first ≡ s.arenas
  len_first =
      longer_by (IsFirstArena s) s.arenas [] f.first f.arenas ∙ (let e : 0 + s.arenas ≡ s.arenas = omega arith in e)

  len_second : length f.second ≡ s.arenas + s.lanes * 40
  len_second = longer_by IsFirstCache (s.lanes * 40) f.first f.second f.caches ∙ ap (λ n. n + s.lanes * 40) len_first

  len_third : length f.third ≡ s.arenas + s.lanes * 41
  len_third =
      let a = longer_by (IsFirstBin s.handles) s.lanes f.second f.third f.bins in let b = len_second in
      omega (arith, a, b)

  first_is : (k : ℕ) (x : Home) → slice_get f.first k ≡ Some x → IsFirstArena s k x
  first_is k x e = f.arenas.each k x (subst (λ xs. slice_get xs k ≡ Some x) f.arenas.is e)

  grounds_are : filter_map grounds_in homes ≡ map grounds_at f.first
  grounds_are =
      silent grounds_in (λ k. IsNewRoot) (s.lanes * s.handles) f.third homes f.roots (λ k x lt is. root_quiet x is)
      ∙ (silent grounds_in (IsFirstBin s.handles) s.lanes f.second f.third f.bins
      (λ k x lt is. bin_quiet s.handles k x is)
      ∙ (silent grounds_in IsFirstCache (s.lanes * 40) f.first f.second f.caches
      (λ k x lt is. cache_quiet (k % 40) x is)
      ∙ told_at grounds_in f.first grounds_at (λ k x e. arena_tells s k x (first_is k x e))))

  -- they settle the grounds of each arena
  pub grounds_many : length (filter_map grounds_in homes) ≡ s.arenas
  grounds_many = ap length grounds_are ∙ (length-map f.first grounds_at ∙ len_first)

  -- there is one for each object
  pub homes_many : length homes ≡ objects_of s
  homes_many =
      longer_by (λ k. IsNewRoot) (s.lanes * s.handles) f.third homes f.roots
      ∙ ap (λ n. n + s.lanes * s.handles) len_third

  from_third : (k : ℕ) (x : Home) → slice_get f.third k ≡ Some x → slice_get homes k ≡ Some x
  from_third k x e = kept (λ k. IsNewRoot) (s.lanes * s.handles) f.third homes f.roots k x e

  from_second : (k : ℕ) (x : Home) → slice_get f.second k ≡ Some x → slice_get homes k ≡ Some x
  from_second k x e = from_third k x (kept (IsFirstBin s.handles) s.lanes f.second f.third f.bins k x e)

  from_first : (k : ℕ) (x : Home) → slice_get f.first k ≡ Some x → slice_get homes k ≡ Some x
  from_first k x e = from_second k x (kept IsFirstCache (s.lanes * 40) f.first f.second f.caches k x e)

  -- each home value stands for no notes
  pub all_stand : StandAtFirst HomeStands s (settled_by homes) homes
  all_stand (ArenaOf a) fits =
      let t = added (IsFirstArena s) s.arenas [] f.first f.arenas a fits in
      let at : slice_get f.first a ≡ Some t.0 = subst (λ i. slice_get f.first i ≡ Some t.0)
      (let e : 0 + a ≡ a = omega arith in e) t.1 in (
        t.0,
        from_first a t.0 at,
        arena_home_stands s (settled_by homes) a t.0 t.2
            (ap (λ ys. slice_get ys a) grounds_are ∙ get-map grounds_at f.first a t.0 at),
      )
  all_stand (CacheOf lane class) fits =
      let k : ℕ = lane * 40 + class in
      let lt : k < s.lanes * 40 = (let p = fits.0 in let q = fits.1 in omega (arith, p, q)) in
      let t = added IsFirstCache (s.lanes * 40) f.first f.second f.caches k lt in
      let at : length f.first + k ≡ s.arenas + lane * 40 + class = (let e = len_first in omega (arith, e)) in
      let of : k % 40 ≡ class = column lane class fits.1 in (
        t.0,
        from_second (s.arenas + lane * 40 + class) t.0 (subst (λ i. slice_get f.second i ≡ Some t.0) at t.1),
        cache_stands s (settled_by homes) lane class t.0 (subst (λ c. IsCacheOf c t.0) of t.2),
      )
  all_stand (BinOf lane) fits =
      let t = added (IsFirstBin s.handles) s.lanes f.second f.third f.bins lane fits in
      let at : length f.second + lane ≡ s.arenas + s.lanes * 40 + lane = ap (λ n. n + lane) len_second in (
        t.0,
        from_third (s.arenas + s.lanes * 40 + lane) t.0 (subst (λ i. slice_get f.third i ≡ Some t.0) at t.1),
        bin_stands s (settled_by homes) lane t.0 t.2,
      )
  all_stand (MailOf sender receiver) fits = absurd fits
  all_stand (RootOf place) fits =
      let t = added (λ k. IsNewRoot) (s.lanes * s.handles) f.third homes f.roots place fits in
      let at : length f.third + place ≡ s.arenas + s.lanes * 41 + place = ap (λ n. n + place) len_third in
      (t.0, subst (λ i. slice_get homes i ≡ Some t.0) at t.1, root_stands s (settled_by homes) place t.0 t.2)
