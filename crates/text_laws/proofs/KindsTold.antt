-- What was done is done to an object of its kind.
use Rattle.std.proofs.Common.{◌≡◌, ℕ, List, true, Option, Some, None, refl}
use Rattle.size_classes.specs.Sizes.{Geometry}
use Rattle.pool_law.specs.declared.note.Did.{Did}
use Rattle.pool_law.specs.declared.note.Did.TheVariants.{Take, Full, Give, Hit, Miss, Kept, Back, Trim, Close, Shed, Handle, NoHandle, Home, Post, Fetch, Birth, Set, Get, Touch, Room, Extend, Grow, End}
use Rattle.pool_law.specs.declared.note.Note.TheVariants.{At}
use Rattle.pool_law.specs.declared.note.Object.{Object}
use Rattle.pool_law.specs.declared.run.Shape.{Shape}
use Rattle.pool_law.specs.Arenas.{Arena, arena_step, new_arena}
use Rattle.pool_law.specs.Caches.{Cache, bin_step, lane_cache_step, new_bin, new_cache}
use Rattle.pool_law.specs.Histories.{arena_after, bin_after, cache_after, place_after}
use Rattle.pool_law.specs.Limits.{geometry_of}
use Rattle.pool_law.specs.Lives.{StandsAt}
use Rattle.pool_law.specs.Logs.{Logs, dids, history_of, may_stand, note_stands, of_lane}
use Rattle.pool_law.specs.Roots.{Present, RootPlace, new_place, place_step, place_step_by}
use Rattle.run_laws.proofs.EventLaw.{Noted, noted}
use Rattle.run_laws.proofs.LogEntries.{LanesAct}
use Rattle.run_laws.proofs.PagedHistories.{HistoriesPaged}
use Rattle.run_laws.proofs.Placed.{all-at, is-some, step-at}
use Rattle.run_text.specs.Told.{Kind, kind_done, kind_of}

arena-kind : (g : Geometry) (number : ℕ) (m n : Arena) (d : Did) → arena_step g number m d ≡ Some n
    → kind_done d ≡ Kind.OfArena
arena-kind g number m n (Take class r) e = refl
arena-kind g number m n (Full class) e = refl
arena-kind g number m n (Give r) e = refl
arena-kind g number m n _ e = absurd (cc e)

cache-kind : (lane class : ℕ) (m n : Cache) (d : Did) → lane_cache_step lane class m d ≡ Some n
    → kind_done d ≡ Kind.OfCache
cache-kind lane class m n (Hit r) e = refl
cache-kind lane class m n Miss e = refl
cache-kind lane class m n (Kept r) e = refl
cache-kind lane class m n (Back r why) e = refl
cache-kind lane class m n (Trim quota) e = refl
cache-kind lane class m n (Close quota) e = refl
cache-kind lane class m n (Shed r) e = refl
cache-kind lane class m n _ e = absurd (cc e)

bin-kind : (lane handles : ℕ) (m n : List ℕ) (d : Did) → bin_step lane handles m d ≡ Some n
    → kind_done d ≡ Kind.OfBin
bin-kind lane handles m n (Handle p) e = refl
bin-kind lane handles m n NoHandle e = refl
bin-kind lane handles m n (Home p) e = refl
bin-kind lane handles m n _ e = absurd (cc e)

place-kind : (place : ℕ) (m n : RootPlace) (o : Option Present) (d : Did) → place_step_by place m o d ≡ Some n
    → kind_done d ≡ Kind.OfRoot
place-kind place m n None (Birth root r) e = refl
place-kind place m n None _ e = absurd (cc e)
place-kind place m n (Some p) (Set offset bytes) e = refl
place-kind place m n (Some p) (Get offset bytes) e = refl
place-kind place m n (Some p) Touch e = refl
place-kind place m n (Some p) (Room asked capacity) e = refl
place-kind place m n (Some p) (Extend size) e = refl
place-kind place m n (Some p) (Grow capacity r) e = refl
place-kind place m n (Some p) (End root) e = refl
place-kind place m n (Some p) _ e = absurd (cc e)

mail-kind : (shape : Shape) (lane from to : ℕ) (d : Did) → may_stand shape lane (Object.Mail from to) d ≡ true
    → kind_done d ≡ Kind.OfMail
mail-kind shape lane from to (Post parcel) e = refl
mail-kind shape lane from to (Fetch parcel) e = refl
mail-kind shape lane from to _ e = absurd (cc e)

module _ (shape : Shape) (logs : Logs) (holds : HistoriesPaged shape logs) (acts : LanesAct logs) where
  pub kind-fits : (lane at k : ℕ) (o : Object) (d : Did) → StandsAt logs lane at (At o k d)
      → kind_done d ≡ kind_of o
  kind-fits lane at k (Object.Arena number) d s =
      let i : Noted shape logs holds acts
      (record { object = Object.Arena number; did = d; lane = lane; at = at; number = k }) =
      noted shape logs holds acts
      (record { object = Object.Arena number; did = d; lane = lane; at = at; number = k }) s refl in
      let a : (a : Arena) × (arena_after shape number (dids (history_of (Object.Arena number) logs)) ≡ Some a) =
      is-some (arena_after shape number (dids (history_of (Object.Arena number) logs)))
      (holds.accepted (Object.Arena number) refl) in
      let x = step-at (arena_step (geometry_of shape) number) (dids (history_of (Object.Arena number) logs))
      (new_arena (geometry_of shape) shape.chunks) a.0 i.index d a.1 i.there in
      arena-kind (geometry_of shape) number x.0 x.1 d x.3
  kind-fits lane at k (Object.Cache owner class) d s =
      let i : Noted shape logs holds acts
      (record { object = Object.Cache owner class; did = d; lane = lane; at = at; number = k }) =
      noted shape logs holds acts
      (record { object = Object.Cache owner class; did = d; lane = lane; at = at; number = k }) s refl in
      let a : (a : Cache) × (cache_after owner class (dids (history_of (Object.Cache owner class) logs)) ≡ Some a) =
      is-some (cache_after owner class (dids (history_of (Object.Cache owner class) logs)))
      (holds.accepted (Object.Cache owner class) refl) in
      let x = step-at (lane_cache_step owner class) (dids (history_of (Object.Cache owner class) logs)) new_cache a.0
      i.index d a.1 i.there in
      cache-kind owner class x.0 x.1 d x.3
  kind-fits lane at k (Object.Bin owner) d s =
      let i : Noted shape logs holds acts
      (record { object = Object.Bin owner; did = d; lane = lane; at = at; number = k }) =
      noted shape logs holds acts
      (record { object = Object.Bin owner; did = d; lane = lane; at = at; number = k }) s refl in
      let a : (a : List ℕ) × (bin_after shape owner (dids (history_of (Object.Bin owner) logs)) ≡ Some a) =
      is-some (bin_after shape owner (dids (history_of (Object.Bin owner) logs)))
      (holds.accepted (Object.Bin owner) refl) in
      let x = step-at (bin_step owner shape.handles) (dids (history_of (Object.Bin owner) logs))
      (new_bin owner shape.handles) a.0 i.index d a.1 i.there in
      bin-kind owner shape.handles x.0 x.1 d x.3
  kind-fits lane at k (Object.Mail from to) d s =
      mail-kind shape lane from to d
      (all-at (note_stands shape lane) (of_lane logs lane) at (At (Object.Mail from to) k d) (holds.stand lane) s)
  kind-fits lane at k (Object.Root place) d s =
      let i : Noted shape logs holds acts
      (record { object = Object.Root place; did = d; lane = lane; at = at; number = k }) =
      noted shape logs holds acts
      (record { object = Object.Root place; did = d; lane = lane; at = at; number = k }) s refl in
      let a : (a : RootPlace) × (place_after place (dids (history_of (Object.Root place) logs)) ≡ Some a) =
      is-some (place_after place (dids (history_of (Object.Root place) logs)))
      (holds.accepted (Object.Root place) refl) in
      let x = step-at (place_step place) (dids (history_of (Object.Root place) logs)) new_place a.0 i.index d a.1
      i.there in
      place-kind place x.0 x.1 x.0.present d x.3
