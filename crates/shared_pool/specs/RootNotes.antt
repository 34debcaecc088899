-- The notes of the calls on a root place, and what they leave in a seat's hands.
use Rattle.std.specs.Prelude.{◌≡◌, ℕ, ◌+◌, ◌-◌, List, [], ◌∷◌, ◌++◌, length, Option, Some, None}
use Rattle.pool_law.specs.declared.id.RootId.{RootId}
use Rattle.pool_law.specs.declared.id.RegionId.{RegionId}
use Rattle.pool_law.specs.declared.note.Did.{Did}
use Rattle.pool_law.specs.declared.note.Noted.{Noted}
use Rattle.pool_law.specs.declared.note.Object.{Object}
use Rattle.pool_law.specs.declared.note.RefDid.{RefDid}
use Rattle.pool_law.specs.declared.report.Watch.{Watch}
use Rattle.pool_law.specs.Naming.{noted_by}
use Rattle.pool_law.specs.Roots.{bytes_at}
use Rattle.history_laws.specs.Histories.{IsLawful}
use Rattle.pool_table.specs.declared.roots.EndToken.{EndToken}
use Rattle.shared_pool.specs.declared.seat.PoolSeat.{PoolSeat}
use Rattle.pool_table.specs.declared.views.Entry.TheVariants.{At}
use Rattle.pool_table.specs.Views.{with_entry}
use Rattle.pool_table.specs.Counts.{with_ref, HasToken}
use Rattle.pool_table.specs.Hands.{HasNoEnd}
use Rattle.pool_table.specs.Lone.{IsLone, own_bytes}
use Rattle.pool_table.specs.Numbers.{IsAbove}
use Rattle.shared_pool.specs.SeatViews.{view_of, HasView}
use Rattle.shared_pool.specs.Seats.{IsNoted}
use Rattle.shared_pool.specs.declared.pool.SharedPool.{SharedPool}
use Rattle.shared_pool.specs.declared.went.Release.{Release}
use Rattle.shared_pool.specs.declared.went.Release.TheVariants.{Kept, Ended}

-- an access to a root
abbrev pub access : RootId → Did → Noted
access root did =
    record { did = did; lane = None; watch = None; root = Some root; region = None }

-- the birth of a root with a region, whose uses are one more
abbrev pub birth : RootId → RegionId → Option Watch → Noted
birth root region watch =
    record {
      did = Did.Birth root (record region { uses = region.uses + 1 });
      lane = None;
      watch = watch;
      root = None;
      region = None;
    }

-- the end of a root, which takes its region out
abbrev pub end_of : RootId → RegionId → Noted
end_of root region =
    record { did = Did.End root; lane = None; watch = None; root = None; region = Some region }

-- the call made this note at the root's place, as the next after a history that the place
-- accepts, and then this step on its word
pub record IsNotedWith
    (pool : SharedPool) (old new : PoolSeat) (root : RootId) (number : ℕ) (n : Noted)
    (step : RefDid) (moves : ℕ) : Type 0 where
  pub history : List Noted
  pub number_is : number ≡ length history + 1
  pub accepted : IsLawful pool.table.layout.shape (Object.Root root.place)
      (history ++ noted_by (view_of old).own.number n ∷ [])
  pub above : IsAbove (Object.Root root.place) number (view_of old).own.notes
  pub seat : let v = view_of old in
      let note = At (Object.Root root.place) number (noted_by v.own.number n) in
      HasView new (with_ref (with_entry v note (v.turns - 1)) root step moves)

-- the call noted a set of these bytes at the root's place, where a get would have got those before:
-- what a seat's own notes laid, if it bore the root and posted it to nobody
pub record IsSetOver
    (pool : SharedPool) (old new : PoolSeat) (root : RootId) (number offset : ℕ)
    (before bytes : List ℕ) : Type 0 where
  pub noted :
      IsNoted pool old new (Object.Root root.place) number (access root (Did.Set offset bytes))
  pub there : let got = access root (Did.Get offset before) in
      IsLawful pool.table.layout.shape (Object.Root root.place)
      (noted.history ++ noted_by (view_of old).own.number got ∷ [])
  pub lone : IsLone root (view_of old) →
      before ≡ bytes_at (own_bytes root (view_of old)) offset (length before)

-- the seat has the token of a root whose end it hasn't noted
pub record HoldsToken (s : PoolSeat) (token : EndToken) : Type 0 where
  pub token_is : HasToken token.root (view_of s)
  pub no_end : HasNoEnd token.root (view_of s)

-- what a release made, by its answer
abbrev pub IsReleasedAs : Release → RootId → PoolSeat → PoolSeat → Type 0
IsReleasedAs Kept root old new =
    HasView new (with_ref (view_of old) root RefDid.Kept ((view_of old).moves + 1))
IsReleasedAs (Ended token) root old new =
    (token.root ≡ root) × HoldsToken new token
    × HasView new (with_ref (view_of old) root RefDid.Ended (view_of old).moves)
