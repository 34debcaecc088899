-- What a contract says of a seat of a pool, and of the note that a call makes.
use Rattle.std.specs.Prelude.{◌≡◌, Bool, ℕ, ◌+◌, ◌-◌, ◌<◌, List, [], ◌∷◌, ◌++◌, length, Some}
use Rattle.step_law.specs.Settings.{Setting}
use Rattle.pool_law.specs.declared.note.Noted.{Noted}
use Rattle.pool_law.specs.declared.note.Object.{Object}
use Rattle.pool_law.specs.declared.note.Held.{Held}
use Rattle.pool_law.specs.Naming.{noted_by}
use Rattle.history_laws.specs.Histories.{IsLawful}
use Rattle.pool_table.specs.declared.views.Entry.TheVariants.{At}
use Rattle.shared_pool.specs.declared.seat.PoolSeat.{PoolSeat}
use Rattle.pool_table.specs.Counts.{CountsOne}
use Rattle.pool_table.specs.Numbers.{IsAbove}
use Rattle.pool_table.specs.Views.{with_entry}
use Rattle.shared_pool.specs.SeatViews.{view_of, IsSeatOf, IsOutside, HasView}
use Rattle.pool_table.specs.Sections.{FoundHeld}
use Rattle.shared_pool.specs.declared.pool.SharedPool.{SharedPool}
use Rattle.shared_pool.specs.Mails.{ArePosts, AreFetches}
use Rattle.shared_pool.specs.Standing.{HomeStands}

-- a seat of the pool: it has a lane's number, the part of that number and no other, is in no
-- section, counts at most one root of each place, and has its lane's ends of the mails
pub record IsPoolSeat (pool : SharedPool) (s : PoolSeat) : Type 0 where
  pub own : IsSeatOf pool.table s
  pub outside : IsOutside s
  pub alone : (view_of s).others ≡ []
  pub lane : ℕ
  pub number : (view_of s).own.number ≡ Some lane
  pub below : lane < pool.table.layout.shape.lanes
  pub setting : Setting
  pub settled : (view_of s).setting ≡ Some setting
  pub arenas : length setting.grounds ≡ pool.table.layout.shape.arenas
  pub counts : CountsOne (view_of s)
  pub posts : ArePosts pool lane (view_of s).own.notes s.posts.items
  pub fetches : AreFetches pool lane (view_of s).own.notes s.fetches.items

-- the call made this note at the object, as the next after a history that the object accepts; its
-- number is above all that the seat had noted there
pub record IsNoted
    (pool : SharedPool) (old new : PoolSeat)
    (o : Object) (number : ℕ) (n : Noted) : Type 0 where
  pub history : List Noted
  pub number_is : number ≡ length history + 1
  pub accepted :
      IsLawful pool.table.layout.shape o (history ++ noted_by (view_of old).own.number n ∷ [])
  pub above : IsAbove o number (view_of old).own.notes
  pub seat : let v = view_of old in
      HasView new (with_entry v (At o number (noted_by v.own.number n)) (v.turns - 1))

-- the call found another seat at the object, and did nothing, but with a mark it noted that
abbrev pub FoundBusy :
    SharedPool → Object → Bool → PoolSeat → PoolSeat → Held → Type 0
FoundBusy pool o mark old new held =
    FoundHeld HomeStands pool.table.layout o mark old.seat new.seat held
