-- Seats that are joined into one. No public clause cites this module.
use Rattle.std.specs.Prelude.{◌≡◌, ℕ, ◌+◌, ◌*◌, ◌<◌, List, [], length, Option, Some, option_map, All, HoldsAt}
use Rattle.step_law.specs.Settings.{Setting}
use Rattle.step_law.specs.declared.Told.{Ghosts}
use Rattle.pool_law.specs.declared.note.Noted.{Noted}
use Rattle.pool_table.specs.declared.table.PoolSeat.{PoolSeat}
use Rattle.pool_table.specs.declared.table.PoolTable.{PoolTable}
use Rattle.pool_table.specs.Seats.{view_of, IsSeatOf, IsOutside}
use Rattle.crossbeam_queue.specs.Passes.{Pass, view, IsPassOf}
use Rattle.shared_pool.specs.declared.home.Home.{Home}
use Rattle.shared_pool.specs.declared.mail.Mail.{Mail}
use Rattle.shared_pool.specs.declared.seat.PoolSeat.{PoolSeat as Seat}
use Rattle.shared_pool.specs.MailEnds.{IsReceiver, KnownEnds}
use Rattle.shared_pool.specs.Posting.{PostedLetter}

-- how many arenas have grounds in a setting, if it is known
abbrev pub arenas_known : Option Setting → Option ℕ
arenas_known setting = option_map (λ g. length g.grounds) setting

module _ {G : Ghosts Home Noted} where
  -- the seat knows the setting, which has grounds for each arena of the table
  abbrev pub IsSettled : PoolTable Home → PoolSeat Home G → Type 0
  IsSettled table s = arenas_known (view_of s).setting ≡ Some table.layout.shape.arenas

  -- a seat of the table in no section, with its own part and no other
  pub record IsApart (table : PoolTable Home) (s : PoolSeat Home G) : Type 0 where
    pub own : IsSeatOf table s
    pub outside : IsOutside s
    pub alone : (view_of s).others ≡ []
    pub settled : IsSettled table s

  abbrev pub AreApart : PoolTable Home → List (PoolSeat Home G) → Type 0
  AreApart table seats = All (IsApart table) seats

-- the pass is an end of this mail that fetches
abbrev pub IsFetchesOf : Mail → Pass PostedLetter KnownEnds → Type 0
IsFetchesOf m pass = IsPassOf m.queue pass × IsReceiver (view pass)

-- the passes are the lane's ends of the mails from each lane
abbrev pub AreFetchesOf :
    List Mail → ℕ → ℕ → List (Pass PostedLetter KnownEnds) → Type 0
AreFetchesOf mails lanes lane passes =
    (from : ℕ) → from < lanes →
    HoldsAt (λ pass. HoldsAt (λ m. IsFetchesOf m pass) mails (from * lanes + lane)) passes from

-- the seats of all lanes, in order, have their lanes' ends of these mails
abbrev pub HaveFetches : List Mail → ℕ → List Seat → Type 0
HaveFetches mails lanes seats =
    (lane : ℕ) → lane < lanes →
    HoldsAt (λ s. AreFetchesOf mails lanes lane s.fetches.items) seats lane
