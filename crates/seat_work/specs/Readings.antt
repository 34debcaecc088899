-- What the law of lanes reads of the notes that a seat adds.
use Rattle.std.specs.Prelude.{◌≡◌, ℕ, List, ◌++◌, map}
use Rattle.pool_law.specs.Readers.{ToldNotes, Log, Reader, give}
use Rattle.pool_table.specs.declared.views.Entry.{Entry}
use Rattle.pool_table.specs.declared.views.SeatView.{SeatView}
use Rattle.shared_pool.specs.Closing.{entry_of}

-- the log with these entries before what is left of it
abbrev pub before_left : Log → ToldNotes → Log
before_left log es = record log { left = es ++ log.left }

-- the log behind them, where this becomes of the count of allocations that asked a cache
abbrev pub behind : Log → ToldNotes → (ℕ → ℕ) → Log
behind log es asks = record { seen = log.seen ++ es; asked = asks log.asked; left = log.left }

-- over these entries the one reading goes on as the other
abbrev pub ReadsOn : {A : Type 0} → Reader A → ToldNotes → (ℕ → ℕ) → Reader A → Type 0
ReadsOn before es asks after =
    (log : Log) → before (before_left log es) ≡ after (behind log es asks)

-- it does so over just the notes that the view has more
pub record NotesOn {A : Type 0} (before after : Reader A) (old new : SeatView) : Type 0 where
  pub added : List Entry
  pub notes : new.own.notes ≡ old.own.notes ++ added
  pub asks : ℕ → ℕ
  pub reads : ReadsOn before (map entry_of added) asks after

-- just the notes that the view has more are read so, and give this
abbrev pub NotesAs : {A : Type 0} → Reader A → A → SeatView → SeatView → Type 0
NotesAs r a old new = NotesOn r (give a) old new
