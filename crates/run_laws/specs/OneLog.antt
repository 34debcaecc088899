-- The birth of a root and its end: the notes of each stand in one log, in order, each once.
use Rattle.std.specs.Prelude.{◌≡◌, ℕ, ◌<◌}
use Rattle.pool_law.specs.declared.id.RootId.{RootId}
use Rattle.pool_law.specs.declared.id.RegionId.{RegionId}
use Rattle.pool_law.specs.declared.note.Object.{Object}
use Rattle.pool_law.specs.declared.note.Did.{Did}
use Rattle.pool_law.specs.declared.note.RefDid.{RefDid}
use Rattle.pool_law.specs.declared.note.Note.{Note}
use Rattle.pool_law.specs.Logs.{Logs}
use Rattle.pool_law.specs.Lives.{StandsAt, IsUse, Done}

-- a step on the count of a root, in this lane's log at this place
pub record Counted (logs : Logs) (root : RootId) (did : RefDid) : Type 0 where
  pub lane : ℕ
  pub at : ℕ
  pub stands : StandsAt logs lane at (Note.Ref root did)

-- the step stands only once
abbrev pub CountedOnce : Logs → RootId → RefDid → Type 0
CountedOnce logs root did =
    (a b : Counted logs root did) → (a.lane ≡ b.lane) × (a.at ≡ b.at)

-- the end of a root stands only once
abbrev pub EndsOnce : Logs → RootId → Type 0
EndsOnce logs root =
    (a b : Done logs (Object.Root root.place) (Did.End root)) → (a.lane ≡ b.lane) × (a.at ≡ b.at)

-- a root is born with the region
abbrev pub IsBirth : Logs → RootId → RegionId → Type 0
IsBirth logs root region = Done logs (Object.Root root.place) (Did.Birth root region)

-- the birth of a root stands only once, whatever the region
abbrev pub BornOnce : Logs → RootId → Type 0
BornOnce logs root =
    (r q : RegionId) (a : IsBirth logs root r) (b : IsBirth logs root q) →
    (a.lane ≡ b.lane) × (a.at ≡ b.at)

-- a root is born in one log: its birth, and then the step that sets its word, each once
pub record IsBorn (logs : Logs) (root : RootId) : Type 0 where
  pub region : RegionId
  pub birth : IsBirth logs root region
  pub set : Counted logs root RefDid.Born
  pub same_log : set.lane ≡ birth.lane
  pub order : birth.at < set.at
  pub birth_once : BornOnce logs root
  pub set_once : CountedOnce logs root RefDid.Born

-- a root ends in one log: the release that ends its count, its end, and the step that vacates its
-- place, each once
pub record HasEnded (logs : Logs) (root : RootId) : Type 0 where
  pub ended : Counted logs root RefDid.Ended
  pub end : Done logs (Object.Root root.place) (Did.End root)
  pub vacated : Counted logs root RefDid.Vacated
  pub same_log : (end.lane ≡ ended.lane) × (vacated.lane ≡ ended.lane)
  pub order : (ended.at < end.at) × (end.at < vacated.at)
  pub ended_once : CountedOnce logs root RefDid.Ended
  pub end_once : EndsOnce logs root
  pub vacated_once : CountedOnce logs root RefDid.Vacated

-- where one of these notes of a root stands, all of them do; so what uses a region was born
pub record StandInOneLog (logs : Logs) : Type 0 where
  pub used : (root : RootId) (region : RegionId) → IsUse logs root region → IsBorn logs root
  pub born : (root : RootId) (region : RegionId) → IsBirth logs root region → IsBorn logs root
  pub set : (root : RootId) → Counted logs root RefDid.Born → IsBorn logs root
  pub ended : (root : RootId) → Counted logs root RefDid.Ended → HasEnded logs root
  pub end : (root : RootId) → Done logs (Object.Root root.place) (Did.End root) →
      HasEnded logs root
  pub vacated : (root : RootId) → Counted logs root RefDid.Vacated → HasEnded logs root
