-- What is planned of a range of a composite: its parts, with memory for their bytes.
use Rattle.std.specs.Prelude.{◌≡◌, ℕ, ◌<◌, Bool, false, List, [], length, All, Option, Some, None}
use Rattle.pool_law.specs.declared.command.Command.{Command}
use Rattle.pool_law.specs.declared.id.Part.{Part}
use Rattle.pool_law.specs.declared.id.RootId.{RootId}
use Rattle.pool_law.specs.declared.run.Reply.{Reply}
use Rattle.pool_law.specs.Composites.{Composite, ranges}
use Rattle.pool_law.specs.LaneStates.{LaneState}
use Rattle.lane_context.specs.declared.access.Refusal.{Refusal}
use Rattle.lane_context.specs.declared.access.Refusal.TheVariants.{Illegal, Range}
use Rattle.lane_context.specs.declared.composed.Marks.{Marks}
use Rattle.lane_stages.specs.declared.counts.Counted.{Counted}
use Rattle.lane_stages.specs.declared.crossing.Crossing.{Crossing}
use Rattle.lane_stages.specs.declared.crossing.Crossing.TheVariants.{Set, Get}
use Rattle.lane_stages.specs.declared.crossing.Stretch.{Stretch}
use Rattle.lane_context.specs.declared.context.Context.{Context}
use Rattle.lane_context.specs.declared.work.Work.{Work}
use Rattle.lane_context.specs.declared.work.Work.TheVariants.{Cross, Empty}
use Rattle.lane_context.specs.Accesses.{IsState}
use Rattle.lane_context.specs.Composing.{AreReachable}
use Rattle.lane_stages.specs.Counting.{counted}
use Rattle.lane_stages.specs.Crossings.{bytes_of, parts_of, stretches}
use Rattle.lane_context.specs.Named.{IsInRoot}
use Rattle.lane_context.specs.Works.{IsPlanned, IsReady, IsUnplanned}

-- a composite that has not ended, whose parts' roots are counted
pub record IsUsable (cs : List Counted) (c : Composite) : Type 0 where
  pub count : 0 < c.count
  pub parts : All (λ p. 0 < counted cs p.root) c.parts

-- these parts are set to these bytes; there are none where the range is empty
abbrev pub Sets :
    (RootId → ℕ) → List Counted → List Part → List ℕ → Option Crossing → Type 0
Sets known cs parts bytes None = (parts ≡ []) × (bytes ≡ [])
Sets known cs parts bytes (Some (Set first later)) =
    let stage = Set first later in
    (parts_of (stretches stage) ≡ parts) × (bytes_of (stretches stage) ≡ bytes)
    × AreReachable known cs stage
Sets known cs parts bytes (Some (Get first later got)) = ⊥

-- these parts are got
abbrev pub Gets : (RootId → ℕ) → List Counted → List Part → Option Crossing → Type 0
Gets known cs parts None = parts ≡ []
Gets known cs parts (Some (Set first later)) = ⊥
Gets known cs parts (Some (Get first later got)) =
    let stage = Get first later got in
    (parts_of (stretches stage) ≡ parts) × (got.items ≡ []) × AreReachable known cs stage

-- the parts lie in what is known of their roots, and these are counted
pub record AreUsable (known : RootId → ℕ) (cs : List Counted) (parts : List Part) : Type 0 where
  pub inside : All (IsInRoot known) parts
  pub counts : All (λ p. 0 < counted cs p.root) parts

-- a part with memory for just its bytes
abbrev pub IsSized : Stretch → Type 0
IsSized s = length s.bytes.items ≡ s.part.len

-- the bytes of a composite from an index on are set, by whatever knows and counts its roots
abbrev pub SetsAt : Composite → ℕ → List ℕ → Option Crossing → Type 0
SetsAt c at bytes stage =
    (known : RootId → ℕ) (cs : List Counted) → AreUsable known cs c.parts →
    Sets known cs (ranges c.parts at (length bytes)) bytes stage

-- and so many are got
abbrev pub GetsAt : Composite → ℕ → ℕ → Option Crossing → Type 0
GetsAt c at len stage =
    (known : RootId → ℕ) (cs : List Counted) → AreUsable known cs c.parts →
    Gets known cs (ranges c.parts at len) stage

-- why an access to a composite is refused, where its range lies in it or doesn't
abbrev pub IsDenied : List Counted → Composite → Bool → Refusal → Type 0
IsDenied cs c inside Illegal = IsUsable cs c → ⊥
IsDenied cs c inside Range = IsUsable cs c × (inside ≡ false)
IsDenied cs c inside _ = ⊥

-- the work on a range, where it has bytes or has none
abbrev pub work_on : ℕ → Option Marks → Option Crossing → Reply → Work
work_on name marks None reply = Empty name marks reply
work_on name marks (Some stage) reply = Cross name marks stage

-- the work may be done at the context, and is what the law reads of the command; or none is planned
abbrev pub IsPlanOf : Context → Command → Option Work → Type 0
IsPlanOf d command None = IsUnplanned d.names command
IsPlanOf d command (Some work) =
    IsReady d work
    × ((s : LaneState) → IsState s d.names d.counts → IsPlanned d command work s)
