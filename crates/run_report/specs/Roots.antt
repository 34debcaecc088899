-- The roots that notes tell of, and which of them are live. No public clause cites this module.
use Rattle.std.specs.Prelude.{ℕ, ◌&&◌, nat_eq, Bool, List, count_by, Option, Some, None, unwrap_or}
use Rattle.std.specs.List.{filter_map, flat_map}
use Rattle.std.specs.HashMap.{HashMap, get}
use Rattle.pool_law.specs.declared.id.RootId.{RootId}
use Rattle.pool_law.specs.declared.note.Note.{Note}
use Rattle.pool_law.specs.declared.note.Note.TheVariants.{At, Ref}
use Rattle.pool_law.specs.declared.note.Did.TheVariants.{Birth}
use Rattle.pool_law.specs.declared.note.RefDid.TheVariants.{Retain, Kept, Ended}
use Rattle.pool_law.specs.declared.run.LaneLog.{LaneLog}
use Rattle.pool_law.specs.Same.{same_root}
use Rattle.run_report.specs.declared.roots.Step.{Step}

-- the root for which a note is such a step
abbrev pub root_of : Step → Note → Option RootId
root_of Step.Birth (At object number (Birth root region)) = Some root
root_of Step.Retain (Ref root Retain) = Some root
root_of Step.Release (Ref root Kept) = Some root
root_of Step.Release (Ref root Ended) = Some root
root_of _ _ = None

-- the roots of such steps in these notes
abbrev pub roots_in : Step → List Note → List RootId
roots_in step notes = filter_map (root_of step) notes

-- the roots of such steps in these logs, lane by lane
abbrev pub roots_over : Step → List LaneLog → List RootId
roots_over step logs = flat_map (λ l. roots_in step l.notes) logs

-- how often a list has this root
abbrev pub times : List RootId → RootId → ℕ
times roots root = count_by (λ r. same_root r root) roots

-- place, generation and capacity of a root
abbrev pub Key : Type 0
Key = ℕ × ℕ × ℕ

-- the key of a root
abbrev pub key_of : RootId → Key
key_of root = (root.place, root.generation, root.capacity)

-- two keys
abbrev pub same_key : Key → Key → Bool
same_key a b = (nat_eq a.0 b.0 && nat_eq a.1 b.1) && nat_eq a.2 b.2

-- how often a map counts this root
abbrev pub counted : {S : Type 0} → HashMap Key ℕ S → RootId → ℕ
counted m root = unwrap_or (get same_key m (key_of root)) 0
