-- The counts of a lane as the program keeps them.
use Rattle.std.specs.Prelude.{◌≡◌, ℕ, ◌+◌, ◌-◌, ◌≤◌, if◌then◌else◌, unwrap_or}
use Rattle.std.specs.declared.cmp.Ordering.{Ordering}
use Rattle.std.specs.Ordering.{nat_cmp, ordering_then}
use Rattle.std.specs.BTreeMap.{get}
use Rattle.pool_law.specs.declared.id.RootId.{RootId}
use Rattle.pool_law.specs.declared.note.Note.{Note}
use Rattle.pool_law.specs.Counts.{note_gains, note_loses, count_of}
use Rattle.pool_law.specs.Readers.{ToldNotes}
use Rattle.lane_reader.specs.declared.counts.Counts.{Counts}

-- the order of the keys
abbrev pub key_cmp : ℕ × ℕ × ℕ → ℕ × ℕ × ℕ → Ordering
key_cmp x y = ordering_then (ordering_then (nat_cmp x.0 y.0) (nat_cmp x.1 y.1)) (nat_cmp x.2 y.2)

-- the key of a root
abbrev pub key_of : RootId → ℕ × ℕ × ℕ
key_of root = (root.place, root.generation, root.capacity)

-- how often a root is counted
abbrev pub count_in : Counts → RootId → ℕ
count_in counts root = unwrap_or (get key_cmp counts.map (key_of root)) 0

-- a count of a root after a note
abbrev pub count_after : RootId → ℕ → Note → ℕ
count_after root k n = if note_gains root n then k + 1 else if note_loses root n then k - 1 else k

-- the counts are those of a lane that has noted this
abbrev pub AreCounts : Counts → ToldNotes → Type 0
AreCounts counts es = (root : RootId) → count_of root es ≡ count_in counts root

-- no root is counted more often than so many notes can
abbrev pub AreWithin : Counts → ℕ → Type 0
AreWithin counts notes = (root : RootId) → count_in counts root ≤ notes
