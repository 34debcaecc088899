-- What a note needs of a lane's count of a root.
use Rattle.std.specs.Prelude.{◌≡◌, ℕ, ◌<◌, true}
use Rattle.pool_law.specs.declared.id.RootId.{RootId}
use Rattle.pool_law.specs.declared.note.Note.{Note}
use Rattle.pool_law.specs.Logs.{ToldNote}
use Rattle.pool_law.specs.Counts.{needs_count, ends_root}
use Rattle.lane_reader.specs.Counting.{count_after}

-- a note that ends the root leaves no count
abbrev pub EndHolds : RootId → ℕ → Note → Type 0
EndHolds root k n = ends_root root n ≡ true → count_after root k n ≡ 0

-- the lane counts what an entry needs, and counts none after an end
abbrev pub NeedsHold : RootId → ℕ → ToldNote → Type 0
NeedsHold root k e = (needs_count root e ≡ true → 0 < k) × EndHolds root k e.note
