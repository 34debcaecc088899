-- What a contract sees of a sampler and of a tracker.
use Rattle.std.specs.Prelude.{◌≡◌, ℕ, ◌+◌, Bool, false, if◌then◌else◌, List, [], ◌∷◌, ◌++◌, Option, Some, None}
use Rattle.pool_law.specs.declared.report.Access.{Access}
use Rattle.pool_law.specs.declared.report.Watch.{Watch}
use Rattle.pool_law.specs.declared.run.Level.{Level}
use Rattle.pool_law.specs.Leaks.{is_sampled, keeps_records, kept_of, dropped_of}

-- a lane, how its births are sampled, and how many it had
pub record Sampling : Type 0 where
  pub lane : ℕ
  pub level : Level
  pub interval : ℕ
  pub births : ℕ

-- the sampler of a lane that had no birth
abbrev pub new_sampler : ℕ → Level → ℕ → Sampling
new_sampler lane level interval =
    record { lane = lane; level = level; interval = interval; births = 0 }

-- the sampler after one more birth
abbrev pub with_birth : Sampling → Sampling
with_birth s = record s { births = s.births + 1 }

-- the watch of the latest birth, where it is sampled
abbrev pub watch_of : Sampling → Option Watch
watch_of s =
    if is_sampled s.level s.interval s.births
    then Some (record { lane = s.lane; serial = s.births; keeps = keeps_records s.level })
    else None

-- the watch of a root, its last accesses, the oldest first, and how many were before them
pub record Tracked : Type 0 where
  pub watch : Option Watch
  pub kept : List Access
  pub dropped : ℕ

-- the tracker of a root without accesses
abbrev pub new_tracker : Option Watch → Tracked
new_tracker watch = record { watch = watch; kept = []; dropped = 0 }

-- whether accesses under this watch are kept
abbrev pub is_keeping : Option Watch → Bool
is_keeping (Some watch) = watch.keeps
is_keeping None = false

-- the tracker with the last four of these accesses
abbrev pub with_last : Tracked → List Access → Tracked
with_last t all = record t { kept = kept_of all; dropped = t.dropped + dropped_of all }

-- the tracker after one more access
abbrev pub with_access : Tracked → Access → Tracked
with_access t access = if is_keeping t.watch then with_last t (t.kept ++ access ∷ []) else t

-- the tracker has what is kept of all these accesses to its root
pub record HasRecords (all : List Access) (t : Tracked) : Type 0 where
  pub kept : t.kept ≡ (if is_keeping t.watch then kept_of all else [])
  pub dropped : t.dropped ≡ (if is_keeping t.watch then dropped_of all else 0)
