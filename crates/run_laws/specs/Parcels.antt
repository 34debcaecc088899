-- The parcels that are not fetched at the end of a run, and how the total of a root is shared by
-- lanes and parcels.
use Rattle.std.specs.Prelude.{◌≡◌, ℕ, ◌+◌, ◌<◌, if◌then◌else◌, List, [], ◌∷◌, length, drop}
use Rattle.pool_law.specs.declared.id.RootId.{RootId}
use Rattle.pool_law.specs.declared.id.RegionId.{RegionId}
use Rattle.pool_law.specs.declared.id.Parcel.{Parcel}
use Rattle.pool_law.specs.declared.note.Object.{Object}
use Rattle.pool_law.specs.declared.note.Did.{Did}
use Rattle.size_classes.specs.Sizes.{below}
use Rattle.pool_law.specs.Logs.{Logs, of_lane, entries_of}
use Rattle.pool_law.specs.Mails.{posted, fetched}
use Rattle.pool_law.specs.Counts.{view_is_of}
use Rattle.run_laws.specs.CountLaw.{counts_of}
use Rattle.run_laws.specs.Conserved.{total_in}
use Rattle.pool_law.specs.Lives.{IsUse, Done}

-- how many of these parcels have a view of the root
abbrev pub parcels_of : RootId → List (ℕ × Parcel) → ℕ
parcels_of root [] = 0
parcels_of root (p ∷ ps) = (if view_is_of root p.1.view then 1 else 0) + parcels_of root ps

-- what was posted from one lane to another and not fetched
abbrev pub left_in : Logs → ℕ → ℕ → List (ℕ × Parcel)
left_in logs from to =
    drop (length (fetched (Object.Mail from to) (of_lane logs to)))
    (posted (Object.Mail from to) (of_lane logs from))

-- how much of it has a view of the root
abbrev pub unfetched_of : Logs → RootId → ℕ → ℕ → ℕ
unfetched_of logs root from to = parcels_of root (left_in logs from to)

-- a sum over numbers
abbrev pub sum_up : List ℕ → (ℕ → ℕ) → ℕ
sum_up [] f = 0
sum_up (k ∷ ks) f = f k + sum_up ks f

-- over all mails between so many lanes
abbrev pub unfetched : Logs → RootId → ℕ → ℕ
unfetched logs root lanes =
    sum_up (below lanes) (λ from. sum_up (below lanes) (λ to. unfetched_of logs root from to))

-- every parcel is posted to one of so many lanes
abbrev pub PostsWithin : Logs → ℕ → Type 0
PostsWithin logs lanes =
    (from to : ℕ) (parcel : Parcel) → Done logs (Object.Mail from to) (Did.Post parcel) →
    to < lanes

-- the total of a root is the sum of the lanes' counts, and the parcels of it that are not fetched
abbrev pub TotalIsShared : Logs → ℕ → RootId → Type 0
TotalIsShared logs lanes root =
    total_in logs root ≡ counts_of root (entries_of logs) + unfetched logs root lanes

-- so it is for each root that was born
abbrev pub TotalsAreShared : Logs → ℕ → Type 0
TotalsAreShared logs lanes =
    (root : RootId) (region : RegionId) → IsUse logs root region → TotalIsShared logs lanes root
