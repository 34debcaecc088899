-- What notes give a root of capacity, and what a view knows of it.
use Rattle.std.specs.Prelude.{ℕ, ◌<◌, ◌≤◌, max, nat_le, ◌&&◌, Bool, false, List, map, Option, All, sum_by}
use Rattle.pool_law.specs.declared.id.RootId.{RootId}
use Rattle.pool_law.specs.declared.note.Did.{Did}
use Rattle.pool_law.specs.declared.note.Did.TheVariants.{Post, Birth, Extend, Grow}
use Rattle.pool_law.specs.Same.{same_root}
use Rattle.pool_law.specs.Counts.{root_is}
use Rattle.pool_law.specs.Capacities.{reach_of, told_by, known_of}
use Rattle.history_laws.specs.NoteCounts.{one_if_so}
use Rattle.pool_table.specs.declared.views.Entry.{Entry}
use Rattle.pool_table.specs.declared.views.Entry.TheVariants.{At, Ref, Busy}
use Rattle.pool_table.specs.declared.views.Letter.{Letter}
use Rattle.pool_table.specs.declared.views.Part.{Part}
use Rattle.pool_table.specs.declared.views.SeatView.{SeatView}
use Rattle.pool_table.specs.LaneLogs.{law_entry, lane_entries}
use Rattle.pool_table.specs.Views.{parts_of, noted_weight}
use Rattle.pool_table.specs.Counts.{weigh}

-- the note gives the root a capacity of at least c: it is born with it, is extended to it or grows
-- to it; no other note gives any
abbrev pub gives : RootId → ℕ → Option RootId → Did → Bool
gives r c present (Birth q region) = same_root q r && nat_le c q.capacity
gives r c present (Extend size) = root_is r present && nat_le c size
gives r c present (Grow size region) = root_is r present && nat_le c size
gives r c present did = false

abbrev pub at_gift : RootId → ℕ → Entry → ℕ
at_gift r c e = noted_weight (λ n. one_if_so (gives r c n.root n.did)) e

-- the root was given a capacity of at least c
abbrev pub WasGiven : List SeatView → RootId → ℕ → Type 0
WasGiven views r c = 0 < sum_by (weigh (at_gift r c)) views

-- how far the view in a parcel that a note posts reaches into the root
abbrev pub posted_to : RootId → Did → ℕ
posted_to r (Post parcel) = reach_of r parcel.view
posted_to r did = 0

-- what an entry tells of the root's capacity: the capacity that it tells its lane, and how far the
-- view reaches that it posts
abbrev pub told_in : RootId → Entry → ℕ
told_in r (At o k n) = max (told_by r n.root (law_entry (At o k n)).note) (posted_to r n.did)
told_in r (Ref q d) = 0
told_in r (Busy b) = 0

-- as much was given
abbrev pub TellsGiven : List SeatView → Entry → Type 0
TellsGiven views e = (r : RootId) → 0 < told_in r e → WasGiven views r (told_in r e)

-- whatever an entry of any part tells of a root's capacity was given
abbrev pub AreKnown : List SeatView → Type 0
AreKnown views =
    All (λ (v : SeatView). All (λ (q : Part). All (TellsGiven views) q.notes) (parts_of v)) views

-- what a view knows of a root's capacity: that of its birth, which its name carries, or the
-- greatest that the notes of the seat's own part told
abbrev pub knows_of : RootId → SeatView → ℕ
knows_of r v = max r.capacity (known_of r (lane_entries v))

-- no part of the view knows of more capacity of the root, and the view of it in no letter reaches
-- further
pub record KnowsNoMore (r : RootId) (capacity : ℕ) (v : SeatView) : Type 0 where
  pub parts : All (λ (q : Part). known_of r (map law_entry q.notes) ≤ capacity) (parts_of v)
  pub letters : All (λ (x : Letter). reach_of r x.parcel.view ≤ capacity) v.letters
