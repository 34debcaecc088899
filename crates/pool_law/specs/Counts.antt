-- How often a lane counts a root, and the total over all lanes.
use Rattle.std.specs.Prelude.{◌≡◌, ℕ, ◌+◌, ◌-◌, ◌<◌, ◌≤◌, Bool, true, false, ◌&&◌, ◌||◌, if◌then◌else◌, List, [], ◌∷◌, Option, Some, None, ◌↔◌}
use Rattle.pool_law.specs.declared.id.RootId.{RootId}
use Rattle.pool_law.specs.declared.id.ViewData.{ViewData}
use Rattle.pool_law.specs.declared.note.Did.TheVariants.{Birth}
use Rattle.pool_law.specs.declared.note.RefDid.{RefDid}
use Rattle.pool_law.specs.declared.note.RefDid.TheVariants.{Born, Retain, Ended, Vacated, Look}
use Rattle.pool_law.specs.declared.note.Note.{Note}
use Rattle.pool_law.specs.declared.note.Note.TheVariants.{At, Ref, Busy}
use Rattle.pool_law.specs.Same.{same_root}
use Rattle.pool_law.specs.Kinds.{Passing, Stays, Goes, Comes, passing}
use Rattle.pool_law.specs.Logs.{ToldNote}

-- a view, if there is one, is of the root
abbrev pub view_is_of : RootId → Option ViewData → Bool
view_is_of root None = false
view_is_of root (Some v) = same_root v.root root

-- a root, if there is one, is this root
abbrev pub root_is : RootId → Option RootId → Bool
root_is root None = false
root_is root (Some r) = same_root r root

-- a step on the word adds one to the lane's count
abbrev pub ref_gains : RefDid → Bool
ref_gains Born = true
ref_gains Retain = true
ref_gains RefDid.Kept = false
ref_gains Ended = false
ref_gains Vacated = false
ref_gains (Look found) = false

-- a step on the word takes one away
abbrev pub ref_loses : RefDid → Bool
ref_loses Born = false
ref_loses Retain = false
ref_loses RefDid.Kept = true
ref_loses Ended = true
ref_loses Vacated = false
ref_loses (Look found) = false

-- a parcel with the root comes
abbrev pub brings : RootId → Passing → Bool
brings root Stays = false
brings root (Goes parcel) = false
brings root (Comes parcel) = view_is_of root parcel.view

-- a parcel with the root goes
abbrev pub takes_away : RootId → Passing → Bool
takes_away root Stays = false
takes_away root (Goes parcel) = view_is_of root parcel.view
takes_away root (Comes parcel) = false

-- a note adds one
abbrev pub note_gains : RootId → Note → Bool
note_gains root (Ref r did) = same_root r root && ref_gains did
note_gains root (At object number did) = brings root (passing did)
note_gains root (Busy held) = false

-- a note takes one away
abbrev pub note_loses : RootId → Note → Bool
note_loses root (Ref r did) = same_root r root && ref_loses did
note_loses root (At object number did) = takes_away root (passing did)
note_loses root (Busy held) = false

-- the count after an entry
abbrev pub count_step : RootId → ℕ → ToldNote → ℕ
count_step root k e =
    if note_gains root e.note then k + 1 else if note_loses root e.note then k - 1 else k

-- a count after more entries of the lane
abbrev pub count_from : RootId → ℕ → List ToldNote → ℕ
count_from root k [] = k
count_from root k (e ∷ es) = count_from root (count_step root k e) es

-- a lane's count of a root, by its own log
abbrev pub count_of : RootId → List ToldNote → ℕ
count_of root es = count_from root 0 es

-- whether an entry may stand only where the lane counts the root
abbrev pub ref_needs : RefDid → Bool
ref_needs Born = false
ref_needs Retain = true
ref_needs RefDid.Kept = true
ref_needs Ended = true
ref_needs Vacated = false
ref_needs (Look found) = true

-- a note that may stand only where the lane counts the root
abbrev pub note_needs : RootId → Note → Bool
note_needs root (Ref r did) = same_root r root && ref_needs did
note_needs root (At object number did) = takes_away root (passing did)
note_needs root (Busy held) = false

-- a note names the root: a step on its word, or a parcel with it that goes or comes
abbrev pub names_root : RootId → Note → Bool
names_root root (Ref r did) = same_root r root
names_root root (At object number did) = brings root (passing did) || takes_away root (passing did)
names_root root (Busy held) = false

-- an entry that may stand only where the lane counts the root
abbrev pub needs_count : RootId → ToldNote → Bool
needs_count root e = note_needs root e.note || root_is root e.root

-- a note ends the count of the root
abbrev pub ends_root : RootId → Note → Bool
ends_root root (Ref r Ended) = same_root r root
ends_root root _ = false

-- from this count on, the lane uses the root only while it counts it, and counts 0 after its end
abbrev pub CountsHold : RootId → ℕ → List ToldNote → Type 0
CountsHold root k [] = Unit {0}
CountsHold root k (e ∷ es) =
    (needs_count root e ≡ true → 0 < k)
    × ((ends_root root e.note ≡ true → count_step root k e ≡ 0)
    × CountsHold root (count_step root k e) es)

-- how many entries of a log pass a test
abbrev pub count_in : (Note → Bool) → List ToldNote → ℕ
count_in test [] = 0
count_in test (e ∷ es) = (if test e.note then 1 else 0) + count_in test es

-- how many entries of all logs pass a test
abbrev pub count_over : (Note → Bool) → List (List ToldNote) → ℕ
count_over test [] = 0
count_over test (es ∷ logs) = count_in test es + count_over test logs

-- a retain of the root
abbrev pub is_retain : RootId → Note → Bool
is_retain root (Ref r Retain) = same_root r root
is_retain root _ = false

-- a release, whether it ended the count or not
abbrev pub is_release : RootId → Note → Bool
is_release root (Ref r did) = same_root r root && ref_loses did
is_release root _ = false

-- the word of the root is set
abbrev pub is_born : RootId → Note → Bool
is_born root (Ref r Born) = same_root r root
is_born root _ = false

-- the birth of the root
abbrev pub is_birth : RootId → Note → Bool
is_birth root (At object number (Birth r region)) = same_root r root
is_birth root _ = false

-- the total of a root: one for its birth, and all retains less all releases
abbrev pub total_of : RootId → List (List ToldNote) → ℕ
total_of root logs = (1 + count_over (is_retain root) logs) - count_over (is_release root) logs

-- the sentences on the total of a root that was born
pub record TotalHolds (root : RootId) (logs : List (List ToldNote)) : Type 0 where
  pub never_below : count_over (is_release root) logs ≤ 1 + count_over (is_retain root) logs
  pub born_once : count_over (is_born root) logs ≡ 1
  pub ends_once : count_over (ends_root root) logs ≤ 1
  pub ends_at_zero : (count_over (ends_root root) logs ≡ 1) ↔ (total_of root logs ≡ 0)

-- the bounds of a count that a lane looks up: at least its own count, and at most what its own
-- retains and releases so far leave with all retains of others
pub record LookHolds (root : RootId) (own_retains own_releases count others found : ℕ) : Type 0
  where
    pub least : count ≤ found
    pub most : found + own_releases ≤ 1 + (own_retains + others)
