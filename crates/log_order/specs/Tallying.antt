-- How many steps of each kind were made, as the program keeps it.
use Rattle.std.specs.Prelude.{◌≡◌, ℕ, ◌+◌, ◌≤◌, ◌==◌, ◌&&◌, nat_lt, nat_le, if◌then◌else◌, Bool, true, List, [], ◌∷◌, Option, Some, None, unwrap_or}
use Rattle.std.specs.declared.cmp.Ordering.{Ordering}
use Rattle.std.specs.Ordering.{nat_cmp, ordering_then}
use Rattle.std.specs.BTreeMap.{get}
use Rattle.pool_law.specs.declared.id.RootId.{RootId}
use Rattle.pool_law.specs.declared.note.Object.{Object}
use Rattle.pool_law.specs.declared.note.Did.{Did}
use Rattle.pool_law.specs.declared.note.RefDid.{RefDid}
use Rattle.pool_law.specs.declared.note.RefDid.TheVariants.{Born, Retain, Kept, Ended, Vacated, Look}
use Rattle.pool_law.specs.declared.note.Note.{Note}
use Rattle.pool_law.specs.declared.note.Note.TheVariants.{At, Ref, Busy}
use Rattle.pool_law.specs.Kinds.{Passing, Stays, Goes, Comes, passing}
use Rattle.pool_law.specs.Legal.{one_if}
use Rattle.pool_law.specs.Logs.{has_history}
use Rattle.log_order.specs.Keying.{object_key}
use Rattle.run_order.specs.Order.{Step}
use Rattle.log_order.specs.declared.tally.Tally.{Tally}

-- what is counted: a kind of step, and of what
abbrev pub Key : Type 0
Key = ℕ × ℕ × ℕ × ℕ

-- the order of the keys
abbrev pub key_cmp : Key → Key → Ordering
key_cmp x y =
    ordering_then (ordering_then (ordering_then (nat_cmp x.0 y.0) (nat_cmp x.1 y.1)) (nat_cmp x.2 y.2))
    (nat_cmp x.3 y.3)

-- two keys are the same
abbrev pub same_key : Key → Key → Bool
same_key x y = (x.0 == y.0) && ((x.1 == y.1) && ((x.2 == y.2) && (x.3 == y.3)))

-- the ways of a note at an object: nothing passes, a parcel goes, one comes
abbrev pub way_of : Passing → ℕ
way_of Stays = 0
way_of (Goes parcel) = 1
way_of (Comes parcel) = 2

-- notes at an object, of one way
abbrev pub way_key : ℕ → Object → Key
way_key way object =
    let k = object_key object in (way, k.0, k.1, k.2)

-- steps on the count of a root, of one kind
abbrev pub root_key : ℕ → RootId → Key
root_key kind root = (kind, root.place, root.generation, root.capacity)

-- steps at a root place, of one kind
abbrev pub place_key : ℕ → ℕ → Key
place_key kind place = (kind, place, 0, 0)

-- the kinds of steps on counts: a birth, a retain, a release, an end, a vacating; a birth and a
-- vacating at a place
abbrev pub born_kind : ℕ
born_kind = 3

abbrev pub retain_kind : ℕ
retain_kind = 4

abbrev pub release_kind : ℕ
release_kind = 5

abbrev pub end_kind : ℕ
end_kind = 6

abbrev pub vacated_kind : ℕ
vacated_kind = 7

abbrev pub born_at_kind : ℕ
born_at_kind = 8

abbrev pub vacated_at_kind : ℕ
vacated_at_kind = 9

-- what a step on a count is counted as
abbrev pub ref_key : RootId → RefDid → Option Key
ref_key root Born = Some (root_key born_kind root)
ref_key root Retain = Some (root_key retain_kind root)
ref_key root Kept = Some (root_key release_kind root)
ref_key root Ended = Some (root_key release_kind root)
ref_key root Vacated = Some (root_key vacated_kind root)
ref_key root (Look found) = None

-- and what it is counted as beside
abbrev pub ref_key_beside : RootId → RefDid → Option Key
ref_key_beside root Born = Some (place_key born_at_kind root.place)
ref_key_beside root Retain = None
ref_key_beside root Kept = None
ref_key_beside root Ended = Some (root_key end_kind root)
ref_key_beside root Vacated = Some (place_key vacated_at_kind root.place)
ref_key_beside root (Look found) = None

-- what a note is counted as
abbrev pub note_key : Note → Option Key
note_key (At object number did) = Some (way_key (way_of (passing did)) object)
note_key (Ref root did) = ref_key root did
note_key (Busy held) = None

-- and what it is counted as beside
abbrev pub note_key_beside : Note → Option Key
note_key_beside (At object number did) = None
note_key_beside (Ref root did) = ref_key_beside root did
note_key_beside (Busy held) = None

-- one, if this is the key
abbrev pub one_at : Key → Option Key → ℕ
one_at key None = 0
one_at key (Some other) = one_if (same_key other key)

-- how many steps are counted under a key
abbrev pub counted : Key → List Step → ℕ
counted key [] = 0
counted key (x ∷ xs) = one_at key (note_key x.note) + one_at key (note_key_beside x.note) + counted key xs

-- how many the program has counted under a key
abbrev pub count_in : Tally → Key → ℕ
count_in tally key = unwrap_or (get key_cmp tally.map key) 0

-- at most so many were counted under any key
abbrev pub AreAtMost : ℕ → Tally → Type 0
AreAtMost n tally = (key : Key) → count_in tally key ≤ n

-- these steps were counted
abbrev pub AreCounted : Tally → List Step → Type 0
AreCounted tally steps = (key : Key) → count_in tally key ≡ counted key steps

-- how many notes were counted at an object
abbrev pub at_in : Tally → Object → ℕ
at_in tally object =
    count_in tally (way_key 0 object) + count_in tally (way_key 1 object)
    + count_in tally (way_key 2 object)

-- how many with which a note at an object is numbered
abbrev pub alike_in : Tally → Object → Did → ℕ
alike_in tally object did =
    if has_history object then at_in tally object
    else count_in tally (way_key (way_of (passing did)) object)

-- a fetch finds its post
abbrev pub finds_in : Tally → Object → ℕ → Passing → Bool
finds_in tally mail number Stays = true
finds_in tally mail number (Goes parcel) = true
finds_in tally mail number (Comes parcel) = nat_le number (count_in tally (way_key 1 mail))

-- the counts of a root that were gained, and lost
abbrev pub gained_in : Tally → RootId → ℕ
gained_in tally root =
    count_in tally (root_key born_kind root) + count_in tally (root_key retain_kind root)

abbrev pub lost_in : Tally → RootId → ℕ
lost_in tally root = count_in tally (root_key release_kind root)

-- so many counts are left
abbrev pub leaves_in : Tally → RootId → ℕ → Bool
leaves_in tally root n = gained_in tally root == lost_in tally root + n

-- a step on the count of a root fits
abbrev pub ref_fits_in : Tally → RootId → RefDid → Bool
ref_fits_in tally root Born =
    (root.generation == count_in tally (place_key born_at_kind root.place) + 1)
    && ((count_in tally (place_key vacated_at_kind root.place)
    == count_in tally (place_key born_at_kind root.place))
    && leaves_in tally root 0)
ref_fits_in tally root Retain = nat_lt (lost_in tally root) (gained_in tally root)
ref_fits_in tally root Kept = nat_lt (lost_in tally root + 1) (gained_in tally root)
ref_fits_in tally root Ended = leaves_in tally root 1
ref_fits_in tally root Vacated =
    (count_in tally (root_key end_kind root) == count_in tally (root_key vacated_kind root) + 1)
    && leaves_in tally root 0
ref_fits_in tally root (Look found) = nat_lt 0 found && leaves_in tally root found

-- a note fits what was counted
abbrev pub fits_in : Tally → Note → Bool
fits_in tally (At object number did) =
    (number == alike_in tally object did + 1) && finds_in tally object number (passing did)
fits_in tally (Ref root did) = ref_fits_in tally root did
fits_in tally (Busy held) = held.number == at_in tally held.object
