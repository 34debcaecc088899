-- The roots that one seat alone names.
use Rattle.std.specs.Prelude.{◌≡◌, ℕ, ◌+◌, ◌<◌, if◌then◌else◌, List, [], replicate, fold, Option, All, sum_by}
use Rattle.pool_law.specs.declared.id.RootId.{RootId}
use Rattle.pool_law.specs.declared.note.Did.{Did}
use Rattle.pool_law.specs.declared.note.Did.TheVariants.{Birth, Set, Extend, Grow}
use Rattle.pool_law.specs.declared.note.Noted.{Noted}
use Rattle.pool_law.specs.Roots.{laid_over, zeros_to}
use Rattle.pool_law.specs.Same.{same_root}
use Rattle.pool_law.specs.Counts.{root_is}
use Rattle.history_laws.specs.NoteCounts.{one_if_so, view_of_root, did_birth_as, did_end_of, did_fetch_of, did_post_of}
use Rattle.pool_table.specs.declared.views.Entry.{Entry}
use Rattle.pool_table.specs.declared.views.Entry.TheVariants.{At, Ref, Busy}
use Rattle.pool_table.specs.declared.views.Letter.{Letter}
use Rattle.pool_table.specs.declared.views.SeatView.{SeatView}
use Rattle.pool_table.specs.Counts.{weigh, posts}
use Rattle.pool_table.specs.Hands.{at_birth_as}

-- the entry notes the birth of this root
abbrev pub births : RootId → Entry → ℕ
births r e = at_birth_as r.place r.generation r.capacity e

-- how often a note at a place names the root: as born, as the one that it is made on, and as ended
abbrev pub told_at : RootId → Noted → ℕ
told_at r n =
    did_birth_as r.place r.generation r.capacity n.did
    + (one_if_so (root_is r n.root) + did_end_of r n.did)

-- how often an entry names it: a note, also one that posts or fetches a view of it, or a step on its
-- word
abbrev pub names : RootId → Entry → ℕ
names r (At o k n) = told_at r n + (did_post_of r n.did + did_fetch_of r n.did)
names r (Ref q d) = one_if_so (same_root q r)
names r (Busy b) = 0

-- the root was born by the view's own part, which has posted no view of it
pub record IsLone (r : RootId) (v : SeatView) : Type 0 where
  pub born : 0 < sum_by (births r) v.own.notes
  pub kept : sum_by (posts r) v.own.notes ≡ 0

-- of all entries of all parts, those that name the root are the view's own
abbrev pub NamesAlone : List SeatView → RootId → SeatView → Type 0
NamesAlone views r v = sum_by (weigh (names r)) views ≡ sum_by (names r) v.own.notes

-- who bore a root and posted it to nobody is the only one to name it
abbrev pub AreLone : List SeatView → Type 0
AreLone views =
    All (λ (v : SeatView). (r : RootId) → IsLone r v → NamesAlone views r v) views

-- no letter that the view has carries a view of the root
abbrev pub CarriesNone : RootId → SeatView → Type 0
CarriesNone r v = All (λ (x : Letter). view_of_root r x.parcel.view ≡ 0) v.letters

-- what a note makes of the root's bytes, if it bears it or is made on it
abbrev pub laid_by : RootId → List ℕ → Option RootId → Did → List ℕ
laid_by r bytes on (Birth q region) = if same_root q r then replicate r.capacity 0 else bytes
laid_by r bytes on (Set offset more) = if root_is r on then laid_over bytes offset more else bytes
laid_by r bytes on (Extend size) = if root_is r on then zeros_to size bytes else bytes
laid_by r bytes on (Grow size region) = if root_is r on then zeros_to size bytes else bytes
laid_by r bytes on did = bytes

abbrev pub laid_in : RootId → List ℕ → Entry → List ℕ
laid_in r bytes (At o k n) = laid_by r bytes n.root n.did
laid_in r bytes (Ref q d) = bytes
laid_in r bytes (Busy b) = bytes

-- the root's bytes, as the notes of the view's own part laid them, one after the other
abbrev pub own_bytes : RootId → SeatView → List ℕ
own_bytes r v = fold (laid_in r) [] v.own.notes
