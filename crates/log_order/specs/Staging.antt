-- What a note speaks of, and at which number: by this it is found by those that it must stand before.
use Rattle.std.specs.Prelude.{ℕ, ◌-◌, nat_lt, if◌then◌else◌, Option, Some, None}
use Rattle.pool_law.specs.declared.note.Object.{Object}
use Rattle.pool_law.specs.declared.note.Did.{Did}
use Rattle.pool_law.specs.declared.note.RefDid.{RefDid}
use Rattle.pool_law.specs.declared.note.RefDid.TheVariants.{Born, Retain, Kept, Ended, Vacated, Look}
use Rattle.pool_law.specs.declared.note.Note.{Note}
use Rattle.pool_law.specs.declared.note.Note.TheVariants.{At, Ref, Busy}
use Rattle.pool_law.specs.Kinds.{Passing, Stays, Goes, Comes, passing}
use Rattle.pool_law.specs.Logs.{has_history}
use Rattle.log_order.specs.Precedence.{is_birth, is_end}
use Rattle.log_order.specs.Tallying.{Key, way_of, way_key, root_key, born_kind, retain_kind, end_kind, vacated_kind}

-- what is spoken of, and the number there
abbrev pub Stage : Type 0
Stage = Key × ℕ

-- the kind of busy marks
abbrev pub mark_kind : ℕ
mark_kind = 10

-- in a history all notes are of one kind
abbrev pub at_kind : Object → Did → ℕ
at_kind object did = if has_history object then 0 else way_of (passing did)

-- the steps on a count between its birth and its end are of one kind
abbrev pub ref_kind : RefDid → ℕ
ref_kind Born = born_kind
ref_kind Retain = retain_kind
ref_kind Kept = retain_kind
ref_kind Ended = end_kind
ref_kind Vacated = vacated_kind
ref_kind (Look found) = retain_kind

-- the stage of a note
abbrev pub stage_of : Note → Stage
stage_of (At object number did) = (way_key (at_kind object did) object, number)
stage_of (Ref root did) = (root_key (ref_kind did) root, 0)
stage_of (Busy held) = (way_key mark_kind held.object, held.number)

-- that of a kind at an object with the number before this one
abbrev pub stage_before : ℕ → Object → ℕ → Option Stage
stage_before kind object number =
    if nat_lt 0 number then Some (way_key kind object, number - 1) else None

-- that of the post that a fetch finds
abbrev pub post_of : Object → ℕ → Passing → Option Stage
post_of mail number Stays = None
post_of mail number (Goes parcel) = None
post_of mail number (Comes parcel) = Some (way_key 1 mail, number)

-- a stage of notes that must stand before this one, if there is one
abbrev pub first_want : Note → Option Stage
first_want (At object number did) =
    if has_history object then stage_before 0 object number else post_of object number (passing did)
first_want (Ref root did) = if is_birth did then None else Some (root_key born_kind root, 0)
first_want (Busy held) =
    if has_history held.object then Some (way_key 0 held.object, held.number) else None

-- and another
abbrev pub second_want : Note → Option Stage
second_want (At object number did) =
    if has_history object then stage_before mark_kind object number else None
second_want (Ref root did) = if is_end did then Some (root_key retain_kind root, 0) else None
second_want (Busy held) = None
