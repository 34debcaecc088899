-- Which notes must stand before which, in any one order of all notes.
use Rattle.std.specs.Prelude.{◌≡◌, ◌⊎◌, ℕ, zero, suc, ◌+◌, ◌<◌, Bool, true, false, ◌&&◌, not, ◌==◌, List, length, Some, slice_get}
use Rattle.pool_law.specs.declared.note.RefDid.{RefDid}
use Rattle.pool_law.specs.declared.note.RefDid.TheVariants.{Born, Retain, Kept, Ended, Vacated, Look}
use Rattle.pool_law.specs.declared.note.Note.{Note}
use Rattle.pool_law.specs.declared.note.Note.TheVariants.{At, Ref, Busy}
use Rattle.pool_law.specs.Same.{same_object, same_root}
use Rattle.pool_law.specs.Kinds.{Passing, Stays, Goes, Comes, passing}
use Rattle.pool_law.specs.Logs.{Logs, has_history}
use Rattle.pool_law.specs.Lives.{StandsAt}
use Rattle.log_order.specs.declared.spots.Spot.{Spot}

-- the one sends a parcel, and the other gets one
abbrev pub hands_over : Passing → Passing → Bool
hands_over Stays q = false
hands_over (Comes p) q = false
hands_over (Goes p) Stays = false
hands_over (Goes p) (Goes q) = false
hands_over (Goes p) (Comes q) = true

-- of two notes at one object, with their numbers: in a history one has the next number, and a post is
-- before the fetch with its number
abbrev pub at_precedes : Bool → ℕ → Passing → ℕ → Passing → Bool
at_precedes true m p n q = m + 1 == n
at_precedes false m p n q = hands_over p q && (m == n)

-- a birth
abbrev pub is_birth : RefDid → Bool
is_birth Born = true
is_birth Retain = false
is_birth Kept = false
is_birth Ended = false
is_birth Vacated = false
is_birth (Look found) = false

-- an end
abbrev pub is_end : RefDid → Bool
is_end Born = false
is_end Retain = false
is_end Kept = false
is_end Ended = true
is_end Vacated = false
is_end (Look found) = false

-- of two steps on the count of one root: its birth is before each other, and its end behind each
-- that counts
abbrev pub ref_precedes : RefDid → RefDid → Bool
ref_precedes Born d = not (is_birth d)
ref_precedes Retain d = is_end d
ref_precedes Kept d = is_end d
ref_precedes (Look found) d = is_end d
ref_precedes Ended d = false
ref_precedes Vacated d = false

-- a note must stand before another, by what they say; a busy mark stands between the note with its
-- number and the next
abbrev pub note_precedes : Note → Note → Bool
note_precedes (At a m d) (At b n e) =
    same_object a b && at_precedes (has_history a) m (passing d) n (passing e)
note_precedes (At a n d) (Busy held) =
    same_object a held.object && (has_history a && (n == held.number))
note_precedes (Busy held) (At b n e) =
    same_object held.object b && (has_history held.object && (held.number + 1 == n))
note_precedes (Ref r d) (Ref s e) = same_root r s && ref_precedes d e
note_precedes (At a m d) (Ref s e) = false
note_precedes (Busy held) (Busy other) = false
note_precedes (Busy held) (Ref s e) = false
note_precedes (Ref r d) (At b n e) = false
note_precedes (Ref r d) (Busy held) = false

-- a note of the logs must stand before another: it is next before it in one log, or so they
-- say
pub record MustStandBefore (logs : Logs) (a b : Spot) : Type 0 where
  pub first : Note
  pub second : Note
  pub first_stands : StandsAt logs a.lane a.at first
  pub second_stands : StandsAt logs b.lane b.at second
  pub why : ((a.lane ≡ b.lane) × (suc a.at ≡ b.at)) ⊎ (note_precedes first second ≡ true)

-- each of these notes must stand before the next, and the last before the first
pub record GoesInACircle (logs : Logs) (spots : List Spot) : Type 0 where
  pub some : zero < length spots
  pub links : (k : ℕ) (a b : Spot) → slice_get spots k ≡ Some a → slice_get spots (suc k) ≡ Some b →
      MustStandBefore logs a b
  pub closes : (k : ℕ) (a b : Spot) → suc k ≡ length spots → slice_get spots k ≡ Some a →
      slice_get spots zero ≡ Some b → MustStandBefore logs a b

-- no notes go in a circle
abbrev pub GoInNoCircle : Logs → Type 0
GoInNoCircle logs = (spots : List Spot) → GoesInACircle logs spots → ⊥
