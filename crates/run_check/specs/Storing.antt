-- The histories of objects as the program keeps them.
use Rattle.std.specs.Prelude.{◌≡◌, ℕ, Bool, true, false, List, [], Option, Some, None, is_some, IsTrue, Vec}
use Rattle.std.specs.BTreeMap.{get}
use Rattle.std.specs.declared.alloc.Global.{Global}
use Rattle.pool_law.specs.declared.note.Did.{Did}
use Rattle.pool_law.specs.declared.note.Note.{Note}
use Rattle.pool_law.specs.declared.note.Object.{Object}
use Rattle.pool_law.specs.declared.note.Object.TheVariants.{Root}
use Rattle.pool_law.specs.declared.run.Shape.{Shape}
use Rattle.pool_law.specs.Logs.{Logs, History, dids, own, IsHistory, has_history, history_of}
use Rattle.pool_law.specs.Mails.{MailsHold}
use Rattle.pool_law.specs.Histories.{accepts, IsAccepted}
use Rattle.pool_law.specs.Roots.{new_place}
use Rattle.lane_reader.specs.Counting.{key_cmp}
use Rattle.run_check.specs.Keying.{object_key}
use Rattle.run_check.specs.Merging.{dones_in}
use Rattle.run_check.specs.Mailing.{IsHeldMail}
use Rattle.object_steps.specs.Telling.{told_of_each}
use Rattle.object_steps.specs.declared.told.PlaceTold.{PlaceTold}
use Rattle.run_check.specs.declared.histories.ObjectHistory.{ObjectHistory}
use Rattle.run_check.specs.declared.histories.Histories.{Histories}

-- what an object's history tells of each of its notes
abbrev pub told_of : Object → List Did → List PlaceTold
told_of (Root place) ds = told_of_each place new_place ds
told_of _ ds = []

-- the object accepts the notes, and this is told of them; or it does not accept them
abbrev pub TellsOf : Shape → Object → List Did → Option (Vec PlaceTold Global) → Type 0
TellsOf shape object ds None = accepts shape object ds ≡ false
TellsOf shape object ds (Some told) =
    (accepts shape object ds ≡ true) × (told.items ≡ told_of object ds)

-- the logs give the object this history, which it accepts, with what is told; a mail holds
pub record IsObjectHistory (shape : Shape) (logs : Logs) (object : Object) (kept : ObjectHistory) : Type 0 where
  pub whole : IsTrue (has_history object) → IsHistory object logs (dones_in kept.dones.items)
  pub accepted : IsTrue (has_history object) →
      IsAccepted shape object (dids (dones_in kept.dones.items))
  pub mail : IsHeldMail logs object
  pub told : kept.told.items ≡ told_of object (dids (dones_in kept.dones.items))

-- the logs give the object a whole history, which it accepts; a mail holds
pub record ObjectHolds (shape : Shape) (logs : Logs) (object : Object) : Type 0 where
  pub whole : IsTrue (has_history object) → IsHistory object logs (history_of object logs)
  pub accepted : IsTrue (has_history object) →
      IsAccepted shape object (dids (history_of object logs))
  pub mail : IsHeldMail logs object

-- the history of an object, if it is there
abbrev pub object_history_in : Histories → Object → Option ObjectHistory
object_history_in m object = get key_cmp m.map (object_key object)

-- the history of the object is there
abbrev pub has_object_history : Histories → Object → Bool
has_object_history m object = is_some (object_history_in m object)

-- what was done, of a history that may be there
abbrev pub dones_of : Option ObjectHistory → History
dones_of None = []
dones_of (Some object_history) = dones_in object_history.dones.items

-- what is told, of a history that may be there
abbrev pub told_by_object_history : Option ObjectHistory → List PlaceTold
told_by_object_history None = []
told_by_object_history (Some object_history) = object_history.told.items

-- the history of an object
abbrev pub history_in : Histories → Object → History
history_in m object = dones_of (object_history_in m object)

-- what is told of the notes at a root place
abbrev pub told_in : Histories → ℕ → List PlaceTold
told_in m place = told_by_object_history (object_history_in m (Root place))

-- each history that is there is right
abbrev pub AreObjectHistories : Shape → Logs → Histories → Type 0
AreObjectHistories shape logs m =
    (object : Object) (kept : ObjectHistory) → object_history_in m object ≡ Some kept →
    IsObjectHistory shape logs object kept

-- the histories that were there are there
abbrev pub Keeps : Histories → Histories → Type 0
Keeps old new = (object : Object) → has_object_history old object ≡ true → has_object_history new object ≡ true

-- the notes are at objects whose histories are there
abbrev pub Covers : Histories → List Note → Type 0
Covers m notes = (object : Object) → has_object_history m object ≡ false → own object notes ≡ []

-- the logs give each object but the mails this whole history, which it accepts, and of root places
-- what is told; each mail holds
pub record AreHistories (shape : Shape) (logs : Logs) (m : Histories) : Type 0 where
  pub whole : (object : Object) → IsTrue (has_history object) →
      IsHistory object logs (history_in m object)
  pub accepted : (object : Object) → IsTrue (has_history object) →
      IsAccepted shape object (dids (history_in m object))
  pub mails : MailsHold logs
  pub told : (place : ℕ) →
      told_in m place ≡ told_of_each place new_place (dids (history_in m (Root place)))
