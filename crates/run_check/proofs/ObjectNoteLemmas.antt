-- The notes of lanes, by object.
use Rattle.std.proofs.Common.{◌≡◌, ℕ, zero, suc, Bool, true, false, List, [], ◌∷◌, ◌++◌, Option, Some, None, Vec, refl, sym, ap, ◌∙◌, append-nil}
use Rattle.std.specs.Prelude.{if◌then◌else◌}
use Rattle.std.specs.List.{AllZip}
use Rattle.std.proofs.lemmas.List.{map-append}
use Rattle.std.specs.BTreeMap.{is_at}
use denote.Ref.{Bor}
use Rattle.std.specs.declared.alloc.Global.{Global}
use Rattle.pool_law.specs.declared.note.Object.{Object}
use Rattle.pool_law.specs.declared.note.Did.{Did}
use Rattle.pool_law.specs.declared.run.LaneLog.{LaneLog}
use Rattle.pool_law.specs.Same.{same_object}
use Rattle.pool_law.specs.declared.note.Note.TheVariants.{At}
use Rattle.pool_law.specs.Logs.{own, own_note}
use Rattle.pool_law.proofs.SameLemmas.{same_object-is, same_object-swap}
use Rattle.run_check.specs.declared.gathering.HistoryNote.{HistoryNote}
use Rattle.run_check.specs.declared.object_notes.ObjectNotes.{ObjectNotes}
use Rattle.lane_reader.specs.Counting.{key_cmp}
use Rattle.run_check.specs.Keying.{object_key}
use Rattle.run_check.specs.Gathering.{note_data, notes_data, left_of}
use Rattle.run_check.specs.ByObject.{notes_found, notes_at, notes_in, laned, AreByObject}
use Rattle.run_check.proofs.KeyLemmas.{is_at-object}

abbrev pub Found : Type 0
Found = ℕ × ℕ × ℕ → Option (Vec HistoryNote Global)

pub notes-pushed : (old new : List HistoryNote) (note : HistoryNote) (before : List (ℕ × Did)) → notes_data old ≡
    before →
    new ≡ old ++ note ∷ [] → notes_data new ≡ before ++ note_data note ∷ []
notes-pushed old new note before was is =
    ap notes_data is
    ∙ map-append note_data old (note ∷ [])
    ∙ ap (λ (xs : List (ℕ × Did)). xs ++ note_data note ∷ []) was

-- a list of notes is taken out, and comes back with one more
module _ (object other : Object) (old mid new : Found) (before : List (ℕ × Did)) (notes : Vec HistoryNote Global)
    (note : HistoryNote)
    (key : ℕ × ℕ × ℕ) (at_key : key ≡ object_key object) where
  pub put-note :
      notes_data notes.items ≡ before ++ note_data note ∷ [] →
      ((q : ℕ × ℕ × ℕ) → mid q ≡ (if is_at (key_cmp (object_key object)) q then None else old q)) →
      ((q : ℕ × ℕ × ℕ) → new q ≡ (if is_at (key_cmp key) q then Some notes else mid q)) →
      before ≡ notes_found (old (object_key object)) →
      notes_found (new (object_key other))
      ≡ (if same_object object other
      then notes_found (old (object_key other)) ++ note_data note ∷ []
      else notes_found (old (object_key other)))
  put-note is out back was = go (same_object object other) refl
    where
      at : (b : Bool) → same_object object other ≡ b →
          new (object_key other) ≡ (if b then Some notes else (if b then None else old (object_key other)))
      at b e =
          back (object_key other)
          ∙ ap (λ (k : ℕ × ℕ × ℕ). if is_at (key_cmp k) (object_key other) then Some notes else mid (object_key other))
          at_key
          ∙ ap (λ (m : Option (Vec HistoryNote Global)). if is_at (key_cmp (object_key object)) (object_key other) then
          Some
          notes else m)
          (out (object_key other))
          ∙ ap (λ (t : Bool). if t then Some notes else (if t then None else old (object_key other)))
          (is_at-object object other ∙ e)

      go : (b : Bool) → same_object object other ≡ b →
          notes_found (new (object_key other))
          ≡ (if b then notes_found (old (object_key other)) ++ note_data note ∷ []
          else notes_found (old (object_key other)))
      go true e =
          ap notes_found (at true e)
          ∙ is
          ∙ ap (λ (xs : List (ℕ × Did)). xs ++ note_data note ∷ [])
          (was ∙ ap (λ (o : Object). notes_found (old (object_key o))) (same_object-is object other e))
      go false e = ap notes_found (at false e)

-- a note that is put at its object is put as the law has it
pub note-own : (object other : Object) (number : ℕ) (did : Did) (old new : List (ℕ × Did)) →
    new ≡ (if same_object object other then old ++ (number, did) ∷ [] else old) →
    new ≡ old ++ own_note other (At object number did)
note-own object other number did old new is =
    is
    ∙ go (same_object object other)
    ∙ ap (λ (b : Bool). old ++ (if b then (number, did) ∷ [] else [])) (same_object-swap object other)
  where
    go : (b : Bool) →
        (if b then old ++ (number, did) ∷ [] else old) ≡ old ++ (if b then (number, did) ∷ [] else [])
    go true = refl
    go false = sym (append-nil old)

-- each lane's notes are those of a log
abbrev pub AreOf : ObjectNotes → LaneLog → Type 0
AreOf by_object log = (object : Object) → notes_at by_object object ≡ own object log.notes

pub laned-are : (lanes : List ObjectNotes) (logs : List LaneLog) → AllZip AreOf lanes logs
    → AreByObject lanes (notes_in logs)
laned-are [] [] are object lane = refl
laned-are [] (l ∷ logs) are object lane = absurd are
laned-are (s ∷ lanes) [] are object lane = absurd are
laned-are (s ∷ lanes) (l ∷ logs) are object zero = are.0 object
laned-are (s ∷ lanes) (l ∷ logs) are object (suc lane) = laned-are lanes logs are.1 object lane

-- what a lane has at an object, from behind a reference
abbrev pub IsAt : Object → Bor (List HistoryNote) → ObjectNotes → Type 0
IsAt object left by_object = notes_data left.now ≡ notes_at by_object object

pub left-are : (object : Object) (left : List (Bor (List HistoryNote))) (lanes : List ObjectNotes) →
    AllZip (IsAt object) left lanes → (lane : ℕ) → left_of left lane ≡ laned lanes object lane
left-are object [] [] are lane = refl
left-are object [] (s ∷ lanes) are lane = absurd are
left-are object (x ∷ left) [] are lane = absurd are
left-are object (x ∷ left) (s ∷ lanes) are zero = are.0
left-are object (x ∷ left) (s ∷ lanes) are (suc lane) = left-are object left lanes are.1 lane
