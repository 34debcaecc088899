-- The lines of notes, as a text shows them.
use Rattle.std.proofs.Common.{◌≡◌, ℕ, ◌+◌, ◌<◌, ◌^◌, true, List, [], ◌∷◌, ◌++◌, map, Option, Some, None, refl, sym, ap, ◌∙◌, codes, decimal, arith}
use Rattle.std.proofs.lemmas.Bool.{lt-ltb}
use Rattle.std.specs.List.{All}
use Rattle.std.proofs.lemmas.List.{map-append}
use Rattle.std.proofs.lemmas.List.Elements.{All-cons, All-head, All-tail}
use Rattle.pool_law.specs.declared.id.Place.{Place}
use Rattle.pool_law.specs.declared.id.RegionId.{RegionId}
use Rattle.pool_law.specs.declared.id.ViewData.{ViewData}
use Rattle.pool_law.specs.declared.note.CacheNo.{CacheNo}
use Rattle.pool_law.specs.declared.note.Did.{Did}
use Rattle.pool_law.specs.declared.note.Note.{Note}
use Rattle.pool_law.specs.declared.note.Object.{Object}
use Rattle.pool_law.specs.declared.note.RefDid.{RefDid}
use Rattle.pool_law.specs.declared.run.LaneLog.{LaneLog}
use Rattle.pool_law.specs.Text.{Text, all_notes, did_words, note_lines, note_words, object_words, parcel_words, ref_words, shown_place, region_words, why_word}
use Rattle.run_text.specs.Told.{FitsDid, FitsNote, FitsObject, FitsParcel, FitsPlace, FitsRef, FitsRegion}
use Rattle.run_text.specs.Lines.{Line, of_lane, told_from}
use Rattle.run_text.specs.Knowing.{FitsLine, line_text}
use Rattle.run_text.specs.Starting.{AreShown, is_shown, unlines, Begins}
use Rattle.run_text.proofs.ShownLemmas.{AreShown-append, line_first, shown-append, shown-bytes, shown-cons, shown-decimal, shown-spaced, small, unlines-append}

-- ---- Words of notes.

pair : (mark a b : ℕ) → 31 < mark → a < 2 ^ 32 → b < 2 ^ 32 → is_shown (decimal a ++ mark ∷ decimal b) ≡ true
pair mark a b high low least =
    shown-append (decimal a) (mark ∷ decimal b) (small a low)
    (shown-cons mark (decimal b) (lt-ltb 31 mark high) (small b least))

place : (p : Place) → FitsPlace p → is_shown (shown_place p) ≡ true
place p fits =
    shown-append (decimal p.arena ++ 46 ∷ decimal p.chunk) (43 ∷ decimal p.offset)
    (pair 46 p.arena p.chunk (omega arith) fits.0 fits.1) (shown-cons 43 (decimal p.offset) refl
    (small p.offset fits.2))

shown-object : (object : Object) → FitsObject object → AreShown (object_words object)
shown-object (Object.Arena number) fits = (refl, (small number fits, tt))
shown-object (Object.Cache lane class) fits = (refl, (small lane fits.0, (small class fits.1, tt)))
shown-object (Object.Bin lane) fits = (refl, (small lane fits, tt))
shown-object (Object.Mail from to) fits = (refl, (small from fits.0, (small to fits.1, tt)))
shown-object (Object.Root number) fits = (refl, (small number fits, tt))

shown-region : (r : RegionId) → FitsRegion r → AreShown (region_words r)
shown-region r fits =
    (pair 43 r.place.chunk r.place.offset (omega arith) fits.0 fits.1, (shown-decimal r.taking fits.2, tt))

shown-parcel : (view : Option ViewData) → FitsParcel view → AreShown (parcel_words view)
shown-parcel None fits = (refl, tt)
shown-parcel (Some v) fits = (
  pair 46 v.root.place v.root.generation (omega arith) fits.0 fits.1,
  (pair 43 v.offset v.len (omega arith) fits.2 fits.3, (small v.reader fits.4, (small v.writer fits.5, tt))),
)

shown-why : (why : CacheNo) → is_shown (why_word why) ≡ true
shown-why CacheNo.Full = refl
shown-why CacheNo.Closed = refl

shown-did : (did : Did) → FitsDid did → AreShown (did_words did)
shown-did (Did.Take class region) fits = (refl, (small class fits.0, shown-region region fits.1))
shown-did (Did.Full class) fits = (refl, (small class fits, tt))
shown-did (Did.Give region) fits = (refl, shown-region region fits)
shown-did (Did.Hit region) fits = (refl, (shown-decimal region.taking fits, tt))
shown-did Did.Miss fits = (refl, tt)
shown-did (Did.Kept region) fits = (refl, (shown-decimal region.taking fits, tt))
shown-did (Did.Back region why) fits = (refl, (shown-why why, (shown-decimal region.taking fits, tt)))
shown-did (Did.Trim quota) fits = (refl, (small quota fits, tt))
shown-did (Did.Close quota) fits = (refl, (small quota fits, tt))
shown-did (Did.Shed region) fits = (refl, (shown-decimal region.taking fits, tt))
shown-did (Did.Handle number) fits = (refl, (small number fits, tt))
shown-did Did.NoHandle fits = (refl, tt)
shown-did (Did.Home number) fits = (refl, (small number fits, tt))
shown-did (Did.Post parcel) fits = (refl, shown-parcel parcel.view fits)
shown-did (Did.Fetch parcel) fits = (refl, shown-parcel parcel.view fits)
shown-did (Did.Birth root region) fits = (
  refl,
  (
    small root.generation fits.0,
    (
      place region.place fits.1.0,
      (
        shown-decimal region.taking fits.1.1,
        (shown-decimal region.uses fits.1.2, (small root.capacity fits.1.3, tt)),
      ),
    ),
  ),
)
shown-did (Did.Set offset bytes) fits = (refl, (small offset fits.0, (shown-bytes bytes, tt)))
shown-did (Did.Get offset bytes) fits = (refl, (small offset fits.0, (shown-bytes bytes, tt)))
shown-did Did.Touch fits = (refl, tt)
shown-did (Did.Room asked capacity) fits = (refl, (small asked fits.0, (small capacity fits.1, tt)))
shown-did (Did.Extend size) fits = (refl, (small size fits, tt))
shown-did (Did.Grow capacity region) fits = (
  refl,
  (
    place region.place fits.0,
    (shown-decimal region.taking fits.1, (shown-decimal region.uses fits.2, (small capacity fits.3, tt))),
  ),
)
shown-did (Did.End root) fits = (refl, (small root.generation fits, tt))

shown-ref : (did : RefDid) → FitsRef did → AreShown (ref_words did)
shown-ref RefDid.Born fits = (refl, tt)
shown-ref RefDid.Retain fits = (refl, tt)
shown-ref RefDid.Kept fits = (refl, tt)
shown-ref RefDid.Ended fits = (refl, tt)
shown-ref RefDid.Vacated fits = (refl, tt)
shown-ref (RefDid.Look found) fits = (refl, (small found fits, tt))

shown-words : (note : Note) → FitsNote note → AreShown (note_words note)
shown-words (Note.At object number did) fits =
    AreShown-append (object_words object) (decimal number ∷ did_words did) (shown-object object fits.0)
    (shown-decimal number fits.1, shown-did did fits.2)
shown-words (Note.Ref root did) fits =
    (refl, (pair 46 root.place root.generation (omega arith) fits.0 fits.1, shown-ref did fits.2))
shown-words (Note.Busy held) fits = (
  refl,
  AreShown-append (object_words held.object) (decimal held.number ∷ []) (shown-object held.object fits.0)
      (shown-decimal held.number fits.1, tt),
)

-- ---- Lines of notes.

-- each byte of the line of a note is a space or above
pub shown-line : (line : Line) → FitsLine line → is_shown (line_text line) ≡ true
shown-line line fits =
    shown-spaced (codes "note" ∷ decimal line.0 ∷ note_words line.1)
    (refl, (small line.0 fits.0, shown-words line.1 fits.1))

-- so it begins
note_begins : (line : Line) → Begins (codes "note ") (line_text line)
note_begins line = refl

pub shown-lines : (lines : List Line) → All FitsLine lines → AreShown (map line_text lines)
shown-lines [] fits = tt
shown-lines (line ∷ lines) fits =
    (shown-line line (All-head FitsLine line lines fits), shown-lines lines (All-tail FitsLine line lines fits))

pub notes_begin : (lines : List Line) → All (Begins (codes "note ")) (map line_text lines)
notes_begin [] = λ k d low. absurd (omega (arith, low))
notes_begin (line ∷ lines) =
    All-cons (Begins (codes "note ")) (line_text line) (map line_text lines) (note_begins line) (notes_begin lines)

lane-lines : (lane : ℕ) (notes : List Note) → note_lines lane notes ≡ unlines (map line_text (of_lane lane notes))
lane-lines lane [] = refl
lane-lines lane (n ∷ notes) =
    line_first (codes "note" ∷ decimal lane ∷ note_words n) (note_lines lane notes)
    ∙ ap (λ (z : Text). line_text (lane, n) ++ 10 ∷ z) (lane-lines lane notes)

-- the text of the notes of lanes is that of their lines
pub notes_are : (lane : ℕ) (logs : List LaneLog)
    → all_notes lane logs ≡ unlines (map line_text (told_from lane (map (λ (log : LaneLog). log.notes) logs)))
notes_are lane [] = refl
notes_are lane (log ∷ logs) =
    let rest = told_from (lane + 1) (map (λ (l : LaneLog). l.notes) logs) in
    (λ i. lane-lines lane log.notes i ++ notes_are (lane + 1) logs i)
    ∙ sym (unlines-append (map line_text (of_lane lane log.notes)) (map line_text rest))
    ∙ sym (ap unlines (map-append line_text (of_lane lane log.notes) rest))
