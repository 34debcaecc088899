-- How readings go on over the next entries.
use Rattle.std.proofs.Common.{◌≡◌, ℕ, [], ◌∷◌, ◌++◌, refl, sym, ap, ◌∙◌, append_assoc, Option, None}
use Rattle.std.specs.Prelude.{option_map}
use Rattle.pool_law.specs.declared.id.RootId.{RootId}
use Rattle.pool_law.specs.declared.note.Did.{Did}
use Rattle.pool_law.specs.declared.note.Note.{Note}
use Rattle.pool_law.specs.declared.note.Object.{Object}
use Rattle.pool_law.specs.declared.note.RefDid.{RefDid}
use Rattle.pool_law.specs.Logs.{ToldNote}
use Rattle.pool_law.specs.Readers.{ToldNotes, Log, Reader, behind_entry, marked, note, step, busy}
use Rattle.pool_law.proofs.PatternLemmas.{step-is}
use Rattle.seat_work.specs.Readings.{before_left, ReadsOn}
use Rattle.lane_stages.specs.Readings.{none_asked}

-- over one entry, and over the next
pub two_on : {A : Type 0} (r q t : Reader A) (e f : ToldNote) → ReadsOn r (e ∷ []) none_asked q
    → ReadsOn q (f ∷ []) none_asked t → ReadsOn r (e ∷ f ∷ []) none_asked t
two_on r q t e f first second log =
    first (before_left log (f ∷ []))
    ∙ second (record { seen = log.seen ++ e ∷ []; asked = log.asked; left = log.left })
    ∙ ap (λ (seen : ToldNotes). t (record { seen = seen; asked = log.asked; left = log.left }))
    (append_assoc log.seen (e ∷ []) (f ∷ []))

-- over two lists of entries, where no cache is asked
pub on_append : {A : Type 0} (r q t : Reader A) (es fs : ToldNotes) → ReadsOn r es none_asked q
    → ReadsOn q fs none_asked t → ReadsOn r (es ++ fs) none_asked t
on_append r q t es fs first second log =
    ap (λ (left : ToldNotes). r (record { seen = log.seen; asked = log.asked; left = left }))
    (append_assoc es fs log.left)
    ∙ first (before_left log fs)
    ∙ second (record { seen = log.seen ++ es; asked = log.asked; left = log.left })
    ∙ ap (λ (seen : ToldNotes). t (record { seen = seen; asked = log.asked; left = log.left }))
    (append_assoc log.seen es fs)

-- over no entries
pub still_on : {A : Type 0} (r : Reader A) → ReadsOn r [] none_asked r
still_on r log =
    ap (λ (seen : ToldNotes). r (record { seen = seen; asked = log.asked; left = log.left })) (sym (nil log.seen))
  where
    nil : (es : ToldNotes) → es ++ [] ≡ es
    nil [] = refl
    nil (e ∷ es) = ap (λ (x : ToldNotes). e ∷ x) (nil es)

-- what a step on a count doesn't say
module _ {A : Type 0} (e : ToldNote) (r : RootId) (says : RefDid → Option A) (did : RefDid)
    (is : e.note ≡ Note.Ref r did) where
  pub step_off : says did ≡ None → (log : Log) → step r says (before_left log (e ∷ [])) ≡ None
  step_off so log =
      step-is r says did (before_left log (e ∷ [])) e log.left refl is
      ∙ ap (λ (x : Option A). option_map (λ a. (a, behind_entry (before_left log (e ∷ [])) e log.left)) x) so

-- a busy mark alone may be there where a note is
pub note_unmarked : (e : ToldNote) (o p : Object) (n : ℕ) (did : Did) → e.note ≡ Note.At p n did → (log : Log)
    → busy o (before_left log (e ∷ [])) ≡ None
note_unmarked e o p n did is log =
    ap (λ (x : Note). option_map (λ (a : ℕ). (a, behind_entry (before_left log (e ∷ [])) e log.left)) (marked o x)) is
