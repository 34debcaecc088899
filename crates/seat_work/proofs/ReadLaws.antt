-- How readings go on over the next entries.
use Rattle.std.proofs.Common.{◌≡◌, ℕ, ◌+◌, [], ◌∷◌, ◌++◌, Bool, true, refl, ap, ◌∙◌, append_assoc, Option, Some, None}
use Rattle.std.specs.Prelude.{if◌then◌else◌, option_map, option_and_then}
use Rattle.pool_law.specs.declared.id.RootId.{RootId}
use Rattle.pool_law.specs.declared.note.Did.{Did}
use Rattle.pool_law.specs.declared.note.Held.{Held}
use Rattle.pool_law.specs.declared.note.Note.{Note}
use Rattle.pool_law.specs.declared.note.Object.{Object}
use Rattle.pool_law.specs.declared.note.RefDid.{RefDid}
use Rattle.pool_law.specs.Arenas.{or_else}
use Rattle.pool_law.specs.Counts.{root_is}
use Rattle.pool_law.specs.Logs.{ToldNote}
use Rattle.pool_law.specs.Readers.{ToldNotes, Log, Reader, ◌>>=◌, ◌>>◌, ◌or◌, give, behind_entry, done_at, marked, note, step, busy, access, ask}
use Rattle.pool_law.specs.Same.{same_object}
use Rattle.pool_law.proofs.CompositeLemmas.{access-is}
use Rattle.pool_law.proofs.PatternLemmas.{same_object-refl, note-is, step-is}
use Rattle.seat_work.specs.Readings.{before_left, ReadsOn}

-- no cache is asked, and one is
abbrev pub none_asked : ℕ → ℕ
none_asked asked = asked

abbrev pub one_asked : ℕ → ℕ
one_asked asked = asked + 1

-- ---- One reading after another.

module _ {A B : Type 0} (r : Reader A) (es : ToldNotes) (asks : ℕ → ℕ) where
  pub then_on : (f : A → Reader B) (q : Reader A) → ReadsOn r es asks q → ReadsOn (r >>= f) es asks (q >>= f)
  then_on f q on log = ap (λ o. option_and_then (λ got. f got.0 got.1) o) (on log)

  -- where it gives this
  pub given_on : (f : A → Reader B) (a : A) → ReadsOn r es asks (give a) → ReadsOn (r >>= f) es asks (f a)
  given_on f a on log = ap (λ o. option_and_then (λ got. f got.0 got.1) o) (on log)

-- of two readings the first, and where it gives nothing the second
module _ {A : Type 0} (r q : Reader A) (es : ToldNotes) (asks : ℕ → ℕ) where
  pub first_on : (a : A) → ReadsOn r es asks (give a) → ReadsOn (r or q) es asks (give a)
  first_on a on log = ap (λ o. or_else o (q (before_left log es))) (on log)

  pub second_on : (t : Reader A) → ((log : Log) → r (before_left log es) ≡ None) → ReadsOn q es asks t
      → ReadsOn (r or q) es asks t
  second_on t none on log = ap (λ o. or_else o (q (before_left log es))) (none log) ∙ on log

pub none_then : {A B : Type 0} (r : Reader A) (f : A → Reader B) (log : Log) → r log ≡ None → (r >>= f) log ≡ None
none_then r f log is = ap (λ o. option_and_then (λ got. f got.0 got.1) o) is

-- over two lists of entries
pub on_append : {A : Type 0} (r q t : Reader A) (es fs : ToldNotes) (f g : ℕ → ℕ) → ReadsOn r es f q
    → ReadsOn q fs g t → ReadsOn r (es ++ fs) (λ n. g (f n)) t
on_append r q t es fs f g first second log =
    ap (λ (left : ToldNotes). r (record { seen = log.seen; asked = log.asked; left = left }))
    (append_assoc es fs log.left)
    ∙ first (before_left log fs)
    ∙ second (record { seen = log.seen ++ es; asked = f log.asked; left = log.left })
    ∙ ap (λ (seen : ToldNotes). t (record { seen = seen; asked = g (f log.asked); left = log.left }))
    (append_assoc log.seen es fs)

-- an allocation asks a cache, and what it reads then
pub asked_on : {A : Type 0} (r t : Reader A) (es : ToldNotes) → ReadsOn r es none_asked t
    → ReadsOn (ask >> r) es one_asked t
asked_on r t es on log = on (record log { asked = log.asked + 1 })

-- ---- One entry.

module _ {A : Type 0} (e : ToldNote) where
  -- the log behind the entry
  abbrev passed : Log → A → A × Log
  passed log a = (a, behind_entry (before_left log (e ∷ [])) e log.left)

  module _ (o : Object) (says : Did → Option A) (n : ℕ) (did : Did) (is : e.note ≡ Note.At o n did) where
    pub note_on : (a : A) → says did ≡ Some a → ReadsOn (note o says) (e ∷ []) none_asked (give a)
    note_on a so log =
        note-is o says n did (before_left log (e ∷ [])) e log.left refl is
        ∙ ap (λ (x : Option A). option_map (passed log) x) so

    pub note_off : says did ≡ None → (log : Log) → note o says (before_left log (e ∷ [])) ≡ None
    note_off so log =
        note-is o says n did (before_left log (e ∷ [])) e log.left refl is
        ∙ ap (λ (x : Option A). option_map (passed log) x) so

  pub step_on : (r : RootId) (says : RefDid → Option A) (did : RefDid) → e.note ≡ Note.Ref r did → (a : A)
      → says did ≡ Some a → ReadsOn (step r says) (e ∷ []) none_asked (give a)
  step_on r says did is a so log =
      step-is r says did (before_left log (e ∷ [])) e log.left refl is
      ∙ ap (λ (x : Option A). option_map (passed log) x) so

  -- an access to a root that is present
  module _ (root : RootId) (says : Did → Option A) (n : ℕ) (did : Did)
      (is : e.note ≡ Note.At (Object.Root root.place) n did) (here : root_is root e.root ≡ true) where
    pub access_on : (a : A) → says did ≡ Some a → ReadsOn (access root says) (e ∷ []) none_asked (give a)
    access_on a so log =
        access-is root says n did (before_left log (e ∷ [])) e log.left refl is here
        ∙ ap (λ (x : Option A). option_map (passed log) x) so

    pub access_off : says did ≡ None → (log : Log) → access root says (before_left log (e ∷ [])) ≡ None
    access_off so log =
        access-is root says n did (before_left log (e ∷ [])) e log.left refl is here
        ∙ ap (λ (x : Option A). option_map (passed log) x) so

  -- a busy mark is no note
  pub mark_off : (o : Object) (says : Did → Option A) (held : Held) → e.note ≡ Note.Busy held → (log : Log)
      → note o says (before_left log (e ∷ [])) ≡ None
  mark_off o says held is log = ap (λ (n : Note). option_map (passed log) (option_and_then says (done_at o n))) is

pub mark_on : (e : ToldNote) (o : Object) (held : Held) → held.object ≡ o → e.note ≡ Note.Busy held
    → ReadsOn (busy o) (e ∷ []) none_asked (give held.number)
mark_on e o held at is log =
    ap (λ (n : Note). option_map (λ (a : ℕ). (a, behind_entry (before_left log (e ∷ [])) e log.left)) (marked o n)) is
    ∙ ap (λ (b : Bool). option_map (λ (a : ℕ). (a, behind_entry (before_left log (e ∷ [])) e log.left))
    (if b then Some held.number else None)) (ap (same_object o) at ∙ same_object-refl o)
