-- What the law of a lane says of its notes beside what it says of its hand: a region is taken for one of the
-- classes, and one that a cache sends back is given with the next note.
use Rattle.std.proofs.Common.{◌≡◌, ℕ, zero, suc, ◌+◌, ◌<◌, [], ◌∷◌, ◌++◌, Option, Some, None, refl, sym, ap, subst, append-nil, ◌∙◌}
use Rattle.std.specs.Prelude.{slice_get}
use Rattle.pool_law.specs.declared.id.RegionId.{RegionId}
use Rattle.pool_law.specs.declared.id.RootId.{RootId}
use Rattle.pool_law.specs.declared.note.CacheNo.{CacheNo}
use Rattle.pool_law.specs.declared.note.Did.{Did}
use Rattle.pool_law.specs.declared.note.Did.TheVariants.{Back, Give, Take}
use Rattle.pool_law.specs.declared.note.Note.{Note}
use Rattle.pool_law.specs.declared.note.Note.TheVariants.{At, Ref, Busy}
use Rattle.pool_law.specs.declared.note.Object.{Object}
use Rattle.pool_law.specs.declared.note.RefDid.{RefDid}
use Rattle.pool_law.specs.Logs.{ToldNote}
use Rattle.pool_law.specs.Readers.{Log, Reader, ToldNotes, ◌>>=◌, access, ask, busy, found, give, given, marked, note, not_found, step, unless_there}
use Rattle.pool_law.proofs.HistoryLemmas.{append-assoc}
use Rattle.run_laws.proofs.Acts.{IsAt}
use Rattle.run_laws.proofs.Keeping.{Chains, Keeps, keeps-bind, keeps-give, keeps-then}
use Rattle.run_laws.proofs.Readings.{access-read, next-read, note-read, step-read}

-- the region is given with the first of these
abbrev pub GivenFirst : RegionId → ToldNotes → Type 0
GivenFirst r [] = ⊥
GivenFirst r (e ∷ es) = IsAt (Give r) e.note

-- what was done, with these behind it
abbrev pub IsDidLawful : ℕ → Did → ToldNotes → Type 0
IsDidLawful count (Take class r) rest = class < count
IsDidLawful count (Back r why) rest = GivenFirst r rest
IsDidLawful count _ rest = Unit {0}

abbrev pub IsLawful : ℕ → Note → ToldNotes → Type 0
IsLawful count (At o k d) rest = IsDidLawful count d rest
IsLawful count (Ref root d) rest = Unit {0}
IsLawful count (Busy held) rest = Unit {0}

abbrev pub AreLawful : ℕ → ToldNotes → Type 0
AreLawful count [] = Unit {0}
AreLawful count (e ∷ es) = IsLawful count e.note es × AreLawful count es

-- notes in front of others
abbrev pub Lawful : ℕ → ToldNotes → ToldNotes → Type 0
Lawful count es rest = (front : ToldNotes) × (es ≡ front ++ rest) × AreLawful count front

given-further : (r : RegionId) (es more : ToldNotes) → GivenFirst r es → GivenFirst r (es ++ more)
given-further r [] more given = absurd given
given-further r (e ∷ es) more given = given

did-further : (count : ℕ) (d : Did) (es more : ToldNotes) → IsDidLawful count d es → IsDidLawful count d (es ++ more)
did-further count (Take class r) es more h = h
did-further count (Back r why) es more h = given-further r es more h
did-further count _ es more h = tt

further : (count : ℕ) (n : Note) (es more : ToldNotes) → IsLawful count n es → IsLawful count n (es ++ more)
further count (At o k d) es more h = did-further count d es more h
further count (Ref root d) es more h = tt
further count (Busy held) es more h = tt

lawful-append : (count : ℕ) (xs ys : ToldNotes) → AreLawful count xs → AreLawful count ys
    → AreLawful count (xs ++ ys)
lawful-append count [] ys h k = k
lawful-append count (e ∷ xs) ys h k = (further count e.note xs ys h.0, lawful-append count xs ys h.1 k)

pub lawful-chain : (count : ℕ) → Chains (Lawful count)
lawful-chain count =
    record {
      none = λ es. ([], refl, tt);
      more =
          λ es mid rest a b. (
            a.0 ++ b.0,
            a.1 ∙ ap (λ (t : ToldNotes). a.0 ++ t) b.1 ∙ sym (append-assoc a.0 b.0 rest),
            lawful-append count a.0 b.0 a.2 b.2,
          );
      front =
          λ es rest a. (es, refl, subst (AreLawful count) (sym (a.1 ∙ append-nil a.0)) a.2);
    }

-- ---- One note.

pub one-lawful : (count : ℕ) (e : ToldNote) (es rest : ToldNotes) → es ≡ e ∷ rest → IsLawful count e.note []
    → Lawful count es rest
one-lawful count e es rest are h = (e ∷ [], are, (h, tt))

-- whatever is read that is neither a taking nor what a cache sends back
plain : {A : Type 0} (count : ℕ) (says_it : Did → Option A) → ((c : ℕ) (r : RegionId) → says_it (Take c r) ≡ None)
    → ((r : RegionId) (why : CacheNo) → says_it (Back r why) ≡ None) → (d : Did) (a : A) → says_it d ≡ Some a
    → IsDidLawful count d []
plain {A} count says_it takes backs (Take c r) a e =
    let both : ◌≡◌ {A = Option A} None (Some a) = sym (takes c r) ∙ e in absurd (cc both)
plain {A} count says_it takes backs (Back r why) a e =
    let both : ◌≡◌ {A = Option A} None (Some a) = sym (backs r why) ∙ e in absurd (cc both)
plain count says_it takes backs _ a e = tt

module _ (count : ℕ) where
  pub note-lawful : {A : Type 0} (o : Object) (says_it : Did → Option A)
      → ((c : ℕ) (r : RegionId) → says_it (Take c r) ≡ None)
      → ((r : RegionId) (why : CacheNo) → says_it (Back r why) ≡ None) → Keeps (Lawful count) (note o says_it)
  note-lawful o says_it takes backs log p is =
      let n = note-read o says_it log p is in
      one-lawful count n.entry log.left p.1.left n.are
      (subst (λ m. IsLawful count m []) (sym n.is) (plain count says_it takes backs n.did p.0 n.said))

  pub access-lawful : {A : Type 0} (root : RootId) (says_it : Did → Option A)
      → ((c : ℕ) (r : RegionId) → says_it (Take c r) ≡ None)
      → ((r : RegionId) (why : CacheNo) → says_it (Back r why) ≡ None) → Keeps (Lawful count) (access root says_it)
  access-lawful root says_it takes backs log p is =
      let n = access-read root says_it log p is in
      one-lawful count n.read.entry log.left p.1.left n.read.are
      (subst (λ m. IsLawful count m []) (sym n.read.is)
      (plain count says_it takes backs n.read.did p.0 n.read.said))

  pub step-lawful : {A : Type 0} (root : RootId) (says_it : RefDid → Option A)
      → Keeps (Lawful count) (step root says_it)
  step-lawful root says_it log p is =
      let n = step-read root says_it log p is in
      one-lawful count n.entry log.left p.1.left n.are (subst (λ m. IsLawful count m []) (sym n.is) tt)

  -- a busy mark
  pub marked-lawful : (o : Object) (n : Note) (k : ℕ) (rest : ToldNotes) → marked o n ≡ Some k
      → IsLawful count n rest
  marked-lawful o (At other number did) k rest e = absurd (cc e)
  marked-lawful o (Ref root did) k rest e = absurd (cc e)
  marked-lawful o (Busy held) k rest e = tt

  pub busy-lawful : (o : Object) → Keeps (Lawful count) (busy o)
  busy-lawful o log p is =
      let n = next-read (λ e. marked o e.note) log p is in
      one-lawful count n.0 log.left p.1.left n.1 (marked-lawful o n.0.note p.0 [] n.2)

  -- ---- Readings around one.

  pub found-lawful : {A : Type 0} (r : Reader A) → Keeps (Lawful count) r → Keeps (Lawful count) (found r)
  found-lawful r h =
      keeps-bind (lawful-chain count) r (λ a. give (Some a)) h (λ a. keeps-give (lawful-chain count) (Some a))

  pub not_found-lawful : {A : Type 0} (r : Reader A) → Keeps (Lawful count) r
      → Keeps {A = Option RegionId} (Lawful count) (not_found r)
  not_found-lawful r h =
      let none : Option RegionId = None in
      keeps-then (lawful-chain count) r (give none) h (keeps-give (lawful-chain count) none)

  pub unless-lawful : {A : Type 0} (o : Option A) (r : Reader (Option A)) → Keeps (Lawful count) r
      → Keeps (Lawful count) (unless_there o r)
  unless-lawful None r h = h
  unless-lawful (Some a) r h = keeps-give (lawful-chain count) (Some a)

  pub ask-lawful : Keeps (Lawful count) ask
  ask-lawful log p is =
      let same : ◌≡◌ {A = Unit {0} × Log} (tt, record log { asked = log.asked + 1 }) p = cc is in
      subst (λ q. Lawful count log.left q.1.left) same ((lawful-chain count).none log.left)

-- what is there, and then what is done with it
pub given-lawful : {A B : Type 0} (count : ℕ) (o : Option A) (f : A → Reader B)
    → ((a : A) → o ≡ Some a → Keeps (Lawful count) (f a)) → Keeps (Lawful count) (given o >>= f)
given-lawful count None f h log p is = absurd (cc is)
given-lawful count (Some a) f h log p is = h a refl log p is

-- ---- A whole log.

-- each note is lawful with those behind it
pub lawful-at : (count : ℕ) (es : ToldNotes) (i : ℕ) (e : ToldNote) → AreLawful count es
    → slice_get es i ≡ Some e → (rest : ToldNotes) × IsLawful count e.note rest
    × ((x : ToldNote) → slice_get rest 0 ≡ Some x → slice_get es (suc i) ≡ Some x)
lawful-at count [] i e h is = absurd (cc is)
lawful-at count (x ∷ es) zero e h is =
    let same : x ≡ e = cc is in (es, subst (λ y. IsLawful count y.note es) same h.0, λ y there. there)
lawful-at count (x ∷ es) (suc i) e h is =
    let r = lawful-at count es i e h.1 is in (r.0, r.1, λ y there. r.2 y there)

-- what a cache sends back is given with the next note
pub given-next : (r : RegionId) (rest : ToldNotes) → GivenFirst r rest
    → (x : ToldNote) × (slice_get rest 0 ≡ Some x) × IsAt (Give r) x.note
given-next r [] given = absurd given
given-next r (e ∷ es) given = (e, refl, given)
