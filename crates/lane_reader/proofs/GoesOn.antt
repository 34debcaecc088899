-- What is read of a log hangs on the notes that it takes alone: it is read where more are behind them, and where
-- none is. Each choice falls at the next note.
use Rattle.std.proofs.Common.{◌≡◌, ◌+◌, Bool, true, false, [], ◌∷◌, ◌++◌, Option, Some, None, refl, sym, ap, append_assoc, ◌∙◌}
use Rattle.std.specs.Prelude.{if◌then◌else◌, option_map, option_and_then}
use Rattle.pool_law.specs.Arenas.{or_else}
use Rattle.pool_law.specs.declared.id.RootId.{RootId}
use Rattle.pool_law.specs.Counts.{count_of}
use Rattle.pool_law.specs.Logs.{ToldNote}
use Rattle.pool_law.specs.Readers.{Log, Reader, ToldNotes, ◌>>=◌, ◌>>◌, ◌or◌, ask, asks, asks_anew, behind_entry, count, first_of_left, give, given, next, unless_there}

-- the log with more entries behind those that are left
abbrev pub with_more : ToldNotes → Log → Log
with_more rest log = record { seen = log.seen; asked = log.asked; left = log.left ++ rest }

-- what is made of an entry, and the log behind it
abbrev with_entry : {A : Type 0} → Log → ToldNote → ToldNotes → A → A × Log
with_entry log x xs a = (a, behind_entry log x xs)

-- what was read, with these left more
abbrev pub further : {A : Type 0} → ToldNotes → Option (A × Log) → Option (A × Log)
further rest o = option_map (λ got. (got.0, with_more rest got.1)) o

-- the log of which these entries are left
abbrev pub with_left : ToldNotes → Log → Log
with_left left log = record { seen = log.seen; asked = log.asked; left = left }

-- what was read, with nothing left
abbrev cut_off : {A : Type 0} → Option (A × Log) → Option (A × Log)
cut_off o = option_map (λ got. (got.0, with_left [] got.1)) o

-- what is read where nothing is behind is read where more is
abbrev pub Goes : {A : Type 0} → Reader A → Type 0
Goes {A} r =
    (rest : ToldNotes) (log : Log) (a : A) (end : Log) → r log ≡ Some (a, end)
    → r (with_more rest log) ≡ Some (a, with_more rest end)

-- these entries are taken, and it is read where they alone are left
pub record Taken {A : Type 0} (r : Reader A) (log : Log) (a : A) (end : Log) : Type 0 where
  pub taken : ToldNotes
  pub whole : log.left ≡ taken ++ end.left
  pub alone : r (with_left taken log) ≡ Some (a, with_left [] end)

-- what is read is read of the entries that it takes
abbrev pub Alone : {A : Type 0} → Reader A → Type 0
Alone {A} r = (log : Log) (a : A) (end : Log) → r log ≡ Some (a, end) → Taken r log a end

-- what is read hangs on the entries that it takes alone
abbrev pub GoesOn : {A : Type 0} → Reader A → Type 0
GoesOn r = Goes r × Alone r

-- nothing is read where nothing is left
abbrev pub Needs : {A : Type 0} → Reader A → Type 0
Needs r = (log : Log) → log.left ≡ [] → r log ≡ None

-- what the next entry refuses is refused whatever is behind it
abbrev pub Falls : {A : Type 0} → Reader A → Type 0
Falls r =
    (rest : ToldNotes) (log : Log) (e : ToldNote) (es : ToldNotes) → log.left ≡ e ∷ es → r log ≡ None
    → r (with_more rest log) ≡ None

-- ---- One note.

map-none : {A B C : Type 0} (o : Option A) (f : A → B) (g : A → C) → option_map f o ≡ None → option_map g o ≡ None
map-none None f g e = refl
map-none (Some a) f g e = cc

next-entry : {A : Type 0} (o : Option A) (rest : ToldNotes) (log : Log) (x : ToldNote) (xs : ToldNotes) (a : A)
    (end : Log) → option_map (with_entry log x xs) o ≡ Some (a, end)
    → option_map (with_entry (with_more rest log) x (xs ++ rest)) o ≡ Some (a, with_more rest end)
next-entry None rest log x xs a end e = cc
next-entry (Some b) rest log x xs a end e = ap (further rest) e

next-left : {A : Type 0} (read : ToldNote → Option A) (rest : ToldNotes) (log : Log) (left : ToldNotes) (a : A)
    (end : Log) → first_of_left read log left ≡ Some (a, end)
    → first_of_left read (with_more rest log) (left ++ rest) ≡ Some (a, with_more rest end)
next-left read rest log [] a end e = cc
next-left read rest log (x ∷ xs) a end e = next-entry (read x) rest log x xs a end e

-- what was read is the same
same-left : {A : Type 0} (p q : A × Log) → Some p ≡ Some q → p.1.left ≡ q.1.left
same-left {A} p q e = let same : ◌≡◌ {A = A × Log} p q = cc e in ap (λ (got : A × Log). got.1.left) same

entry-taken : {A : Type 0} (read : ToldNote → Option A) (log : Log) (x : ToldNote) (xs : ToldNotes)
    → log.left ≡ x ∷ xs → (o : Option A) → read x ≡ o → (a : A) (end : Log)
    → option_map (with_entry log x xs) o ≡ Some (a, end) → Taken (next read) log a end
entry-taken {A} read log x xs is None here a end e =
    absurd (let no : ◌≡◌ {A = Option (A × Log)} None (Some (a, end)) = e in cc)
entry-taken {A} read log x xs is (Some b) here a end e = record {
  taken = x ∷ [];
  whole = is ∙ ap (λ (left : ToldNotes). x ∷ left) (same-left (b, behind_entry log x xs) (a, end) e);
  alone =
      ap (λ (o : Option A). option_map (with_entry (with_left (x ∷ []) log) x []) o) here
      ∙ ap (λ (o : Option (A × Log)). cut_off o) e;
}

next-taken : {A : Type 0} (read : ToldNote → Option A) (log : Log) (left : ToldNotes) → log.left ≡ left
    → (a : A) (end : Log) → first_of_left read log left ≡ Some (a, end) → Taken (next read) log a end
next-taken {A} read log [] is a end e =
    absurd (let no : ◌≡◌ {A = Option (A × Log)} None (Some (a, end)) = e in cc)
next-taken read log (x ∷ xs) is a end e = entry-taken read log x xs is (read x) refl a end e

pub next-goes : {A : Type 0} (read : ToldNote → Option A) → GoesOn (next read)
next-goes read = (
  λ rest log a end e. next-left read rest log log.left a end e,
  λ log a end e. next-taken read log log.left refl a end e,
)

pub next-needs : {A : Type 0} (read : ToldNote → Option A) → Needs (next read)
next-needs read log none = ap (first_of_left read log) none

pub next-falls : {A : Type 0} (read : ToldNote → Option A) → Falls (next read)
next-falls read rest log e es is none =
    let here : option_map (with_entry log e es) (read e) ≡ None =
    ap (first_of_left read log) (sym is) ∙ none in
    ap (λ (left : ToldNotes). first_of_left read (with_more rest log) (left ++ rest)) is
    ∙ map-none (read e) (with_entry log e es) (with_entry (with_more rest log) e (es ++ rest)) here

-- ---- No note.

-- a reading that takes no note, whatever is left
module _ {A : Type 0} (r : Reader A) (a : Log → A) (f : Log → Log) where
  -- it gives this, and this log, of which the same is left
  abbrev Passes : Type 0
  Passes = (log : Log) (left : ToldNotes) → r (with_left left log) ≡ Some (a log, with_left left (f log))

  -- what was read is this
  abbrev Is : Log → A → Log → Type 0
  Is log b end = ◌≡◌ {A = Option (A × Log)} (Some (a log, with_left log.left (f log))) (Some (b, end))

  on-by : Passes → Goes r
  on-by passes rest log b end e =
      let same : Is log b end = sym (passes log log.left) ∙ e in
      passes log (log.left ++ rest) ∙ ap (λ (o : Option (A × Log)). further rest o) same

  alone-by : Passes → Alone r
  alone-by passes log b end e =
      let same : Is log b end = sym (passes log log.left) ∙ e in
      record {
        taken = [];
        whole = same-left (a log, with_left log.left (f log)) (b, end) same;
        alone = passes log [] ∙ ap (λ (o : Option (A × Log)). cut_off o) same;
      }

  passes-on : Passes → GoesOn r
  passes-on passes = (on-by passes, alone-by passes)

pub give-goes : {A : Type 0} (a : A) → GoesOn (give a)
give-goes a = passes-on (give a) (λ log. a) (λ log. log) (λ log left. refl)

pub given-goes : {A : Type 0} (o : Option A) → GoesOn (given o)
given-goes {A} None = (
  λ rest log b end e. absurd (let no : ◌≡◌ {A = Option (A × Log)} None (Some (b, end)) = e in cc),
  λ log b end e. absurd (let no : ◌≡◌ {A = Option (A × Log)} None (Some (b, end)) = e in cc),
)
given-goes (Some a) = passes-on (given (Some a)) (λ log. a) (λ log. log) (λ log left. refl)

pub count-goes : (root : RootId) → GoesOn (count root)
count-goes root = passes-on (count root) (λ log. count_of root log.seen) (λ log. log) (λ log left. refl)

pub ask-goes : GoesOn ask
ask-goes = passes-on ask (λ log. tt) (λ log. record log { asked = log.asked + 1 }) (λ log left. refl)

pub asks-goes : GoesOn asks
asks-goes = passes-on asks (λ log. log.asked) (λ log. log) (λ log left. refl)

pub anew-goes : GoesOn asks_anew
anew-goes = passes-on asks_anew (λ log. tt) (λ log. record log { asked = 0 }) (λ log left. refl)

-- ---- One after another.

module _ {A B : Type 0} (r : Reader A) (f : A → Reader B) where
  bind-by : (rest : ToldNotes) (log : Log) (b : B) (end : Log) (o : Option (A × Log)) → r log ≡ o → Goes r
      → ((a : A) → Goes (f a)) → option_and_then (λ got. f got.0 got.1) o ≡ Some (b, end)
      → (r >>= f) (with_more rest log) ≡ Some (b, with_more rest end)
  bind-by rest log b end None is first second e = cc
  bind-by rest log b end (Some got) is first second e =
      ap (option_and_then (λ got. f got.0 got.1)) (first rest log got.0 got.1 is)
      ∙ second got.0 rest got.1 b end e

  bind-alone : (log : Log) (b : B) (end : Log) (o : Option (A × Log)) → r log ≡ o → GoesOn r
      → ((a : A) → GoesOn (f a)) → option_and_then (λ got. f got.0 got.1) o ≡ Some (b, end)
      → Taken (r >>= f) log b end
  bind-alone log b end None is first second e =
      absurd (let no : ◌≡◌ {A = Option (B × Log)} None (Some (b, end)) = e in cc)
  bind-alone log b end (Some got) is first second e =
      let one = first.1 log got.0 got.1 is in
      let two = (second got.0).1 got.1 b end e in
      record {
        taken = one.taken ++ two.taken;
        whole =
            one.whole
            ∙ ap (λ (left : ToldNotes). one.taken ++ left) two.whole
            ∙ sym (append_assoc one.taken two.taken end.left);
        alone =
            ap (option_and_then (λ got. f got.0 got.1))
            (first.0 two.taken (with_left one.taken log) got.0 (with_left [] got.1) one.alone)
            ∙ two.alone;
      }

  pub bind-goes : GoesOn r → ((a : A) → GoesOn (f a)) → GoesOn (r >>= f)
  bind-goes first second = (
    λ rest log b end e. bind-by rest log b end (r log) refl first.0 (λ a. (second a).0) e,
    λ log b end e. bind-alone log b end (r log) refl first second e,
  )

  pub bind-needs : Needs r → Needs (r >>= f)
  bind-needs need log none = ap (option_and_then (λ got. f got.0 got.1)) (need log none)

pub then-goes : {A B : Type 0} (r : Reader A) (q : Reader B) → GoesOn r → GoesOn q → GoesOn (r >> q)
then-goes r q first second = bind-goes r (λ _. q) first (λ _. second)

pub then-needs : {A B : Type 0} (r : Reader A) (q : Reader B) → Needs r → Needs (r >> q)
then-needs r q need = bind-needs r (λ _. q) need

-- what is made of one note falls as that note does
module _ {A B : Type 0} (r : Reader A) (g : A → B) where
  made-by : (more : Log) (o : Option (A × Log)) → option_and_then (λ got. give (g got.0) got.1) o ≡ None → o ≡ None
  made-by more None e = refl
  made-by more (Some got) e = cc

  pub made-falls : Falls r → Falls (r >>= (λ a. give (g a)))
  made-falls fall rest log e es is none =
      ap (option_and_then (λ got. give (g got.0) got.1))
      (fall rest log e es is (made-by log (r log) none))

-- ---- One or the other.

module _ {A : Type 0} (r q : Reader A) (first : GoesOn r) (second : GoesOn q) where
  module _ (fall : Falls r) (need : Needs q) (rest : ToldNotes) (log : Log) (a : A) (end : Log) where
    or-none : (left : ToldNotes) → log.left ≡ left → r log ≡ None → q log ≡ Some (a, end)
        → (r or q) (with_more rest log) ≡ Some (a, with_more rest end)
    or-none [] is none e =
        let nothing_read = need log is in cc
    or-none (x ∷ xs) is none e =
        ap (λ (o : Option (A × Log)). or_else o (q (with_more rest log))) (fall rest log x xs is none)
        ∙ second.0 rest log a end e

    or-by : (o : Option (A × Log)) → r log ≡ o → or_else o (q log) ≡ Some (a, end)
        → (r or q) (with_more rest log) ≡ Some (a, with_more rest end)
    or-by None is e = or-none log.left refl is e
    or-by (Some got) is e =
        ap (λ (o : Option (A × Log)). or_else o (q (with_more rest log))) (first.0 rest log a end (is ∙ e))

  -- what reads nothing of more entries reads nothing of the first of them
  still-none : (log : Log) (taken rest : ToldNotes) → log.left ≡ taken ++ rest → r log ≡ None
      → (o : Option (A × Log)) → r (with_left taken log) ≡ o → o ≡ None
  still-none log taken rest whole none None is = refl
  still-none log taken rest whole none (Some got) is =
      let here : r log ≡ r (with_left (taken ++ rest) log) =
      ap (λ (left : ToldNotes). r (with_left left log)) whole in
      let more : r (with_left (taken ++ rest) log) ≡ Some (got.0, with_more rest got.1) =
      first.0 rest (with_left taken log) got.0 got.1 is in
      absurd
      (let no : ◌≡◌ {A = Option (A × Log)} None (Some (got.0, with_more rest got.1)) = sym none ∙ here ∙ more in cc)

  or-alone : (log : Log) (a : A) (end : Log) (o : Option (A × Log)) → r log ≡ o → or_else o (q log) ≡ Some (a, end)
      → Taken (r or q) log a end
  or-alone log a end None is e =
      let two = second.1 log a end e in
      let none = still-none log two.taken end.left two.whole is (r (with_left two.taken log)) refl in
      record {
        taken = two.taken;
        whole = two.whole;
        alone = ap (λ (o : Option (A × Log)). or_else o (q (with_left two.taken log))) none ∙ two.alone;
      }
  or-alone log a end (Some got) is e =
      let one = first.1 log a end (is ∙ e) in
      record {
        taken = one.taken;
        whole = one.whole;
        alone = ap (λ (o : Option (A × Log)). or_else o (q (with_left one.taken log))) one.alone;
      }

pub or-goes : {A : Type 0} (r q : Reader A) → GoesOn r → GoesOn q → Falls r → Needs q → GoesOn (r or q)
or-goes r q first second fall need = (
  λ rest log a end e. or-by r q first second fall need rest log a end (r log) refl e,
  λ log a end e. or-alone r q first second log a end (r log) refl e,
)

pub or-needs : {A : Type 0} (r q : Reader A) → Needs r → Needs q → Needs (r or q)
or-needs r q one other log none = (λ i. or_else (one log none i) (other log none i))

pub if-goes : {A : Type 0} (t : Bool) (r q : Reader A) → GoesOn r → GoesOn q → GoesOn (if t then r else q)
if-goes true r q first second = first
if-goes false r q first second = second

pub there-goes : {A : Type 0} (o : Option A) (r : Reader (Option A)) → GoesOn r → GoesOn (unless_there o r)
there-goes None r goes = goes
there-goes (Some a) r goes = give-goes (Some a)
