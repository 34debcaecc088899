-- What a command is answered tells of it what is to be told.
use Rattle.std.proofs.Common.{⊎_elim, ◌≡◌, ℕ, List, length, subst, Bool, true, false, Option, Some, None, Result, Ok, Err, refl}
use Rattle.std.specs.Prelude.{◌==◌, nat_le, if◌then◌else◌}
use Rattle.size_classes.specs.Sizes.{class_of}
use Rattle.pool_law.specs.declared.command.Command.{Command}
use Rattle.pool_law.specs.declared.id.RegionId.{RegionId}
use Rattle.pool_law.specs.declared.id.RootId.{RootId}
use Rattle.pool_law.specs.declared.id.ViewData.{ViewData}
use Rattle.pool_law.specs.declared.note.Object.{Object}
use Rattle.pool_law.specs.declared.run.Reply.{Reply}
use Rattle.pool_law.specs.declared.run.Shape.{Shape}
use Rattle.pool_law.specs.Composites.{Composite, filled, is_crowded, moved_to, size_of}
use Rattle.pool_law.specs.Dids as says
use Rattle.pool_law.specs.LaneStates.{LaneState}
use Rattle.pool_law.specs.Lanes.{Answer, allotted, answer, composed, consolidate, copied_to, copy_parts, count_in, get_at, get_parts, received, regrown, release_of, release_parts, retain_of, set_at, set_parts}
use Rattle.pool_law.specs.Limits.{geometry_of}
use Rattle.pool_law.specs.Names.{Bound, Composed, Plain, parts_at}
use Rattle.pool_law.specs.Options.{check}
use Rattle.pool_law.specs.Patterns.{New, allot, bear, end_of, found_room, grow_with, grown, obtain, one_more, put_away, regrow, release, with_handle}
use Rattle.pool_law.specs.Readers.{Log, Reader, ◌>>=◌, ◌>>◌, ◌or◌, busy, give, given, note, step}
use Rattle.run_laws.proofs.Readings.{bind-some, or-some}
use Rattle.run_text.specs.Answering.{Tale, tale_of}
use Rattle.text_laws.proofs.RefusalsSuit.{ErrRefuses, IsRefusal, Suits, refusal-suits}

-- what a reading gives is so
abbrev pub Gives : {A : Type 0} → (A → Type 0) → Reader A → Type 0
Gives {A} P r = (log : Log) (p : A × Log) → r log ≡ Some p → P p.0

pub gives-give : {A : Type 0} (P : A → Type 0) (a : A) → P a → Gives P (give a)
gives-give {A} P a h log p is =
    let same : ◌≡◌ {A = A × Log} (a, log) p = cc is in subst (λ q. P q.0) same h

pub gives-bind : {A B : Type 0} (P : B → Type 0) (r : Reader A) (f : A → Reader B) → ((a : A) → Gives P (f a))
    → Gives P (r >>= f)
gives-bind P r f h log p is =
    let x = bind-some (r log) (λ got. f got.0 got.1) p is in h x.0.0 x.0.1 p x.2

pub gives-with : {A B : Type 0} (Q : A → Type 0) (P : B → Type 0) (r : Reader A) (f : A → Reader B) → Gives Q r
    → ((a : A) → Q a → Gives P (f a)) → Gives P (r >>= f)
gives-with Q P r f g h log p is =
    let x = bind-some (r log) (λ got. f got.0 got.1) p is in h x.0.0 (g log x.0 x.1) x.0.1 p x.2

pub gives-or : {A : Type 0} (P : A → Type 0) (r q : Reader A) → Gives P r → Gives P q → Gives P (r or q)
gives-or P r q g h log p is = ⊎_elim (λ e. g log p e) (λ e. h log p e) (or-some (r log) (q log) p is)

pub gives-if : {A : Type 0} (P : A → Type 0) (test : Bool) (r q : Reader A) → Gives P r → Gives P q
    → Gives P (if test then r else q)
gives-if P true r q g h = g
gives-if P false r q g h = h

-- ---- Results.

bear-refuses : (lane place size : ℕ) (o : Option RegionId) → Gives (ErrRefuses New) (bear lane place size o)
bear-refuses lane place size None =
    gives-bind (ErrRefuses New) (note (Object.Bin lane) (says.home place)) _
    (λ _. gives-give (ErrRefuses New) (Err Reply.Full) tt)
bear-refuses lane place size (Some region) =
    gives-bind (ErrRefuses New) (note (Object.Root place) (says.birth place size (one_more region))) _
    (λ root. gives-bind (ErrRefuses New) (step root says.born) _ (λ _. gives-give (ErrRefuses New) (Ok _) tt))

pub allot-refuses : (shape : Shape) (lane size : ℕ) → Gives (ErrRefuses New) (allot shape lane size)
allot-refuses shape lane size =
    gives-or (ErrRefuses New) (note (Object.Bin lane) says.no_handle >> give (Err Reply.Handles))
    (note (Object.Bin lane) says.handle >>= with_handle shape lane size)
    (gives-bind (ErrRefuses New) (note (Object.Bin lane) says.no_handle) _
    (λ _. gives-give (ErrRefuses New) (Err Reply.Handles) tt))
    (gives-bind (ErrRefuses New) (note (Object.Bin lane) says.handle) (with_handle shape lane size)
    (λ place. gives-bind (ErrRefuses New) (given (class_of (geometry_of shape) size)) _
    (λ class. gives-bind (ErrRefuses New) (obtain shape lane class) (bear lane place size)
    (bear-refuses lane place size))))

grow_with-refuses : (root : RootId) (size : ℕ) (o : Option RegionId) → Gives (ErrRefuses ℕ) (grow_with root size o)
grow_with-refuses root size None = gives-give (ErrRefuses ℕ) (Err Reply.Full) tt
grow_with-refuses root size (Some region) =
    gives-bind (ErrRefuses ℕ) (grown root size region) _
    (λ g. gives-bind (ErrRefuses ℕ) (given (check (nat_le size g.capacity))) _
    (λ _. gives-bind (ErrRefuses ℕ) (put_away g.spare) _ (λ _. gives-give (ErrRefuses ℕ) (Ok g.capacity) tt)))

pub regrow-refuses : (shape : Shape) (lane : ℕ) (root : RootId) (size : ℕ)
    → Gives (ErrRefuses ℕ) (regrow shape lane root size)
regrow-refuses shape lane root size =
    gives-bind (ErrRefuses ℕ) (found_room root size) _
    (λ capacity. gives-bind (ErrRefuses ℕ) (given (class_of (geometry_of shape) size)) _
    (λ class. gives-if (ErrRefuses ℕ) (nat_le size capacity) (give (Ok capacity))
    (obtain shape lane class >>= grow_with root size) (gives-give (ErrRefuses ℕ) (Ok capacity) tt)
    (gives-bind (ErrRefuses ℕ) (obtain shape lane class) (grow_with root size) (grow_with-refuses root size))))

copied-refuses : (shape : Shape) (c : Composite) (r : Result New Reply) → ErrRefuses New r
    → Gives (ErrRefuses Composite) (copied_to shape c r)
copied-refuses shape c (Err reply) h = gives-give (ErrRefuses Composite) (Err reply) h
copied-refuses shape c (Ok new) h =
    gives-bind (ErrRefuses Composite) (copy_parts new.root 0 (filled c.parts)) _
    (λ _. gives-bind (ErrRefuses Composite) (release_parts shape c.parts) _
    (λ _. gives-give (ErrRefuses Composite) (Ok (moved_to new.root c)) tt))

pub consolidate-refuses : (shape : Shape) (lane : ℕ) (c : Composite)
    → Gives (ErrRefuses Composite) (consolidate shape lane c)
consolidate-refuses shape lane c =
    gives-if (ErrRefuses Composite) (is_crowded c) (allot shape lane (size_of c.parts) >>= copied_to shape c)
    (give (Ok c))
    (gives-with (ErrRefuses New) (ErrRefuses Composite) (allot shape lane (size_of c.parts)) (copied_to shape c)
    (allot-refuses shape lane (size_of c.parts)) (copied-refuses shape c))
    (gives-give (ErrRefuses Composite) (Ok c) tt)

release-refuses : (shape : Shape) (root : RootId) → Gives IsRefusal (release shape root)
release-refuses shape root =
    gives-or IsRefusal (step root says.count_kept >> give Reply.Kept) (end_of shape root >> give Reply.Freed)
    (gives-bind IsRefusal (step root says.count_kept) _ (λ _. gives-give IsRefusal Reply.Kept tt))
    (gives-bind IsRefusal (end_of shape root) _ (λ _. gives-give IsRefusal Reply.Freed tt))

-- ---- Answers.

module _ (c : Command) where
  -- an answer that suits the command
  abbrev pub AnswerSuits : Answer → Type 0
  AnswerSuits a = Suits c a.reply

  pub said : (a : Answer) → Suits c a.reply → Gives AnswerSuits (give a)
  said a h = gives-give AnswerSuits a h

  pub set_at-suits : tale_of c ≡ Tale.Bare → (s : LaneState) (i : ℕ) (bytes : List ℕ) (b : Bound)
      → Gives AnswerSuits (set_at s i bytes b)
  set_at-suits bare s i bytes b =
      gives-bind AnswerSuits (set_parts (parts_at b i (length bytes)) bytes) _
      (λ _. said (answer Reply.Ok s.names) bare)

  pub get_at-suits : tale_of c ≡ Tale.OfBytes → (s : LaneState) (i n : ℕ) (b : Bound)
      → Gives AnswerSuits (get_at s i n b)
  get_at-suits bytes_told s i n b =
      gives-bind AnswerSuits (get_parts (parts_at b i n)) _
      (λ bytes. said (answer (Reply.OkBytes bytes) s.names) bytes_told)

  pub busy_or-suits : (s : LaneState) (v : ViewData) (r : Reader Answer) → Gives AnswerSuits r
      → Gives AnswerSuits
      (busy (Object.Root v.root.place) >>= (λ number. give (answer (Reply.Busy number) s.names)) or r)
  busy_or-suits s v r h =
      gives-or AnswerSuits
      (busy (Object.Root v.root.place) >>= (λ number. give (answer (Reply.Busy number) s.names))) r
      (gives-bind AnswerSuits (busy (Object.Root v.root.place)) _
      (λ number. said (answer (Reply.Busy number) s.names) tt)) h

  pub retain-suits : tale_of c ≡ Tale.Bare → (s : LaneState) (name : ℕ) (b : Bound)
      → Gives AnswerSuits (retain_of s name b)
  retain-suits bare s name (Plain v) =
      gives-bind AnswerSuits (step v.root says.retain) _ (λ _. said (answer Reply.Ok s.names) bare)
  retain-suits bare s name (Composed k) = said (answer Reply.Ok _) bare

  pub release_of-suits : (shape : Shape) (s : LaneState) (name : ℕ) (b : Bound)
      → Gives AnswerSuits (release_of shape s name b)
  release_of-suits shape s name (Plain v) =
      gives-with IsRefusal AnswerSuits (release shape v.root) _ (release-refuses shape v.root)
      (λ reply h. said (answer reply s.names) (refusal-suits c reply h))
  release_of-suits shape s name (Composed k) =
      gives-if AnswerSuits (k.count == 1) _ _
      (gives-bind AnswerSuits (release_parts shape k.parts) _ (λ _. said (answer Reply.Freed _) tt))
      (said (answer Reply.Kept _) tt)

  pub count-suits : tale_of c ≡ Tale.OfNumber → (s : LaneState) (b : Bound) → Gives AnswerSuits (count_in s b)
  count-suits number s (Plain v) =
      gives-bind AnswerSuits (step v.root says.look) _ (λ k. said (answer (Reply.OkNumber k) s.names) number)
  count-suits number s (Composed k) = said (answer (Reply.OkNumber k.count) s.names) number

  pub received-suits : tale_of c ≡ Tale.Bare → (s : LaneState) (name : ℕ) (o : Option ViewData)
      → Suits c (received s name o).reply
  received-suits bare s name None = tt
  received-suits bare s name (Some v) = bare

  pub composed-suits : tale_of c ≡ Tale.OfNumber → (s : LaneState) (name : ℕ) (r : Result Composite Reply)
      → ErrRefuses Composite r → Suits c (composed s name r).reply
  composed-suits number s name (Err reply) h = refusal-suits c reply h
  composed-suits number s name (Ok k) h = number

  pub regrown-suits : tale_of c ≡ Tale.OfNumber → (s : LaneState) (name : ℕ) (v : ViewData) (r : Result ℕ Reply)
      → ErrRefuses ℕ r → Suits c (regrown s name v r).reply
  regrown-suits number s name v (Err reply) h = refusal-suits c reply h
  regrown-suits number s name v (Ok capacity) h = number

  pub allotted-suits : tale_of c ≡ Tale.OfPlace → (s : LaneState) (name : ℕ) (r : Result New Reply) → ErrRefuses New r
      → Suits c (allotted s name r).reply
  allotted-suits place s name (Err reply) h = refusal-suits c reply h
  allotted-suits place s name (Ok new) h = (place, refl)
