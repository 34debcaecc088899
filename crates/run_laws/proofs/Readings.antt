-- What a reader reads: which entries, and what they say.
use Rattle.std.proofs.Common.{inl, inr, ◌≡◌, ℕ, zero, suc, List, [], ◌∷◌, ◌++◌, take, drop, refl, sym, ap, Bool, true, false, Some, None, ◌∙◌}
use Rattle.std.specs.Prelude.{◌⊎◌, if◌then◌else◌, Option, option_map, option_and_then}
use Rattle.pool_law.specs.declared.id.RootId.{RootId}
use Rattle.pool_law.specs.declared.id.RegionId.{RegionId}
use Rattle.pool_law.specs.declared.note.Object.{Object}
use Rattle.pool_law.specs.declared.note.Did.{Did}
use Rattle.pool_law.specs.declared.note.Did.TheVariants.{Give}
use Rattle.pool_law.specs.declared.note.RefDid.{RefDid}
use Rattle.pool_law.specs.declared.note.Note.{Note}
use Rattle.pool_law.specs.declared.note.Note.TheVariants.{At, Ref, Busy}
use Rattle.pool_law.specs.Same.{same_object, same_root, same_region}
use Rattle.pool_law.specs.Arenas.{or_else}
use Rattle.pool_law.specs.Logs.{ToldNote}
use Rattle.pool_law.specs.Counts.{root_is}
use Rattle.pool_law.specs.Options.{check}
use Rattle.pool_law.specs.Dids as says
use Rattle.pool_law.specs.Readers.{ToldNotes, Log, Reader, ◌>>◌, give, behind_entry, first_of_left, next, done_at, done_to, marked, note, step, access, at_end, ended_with, read_all}
use Rattle.pool_law.specs.Patterns.{give_back}
use Rattle.pool_law.proofs.SameLemmas.{same_object-is, same_root-is, same_region-is}
use Rattle.run_laws.proofs.CacheLaw.{if-some}
use Rattle.run_laws.proofs.Acts.{IsQuiet}
use Rattle.std.proofs.lemmas.Bool.{cond_both}

-- where a second step gave something, the first did
pub bind-some : {A B : Type 0} (o : Option A) (f : A → Option B) (y : B) → option_and_then f o ≡ Some y
    → (x : A) × (o ≡ Some x) × (f x ≡ Some y)
bind-some None f y e = absurd (cc e)
bind-some (Some x) f y e = (x, refl, e)

pub map-some : {A B : Type 0} (o : Option A) (f : A → B) (y : B) → option_map f o ≡ Some y
    → (x : A) × (o ≡ Some x) × (f x ≡ y)
map-some None f y e = absurd (cc e)
map-some (Some x) f y e = (x, refl, cc e)

pub or-some : {A : Type 0} (o q : Option A) (y : A) → or_else o q ≡ Some y → (o ≡ Some y) ⊎ (q ≡ Some y)
or-some None q y e = inr e
or-some (Some x) q y e = inl e

pub check-true : (b : Bool) (u : Unit {0}) → check b ≡ Some u → b ≡ true
check-true true u e = refl
check-true false u e = absurd (cc e)

pub if-test : {X : Type 0} (test : Bool) (x : Option X) (y : X) → (if test then x else None) ≡ Some y → test ≡ true
if-test true x y e = refl
if-test false x y e = absurd (cc e)

pub take-drop : {X : Type 0} (n : ℕ) (xs : List X) → take n xs ++ drop n xs ≡ xs
take-drop zero xs = refl
take-drop (suc n) [] = refl
take-drop (suc n) (x ∷ xs) = ap (λ t. x ∷ t) (take-drop n xs)

-- what is read at an object, at a count, and at a mark
pub done_at-note : (o : Object) (n : Note) (d : Did) → done_at o n ≡ Some d → (k : ℕ) × (n ≡ At o k d)
done_at-note o (At other k did) d e =
    cond_both (same_object o other) (Some did) None (λ z. z ≡ Some d → (j : ℕ) × (At other k did ≡ At o j d))
    (λ test is. let same : did ≡ d = cc is in (k, λ i. At (sym (same_object-is o other test) i) k (same i)))
    (λ _ is. absurd (cc is)) e
done_at-note o (Ref root did) d e = absurd (cc e)
done_at-note o (Busy held) d e = absurd (cc e)

pub done_to-note : (r : RootId) (n : Note) (d : RefDid) → done_to r n ≡ Some d → n ≡ Ref r d
done_to-note r (At other number did) d e = absurd (cc e)
done_to-note r (Ref root did) d e =
    cond_both (same_root r root) (Some did) None (λ z. z ≡ Some d → Ref root did ≡ Ref r d)
    (λ test is. let same : did ≡ d = cc is in λ i. Ref (sym (same_root-is r root test) i) (same i))
    (λ _ is. absurd (cc is)) e
done_to-note r (Busy held) d e = absurd (cc e)

pub marked-quiet : (P : Object → Did → Type 0) (o : Object) (n : Note) (k : ℕ) → marked o n ≡ Some k → IsQuiet P n
marked-quiet P o (At other number did) k e = absurd (cc e)
marked-quiet P o (Ref root did) k e = absurd (cc e)
marked-quiet P o (Busy held) k e = tt

-- ---- What is read.

-- the next entry is read
pub next-read : {A : Type 0} (read : ToldNote → Option A) (log : Log) (p : A × Log) → next read log ≡ Some p
    → (e : ToldNote) × (log.left ≡ e ∷ p.1.left) × (read e ≡ Some p.0)
next-read {A} read log p is = go log.left is
  where
    go : (es : ToldNotes) → first_of_left read log es ≡ Some p → (e : ToldNote) × (es ≡ e ∷ p.1.left) × (read e ≡ Some
        p.0)
    go [] e = absurd (cc e)
    go (x ∷ xs) e =
        let f = map-some (read x) (λ a. (a, behind_entry log x xs)) p e in
        (x, ap (λ q. x ∷ q.1.left) f.2, f.1 ∙ ap (λ q. Some q.0) f.2)

-- a note at the object that says this
pub record NoteRead {A : Type 0} (o : Object) (says_it : Did → Option A) (es rest : ToldNotes) (a : A) : Type 0 where
  pub entry : ToldNote
  pub number : ℕ
  pub did : Did
  pub are : es ≡ entry ∷ rest
  pub is : entry.note ≡ At o number did
  pub said : says_it did ≡ Some a

pub note-read : {A : Type 0} (o : Object) (says_it : Did → Option A) (log : Log) (p : A × Log)
    → note o says_it log ≡ Some p → NoteRead o says_it log.left p.1.left p.0
note-read o says_it log p is =
    let n = next-read (λ e. option_and_then says_it (done_at o e.note)) log p is in
    let d = bind-some (done_at o n.0.note) says_it p.0 n.2 in
    let k = done_at-note o n.0.note d.0 d.1 in
    record { entry = n.0; number = k.0; did = d.0; are = n.1; is = k.1; said = d.2 }

-- a step on the word of the root that says this
pub record StepRead {A : Type 0} (r : RootId) (says_it : RefDid → Option A) (es rest : ToldNotes) (a : A) : Type 0 where
  pub entry : ToldNote
  pub did : RefDid
  pub are : es ≡ entry ∷ rest
  pub is : entry.note ≡ Ref r did
  pub said : says_it did ≡ Some a

pub step-read : {A : Type 0} (r : RootId) (says_it : RefDid → Option A) (log : Log) (p : A × Log)
    → step r says_it log ≡ Some p → StepRead r says_it log.left p.1.left p.0
step-read r says_it log p is =
    let n = next-read (λ e. option_and_then says_it (done_to r e.note)) log p is in
    let d = bind-some (done_to r n.0.note) says_it p.0 n.2 in
    record { entry = n.0; did = d.0; are = n.1; is = done_to-note r n.0.note d.0 d.1; said = d.2 }

-- a note at the place of the root, which is present there, that says this
pub record AccessRead {A : Type 0} (r : RootId) (says_it : Did → Option A) (es rest : ToldNotes) (a : A) : Type 0 where
  pub read : NoteRead (Object.Root r.place) says_it es rest a
  pub root : read.entry.root ≡ Some r

pub access-read : {A : Type 0} (r : RootId) (says_it : Did → Option A) (log : Log) (p : A × Log)
    → access r says_it log ≡ Some p → AccessRead r says_it log.left p.1.left p.0
access-read r says_it log p is =
    let n = next-read (λ e. if root_is r e.root then option_and_then says_it (done_at (Object.Root r.place) e.note) else
    None) log p is in
    let test = if-test (root_is r n.0.root) (option_and_then says_it (done_at (Object.Root r.place) n.0.note)) p.0
    n.2 in
    let d = bind-some (done_at (Object.Root r.place) n.0.note) says_it p.0
    (if-some (root_is r n.0.root) (option_and_then says_it (done_at (Object.Root r.place) n.0.note)) p.0 n.2) in
    let k = done_at-note (Object.Root r.place) n.0.note d.0 d.1 in
    record {
      read = record { entry = n.0; number = k.0; did = d.0; are = n.1; is = k.1; said = d.2 };
      root =
          present n.0.root test;
    }
  where
    present : (o : Option RootId) → root_is r o ≡ true → o ≡ Some r
    present None e = absurd (cc e)
    present (Some x) e = ap (λ y. Some y) (same_root-is x r e)

-- a region is given back
pub give_back-read : (r : RegionId) (log : Log) (p : Unit {0} × Log) → give_back r log ≡ Some p
    → (e : ToldNote) × (k : ℕ) × (log.left ≡ e ∷ p.1.left) × (e.note ≡ At (Object.Arena r.place.arena) k (Give r))
give_back-read r log p is =
    let n = note-read (Object.Arena r.place.arena) (says.give r) log p is in
    (n.entry, n.number, n.are, n.is ∙ ap (At (Object.Arena r.place.arena) n.number) (gives n.did p.0 n.said))
  where
    gives : (d : Did) (u : Unit {0}) → says.give r d ≡ Some u → d ≡ Give r
    gives (Give other) u e = ap Give (sym (same_region-is r other (check-true (same_region r other) u e)))
    gives _ u e = absurd (cc e)

-- nothing is left
pub at_end-left : (log : Log) (p : Unit {0} × Log) → at_end log ≡ Some p → (log.left ≡ []) × (p.1 ≡ log)
at_end-left log p is = go log.left is
  where
    go : (es : ToldNotes) → ended_with log es ≡ Some p → (es ≡ []) × (p.1 ≡ log)
    go [] e = let same : ◌≡◌ {A = Unit {0} × Log} (tt, log) p = cc e in (refl, ap (λ q. q.1) (sym same))
    go (x ∷ xs) e = absurd (cc e)

-- all that was left is read
pub read_all-is : {A : Type 0} (r : Reader A) (log : Log) (p : A × Log) → read_all r log ≡ Some p
    → (r log ≡ Some p) × (p.1.left ≡ [])
read_all-is {A} r log p is =
    let x = bind-some (r log) (λ got. (at_end >> give got.0) got.1) p is in
    let y = bind-some (at_end x.0.1) (λ got. give x.0.0 got.1) p x.2 in
    let e = at_end-left x.0.1 y.0 y.1 in
    let given_it : ◌≡◌ {A = A × Log} (x.0.0, y.0.1) p = cc y.2 in
    let same : ◌≡◌ {A = A × Log} x.0 p = ap (λ l. (x.0.0, l)) (sym e.1) ∙ given_it in
    (x.1 ∙ ap (λ q. Some q) same, ap (λ q. q.1.left) (sym same) ∙ e.0)
