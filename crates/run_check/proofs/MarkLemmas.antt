-- Marks that fit, one note further.
use Rattle.std.proofs.Common.{◌≡◌, ℕ, ◌+◌, ◌≤◌, Bool, true, false, List, [], ◌∷◌, Option, Some, refl, sym, ap, subst, arith, ◌∙◌}
use Rattle.std.specs.Prelude.{◌↔◌, max, nat_le, if◌then◌else◌, slice_get, unwrap_or, MatchBool, IsTrue}
use Rattle.std.specs.List.{list_all}
use Rattle.std.proofs.lemmas.Bool.{leb-true}
use Rattle.pool_law.specs.declared.note.Object.{Object}
use Rattle.pool_law.specs.declared.note.Did.{Did}
use Rattle.pool_law.specs.declared.note.Held.{Held}
use Rattle.pool_law.specs.declared.note.Note.{Note}
use Rattle.pool_law.specs.declared.note.Note.TheVariants.{At, Ref, Busy}
use Rattle.pool_law.specs.Same.{same_object}
use Rattle.pool_law.specs.declared.run.Shape.{Shape}
use Rattle.pool_law.specs.Logs.{History, has_history, may_stand, note_stands}
use Rattle.pool_law.specs.Busy.{MarksFit, IsOfAnother, MarksHold}
use Rattle.pool_law.proofs.SameLemmas.{same_object-is, and-first, and-second}
use Rattle.run_check.specs.declared.busy.Had.{Had}
use Rattle.run_check.specs.Marking.{none_had, least_after, FitFrom, had_note, had_mark, had_after, MayCome, MarkHolds}
use Rattle.pool_law.proofs.PatternLemmas.{same_object-refl}

pub fit-front : (object : Object) (h : Had) (n : Note) (ns : List Note) → FitFrom object h (n ∷ ns) →
    MayCome object h n × FitFrom object (had_after object h n) ns
fit-front object h (At other number did) ns fit = go (same_object object other) fit
  where
    go : (b : Bool) → MatchBool b
        ((least_after h.mark ≤ number) × MarksFit object (max h.number number) (least_after h.mark) ns)
        (FitFrom object h ns) →
        (IsTrue b → least_after h.mark ≤ number) × FitFrom object (if b then had_note h number else h) ns
    go true f = (λ _. f.0, f.1)
    go false f = (λ e. absurd (cc e), f)
fit-front object h (Busy held) ns fit = go (same_object object held.object) fit
  where
    go : (b : Bool) → MatchBool b
        ((h.number ≤ held.number) × MarksFit object held.number (held.number + 1) ns)
        (FitFrom object h ns) →
        (IsTrue b → h.number ≤ held.number) × FitFrom object (if b then had_mark held.number else h) ns
    go true f = (λ _. f.0, f.1)
    go false f = (λ e. absurd (cc e), f)
fit-front object h (Ref root did) ns fit = (tt, fit)

pub fit-back : (object : Object) (h : Had) (n : Note) (ns : List Note) → MayCome object h n →
    FitFrom object (had_after object h n) ns → FitFrom object h (n ∷ ns)
fit-back object h (At other number did) ns may rest = go (same_object object other) may rest
  where
    go : (b : Bool) → (IsTrue b → least_after h.mark ≤ number) →
        FitFrom object (if b then had_note h number else h) ns →
        MatchBool b
        ((least_after h.mark ≤ number) × MarksFit object (max h.number number) (least_after h.mark) ns)
        (FitFrom object h ns)
    go true may f = (may refl, f)
    go false may f = f
fit-back object h (Busy held) ns may rest = go (same_object object held.object) may rest
  where
    go : (b : Bool) → (IsTrue b → h.number ≤ held.number) →
        FitFrom object (if b then had_mark held.number else h) ns →
        MatchBool b
        ((h.number ≤ held.number) × MarksFit object held.number (held.number + 1) ns)
        (FitFrom object h ns)
    go true may f = (may refl, f)
    go false may f = f
fit-back object h (Ref root did) ns may rest = rest

-- what a lane has of each object after a note
abbrev pub all_had_after : (Object → Had) → Note → Object → Had
all_had_after had n object = had_after object (had object) n

-- what is asked of a note, and of a log, by what a lane has of each object
module _ (lane : ℕ) (history : Object → History) where
  abbrev pub AllCome : (Object → Had) → Note → Type 0
  AllCome had n = ((object : Object) → MayCome object (had object) n) × MarkHolds lane history n

  abbrev pub AllFit : (Object → Had) → List Note → Type 0
  AllFit had ns = ((object : Object) → FitFrom object (had object) ns) × MarksHold lane history ns

  mark-front : (n : Note) (ns : List Note) → MarksHold lane history (n ∷ ns) →
      MarkHolds lane history n × MarksHold lane history ns
  mark-front (At object number did) ns m = (tt, m)
  mark-front (Ref root did) ns m = (tt, m)
  mark-front (Busy held) ns m = (m.0, m.1)

  mark-back : (n : Note) (ns : List Note) → MarkHolds lane history n → MarksHold lane history ns →
      MarksHold lane history (n ∷ ns)
  mark-back (At object number did) ns m rest = rest
  mark-back (Ref root did) ns m rest = rest
  mark-back (Busy held) ns m rest = (m, rest)

  pub all-fit-front : (had : Object → Had) (n : Note) (ns : List Note) → AllFit had (n ∷ ns) →
      AllCome had n × AllFit (all_had_after had n) ns
  all-fit-front had n ns h =
      let marks = mark-front n ns h.1 in (
        (λ object. (fit-front object (had object) n ns (h.0 object)).0, marks.0),
        (λ object. (fit-front object (had object) n ns (h.0 object)).1, marks.1),
      )

  pub all-fit-back : (had : Object → Had) (n : Note) (ns : List Note) → AllCome had n →
      AllFit (all_had_after had n) ns → AllFit had (n ∷ ns)
  all-fit-back had n ns may rest = (
    λ object. fit-back object (had object) n ns (may.0 object) (rest.0 object),
    mark-back n ns may.1 rest.1,
  )

-- marks hold by any histories that are the same, where each is at an object with a history
pub marks-same : (shape : Shape) (lane : ℕ) (f h : Object → History) →
    ((object : Object) → has_history object ≡ true → f object ≡ h object) → (ns : List Note) →
    list_all (note_stands shape lane) ns ≡ true → MarksHold lane f ns → MarksHold lane h ns
marks-same shape lane f h same [] stand m = tt
marks-same shape lane f h same (Busy held ∷ ns) stand m = (
  subst (λ (g : History). IsOfAnother lane (slice_get g held.number))
      (same held.object (and-first (has_history held.object) (list_all (note_stands shape lane) ns) stand)) m.0,
  marks-same shape lane f h same ns (and-second (has_history held.object) (list_all (note_stands shape lane) ns) stand)
      m.1,
)
marks-same shape lane f h same (At object number did ∷ ns) stand m =
    marks-same shape lane f h same ns
    (and-second (may_stand shape lane object did) (list_all (note_stands shape lane) ns) stand) m
marks-same shape lane f h same (Ref root did ∷ ns) stand m = marks-same shape lane f h same ns stand m

-- a note may come next for each object, where it may for its own
pub note-may : (had : Object → Had) (o : Object) (number : ℕ) (did : Did) (good : Bool) →
    IsTrue good ↔ (least_after (had o).mark ≤ number) →
    IsTrue good ↔ ((object : Object) → MayCome object (had object) (At o number did))
note-may had o number did good own = (
  λ e object same.
      subst (λ (p : Object). least_after (had p).mark ≤ number) (sym (same_object-is object o same)) (own.0 e),
  λ all. own.1 (all o (same_object-refl o)),
)

pub mark-may : (had : Object → Had) (held : Held) →
    IsTrue (nat_le (had held.object).number held.number)
    ↔ ((object : Object) → MayCome object (had object) (Busy held))
mark-may had held = (
  λ e object same.
      subst (λ (p : Object). (had p).number ≤ held.number) (sym (same_object-is object held.object same))
      (leb-true (had held.object).number held.number e),
  λ all.
      let most : (had held.object).number ≤ held.number = all held.object (same_object-refl held.object) in
      search (arith, most),
)

pub had-put : (b : Bool) (h : Had) (o : Option Had) →
    unwrap_or (if b then Some h else o) none_had ≡ (if b then h else unwrap_or o none_had)
had-put true h o = refl
had-put false h o = refl

-- what is had once a note is at an object
pub noted-at : (had : Object → Had) (o : Object) (number : ℕ) (did : Did) (new : Had) → new ≡ had_note (had o) number →
    (other : Object) →
    (if same_object other o then new else had other) ≡ had_after other (had other) (At o number did)
noted-at had o number did new is other = go (same_object other o) refl
  where
    go : (b : Bool) → same_object other o ≡ b →
        (if b then new else had other) ≡ (if b then had_note (had other) number else had other)
    go true e = is ∙ ap (λ (p : Object). had_note (had p) number) (sym (same_object-is other o e))
    go false e = refl
