-- The sentences on busy marks hold of all objects, where they hold of those that the logs name.
use Rattle.std.proofs.Common.{◌≡◌, ℕ, ◌+◌, ◌≤◌, List, [], ◌∷◌, Bool, true, false, refl, sym, ap, eq-eqb, ◌∙◌}
use Rattle.std.specs.Prelude.{◌==◌, ◌&&◌, not, nat_le, max, if◌then◌else◌, map, Option, Some, None, slice_get, MatchBool}
use Rattle.std.specs.List.{list_all}
use Rattle.std.proofs.lemmas.Bool.{leb-true}
use Rattle.pool_law.specs.declared.note.Object.{Object}
use Rattle.pool_law.specs.declared.note.Did.{Did}
use Rattle.pool_law.specs.declared.note.Note.{Note}
use Rattle.pool_law.specs.declared.note.Note.TheVariants.{At, Ref, Busy}
use Rattle.pool_law.specs.Same.{same_object}
use Rattle.pool_law.specs.Logs.{Logs, of_lane, history_of}
use Rattle.pool_law.specs.Busy.{MarksFit, IsOfAnother, MarksHold, BusyHolds}
use Rattle.pool_law.proofs.SameLemmas.{and-first, and-second}
use Rattle.definition_rows.proofs.Lanes.{all_from, all_lanes}
use Rattle.definition_rows.proofs.Listed.{listed, each_object, another_object}
use Rattle.definition_rows.proofs.HistoriesComputed.{names_of, objects_pass}

-- the marks of a log fit its numbers at an object
abbrev pub marks_fit : Object → ℕ → ℕ → List Note → Bool
marks_fit object had least [] = true
marks_fit object had least (At other number did ∷ ns) =
    if same_object object other
    then nat_le least number && marks_fit object (max had number) least ns
    else marks_fit object had least ns
marks_fit object had least (Busy held ∷ ns) =
    if same_object object held.object
    then nat_le had held.number && marks_fit object held.number (held.number + 1) ns
    else marks_fit object had least ns
marks_fit object had least (Ref root did ∷ ns) = marks_fit object had least ns

-- a note is of another lane
abbrev pub of_another : ℕ → Option (ℕ × Did) → Bool
of_another lane None = false
of_another lane (Some e) = not (e.0 == lane)

-- each mark stands before a note of another lane
abbrev pub marks_pass : Logs → ℕ → List Note → Bool
marks_pass logs lane [] = true
marks_pass logs lane (Busy held ∷ ns) =
    of_another lane (slice_get (history_of held.object logs) held.number) && marks_pass logs lane ns
marks_pass logs lane (At object number did ∷ ns) = marks_pass logs lane ns
marks_pass logs lane (Ref root did ∷ ns) = marks_pass logs lane ns

-- they fit in every log
abbrev pub object_marks : Logs → Object → Bool
object_marks logs object = all_from (λ lane log. marks_fit object 0 0 log) 0 logs

MarksFit-passes : (object : Object) (had least : ℕ) (ns : List Note) → marks_fit object had least ns ≡ true →
    MarksFit object had least ns
MarksFit-passes object had least [] e = tt
MarksFit-passes object had least (At other number did ∷ ns) e =
    go (same_object object other) e
    (λ h. MarksFit-passes object (max had number) least ns h) (λ h. MarksFit-passes object had least ns h)
  where
    go : (b : Bool) →
        (if b then nat_le least number && marks_fit object (max had number) least ns else marks_fit object had least ns)
        ≡ true →
        (marks_fit object (max had number) least ns ≡ true → MarksFit object (max had number) least ns) →
        (marks_fit object had least ns ≡ true → MarksFit object had least ns) →
        MatchBool b ((least ≤ number) × MarksFit object (max had number) least ns) (MarksFit object had least ns)
    go true h here past = (leb-true least number (and-first _ _ h), here (and-second _ _ h))
    go false h here past = past h
MarksFit-passes object had least (Busy held ∷ ns) e =
    go (same_object object held.object) e
    (λ h. MarksFit-passes object held.number (held.number + 1) ns h) (λ h. MarksFit-passes object had least ns h)
  where
    go : (b : Bool) →
        (if b then nat_le had held.number && marks_fit object held.number (held.number + 1) ns else marks_fit object had
        least ns) ≡ true →
        (marks_fit object held.number (held.number + 1) ns ≡ true → MarksFit object held.number (held.number + 1) ns) →
        (marks_fit object had least ns ≡ true → MarksFit object had least ns) →
        MatchBool b ((had ≤ held.number) × MarksFit object held.number (held.number + 1) ns)
        (MarksFit object had least ns)
    go true h here past = (leb-true had held.number (and-first _ _ h), here (and-second _ _ h))
    go false h here past = past h
MarksFit-passes object had least (Ref root did ∷ ns) e = MarksFit-passes object had least ns e

-- notes that do not name an object are not restrained by it
MarksFit-unnamed : (objects : List Object) (object : Object) → listed same_object objects object ≡ false →
    (had least : ℕ) (ns : List Note) → list_all (names_of objects) ns ≡ true → MarksFit object had least ns
MarksFit-unnamed objects object absent had least [] e = tt
MarksFit-unnamed objects object absent had least (At other number did ∷ ns) e =
    let here : listed same_object objects other ≡ true = and-first _ _ e in
    let another : same_object object other ≡ false = another_object objects object other absent here in
    rw another (MarksFit-unnamed objects object absent had least ns (and-second _ _ e))
MarksFit-unnamed objects object absent had least (Busy held ∷ ns) e =
    let here : listed same_object objects held.object ≡ true = and-first _ _ e in
    let another : same_object object held.object ≡ false = another_object objects object held.object absent here in
    rw another (MarksFit-unnamed objects object absent had least ns (and-second _ _ e))
MarksFit-unnamed objects object absent had least (Ref root did ∷ ns) e =
    MarksFit-unnamed objects object absent had least ns e

IsOfAnother-passes : (lane : ℕ) (o : Option (ℕ × Did)) → of_another lane o ≡ true → IsOfAnother lane o
IsOfAnother-passes lane None e = absurd (cc e)
IsOfAnother-passes lane (Some x) e =
    λ same. let both : true ≡ false = sym e ∙ ap not (eq-eqb x.0 lane same) in absurd (cc both)

MarksHold-passes : (logs : Logs) (lane : ℕ) (ns : List Note) → marks_pass logs lane ns ≡ true →
    MarksHold lane (λ object. history_of object logs) ns
MarksHold-passes logs lane [] e = tt
MarksHold-passes logs lane (Busy held ∷ ns) e =
    let here : Bool = of_another lane (slice_get (history_of held.object logs) held.number) in (
      IsOfAnother-passes lane (slice_get (history_of held.object logs) held.number) (and-first _ _ e),
      MarksHold-passes logs lane ns (and-second _ _ e),
    )
MarksHold-passes logs lane (At object number did ∷ ns) e = MarksHold-passes logs lane ns e
MarksHold-passes logs lane (Ref root did ∷ ns) e = MarksHold-passes logs lane ns e

module _ (logs : Logs) (objects : List Object)
    (named : all_from (objects_pass objects) 0 logs ≡ true)
    (pass : map (object_marks logs) objects ≡ map (λ _. true) objects) where
  fit : (lane : ℕ) (object : Object) → MarksFit object 0 0 (of_lane logs lane)
  fit lane object = go (listed same_object objects object) refl
    where
      go : (b : Bool) → listed same_object objects object ≡ b → MarksFit object 0 0 (of_lane logs lane)
      go true in_list =
          MarksFit-passes object 0 0 (of_lane logs lane)
          (all_lanes (λ l log. marks_fit object 0 0 log) (λ k. refl) logs
          (each_object (object_marks logs) (λ _. true) objects object pass in_list) lane)
      go false absent =
          MarksFit-unnamed objects object absent 0 0 (of_lane logs lane)
          (all_lanes (objects_pass objects) (λ k. refl) logs named lane)

  pub busy : all_from (marks_pass logs) 0 logs ≡ true → (lane : ℕ) →
      BusyHolds lane (λ object. history_of object logs) (of_lane logs lane)
  busy marks lane = record {
    fit = fit lane;
    marks = MarksHold-passes logs lane (of_lane logs lane) (all_lanes (marks_pass logs) (λ k. refl) logs marks lane);
  }
