-- The least of the numbers of notes.
use Rattle.std.proofs.Common.{◌≡◌, ℕ, ◌+◌, ◌<◌, ◌≤◌, List, [], ◌∷◌, ◌++◌, length, get_or, take, sym, ap, arith, ⊎_elim, ◌∙◌}
use Rattle.std.specs.Prelude.{◌⊎◌}
use Rattle.std.specs.List.{All}
use Rattle.std.proofs.lemmas.List.{map-append, take_more}
use Rattle.std.proofs.lemmas.List.Elements.{All-nil, All-cons, All-head, All-tail, All-same, All-push, All-weaker}
use Rattle.std.proofs.lemmas.Bool.{cases_lt}
use Rattle.pool_law.specs.declared.note.Did.{Did}
use denote.Ref.{Bor}
use Rattle.run_check.specs.declared.gathering.HistoryNote.{HistoryNote}
use Rattle.run_check.specs.Gathering.{note_data, notes_data, left_of}
use Rattle.run_check.proofs.GatheringLemmas.{left-at, left-past}

-- what holds of each item holds of those before, and of those behind
pub All-before : {X : Type 0} (P : X → Type 0) (xs ys : List X) → All P (xs ++ ys) → All P xs
All-before P [] ys all = All-nil P
All-before P (x ∷ xs) ys all =
    All-cons P x xs (All-head P x (xs ++ ys) all) (All-before P xs ys (All-tail P x (xs ++ ys) all))

pub All-behind : {X : Type 0} (P : X → Type 0) (xs ys : List X) → All P (xs ++ ys) → All P ys
All-behind P [] ys all = all
All-behind P (x ∷ xs) ys all = All-behind P xs ys (All-tail P x (xs ++ ys) all)

-- the notes have at least this number, or more
abbrev pub FromOn : ℕ → List (ℕ × Did) → Type 0
FromOn n notes = All (λ x. n ≤ x.0) notes

abbrev pub Past : ℕ → List (ℕ × Did) → Type 0
Past n notes = All (λ x. n < x.0) notes

-- one more note
module _ (number old new : ℕ) (notes : List HistoryNote) (i : ℕ) (note : HistoryNote) (there : i < length notes)
    (is : note ≡ get_or notes i note) (lesser : new ≤ old) (this : new ≤ note.number)
    (one : (new ≡ old) ⊎ (new ≡ note.number)) where
  step : notes_data (take (i + 1) notes) ≡ notes_data (take i notes) ++ note_data note ∷ []
  step =
      ap notes_data (take_more notes i note there ∙ ap (λ (s : HistoryNote). take i notes ++ s ∷ []) (sym is))
      ∙ map-append note_data (take i notes) (note ∷ [])

  pub least-more : FromOn old (notes_data (take i notes)) → FromOn new (notes_data (take (i + 1) notes))
  least-more before =
      All-same (λ (x : ℕ × Did). new ≤ x.0) _ _ step
      (All-push (λ (x : ℕ × Did). new ≤ x.0) (notes_data (take i notes)) (note_data note)
      (All-weaker (λ (x : ℕ × Did). old ≤ x.0) (λ (x : ℕ × Did). new ≤ x.0) (λ x le. omega (arith, le, lesser))
      (notes_data (take i notes)) before)
      this)

  pub there-more : (old < number → Past old (notes_data (take i notes)) → ⊥) → new < number →
      Past new (notes_data (take (i + 1) notes)) → ⊥
  there-more before below past =
      let P : ℕ × Did → Type 0 = λ x. new < x.0 in
      let all : All P (notes_data (take i notes) ++ note_data note ∷ []) = All-same P _ _ (sym step) past in
      ⊎_elim
      (λ same.
      before (omega (arith, same, below))
      (All-weaker P (λ (x : ℕ × Did). old < x.0) (λ x lt. omega (arith, lt, same)) (notes_data (take i notes))
      (All-before P (notes_data (take i notes)) (note_data note ∷ []) all)))
      (λ same.
      omega (
        arith,
        same,
        All-head P (note_data note) [] (All-behind P (notes_data (take i notes)) (note_data note ∷ []) all),
      ))
      one

-- one more lane
module _ (number old new : ℕ) (left : List (Bor (List HistoryNote))) (i : ℕ) (notes : Bor (List HistoryNote))
    (there : i < length left) (is : notes ≡ get_or left i notes) (lesser : new ≤ old)
    (least : FromOn new (notes_data notes.now))
    (this : new < old → Past new (notes_data notes.now) → ⊥) where
  here : left_of left i ≡ notes_data notes.now
  here = left-at left i notes there is

  pub lanes-least : ((lane : ℕ) → lane < i → FromOn old (left_of left lane)) → (lane : ℕ) → lane < i + 1 →
      FromOn new (left_of left lane)
  lanes-least before lane below =
      ⊎_elim
      (λ inside.
      All-weaker (λ (x : ℕ × Did). old ≤ x.0) (λ (x : ℕ × Did). new ≤ x.0) (λ x le. omega (arith, le, lesser))
      (left_of left lane) (before lane inside))
      (λ past.
      let same : lane ≡ i = omega (arith, past, below) in
      All-same (λ (x : ℕ × Did). new ≤ x.0) _ _ (ap (left_of left) same ∙ here) least)
      (cases_lt lane i)

  pub lanes-there :
      (old < number → ((lane : ℕ) → lane < i → Past old (left_of left lane)) → ⊥) → new < number →
      ((lane : ℕ) → lane < i + 1 → Past new (left_of left lane)) → ⊥
  lanes-there before below past =
      ⊎_elim
      (λ less. this less (All-same (λ (x : ℕ × Did). new < x.0) _ _ (sym here) (past i (omega arith))))
      (λ more.
      let same : new ≡ old = omega (arith, more, lesser) in
      before (omega (arith, same, below))
      (λ lane inside.
      All-weaker (λ (x : ℕ × Did). new < x.0) (λ (x : ℕ × Did). old < x.0) (λ x lt. omega (arith, lt, same))
      (left_of left lane) (past lane (omega (arith, inside)))))
      (cases_lt new old)

-- all lanes
pub all-lanes : (least : ℕ) (left : List (Bor (List HistoryNote))) (i : ℕ) → length left ≤ i →
    ((lane : ℕ) → lane < i → FromOn least (left_of left lane)) → (lane : ℕ) → FromOn least (left_of left lane)
all-lanes least left i all below lane =
    ⊎_elim
    (λ inside. below lane inside)
    (λ past.
    All-same (λ (x : ℕ × Did). least ≤ x.0) _ _ (left-past left lane (omega (arith, past, all)))
    (All-nil (λ (x : ℕ × Did). least ≤ x.0)))
    (cases_lt lane i)
