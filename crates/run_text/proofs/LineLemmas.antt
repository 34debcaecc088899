-- Lines of notes among the lines of a text.
use Rattle.std.proofs.Common.{◌≡◌, ℕ, ◌+◌, ◌-◌, ◌<◌, ◌≤◌, List, [], ◌∷◌, ◌++◌, length, get_or, map, take, Some, Result, Ok, Err, codes, decimal, sym, ap, ◌∙◌, arith, length-append, append-nil, false, inl, inr, add-zero}
use Rattle.std.specs.Prelude.{IsErrAnd, MatchResult, nat_eq, slice_get}
use Rattle.std.specs.List.{All, starts_with}
use Rattle.std.proofs.lemmas.Bool.{cases_lt, true≢false}
use Rattle.std.proofs.lemmas.List.{get_or-append-add, get_or-map, get_or_append_left, length-map, map-append, take_more}
use Rattle.std.proofs.lemmas.Option.{slice_get-get_or}
use Rattle.pool_law.specs.declared.note.Note.{Note}
use Rattle.pool_law.specs.declared.note.Object.{Object}
use Rattle.pool_law.specs.Text.{Text, note_words, spaced}
use Rattle.run_text.specs.Lines.{Line}
use Rattle.run_text.specs.Knowing.{line_text, line_told}
use Rattle.run_text.specs.Starting.{Begins, BeginsNot}
use Rattle.run_text.specs.declared.TextNo.{TextNo}
use Rattle.run_text.specs.declared.TextNo.TheVariants.{Memory}

-- behind those in front stand the lines of the notes
pub text_at : (front back : List Text) (notes : List Line) (k : ℕ) (d : Line) → k < length notes
    → slice_get (front ++ (map line_text notes ++ back)) (length front + k) ≡ Some (line_text (get_or notes k d))
text_at front back notes k d low =
    let long = length-map notes line_text in
    let behind = length-append (map line_text notes) back in
    let whole = length-append front (map line_text notes ++ back) in
    let inside : k < length (map line_text notes) = omega (arith, low, long) in
    slice_get-get_or (front ++ (map line_text notes ++ back)) (length front + k) []
    (omega (arith, low, long, behind, whole))
    ∙ ap Some (get_or-append-add front (map line_text notes ++ back) k []
    ∙ get_or_append_left (map line_text notes) back [] k inside
    ∙ get_or-map line_text notes k d [] low)

-- what is read where there is no line
abbrev pub no_line : Line
no_line = (0, Note.Busy (record { object = Object.Arena 0; number = 0 }))

module _ (texts front back : List Text) (notes : List Line) (from to n : ℕ)
    (is : texts ≡ front ++ (map line_text notes ++ back)) (long : length front ≡ from)
    (ends : from + length notes ≡ to)
    (first : from ≤ n) (last : n < to) where
  -- the line of this number is that of a note
  pub within : n - from < length notes
  within = omega (arith, ends, first, last)

  pub here : slice_get texts n ≡ Some (line_text (get_or notes (n - from) no_line))
  here =
      let place : n ≡ length front + (n - from) = omega (arith, long, first) in
      ap (λ (t : List Text). slice_get t n) is
      ∙ ap (λ m. slice_get (front ++ (map line_text notes ++ back)) m) place
      ∙ text_at front back notes (n - from) no_line within

  -- one more of them
  pub one_more_told : (old new : List Line) (line : Line) → new ≡ old ++ line ∷ []
      → old ≡ map line_told (take (n - from) notes) → line ≡ line_told (get_or notes (n - from) no_line)
      → new ≡ map line_told (take (n + 1 - from) notes)
  one_more_told old new line pushed were told =
      let next : (n - from) + 1 ≡ n + 1 - from = omega (arith, first) in
      pushed
      ∙ (λ i. were i ++ told i ∷ [])
      ∙ sym (map-append line_told (take (n - from) notes) (get_or notes (n - from) no_line ∷ []))
      ∙ sym (ap (map line_told) (take_more notes (n - from) no_line within))
      ∙ ap (λ m. map line_told (take m notes)) next

-- the words of a line, as a note is read
pub line_words : (line : Line) → line_text line ≡ spaced (codes "note" ∷ decimal line.0 ∷ (note_words line.1 ++ []))
line_words line =
    ap (λ (words : List Text). spaced (codes "note" ∷ decimal line.0 ∷ words)) (sym (append-nil (note_words line.1)))

-- a refusal that is passed on is want of memory where it was
pub refused_on : {X : Type 0} (r : Result X TextNo) (why : TextNo) (P : X → Type 0) → IsErrAnd r (λ e. e ≡ why)
    → why ≡ Memory → MatchResult r P (λ no. no ≡ Memory)
refused_on (Ok y) why P h memory = absurd h
refused_on (Err e) why P h memory = h ∙ memory

-- ---- Lines that begin so.

module _ (first : Text) (texts front middle back : List Text) (from : ℕ) (is : texts ≡ front ++ (middle ++ back))
    (long : length front ≡ from) (inside : All (Begins first) middle) (outside : BeginsNot first back) where
  pub whole : length texts ≡ from + (length middle + length back)
  whole = omega (arith, ap length is, length-append front (middle ++ back), length-append middle back, long)

  at_from : (k : ℕ) → get_or texts (from + k) [] ≡ get_or (middle ++ back) k []
  at_from k =
      ap (λ (t : List Text). get_or t (from + k) []) is
      ∙ ap (λ n. get_or (front ++ (middle ++ back)) (n + k) []) (sym long)
      ∙ get_or-append-add front (middle ++ back) k []

  -- those of the middle do
  all_do : (n : ℕ) → from ≤ n → n < from + length middle → Begins first (get_or texts n [])
  all_do n low high =
      let there : n - from < length middle = omega (arith, low, high) in
      let place : n ≡ from + (n - from) = omega (arith, low) in
      ap (λ (t : Text). starts_with nat_eq t first)
      (ap (λ m. get_or texts m []) place ∙ at_from (n - from)
      ∙ get_or_append_left middle back [] (n - from) there)
      ∙ inside (n - from) [] there

  -- the next, where there is one, does not
  next_not : from + length middle < length texts → starts_with nat_eq (get_or texts (from + length middle) []) first
      ≡ false
  next_not more =
      ap (λ (t : Text). starts_with nat_eq t first)
      (at_from (length middle) ∙ behind (omega (arith, more, whole)))
      ∙ head_not back (omega (arith, more, whole)) outside
    where
      behind : 0 < length back → get_or (middle ++ back) (length middle) [] ≡ get_or back 0 []
      behind some =
          ap (λ n. get_or (middle ++ back) n []) (sym (add-zero (length middle)))
          ∙ get_or-append-add middle back 0 []

      head_not : (rest : List Text) → 0 < length rest → BeginsNot first rest
          → starts_with nat_eq (get_or rest 0 []) first ≡ false
      head_not [] some not = absurd (omega (arith, some))
      head_not (t ∷ rest) some not = not

  -- so they end where the first is that does not
  pub end_is : (n : ℕ) → from ≤ n → n ≤ length texts → ((i : ℕ) → from ≤ i → i < n → Begins first (get_or texts i []))
      → (n < length texts → starts_with nat_eq (get_or texts n []) first ≡ false) → n ≡ from + length middle
  end_is n low high before there =
      elim (cases_lt n (from + length middle)) [
        | inl less ↦
            absurd (true≢false (sym (all_do n low less) ∙ there (omega (arith, less, whole))))
        | inr more ↦
            elim (cases_lt (from + length middle) n) [
              | inl over ↦
                  absurd (true≢false (sym (before (from + length middle) (omega arith) over)
                  ∙ next_not (omega (arith, over, high))))
              | inr same ↦ omega (arith, more, same)
            ]
      ]
