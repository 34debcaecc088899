-- The lines of leaks, one leak behind the other.
use Rattle.std.proofs.Common.{◌≡◌, ℕ, zero, suc, ◌+◌, ◌<◌, ◌≤◌, List, [], ◌∷◌, ◌++◌, length, get_or, map, take, drop, Some, codes, refl, sym, ap, ◌∙◌, arith, length-append, append_assoc, true, false, Bool}
use Rattle.std.specs.Prelude.{not, slice_get}
use Rattle.std.specs.List.{All}
use Rattle.std.specs.Str.{bytes_eq}
use Rattle.std.proofs.lemmas.Bool.{false≢true}
use Rattle.std.proofs.lemmas.List.{length-map, take_more}
use Rattle.pool_law.specs.declared.report.Access.{Access}
use Rattle.pool_law.specs.declared.report.Leak.{Leak}
use Rattle.pool_law.specs.Text.{Text, spaced}
use Rattle.run_text.specs.Ending.{access_text, leak_texts, leak_words, leaks_texts}
use Rattle.run_text.specs.Starting.{Begins, BeginsNot}
use Rattle.run_text.proofs.PlaceLemmas.{text_behind}

-- what is read where there is no leak
abbrev pub no_leak : Leak
no_leak = record { lane = 0; serial = 0; capacity = 0; count = 0; records = []; dropped = 0 }

-- the last line
abbrev pub last_text : List Text → Text
last_text words = spaced (codes "end" ∷ words)

-- the lines of leaks, and the last, do not begin with a space
pub no_access_first : (leaks : List Leak) (words : List Text)
    → BeginsNot (codes " ") (leaks_texts leaks ++ last_text words ∷ [])
no_access_first [] [] = refl
no_access_first [] (w ∷ words) = refl
no_access_first (l ∷ leaks) words = refl

-- but those of accesses do
pub accesses_begin : (records : List Access) → All (Begins (codes " ")) (map access_text records)
accesses_begin [] i d low = absurd (omega (arith, low))
accesses_begin (r ∷ records) zero d low = refl
accesses_begin (r ∷ records) (suc i) d low = accesses_begin records i d (omega (arith, low))

-- what comes before a leak, its lines, and what comes behind
pub parted_at : (leaks : List Leak) (k : ℕ) → k < length leaks
    → leaks_texts leaks
    ≡ leaks_texts (take k leaks) ++ (leak_texts (get_or leaks k no_leak) ++ leaks_texts (drop (suc k) leaks))
parted_at [] k low = absurd (omega arith)
parted_at (l ∷ leaks) zero low = refl
parted_at (l ∷ leaks) (suc k) low =
    ap (λ (rest : List Text). leak_texts l ++ rest) (parted_at leaks k (omega (arith, low)))
    ∙ sym (append_assoc (leak_texts l) (leaks_texts (take k leaks))
    (leak_texts (get_or leaks k no_leak) ++ leaks_texts (drop (suc k) leaks)))

-- each leak has a line at least
pub lines_many : (leaks : List Leak) → length leaks ≤ length (leaks_texts leaks)
lines_many [] = omega arith
lines_many (l ∷ leaks) =
    omega (arith, lines_many leaks, length-append (map access_text l.records) (leaks_texts leaks))

-- one leak more
leaks_more : (leaks : List Leak) (k : ℕ) → k < length leaks
    → length (leaks_texts (take (suc k) leaks))
    ≡ length (leaks_texts (take k leaks)) + suc (length (map access_text (get_or leaks k no_leak).records))
leaks_more [] k low = absurd (omega arith)
leaks_more (l ∷ leaks) zero low = omega (arith, length-append (leak_texts l) [])
leaks_more (l ∷ leaks) (suc k) low =
    omega (
      arith,
      leaks_more leaks k (omega (arith, low)),
      length-append (leak_texts l) (leaks_texts (take (suc k) leaks)),
      length-append (leak_texts l) (leaks_texts (take k leaks)),
    )

module _ (texts front : List Text) (leaks : List Leak) (words : List Text) (from k at : ℕ)
    (is : texts ≡ front ++ (leaks_texts leaks ++ last_text words ∷ [])) (long : length front ≡ from)
    (placed : at ≡ from + length (leaks_texts (take k leaks))) where
  -- behind all leaks stands the last line
  module _ (all : take k leaks ≡ leaks) where
    pub last_here : slice_get texts at ≡ Some (last_text words)
    last_here =
        let here = ap (λ (ls : List Leak). length (leaks_texts ls)) all in
        let whole : front ++ (leaks_texts leaks ++ last_text words ∷ [])
        ≡ (front ++ leaks_texts leaks) ++ ((last_text words ∷ []) ++ []) =
        sym (append_assoc front (leaks_texts leaks) (last_text words ∷ [])) in
        let place : at ≡ length (front ++ leaks_texts leaks) + 0 =
        omega (arith, placed, here, long, length-append front (leaks_texts leaks)) in
        ap (λ (t : List Text). slice_get t at) (is ∙ whole)
        ∙ ap (λ m. slice_get ((front ++ leaks_texts leaks) ++ ((last_text words ∷ []) ++ [])) m) place
        ∙ text_behind (front ++ leaks_texts leaks) (last_text words ∷ []) [] 0 (omega arith)

  module _ (low : k < length leaks) where
    abbrev leak : Leak
    leak = get_or leaks k no_leak

    abbrev before : List Text
    before = front ++ leaks_texts (take k leaks)

    abbrev pub rest : List Text
    rest = leaks_texts (drop (suc k) leaks) ++ last_text words ∷ []

    -- the line of the next leak, and those of its accesses
    pub next_leak : texts ≡ before ++ (leak_texts leak ++ rest)
    next_leak =
        is
        ∙ ap (λ (t : List Text). front ++ (t ++ last_text words ∷ [])) (parted_at leaks k low)
        ∙ ap (λ (t : List Text). front ++ t)
        (append_assoc (leaks_texts (take k leaks)) (leak_texts leak ++ leaks_texts (drop (suc k) leaks))
        (last_text words ∷ []))
        ∙ sym (append_assoc front (leaks_texts (take k leaks))
        ((leak_texts leak ++ leaks_texts (drop (suc k) leaks)) ++ last_text words ∷ []))
        ∙ ap (λ (t : List Text). before ++ t)
        (append_assoc (leak_texts leak) (leaks_texts (drop (suc k) leaks)) (last_text words ∷ []))

    place : at ≡ length before
    place = omega (arith, placed, long, length-append front (leaks_texts (take k leaks)))

    pub leak_here : slice_get texts at ≡ Some (spaced (codes "leak" ∷ leak_words leak))
    leak_here =
        ap (λ (t : List Text). slice_get t at) next_leak
        ∙ ap (λ m. slice_get (before ++ (leak_texts leak ++ rest)) m) (omega (arith, place))
        ∙ text_behind before (leak_texts leak) rest 0 (omega arith)

    -- what stands before its accesses
    abbrev pub before_accesses : List Text
    before_accesses = before ++ spaced (codes "leak" ∷ leak_words leak) ∷ []

    pub accesses_there : texts ≡ before_accesses ++ (map access_text leak.records ++ rest)
    accesses_there =
        next_leak
        ∙ sym (append_assoc before (spaced (codes "leak" ∷ leak_words leak) ∷ [])
        (map access_text leak.records ++ rest))

    pub accesses_from : length before_accesses ≡ at + 1
    accesses_from = omega (arith, place, length-append before (spaced (codes "leak" ∷ leak_words leak) ∷ []))

    pub is_room : at + 1 ≤ length texts
    is_room =
        omega (
          arith,
          ap length accesses_there,
          length-append before_accesses (map access_text leak.records ++ rest),
          accesses_from,
        )

    pub many_accesses : length (map access_text leak.records) ≡ length leak.records
    many_accesses = length-map leak.records access_text

    -- the lines up to the next leak
    pub next_at : (end : ℕ) → end ≡ at + 1 + length (map access_text leak.records)
        → end ≡ from + length (leaks_texts (take (k + 1) leaks))
    next_at end e =
        let next : k + 1 ≡ suc k = omega arith in
        let sum : length (leaks_texts (take (k + 1) leaks)) ≡ length (leaks_texts (take (suc k) leaks)) =
        ap (λ n. length (leaks_texts (take n leaks))) next in
        omega (arith, e, placed, sum, leaks_more leaks k low)

    -- one more of them
    pub one_more_leak : (old new : List Leak) (l : Leak) → new ≡ old ++ l ∷ [] → old ≡ take k leaks → l ≡ leak
        → new ≡ take (k + 1) leaks
    one_more_leak old new l pushed were read =
        pushed
        ∙ (λ i. were i ++ read i ∷ [])
        ∙ sym (take_more leaks k no_leak low)

-- the first words of a leak's line and of the last differ
pub not_end : (r : Bool) (word : Text) → r ≡ not (bytes_eq word (codes "leak")) → r ≡ false → word ≡ codes "end" → ⊥
not_end r word e fails same =
    let here : r ≡ not (bytes_eq (codes "end") (codes "leak")) =
    e ∙ ap (λ (t : Text). not (bytes_eq t (codes "leak"))) same in
    false≢true (sym fails ∙ here)

pub not_leak : (r : Bool) (word : Text) → r ≡ not (bytes_eq word (codes "leak")) → r ≡ true → word ≡ codes "leak" → ⊥
not_leak r word e holds same =
    let here : r ≡ not (bytes_eq (codes "leak") (codes "leak")) =
    e ∙ ap (λ (t : Text). not (bytes_eq t (codes "leak"))) same in
    false≢true (sym here ∙ holds)
