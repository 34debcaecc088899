-- Bits in words: one that changes, and the lowest that is clear.
use Rattle.std.proofs.Common.{◌≡◌, ◌⊎◌, ℕ, ◌+◌, ◌-◌, ◌*◌, ◌/◌, ◌%◌, ◌^◌, ◌<◌, ◌≤◌, Bool, true, false, List, length, get_or, refl, sym, ap, ◌∙◌, arith, w64, Some, None}
use Rattle.std.specs.Prelude.{◌≢◌, nat_lt, not, position, if◌then◌else◌}
use Rattle.std.specs.Int.{bit_at, bit_not, trailing_ones, trailing_zeros}
use Rattle.std.specs.Int.RustNames.{bit_or}
use lib.Bits.{bit_and}
use Rattle.std.proofs.Math.ListN.{set}
use Rattle.std.proofs.lemmas.List.{length-set, get_or-set_same, get_or-set_other}
use Rattle.std.proofs.lemmas.Bool.{cases_lt, cases_eq, ltb-true, ltb-false}
use Rattle.std.proofs.lemmas.List.Quantifiers.{position-Some}
use Rattle.std.proofs.lemmas.Nat.Bits.{bit_at-zero, bit_at_ones, bit_at-trailing_ones, bit_at-trailing_zeros, bit_at_set_same, bit_at_set_other, bit_at_clear_same, bit_at_clear_other}
use Rattle.std.proofs.lemmas.List.Sums.{prefix_len_passes}
use Rattle.std.specs.List.{position_or_len}
use Rattle.bit_words.specs.Words.{bit_of, AreAll, IsLowestClear, IsLowestSet, ChangesBit}
use mathlib.Core.Logic.{inl, inr}

-- ---- one bit

-- a word in which one bit changes, among words
pub changes : (words : List ℕ) (i b v : ℕ) → i / 64 < length words → bit_at v (i % 64) ≡ b →
    ((k : ℕ) → k < 64 → k ≢ i % 64 → bit_at v k ≡ bit_at (get_or words (i / 64) 0) k) →
    ChangesBit i b words (set words (i / 64) v)
changes words i b v there here rest = record {
  length = length-set words (i / 64) v;
  changed = ap (λ (w : ℕ). bit_at w (i % 64)) (get_or-set_same words (i / 64) v 0 there) ∙ here;
  others = λ j ne. other j ne (cases_eq (j / 64) (i / 64));
}
  where
    other : (j : ℕ) → j ≢ i → (j / 64 ≡ i / 64) ⊎ (j / 64 ≡ i / 64 → ⊥) →
        bit_of (set words (i / 64) v) j ≡ bit_of words j
    other j ne (inl same) =
        let apart : j % 64 ≢ i % 64 = λ e. ne (omega (arith, e, same)) in
        ap (λ (k : ℕ). bit_at (get_or (set words (i / 64) v) k 0) (j % 64)) same
        ∙ ap (λ (w : ℕ). bit_at w (j % 64)) (get_or-set_same words (i / 64) v 0 there)
        ∙ rest (j % 64) (omega arith) apart
        ∙ ap (λ (k : ℕ). bit_at (get_or words k 0) (j % 64)) (sym same)
    other j ne (inr differ) =
        ap (λ (w : ℕ). bit_at w (j % 64)) (get_or-set_other words (i / 64) (j / 64) v 0 differ)

-- a bit that is set
pub sets : (words : List ℕ) (i : ℕ) → i < 64 * length words →
    ChangesBit i 1 words (set words (i / 64) (bit_or (get_or words (i / 64) 0) (1 * 2 ^ (i % 64) % 2 ^ 64)))
sets words i h =
    let w : ℕ = get_or words (i / 64) 0 in
    let k : i % 64 < 64 = omega arith in
    changes words i 1 (bit_or w (1 * 2 ^ (i % 64) % 2 ^ 64)) (omega (arith, h)) (bit_at_set_same w64 w (i % 64) k)
    (λ j few ne. bit_at_set_other w64 w (i % 64) k j ne)

-- and one that is cleared
pub clears : (words : List ℕ) (i : ℕ) → i < 64 * length words →
    ChangesBit i 0 words
    (set words (i / 64) (bit_and (get_or words (i / 64) 0) (bit_not w64 (1 * 2 ^ (i % 64) % 2 ^ 64))))
clears words i h =
    let w : ℕ = get_or words (i / 64) 0 in
    let k : i % 64 < 64 = omega arith in
    changes words i 0 (bit_and w (bit_not w64 (1 * 2 ^ (i % 64) % 2 ^ 64))) (omega (arith, h))
    (bit_at_clear_same w64 w (i % 64) k)
    (λ j few ne. bit_at_clear_other w64 w (i % 64) k j few ne)

-- ---- searches

-- where a search fails, none passes
none-passes : (p : ℕ → Bool) (words : List ℕ) (k : ℕ) → position p words ≡ None → k < length words →
    p (get_or words k 0) ≡ false
none-passes p words k e there = by (nat_lt (position_or_len p words) (length words)) refl e
  where
    fails : (b : Bool) → not b ≡ true → b ≡ false
    fails true h = absurd (cc h)
    fails false h = refl

    by : (b : Bool) → nat_lt (position_or_len p words) (length words) ≡ b →
        (if b then Some (position_or_len p words) else None) ≡ None → p (get_or words k 0) ≡ false
    by true is e = absurd (cc e)
    by false is e =
        fails (p (get_or words k 0))
        (prefix_len_passes (λ x. not (p x)) words k 0
        (omega (arith, ltb-false (position_or_len p words) (length words) is, there)))

-- ---- the lowest clear bit

-- a word that has no clear bit
full-word : (w k : ℕ) → w < 2 ^ 64 → nat_lt w (2 ^ 64 - 1) ≡ false → k < 64 → bit_at w k ≡ 1
full-word w k fits full few =
    let is : w ≡ 2 ^ 64 - 1 = omega (arith, fits, ltb-false w (2 ^ 64 - 1) full) in
    ap (λ (n : ℕ). bit_at n k) is ∙ bit_at_ones 64 k few

-- the first clear bit of the first word that has one
pub lowest : (words : List ℕ) (i : ℕ) → ((k : ℕ) → get_or words k 0 < 2 ^ 64) →
    position (λ w. nat_lt w (2 ^ 64 - 1)) words ≡ Some i →
    IsLowestClear words (64 * i + trailing_ones w64 (get_or words i 0))
lowest words i fit e = record {
  there = omega (arith, found.0, ones.0);
  clear = ap (λ (k : ℕ). bit_at (get_or words k 0) ((64 * i + t) % 64)) word ∙ ap (bit_at w) rest ∙ ones.1;
  below = λ j less. before j less (cases_lt (j / 64) i);
}
  where
    found : (i < length words) × (nat_lt (get_or words i 0) (2 ^ 64 - 1) ≡ true)
        × ((k : ℕ) → k < i → nat_lt (get_or words k 0) (2 ^ 64 - 1) ≡ false)
    found = position-Some (λ w. nat_lt w (2 ^ 64 - 1)) words i 0 e

    w : ℕ
    w = get_or words i 0

    t : ℕ
    t = trailing_ones w64 w

    ones : (t < 64) × (bit_at w t ≡ 0) × ((k : ℕ) → k < t → bit_at w k ≡ 1)
    ones = bit_at-trailing_ones w64 w (omega (arith, ltb-true w (2 ^ 64 - 1) found.1))

    word : (64 * i + t) / 64 ≡ i
    word = omega (arith, ones.0)

    rest : (64 * i + t) % 64 ≡ t
    rest = omega (arith, ones.0)

    before : (j : ℕ) → j < 64 * i + t → (j / 64 < i) ⊎ (i ≤ j / 64) → bit_of words j ≡ 1
    before j less (inl earlier) =
        full-word (get_or words (j / 64) 0) (j % 64) (fit (j / 64)) (found.2 (j / 64) earlier) (omega arith)
    before j less (inr later) =
        let same : j / 64 ≡ i = omega (arith, later, less, ones.0) in
        ap (λ (k : ℕ). bit_at (get_or words k 0) (j % 64)) same ∙ ones.2 (j % 64) (omega (arith, less, same))

-- where no word has one, all bits are set
pub all-set : (words : List ℕ) → ((k : ℕ) → get_or words k 0 < 2 ^ 64) →
    position (λ w. nat_lt w (2 ^ 64 - 1)) words ≡ None → AreAll 1 words
all-set words fit e i less =
    full-word (get_or words (i / 64) 0) (i % 64) (fit (i / 64))
    (none-passes (λ w. nat_lt w (2 ^ 64 - 1)) words (i / 64) e (omega (arith, less))) (omega arith)

-- ---- the lowest set bit

-- a word that has no set bit
empty-word : (w k : ℕ) → nat_lt 0 w ≡ false → bit_at w k ≡ 0
empty-word w k empty =
    let is : w ≡ 0 = omega (arith, ltb-false 0 w empty) in
    ap (λ (n : ℕ). bit_at n k) is ∙ bit_at-zero k

-- the first set bit of the first word that has one
pub first-set : (words : List ℕ) (i : ℕ) → ((k : ℕ) → get_or words k 0 < 2 ^ 64) →
    position (λ w. nat_lt 0 w) words ≡ Some i →
    IsLowestSet words (64 * i + trailing_zeros w64 (get_or words i 0))
first-set words i fit e = record {
  there = omega (arith, found.0, zeros.0);
  set = ap (λ (k : ℕ). bit_at (get_or words k 0) ((64 * i + t) % 64)) word ∙ ap (bit_at w) rest ∙ zeros.1;
  below = λ j less. before j less (cases_lt (j / 64) i);
}
  where
    found : (i < length words) × (nat_lt 0 (get_or words i 0) ≡ true)
        × ((k : ℕ) → k < i → nat_lt 0 (get_or words k 0) ≡ false)
    found = position-Some (λ w. nat_lt 0 w) words i 0 e

    w : ℕ
    w = get_or words i 0

    t : ℕ
    t = trailing_zeros w64 w

    zeros : (t < 64) × (bit_at w t ≡ 1) × ((k : ℕ) → k < t → bit_at w k ≡ 0)
    zeros = bit_at-trailing_zeros w64 w (ltb-true 0 w found.1) (fit i)

    word : (64 * i + t) / 64 ≡ i
    word = omega (arith, zeros.0)

    rest : (64 * i + t) % 64 ≡ t
    rest = omega (arith, zeros.0)

    before : (j : ℕ) → j < 64 * i + t → (j / 64 < i) ⊎ (i ≤ j / 64) → bit_of words j ≡ 0
    before j less (inl earlier) = empty-word (get_or words (j / 64) 0) (j % 64) (found.2 (j / 64) earlier)
    before j less (inr later) =
        let same : j / 64 ≡ i = omega (arith, later, less, zeros.0) in
        ap (λ (k : ℕ). bit_at (get_or words k 0) (j % 64)) same ∙ zeros.2 (j % 64) (omega (arith, less, same))

-- where no word has one, all bits are clear
pub all-clear : (words : List ℕ) → position (λ w. nat_lt 0 w) words ≡ None → AreAll 0 words
all-clear words e i less =
    empty-word (get_or words (i / 64) 0) (i % 64)
    (none-passes (λ w. nat_lt 0 w) words (i / 64) e (omega (arith, less)))
