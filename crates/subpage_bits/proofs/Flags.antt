-- Flags that follow the elements of a rack.
use Rattle.std.proofs.Common.{◌≡◌, ℕ, zero, suc, ◌+◌, ◌<◌, ◌≤◌, Bool, true, false, not, List, [], ◌∷◌, length, drop, get_or, refl, sym, ap, ◌∙◌, subst, arith, eq-eqb, ne_eqb}
use Rattle.std.specs.Prelude.{map, position, nat_lt, if◌then◌else◌, Option, Some, None, slice_set, replicate}
use Rattle.std.specs.List.{list_all, position_or_len}
use Rattle.std.proofs.lemmas.Bool.{ltb-false}
use Rattle.std.proofs.lemmas.List.Quantifiers.{position-Some}
use Rattle.ground.specs.Rack.{Cell, cells_of, with_cell, HasCell, AllIn}
use Rattle.size_classes.specs.Elements.{next_element, is_full}
pub use Rattle.size_classes.proofs.ElementLaws.{IsOutAt, out_within}
use Rattle.ground.specs.Ground.{Segment}
use Rattle.std.specs.Prelude.{◌≢◌, ◌==◌, ◌*◌, ◌/◌, ◌%◌, MatchOption}
use Rattle.std.specs.Int.{bit_at}
use Rattle.std.proofs.lemmas.Nat.Bits.{bit_at-zero}
use Rattle.std.proofs.lemmas.List.{length-set, get_or-set_same, get_or-set_other}
use Rattle.std.proofs.lemmas.Bool.{cases_lt, cases_eq, lt-ltb, le-ltb}
use Rattle.std.proofs.lemmas.List.Sums.{prefix_len_is}
use Rattle.size_classes.proofs.ElementLaws.{now_out, still_out, others_out}
use Rattle.subpage_bits.specs.Elements.{SharedRun, taken, given, IsElementOf, IsElementOut, KeepsOut, KeepsOutBut}
use Rattle.bit_words.specs.Words.{bit_of, AreAll, IsLowestClear, ChangesBit}
use Rattle.subpage_bits.specs.Kept.{cell_out, IsIn, RemembersIn, outs, bit, AreBits}
use mathlib.Core.Logic.{inl, inr, ◌⊎◌}

pub flags_out : (i : ℕ) (cs : List Cell) → slice_set (map cell_out cs) i true ≡ map cell_out (with_cell i None cs)
flags_out i [] = refl
flags_out zero (c ∷ cs) = refl
flags_out (suc i) (c ∷ cs) = ap (λ (l : List Bool). cell_out c ∷ l) (flags_out i cs)

pub flags_in : (i : ℕ) (b : List ℕ) (cs : List Cell)
    → slice_set (map cell_out cs) i false ≡ map cell_out (with_cell i (Some b) cs)
flags_in i b [] = refl
flags_in zero b (c ∷ cs) = refl
flags_in (suc i) b (c ∷ cs) = ap (λ (l : List Bool). cell_out c ∷ l) (flags_in i b cs)

pub out_cell : (i : ℕ) (cs : List Cell) → IsOutAt i (map cell_out cs) → HasCell i None cs
out_cell i [] h = absurd (cc h)
out_cell zero (None ∷ cs) h = refl
out_cell zero (Some b ∷ cs) h = absurd (cc h)
out_cell (suc i) (c ∷ cs) h = out_cell i cs h

pub in_cell : (i : ℕ) (cs : List Cell) → IsIn i cs → (bs : List ℕ) × HasCell i (Some bs) cs
in_cell i [] h = absurd h
in_cell zero (None ∷ cs) h = absurd h
in_cell zero (Some b ∷ cs) h = (b, refl)
in_cell (suc i) (c ∷ cs) h = in_cell i cs h

pub now_in : (i : ℕ) (b : List ℕ) (cs : List Cell) → i < length cs → IsIn i (with_cell i (Some b) cs)
now_in i b [] h = absurd (omega arith)
now_in zero b (c ∷ cs) h = tt
now_in (suc i) b (c ∷ cs) h = now_in i b cs (omega (arith, h))

pub in_within : (i : ℕ) (cs : List Cell) → IsIn i cs → i < length cs
in_within i [] h = absurd h
in_within zero (None ∷ cs) h = absurd h
in_within zero (Some b ∷ cs) h = omega arith
in_within (suc i) (c ∷ cs) h = omega (arith, in_within i cs h)

is_in : (i : ℕ) (cs : List Cell) (d : Bool) → i < length cs → not (get_or (map cell_out cs) i d) ≡ true → IsIn i cs
is_in i [] d h e = absurd (omega arith)
is_in zero (None ∷ cs) d h e = absurd (cc)
is_in zero (Some b ∷ cs) d h e = tt
is_in (suc i) (c ∷ cs) d h e = is_in i cs d (omega (arith, h)) e

pub length-flags : (cs : List Cell) → length (map cell_out cs) ≡ length cs
length-flags [] = refl
length-flags (c ∷ cs) = ap suc (length-flags cs)

-- what is handed out next is in
pub next_in : (o : Option ℕ) (i : ℕ) (cs : List Cell) → RemembersIn o cs
    → next_element (record { out = map cell_out cs; remembered = o }) ≡ Some i → IsIn i cs
next_in (Some last) i cs h e = let P : ℕ → Type 0 = λ k. IsIn k cs in let same : last ≡ i = cc e in subst P same h
next_in None i cs h e =
    let found = position-Some not (map cell_out cs) i true e in
    is_in i cs true (omega (arith, found.0, length-flags cs)) found.1

pub flags_new : (n k : ℕ) (bs : List ℕ) → map cell_out (cells_of n k bs) ≡ replicate k false
flags_new n zero bs = refl
flags_new n (suc k) bs = ap (λ (l : List Bool). false ∷ l) (flags_new n k (drop n bs))

pub none_out_in : (cs : List Cell) → list_all not (map cell_out cs) ≡ true → AllIn cs
none_out_in [] h = tt
none_out_in (None ∷ cs) h = absurd (cc)
none_out_in (Some b ∷ cs) h = none_out_in cs h

pub length-with : (i : ℕ) (c : Cell) (cs : List Cell) → length (with_cell i c cs) ≡ length cs
length-with i c [] = refl
length-with zero c (d ∷ cs) = refl
length-with (suc i) c (d ∷ cs) = ap suc (length-with i c cs)

pub length-cells : (n k : ℕ) (bs : List ℕ) → length (cells_of n k bs) ≡ k
length-cells n zero bs = refl
length-cells n (suc k) bs = ap suc (length-cells n k (drop n bs))

-- ---- full

out_past : (out : List Bool) → length out ≤ position_or_len not out → list_all (λ o. o) out ≡ true
out_past [] h = refl
out_past (true ∷ out) h = out_past out (omega (arith, h))
out_past (false ∷ out) h = absurd (omega (arith, h))

-- where no element is in, all are out
none_free : (out : List Bool) → position not out ≡ None → list_all (λ o. o) out ≡ true
none_free out e = by (nat_lt (position_or_len not out) (length out)) refl e
  where
    by : (b : Bool) → nat_lt (position_or_len not out) (length out) ≡ b
        → (if b then Some (position_or_len not out) else None) ≡ None → list_all (λ o. o) out ≡ true
    by true is e = absurd (cc e)
    by false is e = out_past out (ltb-false (position_or_len not out) (length out) is)

-- where an element is in, not all are out
not_all_out : (i : ℕ) (cs : List Cell) → IsIn i cs → list_all (λ o. o) (map cell_out cs) ≡ false
not_all_out i [] h = absurd h
not_all_out zero (None ∷ cs) h = absurd h
not_all_out zero (Some b ∷ cs) h = refl
not_all_out (suc i) (None ∷ cs) h = not_all_out i cs h
not_all_out (suc i) (Some b ∷ cs) h = refl

pub none_next : (o : Option ℕ) (cs : List Cell) → next_element (record { out = map cell_out cs; remembered = o }) ≡ None
    →
    is_full (record { out = map cell_out cs; remembered = o }) ≡ true
none_next (Some last) cs e = absurd (cc e)
none_next None cs e = none_free (map cell_out cs) e

pub some_next : (o : Option ℕ) (i : ℕ) (cs : List Cell) → RemembersIn o cs
    → next_element (record { out = map cell_out cs; remembered = o }) ≡ Some i →
    is_full (record { out = map cell_out cs; remembered = o }) ≡ false
some_next o i cs h e = not_all_out i cs (next_in o i cs h e)

-- ---- counted

-- no more are out than there are
pub outs-most : (cs : List Cell) → outs cs ≤ length cs
outs-most [] = omega arith
outs-most (None ∷ cs) = omega (arith, outs-most cs)
outs-most (Some b ∷ cs) = omega (arith, outs-most cs)

-- one more once one is handed out
pub outs-taken : (i : ℕ) (cs : List Cell) → IsIn i cs → outs (with_cell i None cs) ≡ outs cs + 1
outs-taken i [] h = absurd h
outs-taken zero (None ∷ cs) h = absurd h
outs-taken zero (Some b ∷ cs) h = refl
outs-taken (suc i) (None ∷ cs) h = ap (λ (n : ℕ). n + 1) (outs-taken i cs h)
outs-taken (suc i) (Some b ∷ cs) h = outs-taken i cs h

-- and one less once one is back
pub outs-given : (i : ℕ) (b : List ℕ) (cs : List Cell) → HasCell i None cs
    → outs (with_cell i (Some b) cs) + 1 ≡ outs cs
outs-given i b [] h = absurd h
outs-given zero b (None ∷ cs) h = refl
outs-given zero b (Some d ∷ cs) h = absurd (cc h)
outs-given (suc i) b (None ∷ cs) h = ap (λ (n : ℕ). n + 1) (outs-given i b cs h)
outs-given (suc i) b (Some d ∷ cs) h = outs-given i b cs h

-- none at first
pub outs-new : (n k : ℕ) (bs : List ℕ) → outs (cells_of n k bs) ≡ 0
outs-new n zero bs = refl
outs-new n (suc k) bs = outs-new n k (drop n bs)

-- as many as there are exactly where all are out
all-counted : (cs : List Cell) (b : Bool) → list_all (λ o. o) (map cell_out cs) ≡ b → (outs cs == length cs) ≡ b
all-counted cs true e = eq-eqb (outs cs) (length cs) (all cs e)
  where
    all : (cs : List Cell) → list_all (λ o. o) (map cell_out cs) ≡ true → outs cs ≡ length cs
    all [] h = refl
    all (None ∷ cs) h = omega (arith, all cs h)
    all (Some b ∷ cs) h = absurd (cc h)
all-counted cs false e = ne_eqb (outs cs) (length cs) (λ same. omega (arith, less cs e, same))
  where
    less : (cs : List Cell) → list_all (λ o. o) (map cell_out cs) ≡ false → outs cs < length cs
    less [] h = absurd (cc h)
    less (None ∷ cs) h = omega (arith, less cs h)
    less (Some b ∷ cs) h = omega (arith, outs-most cs)

pub full-counted : (cs : List Cell) → (outs cs == length cs) ≡ list_all (λ o. o) (map cell_out cs)
full-counted cs = all-counted cs (list_all (λ o. o) (map cell_out cs)) refl

-- and none exactly where all are in
none-counted : (cs : List Cell) (b : Bool) → list_all not (map cell_out cs) ≡ b → (outs cs == 0) ≡ b
none-counted cs true e = eq-eqb (outs cs) 0 (none cs e)
  where
    none : (cs : List Cell) → list_all not (map cell_out cs) ≡ true → outs cs ≡ 0
    none [] h = refl
    none (None ∷ cs) h = absurd (cc h)
    none (Some b ∷ cs) h = none cs h
none-counted cs false e = ne_eqb (outs cs) 0 (λ same. omega (arith, some cs e, same))
  where
    some : (cs : List Cell) → list_all not (map cell_out cs) ≡ false → 0 < outs cs
    some [] h = absurd (cc h)
    some (None ∷ cs) h = omega arith
    some (Some b ∷ cs) h = some cs h

pub idle-counted : (cs : List Cell) → (outs cs == 0) ≡ list_all not (map cell_out cs)
idle-counted cs = none-counted cs (list_all not (map cell_out cs)) refl

-- ---- by bits

bit-set : (b : Bool) → bit b ≡ 1 → b ≡ true
bit-set true e = refl
bit-set false e = absurd (cc e)

bit-clear : (b : Bool) → bit b ≡ 0 → b ≡ false
bit-clear true e = absurd (cc e)
bit-clear false e = refl

-- the bits follow a flag that changes
pub AreBits-changed : (old new : List ℕ) (flags : List Bool) (i : ℕ) (b : Bool) → AreBits old flags →
    ChangesBit i (bit b) old new → i < length flags → AreBits new (slice_set flags i b)
AreBits-changed old new flags i b bits change there j less =
    let within : j < length flags = omega (arith, less, length-set flags i b) in
    by within (cases_eq j i)
  where
    by : j < length flags → (j ≡ i) ⊎ (j ≡ i → ⊥) → bit_of new j ≡ bit (get_or (slice_set flags i b) j false)
    by within (inl same) =
        ap (bit_of new) same ∙ change.changed
        ∙ ap bit (sym (ap (λ (k : ℕ). get_or (slice_set flags i b) k false) same
        ∙ get_or-set_same flags i b false there))
    by within (inr differ) =
        change.others j differ ∙ bits j within ∙ ap bit (sym (get_or-set_other flags i j b false differ))

-- where all bits of the elements are set, all are out
out-by-bits : (words : List ℕ) (cs : List Cell) → AreBits words (map cell_out cs) →
    ((i : ℕ) → i < length cs → bit_of words i ≡ 1) → outs cs ≡ length cs
out-by-bits words cs bits set =
    all cs (λ i less.
    bit-set (get_or (map cell_out cs) i false)
    (sym (bits i (omega (arith, less, length-flags cs))) ∙ set i less))
  where
    all : (cs : List Cell) → ((i : ℕ) → i < length cs → get_or (map cell_out cs) i false ≡ true) → outs cs ≡ length cs
    all [] h = refl
    all (None ∷ cs) h = omega (arith, all cs (λ i less. h (suc i) (omega (arith, less))))
    all (Some b ∷ cs) h = absurd (cc (h 0 (omega arith)))

-- the first flag that is clear
first-in : (flags : List Bool) (i : ℕ) → i < length flags → get_or flags i false ≡ false →
    ((j : ℕ) → j < i → get_or flags j false ≡ true) → position not flags ≡ Some i
first-in flags i there here before =
    let at : position_or_len not flags ≡ i =
    prefix_len_is (λ x. not (not x)) flags i false (omega (arith, there)) (λ j less. rw (before j less) refl)
    (λ _. rw here refl) in
    rw (at, lt-ltb i (length flags) there) refl

-- where not all are out, the lowest clear bit is the lowest element that is in
pub chosen-lowest : (o : Option ℕ) (words : List ℕ) (cs : List Cell) → AreBits words (map cell_out cs) →
    outs cs ≢ length cs → length cs ≤ 64 * length words →
    MatchOption o (AreAll 1 words) (IsLowestClear words) → o ≡ position not (map cell_out cs)
chosen-lowest None words cs bits some few set =
    absurd (some (out-by-bits words cs bits (λ i less. set i (omega (arith, less, few)))))
chosen-lowest (Some i) words cs bits some few lowest = by (cases_lt i (length cs))
  where
    by : (i < length cs) ⊎ (length cs ≤ i) → Some i ≡ position not (map cell_out cs)
    by (inl there) =
        sym (first-in (map cell_out cs) i (omega (arith, there, length-flags cs))
        (bit-clear (get_or (map cell_out cs) i false)
        (sym (bits i (omega (arith, there, length-flags cs))) ∙ lowest.clear))
        (λ j less. bit-set (get_or (map cell_out cs) j false)
        (sym (bits j (omega (arith, less, there, length-flags cs))) ∙ lowest.below j less)))
    by (inr past) = absurd (some (out-by-bits words cs bits (λ j less. lowest.below j (omega (arith, less, past)))))

-- where all are out, none is in
all-true : (flags : List Bool) → list_all (λ o. o) flags ≡ true → (j : ℕ) → j < length flags
    → get_or flags j false ≡ true
all-true [] h j less = absurd (omega (arith, less))
all-true (true ∷ flags) h zero less = refl
all-true (true ∷ flags) h (suc j) less = all-true flags h j (omega (arith, less))
all-true (false ∷ flags) h j less = absurd (cc h)

pub full-none : (flags : List Bool) → list_all (λ o. o) flags ≡ true → position not flags ≡ None
full-none flags full =
    let at : position_or_len not flags ≡ length flags =
    prefix_len_is (λ x. not (not x)) flags (length flags) false (omega arith)
    (λ j less. rw (all-true flags full j less) refl) (λ h. absurd (omega (arith, h))) in
    rw (at, le-ltb (length flags) (length flags) (omega arith)) refl

-- bits and flags at first
pub zero-bits : (n i : ℕ) → bit_of (replicate n 0) i ≡ 0
zero-bits n i = ap (λ (w : ℕ). bit_at w (i % 64)) (zeros n (i / 64)) ∙ bit_at-zero (i % 64)
  where
    zeros : (n k : ℕ) → get_or {A = ℕ} (replicate n 0) k 0 ≡ 0
    zeros zero k = refl
    zeros (suc n) zero = refl
    zeros (suc n) (suc k) = zeros n k

pub clear-flags : (n i : ℕ) → get_or (replicate n false) i false ≡ false
clear-flags zero i = refl
clear-flags (suc n) zero = refl
clear-flags (suc n) (suc i) = clear-flags n i

-- ---- what is out stays out

pub KeepsOut-taken : (r : SharedRun) (i : ℕ) → KeepsOut r (taken r i)
KeepsOut-taken r i k s h = record {
  element = record { origin = h.element.origin; start = h.element.start; size = h.element.size };
  out = still_out i k r.elements.out h.out;
}

pub KeepsOut-given : (r : SharedRun) (i : ℕ) → KeepsOutBut i r (given r i)
KeepsOut-given r i k s ne h = record {
  element = record { origin = h.element.origin; start = h.element.start; size = h.element.size };
  out = others_out i k r.elements.out ne h.out;
}

-- and what is handed out may be given back
pub out-taken : (r : SharedRun) (i : ℕ) (s : Segment) → i < length r.elements.out → IsElementOf r i s →
    IsElementOut (taken r i) i s
out-taken r i s there h = record {
  element = record { origin = h.origin; start = h.start; size = h.size };
  out = now_out i r.elements.out there;
}
