-- Places of a chunk as words of 64 bits. From the top: the first page in 15 bits, the pages in 15,
-- a bit for in use, a bit for an element of a subpage, and the number of the element in 32.
use Rattle.std.specs.Prelude.{ℕ, ◌+◌, ◌*◌, ◌^◌, ◌<◌, Bool, true, false}

abbrev pub bit_of : Bool → ℕ
bit_of false = 0
bit_of true = 1

-- the word of these fields
abbrev pub place_word : ℕ → ℕ → Bool → Bool → ℕ → ℕ
place_word page pages used sub index =
    page * 2 ^ 49 + pages * 2 ^ 34 + bit_of used * 2 ^ 33 + bit_of sub * 2 ^ 32 + index

-- the fields have room in a word
pub record AreFields (page pages index : ℕ) : Type 0 where
  pub page_fits : page < 2 ^ 15
  pub pages_fit : pages < 2 ^ 15
  pub index_fits : index < 2 ^ 32

-- the word of a run that is in use as a whole
abbrev pub run_word : ℕ → ℕ → ℕ
run_word page pages = place_word page pages true false 0

-- the word of an element of a subpage
abbrev pub element_word : ℕ → ℕ → ℕ → ℕ
element_word page pages element = place_word page pages true true element
