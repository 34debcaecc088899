-- Where a table's words lie. They are listed in the order of the objects' homes, then one for the
-- count of each root place. `lies` alone says where a listed word lies. Proofs know of it only that
-- each word of the list has a place of its own among the table's words.
use Rattle.std.specs.Prelude.{◌≡◌, ℕ, ◌+◌, ◌-◌, ◌*◌, ◌/◌, ◌%◌, ◌<◌, nat_lt, cond, List, length, slice_index}
use Rattle.pool_law.specs.declared.run.Shape.{Shape}
use Rattle.pool_law.specs.declared.note.Object.{Object}
use Rattle.pool_law.specs.Homes.{lane_homes, home_of, objects_of}

abbrev pub listed_of : Shape → ℕ
listed_of s = objects_of s + s.lanes * s.handles

-- the words of arenas, caches and bins
abbrev pub single_of : Shape → ℕ
single_of s = s.arenas + s.lanes * lane_homes

-- how far single words lie apart, so that no two of them share a cache line
abbrev pub words_apart : ℕ
words_apart = 16

-- what a lane's root places leave free of the last so many words
abbrev pub padding : Shape → ℕ
padding s = (words_apart - s.handles % words_apart) % words_apart

-- behind the single words those of root places, then those of counts, are packed, each lane's from a
-- multiple of the distance on
abbrev pub lies : Shape → ℕ → ℕ
lies s i =
    cond (nat_lt i (single_of s))
    (i * words_apart)
    (single_of s * words_apart + ((i - single_of s) + (i - single_of s) / s.handles * padding s))

abbrev pub all_words : Shape → ℕ
all_words s = single_of s * words_apart + 2 * s.lanes * (s.handles + padding s)

unfoldable pub word_at : Shape → ℕ → ℕ
word_at s i = lies s i

unfoldable pub words_of : Shape → ℕ
words_of s = all_words s

abbrev pub word_of : Shape → Object → ℕ
word_of s o = word_at s (home_of s o)

abbrev pub count_word_of : Shape → ℕ → ℕ
count_word_of s p = word_at s (objects_of s + p)

-- the words as the table is made: no notes, and every root place vacant
pub record IsOpening (s : Shape) (words : List ℕ) : Type 0 where
  pub many : length words ≡ words_of s
  pub objects : (i : ℕ) → i < objects_of s → slice_index words (word_at s i) ≡ 0
  pub counts : (p : ℕ) → p < s.lanes * s.handles → slice_index words (count_word_of s p) ≡ 1
