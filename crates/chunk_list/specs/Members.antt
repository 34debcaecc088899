-- What a contract sees of one list of chunks.
use Rattle.std.specs.Prelude.{ℕ, List, []}

-- the numbers of its chunks, from its head, and how many chunk places there are
pub record Members : Type 0 where
  pub places : ℕ
  pub numbers : List ℕ

abbrev pub no_members : ℕ → Members
no_members places = record { places = places; numbers = [] }

abbrev pub with_numbers : Members → List ℕ → Members
with_numbers m numbers = record m { numbers = numbers }
