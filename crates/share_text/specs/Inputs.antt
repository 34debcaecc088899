-- Which texts ask for something, and for what: composites and readers, as a JSON object.
use Rattle.std.specs.Prelude.{◌≡◌, ℕ, ◌<◌, ◌≤◌, ◌&&◌, nat_le, nat_lt, Bool, if◌then◌else◌, List, [], ◌∷◌, length, codes, Option, Some, None, Result, Ok, Err, All}
use Rattle.std.specs.List.{sum_by}
use Rattle.std.specs.Result.{result_ok}
use Rattle.serde_json.specs.Data.{Data}
use Rattle.serde_json.specs.Find.{get}
use Rattle.trace_text.specs.Items.{◌>>=◌, only_if, array_in, number_in, bytes_in}
use Rattle.trace_text.specs.Options.{has_keys_of}
use Rattle.trace_text.specs.Reading.{text_limit, value_of}
use Rattle.share_text.specs.declared.inputs.Input.{Input}
use Rattle.share_text.specs.declared.inputs.InputNo.{InputNo}
use Rattle.share_text.specs.declared.inputs.InputNo.TheVariants.{Refused, Memory}

-- ---- Limits.

-- the most composites, parts of one, bytes of one, readers, and reads of all readers together
abbrev pub composite_limit : ℕ
composite_limit = 16

abbrev pub part_limit : ℕ
part_limit = 24

abbrev pub byte_limit : ℕ
byte_limit = 2048

abbrev pub reader_limit : ℕ
reader_limit = 16

abbrev pub read_limit : ℕ
read_limit = 4096

-- ---- Arrays.

-- whether there is at least one, and at most so many
abbrev pub is_few : {A : Type 0} → ℕ → List A → Bool
is_few most xs = nat_le 1 (length xs) && nat_le (length xs) most

-- the items of an array of at least one, and at most so many
unfoldable pub few_in : ℕ → Data → Option (List Data)
few_in most d = array_in d >>= only_if (is_few most)

-- what is read of each value, where something is read of all of them
abbrev pub each_of : {A : Type 0} → (Data → Option A) → List Data → Option (List A)
each_of read [] = Some []
each_of read (d ∷ ds) = do
  first ← read d
  rest ← each_of read ds
  Some (first ∷ rest)

-- ---- Composites.

-- the bytes of a part
unfoldable pub part_in : Data → Option (List ℕ)
part_in d = bytes_in d >>= only_if (λ bytes. nat_le (length bytes) byte_limit)

unfoldable pub composite_in : Data → Option (List (List ℕ))
composite_in d = few_in part_limit d >>= each_of part_in

unfoldable pub composites_in : Data → Option (List (List (List ℕ)))
composites_in d = few_in composite_limit d >>= each_of composite_in

-- ---- Readers of so many composites.

-- the number of one of the composites
unfoldable pub read_in : ℕ → Data → Option ℕ
read_in count d = number_in d >>= only_if (λ k. nat_lt k count)

unfoldable pub reads_in : ℕ → Data → Option (List ℕ)
reads_in count d = array_in d >>= each_of (read_in count)

-- the reads of all readers together
abbrev pub read_count : List (List ℕ) → ℕ
read_count readers = sum_by length readers

unfoldable pub readers_in : ℕ → Data → Option (List (List ℕ))
readers_in count d =
    few_in reader_limit d
    >>= each_of (reads_in count)
    >>= only_if (λ readers. nat_le (read_count readers) read_limit)

-- ---- Texts.

abbrev pub input_keys : List (List ℕ)
input_keys = codes "composites" ∷ codes "reads" ∷ []

-- what an object of these two keys and no other asks for, within the limits
unfoldable pub input_in : Data → Option Input
input_in d = do
  object ← only_if (has_keys_of input_keys) d
  composites ← get (codes "composites") object >>= composites_in
  readers ← get (codes "reads") object >>= readers_in (length composites)
  Some (record { composites = composites; readers = readers })

-- what a text asks for; none where it is refused
unfoldable pub input_of : List ℕ → Option Input
input_of text =
    if nat_lt text_limit (length text) then None else (result_ok (value_of text) >>= input_in)

-- the answer is what the text asks for, or refuses a text that asks for nothing, or there was no
-- memory
abbrev pub Answers : Result Input InputNo → List ℕ → Type 0
Answers (Ok input) text = input_of text ≡ Some input
Answers (Err Refused) text = input_of text ≡ None
Answers (Err Memory) text = Unit {0}

-- ---- What every input keeps.

-- at least one, and at most so many
abbrev pub IsFew : {A : Type 0} → ℕ → List A → Type 0
IsFew most xs = (1 ≤ length xs) × (length xs ≤ most)

-- the limits, and that each read is of one of the composites
pub record IsInput (input : Input) : Type 0 where
  pub composites : IsFew composite_limit input.composites
  pub parts : All (IsFew part_limit) input.composites
  pub bytes : All (All (λ part. length part ≤ byte_limit)) input.composites
  pub readers : IsFew reader_limit input.readers
  pub reads : All (All (λ k. k < length input.composites)) input.readers
  pub few_reads : read_count input.readers ≤ read_limit
