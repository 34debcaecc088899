-- The text of an input: a line for each read, one for each composite, and the last.
use Rattle.std.specs.Prelude.{ℕ, ◌+◌, List, [], ◌∷◌, ◌++◌, codes, decimal, length, map, slice_index_or}
use Rattle.std.specs.List.{concat}
use Rattle.pool_law.specs.Text.{Text, dotted, line, shown_bytes}
use Rattle.share_text.specs.declared.inputs.Input.{Input}
use Rattle.share_text.specs.declared.lines.Seen.{Seen}

-- ---- Lines.

-- of this reader's read of this number
abbrev pub read_line : ℕ → ℕ → Seen → Text
read_line reader number seen =
    line (dotted reader number ∷ decimal seen.composite ∷ shown_bytes seen.bytes ∷ [])

-- of this reader's reads, the first of which has this number
abbrev pub reader_lines : ℕ → ℕ → List Seen → Text
reader_lines reader number [] = []
reader_lines reader number (s ∷ ss) =
    read_line reader number s ++ reader_lines reader (number + 1) ss

-- of the readers' reads; the first reader has this number
abbrev pub all_lines : ℕ → List (List Seen) → Text
all_lines reader [] = []
all_lines reader (r ∷ rs) = reader_lines reader 0 r ++ all_lines (reader + 1) rs

-- of this composite, so many of whose parts were released
abbrev pub composite_line : ℕ → ℕ → Text
composite_line number parts =
    line (codes "composite" ∷ decimal number ∷ codes "released" ∷ decimal parts ∷ [])

-- of the composites; the first has this number
abbrev pub composite_lines : ℕ → List ℕ → Text
composite_lines number [] = []
composite_lines number (parts ∷ rest) =
    composite_line number parts ++ composite_lines (number + 1) rest

-- after which nothing is live
abbrev pub last_line : Text
last_line = line (codes "end" ∷ codes "live" ∷ decimal 0 ∷ [])

-- what comes behind the reads, where so many parts of each composite were released
abbrev pub end_lines : List ℕ → Text
end_lines released = composite_lines 0 released ++ last_line

-- the text of what the readers saw, where so many parts of each composite were released
abbrev pub text_with : List (List Seen) → List ℕ → Text
text_with seen released = all_lines 0 seen ++ end_lines released

-- ---- What an input's readers see, and its text.

-- a read of a composite sees the bytes of its parts, one part after another
abbrev pub seen_of : List (List (List ℕ)) → ℕ → Seen
seen_of composites k =
    record { composite = k; bytes = concat (slice_index_or composites k []) }

-- what each reader sees, in the order of its reads
abbrev pub seen_in : Input → List (List Seen)
seen_in input = map (map (seen_of input.composites)) input.readers

-- the text of an input: each part of each composite is released
abbrev pub text_of : Input → Text
text_of input = text_with (seen_in input) (map length input.composites)
