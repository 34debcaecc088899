-- Which texts ask for something, and for what: a capacity and calls, as a JSON object.
use Rattle.std.specs.Prelude.{ℕ, ◌&&◌, nat_le, nat_lt, Bool, if◌then◌else◌, List, [], ◌∷◌, ◌++◌, length, codes, Option, Some, None}
use Rattle.std.specs.List.{sum_by}
use Rattle.std.specs.Result.{result_ok}
use Rattle.std.specs.Str.{bytes_eq}
use Rattle.serde_json.specs.Data.{Data}
use Rattle.serde_json.specs.Find.{as_str, get}
use Rattle.trace_text.specs.Forms.{row_of}
use Rattle.trace_text.specs.Items.{◌>>=◌, only_if, array_in, item_at, number_in, bytes_in}
use Rattle.trace_text.specs.Options.{has_keys_of, number_from}
use Rattle.trace_text.specs.Reading.{text_limit, value_of}
use Rattle.nest_run.specs.declared.calls.Call.{Call}
use Rattle.nest_run.specs.declared.calls.Call.TheVariants.{Slice, Retain, Release, Set, Get}
use Rattle.nest_run.specs.declared.calls.Input.{Input}

-- ---- Limits.

-- the most bytes of a root, the most calls, and the most bytes that all `get`s ask for together
abbrev pub capacity_limit : ℕ
capacity_limit = 4194304

abbrev pub call_limit : ℕ
call_limit = 4096

abbrev pub byte_limit : ℕ
byte_limit = 67108864

-- ---- Calls.

unfoldable pub slice_in : List Data → Option Call
slice_in ds = do
  row ← row_of 4 ds
  of ← number_in (item_at row 1)
  at ← number_in (item_at row 2)
  len ← number_in (item_at row 3)
  Some (Slice of at len)

unfoldable pub retain_in : List Data → Option Call
retain_in ds = do
  row ← row_of 2 ds
  of ← number_in (item_at row 1)
  Some (Retain of)

unfoldable pub release_in : List Data → Option Call
release_in ds = do
  row ← row_of 2 ds
  of ← number_in (item_at row 1)
  Some (Release of)

unfoldable pub set_in : List Data → Option Call
set_in ds = do
  row ← row_of 4 ds
  of ← number_in (item_at row 1)
  at ← number_in (item_at row 2)
  bytes ← bytes_in (item_at row 3)
  Some (Set of at bytes)

unfoldable pub get_in : List Data → Option Call
get_in ds = do
  row ← row_of 4 ds
  of ← number_in (item_at row 1)
  at ← number_in (item_at row 2)
  len ← number_in (item_at row 3)
  Some (Get of at len)

-- the call of this word, from the items of its row
unfoldable pub call_of : List ℕ → List Data → Option Call
call_of word ds =
    if bytes_eq word (codes "slice") then slice_in ds
    else if bytes_eq word (codes "retain") then retain_in ds
    else if bytes_eq word (codes "release") then release_in ds
    else if bytes_eq word (codes "set") then set_in ds
    else if bytes_eq word (codes "get") then get_in ds
    else None

-- the call of a row
unfoldable pub call_in : Data → Option Call
call_in d = do
  row ← array_in d
  word ← as_str (item_at row 0)
  call_of word row

-- the calls behind these once the rows are read too, if each is a call
abbrev pub calls_after : List Call → List Data → Option (List Call)
calls_after front [] = Some front
calls_after front (d ∷ ds) = call_in d >>= (λ c. calls_after (front ++ c ∷ []) ds)

-- the bytes that a call asks to see, and that all of them do
abbrev pub bytes_asked_by : Call → ℕ
bytes_asked_by (Get of at len) = len
bytes_asked_by _ = 0

abbrev pub bytes_asked : List Call → ℕ
bytes_asked calls = sum_by bytes_asked_by calls

-- ---- Texts.

abbrev pub input_keys : List (List ℕ)
input_keys = codes "capacity" ∷ codes "calls" ∷ []

-- what an object of these two keys and no other asks for, within the limits
unfoldable pub input_in : Data → Option Input
input_in d = do
  object ← only_if (has_keys_of input_keys) d
  capacity ← get (codes "capacity") object >>= number_from 0 capacity_limit
  rows ← get (codes "calls") object >>= array_in
  few ← only_if (λ (ds : List Data). nat_le (length ds) call_limit) rows
  read ← calls_after [] few
  calls ← only_if (λ (cs : List Call). nat_le (bytes_asked cs) byte_limit) read
  Some (record { capacity = capacity; calls = calls })

-- what a text asks for; none where it is refused
unfoldable pub input_of : List ℕ → Option Input
input_of text =
    if nat_lt text_limit (length text) then None else (result_ok (value_of text) >>= input_in)
