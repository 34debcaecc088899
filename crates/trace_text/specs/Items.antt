-- The items of a command: names, numbers, lanes and bytes.
use Rattle.std.specs.Prelude.{ℕ, ◌^◌, ◌==◌, ◌&&◌, ◌||◌, nat_le, nat_lt, Bool, if◌then◌else◌, List, [], ◌∷◌, length, slice_index_or, Option, Some, None, option_map, option_and_then}
use Rattle.std.specs.List.{list_all}
use Rattle.std.specs.Result.{result_ok}
use Rattle.hex.specs.Hex.{decode_of}
use Rattle.serde_json.specs.Data.{Data, null, Items, no_items, item}
use Rattle.serde_json.specs.Find.{as_array, as_str, as_number, as_u64}

-- what follows a step that gave something
infixl 10 ◌>>=◌
abbrev pub ◌>>=◌ : {A B : Type 0} → Option A → (A → Option B) → Option B
o >>= f = option_and_then f o

-- what passes the test
abbrev pub only_if : {A : Type 0} → (A → Bool) → A → Option A
only_if test a = if test a then Some a else None

-- ---- Arrays.

-- the items of an array as a list
abbrev pub listed : Items → List Data
listed no_items = []
listed (item d ds) = d ∷ listed ds

abbrev pub array_in : Data → Option (List Data)
array_in d = option_map listed (as_array d)

abbrev pub item_at : List Data → ℕ → Data
item_at ds i = slice_index_or ds i null

-- ---- Items.

-- `a` to `z`, `0` to `9` and `_`
abbrev pub is_name_byte : ℕ → Bool
is_name_byte c = (nat_le 97 c && nat_le c 122) || (nat_le 48 c && nat_le c 57) || (c == 95)

-- 1 to 32 of these
abbrev pub is_name : List ℕ → Bool
is_name text = nat_le 1 (length text) && nat_le (length text) 32 && list_all is_name_byte text

unfoldable pub name_in : Data → Option (List ℕ)
name_in d = as_str d >>= only_if is_name

-- an unsigned number of at most 32 bits
unfoldable pub number_in : Data → Option ℕ
number_in d = as_number d >>= as_u64 >>= only_if (λ n. nat_lt n (2 ^ 32))

-- the number of one of so many lanes
unfoldable pub lane_number_in : ℕ → Data → Option ℕ
lane_number_in lanes d = number_in d >>= only_if (λ n. nat_lt n lanes)

-- bytes in hexadecimal
unfoldable pub bytes_in : Data → Option (List ℕ)
bytes_in d = as_str d >>= (λ text. result_ok (decode_of text))
