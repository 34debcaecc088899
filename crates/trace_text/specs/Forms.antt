-- The form of each command: the items of its row, and what they are.
use Rattle.std.specs.Prelude.{ℕ, ◌==◌, ◌&&◌, nat_le, Bool, List, [], ◌∷◌, length, drop, Option, Some}
use Rattle.serde_json.specs.Data.{Data}
use Rattle.pool_law.specs.declared.command.Command.{Command}
use Rattle.pool_law.specs.declared.command.Command.TheVariants as commands
use Rattle.trace_text.specs.Items.{◌>>=◌, only_if, item_at, name_in, number_in, lane_number_in, bytes_in}
use Rattle.trace_text.specs.Names.{Mentions, number_of, with_name}

-- what a row gives, with the names that were mentioned up to and with it
abbrev pub Read : Type 0 → Type 0
Read A = Option (A × Mentions)

-- a row of so many items
abbrev pub row_of : ℕ → List Data → Option (List Data)
row_of count = only_if (λ (ds : List Data). length ds == count)

-- a row of at least so many items, and at most so many
abbrev pub row_between : ℕ → ℕ → List Data → Option (List Data)
row_between least most =
    only_if (λ (ds : List Data). nat_le least (length ds) && nat_le (length ds) most)

-- the number of the name that is mentioned next
abbrev pub mentioned : Mentions → List ℕ → Read ℕ
mentioned names name = Some (number_of names name, with_name names name)

-- the numbers of the names that are mentioned next, one after the other
abbrev pub numbers_in : Mentions → List Data → Read (List ℕ)
numbers_in names [] = Some ([], names)
numbers_in names (d ∷ ds) = do
  name ← name_in d
  a ← mentioned names name
  rest ← numbers_in a.1 ds
  Some (a.0 ∷ rest.0, rest.1)

-- ---- Items that several commands have: a name; two names; a name and a number; a name and a lane.

unfoldable pub one_name_in : Mentions → List Data → Read ℕ
one_name_in names ds = do
  row ← row_of 2 ds
  name ← name_in (item_at row 1)
  mentioned names name

unfoldable pub two_names_in : Mentions → List Data → Read (ℕ × ℕ)
two_names_in names ds = do
  row ← row_of 3 ds
  first ← name_in (item_at row 1)
  second ← name_in (item_at row 2)
  a ← mentioned names first
  b ← mentioned a.1 second
  Some ((a.0, b.0), b.1)

unfoldable pub name_and_number_in : Mentions → List Data → Read (ℕ × ℕ)
name_and_number_in names ds = do
  row ← row_of 3 ds
  name ← name_in (item_at row 1)
  number ← number_in (item_at row 2)
  a ← mentioned names name
  Some ((a.0, number), a.1)

unfoldable pub name_and_lane_in : ℕ → Mentions → List Data → Read (ℕ × ℕ)
name_and_lane_in lanes names ds = do
  row ← row_of 3 ds
  name ← name_in (item_at row 1)
  lane ← lane_number_in lanes (item_at row 2)
  a ← mentioned names name
  Some ((a.0, lane), a.1)

-- ---- Commands.

-- `["set", v, i, hex]`, and `tryset`
unfoldable pub set_of : Bool → Mentions → List Data → Read Command
set_of tries names ds = do
  row ← row_of 4 ds
  name ← name_in (item_at row 1)
  at ← number_in (item_at row 2)
  bytes ← bytes_in (item_at row 3)
  a ← mentioned names name
  Some (commands.Set a.0 at bytes tries, a.1)

-- `["get", v, i, n]`, and `tryget`
unfoldable pub get_of : Bool → Mentions → List Data → Read Command
get_of tries names ds = do
  row ← row_of 4 ds
  name ← name_in (item_at row 1)
  at ← number_in (item_at row 2)
  len ← number_in (item_at row 3)
  a ← mentioned names name
  Some (commands.Get a.0 at len tries, a.1)

-- `["write", v, hex]`
unfoldable pub write_of : Mentions → List Data → Read Command
write_of names ds = do
  row ← row_of 3 ds
  name ← name_in (item_at row 1)
  bytes ← bytes_in (item_at row 2)
  a ← mentioned names name
  Some (commands.Write a.0 bytes, a.1)

-- `["slice", new, v, i, n]`, and `rslice`
unfoldable pub slice_of : Bool → Mentions → List Data → Read Command
slice_of retained names ds = do
  row ← row_of 5 ds
  new ← name_in (item_at row 1)
  name ← name_in (item_at row 2)
  at ← number_in (item_at row 3)
  len ← number_in (item_at row 4)
  a ← mentioned names new
  b ← mentioned a.1 name
  Some (commands.Slice a.0 b.0 at len retained, b.1)

-- `["compose", new, v, ..]` with 1 to 24 names `v`
unfoldable pub compose_of : Mentions → List Data → Read Command
compose_of names ds = do
  row ← row_between 3 26 ds
  new ← name_in (item_at row 1)
  a ← mentioned names new
  b ← numbers_in a.1 (drop 2 row)
  Some (commands.Compose a.0 b.0, b.1)
