-- Which rows are commands: the word of each, and its form.
use Rattle.std.specs.Prelude.{ℕ, true, false, List, [], ◌∷◌, codes, find, Option, option_map}
use Rattle.std.specs.Str.{bytes_eq}
use Rattle.serde_json.specs.Data.{Data}
use Rattle.serde_json.specs.Find.{as_str}
use Rattle.pool_law.specs.declared.command.Command.{Command}
use Rattle.pool_law.specs.declared.command.Command.TheVariants as commands
use Rattle.trace_text.specs.declared.words.Word.{Word}
use Rattle.trace_text.specs.declared.words.Word.TheVariants as words
use Rattle.trace_text.specs.Items.{◌>>=◌, array_in, item_at}
use Rattle.trace_text.specs.Names.{Mentions}
use Rattle.trace_text.specs.Forms.{Read, set_of, get_of, write_of, slice_of, compose_of, one_name_in, two_names_in, name_and_number_in, name_and_lane_in}

abbrev pub text_of : Word → List ℕ
text_of words.Alloc = codes "alloc"
text_of words.Set = codes "set"
text_of words.TrySet = codes "tryset"
text_of words.Get = codes "get"
text_of words.TryGet = codes "tryget"
text_of words.Write = codes "write"
text_of words.Read = codes "read"
text_of words.Slice = codes "slice"
text_of words.RetainedSlice = codes "rslice"
text_of words.Dup = codes "dup"
text_of words.Retain = codes "retain"
text_of words.Release = codes "release"
text_of words.Refcnt = codes "refcnt"
text_of words.Touch = codes "touch"
text_of words.Forget = codes "forget"
text_of words.Send = codes "send"
text_of words.Recv = codes "recv"
text_of words.Compose = codes "compose"
text_of words.Add = codes "add"
text_of words.Capacity = codes "capacity"

abbrev pub all_words : List Word
all_words =
    words.Alloc ∷ words.Set ∷ words.TrySet ∷ words.Get ∷ words.TryGet ∷ words.Write ∷ words.Read
    ∷ words.Slice ∷ words.RetainedSlice ∷ words.Dup ∷ words.Retain ∷ words.Release ∷ words.Refcnt
    ∷ words.Touch ∷ words.Forget ∷ words.Send ∷ words.Recv ∷ words.Compose ∷ words.Add
    ∷ words.Capacity ∷ []

-- the word of this text
unfoldable pub word_of : List ℕ → Option Word
word_of text = find (λ word. bytes_eq (text_of word) text) all_words

-- what was read, as a command
abbrev pub read_as : {A : Type 0} → (A → Command) → Read A → Read Command
read_as command = option_map (λ p. (command p.0, p.1))

-- the command of a word, from the items of its row, where there are so many lanes
unfoldable pub form_of : Word → ℕ → Mentions → List Data → Read Command
form_of words.Alloc lanes names ds =
    read_as (λ p. commands.Alloc p.0 p.1) (name_and_number_in names ds)
form_of words.Set lanes names ds = set_of false names ds
form_of words.TrySet lanes names ds = set_of true names ds
form_of words.Get lanes names ds = get_of false names ds
form_of words.TryGet lanes names ds = get_of true names ds
form_of words.Write lanes names ds = write_of names ds
form_of words.Read lanes names ds =
    read_as (λ p. commands.Read p.0 p.1) (name_and_number_in names ds)
form_of words.Slice lanes names ds = slice_of false names ds
form_of words.RetainedSlice lanes names ds = slice_of true names ds
form_of words.Dup lanes names ds = read_as (λ p. commands.Dup p.0 p.1) (two_names_in names ds)
form_of words.Retain lanes names ds = read_as commands.Retain (one_name_in names ds)
form_of words.Release lanes names ds = read_as commands.Release (one_name_in names ds)
form_of words.Refcnt lanes names ds = read_as commands.Refcnt (one_name_in names ds)
form_of words.Touch lanes names ds = read_as commands.Touch (one_name_in names ds)
form_of words.Forget lanes names ds = read_as commands.Forget (one_name_in names ds)
form_of words.Send lanes names ds =
    read_as (λ p. commands.Send p.0 p.1) (name_and_lane_in lanes names ds)
form_of words.Recv lanes names ds =
    read_as (λ p. commands.Recv p.0 p.1) (name_and_lane_in lanes names ds)
form_of words.Compose lanes names ds = compose_of names ds
form_of words.Add lanes names ds = read_as (λ p. commands.Add p.0 p.1) (two_names_in names ds)
form_of words.Capacity lanes names ds =
    read_as (λ p. commands.Capacity p.0 p.1) (name_and_number_in names ds)

-- the command of a row
unfoldable pub command_in : ℕ → Mentions → Data → Read Command
command_in lanes names d = do
  row ← array_in d
  text ← as_str (item_at row 0)
  word ← word_of text
  form_of word lanes names row
