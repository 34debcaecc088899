-- What a trace of version 2 asks of the pool.
use Rattle.std.specs.Prelude.{ℕ, ◌==◌, ◌&&◌, ◌||◌, nat_le, ◌≤◌, Bool, false, List, [], ◌∷◌, codes, find, Option, Some, None, IfSome, option_map, unwrap_or, Result, Ok}
use Rattle.std.specs.List.{list_all, list_any}
use Rattle.std.specs.Option.{option_map_or, ok_or}
use Rattle.std.specs.Str.{bytes_eq}
use Rattle.serde_json.specs.Data.{Data, Members, no_members, member}
use Rattle.serde_json.specs.Find.{as_number, as_object, as_str, as_u64, get}
use Rattle.size_classes.specs.Sizes.{IsPage}
use Rattle.pool_law.specs.declared.run.Level.{Level}
use Rattle.pool_law.specs.declared.run.Level.TheVariants.{Disabled, Simple, Advanced, Paranoid}
use Rattle.pool_law.specs.declared.run.Options.{Options}
use Rattle.trace_text.specs.declared.TraceNo.{TraceNo}
use Rattle.trace_text.specs.declared.TraceNo.TheVariants as refusals
use Rattle.trace_text.specs.Items.{◌>>=◌, only_if}

-- ---- Levels.

-- the word of a level
abbrev pub level_word : Level → List ℕ
level_word Disabled = codes "disabled"
level_word Simple = codes "simple"
level_word Advanced = codes "advanced"
level_word Paranoid = codes "paranoid"

-- all levels
abbrev pub levels : List Level
levels = Disabled ∷ Simple ∷ Advanced ∷ Paranoid ∷ []

-- the level that a word names
unfoldable pub level_named : List ℕ → Option Level
level_named word = find (λ l. bytes_eq (level_word l) word) levels

-- ---- The forms of values.

-- a number from the least to the greatest
unfoldable pub number_from : ℕ → ℕ → Data → Option ℕ
number_from least greatest d =
    as_number d >>= as_u64 >>= only_if (λ n. nat_le least n && nat_le n greatest)

-- the bytes of a page
abbrev pub is_page : ℕ → Bool
is_page bytes = (bytes == 4096) || (bytes == 8192) || (bytes == 16384) || (bytes == 32768)

unfoldable pub page_from : Data → Option ℕ
page_from d = as_number d >>= as_u64 >>= only_if is_page

unfoldable pub level_from : Data → Option Level
level_from d = as_str d >>= level_named

-- ---- Objects.

-- the keys of the members
abbrev pub keys_of : Members → List (List ℕ)
keys_of no_members = []
keys_of (member key d ms) = key ∷ keys_of ms

-- it is an object, and all its keys are among these
unfoldable pub has_keys_of : List (List ℕ) → Data → Bool
has_keys_of known d =
    option_map_or (λ ms. list_all (λ key. list_any (bytes_eq key) known) (keys_of ms))
    (as_object d) false

-- the value at a key by its form, and nothing where there is none; none where it has another form
abbrev pub may_be : {A : Type 0} → (Data → Option A) → Option Data → Option (Option A)
may_be form None = Some None
may_be form (Some d) = option_map Some (form d)

-- ---- Options.

abbrev pub option_keys : List (List ℕ)
option_keys =
    codes "page"
    ∷ codes "order"
    ∷ codes "arenas"
    ∷ codes "chunks"
    ∷ codes "handles"
    ∷ codes "level"
    ∷ codes "interval"
    ∷ []

-- the options of an object of these keys, each with its range
unfoldable pub options_from : Data → Option Options
options_from d = do
  object ← only_if (has_keys_of option_keys) d
  page ← may_be page_from (get (codes "page") object)
  order ← may_be (number_from 3 11) (get (codes "order") object)
  arenas ← may_be (number_from 1 8) (get (codes "arenas") object)
  chunks ← may_be (number_from 1 8) (get (codes "chunks") object)
  handles ← may_be (number_from 1 4096) (get (codes "handles") object)
  level ← may_be level_from (get (codes "level") object)
  interval ← may_be (number_from 1 65536) (get (codes "interval") object)
  Some (record {
    page = page;
    order = order;
    arenas = arenas;
    chunks = chunks;
    handles = handles;
    level = level;
    interval = interval;
  })

-- a trace that asks for nothing
abbrev pub no_options : Options
no_options = record {
  page = None;
  order = None;
  arenas = None;
  chunks = None;
  handles = None;
  level = None;
  interval = None;
}

-- ---- Versions.

abbrev pub version_keys : List (List ℕ)
version_keys = codes "version" ∷ codes "lanes" ∷ codes "options" ∷ []

-- the lanes and the options of an object of version 2
unfoldable pub version_two : Data → Option (Data × Options)
version_two d = do
  object ← only_if (has_keys_of version_keys) d
  version ← get (codes "version") object >>= number_from 2 2
  lanes ← get (codes "lanes") object
  options ← may_be options_from (get (codes "options") object)
  Some (lanes, unwrap_or options no_options)

-- the lanes and the options of a top value: an object is of version 2, any other is the lanes
unfoldable pub parts_of : Data → Result (Data × Options) TraceNo
parts_of d =
    option_map_or (λ ms. ok_or (version_two d) refusals.Options) (as_object d) (Ok (d, no_options))

-- ---- What a run needs of options.

-- a number from the least to the greatest
abbrev pub IsBetween : ℕ → ℕ → ℕ → Type 0
IsBetween least greatest n = (least ≤ n) × (n ≤ greatest)

-- a page that is asked for is one of the four, and every other number is in its range
pub record AreOptions (o : Options) : Type 0 where
  pub page : IfSome o.page IsPage
  pub order : IfSome o.order (IsBetween 3 11)
  pub arenas : IfSome o.arenas (IsBetween 1 8)
  pub chunks : IfSome o.chunks (IsBetween 1 8)
  pub handles : IfSome o.handles (IsBetween 1 4096)
  pub interval : IfSome o.interval (IsBetween 1 65536)
