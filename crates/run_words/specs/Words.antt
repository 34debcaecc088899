-- The words of the command line.
use Rattle.std.specs.Prelude.{⊤, ℕ, ◌*◌, ◌≤◌, nat_le, ◌&&◌, Bool, true, false, not, if◌then◌else◌, List, [], ◌∷◌, Option, Some, None, IfSome, is_some, is_none, option_map, option_and_then}
use Rattle.std.specs.Option.{option_map_or}
use Rattle.std.specs.Str.{bytes_eq}
use Rattle.option_words.specs.Options.{givens_in as givens_by}
use Rattle.pool_law.specs.declared.run.Options.{Options}
use Rattle.trace_text.specs.Options.{level_named}
use Rattle.run_words.specs.declared.settings.Setting.{Setting}
use Rattle.run_words.specs.declared.settings.Setting.TheVariants.{Order, Arenas, Chunks, Handles, Workers, Interval, Generate, Lanes, Commands}
use Rattle.run_words.specs.declared.asked.Given.{Given}
use Rattle.run_words.specs.declared.asked.Given.TheVariants as givens
use Rattle.run_words.specs.declared.asked.Asked.{Asked}
use Rattle.run_words.specs.declared.words.Generation.{Generation}
use Rattle.run_words.specs.declared.words.RunOptions.{RunOptions}
use Rattle.run_words.specs.declared.words.Origin.{Origin}
use Rattle.run_words.specs.declared.words.Origin.TheVariants.{Source, Generated}
use Rattle.run_words.specs.Pools.{is_within_memory, or_default}
use Rattle.run_words.specs.Settings.{history_name, level_name, named, number_for, row_of}

-- ---- What the words give.

-- the option with a number of this name, with the number of this text
unfoldable pub number_given : List ℕ → List ℕ → Option Given
number_given name text = option_and_then
    (λ s. option_map (λ n. givens.Number s n) (number_for s text)) (named name)

-- the level of this text
abbrev pub level_given : List ℕ → Option Given
level_given text = option_map (λ l. givens.Level l) (level_named text)

-- the option of this name with the value of this text
unfoldable pub given_by : List ℕ → List ℕ → Option Given
given_by name text =
    if bytes_eq name level_name then level_given text else number_given name text

-- what a word gives that is the option without a value
unfoldable pub flag_given : List ℕ → Option Given
flag_given word = if bytes_eq word history_name then Some givens.History else None

-- what the words give, in their order
abbrev pub givens_in : List (List ℕ) → Option (List Given)
givens_in = givens_by flag_given given_by

-- ---- What is asked for by these, each option at most once.

-- nothing is asked for
abbrev pub nothing : Asked
nothing = record {
  order = None;
  arenas = None;
  chunks = None;
  handles = None;
  workers = None;
  interval = None;
  generate = None;
  lanes = None;
  commands = None;
  level = None;
  history = false;
}

-- this, where it wasn't asked for before
abbrev pub unless_before : Bool → Asked → Option Asked
unless_before before asked = if before then None else Some asked

-- with one more number
unfoldable pub with_number : Asked → Setting → ℕ → Option Asked
with_number a Order n = unless_before (is_some a.order) (record a { order = Some n })
with_number a Arenas n = unless_before (is_some a.arenas) (record a { arenas = Some n })
with_number a Chunks n = unless_before (is_some a.chunks) (record a { chunks = Some n })
with_number a Handles n = unless_before (is_some a.handles) (record a { handles = Some n })
with_number a Workers n = unless_before (is_some a.workers) (record a { workers = Some n })
with_number a Interval n = unless_before (is_some a.interval) (record a { interval = Some n })
with_number a Generate n = unless_before (is_some a.generate) (record a { generate = Some n })
with_number a Lanes n = unless_before (is_some a.lanes) (record a { lanes = Some n })
with_number a Commands n = unless_before (is_some a.commands) (record a { commands = Some n })

-- with one more option
unfoldable pub asked_with : Asked → Given → Option Asked
asked_with a (givens.Number s n) = with_number a s n
asked_with a (givens.Level l) = unless_before (is_some a.level) (record a { level = Some l })
asked_with a givens.History = unless_before a.history (record a { history = true })

-- with all these
abbrev pub asked_from : Asked → List Given → Option Asked
asked_from a [] = Some a
asked_from a (g ∷ gs) = option_and_then (λ b. asked_from b gs) (asked_with a g)

-- what the words ask for
abbrev pub asked_by : List (List ℕ) → Option Asked
asked_by words = option_and_then (asked_from nothing) (givens_in words)

-- ---- What is asked of the run.

-- nothing is asked for that speaks of a generated trace alone
abbrev pub is_for_source : Asked → Bool
is_for_source a = is_none a.lanes && is_none a.commands

-- nothing is asked for that has no form beside a generated trace
abbrev pub is_for_generated : Asked → Bool
is_for_generated a =
    is_none a.order && is_none a.arenas && is_none a.chunks && is_none a.handles && not a.history

-- what the trace is generated from, where it is from this start
abbrev pub generation_from : Asked → ℕ → Generation
generation_from a start = record {
  start = start;
  lanes = or_default Lanes a.lanes;
  commands = or_default Commands a.commands;
}

-- the commands are enough for a block of eight for each lane
abbrev pub has_blocks : Generation → Bool
has_blocks g = nat_le (8 * g.lanes) g.commands

-- the trace is generated from this start; none where another option has no form beside that
abbrev pub generated_from : Asked → ℕ → Option Origin
generated_from a start =
    if is_for_generated a && has_blocks (generation_from a start)
    then Some (Generated (generation_from a start))
    else None

-- where the trace comes from; none where two of the options have no form together
abbrev pub origin_for : Asked → Option Origin
origin_for a =
    option_map_or (generated_from a) a.generate (if is_for_source a then Some Source else None)

-- what is asked of the pool; no word speaks of the page
abbrev pub pool_asked : Asked → Options
pool_asked a = record {
  page = None;
  order = a.order;
  arenas = a.arenas;
  chunks = a.chunks;
  handles = a.handles;
  level = a.level;
  interval = a.interval;
}

-- what is asked of the run, with this origin
abbrev pub options_from : Asked → Origin → RunOptions
options_from a origin = record {
  origin = origin;
  pool = pool_asked a;
  workers = or_default Workers a.workers;
  history = a.history;
}

-- the options that are asked for; none where two of them have no form together
abbrev pub options_for : Asked → Option RunOptions
options_for a = option_map (options_from a) (origin_for a)

-- the options, where a pool of the default page is within its bounds
abbrev pub within_memory : RunOptions → Option RunOptions
within_memory o = if is_within_memory o.pool then Some o else None

-- the options that are given, each at most once
abbrev pub options_given : List Given → Option RunOptions
options_given givens =
    option_and_then (λ asked. option_and_then within_memory (options_for asked))
    (asked_from nothing givens)

-- the options that the words are, where they have a form
unfoldable pub options_of : List (List ℕ) → Option RunOptions
options_of words = option_and_then options_given (givens_in words)

-- ---- Where a trace comes from.

-- a trace can be generated from this
pub record IsGeneration (g : Generation) : Type 0 where
  pub lanes_least : 1 ≤ g.lanes
  pub lanes_most : g.lanes ≤ 16
  pub commands_least : 8 * g.lanes ≤ g.commands
  pub commands_most : g.commands ≤ 65536

-- a trace can come from there
abbrev pub IsOrigin : Origin → Type 0
IsOrigin Source = ⊤
IsOrigin (Generated g) = IsGeneration g

-- ---- Numbers in their range.

-- the number is in the option's range
pub record IsInRange (s : Setting) (n : ℕ) : Type 0 where
  pub least : (row_of s).least ≤ n
  pub greatest : n ≤ (row_of s).greatest

-- a number that is given is in its range
abbrev pub IsWithin : Given → Type 0
IsWithin (givens.Number s n) = IsInRange s n
IsWithin _ = ⊤

-- all numbers that are asked for are in their ranges
pub record AreWithin (a : Asked) : Type 0 where
  pub order : IfSome a.order (IsInRange Order)
  pub arenas : IfSome a.arenas (IsInRange Arenas)
  pub chunks : IfSome a.chunks (IsInRange Chunks)
  pub handles : IfSome a.handles (IsInRange Handles)
  pub workers : IfSome a.workers (IsInRange Workers)
  pub interval : IfSome a.interval (IsInRange Interval)
  pub generate : IfSome a.generate (IsInRange Generate)
  pub lanes : IfSome a.lanes (IsInRange Lanes)
  pub commands : IfSome a.commands (IsInRange Commands)
