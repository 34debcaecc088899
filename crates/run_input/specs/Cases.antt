-- Which texts ask about a run, and of what: words, a trace and a text, as a JSON object.
use Rattle.std.specs.Prelude.{nat_lt, if◌then◌else◌, List, [], ◌∷◌, ◌++◌, length, codes, Option, Some, None}
use Rattle.std.specs.Result.{result_ok}
use Rattle.serde_json.specs.Data.{Data}
use Rattle.serde_json.specs.Find.{as_str, get}
use Rattle.pool_law.specs.declared.run.Options.{Options}
use Rattle.pool_law.specs.Text.{Text}
use Rattle.trace_text.specs.Items.{◌>>=◌, only_if, array_in}
use Rattle.trace_text.specs.Options.{has_keys_of}
use Rattle.trace_text.specs.Reading.{text_limit, value_of}
use Rattle.run_words.specs.declared.words.Origin.{Origin}
use Rattle.run_words.specs.declared.words.Origin.TheVariants.{Source, Generated}
use Rattle.run_words.specs.Pools.{Accepted, reading_for, shape_of}
use Rattle.run_words.specs.Words.{options_of}
use Rattle.run_input.specs.declared.asked.Asked.{Asked}

abbrev pub case_keys : List Text
case_keys = codes "words" ∷ codes "trace" ∷ codes "text" ∷ []

-- what is asked of the pool, where a trace is to be read
abbrev pub unless_generated : Origin → Options → Option Options
unless_generated Source pool = Some pool
unless_generated (Generated from) pool = None

-- the texts behind these once the values are read too, if each is a text
abbrev pub texts_after : List Text → List Data → Option (List Text)
texts_after front [] = Some front
texts_after front (d ∷ ds) = as_str d >>= (λ text. texts_after (front ++ text ∷ []) ds)

-- what words ask of the pool
unfoldable pub pool_in : List Data → Option Options
pool_in ds = do
  words ← texts_after [] ds
  asked ← options_of words
  unless_generated asked.origin asked.pool

-- the trace and the pool that are asked for
abbrev pub asked_by : Accepted → Asked
asked_by a = record { trace = record { lanes = a.0 }; shape = shape_of a.1 (length a.0) }

-- the trace and the pool that an object of these keys and no other asks for
unfoldable pub asked_in : Data → Option Asked
asked_in d = do
  object ← only_if (has_keys_of case_keys) d
  words ← get (codes "words") object >>= array_in
  pool ← pool_in words
  trace ← get (codes "trace") object >>= as_str
  read ← result_ok (reading_for pool trace)
  Some (asked_by read)

-- the text of the run
unfoldable pub text_in : Data → Option Text
text_in d = get (codes "text") d >>= as_str

-- a trace and a pool, and the text of a run
abbrev pub Case : Type 0
Case = Asked × Text

unfoldable pub case_in : Data → Option Case
case_in d = do
  asked ← asked_in d
  text ← text_in d
  Some (asked, text)

-- the JSON value of a text that isn't too long
unfoldable pub value_in : Text → Option Data
value_in input = if nat_lt text_limit (length input) then None else result_ok (value_of input)

-- what a text asks about; none where it is refused
unfoldable pub case_of : Text → Option Case
case_of input = value_in input >>= case_in
