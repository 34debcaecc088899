-- What a text is read as: the commands of each lane, or the first reason why there are none.
use Rattle.std.specs.Prelude.{◌≡◌, ℕ, ◌^◌, ◌<◌, nat_lt, if◌then◌else◌, List, [], ◌∷◌, ◌++◌, length, All, IfSome, Result, Ok, Err}
use Rattle.std.specs.Option.{option_map_or, ok_or}
use Rattle.std.specs.Str.{is_utf8}
use Rattle.serde_json.specs.Data.{Data}
use Rattle.serde_json.specs.Read.{read as json_read}
use Rattle.pool_law.specs.declared.command.Command.{Command}
use Rattle.pool_law.specs.declared.command.Trace.{Trace}
use Rattle.pool_law.specs.declared.run.Options.{Options}
use Rattle.pool_law.specs.Stuck.{command_count, stuck_at}
use Rattle.pool_law.specs.Traces.{byte_limit, bytes_asked, command_limit, lane_limit}
use Rattle.trace_text.specs.Items.{array_in}
use Rattle.trace_text.specs.Lane.{HasFewRows, lane_in}
use Rattle.trace_text.specs.Options.{parts_of}
use Rattle.trace_text.specs.declared.Read.{Read}
use Rattle.trace_text.specs.declared.Limit.TheVariants.{Text, Lanes, Commands, Bytes}
use Rattle.trace_text.specs.declared.TraceNo.{TraceNo}
use Rattle.trace_text.specs.declared.TraceNo.TheVariants as refusals

-- what follows a step that was not refused
infixl 10 ◌>>=◌
abbrev pub ◌>>=◌ : {A B : Type 0} → Result A TraceNo → (A → Result B TraceNo) → Result B TraceNo
Ok a >>= next = next a
Err e >>= next = Err e

-- the commands of each lane, or why there are none
abbrev pub Reading : Type 0
Reading = Result (List (List Command)) TraceNo

-- ---- Limits.

abbrev pub text_limit : ℕ
text_limit = 16777216

-- the lanes, where no limit is passed
unfoldable pub limited : List (List Command) → Reading
limited lanes =
    if nat_lt lane_limit (length lanes) then Err (refusals.Limit Lanes)
    else if nat_lt command_limit (command_count lanes) then Err (refusals.Limit Commands)
    else if nat_lt byte_limit (bytes_asked lanes) then Err (refusals.Limit Bytes)
    else Ok lanes

-- the lanes, where none gets stuck
unfoldable pub unstuck : List (List Command) → Reading
unstuck lanes =
    option_map_or (λ place. Err (refusals.Stuck place.0 place.1)) (stuck_at lanes) (Ok lanes)

-- ---- Lanes.

-- the lanes behind these once their values are read too
abbrev pub lanes_after : ℕ → List (List Command) → List Data → Reading
lanes_after lanes front [] = Ok front
lanes_after lanes front (d ∷ ds) =
    lane_in lanes (length front) d >>= (λ lane. lanes_after lanes (front ++ lane ∷ []) ds)

-- so few lanes that they have numbers of 32 bits, and few rows in each
abbrev pub IsShort : Data → Type 0
IsShort d = IfSome (array_in d) (λ lanes. (length lanes < 2 ^ 32) × All HasFewRows lanes)

-- at least one lane
abbrev pub lanes_in : List Data → Reading
lanes_in [] = Err (refusals.Shape 0 0)
lanes_in (d ∷ ds) = lanes_after (length (d ∷ ds)) [] (d ∷ ds)

unfoldable pub trace_in : Data → Reading
trace_in d = option_map_or lanes_in (array_in d) (Err (refusals.Shape 0 0))

-- ---- Texts.

-- the JSON value of a text in UTF-8
unfoldable pub value_of : List ℕ → Result Data TraceNo
value_of text = if is_utf8 text then ok_or (json_read text) refusals.Syntax else Err refusals.Syntax

-- the lanes of a value, where they pass no limit and none gets stuck
unfoldable pub accepted : Data → Reading
accepted d = trace_in d >>= limited >>= unstuck

-- the lanes of a text, and what it asks of the pool
unfoldable pub reading_of : List ℕ → Result (List (List Command) × Options) TraceNo
reading_of text =
    if nat_lt text_limit (length text) then Err (refusals.Limit Text)
    else
    (value_of text >>= parts_of
    >>= (λ parts. accepted parts.0 >>= (λ lanes. Ok (lanes, parts.1))))

-- what was answered is what was read, as it is seen, or want of memory
abbrev pub GivesAs : {A B : Type 0} → (A → B) → Result A TraceNo → Result B TraceNo → Type 0
GivesAs seen (Ok a) reading = reading ≡ Ok (seen a)
GivesAs seen (Err refusals.Memory) reading = Unit {0}
GivesAs seen (Err e) reading = reading ≡ Err e

abbrev pub GivesLanes : Result Trace TraceNo → Reading → Type 0
GivesLanes answer reading = GivesAs (λ (trace : Trace). trace.lanes) answer reading

abbrev pub Gives : Result Read TraceNo → Result (List (List Command) × Options) TraceNo → Type 0
Gives answer reading = GivesAs (λ (read : Read). (read.trace.lanes, read.options)) answer reading
