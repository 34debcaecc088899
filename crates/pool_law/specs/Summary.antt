-- The summary of a run of a generated trace: four lines.
use Rattle.std.specs.Prelude.{ℕ, ◌/◌, Bool, true, false, List, [], ◌∷◌, ◌++◌, length, filter, sum, decimal, codes}
use Rattle.std.specs.List.{flat_map}
use Rattle.pool_law.specs.declared.command.Command.{Command}
use Rattle.pool_law.specs.declared.run.Reply.{Reply}
use Rattle.pool_law.specs.declared.run.Run.{Run}
use Rattle.pool_law.specs.LaneLaw.{replies_in}
use Rattle.pool_law.specs.Legal.{logs_of}
use Rattle.pool_law.specs.Text.{Text, line, named, born_roots, live_in}

-- a reply is neither `ok` in any form nor `kept` nor `freed`
abbrev pub is_refusal : Reply → Bool
is_refusal Reply.Ok = false
is_refusal (Reply.OkPlace size place) = false
is_refusal (Reply.OkBytes bytes) = false
is_refusal (Reply.OkNumber n) = false
is_refusal Reply.Kept = false
is_refusal Reply.Freed = false
is_refusal Reply.Unbound = true
is_refusal Reply.Taken = true
is_refusal Reply.Illegal = true
is_refusal Reply.Range = true
is_refusal Reply.TooLarge = true
is_refusal Reply.Handles = true
is_refusal Reply.Full = true
is_refusal (Reply.Busy n) = true
is_refusal Reply.Nothing = true
is_refusal Reply.Composite = true
is_refusal Reply.Plain = true
is_refusal Reply.Stopped = true

-- the bytes that a reply tells
abbrev pub bytes_in : Reply → List ℕ
bytes_in (Reply.OkBytes bytes) = bytes
bytes_in Reply.Ok = []
bytes_in (Reply.OkPlace size place) = []
bytes_in (Reply.OkNumber n) = []
bytes_in Reply.Kept = []
bytes_in Reply.Freed = []
bytes_in Reply.Unbound = []
bytes_in Reply.Taken = []
bytes_in Reply.Illegal = []
bytes_in Reply.Range = []
bytes_in Reply.TooLarge = []
bytes_in Reply.Handles = []
bytes_in Reply.Full = []
bytes_in (Reply.Busy n) = []
bytes_in Reply.Nothing = []
bytes_in Reply.Composite = []
bytes_in Reply.Plain = []
bytes_in Reply.Stopped = []

-- the replies given to all commands, lane by lane
abbrev pub replies_given : Run → List Reply
replies_given run = flat_map (λ log. replies_in log.replies) run.logs

-- the bytes that they tell
abbrev pub all_bytes : Run → List ℕ
all_bytes run = flat_map bytes_in (replies_given run)

-- the blocks of each lane, where all have as many as the first
abbrev pub blocks_in : List (List Command) → ℕ
blocks_in [] = 0
blocks_in (commands ∷ lanes) = length commands / 8

-- what was run
abbrev pub generated_line : Run → ℕ → Text
generated_line run start =
    line
    (codes "generated" ∷ decimal start
    ∷ named (codes "lanes") (length run.trace.lanes)
    (named (codes "blocks") (blocks_in run.trace.lanes) []))

-- the roots that were born, those of them that live, and the replies that refuse
abbrev pub roots_line : Run → Text
roots_line run =
    let roots = born_roots (logs_of run) in
    line
    (named (codes "roots") (length roots)
    (named (codes "live") (live_in (logs_of run) roots)
    (named (codes "refused") (length (filter is_refusal (replies_given run))) [])))

-- the bytes that were read, and the sum of their values
abbrev pub read_line : Run → Text
read_line run =
    line
    (named (codes "read") (length (all_bytes run))
    (named (codes "sum") (sum (all_bytes run)) []))

-- the roots that are reported
abbrev pub leaks_line : Run → Text
leaks_line run = line (named (codes "leaks") (length run.leaks) [])

-- the summary of a run of the trace that was generated from this number
abbrev pub summary_of : Run → ℕ → Text
summary_of run start =
    generated_line run start ++ (roots_line run ++ (read_line run ++ leaks_line run))
