-- The text of an input: a line for each call, and one for what is live at the end.
use Rattle.std.specs.Prelude.{ℕ, ◌+◌, Bool, true, false, List, [], ◌∷◌, ◌++◌, codes, decimal}
use Rattle.pool_law.specs.Text.{Text, line, shown_bytes}
use Rattle.nest_run.specs.declared.calls.Input.{Input}
use Rattle.nest_run.specs.declared.replies.Reply.{Reply}
use Rattle.nest_run.specs.declared.replies.Reply.TheVariants.{Sliced, Done, Read, Kept, Freed, Gone, Range}
use Rattle.nest_run.specs.declared.answer.Status.{Status}
use Rattle.nest_run.specs.declared.answer.Status.TheVariants as statuses
use Rattle.nest_run.specs.Plays.{replies_to, live_after}

-- the word that is told of a root that ended
abbrev pub root_words : Bool → List Text
root_words true = codes "root" ∷ []
root_words false = []

-- the words of a reply
abbrev pub reply_words : Reply → List Text
reply_words (Sliced number) = codes "ok" ∷ decimal number ∷ []
reply_words Done = codes "ok" ∷ []
reply_words (Read bytes) = codes "ok" ∷ shown_bytes bytes ∷ []
reply_words Kept = codes "kept" ∷ []
reply_words (Freed ended root) = codes "freed" ∷ decimal ended ∷ root_words root
reply_words Gone = codes "gone" ∷ []
reply_words Range = codes "range" ∷ []

-- the lines of replies, the first of which has this number
abbrev pub reply_lines : ℕ → List Reply → Text
reply_lines number [] = []
reply_lines number (r ∷ rs) =
    line (decimal number ∷ reply_words r) ++ reply_lines (number + 1) rs

-- the last line
abbrev pub last_line : ℕ → Text
last_line live = line (codes "end" ∷ codes "live" ∷ decimal live ∷ [])

-- the text of replies and of what is live after them
abbrev pub text_with : List Reply → ℕ → Text
text_with answers live = reply_lines 0 answers ++ last_line live

-- the text of an input
abbrev pub text_of : Input → Text
text_of input = text_with (replies_to input) (live_after input)

-- the line of a status on standard error; nothing for a text that was written
abbrev pub status_line : Status → Text
status_line statuses.Whole = []
status_line statuses.Live = []
status_line statuses.Words = codes "refused words\n"
status_line statuses.Input = codes "refused input\n"
status_line statuses.ReadFault = codes "read fault\n"
status_line statuses.WriteFault = codes "write fault\n"
status_line statuses.Memory = codes "out of memory\n"
