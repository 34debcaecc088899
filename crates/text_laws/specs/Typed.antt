-- That the numbers of a run are of their types, and its bytes are bytes: so they are in each run in memory.
use Rattle.std.specs.Prelude.{ℕ, ◌^◌, ◌<◌}
use Rattle.std.specs.List.{All}
use Rattle.hex.specs.Hex.{IsBytes}
use Rattle.pool_law.specs.declared.note.Note.{Note}
use Rattle.pool_law.specs.declared.run.Reply.{Reply}
use Rattle.pool_law.specs.declared.run.Run.{Run}
use Rattle.pool_law.specs.LaneLaw.{replies_in}
use Rattle.pool_law.specs.Legal.{logs_of}
use Rattle.pool_law.specs.Lives.{StandsAt}
use Rattle.run_text.specs.Derived.{AreFew, answers_of}
use Rattle.run_text.specs.Ending.{FitsChunk, FitsLeak}
use Rattle.run_text.specs.Told.{FitsDid, FitsHeld, FitsObject, FitsPlace, FitsRef}

-- those of a note that its line shows
abbrev pub IsNoteTyped : Note → Type 0
IsNoteTyped (Note.At object number did) = FitsObject object × (number < 2 ^ 64) × FitsDid did
IsNoteTyped (Note.Ref root did) = (root.place < 2 ^ 32) × (root.generation < 2 ^ 32) × FitsRef did
IsNoteTyped (Note.Busy held) = FitsHeld held

-- those of a reply
abbrev pub IsReplyTyped : Reply → Type 0
IsReplyTyped Reply.Ok = Unit {0}
IsReplyTyped (Reply.OkPlace size place) = (size < 2 ^ 32) × FitsPlace place
IsReplyTyped (Reply.OkBytes bytes) = IsBytes bytes
IsReplyTyped (Reply.OkNumber k) = k < 2 ^ 32
IsReplyTyped Reply.Kept = Unit {0}
IsReplyTyped Reply.Freed = Unit {0}
IsReplyTyped Reply.Unbound = Unit {0}
IsReplyTyped Reply.Taken = Unit {0}
IsReplyTyped Reply.Illegal = Unit {0}
IsReplyTyped Reply.Range = Unit {0}
IsReplyTyped Reply.TooLarge = Unit {0}
IsReplyTyped Reply.Handles = Unit {0}
IsReplyTyped Reply.Full = Unit {0}
IsReplyTyped (Reply.Busy number) = number < 2 ^ 64
IsReplyTyped Reply.Nothing = Unit {0}
IsReplyTyped Reply.Composite = Unit {0}
IsReplyTyped Reply.Plain = Unit {0}
IsReplyTyped Reply.Stopped = Unit {0}

-- those of a run that its text shows, and how many notes each command made
pub record IsTyped (run : Run) : Type 0 where
  pub notes : (lane at : ℕ) (note : Note) → StandsAt (logs_of run) lane at note → IsNoteTyped note
  pub replies : All (λ log. All IsReplyTyped (replies_in log.replies)) run.logs
  pub counts : All AreFew (answers_of run)
  pub chunks : All FitsChunk run.chunks
  pub leaks : All FitsLeak run.leaks
