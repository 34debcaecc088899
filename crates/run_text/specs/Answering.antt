-- Which replies a command may get, and the lines that show them.
use Rattle.std.specs.Prelude.{◌≡◌, ℕ, suc, ◌^◌, ◌<◌, List, [], ◌∷◌, ◌++◌}
use Rattle.hex.specs.Hex.{IsBytes}
use Rattle.pool_law.specs.declared.command.Command.{Command}
use Rattle.pool_law.specs.declared.run.Reply.{Reply}
use Rattle.pool_law.specs.Text.{Text, command_word, dotted, reply_words, spaced}
use Rattle.run_text.specs.Told.{FitsPlace}

-- what is told of a command that is done: that it is, where its bytes lie, bytes, or a number
pub data Tale : Type 0 where
  Bare : Tale
  OfPlace : Tale
  OfBytes : Tale
  OfNumber : Tale

-- by the command
abbrev pub tale_of : Command → Tale
tale_of (Command.Alloc name size) = Tale.OfPlace
tale_of (Command.Set name at bytes tries) = Tale.Bare
tale_of (Command.Get name at len tries) = Tale.OfBytes
tale_of (Command.Write name bytes) = Tale.Bare
tale_of (Command.Read name len) = Tale.OfBytes
tale_of (Command.Slice fresh name at len retained) = Tale.Bare
tale_of (Command.Dup fresh name) = Tale.Bare
tale_of (Command.Retain name) = Tale.Bare
tale_of (Command.Release name) = Tale.Bare
tale_of (Command.Refcnt name) = Tale.OfNumber
tale_of (Command.Touch name) = Tale.Bare
tale_of (Command.Forget name) = Tale.Bare
tale_of (Command.Send name lane) = Tale.Bare
tale_of (Command.Recv fresh lane) = Tale.Bare
tale_of (Command.Compose fresh names) = Tale.OfNumber
tale_of (Command.Add whole name) = Tale.OfNumber
tale_of (Command.Capacity name size) = Tale.OfNumber

-- a reply tells of a done command what is to be told of it, and its numbers are of their types
abbrev pub FitsReply : Command → Reply → Type 0
FitsReply c Reply.Ok = tale_of c ≡ Tale.Bare
FitsReply c (Reply.OkPlace size place) =
    (tale_of c ≡ Tale.OfPlace) × (place.len ≡ size) × (size < 2 ^ 32) × FitsPlace place
FitsReply c (Reply.OkBytes bytes) = (tale_of c ≡ Tale.OfBytes) × IsBytes bytes
FitsReply c (Reply.OkNumber k) = (tale_of c ≡ Tale.OfNumber) × (k < 2 ^ 32)
FitsReply c Reply.Kept = Unit {0}
FitsReply c Reply.Freed = Unit {0}
FitsReply c Reply.Unbound = Unit {0}
FitsReply c Reply.Taken = Unit {0}
FitsReply c Reply.Illegal = Unit {0}
FitsReply c Reply.Range = Unit {0}
FitsReply c Reply.TooLarge = Unit {0}
FitsReply c Reply.Handles = Unit {0}
FitsReply c Reply.Full = Unit {0}
FitsReply c (Reply.Busy number) = number < 2 ^ 64
FitsReply c Reply.Nothing = Unit {0}
FitsReply c Reply.Composite = Unit {0}
FitsReply c Reply.Plain = Unit {0}
FitsReply c Reply.Stopped = Unit {0}

-- each command of a lane has one such reply
abbrev pub FitReplies : List Command → List Reply → Type 0
FitReplies [] [] = Unit {0}
FitReplies [] (reply ∷ replies) = ⊥
FitReplies (c ∷ cs) [] = ⊥
FitReplies (c ∷ cs) (reply ∷ replies) = FitsReply c reply × FitReplies cs replies

-- each lane has those of its commands
abbrev pub FitLanes : List (List Command) → List (List Reply) → Type 0
FitLanes [] [] = Unit {0}
FitLanes [] (replies ∷ all) = ⊥
FitLanes (commands ∷ lanes) [] = ⊥
FitLanes (commands ∷ lanes) (replies ∷ all) = FitReplies commands replies × FitLanes lanes all

-- ---- Their lines.

-- the line of a reply
abbrev pub reply_text : ℕ → ℕ → Command → Reply → Text
reply_text lane at c reply = spaced (dotted lane at ∷ command_word c ∷ reply_words reply)

-- the lines of a lane's replies, from this command on
abbrev pub reply_texts : ℕ → ℕ → List Command → List Reply → List Text
reply_texts lane at [] replies = []
reply_texts lane at (c ∷ cs) [] = []
reply_texts lane at (c ∷ cs) (reply ∷ replies) =
    reply_text lane at c reply ∷ reply_texts lane (suc at) cs replies

-- the lines of the replies of all lanes, from this lane on
abbrev pub lanes_texts : ℕ → List (List Command) → List (List Reply) → List Text
lanes_texts lane [] all = []
lanes_texts lane (commands ∷ lanes) [] = []
lanes_texts lane (commands ∷ lanes) (replies ∷ all) =
    reply_texts lane 0 commands replies ++ lanes_texts (suc lane) lanes all
