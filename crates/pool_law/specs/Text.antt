-- The text of a run.
use Rattle.std.specs.Prelude.{ℕ, ◌+◌, ◌/◌, ◌%◌, Bool, nat_lt, if◌then◌else◌, List, [], ◌∷◌, ◌++◌, length, decimal, codes, Option, Some, None}
use Rattle.pool_law.specs.declared.id.RootId.{RootId}
use Rattle.pool_law.specs.declared.id.RegionId.{RegionId}
use Rattle.pool_law.specs.declared.id.Place.{Place}
use Rattle.pool_law.specs.declared.id.ViewData.{ViewData}
use Rattle.pool_law.specs.declared.command.Command.{Command}
use Rattle.pool_law.specs.declared.note.Object.{Object}
use Rattle.pool_law.specs.declared.note.CacheNo.{CacheNo}
use Rattle.pool_law.specs.declared.note.Did.{Did}
use Rattle.pool_law.specs.declared.note.RefDid.{RefDid}
use Rattle.pool_law.specs.declared.note.Note.{Note}
use Rattle.pool_law.specs.declared.report.ListName.{ListName}
use Rattle.pool_law.specs.declared.report.ChunkEnd.{ChunkEnd}
use Rattle.pool_law.specs.declared.report.Access.{Access}
use Rattle.pool_law.specs.declared.report.Leak.{Leak}
use Rattle.pool_law.specs.declared.run.Reply.{Reply}
use Rattle.pool_law.specs.declared.run.Answered.{Answered}
use Rattle.pool_law.specs.declared.run.LaneLog.{LaneLog}
use Rattle.pool_law.specs.declared.run.Run.{Run}
use Rattle.pool_law.specs.Leaks.{births, is_live}
use Rattle.pool_law.specs.Legal.{logs_of}
use Rattle.pool_law.specs.Logs.{Logs}

-- text as its bytes
abbrev pub Text : Type 0
Text = List ℕ

-- a hexadecimal digit
abbrev pub hex_digit : ℕ → ℕ
hex_digit d = if nat_lt d 10 then 48 + d else 87 + d

-- bytes in hexadecimal
abbrev pub hex : List ℕ → Text
hex [] = []
hex (b ∷ bs) = hex_digit (b / 16) ∷ hex_digit (b % 16) ∷ hex bs

-- bytes in hexadecimal, and a dash for none
abbrev pub shown_bytes : List ℕ → Text
shown_bytes [] = codes "-"
shown_bytes (b ∷ bs) = hex (b ∷ bs)

-- words with one space between each two
abbrev pub spaced : List Text → Text
spaced [] = []
spaced (word ∷ []) = word
spaced (word ∷ next ∷ rest) = word ++ (32 ∷ spaced (next ∷ rest))

-- a line of words
abbrev pub line : List Text → Text
line words = spaced words ++ 10 ∷ []

-- two numbers with a dot between them
abbrev pub dotted : ℕ → ℕ → Text
dotted a b = decimal a ++ (46 ∷ decimal b)

-- two numbers with a plus sign between them
abbrev pub plus : ℕ → ℕ → Text
plus a b = decimal a ++ (43 ∷ decimal b)

-- arena, chunk and offset of a place
abbrev pub shown_place : Place → Text
shown_place p = dotted p.arena p.chunk ++ (43 ∷ decimal p.offset)

-- the word of a command in a trace
abbrev pub command_word : Command → Text
command_word (Command.Alloc name size) = codes "alloc"
command_word (Command.Set name at bytes tries) = if tries then codes "tryset" else codes "set"
command_word (Command.Get name at len tries) = if tries then codes "tryget" else codes "get"
command_word (Command.Write name bytes) = codes "write"
command_word (Command.Read name len) = codes "read"
command_word (Command.Slice fresh name at len retained) =
    if retained then codes "rslice" else codes "slice"
command_word (Command.Dup fresh name) = codes "dup"
command_word (Command.Retain name) = codes "retain"
command_word (Command.Release name) = codes "release"
command_word (Command.Refcnt name) = codes "refcnt"
command_word (Command.Touch name) = codes "touch"
command_word (Command.Forget name) = codes "forget"
command_word (Command.Send name lane) = codes "send"
command_word (Command.Recv fresh lane) = codes "recv"
command_word (Command.Compose fresh names) = codes "compose"
command_word (Command.Add whole name) = codes "add"
command_word (Command.Capacity name size) = codes "capacity"

-- the words of a reply
abbrev pub reply_words : Reply → List Text
reply_words Reply.Ok = codes "ok" ∷ []
reply_words (Reply.OkPlace size place) = codes "ok" ∷ decimal size ∷ shown_place place ∷ []
reply_words (Reply.OkBytes bytes) = codes "ok" ∷ shown_bytes bytes ∷ []
reply_words (Reply.OkNumber k) = codes "ok" ∷ decimal k ∷ []
reply_words Reply.Kept = codes "kept" ∷ []
reply_words Reply.Freed = codes "freed" ∷ []
reply_words Reply.Unbound = codes "unbound" ∷ []
reply_words Reply.Taken = codes "taken" ∷ []
reply_words Reply.Illegal = codes "illegal" ∷ []
reply_words Reply.Range = codes "range" ∷ []
reply_words Reply.TooLarge = codes "toolarge" ∷ []
reply_words Reply.Handles = codes "handles" ∷ []
reply_words Reply.Full = codes "full" ∷ []
reply_words (Reply.Busy number) = codes "busy" ∷ decimal number ∷ []
reply_words Reply.Nothing = codes "nothing" ∷ []
reply_words Reply.Composite = codes "composite" ∷ []
reply_words Reply.Plain = codes "plain" ∷ []
reply_words Reply.Stopped = codes "stopped" ∷ []

-- the reply lines of a lane, from this line on
abbrev pub reply_lines : ℕ → ℕ → List Command → List Answered → Text
reply_lines lane at [] replies = []
reply_lines lane at (c ∷ cs) [] = []
reply_lines lane at (c ∷ cs) (a ∷ as') =
    line (dotted lane at ∷ command_word c ∷ reply_words a.reply)
    ++ reply_lines lane (at + 1) cs as'

-- the reply lines of the lanes from this one on
abbrev pub all_replies : ℕ → List (List Command) → List LaneLog → Text
all_replies lane [] logs = []
all_replies lane (cs ∷ rest) [] = []
all_replies lane (cs ∷ rest) (log ∷ logs) =
    reply_lines lane 0 cs log.replies ++ all_replies (lane + 1) rest logs

-- the words of an object
abbrev pub object_words : Object → List Text
object_words (Object.Arena number) = codes "arena" ∷ decimal number ∷ []
object_words (Object.Cache lane class) = codes "cache" ∷ decimal lane ∷ decimal class ∷ []
object_words (Object.Bin lane) = codes "bin" ∷ decimal lane ∷ []
object_words (Object.Mail from to) = codes "mail" ∷ decimal from ∷ decimal to ∷ []
object_words (Object.Root place) = codes "root" ∷ decimal place ∷ []

-- chunk and offset, and the taking's number
abbrev pub region_words : RegionId → List Text
region_words r = plus r.place.chunk r.place.offset ∷ decimal r.taking ∷ []

-- the words of a parcel
abbrev pub parcel_words : Option ViewData → List Text
parcel_words None = codes "empty" ∷ []
parcel_words (Some v) =
    dotted v.root.place v.root.generation
    ∷ plus v.offset v.len
    ∷ decimal v.reader
    ∷ decimal v.writer
    ∷ []

-- why a cache sent a region back
abbrev pub why_word : CacheNo → Text
why_word CacheNo.Full = codes "full"
why_word CacheNo.Closed = codes "closed"

-- the words of what was done to an object
abbrev pub did_words : Did → List Text
did_words (Did.Take class region) = codes "take" ∷ decimal class ∷ region_words region
did_words (Did.Full class) = codes "full" ∷ decimal class ∷ []
did_words (Did.Give region) = codes "give" ∷ region_words region
did_words (Did.Hit region) = codes "hit" ∷ decimal region.taking ∷ []
did_words Did.Miss = codes "miss" ∷ []
did_words (Did.Kept region) = codes "kept" ∷ decimal region.taking ∷ []
did_words (Did.Back region why) = codes "back" ∷ why_word why ∷ decimal region.taking ∷ []
did_words (Did.Trim quota) = codes "trim" ∷ decimal quota ∷ []
did_words (Did.Close quota) = codes "close" ∷ decimal quota ∷ []
did_words (Did.Shed region) = codes "shed" ∷ decimal region.taking ∷ []
did_words (Did.Handle place) = codes "handle" ∷ decimal place ∷ []
did_words Did.NoHandle = codes "none" ∷ []
did_words (Did.Home place) = codes "home" ∷ decimal place ∷ []
did_words (Did.Post parcel) = codes "post" ∷ parcel_words parcel.view
did_words (Did.Fetch parcel) = codes "fetch" ∷ parcel_words parcel.view
did_words (Did.Birth root region) =
    codes "birth"
    ∷ decimal root.generation
    ∷ shown_place region.place
    ∷ decimal region.taking
    ∷ decimal region.uses
    ∷ decimal root.capacity
    ∷ []
did_words (Did.Set offset bytes) = codes "set" ∷ decimal offset ∷ shown_bytes bytes ∷ []
did_words (Did.Get offset bytes) = codes "get" ∷ decimal offset ∷ shown_bytes bytes ∷ []
did_words Did.Touch = codes "touch" ∷ []
did_words (Did.Room asked capacity) = codes "room" ∷ decimal asked ∷ decimal capacity ∷ []
did_words (Did.Extend size) = codes "extend" ∷ decimal size ∷ []
did_words (Did.Grow capacity region) =
    codes "grow"
    ∷ shown_place region.place
    ∷ decimal region.taking
    ∷ decimal region.uses
    ∷ decimal capacity
    ∷ []
did_words (Did.End root) = codes "end" ∷ decimal root.generation ∷ []

-- the words of a step on a reference word
abbrev pub ref_words : RefDid → List Text
ref_words RefDid.Born = codes "born" ∷ []
ref_words RefDid.Retain = codes "retain" ∷ []
ref_words RefDid.Kept = codes "kept" ∷ []
ref_words RefDid.Ended = codes "ended" ∷ []
ref_words RefDid.Vacated = codes "vacated" ∷ []
ref_words (RefDid.Look k) = codes "look" ∷ decimal k ∷ []

-- the words of a note
abbrev pub note_words : Note → List Text
note_words (Note.At object number did) = object_words object ++ (decimal number ∷ did_words did)
note_words (Note.Ref root did) = codes "ref" ∷ dotted root.place root.generation ∷ ref_words did
note_words (Note.Busy held) =
    codes "busy" ∷ (object_words held.object ++ decimal held.number ∷ [])

-- the note lines of a lane
abbrev pub note_lines : ℕ → List Note → Text
note_lines lane [] = []
note_lines lane (n ∷ ns) =
    line (codes "note" ∷ decimal lane ∷ note_words n) ++ note_lines lane ns

-- the note lines of the lanes from this one on
abbrev pub all_notes : ℕ → List LaneLog → Text
all_notes lane [] = []
all_notes lane (log ∷ logs) = note_lines lane log.notes ++ all_notes (lane + 1) logs

-- the name of a list
abbrev pub list_word : ListName → Text
list_word ListName.QInit = codes "qInit"
list_word ListName.Q000 = codes "q000"
list_word ListName.Q025 = codes "q025"
list_word ListName.Q050 = codes "q050"
list_word ListName.Q075 = codes "q075"
list_word ListName.Q100 = codes "q100"

-- a word and its number before other words
abbrev pub named : Text → ℕ → List Text → List Text
named word n rest = word ∷ decimal n ∷ rest

-- the line of a chunk
abbrev pub chunk_line : ChunkEnd → Text
chunk_line c =
    line
    (codes "chunk"
    ∷ dotted c.arena c.chunk
    ∷ list_word c.list
    ∷ named (codes "used") c.used (named (codes "free") c.free []))

-- the lines of chunks
abbrev pub chunk_lines : List ChunkEnd → Text
chunk_lines [] = []
chunk_lines (c ∷ cs) = chunk_line c ++ chunk_lines cs

-- one space, the lane and the access
abbrev pub access_line : Access → Text
access_line (Access.Set lane offset len) =
    32 ∷ line (decimal lane ∷ codes "set" ∷ plus offset len ∷ [])
access_line (Access.Get lane offset len) =
    32 ∷ line (decimal lane ∷ codes "get" ∷ plus offset len ∷ [])
access_line (Access.Touch lane) = 32 ∷ line (decimal lane ∷ codes "touch" ∷ [])

-- the lines of accesses
abbrev pub access_lines : List Access → Text
access_lines [] = []
access_lines (a ∷ rest) = access_line a ++ access_lines rest

-- the line of a leak
abbrev pub leak_line : Leak → Text
leak_line l =
    line
    (codes "leak"
    ∷ dotted l.lane l.serial
    ∷ named (codes "capacity") l.capacity
    (named (codes "count") l.count
    (named (codes "records") (length l.records) (named (codes "dropped") l.dropped []))))

-- the lines of leaks, each with its accesses
abbrev pub leak_lines : List Leak → Text
leak_lines [] = []
leak_lines (l ∷ ls) =
    leak_line l ++ (access_lines l.records ++ leak_lines ls)

-- how many of these roots are live at the end
abbrev pub live_in : Logs → List RootId → ℕ
live_in logs [] = 0
live_in logs (root ∷ roots) = (if is_live logs root then 1 else 0) + live_in logs roots

-- the roots that were born, lane by lane
abbrev pub born_roots : Logs → List RootId
born_roots [] = []
born_roots (log ∷ logs) = births log ++ born_roots logs

-- the last line
abbrev pub end_line : Run → Text
end_line run =
    let roots = born_roots (logs_of run) in
    line
    (codes "end"
    ∷ named (codes "roots") (length roots)
    (named (codes "live") (live_in (logs_of run) roots)
    (named (codes "leaks") (length run.leaks) [])))

-- the text of a run, with the notes if they are wanted
abbrev pub text_of : Run → Bool → Text
text_of run history =
    all_replies 0 run.trace.lanes run.logs
    ++ ((if history then all_notes 0 run.logs else [])
    ++ (chunk_lines run.chunks ++ (leak_lines run.leaks ++ end_line run)))
