-- What is told of a run.
use Rattle.std.specs.Prelude.{ℕ, List, [], ◌∷◌, ◌++◌, ◌-◌, length, codes, decimal, Option, Some, None, slice_get}
use Rattle.std.specs.List.{flat_map}
use Rattle.pool_law.specs.declared.id.RootId.{RootId}
use Rattle.pool_law.specs.declared.note.Object.{Object}
use Rattle.pool_law.specs.declared.note.Object.TheVariants.{Arena, Cache, Bin, Mail, Root}
use Rattle.pool_law.specs.Text.{Text, line, dotted, object_words, spaced}
use Rattle.run_check.specs.declared.breach.Breach.{Breach}
use Rattle.run_check.specs.declared.breach.Breach.TheVariants.{Measures, Lanes, Commands, History, Notes, Marks, Chunks, Answers, Uses, Totals, Unborn, Looks, Leaks}
use Rattle.log_order.specs.declared.spots.Spot.{Spot}
use Rattle.play_check.specs.declared.Played.{Played}
use Rattle.play_check.specs.declared.Played.TheVariants.{Illegal, Ordered, Circle, Stuck}
use Rattle.run_input.specs.declared.fault.InputNo.{InputNo}
use Rattle.run_input.specs.declared.fault.InputNo.TheVariants.{Form, ReadFault, Memory, Unread}
use Rattle.run_judge.specs.declared.answer.Status.{Status}
use Rattle.run_judge.specs.declared.answer.Status.TheVariants as statuses

-- the status of what is said of a run
abbrev pub status_for : Played → Status
status_for (Illegal breach) = statuses.Illegal
status_for (Ordered order) = statuses.Legal
status_for (Circle circle) = statuses.Illegal
status_for (Stuck order) = statuses.Undecided

-- the status where no run was found
abbrev pub status_without : InputNo → Status
status_without Form = statuses.Input
status_without ReadFault = statuses.ReadFault
status_without Memory = statuses.Memory
status_without (Unread fault) = statuses.Unread

-- a note by its lane and how many of that lane's stand before it, a root, and the line behind so many of its kind
abbrev pub note_place : ℕ → ℕ → List Text
note_place lane at =
    codes "lane" ∷ decimal lane ∷ codes "after" ∷ decimal at ∷ codes "notes" ∷ []

abbrev pub root_place : RootId → List Text
root_place root = codes "root" ∷ dotted root.place root.generation ∷ []

abbrev pub line_place : ℕ → Text → List Text
line_place at kind = codes "after" ∷ decimal at ∷ kind ∷ codes "lines" ∷ []

-- a place, before what is told of it
abbrev pub told_at : List Text → Text
told_at place = spaced place ++ codes ": "

-- a line for a note
abbrev pub spot_line : Spot → Text
spot_line spot = line (note_place spot.lane spot.at)

-- the last note, if there is one
abbrev pub last_line : Option Spot → Text
last_line None = []
last_line (Some spot) = spot_line spot

-- the notes at an object up to a number, before what is told of them
abbrev pub number_place : Object → ℕ → Text
number_place object number =
    spaced (object_words object) ++ (codes " number " ++ (decimal number ++ codes ": "))

-- how a numbered history is none that can be, and how the notes at an object are
abbrev pub numbered_text : Text
numbered_text =
    codes "up to this one its notes have not each number once, or it does not accept them so"

abbrev pub history_text : Object → Text
history_text (Mail from to) =
    codes "up to this one its posts are not numbered so, or what is fetched is not what was posted"
history_text (Arena number) = numbered_text
history_text (Cache lane class) = numbered_text
history_text (Bin lane) = numbered_text
history_text (Root place) = numbered_text

-- where it is first that the law isn't kept, if it is at one place
abbrev pub place_text : Breach → Text
place_text Measures = []
place_text Lanes = []
place_text Commands = []
place_text (History object number) = number_place object number
place_text (Notes spot) = told_at (note_place spot.lane spot.at)
place_text (Marks spot) = told_at (note_place spot.lane spot.at)
place_text (Chunks at) = told_at (line_place at (codes "chunk"))
place_text (Answers lane command) = told_at (dotted lane command ∷ [])
place_text (Uses spot) = told_at (note_place spot.lane spot.at)
place_text (Totals root) = told_at (root_place root)
place_text (Unborn spot) = told_at (note_place spot.lane spot.at)
place_text (Looks spot) = told_at (note_place spot.lane spot.at)
place_text (Leaks at) = told_at (line_place at (codes "leak"))

-- how it isn't kept
abbrev pub reason_text : Breach → Text
reason_text Measures = codes "the measures are past the limits of a pool"
reason_text Lanes = codes "there are not commands and a log for each lane"
reason_text Commands = codes "the commands of some lane are none that a lane may be given"
reason_text (History object number) = history_text object
reason_text (Notes spot) = codes "the lane may not make this note"
reason_text (Marks spot) = codes "with this note the busy notes of the lane cannot be right"
reason_text (Chunks at) = codes "the next is not what the arenas have at the end"
reason_text (Answers lane command) =
    codes "from here on the replies and notes are not those of the commands and the closing"
reason_text (Uses spot) =
    codes "this note uses a root that the lane does not count, or ends one that it still counts"
reason_text (Totals root) = codes "its counts over all lanes do not add up"
reason_text (Unborn spot) = codes "this note names a root that was never born"
reason_text (Looks spot) = codes "this note looks up a count that the root cannot have"
reason_text (Leaks at) = codes "the next is not that of the next sampled root that is live"

-- the part of the law that isn't kept, and where first
abbrev pub breach_text : Breach → Text
breach_text breach = place_text breach ++ reason_text breach

-- what is said of a run
abbrev pub text_for : Played → Text
text_for (Illegal breach) = codes "not legal: " ++ (breach_text breach ++ 10 ∷ [])
text_for (Ordered order) = codes "legal\n"
text_for (Circle circle) =
    codes "not legal: each of these notes must stand before the next, the last before the first\n"
    ++ flat_map spot_line circle.items
text_for (Stuck order) =
    codes "undecided: no circle of notes, but behind these no lane can go on, of which the last is\n"
    ++ last_line (slice_get order.items (length order.items - 1))
