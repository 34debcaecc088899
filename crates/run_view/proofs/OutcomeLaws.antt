-- What each status says, from what was found up to the words.
use Rattle.std.proofs.Common.{◌≡◌, ℕ, List}
use Rattle.std.specs.Prelude.{Option, Some, None, Result, Ok, Err, IsSome}
use Rattle.pool_law.specs.declared.run.Run.{Run}
use Rattle.text_ends.specs.Spans.{SourceSpan, SinkSpan, IsUnwritten}
use Rattle.run_input.specs.declared.fault.InputNo.{InputNo}
use Rattle.run_input.specs.declared.fault.InputNo.TheVariants as refusals
use Rattle.run_input.specs.Found.{IsFound}
use Rattle.run_picture.specs.declared.roots.RootName.{RootName}
use Rattle.run_view.specs.declared.answer.Status.{Status}
use Rattle.run_view.specs.declared.answer.Status.TheVariants.{Drawn, Words, Input, ReadFault, WriteFault, Memory, Unread}
use Rattle.run_view.specs.Roots.{roots_in}
use Rattle.run_view.specs.Outcomes.{status_without, ExplainsFound, ExplainsSource, Explains}

-- words that name these
pub are_named : (named : Option (List RootName)) (roots : List RootName) → named ≡ Some roots → IsSome named
are_named None roots e = absurd (cc e)
are_named (Some some) roots e = search

-- a run that wasn't found has not the status of words
not_refused : (why : InputNo) → status_without why ≡ Words → ⊥
not_refused refusals.Form e = absurd (cc e)
not_refused refusals.ReadFault e = absurd (cc e)
not_refused refusals.Memory e = absurd (cc e)
not_refused (refusals.Unread fault) e = absurd (cc e)

not_of_source : (src : SourceSpan) (out : SinkSpan) → ExplainsSource Words src out → ⊥
unfolding ExplainsSource
not_of_source src out (Ok run, (found, never)) = never
not_of_source src out (Err why, (found, (is, unwritten))) = not_refused why is

-- want of memory
without_memory : (src : SourceSpan) (out : SinkSpan) → ExplainsSource Memory src out
    → IsUnwritten out × (src.faults_then ≡ src.faults)
unfolding ExplainsSource
without_memory src out (Ok run, ((text, (reads, same, told)), unwritten)) = (unwritten, same)
without_memory src out (Err refusals.Form, (found, (is, unwritten))) = absurd (cc is)
without_memory src out (Err refusals.ReadFault, (found, (is, unwritten))) = absurd (cc is)
without_memory src out (Err refusals.Memory, (found, (is, unwritten))) = (unwritten, found)
without_memory src out (Err (refusals.Unread fault), (found, (is, unwritten))) = absurd (cc is)

pub of_found : (s : Status) (found : Result Run InputNo) (src : SourceSpan) (out : SinkSpan) → IsFound found src
    → ExplainsFound s found out → ExplainsSource s src out
unfolding ExplainsSource
of_found s found src out is e = (found, (is, e))

pub of_source : (s : Status) (words : List (List ℕ)) (src : SourceSpan) (out : SinkSpan)
    → IsSome (roots_in words) → ExplainsSource s src out → Explains s words src out
unfolding Explains
of_source Drawn words src out named e = (named, e)
of_source Words words src out named e = absurd (not_of_source src out e)
of_source Input words src out named e = (named, e)
of_source ReadFault words src out named e = (named, e)
of_source WriteFault words src out named e = (named, e)
of_source Memory words src out named e = without_memory src out e
of_source Unread words src out named e = (named, e)
