-- What each status says, from what was found up to the words.
use Rattle.std.proofs.Common.{◌≡◌, ℕ, List, [], arith}
use Rattle.std.specs.Prelude.{Result, Ok, Err}
use Rattle.pool_law.specs.declared.run.Run.{Run}
use Rattle.play_check.specs.declared.Played.{Played}
use Rattle.play_check.specs.declared.Played.TheVariants as says
use Rattle.play_check.specs.Judging.{Judges}
use Rattle.text_ends.specs.Spans.{SourceSpan, SinkSpan}
use Rattle.run_input.specs.declared.fault.InputNo.{InputNo}
use Rattle.run_input.specs.declared.fault.InputNo.TheVariants as refusals
use Rattle.run_input.specs.Found.{IsFound}
use Rattle.run_judge.specs.declared.answer.Status.{Status}
use Rattle.run_judge.specs.declared.answer.Status.TheVariants.{Legal, Illegal, Words, Input, ReadFault, WriteFault, Memory, Undecided, Unread}
use Rattle.run_judge.specs.Told.{status_for, status_without}
use Rattle.run_judge.specs.Outcomes.{ExplainsPlayed, ExplainsRun, ExplainsFound, ExplainsSource, Explains}

-- no status of a run, nor of one that wasn't found, is that of words
not_words : (p : Played) → status_for p ≡ Words → ⊥
not_words (says.Illegal b) e = absurd (cc e)
not_words (says.Ordered o) e = absurd (cc e)
not_words (says.Circle o) e = absurd (cc e)
not_words (says.Stuck o) e = absurd (cc e)

not_refused : (why : InputNo) → status_without why ≡ Words → ⊥
not_refused refusals.Form e = absurd (cc e)
not_refused refusals.ReadFault e = absurd (cc e)
not_refused refusals.Memory e = absurd (cc e)
not_refused (refusals.Unread fault) e = absurd (cc e)

not_of_source : (src : SourceSpan) (out : SinkSpan) → ExplainsSource Words src out → ⊥
unfolding ExplainsRun ExplainsSource
not_of_source src out (Ok run, (found, (p, (judges, (is, written))))) = not_words p is
not_of_source src out (Err why, (found, (is, unwritten))) = not_refused why is

-- ---- From what is said of a run to a source, to all words.

pub of_played : (s : Status) (run : Run) (p : Played) (out : SinkSpan) → Judges run p → ExplainsPlayed s p out
    → ExplainsRun s run out
unfolding ExplainsRun
of_played Legal run p out j e = (p, (j, e))
of_played Illegal run p out j e = (p, (j, e))
of_played Words run p out j e = (p, (j, e))
of_played Input run p out j e = (p, (j, e))
of_played ReadFault run p out j e = (p, (j, e))
of_played WriteFault run p out j e = (p, (j, e))
of_played Memory run p out j e = e
of_played Undecided run p out j e = (p, (j, e))
of_played Unread run p out j e = (p, (j, e))

pub of_found : (s : Status) (found : Result Run InputNo) (src : SourceSpan) (out : SinkSpan) → IsFound found src
    → ExplainsFound s found out → ExplainsSource s src out
unfolding ExplainsSource
of_found s found src out is e = (found, (is, e))

pub of_source : (s : Status) (words : List (List ℕ)) (src : SourceSpan) (out : SinkSpan) → words ≡ []
    → ExplainsSource s src out → Explains s words src out
unfolding Explains
of_source Legal words src out none e = (none, e)
of_source Illegal words src out none e = (none, e)
of_source Words words src out none e = absurd (not_of_source src out e)
of_source Input words src out none e = (none, e)
of_source ReadFault words src out none e = (none, e)
of_source WriteFault words src out none e = (none, e)
of_source Memory words src out none e = (none, e)
of_source Undecided words src out none e = (none, e)
of_source Unread words src out none e = (none, e)
