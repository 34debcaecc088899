-- How the notes of a lane part into those of its commands.
use Rattle.std.specs.Prelude.{◌≡◌, ℕ, suc, ◌<◌, ◌≤◌, List, [], ◌∷◌, ◌++◌, length, take, Some, slice_get}
use Rattle.pool_law.specs.declared.command.Command.{Command}
use Rattle.pool_law.specs.declared.run.Reply.{Reply}
use Rattle.pool_law.specs.declared.run.Answered.{Answered}
use Rattle.pool_law.specs.declared.run.Shape.{Shape}
use Rattle.pool_law.specs.LaneLaw.{note_counts, replies_in}
use Rattle.pool_law.specs.Readers.{ToldNotes}
use Rattle.lane_reader.specs.Unlike.{AreAnswered}

-- a reply whose command made so many notes
abbrev pub with_count : Reply → ℕ → Answered
with_count reply count = record { reply = reply; notes = count }

-- by these counts the first so many commands are of this kind, and by no count is it so with the next
pub record AreCutAt
    (P : List Command → List Answered → ToldNotes → Type 0) (commands : List Command)
    (replies : List Reply) (es : ToldNotes) (counts : List ℕ) (at : ℕ) : Type 0
  where
    pub within : at ≤ length commands
    pub first : List Answered
    pub replied : replies_in first ≡ take at replies
    pub counted : note_counts first ≡ counts
    pub are : P (take at commands) first es
    pub next :
        (reply : Reply) (count : ℕ) → at < length commands → slice_get replies at ≡ Some reply →
        P (take (suc at) commands) (first ++ with_count reply count ∷ []) es → ⊥

-- the same of as many commands as there are counts
abbrev pub AreCut :
    (List Command → List Answered → ToldNotes → Type 0) → List Command → List Reply → ToldNotes →
    List ℕ → Type 0
AreCut P commands replies es counts = AreCutAt P commands replies es counts (length counts)

-- so many notes the first commands made, with their replies and by the law; of the next the law reads
-- none
abbrev pub AreNoteCounts :
    Shape → ℕ → List Command → List Reply → ToldNotes → List ℕ → Type 0
AreNoteCounts shape lane commands replies es counts =
    AreCut (AreAnswered shape lane) commands replies es counts
