-- The lines of chunks and leaks, and whether their numbers are of their types.
use Rattle.std.specs.Prelude.{◌^◌, ◌<◌, List, [], ◌∷◌, ◌++◌, codes, decimal, length, map}
use Rattle.std.specs.List.{All}
use Rattle.pool_law.specs.declared.report.ChunkEnd.{ChunkEnd}
use Rattle.pool_law.specs.declared.report.Access.{Access}
use Rattle.pool_law.specs.declared.report.Leak.{Leak}
use Rattle.pool_law.specs.Text.{Text, dotted, list_word, named, plus, spaced}

-- ---- Chunks.

-- the line of a chunk
abbrev pub chunk_text : ChunkEnd → Text
chunk_text c =
    spaced
    (codes "chunk"
    ∷ dotted c.arena c.chunk
    ∷ list_word c.list
    ∷ named (codes "used") c.used (named (codes "free") c.free []))

-- the numbers of a chunk are of their types
abbrev pub FitsChunk : ChunkEnd → Type 0
FitsChunk c = (c.arena < 2 ^ 32) × (c.chunk < 2 ^ 32) × (c.used < 2 ^ 32) × (c.free < 2 ^ 32)

-- ---- Leaks.

-- the words of an access, before which a space stands
abbrev pub access_words : Access → List Text
access_words (Access.Set lane offset len) = decimal lane ∷ codes "set" ∷ plus offset len ∷ []
access_words (Access.Get lane offset len) = decimal lane ∷ codes "get" ∷ plus offset len ∷ []
access_words (Access.Touch lane) = decimal lane ∷ codes "touch" ∷ []

-- its line
abbrev pub access_text : Access → Text
access_text access = 32 ∷ spaced (access_words access)

-- the numbers of an access are of their types
abbrev pub FitsAccess : Access → Type 0
FitsAccess (Access.Set lane offset len) = (lane < 2 ^ 32) × (offset < 2 ^ 32) × (len < 2 ^ 32)
FitsAccess (Access.Get lane offset len) = (lane < 2 ^ 32) × (offset < 2 ^ 32) × (len < 2 ^ 32)
FitsAccess (Access.Touch lane) = lane < 2 ^ 32

-- the words of a leak behind the first
abbrev pub leak_words : Leak → List Text
leak_words l =
    dotted l.lane l.serial
    ∷ named (codes "capacity") l.capacity
    (named (codes "count") l.count
    (named (codes "records") (length l.records) (named (codes "dropped") l.dropped [])))

-- the lines of a leak
abbrev pub leak_texts : Leak → List Text
leak_texts l = spaced (codes "leak" ∷ leak_words l) ∷ map access_text l.records

-- the lines of leaks
abbrev pub leaks_texts : List Leak → List Text
leaks_texts [] = []
leaks_texts (l ∷ ls) = leak_texts l ++ leaks_texts ls

-- the numbers of a leak are of their types
abbrev pub FitsLeak : Leak → Type 0
FitsLeak l =
    (l.lane < 2 ^ 32)
    × (l.serial < 2 ^ 32)
    × (l.capacity < 2 ^ 32)
    × (l.count < 2 ^ 32)
    × (length l.records < 2 ^ 64)
    × (l.dropped < 2 ^ 64)
    × All FitsAccess l.records
