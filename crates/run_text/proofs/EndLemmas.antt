-- The lines of chunks and leaks.
use Rattle.std.proofs.Common.{◌≡◌, ℕ, ◌<◌, ◌^◌, List, [], ◌∷◌, length, refl, arith, true, codes, decimal}
use Rattle.pool_law.specs.declared.report.Access.{Access}
use Rattle.pool_law.specs.declared.report.Leak.{Leak}
use Rattle.pool_law.specs.declared.report.ChunkEnd.{ChunkEnd}
use Rattle.pool_law.specs.declared.report.ListName.{ListName}
use Rattle.pool_law.specs.Text.{Text, dotted, list_word, plus, spaced}
use Rattle.run_text.specs.Ending.{FitsAccess, access_text}
use Rattle.run_text.specs.Reading.{is_word}
use Rattle.run_text.proofs.WordLemmas.{lacks-decimal}

-- what is read where there is no line
abbrev pub no_chunk : ChunkEnd
no_chunk = record { arena = 0; chunk = 0; list = ListName.QInit; used = 0; free = 0 }

abbrev pub no_access : Access
no_access = Access.Touch 0

-- the words of a chunk, from each on
abbrev pub from_free : ChunkEnd → List Text
from_free c = codes "free" ∷ decimal c.free ∷ []

abbrev pub from_used : ChunkEnd → List Text
from_used c = codes "used" ∷ decimal c.used ∷ from_free c

abbrev pub from_list : ChunkEnd → List Text
from_list c = list_word c.list ∷ from_used c

abbrev pub from_pair : ChunkEnd → List Text
from_pair c = dotted c.arena c.chunk ∷ from_list c

-- those of a leak
abbrev pub from_dropped : Leak → List Text
from_dropped l = codes "dropped" ∷ decimal l.dropped ∷ []

abbrev pub from_records : Leak → List Text
from_records l = codes "records" ∷ decimal (length l.records) ∷ from_dropped l

abbrev pub from_count : Leak → List Text
from_count l = codes "count" ∷ decimal l.count ∷ from_records l

abbrev pub from_capacity : Leak → List Text
from_capacity l = codes "capacity" ∷ decimal l.capacity ∷ from_count l

pub is_word-decimal : (n : ℕ) → n < 2 ^ 64 → is_word (decimal n) ≡ true
is_word-decimal n small = lacks-decimal 32 n (omega arith) small

-- the lane of an access, and the words behind it
abbrev pub lane_of : Access → ℕ
lane_of (Access.Set lane offset len) = lane
lane_of (Access.Get lane offset len) = lane
lane_of (Access.Touch lane) = lane

abbrev pub from_word : Access → List Text
from_word (Access.Set lane offset len) = codes "set" ∷ plus offset len ∷ []
from_word (Access.Get lane offset len) = codes "get" ∷ plus offset len ∷ []
from_word (Access.Touch lane) = codes "touch" ∷ []

pub lane_low : (access : Access) → FitsAccess access → lane_of access < 2 ^ 32
lane_low (Access.Set lane offset len) fits = fits.0
lane_low (Access.Get lane offset len) fits = fits.0
lane_low (Access.Touch lane) fits = fits

-- an access's line begins with a space
pub space_first : (access : Access) → access_text access ≡ spaced ([] ∷ decimal (lane_of access) ∷ from_word access)
space_first (Access.Set lane offset len) = refl
space_first (Access.Get lane offset len) = refl
space_first (Access.Touch lane) = refl
