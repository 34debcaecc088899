-- What a worker tells of the frames that it was handed, by their jobs and the bytes of their slices.
use Rattle.std.specs.Prelude.{ℕ, ◌+◌, ◌%◌, ◌==◌, if◌then◌else◌, List, [], ◌∷◌, ◌++◌, length, take, drop}
use Rattle.job_queue.specs.declared.jobs.Job.{Job}
use Rattle.job_queue.specs.declared.jobs.Job.TheVariants.{Frame, End}
use Rattle.frame_hash.specs.declared.hashes.HashOf.{HashOf}
use Rattle.frame_hash.specs.Hashes.{hash_of}

-- pieces of bytes, one behind the other
abbrev pub joined : List (List ℕ) → List ℕ
joined [] = []
joined (p ∷ ps) = p ++ joined ps

-- what is told of a frame of this number, whose slices have these bytes
abbrev pub told_of : ℕ → List (List ℕ) → HashOf
told_of number pieces = record { number = number; hash = hash_of (joined pieces) }

-- what is told of the frames of these jobs, whose slices have these bytes, in this order
abbrev pub all_told : List Job → List (List ℕ) → List HashOf
all_told [] pieces = []
all_told (Frame number slices ∷ jobs) pieces =
    told_of number (take slices pieces) ∷ all_told jobs (drop slices pieces)
all_told (End ∷ jobs) pieces = all_told jobs pieces

-- the slices of these jobs
abbrev pub slices_in : List Job → ℕ
slices_in [] = 0
slices_in (Frame number slices ∷ jobs) = slices + slices_in jobs
slices_in (End ∷ jobs) = slices_in jobs

-- a frame as the cutter hands it over: its number, and the bytes of its slices
pub record Handed : Type 0 where
  pub number : ℕ
  pub pieces : List (List ℕ)

-- the jobs of such frames, and the bytes of all slices
abbrev pub jobs_of : List Handed → List Job
jobs_of [] = []
jobs_of (h ∷ hs) = Frame h.number (length h.pieces) ∷ jobs_of hs

abbrev pub pieces_of : List Handed → List (List ℕ)
pieces_of [] = []
pieces_of (h ∷ hs) = h.pieces ++ pieces_of hs

-- what is to be told of them
abbrev pub to_tell : List Handed → List HashOf
to_tell [] = []
to_tell (h ∷ hs) = told_of h.number h.pieces ∷ to_tell hs

-- of frames that were handed over, each as its pieces, those with numbers from this one on that go to
-- one of so many workers
abbrev pub share_of : ℕ → ℕ → ℕ → List (List (List ℕ)) → List Handed
share_of workers worker number [] = []
share_of workers worker number (pieces ∷ more) =
    let rest = share_of workers worker (number + 1) more in
    if number % workers == worker
    then record { number = number; pieces = pieces } ∷ rest
    else rest
