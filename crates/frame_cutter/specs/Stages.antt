-- What a cutter has in hand at each stage, and what went to its workers.
use Rattle.std.specs.Prelude.{ℕ, nat_lt, ◌==◌, ◌%◌, if◌then◌else◌, List, [], ◌∷◌, ◌++◌, length, map, take, drop}
use Rattle.job_queue.specs.declared.jobs.Job.{Job}
use Rattle.job_queue.specs.declared.jobs.Job.TheVariants.{End}
use Rattle.pool_law.specs.declared.id.RootId.{RootId}
use Rattle.pool_law.specs.declared.id.ViewData.{ViewData}
use Rattle.frame_hash.specs.Told.{jobs_of, pieces_of, share_of}
use Rattle.frame_cutter.specs.declared.stage.Stage.{Stage}
use Rattle.frame_cutter.specs.declared.stage.Stage.TheVariants.{Filling, Cutting, Handing, LettingGo, Ending, Over}

-- the root of the block that is being cut
abbrev pub block_roots : Stage → List RootId
block_roots Filling = []
block_roots (Cutting root used) = root ∷ []
block_roots (Handing root used posted) = root ∷ []
block_roots LettingGo = []
block_roots (Ending next) = []
block_roots Over = []

-- the slices of the present frame that went to its worker, as pieces, and those that didn't yet
abbrev pub gone_of : Stage → ℕ
gone_of Filling = 0
gone_of (Cutting root used) = 0
gone_of (Handing root used posted) = posted
gone_of LettingGo = 0
gone_of (Ending next) = 0
gone_of Over = 0

-- the roots that the cutter counts: that of its block, and that of each slice which it still has
abbrev pub roots_at : Stage → List ViewData → List RootId
roots_at stage slices = block_roots stage ++ map (λ v. v.root) (drop (gone_of stage) slices)

-- what a worker is told at the end
abbrev pub ends_at : Stage → ℕ → List Job
ends_at Filling worker = []
ends_at (Cutting root used) worker = []
ends_at (Handing root used posted) worker = []
ends_at LettingGo worker = []
ends_at (Ending next) worker = if nat_lt worker next then End ∷ [] else []
ends_at Over worker = End ∷ []

-- the jobs of a worker, where these frames were handed over
abbrev pub jobs_at : ℕ → ℕ → List (List (List ℕ)) → Stage → List Job
jobs_at workers worker handed stage =
    jobs_of (share_of workers worker 0 handed) ++ ends_at stage worker

-- and the pieces that went to it: those of these frames, and of the next one those that did so far
abbrev pub pieces_at : ℕ → ℕ → List (List (List ℕ)) → Stage → List (List ℕ) → List (List ℕ)
pieces_at workers worker handed stage pieces =
    pieces_of (share_of workers worker 0 handed)
    ++ (if length handed % workers == worker then take (gone_of stage) pieces else [])
