-- What the ends of a worker's queue know, and the rule of the queue.
use Rattle.std.specs.Prelude.{◌≡◌, ℕ, Bool, true, false, if◌then◌else◌, List, [], ◌∷◌, ◌++◌, Option}
use mathlib.Core.Option.{some}
use lib.ListN.{get_elem?}
use Rattle.crossbeam_queue.specs.declared.array_queue.Doing.{Doing}
use Rattle.crossbeam_queue.specs.declared.array_queue.Slotted.{Slotted}
use Rattle.crossbeam_queue.specs.Passes.{Pass, view, IsPassOf, ruled_capacity}
use Rattle.job_queue.specs.declared.jobs.Job.{Job}
use Rattle.job_queue.specs.declared.jobs.JobLog.{JobLog}
use Rattle.job_queue.specs.declared.jobs.TheConstants.{ROOM}

abbrev pub ends : Bool → Bool → List Job → List Job → JobLog
ends pushes pops sent got = record { pushes = pushes; pops = pops; sent = sent; got = got }

-- an end that pushes is the writer's, and knows all that was sent; one that pops is the reader's,
-- and knows all that was got
pub record Fits (writer reader : ℕ) (sent got : List Job) (port : ℕ) (v : JobLog) : Type 0 where
  pub pushes : v.pushes ≡ true → (port ≡ writer) × (v.sent ≡ sent)
  pub pops : v.pops ≡ true → (port ≡ reader) × (v.got ≡ got)

-- what was sent is what was got, and then what the queue holds
pub record Relays (items : List Job) (views : List JobLog) : Type 0 where
  pub writer : ℕ
  pub reader : ℕ
  pub sent : List Job
  pub got : List Job
  pub in_order : sent ≡ got ++ items
  pub each : (port : ℕ) (v : JobLog) → get_elem? views port ≡ some v →
      Fits writer reader sent got port v

module _ {Q A : Type 0} where
  -- the end of the queue that pushes, and the one that pops
  pub record IsSender (queue : Slotted (Option Job) (Doing Job JobLog) Q A) (end : Pass Job JobLog) :
      Type 0 where
    pub own : IsPassOf queue end
    pub room : ruled_capacity queue ≡ ROOM
    pub may : view end ≡ ends true false (view end).sent []

  pub record IsReceiver (queue : Slotted (Option Job) (Doing Job JobLog) Q A) (end : Pass Job JobLog) :
      Type 0 where
    pub own : IsPassOf queue end
    pub may : view end ≡ ends false true [] (view end).got

-- the queue holds the last of the jobs that were sent
abbrev pub HoldsLast : List Job → List Job → Type 0
HoldsLast sent items = (got : List Job) × (sent ≡ got ++ items)

-- what was sent, after a push that was made or not
abbrev pub sent_after : Bool → List Job → Job → List Job
sent_after made sent job = if made then sent ++ job ∷ [] else sent
