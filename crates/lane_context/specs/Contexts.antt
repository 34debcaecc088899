-- What a lane works with, and what a turn of it does.
use Rattle.std.specs.Prelude.{◌≡◌, ◌≢◌, ℕ, ◌+◌, ◌*◌, ◌<◌, ◌≤◌, Bool, ◌==◌, if◌then◌else◌, true, false, ⊤, List, [], ◌∷◌, ◌++◌, length, map, Some, None, IsSome, Ok, vec_capacity}
use Rattle.size_classes.specs.Sizes.{class_of}
use Rattle.pool_law.specs.declared.command.Command.{Command}
use Rattle.pool_law.specs.declared.note.Held.{Held}
use Rattle.pool_law.specs.declared.run.Reply.{Reply}
use Rattle.pool_law.specs.declared.run.Answered.{Answered}
use Rattle.pool_law.specs.declared.run.Shape.{Shape}
use Rattle.pool_law.specs.Bounds.{most_notes, may_ask}
use Rattle.pool_law.specs.Limits.{cached_classes, geometry_of}
use Rattle.pool_law.specs.LaneLaw.{sweep_period, before_stop}
use Rattle.pool_law.specs.LaneStates.{LaneState, new_lane, log_at}
use Rattle.pool_law.specs.Lanes.{Answer, answer, allotted, composed, copied_to, not_carried_out, regrown, release_parts, turn}
use Rattle.pool_law.specs.Names.{Names, Plain}
use Rattle.pool_law.specs.Readers.{ToldNotes, Log, Reader, ◌>>=◌, ◌>>◌, give, read_all}
use Rattle.leak_records.specs.Records.{new_sampler}
use Rattle.pool_table.specs.declared.views.Entry.{Entry}
use Rattle.pool_table.specs.declared.views.SeatView.{SeatView}
use Rattle.shared_pool.specs.SeatViews.{view_of, SameSeat}
use Rattle.shared_pool.specs.declared.pool.SharedPool.{SharedPool}
use Rattle.shared_pool.specs.Closing.{note_of, entry_of}
use Rattle.shared_pool.specs.MailAnswers.{IsDrained, RoomFor}
use Rattle.pool_table.specs.Letters.{sent_on}
use Rattle.shared_pool.specs.SeatLanes.{lane_of}
use Rattle.shared_pool.specs.Seats.{IsPoolSeat, FoundBusy}
use Rattle.shared_pool.specs.Wearing.{IsShort}
use Rattle.lane_context.specs.declared.access.Access.{Access}
use Rattle.lane_context.specs.declared.access.Access.TheVariants.{Refused, Set, Get}
use Rattle.lane_context.specs.declared.context.Context.{Context}
use Rattle.lane_context.specs.declared.context.Stage.{Stage}
use Rattle.lane_context.specs.declared.context.Stage.TheVariants.{Ready, Allotting, Ending, Sweeping, Closing, Crossing, Parting, Consolidating, Copying, Replacing, Growing}
use Rattle.lane_context.specs.declared.context.Turn.{Turn}
use Rattle.lane_context.specs.declared.context.Turn.TheVariants.{Went, Pending, Waiting}
use Rattle.lane_stages.specs.declared.draining.DrainKind.TheVariants.{Trim, Close}
use Rattle.lane_stages.specs.declared.draining.Draining.{Draining}
use Rattle.lane_stages.specs.declared.draining.Draining.TheVariants.{Done as AllDrained}
use Rattle.seat_work.specs.Hands.{Hand, empty_hand, IsHeld}
use Rattle.lane_stages.specs.Sampled.{AreSampled}
use Rattle.lane_stages.specs.Budgets.{Left, most_of_lane, notes_alone, with_sheds, Spends}
use Rattle.seat_work.specs.Growth.{HasMore}
use Rattle.lane_stages.specs.Counting.{CountsAre}
use Rattle.lane_context.specs.Named.{AreComposites, AreInside, NamesAre, bound_at, known_to}
use Rattle.lane_stages.specs.NextNotes.{BeginsAt, CanBeRead}
use Rattle.seat_work.specs.Readings.{ReadsOn}
use Rattle.lane_stages.specs.Readings.{none_asked}
use Rattle.lane_context.specs.Readings.{swept, renamed}
use Rattle.lane_stages.specs.Allotments as allotment
use Rattle.lane_stages.specs.Endings as ending
use Rattle.lane_stages.specs.Drainings as draining
use Rattle.lane_stages.specs.Crossings as crossing
use Rattle.lane_stages.specs.Copyings as copying
use Rattle.lane_stages.specs.Releasings as releasing
use Rattle.lane_stages.specs.Growings as growing
use Rattle.lane_context.specs.Composing.{HasLast, IsBindable, IsCandidate, IsConsolidation, MarksFit, crossed, ended}

-- what the seat noted, and as the law reads it
abbrev pub notes_of : Context → List Entry
notes_of d = (view_of d.seat).own.notes

abbrev pub entries_of : Context → ToldNotes
entries_of d = map entry_of (notes_of d)

-- the context of a lane at a pool, with this in hand: its log, its counts and its sampler are those of
-- what its seat noted
pub record IsContext (pool : SharedPool) (hand : Hand) (d : Context) : Type 0 where
  pub shape : d.shape ≡ pool.table.layout.shape
  pub classes : d.classes ≡ geometry_of d.shape
  -- the pool's places can't wear out
  pub short : IsShort pool.table.layout
  pub seat : IsPoolSeat pool d.seat
  pub held : IsHeld hand (view_of d.seat)
  pub log : d.notes.items ≡ map note_of (notes_of d)
  pub counts : CountsAre d.counts (entries_of d)
  pub places : length d.counts ≡ d.shape.lanes * d.shape.handles
  pub sampled :
      AreSampled (new_sampler (lane_of d.seat) d.shape.level d.shape.interval)
      (notes_of d) d.sampler
  pub begun : d.begun ≤ length (notes_of d)
  -- a command adds at most one to the count of a composite
  pub composites : AreComposites d.composes (1 + length d.replies.items) d.names
  pub inside : AreInside (known_to d.seat) d.names

-- what is in hand at a stage
abbrev pub hand_of : Stage → Hand
hand_of Ready = empty_hand
hand_of (Allotting name size class stage) = allotment.hand_of stage
hand_of (Ending stage) = ending.hand_of stage
hand_of (Sweeping reply stage) = draining.hand_of Trim stage
hand_of (Closing stage) = draining.hand_of Close stage
hand_of (Crossing name marks stage) = empty_hand
hand_of (Parting name stage) = releasing.hand_of stage
hand_of (Consolidating p stage) = allotment.hand_of stage
hand_of (Copying name whole parts stage) = empty_hand
hand_of (Replacing name whole stage) = releasing.hand_of stage
hand_of (Growing name view size class stage) = growing.hand_of stage

-- and what is known of it; a sweep is due only behind the command that asked a cache
abbrev pub Fits : SharedPool → Context → Stage → Type 0
Fits pool d Ready = d.asked < sweep_period
Fits pool d (Allotting name size class stage) =
    (class_of (geometry_of d.shape) size ≡ Some class) × allotment.Fits pool d.seat class stage
    × (d.asked + (allotment.left_of stage).asks ≤ sweep_period)
Fits pool d (Ending stage) = ending.Fits pool d.seat stage × (d.asked < sweep_period)
Fits pool d (Sweeping reply stage) =
    draining.Fits pool d.seat stage × (d.asked < sweep_period)
    × (before_stop (reply ∷ []) ≡ 1) × (stage ≢ AllDrained)
Fits pool d (Closing stage) = draining.Fits pool d.seat stage
Fits pool d (Crossing name marks stage) =
    crossing.Fits (view_of d.seat) stage × (d.asked < sweep_period)
Fits pool d (Parting name stage) = releasing.Fits pool d.seat stage × (d.asked < sweep_period)
Fits pool d (Consolidating p stage) =
    IsConsolidation (known_to d.seat) d.shape d.counts p
    × allotment.Fits pool d.seat p.class stage
    × (d.asked + (allotment.left_of stage).asks ≤ sweep_period)
Fits pool d (Copying name whole parts stage) =
    copying.Fits (view_of d.seat) stage × (d.asked ≤ sweep_period)
    × (releasing.AreUncounted d.counts parts.items → ⊥)
Fits pool d (Replacing name whole stage) =
    releasing.Fits pool d.seat stage × (d.asked ≤ sweep_period)
    × (releasing.IsOver d.counts stage → ⊥)
Fits pool d (Growing name view size class stage) =
    (class_of (geometry_of d.shape) size ≡ Some class)
    × growing.Fits pool d.seat view.at.root size class stage
    × (d.asked + (growing.left_of stage).asks ≤ sweep_period)

-- how many births and retains a command makes: no fewer than the moves that it takes, since a birth
-- takes none
abbrev pub moves_of : Command → ℕ
moves_of (Command.Alloc name size) = 1
moves_of (Command.Slice fresh name at len retained) = if retained then 1 else 0
moves_of (Command.Retain name) = 1
moves_of (Command.Compose fresh names) = 1
moves_of (Command.Add whole name) = 1
moves_of _ = 0

-- how many parcels it sends to a lane
abbrev pub sends_of : Command → ℕ → ℕ
sends_of (Command.Send name lane) to = if lane == to then 1 else 0
sends_of _ to = 0

-- what a command may spend in all, but for a sweep, in a lane that makes composites or in one that
-- makes none
abbrev pub left_for : Bool → Command → Left
left_for composes command =
    record {
      notes = most_notes composes command;
      asks = may_ask command;
      takes = may_ask command;
      moves = moves_of command;
      sends = sends_of command;
    }

-- the same, and two notes for each part that is copied, and six for each that is released
abbrev pub with_parts : ℕ → ℕ → Left → Left
with_parts copied parts left =
    record left { notes = left.notes + 2 * copied + 6 * parts }

-- what it may still spend from this stage on; a sweep, what caches shed in it too
abbrev pub left_at : Bool → Command → Stage → SeatView → Left
left_at composes command Ready v = left_for composes command
left_at composes command (Allotting name size class stage) v = allotment.left_of stage
left_at composes command (Ending stage) v = ending.left_of stage
left_at composes command (Sweeping reply stage) v = draining.left_of stage v
left_at composes command (Closing stage) v = notes_alone 0
left_at composes command (Crossing name marks stage) v = crossing.left_of stage
left_at composes command (Parting name stage) v = releasing.left_of stage
left_at composes command (Consolidating p stage) v =
    with_parts (length p.transfers.items) (length p.parts.items) (allotment.left_of stage)
left_at composes command (Copying name whole parts stage) v =
    with_parts 0 (length parts.items) (copying.left_of stage)
left_at composes command (Replacing name whole stage) v = releasing.left_of stage
left_at composes command (Growing name view size class stage) v = growing.left_of stage

-- the same at this context
abbrev pub left_from : Context → Command → Stage → Left
left_from d command stage = left_at d.composes command stage (view_of d.seat)

-- what a drain of the caches may still spend there
abbrev pub left_draining : Context → Draining → Left
left_draining d stage = draining.left_of stage (view_of d.seat)

-- the same, with what caches may shed
abbrev pub left_now : Bool → Command → Stage → SeatView → Left
left_now composes command Ready v = with_sheds v (left_for composes command)
left_now composes command (Allotting name size class stage) v =
    with_sheds v (allotment.left_of stage)
left_now composes command (Ending stage) v = with_sheds v (ending.left_of stage)
left_now composes command (Sweeping reply stage) v = draining.left_of stage v
left_now composes command (Closing stage) v = notes_alone 0
left_now composes command (Crossing name marks stage) v = with_sheds v (crossing.left_of stage)
left_now composes command (Parting name stage) v = with_sheds v (releasing.left_of stage)
left_now composes command (Consolidating p stage) v =
    let left = allotment.left_of stage in
    with_sheds v (with_parts (length p.transfers.items) (length p.parts.items) left)
left_now composes command (Copying name whole parts stage) v =
    with_sheds v (with_parts 0 (length parts.items) (copying.left_of stage))
left_now composes command (Replacing name whole stage) v = with_sheds v (releasing.left_of stage)
left_now composes command (Growing name view size class stage) v =
    with_sheds v (growing.left_of stage)

-- how the law reads the notes of a command from this stage on, with the names that are bound now
abbrev pub reads_from : Shape → ℕ → LaneState → Command → Stage → Reader Answer
reads_from shape lane s command Ready = turn sweep_period shape lane s command
reads_from shape lane s command (Allotting name size class stage) =
    allotment.rest_of shape lane size class stage >>= (λ got. give (allotted s name got))
    >>= swept lane
reads_from shape lane s command (Ending stage) =
    ending.rest_of shape stage >> give (answer Reply.Freed s.names) >>= swept lane
reads_from shape lane s command (Sweeping reply stage) =
    draining.rest_of Trim lane stage >> give (answer reply s.names)
reads_from shape lane s command (Closing stage) = λ log. None
reads_from shape lane s command (Crossing name marks stage) =
    crossing.rest_of stage >>= (λ bytes. give (crossed s name marks stage bytes)) >>= swept lane
reads_from shape lane s command (Parting name stage) =
    releasing.rest_of shape stage >> give (ended s name) >>= swept lane
reads_from shape lane s command (Consolidating p stage) =
    allotment.rest_of shape lane p.size p.class stage >>= copied_to shape p.whole.value
    >>= (λ made. give (composed s p.name made)) >>= swept lane
reads_from shape lane s command (Copying name whole parts stage) =
    copying.rest_of stage >> release_parts shape parts.items
    >> give (composed s name (Ok whole.value)) >>= swept lane
reads_from shape lane s command (Replacing name whole stage) =
    releasing.rest_of shape stage >> give (composed s name (Ok whole.value)) >>= swept lane
reads_from shape lane s command (Growing name view size class stage) =
    growing.rest_of shape lane view.at.root size class stage
    >>= (λ got. give (regrown s name view.at got)) >>= swept lane

-- a turn adds these entries to what the seat noted, and nothing else is new at the context but its
-- names and its replies
pub record ContextGrew (pool : SharedPool) (hand : Hand) (old new : Context) (added : List Entry) :
    Type 0
  where
    pub context : IsContext pool hand new
    pub same : SameSeat old.seat new.seat
    pub more : HasMore (view_of old.seat) (view_of new.seat) added
    pub shape : new.shape ≡ old.shape
    pub composes : new.composes ≡ old.composes
    pub room : vec_capacity old.notes ≤ vec_capacity new.notes
    pub replies_room : vec_capacity old.replies ≤ vec_capacity new.replies
    pub name_count : length new.names ≡ length old.names

-- the lane's log, read as far as its seat noted, with these entries behind
abbrev pub log_of : Context → ToldNotes → Log
log_of d rest = record { seen = entries_of d; asked = d.asked; left = rest }

-- the command that was under way is answered, as the law reads its notes
pub record IsAnswered (old new : Context) (added : List Entry) (read : Reader Answer) : Type 0 where
  pub answered : Answered
  pub replies : new.replies.items ≡ old.replies.items ++ answered ∷ []
  pub unstopped : before_stop (answered.reply ∷ []) ≡ 1
  pub notes : old.begun + answered.notes ≡ length (notes_of new)
  pub begun : new.begun ≡ length (notes_of new)
  pub bound : Names
  pub names : NamesAre bound new.names
  pub reads : (rest : ToldNotes) →
      read (log_of old (map entry_of added ++ rest))
      ≡ Some (answer answered.reply bound, log_of new rest)

-- it goes on where something was noted, and is now read so, with the names that are bound now
pub record GoesOn
    (old new : Context) (added : List Entry) (before : Reader Answer) (after : Names → Reader Answer) :
    Type 0
  where
    pub some : 0 < length added
    pub replies : new.replies.items ≡ old.replies.items
    pub begun : new.begun ≡ old.begun
    pub bound : Names
    pub names : NamesAre bound new.names
    pub reads : (rest : ToldNotes) →
        before (log_of old (map entry_of added ++ rest)) ≡ after bound (log_of new rest)

-- it waits, and nothing is new
pub record Waits (old new : Context) (added : List Entry) : Type 0 where
  pub none : added ≡ []
  pub replies : new.replies.items ≡ old.replies.items
  pub names : new.names ≡ old.names
  pub begun : new.begun ≡ old.begun
  pub asked : new.asked ≡ old.asked

-- another seat was there, and this holds of it
abbrev pub IfPending : Turn → (Held → Type 0) → Type 0
IfPending (Pending held next) P = P held
IfPending _ P = ⊤

-- no parcel from that lane was there, and this holds of it
abbrev pub IfWaiting : Turn → (ℕ → Type 0) → Type 0
IfWaiting (Waiting sender) P = P sender
IfWaiting _ P = ⊤

-- the command receives from that lane
abbrev pub ReceivesFrom : Command → ℕ → Type 0
ReceivesFrom (Command.Recv fresh lane) sender = lane ≡ sender
ReceivesFrom _ sender = ⊥

-- what is to be done next after a turn from this stage
abbrev pub next_of : Stage → Turn → Stage
next_of stage (Went next) = next
next_of stage (Pending held next) = next
next_of stage (Waiting sender) = stage

-- a turn of a command that is under way, from this stage on, in this state of the law
abbrev pub ComesTo :
    (LaneState → Stage → Reader Answer) → LaneState → Context → Context → List Entry → Stage → Turn →
    Type 0
ComesTo reads s old new added stage (Went Ready) = IsAnswered old new added (reads s stage)
ComesTo reads s old new added stage (Went (Closing next)) = ⊥
ComesTo reads s old new added stage (Went next) =
    GoesOn old new added (reads s stage) (λ names. reads (renamed s names) next)
ComesTo reads s old new added stage (Pending held (Closing next)) = ⊥
ComesTo reads s old new added stage (Pending held Ready) =
    (stage ≡ Ready) × Waits old new added × CanBeRead (reads s stage)
ComesTo reads s old new added stage (Pending held next) =
    ((log : Log) → reads s stage log ≡ reads s next log) × Waits old new added
ComesTo reads s old new added stage (Waiting sender) = (stage ≡ Ready) × Waits old new added

-- what the lane may spend after a turn, and what caches may shed
abbrev pub left_after : Bool → Command → Stage → Turn → SeatView → Left
left_after composes command stage (Went Ready) v = with_sheds v (notes_alone 0)
left_after composes command stage (Went next) v = left_now composes command next v
left_after composes command stage (Pending held next) v = left_now composes command next v
left_after composes command stage (Waiting sender) v = left_now composes command stage v

-- a turn spent no more than what is left less, but for the notes of caches that are asked in a sweep
-- that it began
pub record SpendsAt (old new : Context) (before after : Left) : Type 0 where
  pub sweeps : ℕ
  pub notes :
      after.notes + length (notes_of new)
      ≤ before.notes + length (notes_of old) + cached_classes * sweeps
  pub asks : after.asks + new.asked + sweep_period * sweeps ≤ before.asks + old.asked
  pub moves : after.moves + (view_of old.seat).moves ≤ before.moves + (view_of new.seat).moves
  pub sends : (to : ℕ) →
      after.sends to + sent_on (lane_of new.seat) to (notes_of new)
      ≤ before.sends to + sent_on (lane_of old.seat) to (notes_of old)

-- what is behind the stage may be bound to its name
abbrev pub NameFits : Context → Stage → Type 0
NameFits d Ready = ⊤
NameFits d (Allotting name size class stage) = name < length d.names
NameFits d (Ending stage) = ⊤
NameFits d (Sweeping reply stage) = ⊤
NameFits d (Closing stage) = ⊤
NameFits d (Crossing name marks stage) = MarksFit d.names name marks
NameFits d (Parting name stage) = HasLast d.names name
NameFits d (Consolidating p stage) = IsCandidate d p.name p.whole.value
NameFits d (Copying name whole parts stage) = IsBindable d name whole.value
NameFits d (Replacing name whole stage) = IsBindable d name whole.value
NameFits d (Growing name view size class stage) = bound_at d.names name ≡ Some (Plain view.at)

-- a turn of the command that is under way, in this state of the law
pub record HasTurned (pool : SharedPool) (old new : Context) (s : LaneState) (command : Command)
    (stage : Stage) (turn : Turn) : Type 0 where
  pub added : List Entry
  pub grew : ContextGrew pool (hand_of (next_of stage turn)) old new added
  pub fits : Fits pool new (next_of stage turn)
  pub name : NameFits new (next_of stage turn)
  pub spends :
      SpendsAt old new
      (left_now old.composes command stage (view_of old.seat))
      (left_after old.composes command stage turn (view_of new.seat))
  pub comes :
      let reads = λ (state : LaneState). reads_from old.shape (lane_of old.seat) state command in
      ComesTo reads s old new added stage turn
  pub waits : IfWaiting turn (λ sender.
      ReceivesFrom command sender × IsDrained sender old.seat)
  pub held :
      let reads = reads_from old.shape (lane_of old.seat) s command stage in
      IfPending turn (λ held.
      FoundBusy pool held.object false old.seat new.seat held × BeginsAt held.object reads)

-- the command of a stopped lane is answered so, and its notes are those of a command that isn't
-- carried out
pub record IsPassedOver (old new : Context) (added : List Entry) (command : Command) : Type 0 where
  pub notes : ℕ
  pub replies :
      new.replies.items
      ≡ old.replies.items ++ record { reply = Reply.Stopped; notes = notes } ∷ []
  pub counted : old.begun + notes ≡ length (notes_of new)
  pub begun : new.begun ≡ length (notes_of new)
  pub reads :
      IsSome (read_all (not_carried_out (lane_of old.seat) command)
      (log_at new_lane (map entry_of added)))

-- how a command of a stopped lane ends: it is answered
abbrev pub PassesTo : Context → Context → List Entry → Command → Turn → Type 0
PassesTo old new added command (Went Ready) = IsPassedOver old new added command
PassesTo old new added command (Went next) = ⊥
PassesTo old new added command (Pending held next) = ⊥
PassesTo old new added command (Waiting sender) = ⊥

-- a turn passes a command of a stopped lane over
pub record PassesOver (pool : SharedPool) (old new : Context) (command : Command) (turn : Turn) :
    Type 0
  where
    pub added : List Entry
    pub grew : ContextGrew pool empty_hand old new added
    pub names : new.names ≡ old.names
    pub asked : new.asked ≡ old.asked
    pub spends :
        SpendsAt old new
        (left_now old.composes command Ready (view_of old.seat))
        (left_after old.composes command Ready turn (view_of new.seat))
    pub comes : PassesTo old new added command turn

-- the lane context's log, its seat and its mails have room for what is left
pub record HasRoomFor (pool : SharedPool) (d : Context) (left : Left) : Type 0 where
  pub notes : length (notes_of d) + left.notes ≤ vec_capacity d.notes
  pub few : length (notes_of d) + left.notes ≤ most_of_lane
  pub turns : left.notes ≤ (view_of d.seat).turns
  pub moves : left.moves ≤ (view_of d.seat).moves
  pub mails : (to : ℕ) → to < d.shape.lanes →
      RoomFor pool (lane_of d.seat) to (sent_on (lane_of d.seat) to (notes_of d) + left.sends to)

-- the command names only what the context and the shape have
abbrev pub FitsContext : Context → Command → Type 0
FitsContext d (Command.Alloc name size) = name < length d.names
FitsContext d (Command.Set name at bytes tries) = name < length d.names
FitsContext d (Command.Get name at len tries) = name < length d.names
FitsContext d (Command.Write name bytes) = name < length d.names
FitsContext d (Command.Read name len) = name < length d.names
FitsContext d (Command.Slice fresh name at len retained) = fresh < length d.names
FitsContext d (Command.Dup fresh name) = fresh < length d.names
FitsContext d (Command.Retain name) = ⊤
FitsContext d (Command.Release name) = ⊤
FitsContext d (Command.Refcnt name) = ⊤
FitsContext d (Command.Touch name) = ⊤
FitsContext d (Command.Forget name) = name < length d.names
FitsContext d (Command.Send name lane) = lane < d.shape.lanes
FitsContext d (Command.Recv fresh lane) = (fresh < length d.names) × (lane < d.shape.lanes)
FitsContext d (Command.Compose fresh names) =
    (fresh < length d.names) × (d.composes ≡ true)
    × (1 ≤ length names) × (length names ≤ 24)
FitsContext d (Command.Add whole name) = ⊤
FitsContext d (Command.Capacity name size) = name < length d.names

-- a command has begun, and is not answered yet
abbrev pub IsUnderway : Stage → Type 0
IsUnderway (Allotting name size class stage) = ⊤
IsUnderway (Ending stage) = ⊤
IsUnderway (Sweeping reply stage) = ⊤
IsUnderway (Crossing name marks stage) = ⊤
IsUnderway (Parting name stage) = ⊤
IsUnderway (Consolidating p stage) = ⊤
IsUnderway (Copying name whole parts stage) = ⊤
IsUnderway (Replacing name whole stage) = ⊤
IsUnderway (Growing name view size class stage) = ⊤
IsUnderway _ = ⊥

abbrev pub AccessFits : Context → Access → Type 0
AccessFits d (Refused refusal) = ⊤
AccessFits d (Set reach bytes) = reach.name < length d.names
AccessFits d (Get reach note reply) = reach.name < length d.names

-- a turn of the closing, from this stage on
abbrev pub ClosesTo : Draining → Turn → Draining → List Entry → Type 0
ClosesTo stage (Went (Closing next)) after added = (after ≡ next) × (0 < length added)
ClosesTo stage (Pending held (Closing next)) after added =
    (next ≡ stage) × (after ≡ stage) × (added ≡ [])
ClosesTo stage _ after added = ⊥

pub record HasTurnedClosing
    (pool : SharedPool) (old new : Context) (stage : Draining) (turn : Turn) : Type 0 where
  pub after : Draining
  pub added : List Entry
  pub comes : ClosesTo stage turn after added
  pub grew : ContextGrew pool (draining.hand_of Close after) old new added
  pub fits : draining.Fits pool new.seat after
  pub spends :
      Spends (view_of old.seat) (view_of new.seat)
      (draining.left_of stage (view_of old.seat)) (draining.left_of after (view_of new.seat))
  pub replies : new.replies.items ≡ old.replies.items
  pub names : new.names ≡ old.names
  pub begun : new.begun ≡ old.begun
  pub asked : new.asked ≡ old.asked
  pub held :
      let reads = draining.rest_of Close (lane_of old.seat) stage in
      IfPending turn (λ held.
      FoundBusy pool held.object false old.seat new.seat held × BeginsAt held.object reads)
  pub reads :
      let reads = draining.rest_of Close (lane_of old.seat) in
      ReadsOn (reads stage) (map entry_of added) none_asked (reads after)
