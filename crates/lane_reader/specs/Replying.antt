-- What is answered, as tests that compute.
use Rattle.std.specs.Prelude.{ℕ, List, Bool, true, false, ◌==◌, ◌&&◌, if◌then◌else◌, Option, Some, None, option_map}
use Rattle.pool_law.specs.declared.run.Reply.{Reply}
use Rattle.pool_law.specs.Same.{same_place, same_bytes}
use Rattle.pool_law.specs.Names.{Names}
use Rattle.pool_law.specs.Lanes.{Answer}
use Rattle.pool_law.specs.LaneStates.{LaneState}
use Rattle.lane_reader.specs.declared.log.Log.{Log}
use Rattle.lane_reader.specs.declared.log.At.{At}
use Rattle.lane_reader.specs.declared.bound.Change.{Change}
use Rattle.lane_reader.specs.declared.replies.Refused.{Refused}
use Rattle.lane_reader.specs.declared.replies.Said.{Said}
use Rattle.lane_reader.specs.Reading.{log_from}
use Rattle.lane_reader.specs.Standing.{changed}

-- two replies are the same
abbrev pub same_reply : Reply → Reply → Bool
same_reply Reply.Ok Reply.Ok = true
same_reply (Reply.OkPlace size place) (Reply.OkPlace size' place') =
    (size == size') && same_place place place'
same_reply (Reply.OkBytes bytes) (Reply.OkBytes bytes') = same_bytes bytes bytes'
same_reply (Reply.OkNumber n) (Reply.OkNumber n') = n == n'
same_reply Reply.Kept Reply.Kept = true
same_reply Reply.Freed Reply.Freed = true
same_reply Reply.Unbound Reply.Unbound = true
same_reply Reply.Taken Reply.Taken = true
same_reply Reply.Illegal Reply.Illegal = true
same_reply Reply.Range Reply.Range = true
same_reply Reply.TooLarge Reply.TooLarge = true
same_reply Reply.Handles Reply.Handles = true
same_reply Reply.Full Reply.Full = true
same_reply (Reply.Busy n) (Reply.Busy n') = n == n'
same_reply Reply.Nothing Reply.Nothing = true
same_reply Reply.Composite Reply.Composite = true
same_reply Reply.Plain Reply.Plain = true
same_reply Reply.Stopped Reply.Stopped = true
same_reply _ _ = false

-- the reply of a refusal
abbrev pub reply_of : Refused → Reply
reply_of Refused.Taken = Reply.Taken
reply_of Refused.Unbound = Reply.Unbound
reply_of Refused.Composite = Reply.Composite
reply_of Refused.Plain = Reply.Plain
reply_of Refused.Illegal = Reply.Illegal
reply_of Refused.Range = Reply.Range
reply_of Refused.TooLarge = Reply.TooLarge

-- the reply that says this
abbrev pub reply_that : Said → Reply
reply_that Said.Ok = Reply.Ok
reply_that (Said.OkPlace place) = Reply.OkPlace place.len place
reply_that (Said.OkNumber n) = Reply.OkNumber n
reply_that Said.Kept = Reply.Kept
reply_that Said.Freed = Reply.Freed
reply_that Said.Handles = Reply.Handles
reply_that Said.Full = Reply.Full
reply_that (Said.Busy n) = Reply.Busy n
reply_that Said.Nothing = Reply.Nothing
reply_that (Said.Refused refused) = reply_of refused
reply_that Said.Stopped = Reply.Stopped

-- the names that are bound and the log behind, where this is answered
abbrev pub where_said :
    Reply → Option (Answer × Rattle.pool_law.specs.Readers.Log) →
    Option (Names × Rattle.pool_law.specs.Readers.Log)
where_said reply None = None
where_said reply (Some p) = if same_reply p.0.reply reply then Some (p.0.names, p.1) else None

-- the log behind bytes that are got, where these are answered
abbrev pub where_got :
    Reply → Option (List ℕ × Rattle.pool_law.specs.Readers.Log) →
    Option (Unit {0} × Rattle.pool_law.specs.Readers.Log)
where_got reply None = None
where_got reply (Some p) = if same_reply (Reply.OkBytes p.0) reply then Some (tt, p.1) else None

-- what becomes of the names of a lane, and the log behind
abbrev pub changes :
    LaneState → Log → Option (Change × At) → Option (Names × Rattle.pool_law.specs.Readers.Log)
changes s log o = option_map (λ p. (changed p.0 s.names, log_from s.seen log p.1)) o
