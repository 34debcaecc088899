-- What replies tell, added up lane by lane. No public clause cites this module.
use Rattle.std.specs.Prelude.{ℕ, if◌then◌else◌, length, sum, sum_by}
use Rattle.pool_law.specs.declared.run.Answered.{Answered}
use Rattle.pool_law.specs.declared.run.LaneLog.{LaneLog}
use Rattle.pool_law.specs.Summary.{is_refusal, bytes_in}

-- one for a reply that refuses
abbrev pub refusals_in : Answered → ℕ
refusals_in answered = if is_refusal answered.reply then 1 else 0

-- how many bytes a reply tells
abbrev pub read_in : Answered → ℕ
read_in answered = length (bytes_in answered.reply)

-- the sum of their values
abbrev pub total_in : Answered → ℕ
total_in answered = sum (bytes_in answered.reply)

-- how many replies of a lane refuse
abbrev pub refusals_by : LaneLog → ℕ
refusals_by log = sum_by refusals_in log.replies

-- how many bytes its replies tell
abbrev pub read_by : LaneLog → ℕ
read_by log = sum_by read_in log.replies

-- the sum of their values
abbrev pub total_by : LaneLog → ℕ
total_by log = sum_by total_in log.replies
