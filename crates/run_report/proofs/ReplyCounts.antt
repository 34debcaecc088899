-- A lane has as many replies as commands, so a legal run has few.
use Rattle.std.proofs.Common.{◌≡◌, ℕ, zero, suc, ◌≤◌, ◌<◌, List, [], ◌∷◌, length, map, take, drop, get_or, Option, Some, None, refl, sym, ap, ◌∙◌, arith, length-take, length-drop}
use Rattle.std.proofs.lemmas.List.{length-map}
use Rattle.std.specs.Prelude.{All}
use Rattle.pool_law.specs.declared.command.Command.{Command}
use Rattle.pool_law.specs.declared.run.Shape.{Shape}
use Rattle.pool_law.specs.declared.run.Reply.{Reply}
use Rattle.pool_law.specs.declared.run.Answered.{Answered}
use Rattle.pool_law.specs.declared.run.LaneLog.{LaneLog}
use Rattle.pool_law.specs.declared.run.Run.{Run}
use Rattle.pool_law.specs.Options.{◌>>=◌}
use Rattle.pool_law.specs.Readers.{ToldNotes, read_all}
use Rattle.pool_law.specs.Lanes.{not_carried_out}
use Rattle.pool_law.specs.LaneStates.{LaneState, new_lane, log_at}
use Rattle.pool_law.specs.LaneLaw.{IsLaneLog, sweep_period, lane_step, lane_run, before_stop, stopped_run, pieces, note_counts, replies_in}
use Rattle.pool_law.specs.Logs.{of_lane}
use Rattle.pool_law.specs.Legal.{IsLegal, replies_of}

-- a lane that runs replies to each of its commands
lane_run-length : (period : ℕ) (shape : Shape) (lane : ℕ) (s : LaneState) (cs : List Command) (groups : List ToldNotes)
    (replies : List Reply) (last : LaneState)
    → lane_run period shape lane s cs groups ≡ Some (replies, last) → length replies ≡ length cs
lane_run-length period shape lane s [] [] replies last run =
    let same : ◌≡◌ {A = List Reply × LaneState} ([], s) (replies, last) = cc run in
    sym (ap (λ (p : List Reply × LaneState). length p.0) same)
lane_run-length period shape lane s [] (g ∷ groups) replies last run = absurd (cc run)
lane_run-length period shape lane s (c ∷ cs) [] replies last run = absurd (cc run)
lane_run-length period shape lane s (c ∷ cs) (g ∷ groups) replies last run =
    first (lane_step period shape lane s c g) run (λ mid rs end. lane_run-length period shape lane mid cs groups rs end)
  where
    behind : Reply × LaneState → Option (List Reply × LaneState) → Option (List Reply × LaneState)
    behind p o = o >>= (λ y. Some (p.0 ∷ y.0, y.1))

    second : (p : Reply × LaneState) (o : Option (List Reply × LaneState)) → behind p o ≡ Some (replies, last)
        → ((rs : List Reply) (end : LaneState) → o ≡ Some (rs, end) → length rs ≡ length cs)
        → length replies ≡ length (c ∷ cs)
    second p None is more = absurd (cc is)
    second p (Some y) is more =
        let same : ◌≡◌ {A = List Reply × LaneState} (p.0 ∷ y.0, y.1) (replies, last) = cc is in
        sym (ap (λ (q : List Reply × LaneState). length q.0) same) ∙ ap suc (more y.0 y.1 refl)

    first : (o : Option (Reply × LaneState))
        → (o >>= (λ p. behind p (lane_run period shape lane p.1 cs groups))) ≡ Some (replies, last)
        → ((mid : LaneState) (rs : List Reply) (end : LaneState)
        → lane_run period shape lane mid cs groups ≡ Some (rs, end) → length rs ≡ length cs)
        → length replies ≡ length (c ∷ cs)
    first None is more = absurd (cc is)
    first (Some p) is more = second p (lane_run period shape lane p.1 cs groups) is (λ rs end. more p.1 rs end)

-- so does one that was stopped
stopped_run-length : (lane : ℕ) (cs : List Command) (groups : List ToldNotes) (replies : List Reply)
    → stopped_run lane cs groups ≡ Some replies → length replies ≡ length cs
stopped_run-length lane [] [] replies run = let same : [] ≡ replies = cc run in sym (ap length same)
stopped_run-length lane [] (g ∷ groups) replies run = absurd (cc run)
stopped_run-length lane (c ∷ cs) [] replies run = absurd (cc run)
stopped_run-length lane (c ∷ cs) (g ∷ groups) replies run =
    first (read_all (not_carried_out lane c) (log_at new_lane g)) run (stopped_run-length lane cs groups)
  where
    behind : Option (List Reply) → Option (List Reply)
    behind o = o >>= (λ rs. Some (Reply.Stopped ∷ rs))

    second : (o : Option (List Reply)) → behind o ≡ Some replies
        → ((rs : List Reply) → o ≡ Some rs → length rs ≡ length cs) → length replies ≡ length (c ∷ cs)
    second None is more = absurd (cc is)
    second (Some rs) is more =
        let same : Reply.Stopped ∷ rs ≡ replies = cc is in sym (ap length same) ∙ ap suc (more rs refl)

    first : {A : Type 0} (o : Option A)
        → (o >>= (λ x. behind (stopped_run lane cs groups))) ≡ Some replies
        → ((rs : List Reply) → stopped_run lane cs groups ≡ Some rs → length rs ≡ length cs)
        → length replies ≡ length (c ∷ cs)
    first None is more = absurd (cc is)
    first (Some x) is more = second (stopped_run lane cs groups) is more

-- a lane has as many replies as commands
pub replies-length : (shape : Shape) (lane : ℕ) (commands : List Command) (answers : List Answered) (es : ToldNotes)
    → IsLaneLog shape lane commands answers es → length answers ≡ length commands
replies-length shape lane commands answers es log =
    let n = before_stop (replies_in answers) in
    let groups = pieces (note_counts answers) es in
    let ran : length (take n (replies_in answers)) ≡ length (take n commands) =
    lane_run-length sweep_period shape lane new_lane (take n commands) (take n groups) _ log.last log.answered in
    let stood : length (drop n (replies_in answers)) ≡ length (drop n commands) =
    stopped_run-length lane (drop n commands) (drop n groups) _ log.stopped in
    lengths n (replies_in answers) commands (length-map answers (λ a. a.reply)) ran stood
  where
    lengths : (n : ℕ) (rs : List Reply) (cs : List Command) → length rs ≡ length answers
        → length (take n rs) ≡ length (take n cs) → length (drop n rs) ≡ length (drop n cs)
        → length answers ≡ length cs
    lengths n rs cs long ran stood =
        omega (arith, length-take n rs, length-take n cs, length-drop n rs, length-drop n cs)

-- the replies of a lane are those of its log
lane-replies : (logs : List LaneLog) (lane : ℕ) (d : LaneLog) → lane < length logs
    → of_lane (map (λ l. l.replies) logs) lane ≡ (get_or logs lane d).replies
lane-replies [] lane d h = absurd (omega arith)
lane-replies (log ∷ logs) zero d h = refl
lane-replies (log ∷ logs) (suc lane) d h = lane-replies logs lane d (omega arith)

-- a legal run has few lanes
pub lanes-few : (run : Run) → IsLegal run → length run.logs ≤ 16
lanes-few run legal = omega (arith, legal.logs, legal.shape.lanes_most)

-- and few replies in each
pub replies-few : (run : Run) → IsLegal run → All (λ log. length log.replies ≤ 65536) run.logs
replies-few run legal lane d h =
    let lane_in : lane < run.shape.lanes = omega (arith, legal.logs) in
    let many : length (replies_of run lane) ≡ length (of_lane run.trace.lanes lane) =
    replies-length run.shape lane (of_lane run.trace.lanes lane) (replies_of run lane) _ (legal.answers lane lane_in) in
    let own : length (replies_of run lane) ≡ length (get_or run.logs lane d).replies =
    ap length (lane-replies run.logs lane d h) in
    omega (arith, many, own, (legal.commands lane).few)
