-- The replies of a legal run tell of each command what is to be told.
use Rattle.std.proofs.Common.{◌≡◌, ℕ, zero, suc, ◌<◌, List, [], ◌∷◌, length, map, take, drop, true, false, Option, Some, None, refl, sym, subst, arith, ◌∙◌}
use Rattle.std.specs.Prelude.{if◌then◌else◌, option_and_then}
use Rattle.std.specs.List.{All}
use Rattle.std.proofs.lemmas.List.Elements.{All-head, All-tail}
use Rattle.pool_law.specs.declared.command.Command.{Command}
use Rattle.pool_law.specs.declared.note.Object.{Object}
use Rattle.pool_law.specs.declared.run.Answered.{Answered}
use Rattle.pool_law.specs.declared.run.LaneLog.{LaneLog}
use Rattle.pool_law.specs.declared.run.Reply.{Reply}
use Rattle.pool_law.specs.declared.run.Run.{Run}
use Rattle.pool_law.specs.declared.run.Shape.{Shape}
use Rattle.pool_law.specs.Composites.{Composite}
use Rattle.pool_law.specs.Dids as says
use Rattle.pool_law.specs.LaneLaw.{IsLaneLog, before_stop, lane_run, lane_step, note_counts, pieces, replies_in, stopped_run, sweep_period}
use Rattle.pool_law.specs.LaneStates.{LaneState, composite_from, composite_with, log_at, named, new_lane, state_at, view_named}
use Rattle.pool_law.specs.Lanes.{allotted, answer, answer_by, answer_of, carried_out, composed, consolidate, get_at, get_parts, not_carried_out, parcel_of, received, regrown, release_of, retain_of, set_at, set_parts, count_in, turn}
use Rattle.pool_law.specs.Legal.{IsLegal, logs_of, replies_of}
use Rattle.pool_law.specs.Logs.{entries_of, of_lane}
use Rattle.pool_law.specs.Names.{Plain, parts_at, reader_of, without, writer_of}
use Rattle.pool_law.specs.Patterns.{New, allot, regrow, sweep_if_due}
use Rattle.pool_law.specs.Readers.{ToldNotes, access, given, note, nothing, read_all, step}
use Rattle.pool_law.specs.Refusals.{first_refusal, refusals}
use Rattle.run_laws.proofs.Readings.{bind-some, read_all-is}
use Rattle.run_text.specs.Answering.{FitLanes, FitReplies, FitsReply}
use Rattle.run_text.specs.Derived.{replies_told}
use Rattle.text_laws.specs.Typed.{IsReplyTyped, IsTyped}
use Rattle.text_laws.proofs.RefusalsSuit.{ErrRefuses, Suits, first-suits, refusal-suits, refusals-suit}
use Rattle.text_laws.proofs.RepliesSuit.{AnswerSuits, Gives, allot-refuses, allotted-suits, busy_or-suits, composed-suits, consolidate-refuses, count-suits, get_at-suits, gives-bind, gives-with, received-suits, regrow-refuses, regrown-suits, release_of-suits, retain-suits, said, set_at-suits}

-- ---- What each command is answered.

carried_out-suits : (shape : Shape) (lane : ℕ) (s : LaneState) (c : Command)
    → Gives (AnswerSuits c) (carried_out shape lane s c)
carried_out-suits shape lane s (Command.Alloc new n) =
    gives-with (ErrRefuses New) (AnswerSuits (Command.Alloc new n)) (allot shape lane n) _ (allot-refuses shape lane n)
    (λ got h. said (Command.Alloc new n) (allotted s new got) (allotted-suits (Command.Alloc new n) refl s new got h))
carried_out-suits shape lane s (Command.Set v i bytes false) =
    gives-bind (AnswerSuits (Command.Set v i bytes false)) (given (named s v)) (set_at s i bytes)
    (set_at-suits (Command.Set v i bytes false) refl s i bytes)
carried_out-suits shape lane s (Command.Set v i bytes true) =
    gives-bind (AnswerSuits (Command.Set v i bytes true)) (given (view_named s v)) _
    (λ view. busy_or-suits (Command.Set v i bytes true) s view (set_at s i bytes (Plain view))
    (set_at-suits (Command.Set v i bytes true) refl s i bytes (Plain view)))
carried_out-suits shape lane s (Command.Get v i n false) =
    gives-bind (AnswerSuits (Command.Get v i n false)) (given (named s v)) (get_at s i n)
    (get_at-suits (Command.Get v i n false) refl s i n)
carried_out-suits shape lane s (Command.Get v i n true) =
    gives-bind (AnswerSuits (Command.Get v i n true)) (given (view_named s v)) _
    (λ view. busy_or-suits (Command.Get v i n true) s view (get_at s i n (Plain view))
    (get_at-suits (Command.Get v i n true) refl s i n (Plain view)))
carried_out-suits shape lane s (Command.Write v bytes) =
    gives-bind (AnswerSuits (Command.Write v bytes)) (given (named s v)) _
    (λ b. gives-bind (AnswerSuits (Command.Write v bytes))
    (set_parts (parts_at b (writer_of b) (length bytes)) bytes) _
    (λ _. said (Command.Write v bytes) (answer Reply.Ok _) refl))
carried_out-suits shape lane s (Command.Read v n) =
    gives-bind (AnswerSuits (Command.Read v n)) (given (named s v)) _
    (λ b. gives-bind (AnswerSuits (Command.Read v n)) (get_parts (parts_at b (reader_of b) n)) _
    (λ bytes. said (Command.Read v n) (answer (Reply.OkBytes bytes) _) refl))
carried_out-suits shape lane s (Command.Slice new v i n retained) =
    gives-bind (AnswerSuits (Command.Slice new v i n retained)) (given (view_named s v)) _
    (λ view. gives-bind (AnswerSuits (Command.Slice new v i n retained))
    (if retained then step view.root says.retain else nothing) _
    (λ _. said (Command.Slice new v i n retained) (answer Reply.Ok _) refl))
carried_out-suits shape lane s (Command.Dup new v) =
    gives-bind (AnswerSuits (Command.Dup new v)) (given (view_named s v)) _
    (λ view. said (Command.Dup new v) (answer Reply.Ok _) refl)
carried_out-suits shape lane s (Command.Retain v) =
    gives-bind (AnswerSuits (Command.Retain v)) (given (named s v)) (retain_of s v)
    (retain-suits (Command.Retain v) refl s v)
carried_out-suits shape lane s (Command.Release v) =
    gives-bind (AnswerSuits (Command.Release v)) (given (named s v)) (release_of shape s v)
    (release_of-suits (Command.Release v) shape s v)
carried_out-suits shape lane s (Command.Refcnt v) =
    gives-bind (AnswerSuits (Command.Refcnt v)) (given (named s v)) (count_in s)
    (count-suits (Command.Refcnt v) refl s)
carried_out-suits shape lane s (Command.Touch v) =
    gives-bind (AnswerSuits (Command.Touch v)) (given (view_named s v)) _
    (λ view. gives-bind (AnswerSuits (Command.Touch v)) (access view.root says.touch) _
    (λ _. said (Command.Touch v) (answer Reply.Ok s.names) refl))
carried_out-suits shape lane s (Command.Forget v) =
    said (Command.Forget v) (answer Reply.Ok (without v s.names)) refl
carried_out-suits shape lane s (Command.Send v to) =
    gives-bind (AnswerSuits (Command.Send v to)) (given (view_named s v)) _
    (λ view. gives-bind (AnswerSuits (Command.Send v to)) (note (Object.Mail lane to) (says.post (parcel_of view))) _
    (λ _. said (Command.Send v to) (answer Reply.Ok s.names) refl))
carried_out-suits shape lane s (Command.Recv new from) =
    gives-bind (AnswerSuits (Command.Recv new from)) (note (Object.Mail from lane) says.fetch) _
    (λ parcel. said (Command.Recv new from) (received s new parcel.view)
    (received-suits (Command.Recv new from) refl s new parcel.view))
carried_out-suits shape lane s (Command.Compose new vs) =
    gives-bind (AnswerSuits (Command.Compose new vs)) (given (composite_from s vs)) _
    (λ k. gives-with (ErrRefuses Composite) (AnswerSuits (Command.Compose new vs)) (consolidate shape lane k) _
    (consolidate-refuses shape lane k)
    (λ made h. said (Command.Compose new vs) (composed s new made)
    (composed-suits (Command.Compose new vs) refl s new made h)))
carried_out-suits shape lane s (Command.Add whole v) =
    gives-bind (AnswerSuits (Command.Add whole v)) (given (composite_with s whole v)) _
    (λ k. gives-with (ErrRefuses Composite) (AnswerSuits (Command.Add whole v)) (consolidate shape lane k) _
    (consolidate-refuses shape lane k)
    (λ made h. said (Command.Add whole v) (composed s whole made)
    (composed-suits (Command.Add whole v) refl s whole made h)))
carried_out-suits shape lane s (Command.Capacity v n) =
    gives-bind (AnswerSuits (Command.Capacity v n)) (given (view_named s v)) _
    (λ view. gives-with (ErrRefuses ℕ) (AnswerSuits (Command.Capacity v n)) (regrow shape lane view.root n) _
    (regrow-refuses shape lane view.root n)
    (λ got h. said (Command.Capacity v n) (regrown s v view got)
    (regrown-suits (Command.Capacity v n) refl s v view got h)))

answer-suits : (shape : Shape) (lane : ℕ) (s : LaneState) (c : Command)
    → Gives (AnswerSuits c) (answer_of shape lane s c)
answer-suits shape lane s c = by (first_refusal (refusals shape s c)) refl
  where
    by : (o : Option Reply) → first_refusal (refusals shape s c) ≡ o
        → Gives (AnswerSuits c) (answer_by shape lane s c o)
    by None is = carried_out-suits shape lane s c
    by (Some reply) is =
        gives-bind (AnswerSuits c) (not_carried_out lane c) _
        (λ _. said c (answer reply s.names)
        (refusal-suits c reply (first-suits (refusals shape s c) reply (refusals-suit shape s c) is)))

turn-suits : (period : ℕ) (shape : Shape) (lane : ℕ) (s : LaneState) (c : Command)
    → Gives (AnswerSuits c) (turn period shape lane s c)
turn-suits period shape lane s c =
    gives-with (AnswerSuits c) (AnswerSuits c) (answer_of shape lane s c) _ (answer-suits shape lane s c)
    (λ a h. gives-bind (AnswerSuits c) (sweep_if_due period lane) _ (λ _. said c a h))

-- ---- A lane's replies.

-- each suits its command
abbrev AllSuit : List Command → List Reply → Type 0
AllSuit [] [] = Unit {0}
AllSuit [] (reply ∷ replies) = ⊥
AllSuit (c ∷ cs) [] = ⊥
AllSuit (c ∷ cs) (reply ∷ replies) = Suits c reply × AllSuit cs replies

run-suits : (shape : Shape) (lane : ℕ) (s : LaneState) (cs : List Command) (groups : List ToldNotes)
    (p : List Reply × LaneState) → lane_run sweep_period shape lane s cs groups ≡ Some p → AllSuit cs p.0
run-suits shape lane s [] [] p is =
    let same : ◌≡◌ {A = List Reply × LaneState} ([], s) p = cc is in subst (λ q. AllSuit [] q.0) same tt
run-suits shape lane s [] (g ∷ groups) p is = absurd (cc is)
run-suits shape lane s (c ∷ cs) [] p is = absurd (cc is)
run-suits shape lane s (c ∷ cs) (g ∷ groups) p is =
    let f = bind-some (lane_step sweep_period shape lane s c g)
    (λ y. option_and_then (λ z. Some (y.0 ∷ z.0, z.1)) (lane_run sweep_period shape lane y.1 cs groups)) p is in
    let r = bind-some (lane_run sweep_period shape lane f.0.1 cs groups) (λ z. Some (f.0.0 ∷ z.0, z.1)) p f.2 in
    let t = bind-some (read_all (turn sweep_period shape lane s c) (log_at s g))
    (λ got. Some (got.0.reply, state_at got.0.names got.1)) f.0 f.1 in
    let a = read_all-is (turn sweep_period shape lane s c) (log_at s g) t.0 t.1 in
    let one : Suits c t.0.0.reply = turn-suits sweep_period shape lane s c (log_at s g) t.0 a.0 in
    let step_is : ◌≡◌ {A = Reply × LaneState} (t.0.0.reply, state_at t.0.0.names t.0.1) f.0 = cc t.2 in
    let here : Suits c f.0.0 = subst (λ q. Suits c q.0) step_is one in
    let same : ◌≡◌ {A = List Reply × LaneState} (f.0.0 ∷ r.0.0, r.0.1) p = cc r.2 in
    subst (λ q. AllSuit (c ∷ cs) q.0) same (here, run-suits shape lane f.0.1 cs groups r.0 r.1)

stopped-suits : (lane : ℕ) (cs : List Command) (groups : List ToldNotes) (p : List Reply)
    → stopped_run lane cs groups ≡ Some p → AllSuit cs p
stopped-suits lane [] [] p is = let same : [] ≡ p = cc is in subst (AllSuit []) same tt
stopped-suits lane [] (g ∷ groups) p is = absurd (cc is)
stopped-suits lane (c ∷ cs) [] p is = absurd (cc is)
stopped-suits lane (c ∷ cs) (g ∷ groups) p is =
    let f = bind-some (read_all (not_carried_out lane c) (log_at new_lane g))
    (λ _. option_and_then (λ replies. Some (Reply.Stopped ∷ replies)) (stopped_run lane cs groups)) p is in
    let r = bind-some (stopped_run lane cs groups) (λ replies. Some (Reply.Stopped ∷ replies)) p f.2 in
    let same : Reply.Stopped ∷ r.0 ≡ p = cc r.2 in
    subst (AllSuit (c ∷ cs)) same (tt, stopped-suits lane cs groups r.0 r.1)

both-suit : (n : ℕ) (cs : List Command) (rs : List Reply) → AllSuit (take n cs) (take n rs)
    → AllSuit (drop n cs) (drop n rs) → AllSuit cs rs
both-suit zero cs rs a b = b
both-suit (suc n) [] [] a b = tt
both-suit (suc n) [] (r ∷ rs) a b = absurd a
both-suit (suc n) (c ∷ cs) [] a b = absurd a
both-suit (suc n) (c ∷ cs) (r ∷ rs) a b = (a.0, both-suit n cs rs a.1 b)

log-suits : (shape : Shape) (lane : ℕ) (cs : List Command) (answered : List Answered) (es : ToldNotes)
    → IsLaneLog shape lane cs answered es → AllSuit cs (replies_in answered)
log-suits shape lane cs answered es log =
    let n : ℕ = before_stop (replies_in answered) in
    both-suit n cs (replies_in answered)
    (run-suits shape lane new_lane (take n cs) (take n (pieces (note_counts answered) es))
    (take n (replies_in answered), log.last) log.answered)
    (stopped-suits lane (drop n cs) (drop n (pieces (note_counts answered) es)) (drop n (replies_in answered))
    log.stopped)

-- ---- The replies of all lanes.

fits-reply : (c : Command) (reply : Reply) → Suits c reply → IsReplyTyped reply → FitsReply c reply
fits-reply c Reply.Ok h t = h
fits-reply c (Reply.OkPlace size place) h t = (h.0, h.1, t.0, t.1)
fits-reply c (Reply.OkBytes bytes) h t = (h, t)
fits-reply c (Reply.OkNumber k) h t = (h, t)
fits-reply c (Reply.Busy number) h t = t
fits-reply c Reply.Kept h t = tt
fits-reply c Reply.Freed h t = tt
fits-reply c Reply.Unbound h t = tt
fits-reply c Reply.Taken h t = tt
fits-reply c Reply.Illegal h t = tt
fits-reply c Reply.Range h t = tt
fits-reply c Reply.TooLarge h t = tt
fits-reply c Reply.Handles h t = tt
fits-reply c Reply.Full h t = tt
fits-reply c Reply.Nothing h t = tt
fits-reply c Reply.Composite h t = tt
fits-reply c Reply.Plain h t = tt
fits-reply c Reply.Stopped h t = tt

fit-replies : (cs : List Command) (rs : List Reply) → AllSuit cs rs → All IsReplyTyped rs → FitReplies cs rs
fit-replies [] [] h t = tt
fit-replies [] (r ∷ rs) h t = absurd h
fit-replies (c ∷ cs) [] h t = absurd h
fit-replies (c ∷ cs) (r ∷ rs) h t =
    (fits-reply c r h.0 (All-head IsReplyTyped r rs t), fit-replies cs rs h.1 (All-tail IsReplyTyped r rs t))

-- the numbers of a lane's replies are of their types
abbrev AreTyped : LaneLog → Type 0
AreTyped log = All IsReplyTyped (replies_in log.replies)

lanes-fit : (lanes : List (List Command)) (logs : List LaneLog) → length lanes ≡ length logs
    → ((k : ℕ) → k < length lanes → AllSuit (of_lane lanes k) (replies_in (of_lane (map (λ l. l.replies) logs) k)))
    → All AreTyped logs → FitLanes lanes (map (λ log. replies_in log.replies) logs)
lanes-fit [] [] e h t = tt
lanes-fit [] (log ∷ logs) e h t = absurd (omega (arith, e))
lanes-fit (cs ∷ lanes) [] e h t = absurd (omega (arith, e))
lanes-fit (cs ∷ lanes) (log ∷ logs) e h t = (
  fit-replies cs (replies_in log.replies) (h 0 (omega arith)) (All-head AreTyped log logs t),
  lanes-fit lanes logs (omega (arith, e)) (λ k low. h (suc k) (omega (arith, low))) (All-tail AreTyped log logs t),
)

pub replies-fit : (run : Run) → IsLegal run → IsTyped run → FitLanes run.trace.lanes (replies_told run)
replies-fit run legal typed =
    lanes-fit run.trace.lanes run.logs (legal.lanes ∙ sym legal.logs)
    (λ k low. log-suits run.shape k (of_lane run.trace.lanes k) (replies_of run k)
    (of_lane (entries_of (logs_of run)) k) (legal.answers k (omega (arith, low, legal.lanes))))
    typed.replies
