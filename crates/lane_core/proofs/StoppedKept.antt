-- A lane that its gate stopped, behind a turn of its context: it is one again.
use Rattle.std.proofs.Common.{◌≡◌, ℕ, suc, ◌<◌, ◌≤◌, List, [], ◌∷◌, ◌++◌, true, length, map, take, drop, refl, sym, ap, ◌∙◌, subst, arith, Some, length-append}
use Rattle.std.specs.Prelude.{sum, vec_capacity}
use Rattle.std.proofs.lemmas.List.{map-append, length-map, take-append-le, drop-append-le, length-take-le}
use Rattle.std.proofs.lemmas.List.Elements.{All-weaker}
use Rattle.pool_law.specs.declared.command.Command.{Command}
use Rattle.pool_law.specs.declared.run.Answered.{Answered}
use Rattle.pool_law.specs.declared.run.Reply.{Reply}
use Rattle.pool_law.specs.declared.run.Shape.{Shape}
use Rattle.pool_law.specs.Legal.{AreCommands}
use Rattle.pool_law.specs.Limits.{IsShape}
use Rattle.pool_law.specs.LaneLaw.{sweep_period, lane_run, stopped_run, before_stop, pieces, note_counts, replies_in}
use Rattle.pool_law.specs.LaneStates.{new_lane}
use Rattle.pool_law.specs.Patterns.{closing}
use Rattle.pool_law.specs.Readers.{ToldNotes}
use Rattle.pool_table.specs.declared.views.Entry.{Entry}
use Rattle.shared_pool.specs.SeatViews.{view_of}
use Rattle.shared_pool.specs.declared.pool.SharedPool.{SharedPool}
use Rattle.shared_pool.specs.Closing.{entry_of}
use Rattle.lane_context.specs.declared.context.Context.{Context}
use Rattle.lane_context.specs.declared.context.Stage.{Stage}
use Rattle.lane_context.specs.declared.context.Stage.TheVariants.{Ready}
use Rattle.lane_core.specs.declared.lane.Lane.{Lane}
use Rattle.lane_stages.specs.Budgets.{notes_alone, with_sheds}
use Rattle.seat_work.specs.Hands.{Hand, empty_hand}
use Rattle.seat_work.specs.Readings.{ReadsOn}
use Rattle.lane_stages.specs.Readings.{none_asked}
use Rattle.lane_context.specs.Contexts.{IsContext, notes_of, entries_of, hand_of, Fits, FitsContext, IsUnderway, HasRoomFor, ContextGrew, left_now, SpendsAt, IsPassedOver}
use Rattle.lane_core.specs.Lanes.{IsRunningLane, IsStoppedLane, HasPassedOver, reads_closing, IsClosing, IsAtRest, commands_left, answered_entries, entries_since, number_of, left_of}
use Rattle.lane_stages.proofs.ReadLaws.{still_on}
use Rattle.lane_core.proofs.LaneLogs.{cut_more, take_whole, drop_whole, pieces-length, pieces_more, counts_more}
use Rattle.lane_core.proofs.LaneRooms.{notes_grew}
use Rattle.lane_core.proofs.LaneGrown.{lane_at, fits_still, entries_grew, number_same, still_entries, answered_room}
use Rattle.lane_core.proofs.StoppedLogs.{stop_more, stop_within, stopped_run-push, answered_passed}

-- a lane that its gate stops before the next command
pub stops_lane : (pool : SharedPool) (l : Lane) → IsRunningLane pool l → l.stage ≡ Ready → (n : ℕ)
    → n ≤ length l.commands → IsStoppedLane pool (record l { asked = n; stopped = true })
stops_lane pool l lane is n few =
    let number = number_of l in
    let begun : l.context.begun ≡ length (notes_of l.context) = (lane.rest (subst IsAtRest (sym is) tt)).begun in
    let long = length-map (notes_of l.context) entry_of in
    let none_since : entries_since l ≡ [] = drop_whole l.context.begun (entries_of l.context)
    (omega (arith, begun, long)) in
    record {
      over = refl;
      context = lane.context;
      fits = lane.fits;
      shape = lane.shape;
      commands = lane.commands;
      plain = lane.plain;
      few = lane.few;
      answered = (let was = answered_passed l.context.shape number l lane.state lane.few lane.answered in record {
        counted = was.counted;
        state = was.state;
        run = was.run;
        stopped = was.stopped;
      });
      underway = λ u. absurd (subst IsUnderway is u);
      all_answered = lane.all_answered;
      rest = λ ready. begun;
      since =
          subst (λ (x : ToldNotes × Stage). ReadsOn (closing number) x.0 none_asked (reads_closing number x.1))
          (λ i. (sym none_since i, sym is i)) (still_on (closing number));
      room = lane.room;
      replies = lane.replies;
      asked = few;
      spare = lane.spare;
    }

module _ (pool : SharedPool) (l : Lane) (lane : IsStoppedLane pool l) (d : Context) (n : ℕ)
    (few_asked : n ≤ length l.commands) (hand : Hand) (added : List Entry)
    (grew : ContextGrew pool hand l.context d added) where
  abbrev shape : Shape
  shape = l.context.shape

  abbrev number : ℕ
  number = number_of l

  abbrev rs : List Answered
  rs = l.context.replies.items

  -- what a stopped lane keeps at every turn
  pub stopped_with : (stage : Stage) → IsContext pool (hand_of stage) d → Fits pool d stage
      → length d.replies.items ≤ length l.commands → HasPassedOver shape number (lane_at l d stage n)
      → (IsUnderway stage → ⊥) → (IsClosing stage → commands_left (lane_at l d stage n) ≡ [])
      → (IsAtRest stage → d.begun ≡ length (notes_of d))
      → ReadsOn (closing number) (entries_since (lane_at l d stage n)) none_asked (reads_closing number stage)
      → HasRoomFor pool d (left_of (lane_at l d stage n)) → IsStoppedLane pool (lane_at l d stage n)
  stopped_with stage context fits few answered underway all_answered rest reads room =
      let new : Lane = lane_at l d stage n in
      let same = number_same pool l lane.context d n hand added grew in
      record {
        over = lane.over;
        context = context;
        fits = fits;
        shape = subst IsShape (sym grew.shape) lane.shape;
        commands = subst (λ (x : Shape). AreCommands x l.commands) (sym grew.shape) lane.commands;
        plain =
            All-weaker (FitsContext l.context) (FitsContext d)
            (fits_still l.context d grew.name_count grew.shape grew.composes)
            l.commands
            lane.plain;
        few = few;
        answered =
            subst (λ (x : Shape × ℕ). HasPassedOver x.0 x.1 new) (λ i. (sym grew.shape i, sym same i)) answered;
        underway = underway;
        all_answered = all_answered;
        rest = rest;
        since =
            subst (λ (k : ℕ). ReadsOn (closing k) (entries_since new) none_asked (reads_closing k stage)) (sym same)
            reads;
        room = room;
        replies = (let a = lane.replies in let b = grew.replies_room in omega (arith, a, b));
        asked = few_asked;
        spare = subst (λ (x : Shape). x.lanes ≤ vec_capacity l.spare.seats) (sym grew.shape) lane.spare;
      }

  -- ---- Where no command was answered.

  module _ (replies : d.replies.items ≡ l.context.replies.items) (begun : d.begun ≡ l.context.begun) (stage : Stage)
    where
      pub still_few : length d.replies.items ≤ length l.commands
      still_few = let a = lane.few in let b = ap (λ (xs : List Answered). length xs) replies in omega (arith, a, b)

      pub still_passed : HasPassedOver shape number (lane_at l d stage n)
      still_passed =
          let was = lane.answered in let s = was.state in
          let entries = still_entries pool l lane.context d n hand added grew replies begun stage in
          record {
            counted = ap (λ (xs : List Answered). sum (note_counts xs)) replies ∙ was.counted ∙ sym begun;
            state = s;
            run =
                subst (λ (x : List Answered × ToldNotes). let k = before_stop (replies_in x.0) in
                lane_run sweep_period shape number new_lane (take k l.commands) (take k (pieces (note_counts x.0) x.1))
                ≡ Some (take k (replies_in x.0), s)) (λ i. (sym replies i, sym entries i)) was.run;
            stopped =
                subst (λ (x : List Answered × ToldNotes). let k = before_stop (replies_in x.0) in
                stopped_run number (drop k (take (length x.0) l.commands)) (drop k (pieces (note_counts x.0) x.1))
                ≡ Some (drop k (replies_in x.0))) (λ i. (sym replies i, sym entries i)) was.stopped;
          }

  -- ---- At a command that is to be passed over.

  module _ (is : l.stage ≡ Ready) where
    -- nothing is noted that isn't a command's
    rested : d.begun ≡ length (notes_of d) →
        ReadsOn (closing number) (entries_since (lane_at l d Ready n)) none_asked (closing number)
    rested begun =
        let long = length-map (notes_of d) entry_of in
        subst (λ (es : ToldNotes). ReadsOn (closing number) es none_asked (closing number))
        (sym (drop_whole d.begun (entries_of d) (omega (arith, begun, long)))) (still_on (closing number))

    begun_all : l.context.begun ≡ length (notes_of l.context)
    begun_all = lane.rest (subst IsAtRest (sym is) tt)

    open_still : IsClosing l.stage → ⊥
    open_still closes = subst IsClosing is closes

    module _ (command : Command) (later : List Command) (left : commands_left l ≡ command ∷ later)
        (context : IsContext pool empty_hand d) (fits : Fits pool d Ready) where
      -- where it is answered the law's log of a stopped lane has it more
      module _ (p : IsPassedOver l.context d added command) where
        abbrev done : Lane
        done = lane_at l d Ready n

        abbrev group : ToldNotes
        group = map entry_of added

        abbrev before : List ToldNotes
        before = pieces (note_counts rs) (answered_entries l)

        abbrev stop : ℕ
        stop = before_stop (replies_in rs)

        cut : (take (suc (length rs)) l.commands ≡ take (length rs) l.commands ++ command ∷ [])
            × (drop (suc (length rs)) l.commands ≡ later)
            × (length rs < length l.commands)
        cut = cut_more (length rs) l.commands command later left

        abbrev answered : Answered
        answered = record { reply = Reply.Stopped; notes = p.notes }

        one_more : length d.replies.items ≡ suc (length rs)
        one_more =
            let a = ap (λ (xs : List Answered). length xs) p.replies in let b = length-append rs (answered ∷ []) in
            omega (arith, a, b)

        done_entries : answered_entries done ≡ entries_of d
        done_entries =
            let a = length-map (notes_of d) entry_of in let b = p.begun in
            take_whole d.begun (entries_of d) (omega (arith, a, b))

        all_before : answered_entries l ≡ entries_of l.context
        all_before =
            let a = length-map (notes_of l.context) entry_of in let b = begun_all in
            take_whole l.context.begun (entries_of l.context) (omega (arith, a, b))

        whole : entries_of d ≡ answered_entries l ++ group
        whole =
            entries_grew pool l lane.context d n hand added grew
            ∙ ap (λ (es : ToldNotes). es ++ group) (sym all_before)

        before_length : length (answered_entries l) ≡ l.context.begun
        before_length =
            let a = ap (λ (es : ToldNotes). length es) all_before in let b = length-map (notes_of l.context) entry_of in
            let c = begun_all in omega (arith, a, b, c)

        group_length : p.notes ≡ length group
        group_length =
            let a = p.counted in let b = notes_grew pool hand l.context d added grew in let c = begun_all in
            let e = length-map added entry_of in omega (arith, a, b, c, e)

        replies_now : replies_in d.replies.items ≡ replies_in rs ++ Reply.Stopped ∷ []
        replies_now =
            ap (λ (xs : List Answered). replies_in xs) p.replies
            ∙ map-append (λ (x : Answered). x.reply) rs (answered ∷ [])

        stop_now : before_stop (replies_in d.replies.items) ≡ stop
        stop_now = ap (λ (xs : List Reply). before_stop xs) replies_now ∙ stop_more (replies_in rs)

        pieces_now : pieces (note_counts d.replies.items) (answered_entries done) ≡ before ++ group ∷ []
        pieces_now =
            (λ i. pieces (note_counts (p.replies i)) (done_entries i))
            ∙ (λ i. pieces (map-append (λ (x : Answered). x.notes) rs (answered ∷ []) i) (whole i))
            ∙ pieces_more (note_counts rs) p.notes (answered_entries l) group
            (lane.answered.counted ∙ sym before_length) group_length

        stop_few : stop ≤ length rs
        stop_few =
            let a = stop_within (replies_in rs) in let b = length-map rs (λ (x : Answered). x.reply) in
            omega (arith, a, b)

        piece_count : length before ≡ length rs
        piece_count =
            pieces-length (note_counts rs) (answered_entries l) ∙ length-map rs (λ (x : Answered). x.notes)

        reply_count : length (replies_in rs) ≡ length rs
        reply_count = length-map rs (λ (x : Answered). x.reply)

        ran : lane_run sweep_period shape number new_lane (take stop l.commands) (take stop (before ++ group ∷ []))
            ≡ Some (take stop (replies_in rs ++ Reply.Stopped ∷ []), lane.answered.state)
        ran =
            let a = stop_few in let b = piece_count in let c = reply_count in
            (λ i. lane_run sweep_period shape number new_lane (take stop l.commands)
            (take-append-le stop before (group ∷ []) (omega (arith, a, b)) i))
            ∙ lane.answered.run
            ∙ ap (λ (xs : List Reply). Some (xs, lane.answered.state))
            (sym (take-append-le stop (replies_in rs) (Reply.Stopped ∷ []) (omega (arith, a, c))))

        passed_on : stopped_run number (drop stop (take (length d.replies.items) l.commands))
            (drop stop (before ++ group ∷ []))
            ≡ Some (drop stop (replies_in rs ++ Reply.Stopped ∷ []))
        passed_on =
            let a = stop_few in let b = piece_count in let c = reply_count in
            let cs = take (length rs) l.commands in let e = length-take-le (length rs) l.commands lane.few in
            let commands : drop stop (take (length d.replies.items) l.commands) ≡ drop stop cs ++ command ∷ [] =
            ap (λ (k : ℕ). drop stop (take k l.commands)) one_more ∙ ap (λ (xs : List Command). drop stop xs) cut.0
            ∙ drop-append-le stop cs (command ∷ []) (omega (arith, a, e)) in
            (λ i. stopped_run number (commands i) (drop-append-le stop before (group ∷ []) (omega (arith, a, b)) i))
            ∙ stopped_run-push number (drop stop cs) (drop stop before) command group (drop stop (replies_in rs))
            lane.answered.stopped p.reads
            ∙ ap (λ (xs : List Reply). Some xs)
            (sym (drop-append-le stop (replies_in rs) (Reply.Stopped ∷ []) (omega (arith, a, c))))

        done_passed : HasPassedOver shape number done
        done_passed = record {
          counted =
              (let a = ap (λ (xs : List Answered). sum (note_counts xs)) p.replies in let b =
              counts_more rs answered in let c = lane.answered.counted in let e = p.counted in let f = p.begun in
              omega (arith, a, b, c, e, f));
          state = lane.answered.state;
          run =
              subst (λ (x : ℕ × List ToldNotes × List Reply). lane_run sweep_period shape number new_lane
              (take x.0 l.commands) (take x.0 x.1) ≡ Some (take x.0 x.2, lane.answered.state))
              (λ i. (sym stop_now i, sym pieces_now i, sym replies_now i)) ran;
          stopped =
              subst (λ (x : ℕ × List ToldNotes × List Reply). stopped_run number
              (drop x.0 (take (length d.replies.items) l.commands)) (drop x.0 x.1) ≡ Some (drop x.0 x.2))
              (λ i. (sym stop_now i, sym pieces_now i, sym replies_now i)) passed_on;
        }

        pub passed_on_lane : SpendsAt l.context d (left_now l.context.composes command Ready (view_of l.context.seat))
            (with_sheds (view_of d.seat) (notes_alone 0)) → IsStoppedLane pool done
        passed_on_lane spends =
            let done_left : commands_left done ≡ later =
            ap (λ (k : ℕ). drop k l.commands) one_more ∙ cut.1 in
            stopped_with Ready context fits (let a = one_more in let b = cut.2 in omega (arith, a, b)) done_passed
            (λ u. u) (λ closes. absurd closes) (λ ready. p.begun) (rested p.begun)
            (answered_room pool l lane.context d n hand added grew command later left lane.room open_still done_left
            (subst (λ (x : Stage). SpendsAt l.context d (left_now l.context.composes command x (view_of l.context.seat))
            (with_sheds (view_of d.seat) (notes_alone 0))) (sym is) spends))
