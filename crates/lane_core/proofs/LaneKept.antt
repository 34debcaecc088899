-- A lane behind a turn of its context: it is a lane again.
use Rattle.std.proofs.Common.{◌≡◌, ℕ, suc, ◌<◌, ◌≤◌, List, [], ◌∷◌, ◌++◌, length, map, take, drop, refl, sym, ap, ◌∙◌, subst, arith, Some, append_assoc, append-nil, length-append}
use Rattle.std.specs.Prelude.{sum, vec_capacity}
use Rattle.std.proofs.lemmas.List.{map-append, length-map, take-append-drop, length-take-le}
use Rattle.std.proofs.lemmas.List.Elements.{All-weaker}
use Rattle.pool_law.specs.declared.command.Command.{Command}
use Rattle.pool_law.specs.declared.run.Answered.{Answered}
use Rattle.pool_law.specs.declared.run.Shape.{Shape}
use Rattle.pool_law.specs.Legal.{AreCommands}
use Rattle.pool_law.specs.Limits.{IsShape}
use Rattle.pool_law.specs.LaneLaw.{sweep_period, lane_run, before_stop, pieces, note_counts, replies_in}
use Rattle.pool_law.specs.LaneStates.{LaneState, new_lane, log_at}
use Rattle.pool_law.specs.Lanes.{Answer, turn}
use Rattle.pool_law.specs.Names.{Names}
use Rattle.pool_law.specs.Patterns.{closing}
use Rattle.pool_law.specs.Readers.{ToldNotes, Log, Reader}
use Rattle.pool_law.proofs.PatternLemmas.{lane_run-push}
use Rattle.pool_table.specs.declared.views.Entry.{Entry}
use Rattle.shared_pool.specs.SeatViews.{view_of}
use Rattle.shared_pool.specs.declared.pool.SharedPool.{SharedPool}
use Rattle.shared_pool.specs.Closing.{entry_of}
use Rattle.shared_pool.specs.SeatLanes.{lane_of}
use Rattle.lane_context.specs.declared.context.Context.{Context}
use Rattle.lane_context.specs.declared.context.Stage.{Stage}
use Rattle.lane_context.specs.declared.context.Stage.TheVariants.{Ready, Closing}
use Rattle.lane_stages.specs.declared.draining.DrainKind.TheVariants.{Close}
use Rattle.lane_stages.specs.declared.draining.Draining.{Draining}
use Rattle.lane_core.specs.declared.lane.Lane.{Lane}
use Rattle.lane_stages.specs.Budgets.{Spends, notes_alone, with_sheds}
use Rattle.lane_stages.specs.Drainings as draining
use Rattle.seat_work.specs.Hands.{Hand}
use Rattle.lane_context.specs.Named.{NamesAre}
use Rattle.seat_work.specs.Readings.{ReadsOn}
use Rattle.lane_stages.specs.Readings.{none_asked}
use Rattle.lane_context.specs.Readings.{renamed}
use Rattle.lane_context.specs.Contexts.{IsContext, notes_of, entries_of, log_of, hand_of, Fits, FitsContext, IsUnderway, HasRoomFor, left_now, SpendsAt, reads_from, ContextGrew, IsAnswered, Waits, NameFits}
use Rattle.lane_stages.proofs.ReadLaws.{still_on, on_append}
use Rattle.lane_core.specs.Lanes.{IsRunningLane, IsClosing, IsAtRest, IsResting, HasAnswered, IsBegun, commands_left, answered_entries, entries_since, number_of, left_of}
use Rattle.lane_core.proofs.LaneLogs.{cut_more, take_whole, drop_whole, pieces_more, counts_more, step_is, unstopped_more}
use Rattle.lane_core.proofs.LaneGrown.{lane_at, fits_still, entries_grew, begun_within, number_same, still_entries, still_since, still_left, still_room, answered_room, closed_room}
use Rattle.lane_core.proofs.LaneRooms.{notes_grew}

module _ (pool : SharedPool) (l : Lane) (lane : IsRunningLane pool l) (d : Context) (n : ℕ)
    (few_asked : n ≤ length l.commands)
    (hand : Hand) (added : List Entry) (grew : ContextGrew pool hand l.context d added) where
  abbrev shape : Shape
  shape = l.context.shape

  abbrev number : ℕ
  number = number_of l

  -- what a lane keeps at every turn
  pub lane_with : (stage : Stage) → IsContext pool (hand_of stage) d → Fits pool d stage → NameFits d stage
      → length d.replies.items ≤ length l.commands → (s : LaneState) → HasAnswered shape number (lane_at l d stage n) s
      → (names : Names) → NamesAre names d.names →
      IsBegun (lane_at l d stage n) s names (commands_left (lane_at l d stage n)) (entries_since (lane_at l d stage n))
      → (IsClosing stage → commands_left (lane_at l d stage n) ≡ []) → (IsAtRest stage → IsResting d s names)
      → (IsUnderway stage → length d.replies.items < n)
      → HasRoomFor pool d (left_of (lane_at l d stage n)) → IsRunningLane pool (lane_at l d stage n)
  lane_with stage context fits name few s answered names are begun all_answered rest underway room =
      let new : Lane = lane_at l d stage n in
      record {
        going = lane.going;
        context = context;
        fits = fits;
        shape = subst IsShape (sym grew.shape) lane.shape;
        commands = subst (λ (x : Shape). AreCommands x l.commands) (sym grew.shape) lane.commands;
        plain =
            All-weaker (FitsContext l.context) (FitsContext d)
            (fits_still l.context d grew.name_count grew.shape grew.composes)
            l.commands
            lane.plain;
        composing = grew.composes ∙ lane.composing;
        few = few;
        state = s;
        answered =
            subst (λ (x : Shape × ℕ). HasAnswered x.0 x.1 new s)
            (λ i. (sym grew.shape i, sym (number_same pool l lane.context d n hand added grew) i)) answered;
        bound = names;
        bound_are = are;
        begun = begun;
        all_answered = all_answered;
        rest = rest;
        underway = underway;
        names = name;
        room = room;
        replies = (let a = lane.replies in let b = grew.replies_room in omega (arith, a, b));
        asked = few_asked;
        spare = subst (λ (x : Shape). x.lanes ≤ vec_capacity l.spare.seats) (sym grew.shape) lane.spare;
      }

  -- how the law reads the log of the lane from a stage on
  abbrev reads_now : Context → LaneState → Command → Stage → Reader Answer
  reads_now e s command stage = reads_from e.shape (lane_of e.seat) s command stage

  reads_same : (s : LaneState) (command : Command) (stage : Stage) (log : Log)
      → reads_now l.context s command stage log ≡ reads_now d s command stage log
  reads_same s command stage log =
      λ i. reads_from (sym grew.shape i) (sym (number_same pool l lane.context d n hand added grew) i) s command stage
      log

  turn_same : (s : LaneState) (command : Command) (log : Log)
      → turn sweep_period l.context.shape number s command log
      ≡ turn sweep_period d.shape (lane_of d.seat) s command log
  turn_same s command log =
      λ i. turn sweep_period (sym grew.shape i) (sym (number_same pool l lane.context d n hand added grew) i) s command
      log

  -- ---- Where no command was answered.

  module _ (replies : d.replies.items ≡ l.context.replies.items) (begun : d.begun ≡ l.context.begun) (stage : Stage)
    where
      still_few : length d.replies.items ≤ length l.commands
      still_few = let a = lane.few in let b = ap (λ (rs : List Answered). length rs) replies in omega (arith, a, b)

      still_answered : HasAnswered shape number (lane_at l d stage n) lane.state
      still_answered =
          let was = lane.answered in
          record {
            counted = ap (λ (rs : List Answered). sum (note_counts rs)) replies ∙ was.counted ∙ sym begun;
            run =
                subst (λ (x : List Answered × ToldNotes). lane_run sweep_period shape number new_lane
                (take (length x.0) l.commands) (pieces (note_counts x.0) x.1) ≡ Some (replies_in x.0, lane.state))
                (λ i. (
                  sym replies i,
                  sym (still_entries pool l lane.context d n hand added grew replies begun stage)
                      i,
                ))
                was.run;
            unstopped =
                subst (λ (rs : List Answered). before_stop (replies_in rs) ≡ length rs) (sym replies) was.unstopped;
            seen = was.seen ∙ sym (still_entries pool l lane.context d n hand added grew replies begun stage);
          }

      -- the command that is under way goes on at this stage
      pub still_lane : length l.context.replies.items < n → (command : Command) (later : List Command)
          → commands_left l ≡ command ∷ later
          → (IsClosing l.stage → ⊥) → (IsClosing stage → ⊥) → (names : Names) → NamesAre names d.names
          → (IsAtRest stage → IsResting d lane.state names) → IsContext pool (hand_of stage) d → Fits pool d stage
          → NameFits d stage →
          SpendsAt l.context d (left_now l.context.composes command l.stage (view_of l.context.seat))
          (left_now l.context.composes command stage (view_of d.seat)) →
          ((rest : ToldNotes) → reads_now l.context (renamed lane.state lane.bound) command l.stage
          (log_of l.context (map entry_of added ++ rest))
          ≡ reads_now l.context (renamed lane.state names) command stage (log_of d rest))
          → IsRunningLane pool (lane_at l d stage n)
      still_lane line command later left was_open is_open names are fresh context fits name spends reads =
          let new : Lane = lane_at l d stage n in let s = lane.state in
          let left_now_is : commands_left new ≡ command ∷ later =
          (still_left pool l lane.context d n hand added grew replies begun stage) ∙ left in
          let had : IsBegun l s lane.bound (command ∷ later) (entries_since l) =
          subst (λ (cs : List Command). IsBegun l s lane.bound cs (entries_since l)) left lane.begun in
          let has : IsBegun new s names (command ∷ later) (entries_since l ++ map entry_of added) =
          (λ rest.
          sym (turn_same s command (log_at s ((entries_since l ++ map entry_of added) ++ rest)))
          ∙ ap (λ (es : ToldNotes). turn sweep_period l.context.shape number s command (log_at s es))
          (append_assoc (entries_since l) (map entry_of added) rest)
          ∙ had (map entry_of added ++ rest) ∙ reads rest
          ∙ reads_same (renamed s names) command stage (log_of d rest)) in
          lane_with stage context fits name still_few s still_answered names are
          (subst (λ (x : List Command × ToldNotes). IsBegun new s names x.0 x.1)
          (λ i. (sym left_now_is i, sym (still_since pool l lane.context d n hand added grew replies begun stage) i))
          has)
          (λ closes. absurd (is_open closes)) fresh
          (λ u. let f = ap (λ (rs : List Answered). length rs) replies in omega (arith, line, f))
          (still_room pool l lane.context d n hand added grew command later left lane.room was_open stage is_open
          left_now_is
          spends)

      -- where it waits it is as it was
      pub waiting_lane : length l.context.replies.items < n → (command : Command) (later : List Command)
          → commands_left l ≡ command ∷ later
          → (IsClosing l.stage → ⊥) → (IsClosing stage → ⊥) → Waits l.context d added
          → (IsAtRest stage → l.stage ≡ Ready)
          → IsContext pool (hand_of stage) d → Fits pool d stage → NameFits d stage →
          SpendsAt l.context d (left_now l.context.composes command l.stage (view_of l.context.seat))
          (left_now l.context.composes command stage (view_of d.seat)) →
          ((log : Log) → reads_now l.context (renamed lane.state lane.bound) command l.stage log
          ≡ reads_now l.context (renamed lane.state lane.bound) command stage log)
          → IsRunningLane pool (lane_at l d stage n)
      waiting_lane line command later left was_open is_open waits at_rest context fits name spends reads =
          let same : entries_of d ≡ entries_of l.context = (entries_grew pool l lane.context d n hand added grew)
          ∙ ap (λ (es : List Entry). entries_of l.context ++ map entry_of es) waits.none
          ∙ append-nil (entries_of l.context) in
          still_lane line command later left was_open is_open lane.bound
          (subst (NamesAre lane.bound) (sym waits.names) lane.bound_are)
          (λ rest.
          let was = lane.rest (subst IsAtRest (sym (at_rest rest)) tt) in
          record {
            begun =
                (let a = was.begun in let b = notes_grew pool hand l.context d added grew in let c =
                ap (λ (es : List Entry). length es) waits.none in omega (arith, a, b, c, begun));
            names_are = was.names_are;
            asked = was.asked ∙ sym waits.asked;
          })
          context fits name spends
          (λ rest.
          ap (λ (es : List Entry). reads_now l.context (renamed lane.state lane.bound) command l.stage
          (log_of l.context (map entry_of es ++ rest))) waits.none
          ∙ reads (log_of l.context rest)
          ∙ (λ i. reads_now l.context (renamed lane.state lane.bound) command stage
          (record { seen = sym same i; asked = sym waits.asked i; left = rest })))

  -- ---- Where the command was answered.

  module _ (command : Command) (later : List Command) (left : commands_left l ≡ command ∷ later)
      (answered : IsAnswered l.context d added
      (reads_from shape number (renamed lane.state lane.bound) command l.stage))
    where
      abbrev done : Lane
      done = lane_at l d Ready n

      cut : (take (suc (length l.context.replies.items)) l.commands
          ≡ take (length l.context.replies.items) l.commands ++ command ∷ [])
          × (drop (suc (length l.context.replies.items)) l.commands ≡ later)
          × (length l.context.replies.items < length l.commands)
      cut = cut_more (length l.context.replies.items) l.commands command later left

      one_more : length d.replies.items ≡ suc (length l.context.replies.items)
      one_more =
          let a = ap (λ (rs : List Answered). length rs) answered.replies in let b =
          length-append l.context.replies.items (answered.answered ∷ []) in
          omega (arith, a, b)

      abbrev group : ToldNotes
      group = entries_since l ++ map entry_of added

      all_length : length (entries_of d) ≤ d.begun
      all_length = let a = length-map (notes_of d) entry_of in let b = answered.begun in omega (arith, a, b)

      done_entries : answered_entries done ≡ entries_of d
      done_entries = take_whole d.begun (entries_of d) all_length

      done_since : entries_since done ≡ []
      done_since = drop_whole d.begun (entries_of d) all_length

      done_left : commands_left done ≡ later
      done_left = ap (λ (k : ℕ). drop k l.commands) one_more ∙ cut.1

      whole : answered_entries l ++ group ≡ entries_of d
      whole =
          sym (append_assoc (answered_entries l) (entries_since l) (map entry_of added))
          ∙ ap (λ (es : ToldNotes). es ++ map entry_of added) (take-append-drop l.context.begun (entries_of l.context))
          ∙ sym (entries_grew pool l lane.context d n hand added grew)

      before_length : length (answered_entries l) ≡ l.context.begun
      before_length =
          length-take-le l.context.begun (entries_of l.context) (begun_within pool l lane.context d n hand added grew)

      group_length : answered.answered.notes ≡ length group
      group_length =
          let a = ap (λ (es : ToldNotes). length es) whole in let b = length-append (answered_entries l) group in let
          c =
          before_length in
          let e = length-map (notes_of d) entry_of in let f = answered.notes in omega (arith, a, b, c, e, f)

      abbrev state_now : LaneState
      state_now = record { names = answered.bound; seen = entries_of d; asked = d.asked }

      had : IsBegun l lane.state lane.bound (command ∷ later) (entries_since l)
      had = subst (λ (cs : List Command). IsBegun l lane.state lane.bound cs (entries_since l)) left lane.begun

      ran : lane_run sweep_period shape number new_lane
          (take (length l.context.replies.items) l.commands ++ command ∷ [])
          (pieces (note_counts l.context.replies.items) (answered_entries l) ++ group ∷ [])
          ≡ Some (replies_in l.context.replies.items ++ answered.answered.reply ∷ [], state_now)
      ran =
          lane_run-push sweep_period shape number new_lane lane.state state_now
          (take (length l.context.replies.items) l.commands)
          (pieces (note_counts l.context.replies.items) (answered_entries l)) command group
          (replies_in l.context.replies.items) answered.answered.reply lane.answered.run
          (step_is sweep_period shape number lane.state command group (entries_of d) d.asked answered.answered.reply
          answered.bound
          (λ rest. ap (λ (es : ToldNotes). turn sweep_period shape number lane.state command (log_at lane.state es))
          (append_assoc (entries_since l) (map entry_of added) rest) ∙ had (map entry_of added ++ rest)
          ∙ answered.reads rest))

      done_pieces : pieces (note_counts d.replies.items) (answered_entries done)
          ≡ pieces (note_counts l.context.replies.items) (answered_entries l) ++ group ∷ []
      done_pieces =
          (λ i. pieces (note_counts (answered.replies i)) (done_entries i))
          ∙ (λ i. pieces (map-append (λ (x : Answered). x.notes) l.context.replies.items (answered.answered ∷ []) i)
          (sym whole i))
          ∙ pieces_more (note_counts l.context.replies.items) answered.answered.notes (answered_entries l) group
          (lane.answered.counted ∙ sym before_length) group_length

      done_answered : HasAnswered shape number done state_now
      done_answered = record {
        counted =
            (let a = ap (λ (rs : List Answered). sum (note_counts rs)) answered.replies in let b =
            counts_more l.context.replies.items answered.answered in
            let c = lane.answered.counted in let e = answered.notes in let f = answered.begun in
            omega (arith, a, b, c, e, f));
        run =
            (λ i. lane_run sweep_period shape number new_lane ((ap (λ (k : ℕ). take k l.commands) one_more ∙ cut.0) i)
            (done_pieces i)) ∙ ran
            ∙ ap (λ rs. Some (rs, state_now))
            (sym (ap replies_in answered.replies
            ∙ map-append (λ (x : Answered). x.reply) l.context.replies.items (answered.answered ∷ [])));
        unstopped =
            (let a = unstopped_more (replies_in l.context.replies.items) answered.answered.reply
            (lane.answered.unstopped ∙ sym (length-map l.context.replies.items (λ (x : Answered). x.reply)))
            answered.unstopped in
            subst (λ (rs : List Answered). before_stop (replies_in rs) ≡ length rs) (sym answered.replies)
            (ap (λ rs. before_stop rs) (map-append (λ (x : Answered). x.reply) l.context.replies.items
            (answered.answered ∷ [])) ∙ a
            ∙ sym (ap (λ rs. length rs) (map-append (λ (x : Answered). x.reply) l.context.replies.items
            (answered.answered ∷ [])))
            ∙ length-map (l.context.replies.items ++ answered.answered ∷ []) (λ (x : Answered). x.reply)));
        seen = sym done_entries;
      }

      begun_ready : (cs : List Command) → IsBegun done state_now answered.bound cs []
      begun_ready [] = still_on (closing (lane_of d.seat))
      begun_ready (c ∷ cs) = λ rest. refl

      -- the next command is to be begun
      pub answered_lane : (IsClosing l.stage → ⊥) → IsContext pool (hand_of Ready) d → Fits pool d Ready
          → SpendsAt l.context d (left_now l.context.composes command l.stage (view_of l.context.seat))
          (with_sheds (view_of d.seat) (notes_alone 0)) → IsRunningLane pool done
      answered_lane was_open context fits spends =
          lane_with Ready context fits tt (let e = one_more in let f = cut.2 in omega (arith, e, f)) state_now
          done_answered
          answered.bound answered.names
          (subst (λ (es : ToldNotes). IsBegun done state_now answered.bound (commands_left done) es) (sym done_since)
          (begun_ready (commands_left done)))
          (λ closes. absurd closes) (λ ready. record { begun = answered.begun; names_are = refl; asked = refl })
          (λ u. absurd u)
          (answered_room pool l lane.context d n hand added grew command later left lane.room was_open done_left spends)

  -- ---- The closing.

  module _ (replies : d.replies.items ≡ l.context.replies.items) (names : d.names ≡ l.context.names)
      (begun : d.begun ≡ l.context.begun) (stage after : Draining) (none : commands_left l ≡ []) where
    -- it goes on at this stage
    pub closed_lane : ReadsOn (closing number) (entries_since l) none_asked (draining.rest_of Close number stage)
        → HasRoomFor pool l.context (draining.left_of stage (view_of l.context.seat))
        → IsContext pool (draining.hand_of Close after) d → draining.Fits pool d.seat after →
        Spends (view_of l.context.seat) (view_of d.seat) (draining.left_of stage (view_of l.context.seat))
        (draining.left_of after (view_of d.seat)) →
        ReadsOn (draining.rest_of Close number stage) (map entry_of added) none_asked
        (draining.rest_of Close number after) → IsRunningLane pool (lane_at l d (Closing after) n)
    closed_lane had room context fits spends reads =
        let new : Lane = lane_at l d (Closing after) n in
        let none_now : commands_left new ≡ [] = still_left pool l lane.context d n hand added grew replies begun
        (Closing after) ∙ none in
        let has : ReadsOn (closing number) (entries_since l ++ map entry_of added) none_asked
        (draining.rest_of Close number after) =
        on_append (closing number) (draining.rest_of Close number stage) (draining.rest_of Close number after)
        (entries_since l) (map entry_of added) had reads in
        let has_now : IsBegun new lane.state lane.bound [] (entries_since l ++ map entry_of added) =
        subst (λ (k : ℕ). ReadsOn (closing k) (entries_since l ++ map entry_of added) none_asked
        (draining.rest_of Close k after)) (sym (number_same pool l lane.context d n hand added grew)) has in
        lane_with (Closing after) context fits tt (still_few replies begun (Closing after)) lane.state
        (still_answered replies begun (Closing after)) lane.bound
        (subst (NamesAre lane.bound) (sym names) lane.bound_are)
        (subst (λ (x : List Command × ToldNotes). IsBegun new lane.state lane.bound x.0 x.1)
        (λ i. (
          sym none_now i,
          sym (still_since pool l lane.context d n hand added grew replies begun (Closing after))
              i,
        ))
        has_now)
        (λ closes. none_now) (λ ready. absurd ready)
        (λ u. absurd u)
        (closed_room pool l lane.context d n hand added grew stage after none_now room spends)
