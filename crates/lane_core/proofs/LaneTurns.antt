-- A lane behind a turn of a command that is under way, or that begins.
use Rattle.std.proofs.Common.{◌≡◌, ℕ, ◌+◌, ◌<◌, ◌≤◌, List, [], ◌∷◌, ◌++◌, Bool, length, drop, get_or, refl, sym, ap, ◌∙◌, subst, arith, Option, Some, None}
use Rattle.std.specs.Prelude.{IsSome, vec_capacity}
use Rattle.std.proofs.lemmas.List.{length-map, drop_more}
use Rattle.pool_law.specs.declared.command.Command.{Command}
use Rattle.pool_law.specs.declared.note.Held.{Held}
use Rattle.pool_law.specs.LaneLaw.{sweep_period}
use Rattle.pool_law.specs.declared.note.Object.{Object}
use Rattle.pool_law.specs.declared.run.Reply.{Reply}
use Rattle.pool_law.specs.LaneStates.{LaneState, log_at}
use Rattle.pool_law.specs.Lanes.{Answer, turn}
use Rattle.pool_law.specs.Names.{Names}
use Rattle.pool_law.specs.Readers.{ToldNotes, Log, Reader}
use Rattle.pool_table.specs.declared.views.SeatView.{SeatView}
use Rattle.shared_pool.specs.SeatViews.{view_of}
use Rattle.shared_pool.specs.declared.pool.SharedPool.{SharedPool}
use Rattle.shared_pool.specs.Closing.{entry_of}
use Rattle.shared_pool.specs.SeatLanes.{lane_of}
use Rattle.lane_context.specs.declared.context.Context.{Context}
use Rattle.lane_context.specs.declared.context.Stage.{Stage}
use Rattle.lane_context.specs.declared.context.Stage.TheVariants.{Ready}
use Rattle.lane_context.specs.declared.context.Turn.{Turn}
use Rattle.lane_context.specs.declared.context.Turn.TheVariants.{Went, Pending, Waiting}
use Rattle.lane_core.specs.declared.lane.Lane.{Lane}
use Rattle.lane_stages.specs.declared.stepped.Stepped.{Stepped}
use Rattle.lane_stages.specs.declared.stepped.Stepped.TheVariants.{Went as StepWent, Pending as StepPending}
use Rattle.lane_context.specs.Accesses.{IsState}
use Rattle.lane_stages.specs.Counting.{CountsAre}
use Rattle.lane_stages.specs.Budgets.{Left}
use Rattle.lane_context.specs.Named.{NamesAre}
use Rattle.lane_stages.specs.NextNotes.{BeginsAt, CanBeRead}
use Rattle.lane_context.specs.Readings.{renamed}
use Rattle.lane_context.specs.Contexts.{notes_of, entries_of, log_of, hand_of, Fits, IsUnderway, HasRoomFor, SpendsAt, left_for, left_at, left_now, reads_from, next_of, HasTurned}
use Rattle.lane_core.specs.Lanes.{Heeds, IsRunningLane, IsClosing, IsAtRest, IsBegun, IsResting, SameLane, commands_left, answered_entries, entries_since, number_of}
use Rattle.lane_core.specs.Steps.{HasStepped, IsReadOn, IsStateBehind, MayFollow, NextStandsAt, ReceivesNext, stepped_of}
use Rattle.lane_core.proofs.LaneLogs.{cut_at, take_whole, drop_whole}
use Rattle.lane_core.proofs.LaneGrown.{lane_at, same_lane, same_log, noted_more, replied_more, front_room}
use Rattle.lane_core.proofs.StageWays.{its_class, stage_way}
use Rattle.lane_context.proofs.Ways.{same_way, way_read}
use Rattle.lane_core.proofs.Heeding.{turned_heeds}
use Rattle.lane_core.proofs.LaneKept.{answered_lane, still_lane, waiting_lane}
use Rattle.lane_context.proofs.StageCases.{by_kind, left_on, waits_on, went_on}
use Rattle.lane_core.proofs.StageKinds.{no_closing, no_rest, same_left}

-- the state behind a run, and this one where there is none
abbrev state_in : LaneState → Option (List Reply × LaneState) → LaneState
state_in none None = none
state_in none (Some ran) = ran.1

module _ (pool : SharedPool) (l : Lane) (lane : IsRunningLane pool l) (d : Context) (n : ℕ)
    (few_asked : n ≤ length l.commands) (line : length l.context.replies.items < n)
    (command : Command) (later : List Command) (left : commands_left l ≡ command ∷ later)
    (open_yet : IsClosing l.stage → ⊥) where
  -- the law's state, with the names that are bound now
  abbrev state_of : LaneState
  state_of = renamed lane.state lane.bound

  abbrev Turned : Turn → Type 0
  Turned t = HasTurned pool l.context d state_of command l.stage t

  abbrev reads_now : LaneState → Stage → Reader Answer
  reads_now state = reads_from l.context.shape (lane_of l.context.seat) state command

  -- it goes on at a stage of the command, or waits there
  went_lane : (x : Stage) → IsUnderway x → Turned (Went x) → IsRunningLane pool (lane_at l d x n)
  went_lane x u t =
      let on = went_on reads_now state_of l.context d t.added l.stage x u t.comes in
      let v : SeatView = view_of d.seat in
      still_lane pool l lane d n few_asked (hand_of x) t.added t.grew on.replies on.begun x line command later left
      open_yet (no_closing x u) on.bound on.names (λ ready. absurd (no_rest x u ready)) t.grew.context t.fits t.name
      (subst (λ (to : Left). SpendsAt l.context d (left_now l.context.composes command l.stage (view_of l.context.seat))
      to)
      (left_on l.context.composes command l.stage x v u) t.spends) on.reads

  held_lane : (held : Held) (x : Stage) → IsUnderway x → Turned (Pending held x)
      → IsRunningLane pool (lane_at l d x n)
  held_lane held x u t =
      let on = waits_on reads_now state_of l.context d t.added l.stage held x u t.comes in let w = on.1 in
      waiting_lane pool l lane d n few_asked (hand_of x) t.added t.grew w.replies w.begun x line command later left
      open_yet (no_closing x u) w (λ ready. absurd (no_rest x u ready)) t.grew.context t.fits t.name t.spends on.0

  pub turned_lane : (turn : Turn) → Turned turn → IsRunningLane pool (lane_at l d (next_of l.stage turn) n)
  turned_lane (Went next) =
      by_kind (λ x. Turned (Went x) → IsRunningLane pool (lane_at l d x n))
      (λ t. answered_lane pool l lane d n few_asked (hand_of Ready) t.added t.grew command later left t.comes open_yet
      t.grew.context t.fits t.spends)
      (λ x t. absurd t.comes) went_lane next
  turned_lane (Pending held next) =
      by_kind (λ x. Turned (Pending held x) → IsRunningLane pool (lane_at l d x n))
      (λ t.
      let w = t.comes.1 in
      waiting_lane pool l lane d n few_asked (hand_of Ready) t.added t.grew w.replies w.begun Ready line command later
      left open_yet (λ c. c) w (λ ready. t.comes.0) t.grew.context t.fits t.name t.spends
      (λ log. ap (λ (x : Stage). reads_from l.context.shape (number_of l) state_of command x log) t.comes.0))
      (λ x t. absurd t.comes) (held_lane held) next
  turned_lane (Waiting sender) = λ t.
      let w = t.comes.1 in
      waiting_lane pool l lane d n few_asked (hand_of l.stage) t.added t.grew w.replies w.begun l.stage line command
      later left open_yet open_yet w (λ ready. t.comes.0) t.grew.context t.fits t.name t.spends (λ log. refl)

  -- what was noted since is read up to the stage
  begun_now : (more : ToldNotes) → turn sweep_period l.context.shape (number_of l) lane.state command
      (log_at lane.state (entries_since l ++ more)) ≡ reads_now state_of l.stage (log_of l.context more)
  begun_now = subst (λ (cs : List Command). IsBegun l lane.state lane.bound cs (entries_since l)) left lane.begun

  -- where the rest can be read, some entries may follow
  some_follow : CanBeRead (reads_now state_of l.stage) → (more : ToldNotes) × MayFollow l more
  some_follow can =
      let way = can (entries_of l.context) l.context.asked in (
        way.0,
        (
          lane.state,
          subst (λ (cs : List Command). IsStateBehind l lane.state cs) (sym left) lane.answered.run,
          subst (λ (cs : List Command). IsReadOn l.context.shape (number_of l) lane.state cs
              (entries_since l ++ way.0)) (sym left)
              (subst (λ (x : Option (Answer × Log)). IsSome x) (sym (begun_now way.0)) way.1),
        ),
      )

  -- the run so far has one state
  state_same : (s : LaneState) → IsStateBehind l s (command ∷ later) → s ≡ lane.state
  state_same s ran = ap (state_in lane.state) (sym ran ∙ lane.answered.run)

  -- and where it begins as a note there, the next note stands there
  stands_next : (o : Object) → BeginsAt o (reads_now state_of l.stage) → CanBeRead (reads_now state_of l.stage)
      → NextStandsAt l o
  stands_next o begins can = (
    some_follow can,
    λ more follow.
        let s = follow.0 in
        begins (log_of l.context more)
        (subst (λ (x : Option (Answer × Log)). IsSome x)
        (ap (λ (x : LaneState). turn sweep_period l.context.shape (number_of l) x command
        (log_at x (entries_since l ++ more)))
        (state_same s (subst (λ (cs : List Command). IsStateBehind l s cs) left follow.1))
        ∙ begun_now more)
        (subst (λ (cs : List Command). IsReadOn l.context.shape (number_of l) s cs (entries_since l ++ more)) left
        follow.2)),
  )

  -- what the step says
  pub turned_so : (turn : Turn) → Turned turn → HasStepped pool l (lane_at l d (next_of l.stage turn) n)
      (stepped_of turn)
  turned_so (Went next) =
      by_kind (λ x. Turned (Went x) → HasStepped pool l (lane_at l d x n) StepWent)
      (λ t. replied_more pool l lane.context d n (hand_of Ready) t.added t.grew t.comes.answered t.comes.replies Ready)
      (λ x t. absurd t.comes)
      (λ x u t.
      let on = went_on reads_now state_of l.context d t.added l.stage x u t.comes in
      noted_more pool l lane.context d n (hand_of x) t.added t.grew on.some on.replies x) next
  turned_so (Pending held next) =
      by_kind (λ x. Turned (Pending held x) → HasStepped pool l (lane_at l d x n) (StepPending held))
      (λ t. (
        same_log pool l lane.context d n (hand_of Ready) t.added t.grew t.comes.1.none t.comes.1.replies Ready,
        t.held.0,
        stands_next held.object t.held.1 t.comes.2,
      ))
      (λ x t. absurd t.comes)
      (λ x u t.
      let on = waits_on reads_now state_of l.context d t.added l.stage held x u t.comes in (
        same_log pool l lane.context d n (hand_of x) t.added t.grew on.1.none on.1.replies x,
        t.held.0,
        stands_next held.object t.held.1
            (way_read (reads_now state_of l.stage)
            (same_way (reads_now state_of x) (reads_now state_of l.stage) on.0
            (stage_way l.context.shape (number_of l) state_of command x u
            (its_class pool d l.context.shape t.grew.shape x t.fits)))),
      )) next
  turned_so (Waiting sender) = λ t. (
    same_log pool l lane.context d n (hand_of l.stage) t.added t.grew t.comes.1.none t.comes.1.replies l.stage,
    subst (λ (cs : List Command). ReceivesNext sender cs) (sym left) t.waits.0,
    t.waits.1,
    lane.going,
    lane.going,
  )

  pub turned_same : (turn : Turn) → Turned turn → SameLane l (lane_at l d (next_of l.stage turn) n)
  turned_same turn t =
      same_lane pool l lane.context d n (hand_of (next_of l.stage turn)) t.added t.grew (next_of l.stage turn)

  -- what is to be done next, where nothing was kept
  pub turned_next : (turn : Turn) → Turned turn → next_of Ready turn ≡ next_of l.stage turn
  turned_next (Went next) t = refl
  turned_next (Pending held next) t = refl
  turned_next (Waiting sender) t = sym t.comes.0

-- ---- A stage at which a command is under way.

module _ (pool : SharedPool) (l : Lane) (lane : IsRunningLane pool l) (u : IsUnderway l.stage) where
  pub underway_left : (command : Command) × (later : List Command) × (commands_left l ≡ command ∷ later)
  underway_left = cut_at (length l.context.replies.items) l.commands
      (let a = lane.underway u in let b = lane.asked in omega (arith, a, b))

  pub underway_replies : length l.context.replies.items < vec_capacity l.context.replies
  underway_replies =
      let a = lane.underway u in let b = lane.replies in let c = lane.asked in omega (arith, a, b, c)

  pub underway_room : (command : Command) → HasRoomFor pool l.context (left_at l.context.composes command l.stage
      (view_of l.context.seat))
  underway_room command =
      let cut = underway_left in
      subst (λ (x : Left). HasRoomFor pool l.context x) (same_left l.context.composes l.stage
      (view_of l.context.seat) u cut.0 command)
      (front_room pool l lane.room cut.0 cut.1 cut.2)

  module _ (d : Context) (turn : Turn)
      (t : (s : LaneState) (command : Command) → NamesAre s.names l.context.names
      → HasTurned pool l.context d s command l.stage turn) (new : Lane)
      (is : new ≡ lane_at l d (next_of Ready turn) l.asked) where
    turned : HasTurned pool l.context d (renamed lane.state lane.bound) (underway_left).0 l.stage turn
    turned = t (renamed lane.state lane.bound) (underway_left).0 lane.bound_are

    underway_is : new ≡ lane_at l d (next_of l.stage turn) l.asked
    underway_is =
        is ∙ ap (λ (x : Stage). lane_at l d x l.asked)
        (turned_next pool l lane d l.asked lane.asked (lane.underway u) (underway_left).0 (underway_left).1
        (underway_left).2
        (no_closing l.stage u) turn turned)

    pub underway_lane : IsRunningLane pool new
    underway_lane =
        subst (λ (x : Lane). IsRunningLane pool x) (sym underway_is)
        (turned_lane pool l lane d l.asked lane.asked (lane.underway u) (underway_left).0 (underway_left).1
        (underway_left).2
        (no_closing l.stage u) turn turned)

    pub underway_same : SameLane l new
    underway_same =
        subst (λ (x : Lane). SameLane l x) (sym underway_is)
        (turned_same pool l lane d l.asked lane.asked (lane.underway u) (underway_left).0 (underway_left).1
        (underway_left).2
        (no_closing l.stage u) turn turned)

    pub underway_so : (result : Stepped) → result ≡ stepped_of turn → HasStepped pool l new result
    underway_so result so =
        subst (λ (x : Lane × Stepped). HasStepped pool l x.0 x.1) (λ i. (sym underway_is i, sym so i))
        (turned_so pool l lane d l.asked lane.asked (lane.underway u) (underway_left).0 (underway_left).1
        (underway_left).2
        (no_closing l.stage u) turn turned)

    pub underway_heeds : (stops : ℕ → Bool) → Heeds stops l → Heeds stops new
    underway_heeds stops h =
        subst (λ (x : Lane). Heeds stops x) (sym underway_is)
        (turned_heeds stops l h lane.going lane.answered.unstopped (lane.underway u) pool d
        (renamed lane.state lane.bound) (underway_left).0 l.stage turn turned)

-- the command at the line of the next reply, and none where there is no such line
pub front_is : (l : Lane) (line : ℕ) (xs : List Command) (command : Command) → line ≡ length l.context.replies.items
    → xs ≡ l.commands → line < length xs → command ≡ get_or xs line command
    → commands_left l ≡ command ∷ drop (line + 1) l.commands
front_is l line xs command e f lt is =
    ap (λ (k : ℕ). drop k l.commands) (sym e) ∙ ap (λ (cs : List Command). drop line cs) (sym f)
    ∙ drop_more xs line command lt ∙ (λ i. sym is i ∷ drop (line + 1) (f i))

pub none_left : (l : Lane) (line : ℕ) (xs : List Command) → line ≡ length l.context.replies.items → xs ≡ l.commands
    → length xs ≤ line → commands_left l ≡ []
none_left l line xs e f le =
    let a = ap (λ (cs : List Command). length cs) f in
    drop_whole (length l.context.replies.items) l.commands (omega (arith, a, e, le))

-- a lane whose next command is to be begun
module _ (pool : SharedPool) (l : Lane) (lane : IsRunningLane pool l) (is : l.stage ≡ Ready) (command : Command)
    (later : List Command) (left : commands_left l ≡ command ∷ later) where
  open_still : IsClosing l.stage → ⊥
  open_still closes = absurd (subst IsClosing is closes)

  at_rest : IsResting l.context lane.state lane.bound
  at_rest = lane.rest (subst IsAtRest (sym is) tt)

  -- the law's state is the lane context's
  pub begin_state : IsState lane.state l.context.names l.context.counts
  begin_state =
      let a = at_rest.begun in let b = length-map (notes_of l.context) entry_of in
      let all : answered_entries l ≡ entries_of l.context =
      take_whole l.context.begun (entries_of l.context) (omega (arith, a, b)) in
      record {
        names_are = subst (λ (names : Names). NamesAre names l.context.names) at_rest.names_are lane.bound_are;
        counts_are = subst (CountsAre l.context.counts) (sym (lane.answered.seen ∙ all)) lane.context.counts;
      }

  pub begin_room : HasRoomFor pool l.context (left_for l.context.composes command)
  begin_room =
      subst (λ (x : Stage). HasRoomFor pool l.context (left_at l.context.composes command x (view_of l.context.seat)))
      is
      (front_room pool l lane.room command later left)

  -- no sweep is due
  pub begin_asked : l.context.asked < sweep_period
  begin_asked = subst (λ (x : Stage). Fits pool l.context x) is lane.fits

  module _ (d : Context) (n : ℕ) (few : n ≤ length l.commands) (line : length l.context.replies.items < n) (turn : Turn)
      (t : HasTurned pool l.context d lane.state command Ready turn) (new : Lane)
      (new_is : new ≡ lane_at l d (next_of Ready turn) n) where
    begun : HasTurned pool l.context d (renamed lane.state lane.bound) command l.stage turn
    begun =
        subst (λ (x : Names × Stage). HasTurned pool l.context d (renamed lane.state x.0) command x.1 turn)
        (λ i. (sym at_rest.names_are i, sym is i)) t

    at_next : new ≡ lane_at l d (next_of l.stage turn) n
    at_next = new_is ∙ ap (λ (x : Stage). lane_at l d (next_of x turn) n) (sym is)

    pub begun_lane : IsRunningLane pool new
    begun_lane =
        subst (λ (x : Lane). IsRunningLane pool x) (sym at_next)
        (turned_lane pool l lane d n few line command later left open_still turn begun)

    pub begun_same : SameLane l new
    begun_same =
        subst (λ (x : Lane). SameLane l x) (sym at_next)
        (turned_same pool l lane d n few line command later left open_still turn begun)

    pub begun_so : (result : Stepped) → result ≡ stepped_of turn → HasStepped pool l new result
    begun_so result so =
        subst (λ (x : Lane × Stepped). HasStepped pool l x.0 x.1) (λ i. (sym at_next i, sym so i))
        (turned_so pool l lane d n few line command later left open_still turn begun)

    pub begun_heeds : (stops : ℕ → Bool) → Heeds stops (record l { asked = n }) → Heeds stops new
    begun_heeds stops h =
        subst (λ (x : Lane). Heeds stops x) (sym new_is)
        (turned_heeds stops (record l { asked = n }) h lane.going lane.answered.unstopped line pool d lane.state command
        Ready turn t)
