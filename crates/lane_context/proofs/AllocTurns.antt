-- The turns of a command that begins an allocation, and what an allocation asks of the lane context's counts.
use Rattle.std.proofs.Common.{◌≡◌, ℕ, ◌*◌, ◌<◌, List, [], ◌∷◌, Bool, length, refl, sym, ap, ◌∙◌, subst, arith, Option, Some, None}
use Rattle.std.specs.Prelude.{if◌then◌else◌, is_none, option_and_then, vec_capacity}
use Rattle.std.proofs.lemmas.List.{length-map}
use Rattle.size_classes.specs.Sizes.{class_of}
use Rattle.pool_law.specs.declared.command.Command.{Command}
use Rattle.pool_law.specs.declared.id.RegionId.{RegionId}
use Rattle.pool_law.specs.declared.id.RootId.{RootId}
use Rattle.pool_law.specs.declared.run.Reply.{Reply}
use Rattle.pool_law.specs.Limits.{geometry_of}
use Rattle.pool_law.specs.LaneStates.{LaneState}
use Rattle.pool_law.specs.Names.{Bound}
use Rattle.pool_law.specs.Readers.{Log}
use Rattle.pool_law.specs.Refusals.{first_refusal, refusals, taken, too_large as too_large_for}
use Rattle.pool_law.proofs.PatternLemmas.{same_root-refl}
use Rattle.lane_context.proofs.NameLaws.{rebound_same}
use Rattle.shared_pool.specs.SeatViews.{view_of}
use Rattle.shared_pool.specs.declared.pool.SharedPool.{SharedPool}
use Rattle.shared_pool.specs.Closing.{entry_of}
use Rattle.shared_pool.specs.SeatLanes.{lane_of}
use Rattle.lane_stages.specs.declared.counts.Counted.{Counted}
use Rattle.lane_context.specs.declared.context.Context.{Context}
use Rattle.lane_context.specs.declared.context.Stage.TheVariants.{Ready, Allotting}
use Rattle.lane_context.specs.declared.context.Turn.{Turn}
use Rattle.lane_context.specs.declared.context.Turn.TheVariants.{Went}
use Rattle.lane_context.specs.declared.access.Refusal.TheVariants.{Taken}
use Rattle.lane_stages.specs.declared.allotment.Allotting.{Allotting as AllotStage}
use Rattle.lane_stages.specs.declared.allotment.Allotting.TheVariants.{Handle as AskHandle}
use Rattle.lane_stages.specs.declared.allotment.Allotted.{Allotted}
use Rattle.lane_stages.specs.declared.allotment.Allotted.TheVariants.{New}
use Rattle.lane_stages.specs.declared.stage_step.StageStep.{StageStep}
use Rattle.lane_stages.specs.declared.stage_step.StageStep.TheVariants.{Done}
use Rattle.lane_stages.specs.Allotments as allotment
use Rattle.lane_context.specs.Accesses.{IsState}
use Rattle.seat_work.specs.Changes.{one_for}
use Rattle.lane_stages.specs.Counting.{counted}
use Rattle.seat_work.specs.Hands.{empty_hand}
use Rattle.lane_context.specs.Named.{bound_at}
use Rattle.lane_context.specs.Readings.{swept}
use Rattle.lane_context.specs.Contexts.{IsContext, notes_of, entries_of, reads_from, left_for, HasRoomFor, HasTurned}
use Rattle.lane_context.specs.ContextSteps.{HasReplied, CanAnswer, MayTurn}
use Rattle.lane_context.proofs.BeginTurns as begin
use Rattle.lane_context.proofs.BeginTurns.{within_same, within_sheds}
use Rattle.lane_stages.proofs.SeatCounts.{few_counted, alone_added}
use Rattle.lane_context.proofs.StateReads.{passed, comes_first, is_free, is_taken, goes, refuses}
use Rattle.lane_context.proofs.Turning.{noteless, refused_turn}
use Rattle.lane_context.proofs.ContextGrown.{noted_so}
use Rattle.lane_context.proofs.StageTurns.{Staged, staged_counts, staged_names}
use Rattle.lane_context.proofs.AllotTurns.{allotted}
use Rattle.lane_context.proofs.StageNeeds.{answers_behind}

-- the context behind a step, with the count that was kept before
pub counted_so : (old : Context) (seat : _) (sampler : _) (notes : _) (m n : ℕ) → m ≡ n
    → record old { seat = seat; sampler = sampler; notes = notes; asked = m }
    ≡ record old { seat = seat; sampler = sampler; notes = notes; asked = n }
counted_so old seat sampler notes m n is =
    ap (λ (k : ℕ). record old { seat = seat; sampler = sampler; notes = notes; asked = k }) is

-- a step of an allocation, and the context behind it
module _ (pool : SharedPool) (old mid : Context) (name size class : ℕ) (stage : AllotStage)
    (d : IsContext pool (allotment.hand_of stage) old) (class_is : class_of (geometry_of old.shape) size ≡ Some class)
    (mid_so : mid ≡ record old {
      seat = mid.seat;
      sampler = mid.sampler;
      notes = mid.notes;
      asked =
          allotment.asks_of stage old.asked;
    }) where
  -- it can be answered
  pub allot_can : (came : StageStep AllotStage Allotted)
      → allotment.HasAllotted pool old.seat mid.seat old.sampler mid.sampler old.notes mid.notes size class stage
      came → HasRoomFor pool old (allotment.left_of stage)
      → length old.replies.items < vec_capacity old.replies → CanAnswer mid
  allot_can came did room replies =
      let start : Context = record old {
        seat = mid.seat;
        sampler = mid.sampler;
        asked =
            allotment.asks_of stage old.asked;
      } in
      answers_behind pool (allotment.hand_of stage) old d (allotment.left_of stage) (allotment.left_after came) room
      (view_of mid.seat) did.wrote.added did.written did.wrote.more did.wrote.noted did.spends start mid refl
      (noted_so start mid did.written did.log mid_so) replies

  -- a root was born, and what its count asks of the context that noted that
  module _ (root : RootId) (region : RegionId)
      (did : allotment.HasAllotted pool old.seat mid.seat old.sampler mid.sampler old.notes mid.notes size class stage
      (Done (New root region))) where
    abbrev born_start : Context
    born_start = record old { seat = mid.seat; sampler = mid.sampler; asked = allotment.asks_of stage old.asked }

    new_staged : Staged pool (allotment.hand_of stage) empty_hand old born_start mid did.wrote.added (one_for root)
    new_staged = allotted pool old mid name size class stage d class_is mid_so (Done (New root region)) did

    counts_kept : mid.counts ≡ old.counts
    counts_kept =
        staged_counts pool (allotment.hand_of stage) empty_hand old born_start mid did.wrote.added (one_for root)
        new_staged

    -- the root's place is one of the lane context's
    pub new_place : root.place < length mid.counts
    new_place =
        let places : length mid.counts ≡ pool.table.layout.shape.lanes * pool.table.layout.shape.handles =
        ap (λ (cs : List Counted). length cs) counts_kept ∙ d.places
        ∙ (λ i. (d.shape i).lanes * (d.shape i).handles) in
        subst (λ (n : ℕ). root.place < n) (sym places) did.place.0

    -- of the place no other root is counted
    pub new_alone : (other : RootId) → other.place ≡ root.place → 0 < counted mid.counts other → other ≡ root
    new_alone other at some =
        alone_added old.counts (view_of old.seat) (view_of mid.seat) did.wrote.added (one_for root) d.counts
        did.wrote.seat.alone did.wrote.more.notes did.counts did.wrote.seat.counts root
        (let a : one_for root root ≡ 1 = ap (λ (b : Bool). if b then 1 else 0) (same_root-refl root) in
        omega (arith, a))
        other at (subst (λ (cs : List Counted). 0 < counted cs other) counts_kept some)

    -- it isn't counted too often for one count more
    pub new_few : HasRoomFor pool old (allotment.left_of stage) → counted mid.counts root < 4294967295
    new_few room =
        let a = few_counted old.counts (entries_of old) d.counts root in let b = length-map (notes_of old) entry_of in
        let e = room.few in
        subst (λ (cs : List Counted). counted cs root < 4294967295) (sym counts_kept) (omega (arith, a, b, e))

    pub new_name : name < length old.names → name < length mid.names
    new_name lt =
        subst (λ (names : List (Option Bound)). name < length names)
        (sym (staged_names pool (allotment.hand_of stage) empty_hand old born_start mid did.wrote.added
        (one_for root) new_staged)) lt

module _ (pool : SharedPool) (old new : Context) (name size : ℕ) (s : LaneState)
    (state : IsState s old.names old.counts)
  where
    abbrev command : Command
    command = Command.Alloc name size

    -- the name is bound
    pub taken_turn : MayTurn pool (left_for old.composes command) old → (b : Bound) → bound_at old.names name ≡ Some b
        → HasReplied old new Reply.Taken → HasTurned pool old new s command Ready (Went Ready)
    taken_turn may b bound replied =
        refused_turn pool (left_for old.composes command) old new may Taken replied s command state.names_are
        (refuses s old.names old.counts state old.shape (lane_of old.seat) command Reply.Taken
        (comes_first (taken s name) (too_large_for old.shape size ∷ [])
        (is_taken s old.names old.counts state name b bound)))

    module _ (none : bound_at old.names name ≡ None) where
      free_first : (class : Option ℕ) → class_of (geometry_of old.shape) size ≡ class
          → first_refusal (refusals old.shape s command) ≡ (if is_none class then Some Reply.TooLarge else None)
      free_first class is =
          passed (taken s name) (too_large_for old.shape size ∷ []) (is_free s old.names old.counts state name none)
          ∙ ap (λ (o : Option ℕ). if is_none o then Some Reply.TooLarge else None) is

      -- no class holds the size
      pub too_large : MayTurn pool (left_for old.composes command) old → class_of (geometry_of old.shape) size ≡ None
          → HasReplied old new Reply.TooLarge → HasTurned pool old new s command Ready (Went Ready)
      too_large may is replied =
          noteless pool old new may.context may.asked old.names Reply.TooLarge refl replied
          (rebound_same 1 old.names old.names refl) s command s.names
          state.names_are
          (refuses s old.names old.counts state old.shape (lane_of old.seat) command Reply.TooLarge
          (free_first None is))

      -- the allocation was begun
      module _ (class : ℕ) (is : class_of (geometry_of old.shape) size ≡ Some class) where
        begun_reads : (log : Log) → reads_from old.shape (lane_of old.seat) s command Ready log
            ≡ reads_from old.shape (lane_of old.seat) s command (Allotting name size class AskHandle) log
        begun_reads log =
            ap (λ o. option_and_then (λ got. swept (lane_of old.seat) got.0 got.1) o)
            (goes s old.names old.counts state old.shape (lane_of old.seat) command (free_first (Some class) is) log)

        pub begun_turn : (turn : Turn) → HasTurned pool old new s command (Allotting name size class AskHandle) turn
            → HasTurned pool old new s command Ready turn
        begun_turn =
            begin.begun_turn pool old new s command (Allotting name size class AskHandle) tt begun_reads
            (within_sheds (view_of old.seat) (allotment.left_of AskHandle) (left_for old.composes command)
            (within_same (left_for old.composes command)))
