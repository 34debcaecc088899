-- The turns that ask the root of a name's view for capacity.
use Rattle.std.proofs.Common.{◌≡◌, ℕ, ◌+◌, ◌<◌, ◌≤◌, List, [], ◌∷◌, length, map, refl, sym, ap, ◌∙◌, subst, arith, Option, Some, None}
use Rattle.std.specs.Prelude.{if◌then◌else◌, is_none, option_and_then, slice_set, vec_capacity, Result, Ok, Err}
use Rattle.size_classes.specs.Sizes.{class_of}
use Rattle.pool_law.specs.declared.command.Command.{Command}
use Rattle.pool_law.specs.declared.id.RootId.{RootId}
use Rattle.pool_law.specs.declared.id.ViewData.{ViewData}
use Rattle.pool_law.specs.declared.note.Held.{Held}
use Rattle.pool_law.specs.declared.note.Object.{Object}
use Rattle.pool_law.specs.declared.run.Reply.{Reply}
use Rattle.pool_law.specs.declared.run.Shape.{Shape}
use Rattle.pool_law.specs.Limits.{geometry_of}
use Rattle.pool_law.specs.LaneLaw.{sweep_period}
use Rattle.pool_law.specs.LaneStates.{LaneState}
use Rattle.pool_law.specs.Lanes.{Answer, regrown}
use Rattle.pool_law.specs.Names.{Plain, bind, Bound}
use Rattle.pool_law.specs.Patterns.{regrow}
use Rattle.pool_law.specs.Readers.{Log, Reader, ◌>>=◌, give, given}
use Rattle.pool_law.specs.Refusals.{first_refusal, refusals, too_large as too_large_for}
use Rattle.pool_law.specs.Views.{LiesIn, reaching}
use Rattle.byte_view.specs.declared.view.View.{View}
use Rattle.pool_table.specs.Capacities.{knows_of}
use Rattle.pool_table.specs.declared.views.Entry.{Entry}
use Rattle.shared_pool.specs.SeatViews.{view_of}
use Rattle.shared_pool.specs.declared.pool.SharedPool.{SharedPool}
use Rattle.shared_pool.specs.Closing.{entry_of}
use Rattle.shared_pool.specs.SeatLanes.{lane_of}
use Rattle.seat_work.specs.Hands.{Hand, empty_hand}
use Rattle.lane_context.specs.declared.access.Refusal.{Refusal}
use Rattle.lane_context.specs.declared.access.Refusal.TheVariants.{TooLarge}
use Rattle.lane_stages.specs.declared.counts.Counted.{Counted}
use Rattle.lane_context.specs.declared.context.Context.{Context}
use Rattle.lane_context.specs.declared.context.Stage.TheVariants.{Ready, Growing}
use Rattle.lane_context.specs.declared.context.Turn.{Turn}
use Rattle.lane_context.specs.declared.context.Turn.TheVariants.{Went, Pending}
use Rattle.lane_stages.specs.declared.growing.Growing.{Growing as GrowStage}
use Rattle.lane_stages.specs.declared.growing.Growing.TheVariants as at
use Rattle.lane_stages.specs.declared.growing.Regrown.{Regrown}
use Rattle.lane_stages.specs.declared.growing.Regrown.TheVariants.{Has, Full}
use Rattle.lane_stages.specs.declared.stage_step.StageStep.{StageStep}
use Rattle.lane_stages.specs.declared.stage_step.StageStep.TheVariants.{More, Held as GrowHeld, Done}
use Rattle.lane_context.specs.Accesses.{IsRefused, IsState, reply_for}
use Rattle.lane_stages.specs.Budgets.{Left, Spends, notes_alone}
use Rattle.lane_stages.specs.Counting.{CountsAre, counted}
use Rattle.lane_stages.specs.Growings as growing
use Rattle.lane_context.specs.Named.{NamesAre, bound_at, known_to}
use Rattle.lane_stages.specs.NextNotes.{BeginsAt}
use Rattle.seat_work.specs.Readings.{ReadsOn}
use Rattle.lane_context.specs.Readings.{renamed, swept}
use Rattle.lane_stages.specs.Wrote.{Wrote}
use Rattle.lane_context.specs.Contexts.{HasRoomFor, HasTurned, IsContext, entries_of, left_for, reads_from}
use Rattle.lane_context.specs.ContextSteps.{CanAnswer, Concludes, HasNoted, HasReplied, MayGoOn, MayTurn}
use Rattle.lane_context.proofs.BeginTurns as begin
use Rattle.lane_context.proofs.BeginTurns.{within_same, within_sheds}
use Rattle.lane_context.proofs.ContextGrown.{noted_so}
use Rattle.lane_context.proofs.ContextLaws.{entries_more, spends_at}
use Rattle.lane_stages.proofs.EntryCounts.{Recounts}
use Rattle.lane_stages.proofs.Knowing.{knows_more}
use Rattle.lane_context.proofs.NameLaws.{NamesAre-bind, bound_within, rebound_same, rebound_view}
use Rattle.lane_stages.proofs.NextNotes.{then_begins}
use Rattle.lane_context.proofs.PartTurns.{recounts_between}
use Rattle.seat_work.proofs.ReadLaws.{given_on, then_on}
use Rattle.lane_stages.proofs.SeatCounts.{has_count}
use Rattle.lane_context.proofs.StageNeeds.{answers_behind}
use Rattle.lane_context.proofs.StageTurns.{Staged, none_of, some_of, staged_concludes, staged_grew, staged_on, staged_still}
use Rattle.lane_context.proofs.StateReads.{goes, refused_view, refuses, used_view, viewed}
use Rattle.lane_context.proofs.Turning.{refused_turn}

-- the count of allocations that asked a cache never falls in one
asks_least : (stage : GrowStage) (n : ℕ) → n ≤ growing.asks_of stage n
asks_least at.Ask n = omega arith
asks_least at.Cache n = omega arith
asks_least at.Arena n = omega arith
asks_least (at.Grow r) n = omega arith
asks_least (at.Put k r) n = omega arith
asks_least (at.Give k r) n = omega arith

-- each stage has a note left
grow_left : (stage : GrowStage) → 1 ≤ (growing.left_of stage).notes
grow_left at.Ask = omega arith
grow_left at.Cache = omega arith
grow_left at.Arena = omega arith
grow_left (at.Grow r) = omega arith
grow_left (at.Put k r) = omega arith
grow_left (at.Give k r) = omega arith

pub may_grow : (pool : SharedPool) (old : Context) (root : RootId) (size class : ℕ) (stage : GrowStage)
    → IsContext pool (growing.hand_of stage) old → HasRoomFor pool old (growing.left_of stage)
    → growing.Fits pool old.seat root size class stage → growing.MayGrow pool old.seat root size class stage
may_grow pool old root size class stage d room fits = record {
  seat_is = d.seat;
  turn = (let a = room.turns in let b = grow_left stage in omega (arith, a, b));
  hand = d.held;
  fits = fits;
}

module _ (pool : SharedPool) (old mid : Context) (name : ℕ) (v : View) (size class : ℕ) (stage : GrowStage)
    (d : IsContext pool (growing.hand_of stage) old) (class_is : class_of (geometry_of old.shape) size ≡ Some class)
    (mid_so : mid ≡ record old { seat = mid.seat; notes = mid.notes; asked = growing.asks_of stage old.asked }) where
  abbrev root : RootId
  root = v.at.root

  abbrev before : Hand
  before = growing.hand_of stage

  abbrev asks : ℕ → ℕ
  asks = growing.asks_of stage

  abbrev start : Context
  start = record old { seat = mid.seat; asked = asks old.asked }

  abbrev Did : StageStep GrowStage Regrown → Type 0
  Did came = growing.HasGrown pool old.seat mid.seat old.notes mid.notes root size class stage came

  -- counts that are the same are those of the log
  same_counts : (cs : List Counted) → ((r : RootId) → counted cs r ≡ counted old.counts r + 0)
      → CountsAre cs (entries_of old)
  same_counts cs same = record {
    counts = λ r. d.counts.counts r ∙ (let a = same r in omega (arith, a));
    holds = d.counts.holds;
  }

  names_same : mid.names ≡ old.names
  names_same = ap (λ (x : Context). x.names) mid_so

  module _ (came : StageStep GrowStage Regrown) (did : Did came) where
    abbrev wrote : Wrote pool old.seat mid.seat did.written old.sampler old.sampler
        (growing.rest_of pool.table.layout.shape (lane_of old.seat) root size class stage) asks
        (growing.rest_after pool.table.layout.shape (lane_of old.seat) root size class came)
    wrote = did.wrote old.sampler

    abbrev es : List Entry
    es = wrote.added

    recounted : (cs : List Counted) → ((r : RootId) → counted cs r ≡ counted old.counts r + 0)
        → Recounts old.counts cs (map entry_of es)
    recounted cs same =
        recounts_between old.counts cs (entries_of old) (map entry_of es) d.counts
        (subst (CountsAre cs) (entries_more old start es wrote.more.notes) (did.counts cs (same_counts cs same)))

    grown_so : Staged pool before (growing.hand_after came) old start mid es (λ r. 0)
    grown_so = record {
      context = d;
      start_is = refl;
      counts_are = refl;
      same = wrote.same;
      seat = wrote.seat;
      more = wrote.more;
      held = did.hand;
      sampled = wrote.sampled;
      adds = recounted;
      noted = subst (HasNoted start mid) (sym wrote.noted) (noted_so start mid did.written did.log mid_so);
    }

    read_on : ReadsOn (growing.rest_of old.shape (lane_of old.seat) root size class stage) (map entry_of es) asks
        (growing.rest_after old.shape (lane_of old.seat) root size class came)
    read_on =
        subst (λ (shape : Shape). ReadsOn (growing.rest_of shape (lane_of old.seat) root size class stage)
        (map entry_of es) asks (growing.rest_after shape (lane_of old.seat) root size class came)) (sym d.shape)
        wrote.read

    -- what is known only grew
    knows_on : knows_of root (view_of old.seat) ≤ knows_of root (view_of mid.seat)
    knows_on = knows_more (view_of old.seat) (view_of mid.seat) es wrote.more root

    -- and it can be answered
    pub grow_can : HasRoomFor pool old (growing.left_of stage) → length old.replies.items < vec_capacity old.replies
        → CanAnswer mid
    grow_can room replies =
        answers_behind pool before old d (growing.left_of stage) (growing.left_after came) room
        (view_of mid.seat) es did.written wrote.more wrote.noted did.spends start mid refl
        (noted_so start mid did.written did.log mid_so) replies

  module _ (bound : bound_at old.names name ≡ Some (Plain v.at)) where
    view_lies : LiesIn (known_to old.seat root) v.at
    view_lies = d.inside.each name (Plain v.at) bound

    bound_same : bound_at mid.names name ≡ Some (Plain v.at)
    bound_same = subst (λ (names : List (Option Bound)). bound_at names name ≡ Some (Plain v.at)) (sym names_same) bound

    pub name_within : name < length mid.names
    name_within = bound_within mid.names name (Plain v.at) bound_same

    -- the view ends within what the root has
    pub covers : (capacity : ℕ) → Did (Done (Has capacity)) → LiesIn capacity v.at
    covers capacity did =
        let a = view_lies in let b = knows_on (Done (Has capacity)) did in let k = did.fits.known in
        omega (arith, a, b, k)

    module _ (low : old.asked + (growing.left_of stage).asks ≤ sweep_period) (s : LaneState) (command : Command)
        (are : NamesAre s.names old.names) where
      abbrev lane : ℕ
      lane = lane_of old.seat

      -- how the law reads it from a stage on
      abbrev rest : GrowStage → Reader (Result ℕ Reply)
      rest at = growing.rest_of old.shape lane root size class at

      abbrev answers : Result ℕ Reply → Reader Answer
      answers got = give (regrown s name v.at got)

      abbrev reads_at_stage : GrowStage → Reader Answer
      reads_at_stage at = reads_from old.shape lane s command (Growing name v size class at)

      asked_is : mid.asked ≡ asks old.asked
      asked_is = ap (λ (x : Context). x.asked) mid_so

      class_still : class_of (geometry_of mid.shape) size ≡ Some class
      class_still =
          subst (λ (shape : Shape). class_of (geometry_of shape) size ≡ Some class)
          (sym (ap (λ (x : Context). x.shape) mid_so)) class_is

      pub grow_goes : (next : GrowStage) → Did (More next)
          → HasTurned pool old mid s command (Growing name v size class stage) (Went (Growing name v size class next))
      grow_goes next did =
          let st = grown_so (More next) did in let after : Hand = growing.hand_of next in
          let added = es (More next) did in let few = did.asked old.asked in let is = asked_is in
          record {
            added = added;
            grew = staged_grew pool before after old start mid added (λ r. 0) st (λ r. refl);
            fits = (class_still, did.fits, omega (arith, few, is, low));
            name = bound_same;
            spends =
                spends_at old mid (growing.left_of stage) (growing.left_of next) did.spends (omega (arith, few, is));
            comes =
                staged_on pool before after old start mid added (λ r. 0) st
                (some_of added did.written (wrote (More next) did).noted did.again) asks refl (reads_at_stage stage)
                (λ names. reads_from old.shape lane (renamed s names) command (Growing name v size class next)) s.names
                are
                (then_on (rest stage >>= answers) (map entry_of added) asks (swept lane) (rest next >>= answers)
                (then_on (rest stage) (map entry_of added) asks answers (rest next) (read_on (More next) did)));
            waits = tt;
            held = tt;
          }

      -- it is read from there on as the ask is
      begins_at : (o : Object)
          → BeginsAt o (growing.rest_of pool.table.layout.shape lane root size class stage)
          → BeginsAt o (reads_at_stage stage)
      begins_at o begins =
          then_begins o (rest stage >>= answers) (swept lane)
          (then_begins o (rest stage) answers
          (subst (λ (shape : Shape). BeginsAt o (growing.rest_of shape lane root size class stage)) (sym d.shape)
          begins))

      pub grow_waits : (held : Held) (next : GrowStage) → Did (GrowHeld held next)
          → HasTurned pool old mid s command (Growing name v size class stage)
          (Pending held (Growing name v size class next))
      grow_waits held next did =
          let st = grown_so (GrowHeld held next) did in let after : Hand = growing.hand_of next in
          let added = es (GrowHeld held next) did in let few = did.asked old.asked in let is = asked_is in
          record {
            added = added;
            grew = staged_grew pool before after old start mid added (λ r. 0) st (λ r. refl);
            fits = (class_still, did.fits, omega (arith, few, is, low));
            name = bound_same;
            spends =
                spends_at old mid (growing.left_of stage) (growing.left_of next) did.spends (omega (arith, few, is));
            comes = (
              λ log. ap (λ (at : GrowStage). reads_at_stage at log) (sym did.again.0),
              staged_still pool before after old start mid added (λ r. 0) st
                  (none_of added ((wrote (GrowHeld held next) did).noted ∙ did.again.1))
                  (let b = asks_least stage old.asked in
                  let e = ap (λ (at : GrowStage). (growing.left_of at).asks) did.again.0 in
                  omega (arith, few, b, e)),
            );
            waits = tt;
            held = (did.again.2, begins_at held.object did.again.3);
          }

      -- it comes to this, with these names
      module _ (came : StageStep GrowStage Regrown) (did : Did came)
          (empty : growing.hand_after came ≡ empty_hand)
          (left : growing.left_after came ≡ notes_alone 0) (some : 0 < length did.written) (got : Result ℕ Reply)
          (ends : growing.rest_after old.shape lane root size class came ≡ give got) where
        abbrev added : List Entry
        added = es came did

        abbrev st : Staged pool before (growing.hand_after came) old start mid added (λ r. 0)
        st = grown_so came did

        spent : Spends (view_of old.seat) (view_of mid.seat) (growing.left_of stage) (notes_alone 0)
        spent =
            subst (λ (l : Left). Spends (view_of old.seat) (view_of mid.seat) (growing.left_of stage) l) left
            did.spends

        counts_same : (r : RootId) → counted mid.counts r ≡ counted old.counts r + 0
        counts_same r =
            let a = ap (λ (x : Context). counted x.counts r) mid_so in omega (arith, a)

        reads_got : ReadsOn (rest stage >>= answers) (map entry_of added) asks (answers got)
        reads_got =
            given_on (rest stage) (map entry_of added) asks answers got
            (subst (λ r. ReadsOn (rest stage) (map entry_of added) asks r) ends (read_on came did))

      -- the root has so much, and the view reaches up to its end
      pub grow_done : (new : Context) (capacity : ℕ) → Did (Done (Has capacity)) → (turn : Turn)
          → Concludes (record mid { names = slice_set mid.names name (Some (Plain (reaching capacity v.at))) }) new
          (Reply.OkNumber capacity) turn
          → HasTurned pool old new s command (Growing name v size class stage) turn
      grow_done new capacity did turn concludes =
          let w : ViewData = reaching capacity v.at in
          let came : StageStep GrowStage Regrown = Done (Has capacity) in
          let few = did.asked old.asked in let lt = bound_within old.names name (Plain v.at) bound in
          staged_concludes pool before empty_hand old start mid (es came did) (λ r. 0) (grown_so came did) refl
          new (slice_set mid.names name (Some (Plain w))) mid.counts (Reply.OkNumber capacity) refl
          (counts_same came did refl refl did.again (Ok capacity) refl)
          (ap (λ (x : Context). length x.counts) mid_so)
          (rebound_view 0 old.names mid.names names_same name lt w
          (let a = covers capacity did in let k = did.fits.known in omega (arith, a, k)))
          s command (Growing name v size class stage) (bind name (Plain w) s.names)
          (subst (λ (names : List (Option Bound)). NamesAre (bind name (Plain w) s.names)
          (slice_set names name (Some (Plain w)))) (sym names_same)
          (NamesAre-bind s.names old.names are name (Plain w) lt))
          (some_of (es came did) did.written (wrote came did).noted did.again) (growing.left_of stage) refl
          (spent came did refl refl did.again (Ok capacity) refl) (omega (arith, few)) asks refl
          (rest stage >>= answers) (λ log. refl)
          (reads_got came did refl refl did.again (Ok capacity) refl) turn concludes

      -- the arena was full
      pub grow_full : (new : Context) → Did (Done Full) → (turn : Turn) → Concludes mid new Reply.Full turn
          → HasTurned pool old new s command (Growing name v size class stage) turn
      grow_full new did turn concludes =
          let few = did.asked old.asked in
          staged_concludes pool before empty_hand old start mid (es (Done Full) did) (λ r. 0)
          (grown_so (Done Full) did) refl new mid.names mid.counts Reply.Full refl
          (counts_same (Done Full) did refl refl did.again (Err Reply.Full) refl)
          (ap (λ (x : Context). length x.counts) mid_so)
          (rebound_same 0 old.names mid.names names_same) s command (Growing name v size class stage) s.names
          (subst (NamesAre s.names) (sym names_same) are)
          (some_of (es (Done Full) did) did.written (wrote (Done Full) did).noted did.again) (growing.left_of stage)
          refl (spent (Done Full) did refl refl did.again (Err Reply.Full) refl) (omega (arith, few)) asks refl
          (rest stage >>= answers) (λ log. refl)
          (reads_got (Done Full) did refl refl did.again (Err Reply.Full) refl) turn concludes

-- ---- The command begins.

-- an ask may begin
pub may_begin_grow : (pool : SharedPool) (old : Context) (name size class : ℕ) (v : View)
    → MayTurn pool (left_for old.composes (Command.Capacity name size)) old
    → class_of (geometry_of old.shape) size ≡ Some class → bound_at old.names name ≡ Some (Plain v.at)
    → 0 < counted old.counts v.at.root → MayGoOn pool (Growing name v size class at.Ask) old
may_begin_grow pool old name size class v may is bound lt = record {
  context = may.context;
  fits = (
    is,
    has_count old.counts (view_of old.seat) may.context.seat.alone may.context.counts v.at.root lt,
    (let a = may.asked in omega (arith, a)),
  );
  name = bound;
  room = λ command. may.room;
  replies = may.replies;
}

module _ (pool : SharedPool) (old new : Context) (name size : ℕ) (s : LaneState)
    (state : IsState s old.names old.counts) where
  abbrev command : Command
  command = Command.Capacity name size

  -- the name's view can't be used
  pub refused_ask : MayTurn pool (left_for old.composes command) old → (refusal : Refusal)
      → IsRefused old.names old.counts name refusal → HasReplied old new (reply_for refusal)
      → HasTurned pool old new s command Ready (Went Ready)
  refused_ask may refusal is replied =
      refused_turn pool (left_for old.composes command) old new may refusal replied s command state.names_are
      (refuses s old.names old.counts state old.shape (lane_of old.seat) command (reply_for refusal)
      (refused_view s old.names old.counts state name refusal is (too_large_for old.shape size ∷ [])))

  module _ (v : View) (bound : bound_at old.names name ≡ Some (Plain v.at)) (lt : 0 < counted old.counts v.at.root)
    where
      used_first : (class : Option ℕ) → class_of (geometry_of old.shape) size ≡ class
          → first_refusal (refusals old.shape s command) ≡ (if is_none class then Some Reply.TooLarge else None)
      used_first class is =
          used_view s old.names old.counts state name v.at bound lt (too_large_for old.shape size ∷ [])
          ∙ ap (λ (o : Option ℕ). if is_none o then Some Reply.TooLarge else None) is

      -- no class holds the size
      pub large_ask : MayTurn pool (left_for old.composes command) old → class_of (geometry_of old.shape) size ≡ None
          → HasReplied old new Reply.TooLarge → HasTurned pool old new s command Ready (Went Ready)
      large_ask may is replied =
          refused_turn pool (left_for old.composes command) old new may TooLarge replied s command state.names_are
          (refuses s old.names old.counts state old.shape (lane_of old.seat) command Reply.TooLarge
          (used_first None is))

      module _ (class : ℕ) (is : class_of (geometry_of old.shape) size ≡ Some class) where
        abbrev number : ℕ
        number = lane_of old.seat

        abbrev asks_root : ViewData → Reader Answer
        asks_root view = regrow old.shape number view.root size >>= (λ got. give (regrown s name view got))

        begun_reads : (log : Log) → reads_from old.shape number s command Ready log
            ≡ reads_from old.shape number s command (Growing name v size class at.Ask) log
        begun_reads log =
            ap (λ o. option_and_then (λ got. swept number got.0 got.1) o)
            (goes s old.names old.counts state old.shape number command (used_first (Some class) is) log
            ∙ ap (λ (o : Option ViewData). (given o >>= asks_root) log)
            (viewed s old.names old.counts state name v.at bound))

        pub begun_ask : (turn : Turn) → HasTurned pool old new s command (Growing name v size class at.Ask) turn
            → HasTurned pool old new s command Ready turn
        begun_ask =
            begin.begun_turn pool old new s command (Growing name v size class at.Ask) tt begun_reads
            (within_sheds (view_of old.seat) (growing.left_of at.Ask) (left_for old.composes command)
            (within_same (left_for old.composes command)))
