-- The turns of an allocation.
use Rattle.std.proofs.Common.{◌≡◌, ℕ, ◌+◌, ◌<◌, ◌≤◌, List, [], ◌∷◌, false, length, map, refl, sym, ap, ◌∙◌, subst, arith, Option, Some}
use Rattle.std.specs.Prelude.{slice_set, Result, Ok, Err}
use Rattle.size_classes.specs.Sizes.{class_of}
use Rattle.pool_law.specs.declared.command.Command.{Command}
use Rattle.pool_law.specs.declared.id.RegionId.{RegionId}
use Rattle.pool_law.specs.declared.id.RootId.{RootId}
use Rattle.pool_law.specs.declared.id.ViewData.{ViewData}
use Rattle.pool_law.specs.declared.note.Held.{Held}
use Rattle.pool_law.specs.declared.note.Note.{Note}
use Rattle.pool_law.specs.declared.note.Object.{Object}
use Rattle.pool_law.specs.declared.run.Reply.{Reply}
use Rattle.pool_law.specs.declared.run.Shape.{Shape}
use Rattle.pool_law.specs.Limits.{geometry_of}
use Rattle.pool_law.specs.LaneLaw.{sweep_period, before_stop}
use Rattle.pool_law.specs.LaneStates.{LaneState}
use Rattle.pool_law.specs.Lanes.{Answer, allotted as law_allotted}
use Rattle.pool_law.specs.Names.{Plain, bind, Bound}
use Rattle.pool_law.specs.Patterns.{New as LawNew}
use Rattle.pool_law.specs.Readers.{Reader, ◌>>=◌, give}
use Rattle.pool_law.specs.Views.{view_of as root_view}
use Rattle.shared_pool.specs.SeatViews.{view_of}
use Rattle.shared_pool.specs.declared.pool.SharedPool.{SharedPool}
use Rattle.shared_pool.specs.Closing.{entry_of}
use Rattle.shared_pool.specs.SeatLanes.{lane_of}
use Rattle.shared_pool.specs.Seats.{FoundBusy}
use Rattle.lane_stages.specs.declared.counts.Counted.{Counted}
use Rattle.lane_context.specs.declared.context.Context.{Context}
use Rattle.lane_context.specs.declared.context.Stage.TheVariants.{Allotting}
use Rattle.lane_context.specs.declared.context.Turn.{Turn}
use Rattle.lane_context.specs.declared.context.Turn.TheVariants.{Went, Pending}
use Rattle.lane_stages.specs.declared.allotment.Allotting.{Allotting as AllotStage}
use Rattle.lane_stages.specs.declared.allotment.Allotting.TheVariants.{Handle as AllotHandle, Cache as AllotCache, Arena as AllotArena, Birth as AllotBirth, Home as AllotHome}
use Rattle.lane_stages.specs.declared.allotment.Allotted.{Allotted}
use Rattle.lane_stages.specs.declared.allotment.Allotted.TheVariants.{New}
use Rattle.lane_stages.specs.declared.stage_step.StageStep.{StageStep}
use Rattle.lane_stages.specs.declared.stage_step.StageStep.TheVariants.{More, Held as AllotHeld, Done}
use Rattle.lane_stages.specs.Allotments as allotment
use Rattle.lane_stages.specs.Budgets.{Left, Spends, notes_alone}
use Rattle.seat_work.specs.Changes.{one_for}
use Rattle.lane_stages.specs.Counting.{counted}
use Rattle.seat_work.specs.Hands.{Hand, empty_hand}
use Rattle.lane_context.specs.Named.{NamesAre}
use Rattle.lane_stages.specs.NextNotes.{BeginsAt}
use Rattle.seat_work.specs.Readings.{ReadsOn}
use Rattle.lane_context.specs.Readings.{swept, renamed}
use Rattle.lane_context.specs.Contexts.{IsContext, reads_from, HasTurned}
use Rattle.lane_context.specs.ContextSteps.{HasNoted, Concludes, CountsMore}
use Rattle.lane_stages.proofs.NextNotes.{then_begins}
use Rattle.lane_stages.proofs.SeatCounts.{adds_recounted}
use Rattle.lane_stages.proofs.Knowing.{knows_name}
use Rattle.lane_context.proofs.NameLaws.{NamesAre-bind, rebound_same, rebound_view}
use Rattle.seat_work.proofs.ReadLaws.{then_on, given_on}
use Rattle.lane_context.proofs.ContextLaws.{spends_at}
use Rattle.lane_context.proofs.ContextGrown.{noted_so}
use Rattle.lane_context.proofs.StageTurns.{Staged, none_of, some_of, staged_concludes, staged_counts, staged_grew, staged_names, staged_on, staged_seat, staged_shape, staged_still}

-- the count of allocations that asked a cache never falls in one
pub asks_least : (stage : AllotStage) (n : ℕ) → n ≤ allotment.asks_of stage n
asks_least AllotHandle n = omega arith
asks_least (AllotCache h) n = omega arith
asks_least (AllotArena h) n = omega arith
asks_least (AllotBirth h r) n = omega arith
asks_least (AllotHome h) n = omega arith

module _ (pool : SharedPool) (old mid : Context) (name size class : ℕ) (stage : AllotStage)
    (d : IsContext pool (allotment.hand_of stage) old) (class_is : class_of (geometry_of old.shape) size ≡ Some class)
    (mid_so : mid ≡ record old {
      seat = mid.seat;
      sampler = mid.sampler;
      notes = mid.notes;
      asked =
          allotment.asks_of stage old.asked;
    }) where
  abbrev allot_start : Context
  allot_start = record old { seat = mid.seat; sampler = mid.sampler; asked = allotment.asks_of stage old.asked }

  module _ (came : StageStep AllotStage Allotted)
      (did : allotment.HasAllotted pool old.seat mid.seat old.sampler mid.sampler old.notes mid.notes size class stage
      came) where
    pub allotted : Staged pool (allotment.hand_of stage) (allotment.hand_after came) old allot_start mid
        did.wrote.added (allotment.born_in came)
    allotted = record {
      context = d;
      start_is = refl;
      counts_are = refl;
      same = did.wrote.same;
      seat = did.wrote.seat;
      more = did.wrote.more;
      held = did.hand;
      sampled = did.wrote.sampled;
      adds = λ cs. adds_recounted old.counts cs (map entry_of did.wrote.added) (allotment.born_in came) did.counts;
      noted =
          subst (HasNoted allot_start mid) (sym did.wrote.noted) (noted_so allot_start mid did.written did.log mid_so);
    }

    pub read_on : ReadsOn (allotment.rest_of old.shape (lane_of old.seat) size class stage)
        (map entry_of did.wrote.added) (allotment.asks_of stage)
        (allotment.rest_after old.shape (lane_of old.seat) size class came)
    read_on =
        subst (λ (shape : Shape). ReadsOn (allotment.rest_of shape (lane_of old.seat) size class stage)
        (map entry_of did.wrote.added) (allotment.asks_of stage)
        (allotment.rest_after shape (lane_of old.seat) size class came)) (sym d.shape) did.wrote.read

  module _ (s : LaneState) (command : Command) (are : NamesAre s.names old.names) where
    -- how the law reads it from a stage on
    abbrev body_of : Reader (Result LawNew Reply) → Reader Answer
    body_of r = r >>= (λ got. give (law_allotted s name got))

    abbrev reads_at_stage : AllotStage → Reader Answer
    reads_at_stage at = reads_from old.shape (lane_of old.seat) s command (Allotting name size class at)

    name_fits : (came : StageStep AllotStage Allotted)
        → allotment.HasAllotted pool old.seat mid.seat old.sampler mid.sampler old.notes mid.notes size class stage
        came → name < length old.names → name < length mid.names
    name_fits came did lt =
        let is : mid.names ≡ old.names = staged_names pool (allotment.hand_of stage) (allotment.hand_after came) old
        allot_start mid did.wrote.added (allotment.born_in came) (allotted came did) in
        let same = ap (λ (names : List (Option Bound)). length names) is in omega (arith, same, lt)

    module _ (lt : name < length old.names) (low : old.asked + (allotment.left_of stage).asks ≤ sweep_period) where
      mid_asked_is : mid.asked ≡ allotment.asks_of stage old.asked
      mid_asked_is = ap (λ (x : Context). x.asked) mid_so

      pub allot_goes : (next : AllotStage) → allotment.HasAllotted pool old.seat mid.seat old.sampler mid.sampler
          old.notes mid.notes size class stage (More next)
          → HasTurned pool old mid s command (Allotting name size class stage)
          (Went (Allotting name size class next))
      allot_goes next did =
          let after : Hand = allotment.hand_of next in let st = allotted (More next) did in
          let shape_is = staged_shape pool (allotment.hand_of stage) after old allot_start mid did.wrote.added
          (λ root. 0) st in
          let seat_is = staged_seat pool (allotment.hand_of stage) after old allot_start mid did.wrote.added (λ root. 0)
          st in
          let few = did.asked old.asked in let is = mid_asked_is in
          record {
            added = did.wrote.added;
            grew =
                staged_grew pool (allotment.hand_of stage) after old allot_start mid did.wrote.added (λ root. 0) st
                (λ root. refl);
            fits = (
              subst (λ (shape : Shape). class_of (geometry_of shape) size ≡ Some class) (sym shape_is) class_is,
              subst (λ x. allotment.Fits pool x class next) (sym seat_is) did.fits,
              omega (arith, few, is, low),
            );
            spends = spends_at old mid (allotment.left_of stage) (allotment.left_of next)
                (subst (λ x. Spends (view_of old.seat) (view_of x) (allotment.left_of stage) (allotment.left_of next))
                (sym seat_is) did.spends) (omega (arith, few, is));
            name = name_fits (More next) did lt;
            comes =
                staged_on pool (allotment.hand_of stage) after old allot_start mid did.wrote.added (λ root. 0) st
                (some_of did.wrote.added did.written did.wrote.noted did.again) (allotment.asks_of stage) refl
                (reads_at_stage stage)
                (λ names. reads_from old.shape (lane_of old.seat) (renamed s names) command
                (Allotting name size class next)) s.names are
                (then_on (body_of (allotment.rest_of old.shape (lane_of old.seat) size class stage))
                (map entry_of did.wrote.added) (allotment.asks_of stage) (swept (lane_of old.seat))
                (body_of (allotment.rest_of old.shape (lane_of old.seat) size class next))
                (then_on (allotment.rest_of old.shape (lane_of old.seat) size class stage)
                (map entry_of did.wrote.added) (allotment.asks_of stage) (λ got. give (law_allotted s name got))
                (allotment.rest_of old.shape (lane_of old.seat) size class next) (read_on (More next) did)));
            waits = tt;
            held = tt;
          }

      -- it is read from there on as the allocation is
      waits_at : (o : Object)
          → BeginsAt o (allotment.rest_of pool.table.layout.shape (lane_of old.seat) size class stage)
          → BeginsAt o (reads_at_stage stage)
      waits_at o begins =
          let rest = allotment.rest_of old.shape (lane_of old.seat) size class stage in
          let made : Result LawNew Reply → Reader Answer = λ got. give (law_allotted s name got) in
          then_begins o (rest >>= made) (swept (lane_of old.seat))
          (then_begins o rest made
          (subst (λ (shape : Shape). BeginsAt o (allotment.rest_of shape (lane_of old.seat) size class stage))
          (sym d.shape) begins))

      pub allot_waits : (held : Held) (next : AllotStage)
          → allotment.HasAllotted pool old.seat mid.seat old.sampler mid.sampler old.notes mid.notes size class stage
          (AllotHeld held next) → HasTurned pool old mid s command (Allotting name size class stage)
          (Pending held (Allotting name size class next))
      allot_waits held next did =
          let after : Hand = allotment.hand_of next in let st = allotted (AllotHeld held next) did in
          let shape_is = staged_shape pool (allotment.hand_of stage) after old allot_start mid did.wrote.added
          (λ root. 0) st in
          let seat_is = staged_seat pool (allotment.hand_of stage) after old allot_start mid did.wrote.added (λ root. 0)
          st in
          let few = did.asked old.asked in let is = mid_asked_is in
          record {
            added = did.wrote.added;
            grew =
                staged_grew pool (allotment.hand_of stage) after old allot_start mid did.wrote.added (λ root. 0) st
                (λ root. refl);
            fits = (
              subst (λ (shape : Shape). class_of (geometry_of shape) size ≡ Some class) (sym shape_is) class_is,
              subst (λ x. allotment.Fits pool x class next) (sym seat_is) did.fits,
              omega (arith, few, is, low),
            );
            spends = spends_at old mid (allotment.left_of stage) (allotment.left_of next)
                (subst (λ x. Spends (view_of old.seat) (view_of x) (allotment.left_of stage) (allotment.left_of next))
                (sym seat_is) did.spends) (omega (arith, few, is));
            name = name_fits (AllotHeld held next) did lt;
            comes = (
              λ log. ap (λ (at : AllotStage). reads_at_stage at log) (sym did.again.0),
              staged_still pool (allotment.hand_of stage) after old allot_start mid did.wrote.added (λ root. 0) st
                  (none_of did.wrote.added (did.wrote.noted ∙ did.again.1))
                  (let a = few in let b = asks_least stage old.asked in let e =
                  ap (λ (at : AllotStage). (allotment.left_of at).asks) did.again.0 in omega (arith, a, b, e)),
            );
            waits = tt;
            held = (
              subst (λ x. FoundBusy pool held.object false old.seat x held) (sym seat_is) did.again.2,
              waits_at held.object did.again.3,
            );
          }

      -- a root was born, and its name is bound
      pub allot_new : (new : Context) (root : RootId) (region : RegionId)
          → allotment.HasAllotted pool old.seat mid.seat old.sampler mid.sampler old.notes mid.notes size class stage
          (Done (New root region)) → (cs : List Counted) → CountsMore mid.counts cs root → (turn : Turn) →
          Concludes (record mid { names = slice_set mid.names name (Some (Plain (root_view root))); counts = cs }) new
          (Reply.OkPlace region.place.len region.place) turn
          → HasTurned pool old new s command (Allotting name size class stage) turn
      allot_new new root region did cs more turn concludes =
          let st = allotted (Done (New root region)) did in let w : ViewData = root_view root in let asks =
          allotment.asks_of stage in
          let names_are = staged_names pool (allotment.hand_of stage) empty_hand old allot_start mid did.wrote.added
          (one_for root) st in
          let counts_are = staged_counts pool (allotment.hand_of stage) empty_hand old allot_start mid did.wrote.added
          (one_for root) st in
          let before : CountsMore old.counts cs root =
          subst (λ (ds : List Counted). CountsMore ds cs root) counts_are more in
          let few = did.asked old.asked in
          staged_concludes pool (allotment.hand_of stage) empty_hand old allot_start mid did.wrote.added (one_for root)
          st refl new (slice_set mid.names name (Some (Plain w))) cs (Reply.OkPlace region.place.len region.place) refl
          before.counts before.places
          (rebound_view 0 old.names mid.names names_are name lt w
          (let k = knows_name root (view_of mid.seat) in omega (arith, k))) s
          command (Allotting name size class stage) (bind name (Plain w) s.names)
          (subst (λ (names : List (Option Bound)). NamesAre (bind name (Plain w) s.names)
          (slice_set names name (Some (Plain w)))) (sym names_are) (NamesAre-bind s.names old.names are name
          (Plain w) lt))
          (some_of did.wrote.added did.written did.wrote.noted did.again) (allotment.left_of stage) refl did.spends
          (omega (arith, few)) asks refl
          (body_of (allotment.rest_of old.shape (lane_of old.seat) size class stage)) (λ log. refl)
          (given_on (allotment.rest_of old.shape (lane_of old.seat) size class stage) (map entry_of did.wrote.added)
          asks (λ got. give (law_allotted s name got)) (Ok (record { root = root; region = region }))
          (read_on (Done (New root region)) did))
          turn concludes

      module _ (new : Context) (came : StageStep AllotStage Allotted) (reply : Reply)
          (unstopped : before_stop (reply ∷ []) ≡ 1)
          (empty : allotment.hand_after came ≡ empty_hand)
          (none : (root : RootId) → allotment.born_in came root ≡ 0)
          (left : allotment.left_after came ≡ notes_alone 0)
          (some : (log : List Note) → allotment.IsTriedAgain pool old.seat mid.seat size class stage came log
          → 0 < length log)
          (rest_is : allotment.rest_after old.shape (lane_of old.seat) size class came ≡ give (Err reply))
          (did : allotment.HasAllotted pool old.seat mid.seat old.sampler mid.sampler old.notes mid.notes size class
          stage came) where
        -- it was refused
        pub allot_refused : (turn : Turn) → Concludes mid new reply turn
            → HasTurned pool old new s command (Allotting name size class stage) turn
        allot_refused turn concludes =
            let after : Hand = allotment.hand_after came in let gain = allotment.born_in came in let st =
            allotted came did in let asks = allotment.asks_of stage in
            let names_are = staged_names pool (allotment.hand_of stage) after old allot_start mid did.wrote.added gain
            st in
            let counts_are = staged_counts pool (allotment.hand_of stage) after old allot_start mid did.wrote.added gain
            st in
            let few = did.asked old.asked in
            staged_concludes pool (allotment.hand_of stage) after old allot_start mid did.wrote.added gain st empty new
            mid.names mid.counts reply unstopped
            (λ root. (let a = none root in let b = ap (λ (cs : List Counted). counted cs root) counts_are in
            omega (arith, a, b)))
            (ap (λ (cs : List Counted). length cs) counts_are)
            (rebound_same 0 old.names mid.names names_are) s command
            (Allotting name size class stage) s.names (subst (NamesAre s.names) (sym names_are) are)
            (some_of did.wrote.added did.written did.wrote.noted (some did.written did.again)) (allotment.left_of stage)
            refl
            (subst (λ (l : Left). Spends (view_of old.seat) (view_of allot_start.seat) (allotment.left_of stage) l) left
            did.spends) (omega (arith, few)) asks refl
            (body_of (allotment.rest_of old.shape (lane_of old.seat) size class stage)) (λ log. refl)
            (given_on (allotment.rest_of old.shape (lane_of old.seat) size class stage) (map entry_of did.wrote.added)
            asks (λ got. give (law_allotted s name got)) (Err reply)
            (subst (λ r. ReadsOn (allotment.rest_of old.shape (lane_of old.seat) size class stage)
            (map entry_of did.wrote.added) asks r) rest_is (read_on came did)))
            turn concludes
