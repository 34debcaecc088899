-- The turns that release parts: of a composite that ends, and behind a copy of it.
use Rattle.std.proofs.Common.{◌≡◌, ℕ, ◌-◌, ◌<◌, ◌≤◌, List, [], ◌∷◌, ◌++◌, length, map, refl, sym, ap, ◌∙◌, subst, arith, append-nil, Option, Some}
use Rattle.std.specs.Global.{Box}
use Rattle.std.specs.Prelude.{Ok, option_and_then, slice_set, vec_capacity}
use Rattle.std.proofs.lemmas.List.Elements.{All-head, All-tail, All-weaker}
use Rattle.pool_law.specs.declared.note.Object.{Object}
use Rattle.pool_law.specs.declared.command.Command.{Command}
use Rattle.pool_law.specs.declared.id.Part.{Part}
use Rattle.pool_law.specs.declared.id.RootId.{RootId}
use Rattle.pool_law.specs.declared.note.Held.{Held}
use Rattle.pool_law.specs.declared.run.Reply.{Reply}
use Rattle.pool_law.specs.declared.run.Shape.{Shape}
use Rattle.pool_law.specs.Composites.{Composite, size_of}
use Rattle.pool_law.specs.Counts.{count_of}
use Rattle.pool_law.specs.LaneLaw.{sweep_period}
use Rattle.pool_law.specs.LaneStates.{LaneState}
use Rattle.pool_law.specs.Lanes.{Answer, composed, release_parts}
use Rattle.pool_law.specs.Names.{Bound, Composed, Names, bind}
use Rattle.pool_law.specs.Readers.{ToldNotes, Log, Reader, ◌>>=◌, ◌>>◌, give, nothing}
use Rattle.pool_law.proofs.CompositeLemmas.{release_part-gone}
use Rattle.pool_table.specs.declared.views.Entry.{Entry}
use Rattle.shared_pool.specs.declared.pool.SharedPool.{SharedPool}
use Rattle.shared_pool.specs.Closing.{entry_of, note_of}
use Rattle.shared_pool.specs.SeatLanes.{lane_of}
use Rattle.seat_work.specs.Hands.{empty_hand}
use Rattle.lane_stages.specs.declared.counts.Counted.{Counted}
use Rattle.lane_context.specs.declared.context.Context.{Context}
use Rattle.lane_context.specs.declared.context.Stage.TheVariants.{Ready, Parting, Replacing}
use Rattle.lane_context.specs.declared.context.Turn.{Turn}
use Rattle.lane_context.specs.declared.context.Turn.TheVariants.{Went, Pending}
use Rattle.lane_stages.specs.declared.retirement.Ending.{Ending}
use Rattle.lane_stages.specs.declared.releasing.Releasing.{Releasing}
use Rattle.lane_stages.specs.declared.stage_step.StageStep.{StageStep}
use Rattle.lane_stages.specs.declared.stage_step.StageStep.TheVariants.{More, Held as HeldBack, Done}
use Rattle.lane_context.specs.Composing.{HasLast, IsBindable, ended, released}
use Rattle.lane_stages.specs.Counting.{counted}
use Rattle.lane_context.specs.Named.{NamesAre, bound_at, known_to}
use Rattle.lane_stages.specs.NextNotes.{BeginsAt}
use Rattle.lane_context.specs.Readings.{renamed, swept}
use Rattle.lane_stages.specs.Releasings as releasing
use Rattle.lane_stages.specs.Releasings.{AreUncounted, IsOver, ReadsOnWith, hand_in, rest_in}
use Rattle.lane_context.specs.Contexts.{HasRoomFor, HasTurned, IsContext, log_of, notes_of, reads_from}
use Rattle.lane_context.specs.ContextSteps.{CanAnswer, Concludes, HasReplied, bound_to, recounted}
use Rattle.lane_stages.proofs.NextNotes.{then_begins}
use Rattle.lane_context.proofs.NameLaws.{NamesAre-bind, NamesAre-changed, rebound_composite, rebound_count, parts_later}
use Rattle.lane_context.proofs.PartTurns.{Moved, between, bindable_on, moved_answer, moved_can, moved_concludes, moved_counts, moved_grew, moved_on, moved_spends, moved_still, moved_with}
use Rattle.lane_stages.proofs.Knowing.{knows_more}
use Rattle.shared_pool.specs.SeatViews.{view_of}
use Rattle.lane_context.proofs.StageTurns.{none_of, some_of}

pub may_release : (pool : SharedPool) (old : Context) (stage : Releasing) → IsContext pool (releasing.hand_of stage) old
    → HasRoomFor pool old (releasing.left_of stage) → releasing.Fits pool old.seat stage
    → releasing.MayRelease pool old.seat old.counts stage
may_release pool old stage d room fits =
    record {
      seat_is = d.seat;
      turn = λ some. (let t = room.turns in omega (arith, some, t));
      hand = d.held;
      fits =
          fits;
      counts = d.counts;
    }

-- nothing is read of parts that aren't counted
module _ (shape : Shape) (cs : List Counted) (log : Log)
    (counts : (root : RootId) → count_of root log.seen ≡ counted cs root) where
  none_released : (parts : List Part) → AreUncounted cs parts → release_parts shape parts log ≡ nothing log
  none_released [] none = refl
  none_released (p ∷ ps) none =
      ap (λ (o : Option (Unit {0} × Log)). option_and_then (λ got. release_parts shape ps got.1) o)
      (release_part-gone shape p log (counts p.root ∙ All-head (λ q. counted cs q.root ≡ 0) p ps none))
      ∙ none_released ps (All-tail (λ q. counted cs q.root ≡ 0) p ps none)

  pub over_read : (stage : Releasing) → IsOver cs stage → releasing.rest_of shape stage log ≡ nothing log
  over_read stage over =
      ap (λ (e : Option Ending). (rest_in shape e >> release_parts shape stage.left.items) log) over.0
      ∙ none_released stage.left.items over.1

module _ (pool : SharedPool) (old mid : Context) (stage : Releasing) (d : IsContext pool (releasing.hand_of stage) old)
    (mid_is : mid ≡ record old { seat = mid.seat; counts = mid.counts; notes = mid.notes }) where
  module _ (result : StageStep Releasing (Unit {0}))
      (did : releasing.HasReleased pool old.seat mid.seat old.counts mid.counts old.notes mid.notes stage result) where
    pub released_so : Moved pool (releasing.hand_of stage) (releasing.hand_after result) old mid did.added
    released_so = record {
      context = d;
      mid_is = mid_is;
      same = did.same;
      seat = did.seat;
      more = did.more;
      log = did.log;
      counts = did.counts;
      places = did.places;
      held = did.hand;
      sampled = did.sampled old.sampler;
    }

    pub released_read : (rest : ToldNotes) → releasing.rest_of old.shape stage
        (log_of old (map entry_of did.added ++ rest))
        ≡ releasing.rest_after old.shape result (log_of (between old mid) rest)
    released_read =
        moved_with pool (releasing.hand_of stage) (releasing.hand_after result) old mid did.added released_so
        (releasing.rest_of old.shape stage) (releasing.rest_after old.shape result)
        (subst (λ (shape : Shape). ReadsOnWith old.counts (releasing.rest_of shape stage) (map entry_of did.added)
        (releasing.rest_after shape result)) (sym d.shape) did.read)

    -- and what follows it
    pub released_then : {A : Type 0} (q : Reader A) (rest : ToldNotes) → (releasing.rest_of old.shape stage >> q)
        (log_of old (map entry_of did.added ++ rest))
        ≡ (releasing.rest_after old.shape result >> q) (log_of (between old mid) rest)
    released_then {A} q rest =
        ap (λ (o : Option (Unit {0} × Log)). option_and_then (λ got. q got.1) o) (released_read rest)

    -- where nothing was noted, all is counted as before
    counts_same : did.added ≡ [] → (root : RootId) → counted mid.counts root ≡ counted old.counts root
    counts_same none root =
        sym (did.counts.counts root)
        ∙ ap (λ (es : List Entry). count_of root (map entry_of es))
        (did.more.notes ∙ ap (λ (es : List Entry). notes_of old ++ es) none ∙ append-nil (notes_of old))
        ∙ d.counts.counts root

    pub release_can : HasRoomFor pool old (releasing.left_of stage)
        → length old.replies.items < vec_capacity old.replies → CanAnswer mid
    release_can room replies =
        moved_can pool (releasing.hand_of stage) (releasing.hand_after result) old mid did.added released_so
        (releasing.left_of stage) (releasing.left_after result) room did.spends replies

  names_same : mid.names ≡ old.names
  names_same = ap (λ (x : Context). x.names) mid_is

  asked_same : mid.asked ≡ old.asked
  asked_same = ap (λ (x : Context). x.asked) mid_is

  -- it is read so with the shape of the context
  at_shape : (o : Object) → BeginsAt o (releasing.rest_of pool.table.layout.shape stage)
      → BeginsAt o (releasing.rest_of old.shape stage)
  at_shape o = subst (λ (shape : Shape). BeginsAt o (releasing.rest_of shape stage)) (sym d.shape)

  -- ---- A composite ends.

  module _ (name : ℕ) (last : HasLast old.names name) (low : old.asked < sweep_period) (s : LaneState)
      (command : Command) (are : NamesAre s.names old.names) where
    abbrev c : Composite
    c = last.0

    -- how the law reads it from a stage on
    abbrev parts_at : Releasing → Reader Answer
    parts_at at = releasing.rest_of old.shape at >> give (ended s name)

    -- it has its last count still
    pub last_still : HasLast mid.names name
    last_still = (
      c,
      subst (λ (names : List (Option Bound)). bound_at names name ≡ Some (Composed c)) (sym names_same) last.1,
      last.2,
    )

    pub part_goes : (next : Releasing)
        → releasing.HasReleased pool old.seat mid.seat old.counts mid.counts old.notes mid.notes stage (More next)
        → HasTurned pool old mid s command (Parting name stage) (Went (Parting name next))
    part_goes next did =
        let m = released_so (More next) did in let before = releasing.hand_of stage in
        let after = releasing.hand_of next in let a = asked_same in
        record {
          added = did.added;
          grew = moved_grew pool before after old mid did.added m;
          fits = (did.fits, omega (arith, a, low));
          name = last_still;
          spends =
              moved_spends pool before after old mid did.added m (releasing.left_of stage) (releasing.left_of next)
              did.spends (omega arith);
          comes =
              moved_on pool before after old mid did.added m
              (some_of did.added (map note_of did.added) refl did.again) (parts_at stage >>= swept (lane_of old.seat))
              (λ names. reads_from old.shape (lane_of old.seat) (renamed s names) command (Parting name next)) s.names
              are
              (λ rest. ap (λ (o : Option (Answer × Log)). option_and_then (λ got. swept (lane_of old.seat) got.0
              got.1) o)
              (released_then (More next) did (give (ended s name)) rest));
          waits = tt;
          held = tt;
        }

    pub part_waits : (held : Held) (next : Releasing)
        → releasing.HasReleased pool old.seat mid.seat old.counts mid.counts old.notes mid.notes stage
        (HeldBack held next) → HasTurned pool old mid s command (Parting name stage) (Pending held (Parting name next))
    part_waits held next did =
        let m = released_so (HeldBack held next) did in let before = releasing.hand_of stage in
        let after = releasing.hand_of next in let a = asked_same in
        record {
          added = did.added;
          grew = moved_grew pool before after old mid did.added m;
          fits = (did.fits, omega (arith, a, low));
          name = last_still;
          spends =
              moved_spends pool before after old mid did.added m (releasing.left_of stage) (releasing.left_of next)
              did.spends (omega arith);
          comes = (
            λ log. ap (λ (at : Releasing). (parts_at at >>= swept (lane_of old.seat)) log) (sym did.again.0),
            moved_still pool before after old mid did.added m (none_of did.added did.again.1),
          );
          waits = tt;
          held = (
            did.again.2,
            then_begins held.object (parts_at stage) (swept (lane_of old.seat))
                (then_begins held.object (releasing.rest_of old.shape stage) (λ _. give (ended s name))
                (at_shape held.object did.again.3)),
          );
        }

    -- its names, once it has ended
    ended_names : NamesAre (ended s name).names (slice_set mid.names name (Some (Composed (record c { count = 0 }))))
    ended_names =
        subst (λ (x : List (Option Bound) × ℕ). NamesAre (ended s name).names (slice_set x.0 name
        (Some (Composed (record c { count = x.1 }))))) (λ i. (sym names_same i, less i))
        (NamesAre-changed s.names old.names are name released c last.1)
      where
        less : c.count - 1 ≡ 0
        less = let one = last.2 in omega (arith, one)

    pub part_done : (new : Context)
        → releasing.HasReleased pool old.seat mid.seat old.counts mid.counts old.notes mid.notes stage (Done tt)
        → HasReplied (recounted mid name c 0) new Reply.Freed
        → HasTurned pool old new s command (Parting name stage) (Went Ready)
    part_done new did replied =
        moved_answer pool (releasing.hand_of stage) empty_hand old mid did.added (released_so (Done tt) did) refl new
        (slice_set mid.names name (Some (Composed (record c { count = 0 })))) Reply.Freed refl
        (rebound_count 0 old.names mid.names names_same name c last.1 0 (omega arith)) s command (Parting name stage)
        (ended s name).names ended_names (releasing.left_of stage) refl did.spends (parts_at stage) (λ log. refl)
        (λ rest. released_then (Done tt) did (give (ended s name)) rest) replied low

  -- ---- What was copied is released, and then a name is bound.

  module _ (name : ℕ) (whole : Box Composite) (may : IsBindable old name whole.value) (low : old.asked ≤ sweep_period)
      (s : LaneState) (command : Command) (are : NamesAre s.names old.names) where
    abbrev w : Composite
    w = whole.value

    -- how the law reads it from a stage on
    abbrev rest_at : Releasing → Reader Answer
    rest_at at = releasing.rest_of old.shape at >> give (composed s name (Ok w))

    pub replace_goes : (next : Releasing) → (IsOver mid.counts next → ⊥)
        → releasing.HasReleased pool old.seat mid.seat old.counts mid.counts old.notes mid.notes stage (More next)
        → HasTurned pool old mid s command (Replacing name whole stage) (Went (Replacing name whole next))
    replace_goes next more did =
        let m = released_so (More next) did in let before = releasing.hand_of stage in
        let after = releasing.hand_of next in let a = asked_same in
        record {
          added = did.added;
          grew = moved_grew pool before after old mid did.added m;
          fits = (did.fits, omega (arith, a, low), more);
          name = bindable_on old mid did.added did.more mid_is name w may;
          spends =
              moved_spends pool before after old mid did.added m (releasing.left_of stage) (releasing.left_of next)
              did.spends (omega arith);
          comes =
              moved_on pool before after old mid did.added m
              (some_of did.added (map note_of did.added) refl did.again) (rest_at stage >>= swept (lane_of old.seat))
              (λ names. reads_from old.shape (lane_of old.seat) (renamed s names) command (Replacing name whole next))
              s.names are
              (λ rest. ap (λ (o : Option (Answer × Log)). option_and_then (λ got. swept (lane_of old.seat) got.0
              got.1) o)
              (released_then (More next) did (give (composed s name (Ok w))) rest));
          waits = tt;
          held = tt;
        }

    pub replace_waits : (IsOver old.counts stage → ⊥) → (held : Held) (next : Releasing)
        → releasing.HasReleased pool old.seat mid.seat old.counts mid.counts old.notes mid.notes stage
        (HeldBack held next)
        → HasTurned pool old mid s command (Replacing name whole stage) (Pending held (Replacing name whole next))
    replace_waits more held next did =
        let m = released_so (HeldBack held next) did in let before = releasing.hand_of stage in
        let after = releasing.hand_of next in let a = asked_same in let none = none_of did.added did.again.1 in
        record {
          added = did.added;
          grew = moved_grew pool before after old mid did.added m;
          fits = (
            did.fits,
            omega (arith, a, low),
            λ over. more (subst (IsOver old.counts) did.again.0 (
              over.0,
              All-weaker (λ (p : Part). counted mid.counts p.root ≡ 0) (λ (p : Part). counted old.counts p.root ≡ 0)
                  (λ p gone. sym (counts_same (HeldBack held next) did none p.root) ∙ gone) next.left.items over.1,
            )),
          );
          name = bindable_on old mid did.added did.more mid_is name w may;
          spends =
              moved_spends pool before after old mid did.added m (releasing.left_of stage) (releasing.left_of next)
              did.spends (omega arith);
          comes = (
            λ log. ap (λ (at : Releasing). (rest_at at >>= swept (lane_of old.seat)) log) (sym did.again.0),
            moved_still pool before after old mid did.added m none,
          );
          waits = tt;
          held = (
            did.again.2,
            then_begins held.object (rest_at stage) (swept (lane_of old.seat))
                (then_begins held.object (releasing.rest_of old.shape stage) (λ _. give (composed s name (Ok w)))
                (at_shape held.object did.again.3)),
          );
        }

    abbrev bound_names : Names
    bound_names = bind name (Composed w) s.names

    names_bound : NamesAre bound_names (slice_set mid.names name (Some (Composed w)))
    names_bound =
        subst (λ (names : List (Option Bound)). NamesAre bound_names (slice_set names name (Some (Composed w))))
        (sym names_same) (NamesAre-bind s.names old.names are name (Composed w) may.0.name_is)

    pub replace_bound : (new : Context) (next : Releasing) → IsOver mid.counts next
        → releasing.HasReleased pool old.seat mid.seat old.counts mid.counts old.notes mid.notes stage (More next)
        → (turn : Turn) → Concludes (bound_to mid name w) new (Reply.OkNumber (size_of w.parts)) turn
        → HasTurned pool old new s command (Replacing name whole stage) turn
    replace_bound new next over did turn concludes =
        let m = released_so (More next) did in let before = releasing.hand_of stage in
        let after = releasing.hand_of next in
        moved_concludes pool before after old mid did.added m (ap hand_in over.0) new
        (slice_set mid.names name (Some (Composed w))) (Reply.OkNumber (size_of w.parts)) refl
        (rebound_composite 0 old.names mid.names names_same name may.0.name_is w may.0.composes
        (let a = may.0.few in omega (arith, a)) (record { marked = may.0.marked; parts = may.1 })
        (parts_later (known_to old.seat) (known_to mid.seat)
        (knows_more (view_of old.seat) (view_of mid.seat) did.added did.more) w.parts may.0.inside)) s command
        (Replacing name whole stage) bound_names names_bound (releasing.left_of stage) refl
        (record {
          notes = (let a = did.spends.notes in omega (arith, a));
          takes = did.spends.takes;
          moves = did.spends.moves;
          sends = did.spends.sends;
        }) (rest_at stage) (λ log. refl)
        (λ rest.
        released_then (More next) did (give (composed s name (Ok w))) rest
        ∙ ap (λ (o : Option (Unit {0} × Log)). option_and_then (λ got. give (composed s name (Ok w)) got.1) o)
        (over_read old.shape mid.counts (log_of (between old mid) rest)
        (moved_counts pool before after old mid did.added m rest) next over))
        (some_of did.added (map note_of did.added) refl did.again) turn concludes

  -- where some part is left, something was done
  pub replace_more : (IsOver old.counts stage → ⊥)
      → releasing.HasReleased pool old.seat mid.seat old.counts mid.counts old.notes mid.notes stage (Done tt) → ⊥
  replace_more more did = more did.over
