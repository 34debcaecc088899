-- A lane that has done nothing is a lane of its pool.
use Rattle.std.proofs.Common.{◌≡◌, ℕ, zero, suc, ◌+◌, ◌*◌, ◌/◌, ◌≤◌, Bool, true, false, List, [], ◌∷◌, ◌++◌, length, map, take, drop, replicate, refl, sym, ap, ◌∙◌, subst, arith, Option, Some, None, ltb-true}
use Rattle.std.specs.Prelude.{◌||◌, nat_le, nat_lt, All, sum}
use Rattle.std.specs.List.{list_any}
use Rattle.std.proofs.lemmas.Bool.{and_parts, leb-true}
use Rattle.std.proofs.lemmas.List.Elements.{All-cons, All-head, All-tail}
use Rattle.pool_law.specs.declared.command.Command.{Command}
use Rattle.pool_law.specs.declared.id.RootId.{RootId}
use Rattle.pool_law.specs.declared.run.Answered.{Answered}
use Rattle.pool_law.specs.declared.run.Shape.{Shape}
use Rattle.pool_law.specs.Legal.{all_fit, fits_after}
use Rattle.pool_law.specs.Limits.{cached_classes}
use Rattle.pool_law.specs.Bounds.{composes, note_bound, most_drained}
use Rattle.pool_law.specs.LaneLaw.{sweep_period, lane_run, before_stop, pieces, note_counts, replies_in}
use Rattle.pool_law.specs.LaneStates.{new_lane}
use Rattle.pool_law.specs.Lanes.{turn}
use Rattle.pool_law.specs.Names.{Bound}
use Rattle.pool_law.specs.Patterns.{closing}
use Rattle.pool_law.specs.Readers.{ToldNotes}
use Rattle.pool_table.specs.declared.views.Entry.{Entry}
use Rattle.pool_table.specs.declared.views.SeatView.{SeatView}
use Rattle.shared_pool.specs.SeatViews.{view_of}
use Rattle.leak_records.specs.Records.{new_sampler}
use Rattle.shared_pool.specs.declared.pool.SharedPool.{SharedPool}
use Rattle.shared_pool.specs.MailAnswers.{RoomFor}
use Rattle.shared_pool.specs.Closing.{note_of, entry_of}
use Rattle.pool_table.specs.Letters.{sent_on}
use Rattle.shared_pool.specs.SeatLanes.{lane_of}
use Rattle.seat_work.proofs.FirstSeats.{IsHeld-empty}
use Rattle.lane_stages.specs.declared.counts.Counted.{Counted}
use Rattle.lane_context.specs.declared.context.Context.{Context}
use Rattle.lane_context.specs.declared.context.Stage.TheVariants.{Ready}
use Rattle.lane_core.specs.declared.lane.Lane.{Lane}
use Rattle.lane_core.specs.declared.lane.Parts.{Parts}
use Rattle.lane_stages.specs.Budgets.{Left, all_out}
use Rattle.seat_work.specs.Hands.{empty_hand}
use Rattle.lane_stages.specs.Sampled.{AreSampled}
use Rattle.lane_context.specs.Named.{bound_at, NamesAre, AreViews, known_to, AreInside}
use Rattle.lane_core.specs.Opened.{ChangesBelow, AreFirst, IsFirstSeat, AreParts}
use Rattle.lane_stages.specs.Counting.{counted, CountsAre}
use Rattle.lane_context.specs.Contexts.{IsContext, entries_of, FitsContext, HasRoomFor}
use Rattle.lane_core.specs.Lanes.{left_for_each, IsRunningLane, HasAnswered, IsBegun, left_for_rest, left_to_ask, commands_left, answered_entries, both}
use Rattle.seat_work.specs.Readings.{ReadsOn}
use Rattle.lane_stages.specs.Readings.{none_asked}
use Rattle.lane_core.proofs.LaneRooms.{rest_ready}
use Rattle.lane_stages.proofs.Outs.{none_out}
use Rattle.lane_stages.proofs.ReadLaws.{still_on}
use Rattle.lane_core.proofs.RoomLaws.{all_takes, bound_is, bound_few}

-- ---- The log and the names at first.
CountsAre-none : (cs : List Counted) → ((root : RootId) → counted cs root ≡ 0) → (es : ToldNotes) → es ≡ []
    → CountsAre cs es
CountsAre-none cs none es e =
    subst (CountsAre cs) (sym e) (record { counts = λ root. sym (none root); holds = λ root. tt })

unbound_at : (n name : ℕ) → bound_at (replicate n None) name ≡ None
unbound_at zero name = refl
unbound_at (suc n) zero = refl
unbound_at (suc n) (suc name) = unbound_at n name

module _ (names : List (Option Bound)) (e : names ≡ replicate (length names) None) where
  none_at : (name : ℕ) → bound_at names name ≡ None
  none_at name = ap (λ (xs : List (Option Bound)). bound_at xs name) e ∙ unbound_at (length names) name

  NamesAre-none : NamesAre [] names
  NamesAre-none name = sym (none_at name)

  AreViews-none : AreViews names
  AreViews-none name c bound = (let none = none_at name in absurd (cc (none, bound)))

  AreInside-none : (known : RootId → ℕ) → AreInside known names
  AreInside-none known = record { each = λ name b bound. (let none = none_at name in absurd (cc (none, bound))) }

-- ---- The commands.
fits_context : (d : Context) (earlier : List Command) (c : Command) → (composes c ≡ true → d.composes ≡ true)
    → ChangesBelow (length d.names) c → fits_after d.shape earlier c ≡ true → FitsContext d c
fits_context d earlier (Command.Alloc name size) some below fits = below
fits_context d earlier (Command.Set name at bytes tries) some below fits = below
fits_context d earlier (Command.Get name at len tries) some below fits = below
fits_context d earlier (Command.Write name bytes) some below fits = below
fits_context d earlier (Command.Read name len) some below fits = below
fits_context d earlier (Command.Slice fresh name at len retained) some below fits = below
fits_context d earlier (Command.Dup fresh name) some below fits = below
fits_context d earlier (Command.Retain name) some below fits = tt
fits_context d earlier (Command.Release name) some below fits = tt
fits_context d earlier (Command.Refcnt name) some below fits = tt
fits_context d earlier (Command.Touch name) some below fits = tt
fits_context d earlier (Command.Forget name) some below fits = below
fits_context d earlier (Command.Send name lane) some below fits = ltb-true lane d.shape.lanes fits
fits_context d earlier (Command.Recv fresh lane) some below fits =
    (below, ltb-true lane d.shape.lanes (and_parts (nat_lt lane d.shape.lanes) _ fits).0)
fits_context d earlier (Command.Compose fresh names) some below fits =
    let parts = and_parts (nat_le 1 (length names)) (nat_le (length names) 24) fits in
    (below, some refl, leb-true 1 (length names) parts.0, leb-true (length names) 24 parts.1)
fits_context d earlier (Command.Add whole name) some below fits = tt
fits_context d earlier (Command.Capacity name size) some below fits = below

-- one of the commands makes a composite
any_first : (c : Command) (cs : List Command) → composes c ≡ true → list_any composes (c ∷ cs) ≡ true
any_first c cs is = ap (λ (b : Bool). b || list_any composes cs) is

any_later : (c : Command) (cs : List Command) → list_any composes cs ≡ true → list_any composes (c ∷ cs) ≡ true
any_later c cs is = ap (λ (b : Bool). composes c || b) is ∙ or_true (composes c)
  where
    or_true : (b : Bool) → (b || true) ≡ true
    or_true true = refl
    or_true false = refl

all_fit_context : (d : Context) (earlier cs : List Command) → all_fit d.shape earlier cs ≡ true
    → (list_any composes cs ≡ true → d.composes ≡ true) → All (ChangesBelow (length d.names)) cs
    → All (FitsContext d) cs
all_fit_context d earlier [] fit some below = λ k e lt. absurd (omega (arith, lt))
all_fit_context d earlier (c ∷ cs) fit some below =
    let parts = and_parts (fits_after d.shape earlier c) (all_fit d.shape (earlier ++ c ∷ []) cs) fit in
    All-cons (FitsContext d) c cs
    (fits_context d earlier c (λ is. some (any_first c cs is)) (All-head (ChangesBelow (length d.names)) c cs below)
    parts.0)
    (all_fit_context d (earlier ++ c ∷ []) cs parts.1 (λ is. some (any_later c cs is))
    (All-tail (ChangesBelow (length d.names)) c cs below))

-- a lane that is made of these parts
abbrev made : Shape → Lane → Parts → Lane
made shape l p =
    record l {
      context =
          record l.context {
            shape = shape;
            classes = p.classes;
            composes = p.composes;
            names = p.names;
            counts = p.counts;
            sampler = p.sampler;
            replies = p.log.0;
            notes = p.log.1;
            begun = 0;
            asked = 0;
          };
      stage = Ready;
      asked = 0;
      stopped = false;
      spare = p.spare;
    }

module _ (pool : SharedPool) (shape : Shape) (l : Lane) (p : Parts)
    (first : IsFirstSeat pool shape l.commands l.context.seat)
    (are : AreFirst shape l.commands)
    (parts : AreParts shape (lane_of l.context.seat) l.commands p)
  where
    abbrev new : Lane
    new = made shape l p

    is_context : IsContext pool empty_hand new.context
    is_context = record {
      shape = first.shape_is;
      classes = parts.classes;
      short = first.short;
      seat = first.seat_is;
      held = IsHeld-empty (view_of l.context.seat) first.notes first.seat_is.alone;
      log = parts.notes.0 ∙ sym (ap (map note_of) first.notes);
      counts = CountsAre-none p.counts parts.counts (entries_of new.context) (ap (map entry_of) first.notes);
      places = parts.places;
      sampled =
          subst (λ (es : List Entry). AreSampled (new_sampler (lane_of l.context.seat) shape.level shape.interval) es
          p.sampler)
          (sym first.notes) (sym parts.sampler);
      begun = omega arith;
      composites = record {
        unmixed = λ no. AreViews-none p.names parts.names;
        few = λ name c bound. absurd (AreViews-none p.names parts.names name c bound);
        formed = λ name c bound. absurd (AreViews-none p.names parts.names name c bound);
      };
      inside = AreInside-none p.names parts.names (known_to l.context.seat);
    }

    answered : HasAnswered shape (lane_of l.context.seat) new new_lane
    answered = record {
      counted = ap (λ (rs : List Answered). sum (note_counts rs)) parts.replies.0;
      run =
          subst (λ (rs : List Answered). lane_run sweep_period shape (lane_of l.context.seat) new_lane
          (take (length rs) l.commands) (pieces (note_counts rs) (answered_entries new))
          ≡ Some (replies_in rs, new_lane))
          (sym parts.replies.0) refl;
      unstopped = subst (λ (rs : List Answered). before_stop (replies_in rs) ≡ length rs) (sym parts.replies.0) refl;
      seen = refl;
    }

    commands : commands_left new ≡ l.commands
    commands = ap (λ (rs : List Answered). drop (length rs) l.commands) parts.replies.0

    none_yet : entries_of new.context ≡ []
    none_yet = ap (map entry_of) first.notes

    begins : (cs : List Command) → IsBegun new new_lane [] cs (entries_of new.context)
    begins [] =
        let reads = closing (lane_of l.context.seat) in
        subst (λ (es : ToldNotes). ReadsOn reads es none_asked reads) (sym none_yet) (still_on reads)
    begins (c ∷ cs) =
        λ rest i. turn sweep_period shape (lane_of l.context.seat) new_lane c
        (record { seen = sym none_yet i; asked = 0; left = none_yet i ++ rest })

    -- ---- What is left is what the bound is of.
    abbrev R : Left
    R = left_for_each p.composes l.commands

    abbrev v : SeatView
    v = view_of l.context.seat

    abbrev rest_for : List Command → Left
    rest_for cs = left_for_rest p.composes cs Ready v

    abbrev left_for_these : List Command → Left
    left_for_these cs = both (rest_for cs) (left_to_ask Ready (0 + (rest_for cs).asks))

    rest_asks : (rest_for l.commands).asks ≡ R.asks
    rest_asks = let a = (rest_ready p.composes l.commands v).1 in omega (arith, a)

    bound_at_kind : note_bound l.commands ≡ R.notes + most_drained R.asks
    bound_at_kind =
        subst (λ (x : Bool). note_bound l.commands ≡ (left_for_each x l.commands).notes
        + most_drained (left_for_each x l.commands).asks) (sym parts.composes) (bound_is l.commands)

    left_is : (left_for_these l.commands).notes ≡ note_bound l.commands
    left_is =
        let a = (rest_ready p.composes l.commands v).0 in let none : all_out v ≡ 0 = none_out v first.notes in
        let takes = all_takes p.composes l.commands in let bound = bound_at_kind in
        let asked : 0 + (rest_for l.commands).asks ≡ R.asks = (let b = rest_asks in omega (arith, b)) in
        let asks : cached_classes * (1 + (0 + (rest_for l.commands).asks) / sweep_period)
        ≡ cached_classes * (1 + R.asks / sweep_period) =
        ap (λ (k : ℕ). cached_classes * (1 + k / sweep_period)) asked in
        omega (arith, a, none, takes, bound, asks)

    room : HasRoomFor pool new.context (left_for_these l.commands)
    room =
        (let no_notes = ap length first.notes in let is = left_is in let few = bound_few l.commands
        are.commands_are.few in
        let capacity = parts.notes.1 in let turns = first.turns in
        let moves : R.moves ≤ v.moves =
        subst (λ (x : Bool). (left_for_each x l.commands).moves ≤ v.moves) (sym parts.composes) first.moves in
        let rest_moves = (rest_ready p.composes l.commands v).2 in
        record {
          notes = omega (arith, no_notes, is, capacity);
          few = omega (arith, no_notes, is, few);
          turns = omega (arith, is, turns);
          moves = omega (arith, moves, rest_moves);
          mails = λ to lt m.
              let lane = lane_of l.context.seat in
              let none = ap (sent_on lane to) first.notes in
              let kept : RoomFor pool lane to (R.sends to) =
              subst (λ (x : Bool). RoomFor pool lane to ((left_for_each x l.commands).sends to)) (sym parts.composes)
              (first.mails to lt) in
              let enough = kept m in
              let rest_sends = (rest_ready p.composes l.commands v).3 to in omega (arith, none, enough, rest_sends);
        })

    pub IsLane-first : IsRunningLane pool new
    IsLane-first = record {
      going = refl;
      context = is_context;
      fits = omega arith;
      shape = first.limits;
      commands = are.commands_are;
      composing = parts.composes;
      plain = all_fit_context new.context [] l.commands are.commands_are.fit (λ is. parts.composes ∙ is)
          parts.below;
      few = (let none = ap length parts.replies.0 in omega (arith, none));
      state = new_lane;
      answered = answered;
      bound = [];
      bound_are = NamesAre-none p.names parts.names;
      begun = begins (commands_left new);
      all_answered = λ closing. absurd closing;
      rest =
          λ ready. record {
            begun = (let none = ap length first.notes in omega (arith, none));
            names_are = refl;
            asked =
                refl;
          };
      underway = λ begun. absurd begun;
      names = tt;
      room = subst (λ (cs : List Command). HasRoomFor pool new.context (left_for_these cs)) (sym commands) room;
      replies = parts.replies.1;
      asked = omega arith;
      spare = parts.spare;
    }
