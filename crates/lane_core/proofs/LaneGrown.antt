-- A lane whose context grew: what it keeps, whether its gate stopped it or not.
use Rattle.std.proofs.Common.{◌≡◌, ℕ, ◌+◌, ◌*◌, ◌/◌, ◌<◌, ◌≤◌, Bool, List, [], ◌∷◌, ◌++◌, length, map, take, drop, refl, sym, ap, ◌∙◌, subst, arith, append-nil}
use Rattle.std.proofs.lemmas.List.{map-append, length-map, take-append-le, drop-append-le}
use Rattle.pool_law.specs.declared.command.Command.{Command}
use Rattle.pool_law.specs.declared.note.Note.{Note}
use Rattle.pool_law.specs.declared.run.Answered.{Answered}
use Rattle.pool_law.specs.declared.run.Shape.{Shape}
use Rattle.pool_law.specs.Limits.{cached_classes}
use Rattle.pool_law.specs.LaneLaw.{sweep_period}
use Rattle.pool_table.specs.declared.views.Entry.{Entry}
use Rattle.shared_pool.specs.SeatViews.{view_of}
use Rattle.shared_pool.specs.declared.pool.SharedPool.{SharedPool}
use Rattle.shared_pool.specs.Closing.{note_of, entry_of}
use Rattle.shared_pool.specs.SeatLanes.{lane_of}
use Rattle.lane_context.specs.declared.context.Context.{Context}
use Rattle.lane_context.specs.declared.context.Stage.{Stage}
use Rattle.lane_context.specs.declared.context.Stage.TheVariants.{Ready, Closing}
use Rattle.lane_stages.specs.declared.draining.Draining.{Draining}
use Rattle.lane_stages.specs.declared.draining.Draining.TheVariants.{Ask}
use Rattle.lane_core.specs.declared.lane.Lane.{Lane}
use Rattle.lane_stages.specs.Budgets.{Left, Spends, notes_alone, with_sheds}
use Rattle.lane_stages.specs.Drainings as draining
use Rattle.seat_work.specs.Hands.{Hand}
use Rattle.lane_context.specs.Contexts.{IsContext, notes_of, entries_of, hand_of, FitsContext, HasRoomFor, left_at, left_now, SpendsAt, ContextGrew}
use Rattle.lane_core.specs.Lanes.{IsClosing, SameLane, SameLog, LogGrew, commands_left, answered_entries, entries_since, number_of, both, left_for_each, with_takes, left_for_rest, left_to_ask, left_of}
use Rattle.lane_core.proofs.LaneRooms.{room_most, room_front, to_ask_open, rest_ready, lane_same, has_room, room_behind}

-- what a command asks of a context it asks of one with as many names, of the same shape
pub fits_still : (old new : Context) → length new.names ≡ length old.names → new.shape ≡ old.shape
    → new.composes ≡ old.composes → (c : Command)
    → FitsContext old c → FitsContext new c
fits_still old new names shape composes (Command.Alloc name size) fits = omega (arith, names, fits)
fits_still old new names shape composes (Command.Set name at bytes tries) fits = omega (arith, names, fits)
fits_still old new names shape composes (Command.Get name at len tries) fits = omega (arith, names, fits)
fits_still old new names shape composes (Command.Write name bytes) fits = omega (arith, names, fits)
fits_still old new names shape composes (Command.Read name len) fits = omega (arith, names, fits)
fits_still old new names shape composes (Command.Slice fresh name at len retained) fits = omega (arith, names, fits)
fits_still old new names shape composes (Command.Dup fresh name) fits = omega (arith, names, fits)
fits_still old new names shape composes (Command.Retain name) fits = tt
fits_still old new names shape composes (Command.Release name) fits = tt
fits_still old new names shape composes (Command.Refcnt name) fits = tt
fits_still old new names shape composes (Command.Touch name) fits = tt
fits_still old new names shape composes (Command.Forget name) fits = omega (arith, names, fits)
fits_still old new names shape composes (Command.Send name lane) fits =
    subst (λ (s : Shape). lane < s.lanes) (sym shape) fits
fits_still old new names shape composes (Command.Recv fresh lane) fits =
    (let a = fits.0 in omega (arith, names, a), subst (λ (s : Shape). lane < s.lanes) (sym shape) fits.1)
fits_still old new names shape composes (Command.Compose fresh more) fits =
    (let a = fits.0 in omega (arith, names, a), composes ∙ fits.1, fits.2, fits.3)
fits_still old new names shape composes (Command.Add whole name) fits = tt
fits_still old new names shape composes (Command.Capacity name size) fits = omega (arith, names, fits)

-- a lane with another context, at another stage
abbrev pub lane_at : Lane → Context → Stage → ℕ → Lane
lane_at l d stage n = record l { context = d; stage = stage; asked = n }

module _ (pool : SharedPool) (l : Lane) (was : IsContext pool (hand_of l.stage) l.context) (d : Context) (n : ℕ)
    (hand : Hand)
    (added : List Entry) (grew : ContextGrew pool hand l.context d added) where
  pub entries_grew : entries_of d ≡ entries_of l.context ++ map entry_of added
  entries_grew = ap (map entry_of) grew.more.notes ∙ map-append entry_of (notes_of l.context) added

  pub begun_within : l.context.begun ≤ length (entries_of l.context)
  begun_within = let a = was.begun in let b = length-map (notes_of l.context) entry_of in omega (arith, a, b)

  pub number_same : lane_of d.seat ≡ number_of l
  number_same = lane_same pool hand l.context d added grew

  pub same_lane : (stage : Stage) → SameLane l (lane_at l d stage n)
  same_lane stage = record { number = number_same; shape = grew.shape; commands = refl }

  -- nothing was added to the log
  pub same_log : added ≡ [] → d.replies.items ≡ l.context.replies.items → (stage : Stage)
      → SameLog l (lane_at l d stage n)
  same_log none replies stage = record {
    replies = replies;
    notes =
        grew.context.log ∙ ap (map note_of)
        (grew.more.notes ∙ ap (λ (es : List Entry). notes_of l.context ++ es) none ∙ append-nil (notes_of l.context))
        ∙ sym was.log;
  }

  notes_more : d.notes.items ≡ l.context.notes.items ++ map note_of added
  notes_more =
      grew.context.log ∙ ap (map note_of) grew.more.notes ∙ map-append note_of (notes_of l.context) added
      ∙ ap (λ (ns : List Note). ns ++ map note_of added) (sym was.log)

  -- a note or a reply was added
  pub noted_more : 0 < length added → d.replies.items ≡ l.context.replies.items → (stage : Stage)
      → LogGrew l (lane_at l d stage n)
  noted_more some replies stage = record {
    replies = [];
    notes = map note_of added;
    replies_are = replies ∙ sym (append-nil l.context.replies.items);
    notes_are = notes_more;
    some = (let a = length-map added note_of in omega (arith, a, some));
    one_reply = omega arith;
    one_step = grew.more.one;
  }

  pub replied_more : (a : Answered) → d.replies.items ≡ l.context.replies.items ++ a ∷ [] → (stage : Stage)
      → LogGrew l (lane_at l d stage n)
  replied_more answered replies stage = record {
    replies = answered ∷ [];
    notes = map note_of added;
    replies_are = replies;
    notes_are = notes_more;
    some = omega arith;
    one_reply = omega arith;
    one_step = grew.more.one;
  }

  -- ---- Where no command was answered.

  module _ (replies : d.replies.items ≡ l.context.replies.items) (begun : d.begun ≡ l.context.begun) (stage : Stage)
    where
      pub still_entries : answered_entries (lane_at l d stage n) ≡ answered_entries l
      still_entries =
          (λ i. take (begun i) (entries_grew i)) ∙ take-append-le l.context.begun (entries_of l.context)
          (map entry_of added)
          begun_within

      pub still_since : entries_since (lane_at l d stage n) ≡ entries_since l ++ map entry_of added
      still_since =
          (λ i. drop (begun i) (entries_grew i)) ∙ drop-append-le l.context.begun (entries_of l.context)
          (map entry_of added)
          begun_within

      pub still_left : commands_left (lane_at l d stage n) ≡ commands_left l
      still_left = ap (λ (rs : List Answered). drop (length rs) l.commands) replies

  -- ---- What is still to be spent.

  -- behind a turn of the first command that is left
  module _ (command : Command) (later : List Command) (left : commands_left l ≡ command ∷ later)
      (room : HasRoomFor pool l.context (left_of l)) (was_open : IsClosing l.stage → ⊥) where
    abbrev more : Left
    more = with_takes (left_for_each l.context.composes later)

    abbrev before : Left
    before = left_now l.context.composes command l.stage (view_of l.context.seat)

    room_before : HasRoomFor pool l.context (both (both before more) (notes_alone
        (cached_classes * (1 + (l.context.asked + (before.asks + more.asks)) / sweep_period))))
    room_before =
        subst (λ (x : Left). HasRoomFor pool l.context (both (both before more) x))
        (to_ask_open l.stage (l.context.asked + (before.asks + more.asks)) was_open)
        (subst (λ (x : List Command). let r = left_for_rest l.context.composes x l.stage (view_of l.context.seat) in
        HasRoomFor pool l.context (both r (left_to_ask l.stage (l.context.asked + r.asks)))) left room)

    pub still_room : (stage : Stage) → (IsClosing stage → ⊥) → commands_left (lane_at l d stage n) ≡ command ∷ later
        → SpendsAt l.context d before (left_now l.context.composes command stage (view_of d.seat))
        → HasRoomFor pool d (left_of (lane_at l d stage n))
    still_room stage is_open left_now_is spends =
        let after : Left = left_now l.context.composes command stage (view_of d.seat) in
        let new_room = room_behind pool hand l.context d added grew before after more spends room_before in
        subst (λ (x : Bool × List Command). let r = left_for_rest x.0 x.1 stage (view_of d.seat) in
        HasRoomFor pool d (both r (left_to_ask stage (d.asked + r.asks))))
        (λ i. (sym grew.composes i, sym left_now_is i))
        (subst (λ (x : Left). HasRoomFor pool d (both (both after more) x))
        (sym (to_ask_open stage (d.asked + (after.asks + more.asks)) is_open)) new_room)

    pub answered_room : commands_left (lane_at l d Ready n) ≡ later
        → SpendsAt l.context d before (with_sheds (view_of d.seat) (notes_alone 0))
        → HasRoomFor pool d (left_of (lane_at l d Ready n))
    answered_room done_left spends =
        let after : Left = with_sheds (view_of d.seat) (notes_alone 0) in
        let new_room = room_behind pool hand l.context d added grew before after more spends room_before in
        let rest : Left = left_for_rest l.context.composes later Ready (view_of d.seat) in let ready =
        rest_ready l.context.composes later (view_of d.seat) in
        let a = ready.0 in let b = ready.1 in let c = ready.2 in
        let asks : cached_classes * (1 + (d.asked + (after.asks + more.asks)) / sweep_period)
        ≡ cached_classes * (1 + (d.asked + rest.asks) / sweep_period) =
        ap (λ (k : ℕ). cached_classes * (1 + (d.asked + k) / sweep_period)) b in
        let room : HasRoomFor pool d (both rest
        (notes_alone (cached_classes * (1 + (d.asked + rest.asks) / sweep_period)))) =
        room_most pool d (both (both after more)
        (notes_alone (cached_classes * (1 + (d.asked + (after.asks + more.asks)) / sweep_period))))
        (both rest (notes_alone (cached_classes * (1 + (d.asked + rest.asks) / sweep_period))))
        (omega (arith, a, asks)) (omega (arith, c)) (λ to. let e = ready.3 to in omega (arith, e)) new_room in
        subst (λ (x : Bool × List Command). let r = left_for_rest x.0 x.1 Ready (view_of d.seat) in
        HasRoomFor pool d (both r (left_to_ask Ready (d.asked + r.asks))))
        (λ i. (sym grew.composes i, sym done_left i)) room

  -- behind a turn of the closing
  pub closed_room : (stage after : Draining) → commands_left (lane_at l d (Closing after) n) ≡ []
      → HasRoomFor pool l.context (draining.left_of stage (view_of l.context.seat)) →
      Spends (view_of l.context.seat) (view_of d.seat) (draining.left_of stage (view_of l.context.seat))
      (draining.left_of after (view_of d.seat)) → HasRoomFor pool d (left_of (lane_at l d (Closing after) n))
  closed_room stage after none_now room spends =
      let a = spends.notes in let b = spends.moves in
      let left : Left = draining.left_of after (view_of d.seat) in
      let left_room : HasRoomFor pool d left = has_room pool hand l.context d added grew
      (draining.left_of stage (view_of l.context.seat)) left room (omega (arith, a)) (omega (arith, b))
      (λ to. (let e = spends.sends to in omega (arith, e))) in
      subst (λ (cs : List Command). let r = left_for_rest d.composes cs (Closing after) (view_of d.seat) in
      HasRoomFor pool d (both r (left_to_ask (Closing after) (d.asked + r.asks)))) (sym none_now)
      (room_most pool d left (both left (notes_alone 0)) (omega arith) (omega arith) (λ to. omega arith) left_room)

-- the first command that is left has room
pub front_room : (pool : SharedPool) (l : Lane) → HasRoomFor pool l.context (left_of l) → (command : Command)
    (later : List Command) → commands_left l ≡ command ∷ later
    → HasRoomFor pool l.context (left_at l.context.composes command l.stage (view_of l.context.seat))
front_room pool l room command later left =
    let v = view_of l.context.seat in let r = left_for_rest l.context.composes (command ∷ later) l.stage v in
    room_front pool l.context l.context.composes command l.stage v (with_takes (left_for_each l.context.composes later))
    (left_to_ask l.stage (l.context.asked + r.asks))
    (subst (λ (x : List Command). let r = left_for_rest l.context.composes x l.stage v in
    HasRoomFor pool l.context (both r (left_to_ask l.stage (l.context.asked + r.asks)))) left room)

-- and so has the closing
pub room_to_close : (pool : SharedPool) (l : Lane) → HasRoomFor pool l.context (left_of l) → commands_left l ≡ []
    → (stage : Draining) → l.stage ≡ Closing stage
    → HasRoomFor pool l.context (draining.left_of stage (view_of l.context.seat))
room_to_close pool l room none stage is =
    let left : Left = draining.left_of stage (view_of l.context.seat) in
    room_most pool l.context (both left (notes_alone 0)) left (omega arith) (omega arith) (λ to. omega arith)
    (subst (λ (x : List Command × Stage). let r = left_for_rest l.context.composes x.0 x.1 (view_of l.context.seat) in
    HasRoomFor pool l.context (both r (left_to_ask x.1 (l.context.asked + r.asks)))) (λ i. (none i, is i)) room)

pub room_to_begin : (pool : SharedPool) (l : Lane) → HasRoomFor pool l.context (left_of l) → commands_left l ≡ []
    → l.stage ≡ Ready → HasRoomFor pool l.context (draining.left_of (Ask 0) (view_of l.context.seat))
room_to_begin pool l room none is =
    let r : Left = with_sheds (view_of l.context.seat) (notes_alone 0) in
    room_most pool l.context (both r (notes_alone (cached_classes * (1 + (l.context.asked + r.asks) / sweep_period))))
    (draining.left_of (Ask 0) (view_of l.context.seat)) (omega arith) (omega arith) (λ to. omega arith)
    (subst (λ (x : List Command × Stage). let r = left_for_rest l.context.composes x.0 x.1 (view_of l.context.seat) in
    HasRoomFor pool l.context (both r (left_to_ask x.1 (l.context.asked + r.asks)))) (λ i. (none i, is i)) room)
