-- The turns of the commands that post and fetch parcels.
use Rattle.std.proofs.Common.{◌≡◌, ℕ, ◌+◌, ◌*◌, ◌<◌, ◌≤◌, List, [], ◌∷◌, Bool, true, false, length, refl, sym, ap, ◌∙◌, subst, arith, Option, Some, None}
use Rattle.std.specs.Prelude.{◌==◌, ◌&&◌, IfSome, slice_set, if◌then◌else◌, sum_by}
use Rattle.std.proofs.lemmas.List.{length-map}
use Rattle.std.proofs.lemmas.List.Sums.{sum_by-cons}
use Rattle.pool_law.specs.declared.command.Command.{Command}
use Rattle.pool_law.specs.declared.id.RootId.{RootId}
use Rattle.pool_law.specs.declared.id.ViewData.{ViewData}
use Rattle.pool_law.specs.declared.id.Parcel.{Parcel}
use Rattle.pool_law.specs.declared.note.Did.{Did}
use Rattle.pool_law.specs.declared.note.Note.{Note}
use Rattle.pool_law.specs.declared.note.Object.TheVariants.{Mail}
use Rattle.pool_law.specs.declared.run.Reply.{Reply}
use Rattle.pool_law.specs.declared.run.Shape.{Shape}
use Rattle.pool_law.specs.Counts.{view_is_of}
use Rattle.pool_law.specs.Dids as says
use Rattle.pool_law.specs.LaneLaw.{before_stop}
use Rattle.pool_law.specs.LaneStates.{LaneState}
use Rattle.pool_law.specs.Lanes.{Answer, answer, answer_of, received, no_parcel, parcel_of}
use Rattle.pool_law.specs.Names.{Plain, Names, bind, Bound}
use Rattle.pool_law.specs.Readers.{Reader, ◌>>=◌, ◌>>◌, give, given, note}
use Rattle.pool_law.proofs.PatternLemmas.{same_number, same_root-refl}
use Rattle.history_laws.specs.NoteCounts.{one_if_so, view_of_root}
use Rattle.pool_table.specs.declared.views.Entry.{Entry}
use Rattle.pool_table.specs.declared.views.SeatView.{SeatView}
use Rattle.pool_table.specs.Counts.{weigh, on_this, ref_gain, ref_loss, fetches, posts as posted_of, HasCount}
use Rattle.shared_pool.specs.SeatViews.{view_of, SameSeat}
use Rattle.shared_pool.specs.declared.pool.SharedPool.{SharedPool}
use Rattle.shared_pool.specs.Closing.{note_of, entry_of}
use Rattle.shared_pool.specs.Knowing.{ReachesKnown}
use Rattle.shared_pool.specs.MailAnswers.{HasRoom, IsFetched, IsPosted}
use Rattle.shared_pool.specs.SeatLanes.{lane_of}
use Rattle.shared_pool.specs.Seats.{IsPoolSeat}
use Rattle.seat_work.proofs.HandNotes.{post_entry, fetch_entry, post_carries, fetch_carries}
use Rattle.lane_context.specs.declared.access.Refusal.{Refusal}
use Rattle.lane_stages.specs.declared.counts.Counted.{Counted}
use Rattle.lane_context.specs.declared.context.Context.{Context}
use Rattle.lane_context.specs.declared.context.Stage.TheVariants.{Ready}
use Rattle.lane_context.specs.declared.context.Turn.TheVariants.{Went}
use Rattle.lane_context.specs.Accesses.{reply_for, IsState, IsRefused}
use Rattle.seat_work.specs.Hands.{lane_in, empty_hand}
use Rattle.lane_stages.specs.Counting.{counted}
use Rattle.lane_context.specs.Named.{bound_at, NamesAre}
use Rattle.seat_work.specs.Readings.{before_left, behind, ReadsOn}
use Rattle.lane_stages.specs.Readings.{none_asked}
use Rattle.lane_context.specs.Contexts.{IsContext, notes_of, entries_of, HasRoomFor, left_for, HasTurned}
use Rattle.lane_context.specs.ContextSteps.{CanAnswer, HasNoted, HasReplied, HasPosted, CountsMore, CountsLess, MayTurn, left_to_post}
use Rattle.lane_context.proofs.NameLaws.{NamesAre-bind, RebindsAt, rebound_same, rebound_view}
use Rattle.seat_work.proofs.Grown.{Grows, grows_mailed, weigh_more}
use Rattle.seat_work.proofs.HandLaws.{held_on}
use Rattle.lane_stages.proofs.EntryCounts.{Recounts, still, posted, fetched}
use Rattle.lane_stages.proofs.SeatCounts.{own_count, has_count, few_counted, stays_counted}
use Rattle.lane_context.proofs.StateReads.{used_view, refused_view, viewed, goes, refuses}
use Rattle.lane_context.proofs.ContextLaws.{Advances, can_answer_noted}
use Rattle.seat_work.proofs.ReadLaws.{given_on, note_on}
use Rattle.lane_context.proofs.Turning.{one_turn, one_turn_same, unstopped_for}

-- a parcel is one post to its lane, and none to another
pub one_post : (x y : Bool) → 0 + one_if_so (x && y) ≤ (if y then 1 else 0)
one_post true true = omega arith
one_post true false = omega arith
one_post false true = omega arith
one_post false false = omega arith

-- the mail has room for the parcel
pub has_room : (pool : SharedPool) (old : Context) (receiver : ℕ) → HasRoomFor pool old (left_to_post receiver)
    → receiver < old.shape.lanes → HasRoom pool (lane_of old.seat) receiver (view_of old.seat)
has_room pool old receiver room lt = λ m.
    let a = room.mails receiver lt m in
    let one : (left_to_post receiver).sends receiver ≡ 1 =
    ap (λ (x : Bool). if x then 1 else 0) (same_number receiver) in
    omega (arith, a, one)

-- what is counted is counted by the seat
pub counted_views : (pool : SharedPool) (old : Context) → IsContext pool empty_hand old → (o : Option ViewData)
    → IfSome o (λ v. 0 < counted old.counts v.root) → IfSome o (λ v. HasCount v.root (view_of old.seat))
counted_views pool old d None lt = tt
counted_views pool old d (Some v) lt = has_count old.counts (view_of old.seat) d.seat.alone d.counts v.root lt

-- a parcel was posted and noted
pub has_posted : (pool : SharedPool) (old start mid : Context) → start ≡ record old { seat = start.seat }
    → SameSeat old.seat start.seat → IsPoolSeat pool start.seat → (receiver number : ℕ) (parcel : Parcel)
    → IsPosted old.seat start.seat receiver number parcel
    → HasNoted start mid (Note.At (Mail (lane_of old.seat) receiver) number (Did.Post parcel) ∷ [])
    → HasPosted pool old mid receiver parcel
has_posted pool old start mid start_is same seat receiver number parcel made noted =
    let seat_is : mid.seat ≡ start.seat = ap (λ (x : Context). x.seat) noted.rest in
    record {
      number = number;
      same = subst (λ x. SameSeat old.seat x) (sym seat_is) same;
      seat = subst (λ x. IsPoolSeat pool x) (sym seat_is) seat;
      did = subst (λ x. IsPosted old.seat x receiver number parcel) (sym seat_is) made;
      noted =
          subst (λ (x : Context). HasNoted x mid
          (Note.At (Mail (lane_of old.seat) receiver) number (Did.Post parcel) ∷ []))
          (start_is ∙ (λ i. record old { seat = sym seat_is i })) noted;
    }

-- then there is room for the reply
pub can_answer_posted : (pool : SharedPool) (name receiver : ℕ) (old mid : Context)
    → MayTurn pool (left_for old.composes (Command.Send name receiver)) old → (parcel : Parcel)
    → HasPosted pool old mid receiver parcel → CanAnswer mid
can_answer_posted pool name receiver old mid may parcel did =
    can_answer_noted pool (left_for old.composes (Command.Send name receiver)) old may (omega arith)
    (record old { seat = mid.seat })
    mid (Note.At (Mail (lane_of old.seat) receiver) did.number (Did.Post parcel)) did.noted refl

-- ---- A parcel that is sent.

-- what the seat noted
module _ (pool : SharedPool) (receiver : ℕ) (old mid : Context) (d : IsContext pool empty_hand old) (parcel : Parcel)
    (did : HasPosted pool old mid receiver parcel) where
  abbrev pub posted_entry : Entry
  posted_entry = post_entry (lane_of old.seat) receiver did.number (view_of old.seat).own.number parcel

  pub post_advances : Advances pool old.seat mid.seat empty_hand (posted_entry ∷ []) 0
  post_advances =
      let grows : Grows (view_of old.seat) (view_of mid.seat) (posted_entry ∷ []) 0 =
      grows_mailed pool old.seat mid.seat d.seat did.seat (lane_of old.seat) receiver did.number (Did.Post parcel)
      did.did.noted in
      record {
        same = did.same;
        seat = did.seat;
        grows = grows;
        held =
            held_on (view_of old.seat) (view_of mid.seat) (posted_entry ∷ []) 0 empty_hand empty_hand grows
            (post_carries (lane_of old.seat) receiver did.number (view_of old.seat).own.number parcel
            (lane_in (view_of old.seat))) d.held;
      }

module _ (pool : SharedPool) (name receiver : ℕ) (old mid new : Context)
    (may : MayTurn pool (left_for old.composes (Command.Send name receiver)) old) (parcel : Parcel)
    (did : HasPosted pool old mid receiver parcel) where
  abbrev e : Entry
  e = posted_entry pool receiver old mid may.context parcel did

  -- with these counts it is answered
  posted_turn : (cs : List Counted) (reply : Reply) → before_stop (reply ∷ []) ≡ 1
      → HasReplied (record mid { counts = cs }) new reply → Recounts old.counts cs (entry_of e ∷ [])
      → length cs ≡ length old.counts → (s : LaneState) → NamesAre s.names old.names →
      ReadsOn (answer_of old.shape (lane_of old.seat) s (Command.Send name receiver)) (entry_of e ∷ []) none_asked
      (give (answer reply s.names)) → HasTurned pool old new s (Command.Send name receiver) Ready (Went Ready)
  posted_turn cs reply unstopped replied recounts places s are reads =
      let start : Context = record old { seat = mid.seat; counts = cs } in
      let noted : HasNoted start (record mid { counts = cs }) (note_of e ∷ []) =
      record {
        log = did.noted.log;
        room = did.noted.room;
        rest =
            ap (λ (x : Context). record x { counts = cs }) did.noted.rest;
      } in
      one_turn_same pool old start (record mid { counts = cs }) new may.context may.asked refl refl e 0
      (post_advances pool receiver old mid may.context parcel did) noted
      reply unstopped replied recounts places (tt, refl) s (Command.Send name receiver) are
      (omega arith) (omega arith) (omega arith)
      (λ to. one_post (lane_of old.seat == lane_in (view_of old.seat)) (receiver == to)) reads

module _ (pool : SharedPool) (name receiver : ℕ) (old mid new : Context)
    (may : MayTurn pool (left_for old.composes (Command.Send name receiver)) old) (s : LaneState)
    (state : IsState s old.names old.counts) where
  mid_counts : (parcel : Parcel) → HasPosted pool old mid receiver parcel → mid.counts ≡ old.counts
  mid_counts parcel did = ap (λ (x : Context). x.counts) did.noted.rest

  -- a view is sent
  pub send_turn : (v : ViewData) → bound_at old.names name ≡ Some (Plain v) → 0 < counted old.counts v.root
      → (did : HasPosted pool old mid receiver (parcel_of v)) (cs : List Counted) → CountsLess mid.counts cs v.root
      → HasReplied (record mid { counts = cs }) new Reply.Ok
      → HasTurned pool old new s (Command.Send name receiver) Ready (Went Ready)
  send_turn v bound lt did cs less replied =
      let lane = lane_of old.seat in
      let before : CountsLess old.counts cs v.root =
      subst (λ (ds : List Counted). CountsLess ds cs v.root) (mid_counts (parcel_of v) did) less in
      let own = (view_of old.seat).own.number in let e =
      entry_of (post_entry lane receiver did.number own (parcel_of v)) in
      posted_turn pool name receiver old mid new may (parcel_of v) did cs Reply.Ok refl replied
      (posted old.counts cs v (Mail lane receiver) did.number lt before.counts) before.places s state.names_are
      (λ log.
      goes s old.names old.counts state old.shape lane (Command.Send name receiver)
      (used_view s old.names old.counts state name v bound lt []) (before_left log (e ∷ []))
      ∙ ap (λ (o : Option ViewData). (given o >>= sends lane) (before_left log (e ∷ [])))
      (viewed s old.names old.counts state name v bound)
      ∙ given_on (note (Mail lane receiver) (says.post (parcel_of v))) (e ∷ []) none_asked
      (λ _. give (answer Reply.Ok s.names)) tt
      (note_on e (Mail lane receiver) (says.post (parcel_of v)) did.number (Did.Post (parcel_of v)) refl tt
      sent) log)
    where
      sends : ℕ → ViewData → Reader Answer
      sends lane view = note (Mail lane receiver) (says.post (parcel_of view)) >> give (answer Reply.Ok s.names)

      sent : says.post (parcel_of v) (Did.Post (parcel_of v)) ≡ Some tt
      sent =
          rw (
            same_number v.root.place,
            same_number v.root.generation,
            same_number v.root.capacity,
            same_number
                v.offset,
            same_number v.len,
            same_number v.reader,
            same_number v.writer,
          ) refl

  -- a send that is refused posts the empty parcel
  pub unsent_turn : (refusal : Refusal) → IsRefused old.names old.counts name refusal
      → (did : HasPosted pool old mid receiver no_parcel) → HasReplied mid new (reply_for refusal)
      → HasTurned pool old new s (Command.Send name receiver) Ready (Went Ready)
  unsent_turn refusal is did replied =
      let lane = lane_of old.seat in
      let same : mid.counts ≡ old.counts = mid_counts no_parcel did in
      let own = (view_of old.seat).own.number in let e = entry_of (post_entry lane receiver did.number own no_parcel) in
      posted_turn pool name receiver old mid new may no_parcel did mid.counts (reply_for refusal)
      (unstopped_for refusal) replied
      (subst (λ (cs : List Counted). Recounts old.counts cs (e ∷ [])) (sym same)
      (still old.counts e (record {
        gains = λ root. refl;
        loses = λ root. refl;
        needs = λ root. refl;
        ends =
            λ root. refl;
      }) (λ root uses. absurd (cc uses))))
      (ap (λ (cs : List Counted). length cs) same) s state.names_are
      (λ log.
      refuses s old.names old.counts state old.shape lane (Command.Send name receiver) (reply_for refusal)
      (refused_view s old.names old.counts state name refusal is []) (before_left log (e ∷ []))
      ∙ given_on (note (Mail lane receiver) (says.post no_parcel)) (e ∷ []) none_asked
      (λ _. give (answer (reply_for refusal) s.names)) tt
      (note_on e (Mail lane receiver) (says.post no_parcel) did.number (Did.Post no_parcel) refl tt refl) log)

-- ---- A parcel that comes.

module _ (pool : SharedPool) (fresh from : ℕ) (old start mid new : Context)
    (may : MayTurn pool (left_for old.composes (Command.Recv fresh from)) old)
    (start_is : start ≡ record old { seat = start.seat })
    (same : SameSeat old.seat start.seat) (seat : IsPoolSeat pool start.seat) (number : ℕ) (parcel : Parcel)
    (made : IsFetched old.seat start.seat from number parcel)
    (noted : HasNoted start mid (Note.At (Mail from (lane_of old.seat)) number (Did.Fetch parcel) ∷ [])) where
  abbrev f : Entry
  f = fetch_entry from (lane_of old.seat) number (view_of old.seat).own.number parcel

  fetch_grows : Grows (view_of old.seat) (view_of start.seat) (f ∷ []) 0
  fetch_grows =
      grows_mailed pool old.seat start.seat may.context.seat seat from (lane_of old.seat) number (Did.Fetch parcel)
      made.noted

  fetch_advances : Advances pool old.seat start.seat empty_hand (f ∷ []) 0
  fetch_advances =
      record {
        same = same;
        seat = seat;
        grows = fetch_grows;
        held =
            held_on (view_of old.seat) (view_of start.seat) (f ∷ []) 0 empty_hand empty_hand fetch_grows
            (fetch_carries from (lane_of old.seat) number (view_of old.seat).own.number parcel
            (lane_in (view_of old.seat))) may.context.held;
      }

  fetched_turn : (cs : List Counted) (names : List (Option Bound)) (reply : Reply) → before_stop (reply ∷ []) ≡ 1
      → HasReplied (record mid { names = names; counts = cs }) new reply → Recounts old.counts cs (entry_of f ∷ [])
      → length cs ≡ length old.counts → RebindsAt 1 old start.seat names → (s : LaneState) (bound : Names)
      → NamesAre bound names →
      received s fresh parcel.view ≡ answer reply bound
      → HasTurned pool old new s (Command.Recv fresh from) Ready (Went Ready)
  fetched_turn cs names reply unstopped replied recounts places rebound s bound are answers =
      let begin : Context = record start { counts = cs } in
      let sampler_is : start.sampler ≡ old.sampler = ap (λ (x : Context). x.sampler) start_is in
      let asked_is : start.asked ≡ old.asked = ap (λ (x : Context). x.asked) start_is in
      let begin_is : begin ≡ record old
      { seat = start.seat; counts = cs; sampler = start.sampler; asked = start.asked } =
      ap (λ (x : Context). record x { counts = cs }) start_is
      ∙ (λ i. record old { seat = start.seat; counts = cs; sampler = sym sampler_is i; asked = sym asked_is i }) in
      let mail = Mail from (lane_of old.seat) in
      one_turn pool old begin (record mid { counts = cs }) new may.context may.asked begin_is asked_is f 0
      fetch_advances
      (record { log = noted.log; room = noted.room; rest = ap (λ (x : Context). record x { counts = cs }) noted.rest })
      names reply unstopped replied recounts places (tt, sym sampler_is) rebound s (Command.Recv fresh from) bound
      are (omega arith) (omega arith) (omega arith)
      (λ to. omega arith)
      (λ log.
      given_on (note mail says.fetch) (entry_of f ∷ []) none_asked (λ p. give (received s fresh p.view)) parcel
      (note_on (entry_of f) mail says.fetch number (Did.Fetch parcel) refl parcel refl) log
      ∙ ap (λ (a : Answer). give a (behind log (entry_of f ∷ []) none_asked)) answers)

  mid_names_are : mid.names ≡ old.names
  mid_names_are = ap (λ (x : Context). x.names) noted.rest ∙ ap (λ (x : Context). x.names) start_is

  mid_counts_are : mid.counts ≡ old.counts
  mid_counts_are = ap (λ (x : Context). x.counts) noted.rest ∙ ap (λ (x : Context). x.counts) start_is

  -- an empty parcel
  pub nothing_turn : parcel.view ≡ None → HasReplied mid new Reply.Nothing → (s : LaneState)
      → IsState s old.names old.counts → HasTurned pool old new s (Command.Recv fresh from) Ready (Went Ready)
  nothing_turn none replied s state =
      fetched_turn mid.counts mid.names Reply.Nothing refl replied
      (subst (λ (cs : List Counted). Recounts old.counts cs (entry_of f ∷ [])) (sym mid_counts_are)
      (still old.counts (entry_of f)
      (record {
        gains = λ root. ap (λ (o : Option ViewData). view_is_of root o) none;
        loses = λ root. refl;
        needs =
            λ root. refl;
        ends = λ root. refl;
      }) (λ root uses. absurd (cc uses))))
      (ap (λ (cs : List Counted). length cs) mid_counts_are)
      (rebound_same 1 old.names mid.names mid_names_are) s s.names
      (subst (NamesAre s.names) (sym mid_names_are) state.names_are)
      (ap (received s fresh) none)

  -- a parcel with a view
  pub receive_turn : (v : ViewData) → parcel.view ≡ Some v → ReachesKnown (view_of start.seat) v
      → fresh < length old.names → (cs : List Counted)
      → CountsMore mid.counts cs v.root → HasReplied
      (record mid { counts = cs; names = slice_set mid.names fresh (Some (Plain v)) }) new Reply.Ok → (s : LaneState)
      → IsState s old.names old.counts → HasTurned pool old new s (Command.Recv fresh from) Ready (Went Ready)
  receive_turn v some known lt cs more replied s state =
      let before : CountsMore old.counts cs v.root =
      subst (λ (ds : List Counted). CountsMore ds cs v.root) mid_counts_are more in
      fetched_turn cs (slice_set mid.names fresh (Some (Plain v))) Reply.Ok refl replied
      (subst (λ (p : Parcel). Recounts old.counts cs
      (entry_of (fetch_entry from (lane_of old.seat) number (view_of old.seat).own.number p) ∷ []))
      (λ i. record { view = sym some i })
      (fetched old.counts cs v (Mail from (lane_of old.seat)) number before.counts))
      before.places (rebound_view 1 old.names mid.names mid_names_are fresh lt v known) s (bind fresh (Plain v) s.names)
      (subst (λ (names : List (Option Bound)). NamesAre (bind fresh (Plain v) s.names)
      (slice_set names fresh (Some (Plain v)))) (sym mid_names_are)
      (NamesAre-bind s.names old.names state.names_are fresh (Plain v) lt))
      (ap (received s fresh) some)

  -- of the root's place no other root is counted
  pub alone_fetched : (v : ViewData) → parcel.view ≡ Some v → (other : RootId) → other.place ≡ v.root.place
      → 0 < counted old.counts other → other ≡ v.root
  alone_fetched v some other at counts =
      let u : SeatView = view_of old.seat in let w : SeatView = view_of start.seat in
      let grown : (g : Entry → ℕ) → weigh g w ≡ weigh g u + sum_by g (f ∷ []) = weigh_more u w (f ∷ []) 0 fetch_grows in
      let has : HasCount v.root w =
      (let a = own_count old.counts u may.context.seat.alone may.context.counts v.root in
      let p = grown (on_this ref_gain v.root) in let q = grown (fetches v.root) in let l =
      grown (on_this ref_loss v.root) in let m = grown (posted_of v.root) in
      let one : fetches v.root f ≡ 1 = ap (λ (o : Option ViewData). view_of_root v.root o) some
      ∙ ap (λ (b : Bool). one_if_so b) (same_root-refl v.root) in
      let s1 = sum_by-cons (fetches v.root) f [] in
      omega (arith, a, p, q, l, m, one, s1)) in
      seat.counts.one other v.root (stays_counted u w (f ∷ []) 0 fetch_grows other (omega arith) (omega arith)
      (has_count old.counts u may.context.seat.alone may.context.counts other counts)) has at

  -- the root can be counted once more, the name bound, and the command answered
  pub fetched_place : (v : ViewData) → parcel.view ≡ Some v
      → IfSome parcel.view (λ w. w.root.place < pool.table.layout.shape.lanes * pool.table.layout.shape.handles)
      → v.root.place < length mid.counts
  fetched_place v some place =
      subst (λ (n : ℕ). v.root.place < n)
      (sym (ap (λ (cs : List Counted). length cs) mid_counts_are ∙ may.context.places
      ∙ ap (λ (s : Shape). s.lanes * s.handles) may.context.shape))
      (subst (λ (o : Option ViewData). IfSome o
      (λ w. w.root.place < pool.table.layout.shape.lanes * pool.table.layout.shape.handles)) some place)

  pub fetched_alone : (v : ViewData) → parcel.view ≡ Some v → (other : RootId) → other.place ≡ v.root.place
      → 0 < counted mid.counts other → other ≡ v.root
  fetched_alone v some other at counts =
      alone_fetched v some other at (subst (λ (cs : List Counted). 0 < counted cs other) mid_counts_are counts)

  pub fetched_few : (root : RootId) → counted mid.counts root < 4294967295
  fetched_few root =
      let a = few_counted old.counts (entries_of old) may.context.counts root in let b =
      length-map (notes_of old) entry_of in let e = may.room.few in
      let g = ap (λ (cs : List Counted). counted cs root) mid_counts_are in omega (arith, a, b, e, g)
