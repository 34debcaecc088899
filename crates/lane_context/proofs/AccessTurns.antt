-- The turns of the commands that claim the place of a root: accesses to its bytes, and touches.
use Rattle.std.proofs.Common.{◌≡◌, ℕ, ◌<◌, ◌≤◌, List, [], ◌∷◌, Bool, true, false, length, refl, sym, ap, ◌∙◌, subst, arith, eq-eqb, Option, Some, None}
use Rattle.pool_law.specs.declared.command.Command.{Command}
use Rattle.pool_law.specs.declared.id.RootId.{RootId}
use Rattle.pool_law.specs.declared.id.ViewData.{ViewData}
use Rattle.pool_law.specs.declared.note.Did.{Did}
use Rattle.pool_law.specs.declared.note.Held.{Held}
use Rattle.pool_law.specs.declared.note.Note.{Note}
use Rattle.pool_law.specs.declared.note.Object.{Object}
use Rattle.pool_law.specs.declared.note.Object.TheVariants.{Root}
use Rattle.pool_law.specs.declared.run.Reply.{Reply}
use Rattle.pool_law.specs.declared.run.Shape.{Shape}
use Rattle.pool_law.specs.Logs.{ToldNote}
use Rattle.pool_law.proofs.CompositeLemmas.{same_bytes-refl}
use Rattle.pool_law.specs.Dids as says
use Rattle.pool_law.specs.LaneLaw.{sweep_period, before_stop}
use Rattle.pool_law.specs.LaneStates.{LaneState}
use Rattle.pool_law.specs.Lanes.{Answer, answer, answer_of}
use Rattle.pool_law.specs.Names.{Names, Bound, Plain}
use Rattle.pool_law.specs.Readers.{Log, Reader, ◌>>=◌, ◌>>◌, give, given, busy, access as accesses}
use Rattle.pool_law.proofs.SameLemmas.{same_root-is}
use Rattle.pool_law.proofs.PatternLemmas.{same_number, same_root-refl}
use Rattle.pool_table.specs.declared.views.Entry.{Entry}
use Rattle.pool_table.specs.declared.views.Entry.TheVariants.{At, Busy}
use Rattle.shared_pool.specs.SeatViews.{view_of, SameSeat}
use Rattle.shared_pool.specs.declared.pool.SharedPool.{SharedPool}
use Rattle.shared_pool.specs.Closing.{entry_of}
use Rattle.shared_pool.specs.RootNotes.{access}
use Rattle.shared_pool.specs.SeatLanes.{lane_of}
use Rattle.shared_pool.specs.Seats.{IsPoolSeat, IsNoted, FoundBusy}
use Rattle.lane_context.specs.declared.access.Reach.{Reach}
use Rattle.lane_stages.specs.declared.counts.Counted.{Counted}
use Rattle.lane_context.specs.declared.context.Context.{Context}
use Rattle.lane_context.specs.declared.context.Stage.TheVariants.{Ready}
use Rattle.lane_context.specs.declared.context.Turn.TheVariants.{Went}
use Rattle.lane_context.specs.Accesses.{IsState, reads_set, reads_get, tries_or}
use Rattle.lane_stages.specs.NextNotes.{BeginsAt}
use Rattle.seat_work.specs.Readings.{before_left, ReadsOn}
use Rattle.lane_stages.specs.Readings.{none_asked}
use Rattle.seat_work.specs.Hands.{lane_in, empty_hand}
use Rattle.lane_stages.specs.Counting.{counted}
use Rattle.lane_context.specs.Named.{bound_at, NamesAre}
use Rattle.lane_stages.specs.Sampled.{AreSampled}
use Rattle.lane_context.specs.Contexts.{IsContext, left_for, HasTurned}
use Rattle.lane_context.specs.ContextSteps.{HasNoted, HasReplied, MayTurn}
use Rattle.seat_work.proofs.Grown.{Grows, grows_noted, grows_busy}
use Rattle.seat_work.proofs.HandLaws.{held_on}
use Rattle.seat_work.proofs.HandNotes.{marked_busy}
use Rattle.lane_stages.proofs.NextNotes.{access_begins, same_begins, then_begins}
use Rattle.lane_context.proofs.Ways.{HasWay, access_way, give_way, same_way, then_way}
use Rattle.lane_stages.proofs.AccessEntries.{IsAccessDid, access_entry, touch_is}
use Rattle.lane_stages.proofs.EntryCounts.{Recounts, still}
use Rattle.lane_context.proofs.NameLaws.{RebindsAt, rebound_same}
use Rattle.seat_work.proofs.ReadLaws.{given_on, first_on, second_on, none_then, access_on, mark_on}
use Rattle.lane_stages.proofs.ReadLaws.{note_unmarked}
use Rattle.lane_context.proofs.StateReads.{used_view, viewed, goes}
use Rattle.lane_context.proofs.ContextLaws.{Advances}
use Rattle.lane_context.proofs.Turning.{one_turn, one_turn_same, mid_names, as_start}

module _ (pool : SharedPool) (old start mid new : Context) (d : IsContext pool empty_hand old)
    (low : old.asked < sweep_period) (start_is : start ≡ record old { seat = start.seat })
    (same : SameSeat old.seat start.seat) (seat : IsPoolSeat pool start.seat) where
  asked_are : start.asked ≡ old.asked
  asked_are = ap (λ (x : Context). x.asked) start_is

  counts_are : start.counts ≡ old.counts
  counts_are = ap (λ (x : Context). x.counts) start_is

  samplers_are : start.sampler ≡ old.sampler
  samplers_are = ap (λ (x : Context). x.sampler) start_is

  -- an access that was made and noted is answered
  module _ (r : RootId) (lt : 0 < counted old.counts r) (number : ℕ) (did : Did)
      (is : IsAccessDid r number (view_of old.seat).own.number did)
      (made : IsNoted pool old.seat start.seat (Root r.place) number (access r did))
      (noted : HasNoted start mid (Note.At (Root r.place) number did ∷ [])) where
    abbrev e : Entry
    e = access_entry r number (view_of old.seat).own.number did

    access_advances : Advances pool old.seat start.seat empty_hand (e ∷ []) 0
    access_advances =
        let grows : Grows (view_of old.seat) (view_of start.seat) (e ∷ []) 0 =
        grows_noted pool old.seat start.seat d.seat seat (Root r.place) number (access r did) made in
        record {
          same = same;
          seat = seat;
          grows = grows;
          held =
              held_on (view_of old.seat) (view_of start.seat) (e ∷ []) 0 empty_hand empty_hand grows
              (is.carries (lane_in (view_of old.seat))) d.held;
        }

    access_counts : Recounts old.counts start.counts (entry_of e ∷ [])
    access_counts =
        subst (λ (cs : List Counted). Recounts old.counts cs (entry_of e ∷ [])) (sym counts_are)
        (still old.counts (entry_of e) is.is_still
        (λ root uses. subst (λ (q : RootId). 0 < counted old.counts q) (same_root-is r root uses) lt))

    pub access_turn : (names : List (Option Bound)) (reply : Reply) → before_stop (reply ∷ []) ≡ 1
        → HasReplied (record mid { names = names }) new reply → RebindsAt 1 old start.seat names →
        (s : LaneState) (command : Command) (bound : Names) → NamesAre bound names → 1 ≤
        (left_for old.composes command).notes →
        ReadsOn (answer_of old.shape (lane_of old.seat) s command) (entry_of e ∷ []) none_asked
        (give (answer reply bound)) → HasTurned pool old new s command Ready (Went Ready)
    access_turn names reply unstopped replied rebound s command bound are notes reads =
        one_turn pool old start mid new d low (as_start old start start_is) asked_are e 0 access_advances noted names
        reply unstopped replied access_counts (ap (λ (cs : List Counted). length cs) counts_are)
        (subst (AreSampled old.sampler (e ∷ [])) (sym samplers_are) (is.sampled old.sampler)) rebound s command bound
        are notes
        (let a = is.none_taken in omega (arith, a)) (omega arith)
        (λ to. (let a = is.none_sent (lane_in (view_of old.seat)) to in omega (arith, a))) reads

    pub access_names : mid.names ≡ old.names
    access_names =
        mid_names pool old start mid new d low (as_start old start start_is) asked_are e 0 access_advances noted

  -- and one that was marked as busy
  module _ (held : Held) (object : Object) (found : FoundBusy pool object true old.seat start.seat held)
      (noted : HasNoted start mid (Note.Busy held ∷ [])) where
    busy_advances : Advances pool old.seat start.seat empty_hand (Busy held ∷ []) 0
    busy_advances =
        let grows : Grows (view_of old.seat) (view_of start.seat) (Busy held ∷ []) 0 =
        grows_busy pool old.seat start.seat d.seat seat object held found in
        record {
          same = same;
          seat = seat;
          grows = grows;
          held =
              held_on (view_of old.seat) (view_of start.seat) (Busy held ∷ []) 0 empty_hand empty_hand grows
              (marked_busy (lane_in (view_of old.seat)) 0 None empty_hand held) d.held;
        }

    busy_counts : Recounts old.counts start.counts (entry_of (Busy held) ∷ [])
    busy_counts =
        subst (λ (cs : List Counted). Recounts old.counts cs (entry_of (Busy held) ∷ [])) (sym counts_are)
        (still old.counts (entry_of (Busy held))
        (record { gains = λ root. refl; loses = λ root. refl; needs = λ root. refl; ends = λ root. refl })
        (λ root uses. absurd (cc uses)))

    pub busy_turn : HasReplied mid new (Reply.Busy held.number) → (s : LaneState) (command : Command)
        → NamesAre s.names old.names → 1 ≤ (left_for old.composes command).notes →
        ReadsOn (answer_of old.shape (lane_of old.seat) s command) (entry_of (Busy held) ∷ []) none_asked
        (give (answer (Reply.Busy held.number) s.names)) → HasTurned pool old new s command Ready (Went Ready)
    busy_turn replied s command are notes reads =
        one_turn_same pool old start mid new d low (as_start old start start_is) asked_are (Busy held) 0 busy_advances
        noted (Reply.Busy held.number) refl replied busy_counts (ap (λ (cs : List Counted). length cs) counts_are)
        (sym samplers_are) s command are notes (omega arith) (omega arith) (λ to. omega arith) reads

-- ---- A touch.

-- how the law reads an access to the root
on_access : {A : Type 0} (r : RootId) (says_so : Did → Option A) (number : ℕ) (lane : Option ℕ) (did : Did) (a : A)
    → says_so did ≡ Some a → ReadsOn (accesses r says_so) (entry_of (access_entry r number lane did) ∷ []) none_asked
    (give a)
on_access r says_so number lane did a so =
    access_on (entry_of (access_entry r number lane did)) r says_so number did refl (same_root-refl r) a so

pub touch_turn : (pool : SharedPool) (name : ℕ) (old start mid new : Context)
    → MayTurn pool (left_for old.composes (Command.Touch name)) old → start ≡ record old { seat = start.seat }
    → SameSeat old.seat start.seat → IsPoolSeat pool start.seat →
    (v : ViewData) → bound_at old.names name ≡ Some (Plain v) → 0 < counted old.counts v.root → (number : ℕ)
    → IsNoted pool old.seat start.seat (Root v.root.place) number (access v.root Did.Touch) →
    HasNoted start mid (Note.At (Root v.root.place) number Did.Touch ∷ []) → HasReplied mid new Reply.Ok
    → (s : LaneState) → IsState s old.names old.counts
    → HasTurned pool old new s (Command.Touch name) Ready (Went Ready)
touch_turn pool name old start mid new may start_is same seat v bound lt number made noted replied s state =
    let lane : Option ℕ = (view_of old.seat).own.number in let shape : Shape = old.shape in let m = lane_of old.seat in
    let e : ToldNote = entry_of (access_entry v.root number lane Did.Touch) in
    let touches : Reader Answer = accesses v.root says.touch >> give (answer Reply.Ok s.names) in
    let is : IsAccessDid v.root number lane Did.Touch = touch_is v.root number lane in
    let names_are : mid.names ≡ old.names = access_names pool old start mid new may.context may.asked start_is same seat
    v.root lt number Did.Touch is made noted in
    access_turn pool old start mid new may.context may.asked start_is same seat v.root lt number Did.Touch is made noted
    mid.names Reply.Ok refl replied (rebound_same 1 old.names mid.names names_are) s
    (Command.Touch name) s.names
    (subst (NamesAre s.names) (sym names_are) state.names_are) (omega arith)
    (λ log.
    goes s old.names old.counts state shape m (Command.Touch name)
    (used_view s old.names old.counts state name v bound lt []) (before_left log (e ∷ []))
    ∙ ap (λ (o : Option ViewData).
    (given o >>= (λ view. accesses view.root says.touch >> give (answer Reply.Ok s.names)))
    (before_left log (e ∷ []))) (viewed s old.names old.counts state name v bound)
    ∙ given_on (accesses v.root says.touch) (e ∷ []) none_asked (λ _. give (answer Reply.Ok s.names)) tt
    (on_access v.root says.touch number lane Did.Touch tt refl) log)

module _ (name : ℕ) (old : Context) (v : ViewData) (bound : bound_at old.names name ≡ Some (Plain v))
    (lt : 0 < counted old.counts v.root) (s : LaneState) (state : IsState s old.names old.counts) where
  abbrev touches : Reader Answer
  touches = accesses v.root says.touch >> give (answer Reply.Ok s.names)

  touch_read : (log : Log)
      → answer_of old.shape (lane_of old.seat) s (Command.Touch name) log ≡ touches log
  touch_read log =
      goes s old.names old.counts state old.shape (lane_of old.seat) (Command.Touch name)
      (used_view s old.names old.counts state name v bound lt []) log
      ∙ ap (λ (o : Option ViewData).
      (given o >>= (λ view. accesses view.root says.touch >> give (answer Reply.Ok s.names))) log)
      (viewed s old.names old.counts state name v bound)

  -- it is read as a note at the root's place
  pub touch_begins : BeginsAt (Root v.root.place) (answer_of old.shape (lane_of old.seat) s (Command.Touch name))
  touch_begins =
      same_begins (Root v.root.place) touches (answer_of old.shape (lane_of old.seat) s (Command.Touch name)) touch_read
      (then_begins (Root v.root.place) (accesses v.root says.touch) (λ _. give (answer Reply.Ok s.names))
      (access_begins says.touch v.root))

  -- and there is such a note
  pub touch_way : HasWay (answer_of old.shape (lane_of old.seat) s (Command.Touch name))
  touch_way =
      same_way touches (answer_of old.shape (lane_of old.seat) s (Command.Touch name)) touch_read
      (then_way (accesses v.root says.touch) (λ _. give (answer Reply.Ok s.names))
      (access_way v.root says.touch Did.Touch tt refl) (λ u. give_way (answer Reply.Ok s.names)))

-- ---- Sets and gets.

-- a note at the place is no mark
tries_on : (tries : Bool) (s : LaneState) (v : ViewData) (r : Reader Answer) (e : ToldNote) (place number : ℕ)
    (did : Did) → e.note ≡ Note.At (Root place) number did → (a : Answer) → ReadsOn r (e ∷ []) none_asked (give a)
    → ReadsOn (tries_or tries s v r) (e ∷ []) none_asked (give a)
tries_on false s v r e place number did is a on = on
tries_on true s v r e place number did is a on =
    second_on (busy (Root v.root.place) >>= (λ n. give (answer (Reply.Busy n) s.names))) r (e ∷ []) none_asked (give a)
    (λ log. none_then (busy (Root v.root.place)) (λ n. give (answer (Reply.Busy n) s.names)) (before_left log (e ∷ []))
    (note_unmarked e (Root v.root.place) (Root place) number did is log)) on

module _ (s : LaneState) (bound : Names) (reach : Reach) (number : ℕ) (lane : Option ℕ) where
  pub read_set : (bytes : List ℕ) →
      let e = entry_of (access_entry reach.root number lane (Did.Set reach.offset bytes)) in
      ReadsOn (tries_or reach.tries s reach.after.at (reads_set bound reach bytes)) (e ∷ []) none_asked
      (give (answer Reply.Ok bound))
  read_set bytes =
      let did = Did.Set reach.offset bytes in let e : ToldNote = entry_of (access_entry reach.root number lane did) in
      let so : says.set reach.offset bytes did ≡ Some tt = rw (same_number reach.offset, same_bytes-refl bytes) refl in
      tries_on reach.tries s reach.after.at (reads_set bound reach bytes) e reach.root.place number did refl
      (answer Reply.Ok bound)
      (given_on (accesses reach.root (says.set reach.offset bytes)) (e ∷ []) none_asked
      (λ _. give (answer Reply.Ok bound)) tt
      (on_access reach.root (says.set reach.offset bytes) number lane did tt so))

  pub read_get : (bytes : List ℕ) (len : ℕ) → length bytes ≡ len →
      let e = entry_of (access_entry reach.root number lane (Did.Get reach.offset bytes)) in
      ReadsOn (tries_or reach.tries s reach.after.at (reads_get bound reach len)) (e ∷ []) none_asked
      (give (answer (Reply.OkBytes bytes) bound))
  read_get bytes len is =
      let did = Did.Get reach.offset bytes in let e : ToldNote = entry_of (access_entry reach.root number lane did) in
      let so : says.get reach.offset len did ≡ Some bytes =
      rw (same_number reach.offset, eq-eqb (length bytes) len is) refl in
      tries_on reach.tries s reach.after.at (reads_get bound reach len) e reach.root.place number did refl
      (answer (Reply.OkBytes bytes) bound)
      (given_on (accesses reach.root (says.get reach.offset len)) (e ∷ []) none_asked
      (λ bytes. give (answer (Reply.OkBytes bytes) bound)) bytes
      (on_access reach.root (says.get reach.offset len) number lane did bytes so))

-- a command that tries found another seat there
pub read_busy : (s : LaneState) (v : ViewData) (held : Held) (going : Reader Answer) → held.object ≡ Root v.root.place
    → ReadsOn (tries_or true s v going) (entry_of (Busy held) ∷ []) none_asked
    (give (answer (Reply.Busy held.number) s.names))
read_busy s v held going at =
    let e : ToldNote = entry_of (Busy held) in
    first_on (busy (Root v.root.place) >>= (λ n. give (answer (Reply.Busy n) s.names))) going (e ∷ []) none_asked
    (answer (Reply.Busy held.number) s.names)
    (given_on (busy (Root v.root.place)) (e ∷ []) none_asked (λ n. give (answer (Reply.Busy n) s.names)) held.number
    (mark_on e (Root v.root.place) held at refl))
