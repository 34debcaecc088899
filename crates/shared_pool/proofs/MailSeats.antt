-- A seat of a pool, where it sends or receives a letter.
use Rattle.std.proofs.Common.{◌≡◌, ℕ, ◌+◌, ◌*◌, ◌<◌, ◌≤◌, List, [], ◌∷◌, ◌++◌, length, get_or, set, refl, sym, ap, ◌∙◌, subst, arith}
use Rattle.std.specs.Prelude.{Option, Some, None, slice_get, unwrap_or}
use Rattle.std.proofs.lemmas.List.{get_or_default}
use Rattle.atomic_table.specs.Seated.{TableId}
use Rattle.crossbeam_queue.specs.Passes.{Pass, view, IsPassOf, ruled_capacity}
use Rattle.pool_law.specs.declared.id.Parcel.{Parcel}
use Rattle.pool_law.specs.declared.note.Did.{Did}
use Rattle.pool_law.specs.declared.note.Object.TheVariants.{Mail as MailOf}
use Rattle.pool_law.specs.Naming.{noted_by}
use Rattle.pool_table.specs.declared.views.Entry.{Entry}
use Rattle.pool_table.specs.declared.views.Entry.TheVariants.{At}
use Rattle.pool_table.specs.declared.views.Letter.{Letter}
use Rattle.pool_table.specs.declared.views.SeatView.{SeatView}
use Rattle.pool_table.specs.Counts.{CountsOne}
use Rattle.pool_table.specs.Letters.{lane_of as lane_of_number, letter_view, next_letter, received_on, receives, sent_on}
use Rattle.pool_table.specs.Mailing.{MayReceive}
use Rattle.pool_table.specs.Views.{with_entry}
use Rattle.shared_pool.specs.declared.mail.Mail.{Mail}
use Rattle.shared_pool.specs.declared.pool.SharedPool.{SharedPool}
use Rattle.shared_pool.specs.declared.seat.PoolSeat.{PoolSeat}
use Rattle.shared_pool.specs.MailEnds.{KnownEnds, IsReceiver, IsSender, one_received, one_sent, receiver, sender}
use Rattle.shared_pool.specs.MailAnswers.{HasRoom, IsDrained, IsFetched, IsPosted}
use Rattle.shared_pool.specs.Carries.{Carries, IsLetter, IsNextReceived, IsNextSent, Received, Stood}
use Rattle.shared_pool.specs.Mails.{ArePosts, AreFetches, AtMail, IsFetchesEnd, IsPostsEnd, carried, table_of}
use Rattle.shared_pool.specs.Notes.{plain}
use Rattle.shared_pool.specs.Posting.{PostedLetter}
use Rattle.shared_pool.specs.SeatLanes.{lane_of}
use Rattle.shared_pool.specs.SeatViews.{view_of, HasView, SameSeat}
use Rattle.shared_pool.specs.Seats.{IsPoolSeat}
use Rattle.shared_pool.proofs.MailWays.{post_entry, fetch_entry, posted_here, fetched_here, carried-all, at_mail, posts_at, posts_end, fetches_at, fetches_end, has_post, has_fetch, posts_after, fetches_after_post, fetches_after, posts_after_fetch, posts_after_own, fetches_after_own, fetches_set}

-- the lane of a seat of the pool, with its ends
pub numbered : (pool : SharedPool) (s : PoolSeat) → IsPoolSeat pool s → (view_of s).own.number ≡ Some (lane_of s)
numbered pool s seat = seat.number ∙ ap Some (sym (ap (λ (o : Option ℕ). unwrap_or o 0) seat.number))

lane_is : (pool : SharedPool) (s : PoolSeat) (seat : IsPoolSeat pool s) → seat.lane ≡ lane_of s
lane_is pool s seat = sym (ap (λ (o : Option ℕ). unwrap_or o 0) seat.number)

pub posts_of : (pool : SharedPool) (s : PoolSeat) → IsPoolSeat pool s
    → ArePosts pool (lane_of s) (view_of s).own.notes s.posts.items
posts_of pool s seat =
    subst (λ (k : ℕ). ArePosts pool k (view_of s).own.notes s.posts.items) (lane_is pool s seat) seat.posts

pub fetches_of : (pool : SharedPool) (s : PoolSeat) → IsPoolSeat pool s
    → AreFetches pool (lane_of s) (view_of s).own.notes s.fetches.items
fetches_of pool s seat =
    subst (λ (k : ℕ). AreFetches pool k (view_of s).own.notes s.fetches.items) (lane_is pool s seat) seat.fetches

-- the seat after an entry of its own, with its ends, is one of the pool's
pub with_note : (pool : SharedPool) (old new : PoolSeat) (e : Entry) (turns : ℕ) → IsPoolSeat pool old
    → SameSeat old new → HasView new (with_entry (view_of old) e turns) → CountsOne (view_of new)
    → ArePosts pool (lane_of old) ((view_of old).own.notes ++ e ∷ []) new.posts.items
    → AreFetches pool (lane_of old) ((view_of old).own.notes ++ e ∷ []) new.fetches.items → IsPoolSeat pool new
with_note pool old new e turns seat same has counts posts fetches =
    let is : view_of new ≡ with_entry (view_of old) e turns = ap (λ m. m.0) has in
    record {
      own = same.0 ∙ seat.own;
      outside = (ap (λ v. v.inside) is, ap (λ m. m.1) has);
      alone = ap (λ v. v.others) is ∙ seat.alone;
      lane = lane_of old;
      number = ap (λ v. v.own.number) is ∙ numbered pool old seat;
      below = subst (λ (k : ℕ). k < pool.table.layout.shape.lanes) (lane_is pool old seat) seat.below;
      setting = seat.setting;
      settled = ap (λ v. v.setting) is ∙ seat.settled;
      arenas = seat.arenas;
      counts = counts;
      posts = subst (λ (v : SeatView). ArePosts pool (lane_of old) v.own.notes new.posts.items) (sym is) posts;
      fetches = subst (λ (v : SeatView). AreFetches pool (lane_of old) v.own.notes new.fetches.items) (sym is) fetches;
    }

-- the seat with the end of another look at a mail is one of the pool's
pub with_fetches : (pool : SharedPool) (old new : PoolSeat) → IsPoolSeat pool old → new.seat ≡ old.seat
    → new.posts ≡ old.posts → AreFetches pool (lane_of old) (view_of old).own.notes new.fetches.items
    → IsPoolSeat pool new
with_fetches pool old new seat same posts fetches =
    record {
      own = ap (λ s. s.seat.table_id) same ∙ seat.own;
      outside = (ap (λ s. s.seat.me.0.inside) same ∙ seat.outside.0, ap (λ s. s.seat.me.1) same ∙ seat.outside.1);
      alone = ap (λ s. s.seat.me.0.others) same ∙ seat.alone;
      lane = lane_of old;
      number = ap (λ s. s.seat.me.0.own.number) same ∙ numbered pool old seat;
      below = subst (λ (k : ℕ). k < pool.table.layout.shape.lanes) (lane_is pool old seat) seat.below;
      setting = seat.setting;
      settled = ap (λ s. s.seat.me.0.setting) same ∙ seat.settled;
      arenas = seat.arenas;
      counts = subst (λ s. CountsOne s.seat.me.0) (sym same) seat.counts;
      posts =
          subst (λ s. ArePosts pool (lane_of old) s.seat.me.0.own.notes new.posts.items) (sym same)
          (subst (λ ps. ArePosts pool (lane_of old) (view_of old).own.notes ps.items) (sym posts)
          (posts_of pool old seat));
      fetches =
          subst (λ s. AreFetches pool (lane_of old) s.seat.me.0.own.notes new.fetches.items) (sym same) fetches;
    }

-- a seat that sent a letter by a channel of its own
pub sent_own : (pool : SharedPool) (old new : PoolSeat) (to number : ℕ) (parcel : Parcel) → IsPoolSeat pool old
    → SameSeat old new → (new.posts ≡ old.posts) × (new.fetches ≡ old.fetches) → IsPosted old new to number parcel
    → CountsOne (view_of new) → AtMail pool (lane_of old) to (λ m. m.room ≡ 0) → IsPoolSeat pool new
sent_own pool old new to number parcel seat same ends posted counts none =
    let v = view_of old in let lane = lane_of old in
    let e : Entry = post_entry lane to number v.own.number parcel in
    with_note pool old new e v.turns seat same posted.noted counts
    (subst (λ ps. ArePosts pool lane (v.own.notes ++ e ∷ []) ps.items) (sym ends.0)
    (posts_after_own pool lane v.own.notes old.posts.items to number v.own.number parcel none
    (posts_of pool old seat)))
    (subst (λ ps. AreFetches pool lane (v.own.notes ++ e ∷ []) ps.items) (sym ends.1)
    (fetches_after_post pool lane v.own.notes old.fetches.items to number v.own.number parcel
    (fetches_of pool old seat)))

-- a seat that received one
pub received_own : (pool : SharedPool) (old new : PoolSeat) (from number : ℕ) (parcel : Parcel) → IsPoolSeat pool old
    → SameSeat old new → (new.posts ≡ old.posts) × (new.fetches ≡ old.fetches)
    → IsFetched old new from number parcel → CountsOne (view_of new) → AtMail pool from (lane_of old) (λ m. m.room ≡ 0)
    → IsPoolSeat pool new
received_own pool old new from number parcel seat same ends fetched counts none =
    let v = view_of old in let lane = lane_of old in
    let e : Entry = fetch_entry from lane number v.own.number parcel in
    with_note pool old new e v.turns seat same fetched.noted counts
    (subst (λ ps. ArePosts pool lane (v.own.notes ++ e ∷ []) ps.items) (sym ends.0)
    (posts_after_fetch pool lane v.own.notes old.posts.items from number v.own.number parcel
    (posts_of pool old seat)))
    (subst (λ ps. AreFetches pool lane (v.own.notes ++ e ∷ []) ps.items) (sym ends.1)
    (fetches_after_own pool lane v.own.notes old.fetches.items from number v.own.number parcel none
    (fetches_of pool old seat)))

-- a view with one letter has no other
pub only_letter : (w : SeatView) (x y : Letter) → w ≡ letter_view w.setting x → w ≡ letter_view w.setting y → x ≡ y
only_letter w x y a b = let e : x ∷ [] ≡ y ∷ [] = ap (λ (v : SeatView). v.letters) (sym a ∙ b) in cc

-- what a seat that receives a letter notes
pub is_fetched : (old new : PoolSeat) (x : Letter) → x.to ≡ lane_of old
    → (view_of old).own.number ≡ Some (lane_of old)
    → x.number ≡ received_on x.from (lane_of old) (view_of old).own.notes + 1
    → HasView new (receives (view_of old) x) → IsFetched old new x.from x.number x.parcel
is_fetched old new x to number next has =
    record {
      number_is = next;
      noted =
          subst (λ (e : Entry). HasView new (with_entry (view_of old) e (view_of old).turns))
          (λ i. At (MailOf x.from (to i)) x.number (noted_by (lane i) (plain (Did.Fetch x.parcel)))) has;
    }
  where
    lane : Some x.to ≡ (view_of old).own.number
    lane = ap Some to ∙ sym number

-- a view of an end is that of a sender, and that of a receiver
is_sender : (e : KnownEnds) (t : TableId) (f o r n : ℕ) → e ≡ sender t f o r n → IsSender e
is_sender e t f o r n is = is ∙ (λ i. let s = sym is i in sender s.table s.from s.to s.room s.sent)

is_receiver : (e : KnownEnds) (t : TableId) (f o r n : ℕ) → e ≡ receiver t f o r n → IsReceiver e
is_receiver e t f o r n is = is ∙ (λ i. let s = sym is i in receiver s.table s.from s.to s.room s.received)

lane_same : (o : Option ℕ) → lane_of_number o ≡ unwrap_or o 0
lane_same (Some lane) = refl
lane_same None = refl

-- a post to a mail with room
module _ (pool : SharedPool) (old : PoolSeat) (seat : IsPoolSeat pool old) (to : ℕ)
    (below : to < pool.table.layout.shape.lanes) (m : Mail) (l : ℕ) (lane : l ≡ lane_of old)
    (here : Some m ≡ slice_get pool.mails.items (l * pool.table.layout.shape.lanes + to))
    (room : HasRoom pool (lane_of old) to (view_of old)) where
  at_post : Some m ≡ slice_get pool.mails.items (lane_of old * pool.table.layout.shape.lanes + to)
  at_post =
      subst (λ (k : ℕ). Some m ≡ slice_get pool.mails.items (k * pool.table.layout.shape.lanes + to)) lane here

  abbrev sent : ℕ
  sent = sent_on (lane_of old) to (view_of old).own.notes

  pub fewer : sent < m.room
  fewer = at_mail pool (lane_of old) to (λ k. sent < k.room) m at_post room

  pub few : sent < 4611686018427387904
  few = let a = fewer in let b = m.capacity in let l = m.queue.sized.2 in omega (arith, a, b, l.2, l.3)

  pub post_within : to < length old.posts.items
  post_within =
      has_post pool (lane_of old) to (view_of old).own.notes old.posts.items m at_post below (posts_of pool old seat)

  -- the pass of that mail
  module _ (pass : Pass PostedLetter KnownEnds) (is : pass ≡ get_or old.posts.items to pass) where
    known : IsPassOf m.queue pass × (view pass ≡ sender (table_of pool) (lane_of old) to m.room sent)
    known =
        let end = posts_at pool (lane_of old) to (view_of old).own.notes (view_of old).own.notes pass m at_post
        (subst (IsPostsEnd pool (lane_of old) to (view_of old).own.notes) (sym is)
        (posts_of pool old seat to below pass))
        in (
          end.0,
          end.1
              ∙ ap (sender (table_of pool) (lane_of old) to m.room)
              (carried-all m sent (let a = fewer in omega (arith, a))),
        )

    pub may_push : IsPassOf m.queue pass × IsSender (view pass)
    may_push = (known.0, is_sender (view pass) (table_of pool) (lane_of old) to m.room sent known.1)

    pub push_room : (view pass).sent < (view pass).room
    push_room = subst (λ (e : KnownEnds). e.sent < e.room) (sym known.1) fewer

    pub push_capacity : (view pass).room ≤ ruled_capacity m.queue
    push_capacity = subst (λ (e : KnownEnds). e.room ≤ ruled_capacity m.queue) (sym known.1) m.capacity

    pub push_letter : (p : PostedLetter) (parcel : Parcel) → p.table ≡ table_of pool
        → p.letter ≡ next_letter to parcel (view_of old) → IsNextSent (view pass) p
    push_letter p parcel table letter =
        subst
        (λ (e : KnownEnds). IsNextSent e p) (sym known.1)
        (record {
          table_is = table;
          from_is = ap (λ (x : Letter). x.from) letter ∙ lane_same (view_of old).own.number;
          to_is = ap (λ (x : Letter). x.to) letter;
          number_is =
              ap (λ (x : Letter). x.number) letter
              ∙ ap (λ (k : ℕ). sent_on k to (view_of old).own.notes + 1) (lane_same (view_of old).own.number);
        })

    -- the seat after it
    pub posted_seat : (mid new : PoolSeat) (number : ℕ) (parcel : Parcel) (next : Pass PostedLetter KnownEnds)
        → SameSeat old mid → (mid.posts ≡ old.posts) × (mid.fetches ≡ old.fetches) → IsPosted old mid to number parcel
        → CountsOne (view_of mid) → IsPassOf m.queue next × (view next ≡ one_sent (view pass)) → new.seat ≡ mid.seat
        → new.posts.items ≡ set mid.posts.items to next → new.fetches ≡ mid.fetches → IsPoolSeat pool new
    posted_seat mid new number parcel next same ends posted counts knows seat_is posts_is fetches_is =
        let v = view_of old in let lane = lane_of old in
        let e : Entry = post_entry lane to number v.own.number parcel in let es : List Entry = v.own.notes ++ e ∷ [] in
        let more : sent_on lane to es ≡ sent + 1 = posted_here lane to number v.own.number parcel v.own.notes in
        let few : sent < m.room = fewer in
        let end : IsPostsEnd pool lane to es next =
        posts_end pool lane to es es next m at_post knows.0
        (knows.1 ∙ ap one_sent known.1
        ∙ ap (sender (table_of pool) lane to m.room)
        (sym (carried-all m (sent_on lane to es) (omega (arith, few)) ∙ more))) in
        with_note pool old new e v.turns seat
        (ap (λ s. s.seat.table_id) seat_is ∙ same.0, ap (λ s. s.seat.id) seat_is ∙ same.1)
        (ap (λ s. s.seat.me) seat_is ∙ posted.noted) (subst (λ s. CountsOne s.seat.me.0) (sym seat_is) counts)
        (subst (ArePosts pool lane es) (sym (posts_is ∙ ap (λ ps. set ps.items to next) ends.0))
        (posts_after pool lane v.own.notes old.posts.items to number v.own.number parcel next post_within end
        (posts_of pool old seat)))
        (subst (λ ps. AreFetches pool lane es ps.items) (sym (fetches_is ∙ ends.1))
        (fetches_after_post pool lane v.own.notes old.fetches.items to number v.own.number parcel
        (fetches_of pool old seat)))

-- a fetch from a mail
module _ (pool : SharedPool) (old : PoolSeat) (seat : IsPoolSeat pool old) (from : ℕ)
    (below : from < pool.table.layout.shape.lanes) (m : Mail) (l : ℕ) (lane : l ≡ lane_of old)
    (here : Some m ≡ slice_get pool.mails.items (from * pool.table.layout.shape.lanes + l)) where
  at_fetch : Some m ≡ slice_get pool.mails.items (from * pool.table.layout.shape.lanes + lane_of old)
  at_fetch =
      subst (λ (k : ℕ). Some m ≡ slice_get pool.mails.items (from * pool.table.layout.shape.lanes + k)) lane here

  abbrev received : ℕ
  received = received_on from (lane_of old) (view_of old).own.notes

  pub fetch_within : from < length old.fetches.items
  fetch_within =
      has_fetch pool from (lane_of old) (view_of old).own.notes old.fetches.items m at_fetch below
      (fetches_of pool old seat)

  module _ (pass : Pass PostedLetter KnownEnds) (is : pass ≡ get_or old.fetches.items from pass) where
    knows : IsPassOf m.queue pass
        × (view pass ≡ receiver (table_of pool) from (lane_of old) m.room (carried m received))
    knows =
        fetches_at pool from (lane_of old) (view_of old).own.notes (view_of old).own.notes pass m at_fetch
        (subst (IsFetchesEnd pool from (lane_of old) (view_of old).own.notes) (sym is)
        (fetches_of pool old seat from below pass))

    pub may_pop : IsPassOf m.queue pass × IsReceiver (view pass)
    may_pop = (knows.0, is_receiver (view pass) (table_of pool) from (lane_of old) m.room (carried m received) knows.1)

    -- where none comes
    pub empty_seat : (new : PoolSeat) (next : Pass PostedLetter KnownEnds) → IsPassOf m.queue next
        → view next ≡ view pass → new.seat ≡ old.seat → new.posts ≡ old.posts
        → new.fetches.items ≡ set old.fetches.items from next → IsPoolSeat pool new
    empty_seat new next of same seat_is posts_is fetches_is =
        let notes = (view_of old).own.notes in
        with_fetches pool old new seat seat_is posts_is
        (subst (AreFetches pool (lane_of old) notes) (sym fetches_is)
        (fetches_set pool (lane_of old) notes old.fetches.items from next fetch_within
        (fetches_end pool from (lane_of old) notes notes next m at_fetch of (same ∙ knows.1))
        (fetches_of pool old seat)))

    pub drained : Stood Carries (view pass) [] → IsDrained from old
    drained stood d =
        subst (λ (p : Pass PostedLetter KnownEnds). Stood Carries (view p) [])
        (is ∙ get_or_default old.fetches.items from pass d fetch_within) stood

    -- where one comes
    module _ (p : PostedLetter) (next : Pass PostedLetter KnownEnds) (got : Received (view pass) p (view next)) where
      some_room : 0 < m.room
      some_room =
          let lt = subst (λ (e : KnownEnds). e.received < e.room) knows.1 got.below in omega (arith, lt)

      counted : view pass ≡ receiver (table_of pool) from (lane_of old) m.room received
      counted =
          knows.1 ∙ ap (receiver (table_of pool) from (lane_of old) m.room) (carried-all m received some_room)

      pub is_next : IsLetter (table_of pool) from (lane_of old) (received + 1) p
      is_next = subst (λ (e : KnownEnds). IsNextReceived e p) counted got.next

      pub may_receive : (w : SeatView) → w ≡ letter_view w.setting p.letter → MayReceive (view_of old) w
      may_receive w alone =
          record {
            letter = p.letter;
            alone = alone;
            lane = numbered pool old seat ∙ ap Some (sym is_next.to_is);
            next =
                is_next.number_is
                ∙ (λ i. received_on (sym is_next.from_is i) (sym is_next.to_is i) (view_of old).own.notes + 1);
          }

      -- what it notes
      pub noted_fetch : (new : PoolSeat) (w : SeatView) (x : Letter) → w ≡ letter_view w.setting p.letter
          → w ≡ letter_view w.setting x → HasView new (receives (view_of old) x)
          → IsFetched old new from x.number x.parcel
      noted_fetch new w x alone came has =
          let same : p.letter ≡ x = only_letter w p.letter x alone came in
          let from_is : x.from ≡ from = ap (λ (y : Letter). y.from) (sym same) ∙ is_next.from_is in
          let number_is : x.number ≡ received + 1 = ap (λ (y : Letter). y.number) (sym same) ∙ is_next.number_is in
          subst (λ (f : ℕ). IsFetched old new f x.number x.parcel) from_is
          (is_fetched old new x (ap (λ (y : Letter). y.to) (sym same) ∙ is_next.to_is) (numbered pool old seat)
          (number_is ∙ ap (λ (f : ℕ). received_on f (lane_of old) (view_of old).own.notes + 1) (sym from_is)) has)

      -- and the seat after it
      pub fetched_seat : (new : PoolSeat) (number : ℕ) (parcel : Parcel) → SameSeat old new → IsPassOf m.queue next
          → IsFetched old new from number parcel → CountsOne (view_of new) → new.posts ≡ old.posts
          → new.fetches.items ≡ set old.fetches.items from next → IsPoolSeat pool new
      fetched_seat new number parcel same of fetched counts posts_is fetches_is =
          let v = view_of old in let lane = lane_of old in
          let e : Entry = fetch_entry from lane number v.own.number parcel in
          let es : List Entry = v.own.notes ++ e ∷ [] in
          let more : received_on from lane es ≡ received + 1 =
          fetched_here from lane number v.own.number parcel v.own.notes in
          let end : IsFetchesEnd pool from lane es next =
          fetches_end pool from lane es es next m at_fetch of
          (got.one_more ∙ ap one_received counted
          ∙ ap (receiver (table_of pool) from lane m.room)
          (sym (carried-all m (received_on from lane es) some_room ∙ more))) in
          with_note pool old new e v.turns seat same fetched.noted counts
          (subst (λ ps. ArePosts pool lane es ps.items) (sym posts_is)
          (posts_after_fetch pool lane v.own.notes old.posts.items from number v.own.number parcel
          (posts_of pool old seat)))
          (subst (AreFetches pool lane es) (sym fetches_is)
          (fetches_after pool lane v.own.notes old.fetches.items from number v.own.number parcel next fetch_within end
          (fetches_of pool old seat)))
