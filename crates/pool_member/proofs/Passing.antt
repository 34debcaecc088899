-- A thread that parted with a root, and one that accepted one.
use Rattle.std.proofs.Common.{◌≡◌, ◌≢◌, ℕ, ◌+◌, ◌^◌, ◌<◌, ◌≤◌, List, [], ◌∷◌, ◌++◌, length, Option, Some, sym, ap, ◌∙◌, subst, ⊎_elim, arith}
use Rattle.std.specs.Prelude.{slice_get, slice_set, unwrap_or}
use Rattle.std.proofs.lemmas.Bool.{cases_eq}
use Rattle.std.proofs.lemmas.List.Sums.{sum_by_push}
use Rattle.pool_law.proofs.ListLemmas.{slice_get-set_same, slice_get-set_other, slice_get-below}
use Rattle.pool_law.specs.declared.id.Parcel.{Parcel}
use Rattle.pool_table.specs.declared.views.Entry.{Entry}
use Rattle.pool_table.specs.declared.views.Letter.{Letter}
use Rattle.pool_table.specs.Letters as letters
use Rattle.pool_table.specs.Letters.{is_on_way, received_as, received_on, sent_as, sent_on}
use Rattle.shared_pool.proofs.MailWays.{fetch_entry, fetched_here, post_entry, other_from}
use Rattle.shared_pool.specs.declared.pool.SharedPool.{SharedPool}
use Rattle.shared_pool.specs.declared.seat.PoolSeat.{PoolSeat}
use Rattle.shared_pool.specs.MailAnswers.{HasOwnChannel, IsFetched, IsPosted}
use Rattle.shared_pool.specs.SeatLanes.{lane_of}
use Rattle.shared_pool.specs.SeatViews.{view_of}
use Rattle.seat_work.specs.HandOvers.{Sends}
use Rattle.pool_member.specs.declared.member.Member.{Member}
use Rattle.pool_member.specs.Refusals.{MayAccept}
use Rattle.pool_member.specs.Threads.{HasOwnChannels, IsThread}

module _ (from to number : ℕ) (lane : Option ℕ) (parcel : Parcel) (es : List Entry) where
  fetched_else : (other : ℕ) → from ≢ other
      → received_on other to (es ++ fetch_entry from to number lane parcel ∷ []) ≡ received_on other to es
  fetched_else other apart =
      let a = sum_by_push (received_as (is_on_way other to)) es (fetch_entry from to number lane parcel) in
      let b = other_from from to other apart in omega (arith, a, b)

  fetched_posts : (a b : ℕ) → sent_on a b (es ++ fetch_entry from to number lane parcel ∷ []) ≡ sent_on a b es
  fetched_posts a b =
      let e = sum_by_push (sent_as (is_on_way a b)) es (fetch_entry from to number lane parcel) in omega (arith, e)

module _ (pool : SharedPool) (m : Member) (is : IsThread pool m) where
  -- its lane, which is one of the pool's
  pub lane_is : lane_of m.seat ≡ m.account.lane
  lane_is = ap (λ (n : Option ℕ). unwrap_or n 0) is.number

  pub lane_below : lane_of m.seat < pool.table.layout.shape.lanes
  lane_below =
      let seat = is.works.seat in
      subst (λ (n : ℕ). n < pool.table.layout.shape.lanes) (sym (ap (λ (n : Option ℕ). unwrap_or n 0) seat.number))
      seat.below

  pub sender_below : letters.lane_of (view_of m.seat).own.number < pool.table.layout.shape.lanes
  sender_below =
      let seat = is.works.seat in
      subst (λ (n : Option ℕ). letters.lane_of n < pool.table.layout.shape.lanes) (sym seat.number) seat.below

  -- the letters to a thread go by a channel of the user, and are not too many
  pub own_to : (to : ℕ) → HasOwnChannels pool → to < pool.table.layout.shape.lanes
      → HasOwnChannel pool (lane_of m.seat) to
  own_to to own lt = own (lane_of m.seat) to lane_below lt

  pub few_to : (to : ℕ) → 1 ≤ m.account.turns → sent_on (lane_of m.seat) to (view_of m.seat).own.notes < 2 ^ 62
  few_to to le =
      subst (λ (lane : ℕ). sent_on lane to (view_of m.seat).own.notes < 2 ^ 62) (sym lane_is)
      (let a = is.sent to in omega (arith, a, le))

  module _ (new : PoolSeat) (to number : ℕ) (parcel : Parcel) (noted : IsPosted m.seat new to number parcel) where
    abbrev es : List Entry
    es = (view_of m.seat).own.notes

    notes_are : (view_of new).own.notes
        ≡ es ++ post_entry (lane_of m.seat) to number (view_of m.seat).own.number parcel ∷ []
    notes_are = ap (λ v. v.0.own.notes) noted.noted

    -- none was received by it
    pub still_received : (from : ℕ)
        → received_on from m.account.lane (view_of new).own.notes ≡ received_on from m.account.lane es
    still_received from =
        ap (received_on from m.account.lane) notes_are
        ∙ (let a = sum_by_push (received_as (is_on_way from m.account.lane)) es
        (post_entry (lane_of m.seat) to number (view_of m.seat).own.number parcel) in omega (arith, a))

    -- and at most one was sent
    pub one_sent : Sends 1 (view_of m.seat) (view_of new) → (other : ℕ)
        → sent_on m.account.lane other (view_of new).own.notes ≤ 1 + sent_on m.account.lane other es
    one_sent sends other =
        subst (λ (x : ℕ × ℕ). sent_on x.0 other (view_of new).own.notes ≤ 1 + sent_on x.1 other es)
        (λ i. ((ap (λ (n : Option ℕ). unwrap_or n 0) sends.number ∙ lane_is) i, lane_is i)) (sends.sent other)

-- ---- A letter that comes.

module _ (pool : SharedPool) (m : Member) (is : IsThread pool m) (x : Letter) (may : MayAccept m.account x)
    (from_is : x.from < pool.table.layout.shape.lanes) where
  -- so many came from there before
  pub before_is : may.accepted ≡ received_on x.from m.account.lane (view_of m.seat).own.notes
  before_is = ap (λ (o : Option ℕ). unwrap_or o 0) (sym may.before ∙ is.received x.from from_is)

  pub next_here : x.number ≡ received_on x.from (lane_of m.seat) (view_of m.seat).own.notes + 1
  next_here =
      let a = before_is in let b = may.next in
      let c = ap (λ (lane : ℕ). received_on x.from lane (view_of m.seat).own.notes) (lane_is pool m is) in
      omega (arith, a, b, c)

  pub to_here : x.to ≡ lane_of m.seat
  to_here = may.to ∙ sym (lane_is pool m is)

  pub within : x.from < length m.account.received.items
  within = slice_get-below m.account.received.items x.from may.accepted may.before

  module _ (new : PoolSeat) (number : ℕ) (parcel : Parcel) (noted : IsFetched m.seat new x.from number parcel) where
    abbrev fs : List Entry
    fs = (view_of m.seat).own.notes

    notes_now : (view_of new).own.notes
        ≡ fs ++ fetch_entry x.from m.account.lane number (view_of m.seat).own.number parcel ∷ []
    notes_now =
        ap (λ v. v.0.own.notes) noted.noted
        ∙ ap (λ (lane : ℕ). fs ++ fetch_entry x.from lane number (view_of m.seat).own.number parcel ∷ [])
        (lane_is pool m is)

    -- the numbers by thread are right again with this one
    pub received_now : (from : ℕ) → from < pool.table.layout.shape.lanes
        → slice_get (slice_set m.account.received.items x.from number) from
        ≡ Some (received_on from m.account.lane (view_of new).own.notes)
    received_now from lt = ⊎_elim same other (cases_eq from x.from)
      where
        lane : Option ℕ
        lane = (view_of m.seat).own.number

        here : received_on x.from m.account.lane (view_of new).own.notes
            ≡ received_on x.from m.account.lane fs + 1
        here =
            ap (received_on x.from m.account.lane) notes_now
            ∙ fetched_here x.from m.account.lane number lane parcel fs

        same : from ≡ x.from → slice_get (slice_set m.account.received.items x.from number) from
            ≡ Some (received_on from m.account.lane (view_of new).own.notes)
        same e =
            subst (λ (k : ℕ). slice_get (slice_set m.account.received.items x.from number) k
            ≡ Some (received_on k m.account.lane (view_of new).own.notes)) (sym e)
            (slice_get-set_same m.account.received.items x.from number within
            ∙ ap (λ (n : ℕ). Some n)
            (let a = here in let b = noted.number_is in
            let c = ap (λ (lane : ℕ). received_on x.from lane fs) (lane_is pool m is) in omega (arith, a, b, c)))

        other : (from ≢ x.from) → slice_get (slice_set m.account.received.items x.from number) from
            ≡ Some (received_on from m.account.lane (view_of new).own.notes)
        other apart =
            slice_get-set_other m.account.received.items x.from from number apart ∙ is.received from lt
            ∙ ap (λ (n : ℕ). Some n)
            (sym (ap (received_on from m.account.lane) notes_now
            ∙ fetched_else x.from m.account.lane number lane parcel fs from (λ e. apart (sym e))))

    -- and none was sent by it
    pub none_sent : (to : ℕ) → sent_on m.account.lane to (view_of new).own.notes ≤ 1 + sent_on m.account.lane to fs
    none_sent to =
        let a = ap (sent_on m.account.lane to) notes_now in
        let b = fetched_posts x.from m.account.lane number (view_of m.seat).own.number parcel fs m.account.lane to in
        omega (arith, a, b)
