-- A thread of a pool, once a call has changed its seat and its account.
use Rattle.std.proofs.Common.{◌≡◌, ℕ, ◌+◌, ◌-◌, ◌^◌, ◌<◌, ◌≤◌, max, Bool, true, false, [], ◌∷◌, length, Option, Some, refl, sym, ap, ◌∙◌, subst, ⊎_elim, arith}
use Rattle.std.specs.Prelude.{if◌then◌else◌, slice_get}
use Rattle.std.proofs.Math.Nat.{le-max_left}
use Rattle.std.proofs.lemmas.Bool.{cases_Bool}
use Rattle.pool_law.specs.declared.id.RootId.{RootId}
use Rattle.pool_law.specs.Capacities.{known_of}
use Rattle.pool_table.specs.Capacities.{knows_of}
use Rattle.pool_table.specs.Counts.{gained_of, lost_of, HasCount}
use Rattle.pool_table.specs.LaneLogs.{lane_entries}
use Rattle.pool_table.specs.Lone.{IsLone}
use Rattle.pool_table.specs.Letters.{received_on, sent_on}
use Rattle.pool_table.specs.declared.views.SeatView.{SeatView}
use Rattle.shared_pool.specs.declared.pool.SharedPool.{SharedPool}
use Rattle.shared_pool.specs.declared.seat.PoolSeat.{PoolSeat}
use Rattle.shared_pool.specs.SeatViews.{view_of}
use Rattle.shared_pool.specs.Seats.{IsPoolSeat}
use Rattle.pool_law.proofs.SameLemmas.{same_root-is}
use Rattle.pool_law.specs.Same.{same_root}
use Rattle.seat_work.specs.Changes.{Change, Changes, one_for, times}
use Rattle.seat_work.specs.Hands.{empty_hand}
use Rattle.seat_work.specs.Works.{Works, Goes}
use Rattle.seat_work.proofs.Proceeding.{works_same}
use Rattle.pool_member.specs.declared.account.Account.{Account}
use Rattle.pool_member.specs.declared.member.Member.{Member}
use Rattle.pool_member.specs.declared.pending.Pending.{Pending}
use Rattle.pool_member.specs.Alone.{KeepsAlone}
use Rattle.pool_member.specs.Counting.{counted, is_alone, known, told}
use Rattle.pool_member.specs.Pendings.{hand_of, nothing, owed, IsPending}
use Rattle.pool_member.specs.Refusals.{is_here}
use Rattle.pool_member.specs.Threads.{Does, HasChanged, IsSettled, IsThread, KeepsOwn}
use Rattle.pool_member.specs.Windows.{HasPlace, Window}
use Rattle.pool_member.proofs.Alone.{keeps, Stays}
use Rattle.pool_member.proofs.CountLaws.{counted_within}
use Rattle.pool_member.proofs.Letters.{KeepsLetters}
use Rattle.pool_member.proofs.Pendings.{pending_stays}

-- the account took so many turns, and counts what changed, each count for a turn at least
pub record Spends (c : Change) (cost : ℕ) (a b : Account) : Type 0 where
  pub lane : b.lane ≡ a.lane
  pub turns : b.turns + cost ≡ a.turns
  pub counts : (root : RootId) → counted b.counts root + times root c.gone ≡ counted a.counts root + times root c.got
  pub few : (root : RootId) → times root c.got ≤ cost
  pub keeps : (root : RootId) → 0 < counted b.counts root → known a.counts root ≤ known b.counts root
  pub places : length b.counts ≡ length a.counts
  pub owns : KeepsOwn c a b

-- ---- What accounts spend.

one_most : (b : Bool) → (if b then 1 else 0) ≤ 1
one_most true = omega arith
one_most false = omega arith

pub times_one : (root other : RootId) → times other (root ∷ []) ≡ one_for root other
times_one root other = omega arith

-- a root that isn't given up is another one than that which is
pub not_gone : (root other : RootId) → times other (root ∷ []) ≡ 0 → same_root root other ≡ false
not_gone root other none = ⊎_elim
    (λ (t : same_root root other ≡ true).
    (let a : one_for root other ≡ 1 = ap (λ (b : Bool). if b then 1 else 0) t in
    let b = times_one root other in absurd (omega (arith, a, b, none))))
    (λ (f : same_root root other ≡ false). f)
    (cases_Bool (same_root root other))

-- what was told of a root is no more than a view knows, where that is so of what was told last
pub tell_known : (v : SeatView) (root other : RootId) (capacity a b : ℕ)
    → b ≡ max a (if same_root root other then capacity else 0) → a ≤ knows_of other v → capacity ≤ knows_of root v
    → b ≤ knows_of other v
tell_known v root other capacity a b is known last = go (same_root root other) refl is
  where
    go : (t : Bool) → same_root root other ≡ t → b ≡ max a (if t then capacity else 0) → b ≤ knows_of other v
    go true same is =
        let w : ℕ = knows_of other v in let known' : a ≤ w = known in
        let last' : capacity ≤ w =
        subst (λ (r : RootId). capacity ≤ knows_of r v) (same_root-is root other same) last in
        let g : b ≤ w = omega (arith, is, known', last') in
        g
    go false apart is =
        let w : ℕ = knows_of other v in let known' : a ≤ w = known in let g : b ≤ w = omega (arith, is, known') in g

module _ (c : Change) (cost : ℕ) (a b : Account) (lane : b.lane ≡ a.lane) (turns : b.turns + cost ≡ a.turns)
    (places : length b.counts ≡ length a.counts) where
  -- a root is counted once more
  pub spends_more : (root : RootId) → 0 < cost → ((other : RootId) → times other c.got ≡ one_for root other)
      → ((other : RootId) → times other c.gone ≡ 0)
      → ((other : RootId) → counted b.counts other ≡ counted a.counts other + one_for root other)
      → ((other : RootId) → 0 < counted b.counts other → known a.counts other ≤ known b.counts other)
      → ((other : RootId) → 0 < counted a.counts other → is_alone a.counts other ≡ true
      → is_alone b.counts other ≡ true) → Spends c cost a b
  spends_more root some got gone counts keeps owns = record {
    lane = lane;
    turns = turns;
    counts = λ other. (let p = counts other in let q = got other in let r = gone other in omega (arith, p, q, r));
    few = λ other. (let p = one_most (same_root root other) in let q = got other in omega (arith, p, q, some));
    keeps = keeps;
    places = places;
    owns = λ other lt none. owns other lt;
  }

  -- it is counted once less
  pub spends_less : (root : RootId) → ((other : RootId) → times other c.got ≡ 0)
      → ((other : RootId) → times other c.gone ≡ one_for root other)
      → ((other : RootId) → counted b.counts other + one_for root other ≡ counted a.counts other)
      → ((other : RootId) → told b.counts other ≡ told a.counts other)
      → ((other : RootId) → times other c.gone ≡ 0 → is_alone a.counts other ≡ true
      → is_alone b.counts other ≡ true) → Spends c cost a b
  spends_less root got gone counts same owns = record {
    lane = lane;
    turns = turns;
    counts = λ other. (let p = counts other in let q = got other in let r = gone other in omega (arith, p, q, r));
    few = λ other. (let q = got other in omega (arith, q));
    keeps = λ other lt. (let p = same other in omega (arith, p));
    places = places;
    owns = λ other lt. owns other;
  }

  -- all counts are as they were, and no less was told
  pub spends_none : ((other : RootId) → times other c.got ≡ 0) → ((other : RootId) → times other c.gone ≡ 0)
      → ((other : RootId) → counted b.counts other ≡ counted a.counts other)
      → ((other : RootId) → told a.counts other ≤ told b.counts other)
      → ((other : RootId) → is_alone a.counts other ≡ true → is_alone b.counts other ≡ true) → Spends c cost a b
  spends_none got gone same keeps owns = record {
    lane = lane;
    turns = turns;
    counts =
        λ other. (let p = same other in let q = got other in let r = gone other in omega (arith, p, q, r));
    few = λ other. (let q = got other in omega (arith, q));
    keeps = λ other lt. (let p = keeps other in omega (arith, p));
    places = places;
    owns = λ other lt none. owns other;
  }

-- ---- What threads keep.

module _ (pool : SharedPool) (c : Change) (t m cost : ℕ) (old new : Member) (is : IsThread pool old)
    (goes : Goes pool (hand_of new.pending) t m old.seat new.seat)
    (changes : Changes c (view_of old.seat) (view_of new.seat))
    (spends : Spends c cost old.account new.account) where
  abbrev a : Account
  a = old.account

  abbrev b : Account
  b = new.account

  changed : (but : Option RootId) → KeepsAlone but old new → HasChanged cost c but old new
  changed but alone = record {
    number = spends.lane;
    spent = spends.turns;
    counts = spends.counts;
    notes = changes;
    knows = spends.keeps;
    alone = alone;
    owns = spends.owns;
  }

  -- no more than the seat knows, where no more was told
  pub tells_known : ((root : RootId) → told b.counts root ≤ told a.counts root) → (root : RootId)
      → told b.counts root ≤ knows_of root (view_of new.seat)
  tells_known less root =
      let p = less root in let q = is.knows root in let r = goes.knows root in
      let x : ℕ = knows_of root (view_of old.seat) in let y : ℕ = knows_of root (view_of new.seat) in
      let q' : told a.counts root ≤ x = q in let r' : x ≤ y = r in
      let g : told b.counts root ≤ y = omega (arith, p, q', r') in
      g

  still_counts : (root : RootId) →
      counted b.counts root + lost_of root (view_of new.seat) ≡ gained_of root (view_of new.seat)
  still_counts root =
      let p = is.counts root in let q = spends.counts root in let r = changes.counts root in omega (arith, p, q, r)

  -- each root that is kept as its own alone is so
  abbrev Owns : Type 0
  Owns = (root : RootId) → is_alone b.counts root ≡ true → IsLone root (view_of new.seat)

  module _ (knows : (root : RootId) → told b.counts root ≤ knows_of root (view_of new.seat))
      (enough : t + owed new.pending ≤ cost + owed old.pending) (moves : b.moves ≤ (view_of new.seat).moves)
      (pending : IsPending pool new.seat new.pending) where
    thread : ((to : ℕ) → sent_on a.lane to (view_of new.seat).own.notes
        ≤ cost + sent_on a.lane to (view_of old.seat).own.notes)
        → ((from : ℕ) → from < pool.table.layout.shape.lanes →
        slice_get b.received.items from ≡ Some (received_on from a.lane (view_of new.seat).own.notes))
        → Owns → IsThread pool new
    thread sent received owns = record {
      works = record {
        seat = goes.seat;
        held = goes.held;
        paid = goes.paid;
        turns_left =
            (let p = is.works.turns_left in let q = goes.turns_left in let r = spends.turns in
            omega (arith, p, q, r, enough));
        moves_left = moves;
      };
      pending = pending;
      number = goes.number ∙ is.number ∙ ap (λ (n : ℕ). Some n) (sym spends.lane);
      counts = still_counts;
      knows = knows;
      alone = owns;
      places = spends.places ∙ is.places;
      few =
          λ root.
          (let p = is.few root in let q = spends.counts root in let r = spends.few root in let u = spends.turns in
          omega (arith, p, q, r, u));
      sent =
          λ to.
          subst (λ (lane : ℕ). sent_on lane to (view_of new.seat).own.notes + b.turns ≤ 2 ^ 62) (sym spends.lane)
          (let p = is.sent to in let q = sent to in let r = spends.turns in omega (arith, p, q, r));
      received =
          λ from lt.
          subst (λ (lane : ℕ). slice_get b.received.items from
          ≡ Some (received_on from lane (view_of new.seat).own.notes)) (sym spends.lane) (received from lt);
    }

    -- whatever letters it sent and received
    pub kept_by : ((to : ℕ) → sent_on a.lane to (view_of new.seat).own.notes
        ≤ cost + sent_on a.lane to (view_of old.seat).own.notes)
        → ((from : ℕ) → from < pool.table.layout.shape.lanes →
        slice_get b.received.items from ≡ Some (received_on from a.lane (view_of new.seat).own.notes))
        → (but : Option RootId) → KeepsAlone but old new → Owns → Does pool cost c but old new
    kept_by sent received but alone owns = record {
      changed = changed but alone;
      thread = thread sent received owns;
    }

    -- where there were none
    pub kept_on : KeepsLetters old.seat new.seat → b.received ≡ a.received → (but : Option RootId)
        → Stays but old.seat new.seat
        → ((root : RootId) → is_alone b.counts root ≡ true → is_alone a.counts root ≡ true)
        → Does pool cost c but old new
    kept_on letters same but stays less =
        kept_by (λ to. (let p = letters.sent a.lane to in omega (arith, p)))
        (λ from lt.
        ap (λ v. slice_get v.items from) same ∙ is.received from lt
        ∙ ap (λ (n : ℕ). Some n) (sym (letters.received from a.lane))) but (keeps but old new stays)
        (λ root kept. stays.alone root (is.alone root (less root kept)))

-- the same where there was nothing to put away, and still isn't
module _ (pool : SharedPool) (c : Change) (t m cost : ℕ) (old new : Member) (is : IsThread pool old)
    (settled : IsSettled old) (same : new.pending ≡ old.pending) (goes : Goes pool empty_hand t m old.seat new.seat)
    (changes : Changes c (view_of old.seat) (view_of new.seat)) (spends : Spends c cost old.account new.account) where
  none : nothing ≡ new.pending
  none = sym (same ∙ settled)

  goes_so : Goes pool (hand_of new.pending) t m old.seat new.seat
  goes_so = subst (λ (p : Pending). Goes pool (hand_of p) t m old.seat new.seat) none goes

  pub tells_settled : ((root : RootId) → told new.account.counts root ≤ told old.account.counts root)
      → (root : RootId) → told new.account.counts root ≤ knows_of root (view_of new.seat)
  tells_settled = tells_known pool c t m cost old new is goes_so changes spends

  pub settled_on : ((root : RootId) → told new.account.counts root ≤ knows_of root (view_of new.seat)) → t ≤ cost
      → new.account.moves ≤ (view_of new.seat).moves → KeepsLetters old.seat new.seat
      → new.account.received ≡ old.account.received → (but : Option RootId) → Stays but old.seat new.seat
      → ((root : RootId) → is_alone new.account.counts root ≡ true → is_alone old.account.counts root ≡ true)
      → Does pool cost c but old new
  settled_on knows enough moves =
      kept_on pool c t m cost old new is goes_so changes spends knows
      (let a = ap owed same in omega (arith, a, enough)) moves (subst (IsPending pool new.seat) none tt)

module _ (pool : SharedPool) (m : Member) (is : IsThread pool m) where
  -- it is a thread still where its seat knows what it knew
  pub still_thread : (mid : PoolSeat) → IsPoolSeat pool mid → view_of mid ≡ view_of m.seat
      → IsThread pool (record m { seat = mid })
  still_thread mid seat same = record {
    works =
        works_same pool (hand_of m.pending) (m.account.turns + owed m.pending) m.account.moves m.seat mid seat same
        is.works;
    pending = pending_stays pool m.pending m.seat mid (ap (λ (v : SeatView). v.setting) same) is.pending;
    number = ap (λ (v : SeatView). v.own.number) same ∙ is.number;
    counts =
        λ root.
        subst (λ (v : SeatView). counted m.account.counts root + lost_of root v ≡ gained_of root v) (sym same)
        (is.counts root);
    knows = λ root. subst (λ (v : SeatView). told m.account.counts root ≤ knows_of root v) (sym same) (is.knows root);
    alone = λ root kept. subst (λ (v : SeatView). IsLone root v) (sym same) (is.alone root kept);
    places = is.places;
    few = is.few;
    sent =
        λ to.
        subst (λ (v : SeatView). sent_on m.account.lane to v.own.notes + m.account.turns ≤ 2 ^ 62) (sym same)
        (is.sent to);
    received =
        λ from lt.
        is.received from lt
        ∙ ap (λ (v : SeatView). Some (received_on from m.account.lane v.own.notes)) (sym same);
  }

  -- it may work for less than it has left
  pub may_work : (t n : ℕ) → t ≤ m.account.turns → n ≤ m.account.moves → Works pool (hand_of m.pending) t n m.seat
  may_work t n le lf = record {
    seat = is.works.seat;
    held = is.works.held;
    paid = is.works.paid;
    turns_left = (let a = is.works.turns_left in omega (arith, a, le));
    moves_left = (let a = is.works.moves_left in omega (arith, a, lf));
  }

  -- a thread that has nothing to put away has nothing in hand
  pub may_begin : (t n : ℕ) → IsSettled m → t ≤ m.account.turns → n ≤ m.account.moves → Works pool empty_hand t n m.seat
  may_begin t n settled le lf = subst (λ (p : Pending). Works pool (hand_of p) t n m.seat) settled (may_work t n le lf)

  -- it may go on with what it has to put away
  pub may_finish : Works pool (hand_of m.pending) (owed m.pending) 0 m.seat
  may_finish = record {
    seat = is.works.seat;
    held = is.works.held;
    paid = is.works.paid;
    turns_left = (let a = is.works.turns_left in omega (arith, a));
    moves_left = omega arith;
  }

  -- a root is counted exactly where the account says so
  pub has_count : (root : RootId) → 0 < counted m.account.counts root → HasCount root (view_of m.seat)
  has_count root lt = let a = is.counts root in omega (arith, a, lt)

  -- a root that the seat counts then is the only one of its place that the account has
  pub alone_at : (root : RootId) (c : Change) (new : PoolSeat) → IsPoolSeat pool new
      → Changes c (view_of m.seat) (view_of new) → ((other : RootId) → times other c.gone ≡ 0)
      → HasCount root (view_of new) → (other : RootId) → other.place ≡ root.place
      → 0 < counted m.account.counts other → other ≡ root
  alone_at root c new seat changes none has other at lt =
      let still : HasCount other (view_of new) =
      (let p = changes.counts other in let q = has_count other lt in let r = none other in omega (arith, p, q, r)) in
      seat.counts.one other root still has at

  -- its seat knows of as much capacity as it does
  pub knows_too : (root : RootId) (n : ℕ) → n ≤ known m.account.counts root → n ≤ knows_of root (view_of m.seat)
  knows_too root n le =
      let p = is.knows root in let c : ℕ = knows_of root (view_of m.seat) in
      let q : root.capacity ≤ c = le-max_left root.capacity (known_of root (lane_entries (view_of m.seat))) in
      let p' : told m.account.counts root ≤ c = p in let g : n ≤ c = omega (arith, le, p', q) in
      g

  -- it can be counted once more
  pub few_of : (root : RootId) → counted m.account.counts root < 2 ^ 64 - 1
  few_of root = let a = is.few root in omega (arith, a)

-- the root of a buffer that a thread has is at one of the pool's places
pub here_placed : (pool : SharedPool) (m : Member) (w : Window) → IsThread pool m → is_here m.account w ≡ true
    → HasPlace pool w.at.root
here_placed pool m w is here =
    let lt : 0 < counted m.account.counts w.at.root = grind (arith, here) in
    let a = counted_within m.account.counts w.at.root lt in let b = is.places in omega (arith, a, b)
