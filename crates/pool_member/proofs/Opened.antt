-- The threads of a new pool.
use Rattle.std.proofs.Common.{◌≡◌, ℕ, zero, suc, ◌+◌, ◌*◌, ◌^◌, ◌<◌, ◌≤◌, List, [], ◌∷◌, ◌++◌, length, map, Some, refl, sym, ap, ◌∙◌, subst, ⊎_elim, arith}
use Rattle.std.specs.Prelude.{All, option_map, remove, slice_get, slice_index_or}
use Rattle.std.proofs.Math.ListN.{replicate}
use Rattle.std.proofs.Math.Nat.{mul-le-mul_right}
use Rattle.std.proofs.lemmas.List.{length-map}
use Rattle.std.proofs.lemmas.Nat.{mul-add-lt}
use Rattle.std.proofs.lemmas.Option.{get_or_from_slice_get, slice_get-get_or, slice_get-map}
use Rattle.pool_law.proofs.ListLemmas.{slice_get-below}
use Rattle.pool_law.specs.declared.id.RootId.{RootId}
use Rattle.pool_table.specs.declared.views.Entry.{Entry}
use Rattle.pool_table.specs.declared.views.Layout.{Layout}
use Rattle.pool_table.specs.declared.views.SeatView.{SeatView}
use Rattle.pool_table.specs.Counts.{gained_of, lost_of}
use Rattle.pool_table.specs.Letters.{received_on, sent_on}
use Rattle.shared_pool.specs.declared.pool.SharedPool.{SharedPool}
use Rattle.shared_pool.specs.declared.seat.PoolSeat.{PoolSeat}
use Rattle.shared_pool.specs.Opening.{AreOpened, HasRooms, IsOpened}
use Rattle.shared_pool.specs.SeatViews.{view_of}
use Rattle.seat_work.proofs.FirstSeats.{opened_works}
use Rattle.seat_work.proofs.MailRooms.{room_at}
use Rattle.pool_member.specs.declared.account.Account.{Account}
use Rattle.pool_member.specs.declared.member.Member.{Member}
use Rattle.pool_member.specs.Opening.{AreNew, AreNewThreads, ArePaired, IsNew}
use Rattle.pool_member.specs.Pendings.{nothing}
use Rattle.pool_member.specs.Threads.{HasOwnChannels, IsKept, IsSettled}
use Rattle.pool_member.proofs.Lists.{slice_get_pushed}

-- a view with no notes counts nothing
module _ (v : SeatView) (own : v.own.notes ≡ []) (alone : v.others ≡ []) where
  bare : SeatView
  bare = record v { own = record { number = v.own.number; notes = [] }; others = [] }

  bare_is : bare ≡ v
  unfolding bare
  bare_is = λ i. record v { own = record { number = v.own.number; notes = sym own i }; others = sym alone i }

  bare_counts : (root : RootId) → lost_of root bare ≡ gained_of root bare
  unfolding bare
  bare_counts root = refl

  pub no_counts : (root : RootId) → lost_of root v ≡ gained_of root v
  no_counts root = subst (λ w. lost_of root w ≡ gained_of root w) bare_is (bare_counts root)

-- the account of a thread that did nothing is that of its first seat
pub new_kept : (pool : SharedPool) (l : Layout) (k : ℕ) (a : Account) (s : PoolSeat) → pool.table.layout ≡ l
    → l.turns ≤ 2 ^ 62 → IsNew l k a → IsOpened l pool k s → IsKept pool nothing a s
new_kept pool l k a s is le new opened = record {
  works =
      opened_works pool l k (a.turns + 0) a.moves s opened (let b = new.turns in omega (arith, b))
      (let b = new.moves in omega (arith, b));
  pending = tt;
  number = opened.number ∙ ap (λ (n : ℕ). Some n) (sym new.lane_is);
  counts =
      λ root.
      (let b = new.counts root in let c = no_counts (view_of s) opened.notes opened.seat.alone root in
      omega (arith, b, c));
  knows = λ root. (let b = new.untold root in omega (arith, b));
  alone = λ root kept. absurd (cc (sym kept ∙ new.alone root));
  places = subst (λ (x : Layout). length a.counts ≡ x.shape.lanes * x.shape.handles) (sym is) new.places;
  few = λ root. (let b = new.counts root in let c = new.turns in omega (arith, b, c, le));
  sent =
      λ to.
      (let b = ap (λ (es : List Entry). sent_on a.lane to es) opened.notes in let c = new.turns in
      omega (arith, b, c, le));
  received =
      λ from lt.
      new.received from (subst (λ (x : Layout). from < x.shape.lanes) is lt)
      ∙ ap (λ (es : List Entry). Some (received_on from a.lane es)) (sym opened.notes);
}

pub new_paired : (pool : SharedPool) (l : Layout) (mail : List ℕ) (accounts : List Account) (seats : List PoolSeat)
    → pool.table.layout ≡ l → l.turns ≤ 2 ^ 62 → AreNew l accounts → AreOpened l mail pool seats
    → ArePaired pool accounts seats
new_paired pool l mail accounts seats is le new opened = record {
  many = new.many ∙ sym opened.many;
  each = λ k a s at_a at_s.
      new_kept pool l k a s is le (new.each k a at_a)
      (subst (IsOpened l pool k) (get_or_from_slice_get seats k s s at_s)
      (opened.each k (let b = slice_get-below accounts k a at_a in let c = new.many in omega (arith, b, c)) s));
}

-- mails without room leave all letters to channels of the user
pub own_channels : (pool : SharedPool) (l : Layout) (mail : List ℕ) → pool.table.layout ≡ l → HasRooms pool mail
    → ((k : ℕ) → k < l.shape.lanes * l.shape.lanes → slice_get mail k ≡ Some 0) → HasOwnChannels pool
own_channels pool l mail is rooms none from to lt lf =
    let lanes = pool.table.layout.shape.lanes in
    room_at pool mail from to 0 rooms
    (none (from * lanes + to)
    (subst (λ (x : Layout). from * lanes + to < x.shape.lanes * x.shape.lanes) is
    (mul-add-lt from lanes to lanes lt lf)))

-- the seats and accounts behind the first are paired, and the first ones are
pub paired_rest : (pool : SharedPool) (xs : List Account) (ys : List PoolSeat) → ArePaired pool xs ys
    → ArePaired pool (remove xs 0) (remove ys 0)
paired_rest pool [] [] paired = record { many = refl; each = λ k a s at_a at_s. absurd (cc at_a) }
paired_rest pool [] (y ∷ ys) paired = absurd (let a = paired.many in omega (arith, a))
paired_rest pool (x ∷ xs) [] paired = absurd (let a = paired.many in omega (arith, a))
paired_rest pool (x ∷ xs) (y ∷ ys) paired = record {
  many = (let a = paired.many in omega (arith, a));
  each = λ k a s at_a at_s. paired.each (suc k) a s at_a at_s;
}

pub paired_first : (pool : SharedPool) (xs : List Account) (ys : List PoolSeat) → ArePaired pool xs ys
    → 0 < length ys → (a : Account) (s : PoolSeat) → a ≡ slice_index_or xs 0 a → s ≡ slice_index_or ys 0 s
    → IsKept pool nothing a s
paired_first pool xs [] paired some a s first_a first_s = absurd (omega (arith, some))
paired_first pool [] (y ∷ ys) paired some a s first_a first_s = absurd (let b = paired.many in omega (arith, b))
paired_first pool (x ∷ xs) (y ∷ ys) paired some a s first_a first_s =
    paired.each 0 a s (ap (λ b. Some b) (sym first_a)) (ap (λ t. Some t) (sym first_s))

-- one new account more
pub new_pushed : (l : Layout) (xs : List Account) (x : Account) (lane : ℕ) → length xs ≡ lane → IsNew l lane x
    → ((k : ℕ) (a : Account) → slice_get xs k ≡ Some a → IsNew l k a)
    → (k : ℕ) (a : Account) → slice_get (xs ++ x ∷ []) k ≡ Some a → IsNew l k a
new_pushed l xs x lane many new each k a at = ⊎_elim before here (slice_get_pushed xs x a k at)
  where
    before : slice_get xs k ≡ Some a → IsNew l k a
    before e = each k a e

    here : ((k ≡ length xs) × (x ≡ a)) → IsNew l k a
    here e =
        let lane_is : lane ≡ k = (let b = e.0 in omega (arith, b, many)) in
        subst (λ (y : ℕ × Account). IsNew l y.0 y.1) (λ i. (lane_is i, e.1 i)) new

-- no mail has room
zero_at : (n k : ℕ) → k < n → slice_get {X = ℕ} (replicate n 0) k ≡ Some 0
zero_at zero k lt = absurd (omega (arith, lt))
zero_at (suc n) zero lt = refl
zero_at (suc n) (suc k) lt = zero_at n k (omega (arith, lt))

pub all_zero : (n : ℕ) (xs : List ℕ) → xs ≡ replicate n 0 → (k : ℕ) → k < n → slice_get xs k ≡ Some 0
all_zero n xs is k lt = ap (λ ys. slice_get ys k) is ∙ zero_at n k lt

-- no thread has more turns than all of them
pub one_of : (lanes turns : ℕ) → 1 ≤ lanes → lanes * turns < 2 ^ 62 → turns ≤ 2 ^ 62
one_of lanes turns le lt = let a = mul-le-mul_right {m = 1} {n = lanes} turns le in omega (arith, a, lt)

-- what a list has at a place, the list of such parts has there
part_at : {X : Type 0} (f : Member → X) (xs : List Member) (k : ℕ) (m : Member) → slice_get xs k ≡ Some m
    → slice_get (map f xs) k ≡ Some (f m)
part_at f xs k m at = slice_get-map f xs k ∙ ap (λ o. option_map f o) at

-- threads with first seats noted nothing
pub first_unnoted : (l : Layout) (mail : List ℕ) (pool : SharedPool) (seats : List PoolSeat) (members : List Member)
    → map (λ (m : Member). m.seat) members ≡ seats → AreOpened l mail pool seats
    → All (λ (m : Member). (view_of m.seat).own.notes ≡ []) members
first_unnoted l mail pool seats members same opened =
    λ k d lt.
    (let m = slice_index_or members k d in
    let at = part_at (λ (n : Member). n.seat) members k m (slice_get-get_or members k d lt) in
    let seat_at = subst (λ ys. slice_get ys k ≡ Some m.seat) same at in
    let few = ap (λ ys. length ys) same in let many = length-map members (λ (n : Member). n.seat) in
    let seats_many = opened.many in
    (subst (IsOpened l pool k) (get_or_from_slice_get seats k m.seat m.seat seat_at)
    (opened.each k (omega (arith, lt, few, many, seats_many)) m.seat)).notes)

-- threads with new accounts that noted nothing are new
pub new_threads : (l : Layout) (accounts : List Account) (members : List Member)
    → map (λ (m : Member). m.account) members ≡ accounts → AreNew l accounts
    → All (λ (m : Member). (view_of m.seat).own.notes ≡ []) members → All IsSettled members
    → AreNewThreads l members
new_threads l accounts members same new unnoted settled = record {
  many = sym (length-map members (λ (m : Member). m.account)) ∙ ap length same ∙ new.many;
  each = λ k m at.
      new.each k m.account
      (subst (λ ys. slice_get ys k ≡ Some m.account) same
      (part_at (λ (n : Member). n.account) members k m at));
  unnoted = unnoted;
  settled = settled;
}
