-- The threads with which a pool is closed, and those that come back.
use Rattle.std.proofs.Common.{◌≡◌, ℕ, suc, ◌<◌, List, [], ◌∷◌, length, map, get_or, Some, refl, sym, ap, ◌∙◌, subst, arith}
use Rattle.std.specs.Prelude.{All}
use Rattle.std.proofs.lemmas.List.{get_or-map, length-map}
use Rattle.std.proofs.lemmas.Option.{slice_get-get_or}
use Rattle.pool_table.specs.declared.views.Part.{Part}
use Rattle.shared_pool.specs.declared.pool.SharedPool.{SharedPool}
use Rattle.shared_pool.specs.declared.seat.PoolSeat.{PoolSeat}
use Rattle.shared_pool.specs.Seated.{AreDone, IsDone, parts_in}
use Rattle.shared_pool.specs.SeatViews.{view_of}
use Rattle.seat_work.specs.Hands.{IsHeld}
use Rattle.seat_work.proofs.FirstSeats.{has_nothing}
use Rattle.pool_member.specs.declared.member.Member.{Member}
use Rattle.pool_member.specs.declared.pending.Pending.{Pending}
use Rattle.pool_member.specs.Closing.{AreAll, parts_of, records_of}
use Rattle.pool_member.specs.Pendings.{hand_of}
use Rattle.pool_member.specs.Threads.{IsSettled, IsThread}

abbrev pub seat_of : Member → PoolSeat
seat_of m = m.seat

some_member : (ms : List Member) (k : ℕ) → k < length ms → Member
some_member [] k lt = absurd (omega (arith, lt))
some_member (m ∷ ms) k lt = m

-- the seats of all threads, by number, have nothing in hand
module _ (pool : SharedPool) (ms : List Member) (threads : All (IsThread pool) ms) (all : AreAll pool ms)
    (settled : All IsSettled ms) where
  done_at : (lane : ℕ) → lane < length ms → (s : PoolSeat) → IsDone pool lane (get_or (map seat_of ms) lane s)
  done_at lane lt s =
      let d = some_member ms lane lt in let m = get_or ms lane d in let is = threads lane d lt in
      let number : m.account.lane ≡ lane = all.each lane m (slice_get-get_or ms lane d lt) in
      subst (λ x. IsDone pool lane x) (sym (get_or-map seat_of ms lane d s lt))
      (record {
        seat = is.works.seat;
        number = is.number ∙ ap (λ (n : ℕ). Some n) number;
        nothing =
            has_nothing (view_of m.seat)
            (subst (λ (p : Pending). IsHeld (hand_of p) (view_of m.seat)) (settled lane d lt) is.works.held);
      })

  pub all_done : AreDone pool (map seat_of ms)
  all_done = record {
    many = length-map ms seat_of ∙ all.many;
    each = λ lane lt s. done_at lane (let a = all.many in omega (arith, a, lt)) s;
  }

-- their parts
pub parts_same : (ms : List Member) → parts_in (map seat_of ms) ≡ parts_of ms
parts_same [] = refl
parts_same (m ∷ ms) = ap (λ (ps : List Part). (view_of m.seat).own ∷ ps) (parts_same ms)

-- ---- Threads of their seats and of the rest of each.

first_or : {X : Type 0} → X → List X → X
first_or x [] = x
first_or x (y ∷ ys) = y

rest_list : {X : Type 0} → List X → List X
rest_list [] = []
rest_list (y ∷ ys) = ys

-- what holds of all holds of the first, and of all behind it
all_first : (m : Member) (ms : List Member) → All IsSettled (m ∷ ms) → IsSettled m
all_first m ms all = all 0 m (omega arith)

all_behind : (m : Member) (ms : List Member) → All IsSettled (m ∷ ms) → All IsSettled ms
all_behind m ms all = λ k d lt. all (suc k) d (omega (arith, lt))

pub members_same : (xs ys : List Member) → All IsSettled xs → All IsSettled ys → map seat_of xs ≡ map seat_of ys
    → map records_of xs ≡ map records_of ys → xs ≡ ys
unfolding first_or rest_list
members_same [] [] a b seats records = refl
members_same [] (y ∷ ys) a b seats records = absurd (cc seats)
members_same (x ∷ xs) [] a b seats records = absurd (cc seats)
members_same (x ∷ xs) (y ∷ ys) a b seats records =
    let seat : x.seat ≡ y.seat = ap (first_or x.seat) seats in
    let rest : records_of x ≡ records_of y = ap (first_or (records_of x)) records in
    let pending : x.pending ≡ y.pending = all_first x xs a ∙ sym (all_first y ys b) in
    let same : x ≡ y = λ i. record {
      seat = seat i;
      account = (rest i).account;
      pending = pending i;
      watcher = (rest i).watcher;
    } in
    λ i.
    same i ∷ members_same xs ys (all_behind x xs a) (all_behind y ys b) (ap rest_list seats) (ap rest_list records) i
