-- An allocation that goes the quick way: its turns are taken, and the thread has nothing to put away.
use Rattle.std.proofs.Common.{◌≡◌, ◌+◌, ◌-◌, ◌*◌, ◌^◌, ◌<◌, ◌≤◌, true, List, length, None, Some, Err, refl, sym, subst, ap, ◌∙◌, arith}
use Rattle.std.specs.Prelude.{ℕ, sum_by}
use Rattle.size_classes.specs.Sizes.{class_of}
use Rattle.pool_law.specs.declared.id.RootId.{RootId}
use Rattle.pool_law.specs.declared.id.ViewData.{ViewData}
use Rattle.pool_law.specs.Limits.{geometry_of}
use Rattle.pool_law.specs.Patterns.{allot}
use Rattle.pool_law.specs.Views.{view_of as view_of_root}
use Rattle.pool_table.specs.Counts.{HasCount}
use Rattle.pool_table.specs.Lone.{names}
use Rattle.shared_pool.specs.declared.pool.SharedPool.{SharedPool}
use Rattle.shared_pool.specs.declared.seat.PoolSeat.{PoolSeat}
use Rattle.shared_pool.specs.SeatLanes.{lane_of}
use Rattle.shared_pool.specs.SeatViews.{view_of}
use Rattle.seat_work.specs.declared.allocation.AllocNo.{AllocNo as WorkNo}
use Rattle.seat_work.specs.Answers.{refused, Allots, Bears, IsWorn}
use Rattle.seat_work.specs.Hands.{empty_hand}
use Rattle.seat_work.specs.Changes.{once_more, one_for}
use Rattle.seat_work.specs.Works.{HasBorn, IsLater, Proceeds, Works}
use Rattle.seat_work.proofs.Counting.{one_self}
use Rattle.pool_member.specs.declared.counts.Counted.{Counted}
use Rattle.pool_member.specs.declared.member.Member.{Member}
use Rattle.pool_member.specs.Allotting.{BearsOf, IsAllotted, IsRefused}
use Rattle.pool_member.specs.Answers.{as_alloc, HasCause}
use Rattle.pool_member.specs.Counting.{counted, is_alone, known, told}
use Rattle.pool_member.specs.Refusals.{is_here}
use Rattle.pool_member.specs.Threads.{Does, IsSettled, IsThread, less_turns, with_turns}
use Rattle.pool_member.specs.Watching.{watch_next, with_next}
use Rattle.pool_member.proofs.Allotted.{bears_of, from_settled, refused_of}
use Rattle.pool_member.proofs.Bearing.{borne, may_allocate, spent}
use Rattle.pool_member.proofs.Fresh.{fresh_place, untold}
use Rattle.pool_member.proofs.Settling.{alloc_cause, settles_none}
use Rattle.pool_member.proofs.Turns.{turns_again}

-- what either way makes of the thread, which has this root then
pub record Made (pool : SharedPool) (size : ℕ) (old new : Member) (root : RootId) : Type 0 where
  pub does : Does pool 6 (once_more root) None old new
  pub capacity : root.capacity ≡ size
  pub counts : 0 < counted new.account.counts root
  pub born : HasBorn pool root old.seat new.seat
  pub moves : new.account.moves ≡ old.account.moves
  pub watcher : new.watcher ≡ with_next old.watcher
  pub settled : IsSettled new
  pub allotted : IsAllotted pool size root old new

-- all of the root is the thread's
pub here_made : (new : Member) (root : RootId) (at : ViewData) → at ≡ view_of_root root
    → 0 < counted new.account.counts root
    → is_here new.account (record { at = at; thread = new.account.lane }) ≡ true
here_made new root at at_is some =
    subst (λ (v : ViewData). is_here new.account (record { at = v; thread = new.account.lane }) ≡ true) (sym at_is)
    (grind (arith, some))

-- by the way apart, with the turns back before it
pub made_apart : (pool : SharedPool) (size : ℕ) (old back new : Member) (root : RootId) → back ≡ old
    → Does pool 6 (once_more root) None back new → root.capacity ≡ size → 0 < counted new.account.counts root
    → HasBorn pool root back.seat new.seat → new.account.moves ≡ back.account.moves
    → new.watcher ≡ with_next back.watcher → IsSettled new → IsAllotted pool size root back new
    → Made pool size old new root
made_apart pool size old back new root same =
    subst (λ (m : Member). Does pool 6 (once_more root) None m new → root.capacity ≡ size
    → 0 < counted new.account.counts root → HasBorn pool root m.seat new.seat
    → new.account.moves ≡ m.account.moves → new.watcher ≡ with_next m.watcher → IsSettled new
    → IsAllotted pool size root m new → Made pool size old new root) (sym same)
    (λ does capacity counts born moves watcher settled allotted. record {
      does = does;
      capacity = capacity;
      counts = counts;
      born = born;
      moves = moves;
      watcher = watcher;
      settled = settled;
      allotted = allotted;
    })

-- the turns that were taken come back before the way apart
module _ (pool : SharedPool) (old took : Member) (is : IsThread pool old) (turns : 6 ≤ old.account.turns)
    (took_is : took ≡ less_turns 6 old) (back : Member)
    (small : took.account.turns + 6 < 2 ^ 64 → back ≡ with_turns 6 took) where
  pub back_is : back ≡ old
  back_is =
      let few = is.few (record { place = 0; generation = 0; capacity = 0 }) in
      let left : took.account.turns ≡ old.account.turns - 6 = ap (λ (m : Member). m.account.turns) took_is in
      small (omega (arith, few, left, turns)) ∙ ap (λ (m : Member). with_turns 6 m) took_is ∙ turns_again old 6 turns

  pub back_thread : IsThread pool back
  back_thread = subst (λ (m : Member). IsThread pool m) (sym back_is) is

  pub back_turns : 6 ≤ back.account.turns
  back_turns = subst (λ (m : Member). 6 ≤ m.account.turns) (sym back_is) turns

module _ (pool : SharedPool) (old took : Member) (is : IsThread pool old) (turns : 6 ≤ old.account.turns)
    (took_is : took ≡ less_turns 6 old) (none : IsSettled took) where
  none_old : IsSettled old
  none_old = subst (λ (m : Member). IsSettled m) took_is none

  -- what the seat's allocation asks
  pub may_bear : Works pool empty_hand 6 0 took.seat
  may_bear = subst (λ (m : Member). Works pool empty_hand 6 0 m.seat) (sym took_is)
      (may_allocate pool old is none_old turns)

  -- ---- It bore a root.
  module _ (root : RootId) (seat : PoolSeat) (did : Proceeds pool empty_hand 6 0 (once_more root) took.seat seat)
      (later : IsLater pool took.seat seat) where
    -- what the count of the root asks
    pub at_place : root.place < pool.table.layout.shape.lanes * pool.table.layout.shape.handles
        → root.place < length took.account.counts
    at_place lt =
        subst (λ (m : Member). root.place < length m.account.counts) (sym took_is)
        (subst (λ n. root.place < n) (sym is.places) lt)

    pub at_fresh : sum_by (names root) (view_of took.seat).own.notes ≡ 0 → HasCount root (view_of seat)
        → (other : RootId) → other.place ≡ root.place → counted took.account.counts other ≡ 0
    at_fresh unnamed has =
        subst (λ (m : Member). sum_by (names root) (view_of m.seat).own.notes ≡ 0
        → Proceeds pool empty_hand 6 0 (once_more root) m.seat seat
        → (other : RootId) → other.place ≡ root.place → counted m.account.counts other ≡ 0) (sym took_is)
        (λ unnamed did. fresh_place pool old is root unnamed seat did.goes.seat did.changes has) unnamed did

    pub at_untold : sum_by (names root) (view_of took.seat).own.notes ≡ 0
        → told took.account.counts root ≤ root.capacity
    at_untold =
        subst (λ (m : Member). sum_by (names root) (view_of m.seat).own.notes ≡ 0
        → told m.account.counts root ≤ root.capacity) (sym took_is) (untold pool old is root)

    -- these counts are kept
    pub did_bear : (cs : List Counted)
        → ((other : RootId) → counted cs other ≡ counted took.account.counts other + one_for root other)
        → ((other : RootId) → told cs other ≤ told took.account.counts other)
        → ((other : RootId) → 0 < counted cs other → known took.account.counts other ≤ known cs other)
        → ((other : RootId) → is_alone cs other ≡ true → is_alone took.account.counts other ≡ true)
        → ((other : RootId) → 0 < counted took.account.counts other → is_alone took.account.counts other ≡ true
        → is_alone cs other ≡ true)
        → length cs ≡ length took.account.counts
        → Does pool 6 (once_more root) None old (record took {
          seat = seat;
          account = record took.account { counts = cs };
          watcher = with_next took.watcher;
        })
    did_bear cs =
        subst (λ (t : Member). Proceeds pool empty_hand 6 0 (once_more root) t.seat seat → IsLater pool t.seat seat
        → ((other : RootId) → counted cs other ≡ counted t.account.counts other + one_for root other)
        → ((other : RootId) → told cs other ≤ told t.account.counts other)
        → ((other : RootId) → 0 < counted cs other → known t.account.counts other ≤ known cs other)
        → ((other : RootId) → is_alone cs other ≡ true → is_alone t.account.counts other ≡ true)
        → ((other : RootId) → 0 < counted t.account.counts other → is_alone t.account.counts other ≡ true
        → is_alone cs other ≡ true)
        → length cs ≡ length t.account.counts
        → Does pool 6 (once_more root) None old (record t {
          seat = seat;
          account = record t.account { counts = cs };
          watcher = with_next t.watcher;
        })) (sym took_is)
        (λ did later more tells keeps alone owns places. borne pool old is none_old turns root seat did later cs more
        tells keeps alone owns places) did later

    pub did_allot : (size class : ℕ) → class_of (geometry_of pool.table.layout.shape) size ≡ Some class
        → watch_next took.watcher ≡ None
        → Bears (allot pool.table.layout.shape (lane_of took.seat) size) class None root (view_of took.seat)
        (view_of seat)
        → (new : Member) → new.seat ≡ seat → IsAllotted pool size root old new
    did_allot size class class_is quiet bears new same =
        let next : watch_next old.watcher ≡ None = subst (λ (m : Member). watch_next m.watcher ≡ None) took_is quiet in
        let it : BearsOf pool size (watch_next old.watcher) root old.seat seat =
        bears_of pool size class None old.seat seat class_is (watch_next old.watcher) (sym next) root
        (subst (λ (m : Member). Bears (allot pool.table.layout.shape (lane_of m.seat) size) class None root
        (view_of m.seat) (view_of seat)) took_is bears) in
        from_settled pool (λ m. BearsOf pool size (watch_next old.watcher) root m new.seat) old old
        (settles_none pool old is) none_old
        (subst (λ (s : PoolSeat). BearsOf pool size (watch_next old.watcher) root old.seat s) (sym same) it)

    -- by the quick way
    pub made_quick : (size class : ℕ) → class_of (geometry_of pool.table.layout.shape) size ≡ Some class
        → watch_next took.watcher ≡ None → root.capacity ≡ size → HasBorn pool root took.seat seat
        → Bears (allot pool.table.layout.shape (lane_of took.seat) size) class None root (view_of took.seat)
        (view_of seat) → (cs : List Counted)
        → ((other : RootId) → counted cs other ≡ counted took.account.counts other + one_for root other)
        → ((other : RootId) → told cs other ≤ told took.account.counts other)
        → ((other : RootId) → 0 < counted cs other → known took.account.counts other ≤ known cs other)
        → ((other : RootId) → is_alone cs other ≡ true → is_alone took.account.counts other ≡ true)
        → ((other : RootId) → 0 < counted took.account.counts other → is_alone took.account.counts other ≡ true
        → is_alone cs other ≡ true)
        → length cs ≡ length took.account.counts
        → (new : Member) → new ≡ record took {
          seat = seat;
          account = record took.account { counts = cs };
          watcher = with_next took.watcher;
        } → Made pool size old new root
    made_quick size class class_is quiet sized born bears cs more tells keeps alone owns places new new_is =
        let done : Member = record took {
          seat = seat;
          account = record took.account { counts = cs };
          watcher = with_next took.watcher;
        } in
        subst (λ (n : Member). Made pool size old n root) (sym new_is) (record {
          does = did_bear cs more tells keeps alone owns places;
          capacity = sized;
          counts = (let a = more root in let b = one_self root in omega (arith, a, b));
          born = subst (λ (m : Member). HasBorn pool root m.seat seat) took_is born;
          moves = ap (λ (m : Member). m.account.moves) took_is;
          watcher = ap (λ (m : Member). with_next m.watcher) took_is;
          settled = none;
          allotted = did_allot size class class_is quiet bears done refl;
        })

  -- ---- It was refused one.
  module _ (no : WorkNo) (seat : PoolSeat) (did : Proceeds pool empty_hand 6 0 (refused no) took.seat seat)
      (later : IsLater pool took.seat seat) where
    pub did_spend : Does pool 6 (refused no) None old (record took { seat = seat })
    did_spend =
        subst (λ (t : Member). Proceeds pool empty_hand 6 0 (refused no) t.seat seat → IsLater pool t.seat seat
        → Does pool 6 (refused no) None old (record t { seat = seat })) (sym took_is)
        (λ did later. spent pool old is none_old turns no seat did later) did later

    pub had_cause : IsWorn pool took.seat seat no → HasCause pool old (record took { seat = seat }) (as_alloc no)
    had_cause worn =
        alloc_cause pool old old (record took { seat = seat }) (settles_none pool old is) no
        (subst (λ (m : Member). IsWorn pool m.seat seat no) took_is worn)

    pub did_refuse : (size class : ℕ)
        → Allots (allot pool.table.layout.shape (lane_of took.seat) size) class None (Err no) (view_of took.seat)
        (view_of seat) → IsRefused pool size (as_alloc no) old (record took { seat = seat })
    did_refuse size class allots =
        refused_of pool size class None old old (record took { seat = seat }) (settles_none pool old is) none_old no
        (subst (λ (m : Member). Allots (allot pool.table.layout.shape (lane_of m.seat) size) class None (Err no)
        (view_of m.seat) (view_of seat)) took_is allots)
