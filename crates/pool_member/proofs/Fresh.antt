-- A root that a thread's seat named nowhere before it bore it: the thread counts nothing at its place then, and
-- was told no more of its capacity than its name says.
use Rattle.std.proofs.Common.{◌≡◌, ℕ, ◌+◌, ◌<◌, ◌≤◌, Bool, true, false, List, [], ◌∷◌, map, Option, Some, None, refl, sym, ap, ◌∙◌, arith}
use Rattle.std.specs.Prelude.{if◌then◌else◌, max, sum_by}
use Rattle.std.proofs.Math.Nat.{max-le}
use Rattle.std.proofs.Math.Logic.{dite}
use Rattle.std.proofs.Math.Decide.{ℕ_discrete}
use Rattle.std.proofs.lemmas.List.Sums.{sum_by-cons}
use Rattle.pool_law.specs.declared.id.RootId.{RootId}
use Rattle.pool_law.specs.declared.id.ViewData.{ViewData}
use Rattle.pool_law.specs.declared.note.Did.{Did}
use Rattle.pool_law.specs.declared.note.Did.TheVariants.{Birth, Room, Extend, Grow, Fetch}
use Rattle.pool_law.specs.declared.note.Note.TheVariants as note
use Rattle.pool_law.specs.Capacities.{known_of, reach_of, told_by}
use Rattle.pool_law.specs.Counts.{root_is}
use Rattle.pool_law.specs.Same.{same_root}
use Rattle.pool_law.proofs.SameLemmas.{same_root-is}
use Rattle.history_laws.specs.NoteCounts.{did_fetch_of, one_if_so, view_of_root}
use Rattle.pool_table.specs.declared.views.Entry.{Entry}
use Rattle.pool_table.specs.declared.views.Entry.TheVariants.{At, Ref, Busy}
use Rattle.pool_table.specs.declared.views.Part.{Part}
use Rattle.pool_table.specs.declared.views.SeatView.{SeatView}
use Rattle.pool_table.specs.Counts.{weigh, weigh_in, HasCount}
use Rattle.pool_table.specs.LaneLogs.{lane_entries, law_entry}
use Rattle.pool_table.specs.Lone.{names}
use Rattle.pool_table.proofs.Lone.{count_names}
use Rattle.shared_pool.specs.declared.pool.SharedPool.{SharedPool}
use Rattle.shared_pool.specs.declared.seat.PoolSeat.{PoolSeat}
use Rattle.shared_pool.specs.SeatViews.{view_of}
use Rattle.shared_pool.specs.Seats.{IsPoolSeat}
use Rattle.seat_work.specs.Changes.{Changes, once_more}
use Rattle.pool_member.specs.declared.member.Member.{Member}
use Rattle.pool_member.specs.Counting.{counted, told}
use Rattle.pool_member.specs.Threads.{IsThread}
use Rattle.pool_member.proofs.Keeping.{alone_at, has_count}

-- ---- What notes tell of a root that they don't name.

none_if : (b : Bool) (k m : ℕ) → one_if_so b ≡ 0 → (if b then k else 0) ≤ m
none_if true k m none = absurd (omega (arith, none))
none_if false k m none = omega arith

born_with : (r q : RootId) → (if same_root q r then q.capacity else 0) ≤ r.capacity
born_with r q = by (same_root q r) refl
  where
    by : (b : Bool) → same_root q r ≡ b → (if b then q.capacity else 0) ≤ r.capacity
    by true is =
        let same : q.capacity ≡ r.capacity = ap (λ (x : RootId). x.capacity) (same_root-is q r is) in
        omega (arith, same)
    by false is = omega arith

none_reached : (r : RootId) (v : Option ViewData) (m : ℕ) → view_of_root r v ≡ 0 → reach_of r v ≤ m
none_reached r None m none = omega arith
none_reached r (Some v) m none = none_if (same_root v.root r) (v.offset + v.len) m none

untold_entry : (r : RootId) (e : Entry) → names r e ≡ 0
    → told_by r (law_entry e).root (law_entry e).note ≤ r.capacity
untold_entry r (At o k n) none = by n.did (omega (arith, none)) (omega (arith, none))
  where
    by : (d : Did) → one_if_so (root_is r n.root) ≡ 0 → did_fetch_of r d ≡ 0
        → told_by r n.root (note.At o k d) ≤ r.capacity
    by (Birth q x) on fetched = born_with r q
    by (Room asked capacity) on fetched = none_if (root_is r n.root) capacity r.capacity on
    by (Extend size) on fetched = none_if (root_is r n.root) size r.capacity on
    by (Grow capacity x) on fetched = none_if (root_is r n.root) capacity r.capacity on
    by (Fetch parcel) on fetched = none_reached r parcel.view r.capacity fetched
    by d on fetched = omega arith
untold_entry r (Ref q d) none = omega arith
untold_entry r (Busy b) none = omega arith

untold_notes : (r : RootId) (es : List Entry) → sum_by (names r) es ≡ 0 → known_of r (map law_entry es) ≤ r.capacity
untold_notes r [] none = omega arith
untold_notes r (e ∷ es) none =
    let x : ℕ = names r e in let y : ℕ = sum_by (names r) es in
    let sum : x + y ≡ 0 = sym (sum_by-cons (names r) e es) ∙ none in
    let first : x ≡ 0 = omega (arith, sum) in let rest : y ≡ 0 = omega (arith, sum) in
    max-le (untold_entry r e first) (untold_notes r es rest)

-- ---- What a thread counts of it.

-- all that a seat's view weighs is its own
own_weight : (pool : SharedPool) (s : PoolSeat) (f : Entry → ℕ) → IsPoolSeat pool s
    → weigh f (view_of s) ≡ sum_by f (view_of s).own.notes
own_weight pool s f is =
    let v : SeatView = view_of s in let own : ℕ = sum_by f v.own.notes in
    let alone : weigh f v ≡ weigh_in f (v.own ∷ []) = ap (λ (ps : List Part). weigh_in f (v.own ∷ ps)) is.alone in
    let one : weigh_in f (v.own ∷ []) ≡ own = omega arith in
    alone ∙ one

module _ (pool : SharedPool) (m : Member) (is : IsThread pool m) (root : RootId)
    (unnamed : sum_by (names root) (view_of m.seat).own.notes ≡ 0) where
  pub untold : told m.account.counts root ≤ root.capacity
  untold =
      let a = is.knows root in let n : ℕ = known_of root (lane_entries (view_of m.seat)) in
      let a' : told m.account.counts root ≤ max root.capacity n = a in
      let b : n ≤ root.capacity = untold_notes root (view_of m.seat).own.notes unnamed in omega (arith, a', b)

  uncounted : counted m.account.counts root ≡ 0
  uncounted = dite (ℕ_discrete (counted m.account.counts root) 0) (λ none. none)
      (λ some. let n : ℕ = weigh (names root) (view_of m.seat) in
      let named : 0 < n = count_names root (view_of m.seat) (has_count pool m is root (omega (arith, some))) in
      let none : n ≡ 0 = own_weight pool m.seat (names root) is.works.seat ∙ unnamed in
      absurd (omega (arith, named, none)))

  -- the seat bore it then, and counts it
  pub fresh_place : (new : PoolSeat) → IsPoolSeat pool new → Changes (once_more root) (view_of m.seat) (view_of new)
      → HasCount root (view_of new) → (other : RootId) → other.place ≡ root.place → counted m.account.counts other ≡ 0
  fresh_place new seat changes has other at = dite (ℕ_discrete (counted m.account.counts other) 0) (λ none. none)
      (λ some. let same : other ≡ root =
      alone_at pool m is root (once_more root) new seat changes (λ q. refl) has other at (omega (arith, some)) in
      ap (λ (q : RootId). counted m.account.counts q) same ∙ uncounted)
