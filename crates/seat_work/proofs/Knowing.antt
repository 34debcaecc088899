-- What a seat knows of capacities behind its next entries.
use Rattle.std.proofs.Common.{◌≡◌, ℕ, ◌≤◌, max, List, [], ◌∷◌, ◌++◌, map, ◌^◌, sym, ap, subst, arith}
use Rattle.std.proofs.Math.Nat.{le-max_left}
use Rattle.size_classes.specs.Sizes.{chunk_bytes}
use Rattle.pool_law.specs.declared.id.RootId.{RootId}
use Rattle.pool_law.specs.Capacities.{known_of}
use Rattle.pool_law.specs.Limits.{geometry_of}
use Rattle.pool_table.specs.declared.views.Entry.{Entry}
use Rattle.pool_table.specs.declared.views.Layout.{Layout}
use Rattle.pool_table.specs.declared.views.SeatView.{SeatView}
use Rattle.pool_table.specs.Capacities.{knows_of}
use Rattle.pool_table.specs.LaneLogs.{lane_entries, law_entry}
use Rattle.shared_pool.specs.declared.pool.SharedPool.{SharedPool}
use Rattle.shared_pool.specs.declared.seat.PoolSeat.{PoolSeat}
use Rattle.shared_pool.specs.Knowing.{KnowsOf}
use Rattle.shared_pool.specs.SeatViews.{view_of}
use Rattle.seat_work.specs.Capacities.{KnowsNoLess, IsLearned}

-- a view knows of the capacity of a root's birth, which the root's name tells
pub knows_born : (v : SeatView) (root : RootId) → root.capacity ≤ knows_of root v
knows_born v root = le-max_left root.capacity (known_of root (lane_entries v))

-- more entries tell no less
known_more : (root : RootId) (xs ys : List Entry)
    → known_of root (map law_entry xs) ≤ known_of root (map law_entry (xs ++ ys))
known_more root [] ys = omega arith
known_more root (e ∷ xs) ys = let a = known_more root xs ys in omega (arith, a)

pub knows_more : (v w : SeatView) (es : List Entry) → w.own.notes ≡ v.own.notes ++ es → KnowsNoLess v w
knows_more v w es more root =
    subst (λ (ns : List Entry). knows_of root v ≤ max root.capacity (known_of root (map law_entry ns))) (sym more)
    (let a = known_more root v.own.notes es in omega (arith, a))

-- so it is where the view is the same, and one after another
pub knows_same : (v w : SeatView) → w ≡ v → KnowsNoLess v w
knows_same v w same root = let a = ap (λ (x : SeatView). knows_of root x) same in omega (arith, a)

pub knows_on : (u v w : SeatView) → KnowsNoLess u v → KnowsNoLess v w → KnowsNoLess u w
knows_on u v w x y root = let a = x root in let b = y root in omega (arith, a, b)

-- a capacity that was learned is so from earlier on, and stays so
module _ (root : RootId) (capacity : ℕ) (u v w : SeatView) where
  pub learned_on : KnowsNoLess u v → IsLearned root capacity v w → IsLearned root capacity u w
  learned_on less it = record {
    knew = (let a = less root in let b = it.knew in omega (arith, a, b));
    knows = it.knows;
    most = it.most;
  }

  pub learned_then : IsLearned root capacity u v → KnowsNoLess v w → IsLearned root capacity u w
  learned_then it less = record {
    knew = it.knew;
    knows = (let a = less root in let b = it.knows in omega (arith, a, b));
    most = it.most;
  }

-- a capacity that the seat knows of now
pub learned : (pool : SharedPool) (old new : PoolSeat) (root : RootId) (capacity : ℕ)
    → KnowsNoLess (view_of old) (view_of new) → KnowsOf pool new root capacity
    → IsLearned root capacity (view_of old) (view_of new)
learned pool old new root capacity less knows =
    let chunk : chunk_bytes (geometry_of pool.table.layout.shape) ≤ 2 ^ 24 =
    subst (λ (l : Layout). chunk_bytes (geometry_of l.shape) ≤ 2 ^ 24) (sym pool.same_layout) pool.shape.chunk in
    record {
      knew = (let a = less root in let b = knows.0 in omega (arith, a, b));
      knows = (let b = knows.0 in omega (arith, b));
      most = (let b = knows.1 in omega (arith, b, chunk));
    }
