-- How the law reads on what an ask for capacity adds, and how that comes from the seat to the thread.
use Rattle.std.proofs.Common.{◌≡◌, ℕ, ◌<◌, ◌≤◌, Some, None, refl, sym, subst}
use Rattle.std.specs.Prelude.{Result, Ok, Err}
use Rattle.pool_law.specs.declared.id.RegionId.{RegionId}
use Rattle.pool_law.specs.declared.id.RootId.{RootId}
use Rattle.pool_law.specs.declared.run.Reply.{Reply}
use Rattle.pool_law.specs.Limits.{cached_classes}
use Rattle.pool_law.specs.Patterns.{Grown as LawGrown, ask_arena, ask_cache, grow_with, grown as grows, obtain, put_away}
use Rattle.pool_law.specs.Readers.{Log, Reader, ◌>>◌, give}
use Rattle.pool_table.specs.declared.views.SeatView.{SeatView}
use Rattle.shared_pool.specs.declared.pool.SharedPool.{SharedPool}
use Rattle.shared_pool.specs.declared.seat.PoolSeat.{PoolSeat}
use Rattle.shared_pool.specs.SeatLanes.{lane_of}
use Rattle.shared_pool.specs.SeatViews.{view_of}
use Rattle.seat_work.specs.Readings.{NotesAs, NotesOn}
use Rattle.seat_work.specs.Regrowths.{grow_over}
use Rattle.seat_work.proofs.GrowReads.{after_grown, grown_enough}
use Rattle.seat_work.proofs.Noting.{notes_from, notes_given, notes_on, notes_then, notes_to}
use Rattle.seat_work.proofs.RegionNotes.{obtain_noted}
use Rattle.pool_member.specs.declared.member.Member.{Member}
use Rattle.pool_member.specs.declared.pending.Pending.{Pending}
use Rattle.pool_member.specs.declared.work.attempted.AskNo.{AskNo}
use Rattle.pool_member.specs.declared.work.attempted.AskNo.TheVariants.{Busy, Full}
use Rattle.pool_member.specs.Growing.{AsksOf, GrowsOf, IsAsked, IsGrown}
use Rattle.pool_member.specs.Growths.{grow_taken, Regrows}
use Rattle.pool_member.specs.Pendings.{left_of, nothing}
use Rattle.pool_member.specs.Threads.{IsSettled, Settles}
use Rattle.pool_member.proofs.Allotted.{from_settled}

-- ---- One reading after another.

module _ (r q : Reader (Result ℕ Reply)) (left : Pending) where
  pub regrows_on : (u v w : SeatView) (answer : Result ℕ AskNo) → NotesOn r q u v → Regrows q answer left v w
      → Regrows r answer left u w
  regrows_on u v w (Ok k) x y = notes_on r q u v (left_of left >> give (Ok k)) w x y
  regrows_on u v w (Err Busy) x y = tt
  regrows_on u v w (Err Full) x y = notes_on r q u v (left_of left >> give (Err Reply.Full)) w x y

  pub regrows_from : (u v : SeatView) → ((log : Log) → r log ≡ q log) → (answer : Result ℕ AskNo)
      → Regrows q answer left u v → Regrows r answer left u v
  regrows_from u v same (Ok k) y = notes_from q (left_of left >> give (Ok k)) u v r same y
  regrows_from u v same (Err Busy) y = tt
  regrows_from u v same (Err Full) y = notes_from q (left_of left >> give (Err Reply.Full)) u v r same y

-- the cache gave nothing
pub past_on : (pool : SharedPool) (old mid new : PoolSeat) (class : ℕ) (root : RootId) (size : ℕ)
    (answer : Result ℕ AskNo) (left : Pending) → class < cached_classes
    → NotesAs (ask_cache (lane_of old) class) None (view_of old) (view_of mid) → lane_of mid ≡ lane_of old
    → Regrows (grow_taken pool.table.layout.shape (lane_of mid) class root size) answer left (view_of mid)
    (view_of new) →
    Regrows (grow_over pool.table.layout.shape (lane_of old) class root size) answer left (view_of old) (view_of new)
past_on pool old mid new class root size answer left less none same x =
    let shape = pool.table.layout.shape in let lane = lane_of old in
    regrows_on (grow_over shape lane class root size) (grow_taken shape lane class root size) left (view_of old)
    (view_of mid) (view_of new) answer
    (notes_then (obtain shape lane class) (ask_arena shape lane class) (view_of old) (view_of mid) (grow_with root size)
    (obtain_noted shape lane class less None (view_of old) (view_of mid) none))
    (subst (λ (l : ℕ). Regrows (grow_taken shape l class root size) answer left (view_of mid) (view_of new)) same x)

-- the answer is there, and nothing is left
pub nothing_left : (r : Reader (Result ℕ Reply)) (a : Result ℕ Reply) (u v : SeatView) (p : Pending) → p ≡ nothing
    → NotesAs r a u v → NotesOn r (left_of p >> give a) u v
nothing_left r a u v p is x =
    subst (λ (q : Pending). NotesOn r (left_of q >> give a) u v) (sym is)
    (notes_to r (give a) u v (left_of nothing >> give a) (λ log. refl) x)

-- the root has so much, and the region that is left goes back, or is left
pub left_on : (root : RootId) (size : ℕ) (into : RegionId) (g : LawGrown) (left : Pending) (u v w : SeatView)
    → size ≤ g.capacity → NotesAs (grows root size into) g u v → NotesOn (put_away g.spare) (left_of left) v w
    → NotesOn (grow_with root size (Some into)) (left_of left >> give (Ok g.capacity)) u w
left_on root size into g left u v w le first last =
    let whole = grow_with root size (Some into) in let rest = put_away g.spare >> give (Ok g.capacity) in
    notes_on whole rest u v (left_of left >> give (Ok g.capacity)) w
    (notes_to whole (after_grown size g) u v rest (grown_enough size g le)
    (notes_given (grows root size into) g (after_grown size) u v first))
    (notes_then (put_away g.spare) (left_of left) v w (λ _. give (Ok g.capacity)) last)

-- ---- A thread that settled first.

module _ (pool : SharedPool) (root : RootId) (size : ℕ) (old mid new : Member) (settles : Settles pool old mid)
    (none : IsSettled mid) where
  pub grown_on : (answer : Result ℕ Reply) → GrowsOf pool root size answer mid.seat new
      → IsGrown pool root size answer old new
  grown_on answer x = from_settled pool (λ m. GrowsOf pool root size answer m new) old mid settles none x

  pub asked_on : (answer : Result ℕ AskNo) → AsksOf pool root size answer mid.seat new
      → IsAsked pool root size answer old new
  asked_on (Ok k) x = grown_on (Ok k) x
  asked_on (Err Busy) x = tt
  asked_on (Err Full) x = grown_on (Err Reply.Full) x
