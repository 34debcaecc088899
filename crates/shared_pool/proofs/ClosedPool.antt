-- What is known of a pool as it closes, from what the table's close told.
use Rattle.std.proofs.Common.{◌≡◌, ℕ, ◌+◌, ◌*◌, List, sym, ap, ◌∙◌, subst, refl, Some, None}
use Rattle.std.specs.Prelude.{◌≤◌, Option, length}
use Rattle.step_law.specs.Settings.{Setting}
use Rattle.size_classes.specs.Sizes.{IsPage, below}
use Rattle.pool_law.specs.declared.run.Shape.{Shape}
use Rattle.pool_law.specs.Legal.{ends_from}
use Rattle.shared_pool.specs.declared.seat.PoolSeat.{PoolSeat}
use Rattle.pool_table.specs.declared.views.Layout.{Layout}
use Rattle.pool_table.specs.declared.views.Part.{Part}
use Rattle.pool_table.specs.declared.views.SeatView.{SeatView}
use Rattle.pool_table.specs.Closed.{HasAllLanes, IsClosed}
use Rattle.pool_table.specs.Views.{parts_of}
use Rattle.shared_pool.specs.declared.home.Home.{Home}
use Rattle.shared_pool.specs.declared.pool.SharedPool.{SharedPool}
use Rattle.shared_pool.specs.Closing.{AreLanes, HasNoPlace, AreWhole, logs_in}
use Rattle.shared_pool.specs.Emptying.{left_of, AreOut}
use Rattle.shared_pool.specs.Ends.{AreArenas, ArePlaces, chunks_from, told_from}
use Rattle.shared_pool.specs.Joining.{arenas_known}
use Rattle.shared_pool.specs.Live.{AreLiveRoots}
use Rattle.shared_pool.specs.Seated.{WereDone, parts_in}
use Rattle.shared_pool.specs.Standing.{HomeStands}
use Rattle.shared_pool.proofs.ClosingLaw.{parts-whole}
use Rattle.shared_pool.proofs.JoinedParts.{HasNoToken, lanes_joined, places_joined, takings_joined, tokens_joined, same_parts}
use Rattle.shared_pool.proofs.JoinedParts as joined
use Rattle.shared_pool.proofs.EmptyTables.{are_out}
use Rattle.shared_pool.proofs.LastChunks.{arenas_here, chunks_told}
use Rattle.shared_pool.proofs.LiveTables.{places_here, live_told}

found_in : (n : ℕ) (o : Option Setting) → arenas_known o ≡ Some n
    → (x : Setting) × (o ≡ Some x) × (length x.grounds ≡ n)
found_in n None e = absurd (cc e)
found_in n (Some x) e = (x, refl, cc e)

-- the parts of the seats as they were, where a view has those of the seats
parts_before : (pool : SharedPool) (seats : List PoolSeat) (was : WereDone pool seats) (v : SeatView)
    → parts_of v ≡ parts_in seats → parts_of v ≡ parts_in was.before
parts_before pool seats was v parts = parts ∙ sym (same_parts was.before seats was.same)

pub all_lanes : (pool : SharedPool) (seats : List PoolSeat) (was : WereDone pool seats) (v : SeatView)
    → parts_of v ≡ parts_in seats → HasAllLanes pool.table.layout v
all_lanes pool seats was v parts =
    joined.all_lanes pool was.before was.done v (parts_before pool seats was v parts)

module _ (pool : SharedPool) (seats : List PoolSeat) (was : WereDone pool seats)
    (v : SeatView) (parts : parts_of v ≡ parts_in seats)
    (settled : arenas_known v.setting ≡ Some pool.table.layout.shape.arenas) (homes : List (Option Home))
    (words : List ℕ) (closed : IsClosed HomeStands pool.table.layout v homes words) where
  abbrev shape : Shape
  shape = pool.table.layout.shape

  before : parts_of v ≡ parts_in was.before
  before = parts_before pool seats was v parts

  found : (x : Setting) × (v.setting ≡ Some x) × (length x.grounds ≡ shape.arenas)
  found = found_in shape.arenas v.setting settled

  lanes : AreLanes shape (parts_of v)
  lanes = lanes_joined pool was.before was.done v before

  none : HasNoPlace v
  none = places_joined pool was.before was.done v before

  tokens : HasNoToken (parts_of v)
  tokens = tokens_joined pool was.before was.done v before

  pub arenas : AreArenas shape homes
  arenas = arenas_here pool.table.layout v homes words closed lanes found.0 found.1

  pub places : ArePlaces shape homes
  places = places_here pool.table.layout v homes words closed lanes found.0 found.1 none tokens

  pub whole : AreWhole shape (parts_in seats)
  whole = subst (AreWhole shape) parts (parts-whole HomeStands pool.table.layout v homes words closed lanes none)

  pub chunks : chunks_from homes (below shape.arenas) ≡ ends_from shape (logs_in (parts_in seats)) (below shape.arenas)
  chunks =
      chunks_told pool.table.layout v homes words closed lanes found.0 found.1
      ∙ ap (λ (ps : List Part). ends_from shape (logs_in ps) (below shape.arenas)) parts

  pub live : AreLiveRoots (parts_in seats) (told_from shape homes words (below (shape.lanes * shape.handles)))
  live =
      subst (λ (ps : List Part). AreLiveRoots ps (told_from shape homes words (below (shape.lanes * shape.handles))))
      parts
      (live_told pool.table.layout v homes words closed lanes found.0 found.1 none tokens)

  pub out : AreOut shape.arenas homes (left_of homes)
  out =
      are_out pool.table.layout v homes words closed lanes found.0 found.1
      (subst (λ (y : Layout). IsPage y.shape.page) (sym pool.same_layout) pool.shape.page) found.2
      (takings_joined pool was.before was.done v before)
