-- A seat that gives regions back, and one that only goes on.
use Rattle.std.proofs.Common.{◌≡◌, ℕ, ◌+◌, ◌≤◌, List, [], ◌∷◌, true, ap, ◌∙◌, arith}
use Rattle.std.specs.Prelude.{sum_by}
use Rattle.std.proofs.lemmas.List.Sums.{sum_by-append}
use Rattle.pool_law.specs.declared.id.RegionId.{RegionId}
use Rattle.pool_law.specs.declared.note.Did.TheVariants.{Give}
use Rattle.pool_law.specs.declared.note.Held.{Held}
use Rattle.pool_law.specs.declared.note.Object.{Object}
use Rattle.pool_table.specs.declared.views.Entry.{Entry}
use Rattle.pool_table.specs.declared.views.Entry.TheVariants.{Busy}
use Rattle.shared_pool.specs.declared.pool.SharedPool.{SharedPool}
use Rattle.shared_pool.specs.declared.seat.PoolSeat.{PoolSeat}
use Rattle.shared_pool.specs.Notes.{plain}
use Rattle.shared_pool.specs.Seats.{FoundBusy, IsNoted, IsPoolSeat}
use Rattle.shared_pool.specs.SeatViews.{view_of}
use Rattle.seat_work.specs.Works.{IsLater}
use Rattle.seat_work.proofs.Grown.{grows_busy, grows_noted, note_at, own_more}
use Rattle.pool_member.specs.Returns.{given, gives}

module _ (pool : SharedPool) (old new : PoolSeat) where
  pub later_given : IsLater pool old new → given old ≤ given new
  later_given later =
      let more : given new ≡ given old + sum_by gives later.added =
      ap (λ (es : List Entry). sum_by gives es) later.grown.notes
      ∙ sum_by-append gives (view_of old).own.notes later.added in
      omega (arith, more)

  module _ (was : IsPoolSeat pool old) (is : IsPoolSeat pool new) where
    pub gave_given : (o : Object) (number : ℕ) (id : RegionId) → IsNoted pool old new o number (plain (Give id))
        → given old + 1 ≤ given new
    gave_given o number id noted =
        let n = plain (Give id) in
        let more : given new ≡ given old + 1 =
        own_more (view_of old) (view_of new) (note_at pool old new was is o number n ∷ []) 0
        (grows_noted pool old new was is o number n noted) gives in
        omega (arith, more)

    pub marked_given : (o : Object) (held : Held) → FoundBusy pool o true old new held → given old + 1 ≤ given new
    marked_given o held found =
        let more : given new ≡ given old + 1 =
        own_more (view_of old) (view_of new) (Busy held ∷ []) 0 (grows_busy pool old new was is o held found) gives in
        omega (arith, more)
