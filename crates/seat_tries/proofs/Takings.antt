-- Steps of a seat that take no region of an arena.
use Rattle.std.proofs.Common.{◌≡◌, ℕ, ◌+◌, List, [], ◌∷◌, ◌++◌, Bool, true, false, refl, ap, ◌∙◌, arith}
use Rattle.std.specs.Prelude.{if◌then◌else◌, sum_by}
use Rattle.std.proofs.lemmas.List.Sums.{sum_by-append}
use Rattle.pool_law.specs.declared.note.Held.{Held}
use Rattle.pool_law.specs.declared.note.Noted.{Noted}
use Rattle.pool_law.specs.declared.note.Object.{Object}
use Rattle.pool_law.specs.Naming.{noted_by}
use Rattle.pool_table.specs.declared.views.Entry.{Entry}
use Rattle.pool_table.specs.declared.views.Entry.TheVariants.{At, Busy}
use Rattle.pool_table.specs.declared.views.SeatView.{SeatView}
use Rattle.shared_pool.specs.declared.pool.SharedPool.{SharedPool}
use Rattle.shared_pool.specs.declared.seat.PoolSeat.{PoolSeat}
use Rattle.shared_pool.specs.Seats.{FoundBusy, IsNoted}
use Rattle.shared_pool.specs.SeatViews.{view_of}
use Rattle.seat_work.proofs.Noting.{one_marked, one_noted}
use Rattle.seat_tries.specs.Taking.{is_take, taken, takes}

module _ (pool : SharedPool) (old new : PoolSeat) where
  added_taken : (e : Entry) → (view_of new).own.notes ≡ (view_of old).own.notes ++ e ∷ [] → takes e ≡ 0
      → taken new ≡ taken old
  added_taken e is none =
      let more : taken new ≡ taken old + sum_by takes (e ∷ []) = ap (λ (es : List Entry). sum_by takes es) is
      ∙ sum_by-append takes (view_of old).own.notes (e ∷ []) in
      let one : sum_by takes (e ∷ []) ≡ takes e = omega arith in
      omega (arith, more, one, none)

  -- a note of something else
  pub noted_taken : (o : Object) (number : ℕ) (n : Noted) → is_take n.did ≡ false → IsNoted pool old new o number n
      → taken new ≡ taken old
  noted_taken o number n other noted =
      added_taken (At o number (noted_by (view_of old).own.number n)) (one_noted pool old new o number n noted)
      (ap (λ (b : Bool). if b then 1 else 0) other)

  -- another seat was there, with a mark or without one
  pub marked_taken : (o : Object) (held : Held) → FoundBusy pool o true old new held → taken new ≡ taken old
  marked_taken o held found = added_taken (Busy held) (one_marked pool old new o held found) refl

  pub met_taken : (o : Object) (held : Held) → FoundBusy pool o false old new held → taken new ≡ taken old
  met_taken o held found =
      ap (λ (v : SeatView). sum_by takes v.own.notes) (ap (λ m. m.0) found.marked)
