-- What a step wrote that made one note, or found another seat.
use Rattle.std.proofs.Common.{◌≡◌, ℕ, [], ◌∷◌, Bool, true, false, refl, sym, ap, subst}
use Rattle.pool_law.specs.declared.note.Held.{Held}
use Rattle.pool_law.specs.declared.note.Note.{Note}
use Rattle.pool_law.specs.declared.note.Noted.{Noted}
use Rattle.pool_law.specs.declared.note.Object.{Object}
use Rattle.pool_law.specs.Readers.{Reader}
use Rattle.leak_records.specs.Records.{Sampling}
use Rattle.pool_table.specs.declared.views.Entry.TheVariants.{Busy}
use Rattle.shared_pool.specs.declared.seat.PoolSeat.{PoolSeat}
use Rattle.shared_pool.specs.SeatViews.{SameSeat}
use Rattle.shared_pool.specs.declared.pool.SharedPool.{SharedPool}
use Rattle.shared_pool.specs.Closing.{entry_of}
use Rattle.shared_pool.specs.Seats.{IsPoolSeat, IsNoted, FoundBusy}
use Rattle.seat_work.specs.Readings.{ReadsOn}
use Rattle.lane_stages.specs.Sampled.{AreSampled}
use Rattle.lane_stages.specs.Wrote.{Wrote}
use Rattle.seat_work.proofs.Grown.{note_at, grows_noted, grows_busy, grows_held}

module _ (pool : SharedPool) (old new : PoolSeat) (was : IsPoolSeat pool old)
    (is : IsPoolSeat pool new) (same : SameSeat old new) where
  module _ {X : Type 0} (sampler : Sampling) (before : Reader X) (asks : ℕ → ℕ) (after : Reader X) where
    abbrev pub wrote_note : (o : Object) (number : ℕ) (n : Noted) (note : Note) → IsNoted pool old new o number n
        → note ≡ Note.At o number n.did → AreSampled sampler (note_at pool old new was is o number n ∷ []) sampler →
        ReadsOn before (entry_of (note_at pool old new was is o number n) ∷ []) asks after
        → Wrote pool old new (note ∷ []) sampler sampler before asks after
    wrote_note o number n note noted it sampled read = record {
      added = note_at pool old new was is o number n ∷ [];
      same = same;
      seat = is;
      more = (grows_noted pool old new was is o number n noted).more;
      noted = ap (λ (x : Note). x ∷ []) (sym it);
      sampled = sampled;
      read = read;
    }

    abbrev pub wrote_mark : (o : Object) (held : Held) → FoundBusy pool o true old new held
        → ReadsOn before (entry_of (Busy held) ∷ []) asks after
        → Wrote pool old new (Note.Busy held ∷ []) sampler sampler before asks after
    wrote_mark o held found read = record {
      added = Busy held ∷ [];
      same = same;
      seat = is;
      more = (grows_busy pool old new was is o held found).more;
      noted = refl;
      sampled = refl;
      read = read;
    }

    -- nothing was noted, and all is read as before
    abbrev pub wrote_nothing : (o : Object) (held : Held) → FoundBusy pool o false old new held
        → ReadsOn before [] asks after → Wrote pool old new [] sampler sampler before asks after
    wrote_nothing o held found read = record {
      added = [];
      same = same;
      seat = is;
      more = (grows_held pool old new was is o held found).more;
      noted = refl;
      sampled = refl;
      read = read;
    }

  -- the object is the one that was found busy
  pub found_there : (o : Object) (mark : Bool) (held : Held) → FoundBusy pool o mark old new held
      → FoundBusy pool held.object mark old new held
  found_there o mark held found = subst (λ (p : Object). FoundBusy pool p mark old new held) (sym found.object) found
