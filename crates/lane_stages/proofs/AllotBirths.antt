-- The birth of a root, at the end of an allocation.
use Rattle.std.proofs.Common.{◌≡◌, ℕ, ◌+◌, ◌*◌, ◌<◌, List, [], ◌∷◌, refl, sym, ap, subst, arith}
use Rattle.std.specs.Global.{Vec}
use Rattle.pool_law.specs.declared.id.Region.{Region}
use Rattle.pool_law.specs.declared.id.RootId.{RootId}
use Rattle.pool_law.specs.declared.note.Did.{Did}
use Rattle.pool_law.specs.declared.note.Note.{Note}
use Rattle.pool_law.specs.declared.note.Noted.{Noted}
use Rattle.pool_law.specs.declared.note.Object.TheVariants.{Root}
use Rattle.pool_law.specs.declared.note.RefDid.TheVariants.{Born}
use Rattle.pool_law.specs.declared.run.Shape.{Shape}
use Rattle.leak_records.specs.Records.{Sampling, with_birth, watch_of}
use Rattle.handle_bin.specs.Bins.{HandleValue}
use Rattle.pool_table.specs.declared.views.Entry.{Entry}
use Rattle.pool_table.specs.declared.views.Entry.TheVariants.{Ref}
use Rattle.pool_table.specs.declared.views.SeatView.{SeatView}
use Rattle.shared_pool.specs.declared.seat.PoolSeat.{PoolSeat}
use Rattle.shared_pool.specs.SeatViews.{view_of, SameSeat}
use Rattle.shared_pool.specs.declared.pool.SharedPool.{SharedPool}
use Rattle.shared_pool.specs.Closing.{entry_of}
use Rattle.shared_pool.specs.RootNotes.{birth, IsNotedWith}
use Rattle.shared_pool.specs.SeatLanes.{lane_of}
use Rattle.shared_pool.specs.Seats.{IsPoolSeat}
use Rattle.lane_stages.specs.Logs.{HasWritten}
use Rattle.lane_stages.specs.declared.allotment.Allotting.TheVariants.{Birth}
use Rattle.lane_stages.specs.declared.allotment.Allotted.TheVariants.{New as NewRoot}
use Rattle.lane_stages.specs.declared.stage_step.StageStep.TheVariants.{Done}
use Rattle.seat_work.specs.Hands.{empty_hand}
use Rattle.lane_stages.specs.Allotments.{MayAllot, HasAllotted, hand_of, left_of, left_after}
use Rattle.lane_stages.proofs.SeatCounts.{born_added}
use Rattle.seat_work.proofs.Grown.{Grows, note_at, grows_with}
use Rattle.lane_stages.proofs.Grown.{spends}
use Rattle.seat_work.proofs.HandLaws.{held_on}
use Rattle.seat_work.proofs.HandNotes.{both_born}
use Rattle.lane_stages.proofs.Readings.{read_born}

module _ (pool : SharedPool) (old new : PoolSeat) (class : ℕ)
    (is : IsPoolSeat pool new) (same : SameSeat old new) where
  abbrev shape : Shape
  shape = pool.table.layout.shape

  abbrev lane : ℕ
  lane = lane_of old

  abbrev v : SeatView
  v = view_of old

  abbrev w : SeatView
  w = view_of new

  -- a root is born
  pub root_born : (h : HandleValue) (r : Region) (root : RootId) (number size : ℕ) (first last : Sampling)
      (born step : Note) (log later : Vec Note) → HasWritten log later (born ∷ step ∷ [])
      → MayAllot pool old class (Birth h r) →
      IsNotedWith pool old new root number (birth root r.id (watch_of last)) Born v.moves → root.place ≡ h.place
      → root.capacity ≡ size → last ≡ with_birth first →
      born ≡ Note.At (Root root.place) number (Did.Birth root (record r.id { uses = r.id.uses + 1 }))
      → step ≡ Note.Ref root Born →
      HasAllotted pool old new first last log later size class (Birth h r)
      (Done (NewRoot root (record r.id { uses = r.id.uses + 1 })))
  root_born h r root number size first last born step log later adds may noted at long sampled it next_it =
      let n : Noted = birth root r.id (watch_of last) in let e : Entry =
      note_at pool old new may.seat_is is (Root root.place) number n in let es : List Entry =
      e ∷ Ref root Born ∷ [] in
      let grows : Grows v w es 1 = grows_with pool old new may.seat_is is root number n Born v.moves 1 noted
      (omega arith) in
      record {
        written = born ∷ step ∷ [];
        log = adds;
        wrote = record {
          added = es;
          same = same;
          seat = is;
          more = grows.more;
          noted = λ i. sym it i ∷ sym next_it i ∷ [];
          sampled = (ap watch_of sampled, sym sampled);
          read =
              read_born shape lane size class h.place number (entry_of e) root r.id (entry_of (Ref root Born)) at long
              refl refl;
        };
        hand =
            held_on v w es 1 (hand_of (Birth h r)) empty_hand grows
            (both_born lane number v.own.number empty_hand root r.id (watch_of last) h.place at) may.hand;
        fits = tt;
        again = omega arith;
        counts =
            born_added (entry_of e) root (record
            { gains = λ q. refl; loses = λ q. refl; needs = λ q. refl; ends = λ q. refl }) refl;
        place = (subst (λ (p : ℕ). p < shape.lanes * shape.handles) (sym at) may.fits.0.place, long);
        spends =
            spends v w es 1 grows (left_of (Birth h r))
            (left_after (Done (NewRoot root (record r.id { uses = r.id.uses + 1 })))) (omega arith) (omega arith)
            (omega arith) (λ to. omega arith);
        asked = λ n. omega arith;
      }
