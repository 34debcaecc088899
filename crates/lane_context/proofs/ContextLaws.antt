-- What a context with room may note and answer, and how its log is read and its budget spent.
use Rattle.std.proofs.Common.{◌≡◌, ℕ, ◌+◌, ◌<◌, ◌≤◌, List, [], ◌∷◌, ◌++◌, length, map, sym, ap, ◌∙◌, subst, arith, length-append}
use Rattle.std.specs.Prelude.{vec_capacity}
use Rattle.std.proofs.lemmas.List.{map-append, length-map}
use Rattle.pool_law.specs.declared.note.Note.{Note}
use Rattle.pool_law.specs.Readers.{ToldNotes, Reader}
use Rattle.leak_records.specs.Records.{Sampling}
use Rattle.shared_pool.specs.declared.seat.PoolSeat.{PoolSeat}
use Rattle.pool_table.specs.declared.views.Entry.{Entry}
use Rattle.pool_table.specs.declared.views.Entry.TheVariants.{At, Ref, Busy}
use Rattle.shared_pool.specs.SeatViews.{view_of, SameSeat, HasView}
use Rattle.shared_pool.specs.declared.pool.SharedPool.{SharedPool}
use Rattle.shared_pool.specs.Closing.{note_of, entry_of}
use Rattle.shared_pool.specs.Seats.{IsPoolSeat}
use Rattle.lane_context.specs.declared.context.Context.{Context}
use Rattle.lane_stages.specs.Budgets.{Left, Spends, with_sheds}
use Rattle.seat_work.specs.Hands.{Hand, empty_hand, IsHeld}
use Rattle.lane_stages.specs.Sampled.{AreSampled, sampler_after}
use Rattle.lane_context.specs.Contexts.{IsContext, notes_of, entries_of, log_of, SpendsAt, HasRoomFor}
use Rattle.seat_work.specs.Readings.{ReadsOn}
use Rattle.lane_context.specs.ContextSteps.{HasNoted, CanAnswer, MayTurn}
use Rattle.seat_work.proofs.Grown.{Grows, grows_none}

pub sampled_append : (first mid last : Sampling) (xs ys : List Entry) → AreSampled first xs mid → AreSampled mid ys last
    → AreSampled first (xs ++ ys) last
sampled_append first mid last [] ys a b = subst (λ (s : Sampling). AreSampled s ys last) (sym a) b
sampled_append first mid last (At o k n ∷ xs) ys a b =
    (a.0, sampled_append (sampler_after first n.did) mid last xs ys a.1 b)
sampled_append first mid last (Ref r d ∷ xs) ys a b = sampled_append first mid last xs ys a b
sampled_append first mid last (Busy h ∷ xs) ys a b = sampled_append first mid last xs ys a b

-- what a step of a lane context's seat came to: these entries more, and this in hand
pub record Advances (pool : SharedPool) (old new : PoolSeat) (after : Hand) (added : List Entry)
    (spent : ℕ) : Type 0 where
  pub same : SameSeat old new
  pub seat : IsPoolSeat pool new
  pub grows : Grows (view_of old) (view_of new) added spent
  pub held : IsHeld after (view_of new)

pub advances_none : (pool : SharedPool) (old new : PoolSeat) (hand : Hand) → IsPoolSeat pool old
    → IsHeld hand (view_of old) → SameSeat old new → IsPoolSeat pool new → HasView new (view_of old)
    → Advances pool old new hand [] 0
advances_none pool old new hand was held same seat has =
    record {
      same = same;
      seat = seat;
      grows = grows_none pool old new was has;
      held =
          subst (IsHeld hand) (sym (ap (λ m. m.0) has)) held;
    }

-- a context that may turn can answer
pub can_answer : (pool : SharedPool) (left : Left) (d : Context) → MayTurn pool left d → CanAnswer d
can_answer pool left d may =
    let same : length d.notes.items ≡ length (notes_of d) = ap (λ (ns : List Note). length ns) may.context.log
    ∙ length-map (notes_of d) note_of in
    record {
      begun = (let a = may.context.begun in omega (arith, same, a));
      few = (let a = may.room.few in omega (arith, same, a));
      room = may.replies;
    }

-- a context with room for a note can note, and answer behind it
module _ (pool : SharedPool) (left : Left) (old : Context) (d : IsContext pool empty_hand old)
    (room : HasRoomFor pool old left) (some : 1 ≤ left.notes) where
  noted_length : length old.notes.items ≡ length (notes_of old)
  noted_length = ap (λ (ns : List Note). length ns) d.log ∙ length-map (notes_of old) note_of

  pub room_to_note : length old.notes.items < vec_capacity old.notes
  room_to_note = let a = noted_length in let b = room.notes in omega (arith, a, b, some)

  pub turn_left : 0 < (view_of old.seat).turns
  turn_left = let a = room.turns in omega (arith, a, some)

module _ (pool : SharedPool) (left : Left) (old : Context) (may : MayTurn pool left old) (some : 1 ≤ left.notes) where
  pub note_room : length old.notes.items < vec_capacity old.notes
  note_room = room_to_note pool left old may.context may.room some

  pub can_answer_noted : (start mid : Context) (note : Note) → HasNoted start mid (note ∷ [])
      → start ≡ record old { seat = start.seat; counts = start.counts; sampler = start.sampler; asked = start.asked }
      → CanAnswer mid
  can_answer_noted start mid note noted start_is =
      let path : mid ≡ record old {
        seat = start.seat;
        counts = start.counts;
        sampler = start.sampler;
        notes =
            mid.notes;
        asked = start.asked;
      } = noted.rest ∙ ap (λ (x : Context). record x { notes = mid.notes }) start_is in
      let a = noted_length pool left old may.context may.room some in let b = may.room.few in
      let c = ap (λ (ns : List Note). length ns) noted.log in let d = length-append start.notes.items (note ∷ []) in
      let e = ap (λ (x : Context). length x.notes.items) start_is in let g = may.context.begun in
      let h = ap (λ (x : Context). x.begun) path in
      record {
        begun = omega (arith, a, b, c, d, e, g, h);
        few = omega (arith, a, b, c, d, e, some);
        room = subst (λ (x : Context). length x.replies.items < vec_capacity x.replies) (sym path) may.replies;
      }

-- ---- The log as a context has read it.

-- the entries of a context that noted more
pub entries_more : (old new : Context) (added : List Entry) → notes_of new ≡ notes_of old ++ added
    → entries_of new ≡ entries_of old ++ map entry_of added
entries_more old new added more = ap (map entry_of) more ∙ map-append entry_of (notes_of old) added

-- what is read over them goes from the one lane context's log to the other's
pub reads_at : (old new : Context) (es : ToldNotes) (asks : ℕ → ℕ) → entries_of new ≡ entries_of old ++ es
    → new.asked ≡ asks old.asked → {A : Type 0} (before after : Reader A) → ReadsOn before es asks after →
    (rest : ToldNotes) → before (log_of old (es ++ rest)) ≡ after (log_of new rest)
reads_at old new es asks more asked before after on rest =
    on (log_of old rest) ∙ (λ i. after (record { seen = sym more i; asked = sym asked i; left = rest }))

-- ---- What a turn spends.

-- what a seat spent, a context did that began no sweep
pub spends_at : (old new : Context) (before after : Left) → Spends (view_of old.seat) (view_of new.seat) before after
    → after.asks + new.asked ≤ before.asks + old.asked →
    SpendsAt old new (with_sheds (view_of old.seat) before) (with_sheds (view_of new.seat) after)
spends_at old new before after spent asks = record {
  sweeps = 0;
  notes = (let a = spent.notes in let b = spent.takes in omega (arith, a, b));
  asks = omega (arith, asks);
  moves = spent.moves;
  sends = spent.sends;
}
