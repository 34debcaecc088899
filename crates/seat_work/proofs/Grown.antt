-- A seat whose own part got more entries: what its view weighs then, and what it spent.
use Rattle.std.proofs.Common.{◌≡◌, ℕ, ◌+◌, ◌-◌, ◌≤◌, List, [], ◌∷◌, ◌++◌, true, false, sym, ap, ◌∙◌, arith, append_assoc, append-nil}
use Rattle.std.specs.Prelude.{sum_by}
use Rattle.std.proofs.lemmas.List.Sums.{sum_by-cons, sum_by-append}
use Rattle.pool_law.specs.declared.id.RootId.{RootId}
use Rattle.pool_law.specs.declared.note.Did.{Did}
use Rattle.pool_law.specs.declared.note.Held.{Held}
use Rattle.pool_law.specs.declared.note.Noted.{Noted}
use Rattle.pool_law.specs.declared.note.Object.{Object}
use Rattle.pool_law.specs.declared.note.Object.TheVariants.{Mail, Root}
use Rattle.pool_law.specs.declared.note.RefDid.{RefDid}
use Rattle.pool_law.specs.Naming.{noted_by}
use Rattle.pool_table.specs.declared.views.Entry.{Entry}
use Rattle.pool_table.specs.declared.views.Entry.TheVariants.{At, Ref, Busy}
use Rattle.pool_table.specs.declared.views.Part.{Part}
use Rattle.pool_table.specs.declared.views.SeatView.{SeatView}
use Rattle.shared_pool.specs.declared.seat.PoolSeat.{PoolSeat}
use Rattle.pool_table.specs.Counts.{weigh, with_ref}
use Rattle.pool_table.specs.Learned.{in_own}
use Rattle.shared_pool.specs.SeatViews.{view_of, HasView}
use Rattle.pool_table.specs.Views.{with_entry}
use Rattle.shared_pool.specs.declared.pool.SharedPool.{SharedPool}
use Rattle.shared_pool.specs.Closing.{note_of}
use Rattle.pool_table.specs.Letters.{is_on_way, sent_as, sent_on}
use Rattle.shared_pool.specs.MailAnswers.{HasNotedAt}
use Rattle.shared_pool.specs.Notes.{plain}
use Rattle.shared_pool.specs.RootNotes.{IsNotedWith}
use Rattle.shared_pool.specs.Seats.{IsPoolSeat, IsNoted, FoundBusy}
use Rattle.seat_work.specs.Growth.{IsOneStep, HasMore}

-- no entry, and one, are what one step adds
pub one_none : IsOneStep []
one_none = record { sections = omega arith; counts = omega arith }

pub one_entry : (e : Entry) → IsOneStep (note_of e ∷ [])
one_entry (At o k n) = record { sections = omega arith; counts = omega arith }
one_entry (Ref r d) = record { sections = omega arith; counts = omega arith }
one_entry (Busy b) = record { sections = omega arith; counts = omega arith }

-- the view has these entries more, no part but its own, and spent at most so many moves
pub record Grows (v w : SeatView) (added : List Entry) (spent : ℕ) : Type 0 where
  pub more : HasMore v w added
  pub was_alone : v.others ≡ []
  pub alone : w.others ≡ []
  pub moves : v.moves ≤ w.moves + spent

-- a view with one part weighs what that part weighs
pub weigh_own : (f : Entry → ℕ) (v : SeatView) → v.others ≡ [] → weigh f v ≡ in_own f v
weigh_own f v alone =
    let g : Part → ℕ = λ (p : Part). sum_by f p.notes in
    let a : weigh f v ≡ g v.own + sum_by g v.others = sum_by-cons g v.own v.others in
    let b : sum_by g v.others ≡ 0 = ap (λ (ps : List Part). sum_by g ps) alone in omega (arith, a, b)

-- how many letters two lists of entries send
pub sent_append : (from to : ℕ) (xs ys : List Entry) →
    sent_on from to (xs ++ ys) ≡ sent_on from to xs + sent_on from to ys
sent_append from to xs ys = sum_by-append (sent_as (is_on_way from to)) xs ys

module _ (v w : SeatView) (added : List Entry) (spent : ℕ) (grows : Grows v w added spent) where
  pub own_more : (f : Entry → ℕ) → in_own f w ≡ in_own f v + sum_by f added
  own_more f = ap (λ (es : List Entry). sum_by f es) grows.more.notes ∙ sum_by-append f v.own.notes added

  pub weigh_more : (f : Entry → ℕ) → weigh f w ≡ weigh f v + sum_by f added
  weigh_more f =
      let a = weigh_own f w grows.alone in let b = weigh_own f v grows.was_alone in let c = own_more f in
      omega (arith, a, b, c)

module _ (pool : SharedPool) (old new : PoolSeat) (was : IsPoolSeat pool old)
    (is : IsPoolSeat pool new) where
  abbrev v : SeatView
  v = view_of old

  -- the entry of a note that the seat makes
  abbrev pub note_at : Object → ℕ → Noted → Entry
  note_at o number n = At o number (noted_by v.own.number n)

  grows_entry : (e : Entry) (t : ℕ) → v.turns ≤ t + 1 → view_of new ≡ with_entry v e t
      → Grows v (view_of new) (e ∷ []) 0
  grows_entry e t le view = record {
    more = record {
      notes = ap (λ (x : SeatView). x.own.notes) view;
      number = ap (λ (x : SeatView). x.own.number) view;
      setting = ap (λ (x : SeatView). x.setting) view;
      turns = (let a = ap (λ (x : SeatView). x.turns) view in omega (arith, a, le));
      one = one_entry e;
    };
    was_alone = was.alone;
    alone = is.alone;
    moves = (let a = ap (λ (x : SeatView). x.moves) view in omega (arith, a));
  }

  pub grows_noted : (o : Object) (number : ℕ) (n : Noted) → IsNoted pool old new o number n
      → Grows v (view_of new) (note_at o number n ∷ []) 0
  grows_noted o number n noted = grows_entry (note_at o number n) (v.turns - 1) (omega arith) (ap (λ m. m.0) noted.seat)

  -- the entry of a letter costs no turn
  pub grows_mailed : (from to number : ℕ) (did : Did) → HasNotedAt old new from to number did
      → Grows v (view_of new) (note_at (Mail from to) number (plain did) ∷ []) 0
  grows_mailed from to number did noted =
      grows_entry (note_at (Mail from to) number (plain did)) v.turns (omega arith) (ap (λ m. m.0) noted)

  pub grows_busy : (o : Object) (held : Held) → FoundBusy pool o true old new held
      → Grows v (view_of new) (Busy held ∷ []) 0
  grows_busy o held found = grows_entry (Busy held) v.turns (omega arith) (ap (λ m. m.0) found.marked)

  pub grows_held : (o : Object) (held : Held) → FoundBusy pool o false old new held → Grows v (view_of new) [] 0
  grows_held o held found =
      let view : view_of new ≡ v = ap (λ m. m.0) found.marked in
      record {
        more = record {
          notes = ap (λ (x : SeatView). x.own.notes) view ∙ sym (append-nil v.own.notes);
          number = ap (λ (x : SeatView). x.own.number) view;
          setting = ap (λ (x : SeatView). x.setting) view;
          turns = (let a = ap (λ (x : SeatView). x.turns) view in omega (arith, a));
          one = one_none;
        };
        was_alone = was.alone;
        alone = is.alone;
        moves = (let a = ap (λ (x : SeatView). x.moves) view in omega (arith, a));
      }

  pub grows_with : (root : RootId) (number : ℕ) (n : Noted) (step : RefDid) (moves spent : ℕ)
      → IsNotedWith pool old new root number n step moves → v.moves ≤ moves + spent →
      Grows v (view_of new) (note_at (Root root.place) number n ∷ Ref root step ∷ []) spent
  grows_with root number n step moves spent noted le =
      let e : Entry = note_at (Root root.place) number n in
      let view : view_of new ≡ with_ref (with_entry v e (v.turns - 1)) root step moves = ap (λ m. m.0) noted.seat in
      record {
        more = record {
          notes = ap (λ (x : SeatView). x.own.notes) view ∙ append_assoc v.own.notes (e ∷ []) (Ref root step ∷ []);
          number = ap (λ (x : SeatView). x.own.number) view;
          setting = ap (λ (x : SeatView). x.setting) view;
          turns = (let a = ap (λ (x : SeatView). x.turns) view in omega (arith, a));
          one = record { sections = omega arith; counts = omega arith };
        };
        was_alone = was.alone;
        alone = is.alone;
        moves = (let a = ap (λ (x : SeatView). x.moves) view in omega (arith, a, le));
      }

-- a view that is as it was, and one with a step on the word of a root more
pub grows_none : (pool : SharedPool) (old new : PoolSeat) → IsPoolSeat pool old → HasView new (view_of old)
    → Grows (view_of old) (view_of new) [] 0
grows_none pool old new was has =
    let view : view_of new ≡ view_of old = ap (λ m. m.0) has in
    record {
      more = record {
        notes = ap (λ (x : SeatView). x.own.notes) view ∙ sym (append-nil (view_of old).own.notes);
        number = ap (λ (x : SeatView). x.own.number) view;
        setting = ap (λ (x : SeatView). x.setting) view;
        turns = (let a = ap (λ (x : SeatView). x.turns) view in omega (arith, a));
        one = one_none;
      };
      was_alone = was.alone;
      alone = ap (λ (x : SeatView). x.others) view ∙ was.alone;
      moves = (let a = ap (λ (x : SeatView). x.moves) view in omega (arith, a));
    }

pub grows_ref : (pool : SharedPool) (old new : PoolSeat) → IsPoolSeat pool old → IsPoolSeat pool new
    → (r : RootId) (d : RefDid) (moves spent : ℕ) → HasView new (with_ref (view_of old) r d moves)
    → (view_of old).moves ≤ moves + spent → Grows (view_of old) (view_of new) (Ref r d ∷ []) spent
grows_ref pool old new was is r d moves spent has le =
    let view : view_of new ≡ with_ref (view_of old) r d moves = ap (λ m. m.0) has in
    record {
      more = record {
        notes = ap (λ (x : SeatView). x.own.notes) view;
        number = ap (λ (x : SeatView). x.own.number) view;
        setting = ap (λ (x : SeatView). x.setting) view;
        turns = (let a = ap (λ (x : SeatView). x.turns) view in omega (arith, a));
        one = one_entry (Ref r d);
      };
      was_alone = was.alone;
      alone = is.alone;
      moves = (let a = ap (λ (x : SeatView). x.moves) view in omega (arith, a, le));
    }
