-- How the law reads on what a seat adds, step by step.
use Rattle.std.proofs.Common.{◌≡◌, ℕ, ◌+◌, List, [], ◌∷◌, ◌++◌, Option, true, length, sym, ap, ◌∙◌, subst, append-nil, append_assoc}
use Rattle.std.specs.Prelude.{Result, Ok, Err, map, unwrap_or}
use Rattle.std.proofs.lemmas.List.{map-append}
use Rattle.pool_law.specs.declared.id.RootId.{RootId}
use Rattle.pool_law.specs.declared.note.Held.{Held}
use Rattle.pool_law.specs.declared.note.Noted.{Noted}
use Rattle.pool_law.specs.declared.note.Object.{Object}
use Rattle.pool_law.specs.declared.report.Watch.{Watch}
use Rattle.pool_law.specs.declared.run.Reply.{Reply}
use Rattle.pool_law.specs.Naming.{noted_by}
use Rattle.pool_law.specs.Patterns.{New}
use Rattle.pool_law.specs.Readers.{ToldNotes, Log, Reader, ◌>>=◌, give}
use Rattle.pool_table.specs.declared.views.Entry.{Entry}
use Rattle.pool_table.specs.declared.views.Entry.TheVariants.{At, Busy}
use Rattle.pool_table.specs.declared.views.SeatView.{SeatView}
use Rattle.shared_pool.specs.Closing.{entry_of}
use Rattle.shared_pool.specs.declared.pool.SharedPool.{SharedPool}
use Rattle.shared_pool.specs.declared.seat.PoolSeat.{PoolSeat}
use Rattle.shared_pool.specs.SeatLanes.{lane_of}
use Rattle.shared_pool.specs.Seats.{IsNoted, FoundBusy}
use Rattle.shared_pool.specs.SeatViews.{view_of}
use Rattle.seat_work.specs.declared.allocation.AllocNo.{AllocNo}
use Rattle.seat_work.specs.declared.allocation.AllocNo.TheVariants.{NoHandle, Full, Worn}
use Rattle.seat_work.specs.Answers.{Allots, Bears}
use Rattle.seat_work.specs.Readings.{NotesAs, NotesOn, ReadsOn}
use Rattle.seat_work.proofs.Later.{behind}
use Rattle.seat_work.proofs.ReadLaws.{given_on, none_asked, on_append, then_on}

-- ---- One reading after another.

module _ {A : Type 0} (r q : Reader A) (u v : SeatView) where
  pub notes_on : (t : Reader A) (w : SeatView) → NotesOn r q u v → NotesOn q t v w → NotesOn r t u w
  notes_on t w x y = record {
    added = x.added ++ y.added;
    notes =
        y.notes ∙ ap (λ (es : List Entry). es ++ y.added) x.notes ∙ append_assoc u.own.notes x.added y.added;
    asks = λ n. y.asks (x.asks n);
    reads =
        subst (λ (es : ToldNotes). ReadsOn r es (λ n. y.asks (x.asks n)) t) (sym (map-append entry_of x.added y.added))
        (on_append r q t (map entry_of x.added) (map entry_of y.added) x.asks y.asks x.reads y.reads);
  }

  pub notes_then : {B : Type 0} (f : A → Reader B) → NotesOn r q u v → NotesOn (r >>= f) (q >>= f) u v
  notes_then f x = record {
    added = x.added;
    notes = x.notes;
    asks = x.asks;
    reads = then_on r (map entry_of x.added) x.asks f q x.reads;
  }

  -- a reading that does as the first, and one that does as the last
  pub notes_from : (t : Reader A) → ((log : Log) → t log ≡ r log) → NotesOn r q u v → NotesOn t q u v
  notes_from t same x = record {
    added = x.added;
    notes = x.notes;
    asks = x.asks;
    reads = λ log. same _ ∙ x.reads log;
  }

  pub notes_to : (t : Reader A) → ((log : Log) → q log ≡ t log) → NotesOn r q u v → NotesOn r t u v
  notes_to t same x = record {
    added = x.added;
    notes = x.notes;
    asks = x.asks;
    reads = λ log. x.reads log ∙ same _;
  }

  -- one entry
  pub notes_one : (e : Entry) (asks : ℕ → ℕ) → v.own.notes ≡ u.own.notes ++ e ∷ []
      → ReadsOn r (entry_of e ∷ []) asks q → NotesOn r q u v
  notes_one e asks is on = record { added = e ∷ []; notes = is; asks = asks; reads = on }

pub notes_given : {A B : Type 0} (r : Reader A) (a : A) (f : A → Reader B) (u v : SeatView) → NotesAs r a u v
    → NotesOn (r >>= f) (f a) u v
notes_given r a f u v x = record {
  added = x.added;
  notes = x.notes;
  asks = x.asks;
  reads = given_on r (map entry_of x.added) x.asks f a x.reads;
}

-- nothing is added
pub notes_none : {A : Type 0} (r : Reader A) (u v : SeatView) → v ≡ u → NotesOn r r u v
notes_none r u v same = record {
  added = [];
  notes = ap (λ (w : SeatView). w.own.notes) same ∙ sym (append-nil u.own.notes);
  asks = none_asked;
  reads =
      λ log. ap (λ (seen : ToldNotes). r (record { seen = seen; asked = log.asked; left = log.left }))
      (sym (append-nil log.seen));
}

-- ---- What a call adds.

pub one_noted : (pool : SharedPool) (old new : PoolSeat) (o : Object) (number : ℕ) (n : Noted)
    → IsNoted pool old new o number n
    → (view_of new).own.notes ≡ (view_of old).own.notes ++ At o number (noted_by (view_of old).own.number n) ∷ []
one_noted pool old new o number n noted = ap (λ m. m.0.own.notes) noted.seat

pub one_marked : (pool : SharedPool) (old new : PoolSeat) (o : Object) (held : Held)
    → FoundBusy pool o true old new held → (view_of new).own.notes ≡ (view_of old).own.notes ++ Busy held ∷ []
one_marked pool old new o held found = ap (λ m. m.0.own.notes) found.marked

-- the lane stays
pub same_lane : (old new : PoolSeat) → (view_of new).own.number ≡ (view_of old).own.number → lane_of new ≡ lane_of old
same_lane old new same = ap (λ (n : Option ℕ). unwrap_or n 0) same

-- ---- The same of an allocation.

module _ (r q : Reader (Result New Reply)) (class : ℕ) (watch : Option Watch) (u v w : SeatView) where
  pub bears_behind : (root : RootId) → NotesOn r q u v → Bears q class watch root v w → Bears r class watch root u w
  unfolding notes_on
  bears_behind root x y = record {
    region = y.region;
    class_is = y.class_is;
    notes = notes_on r q u v (give _) w x y.notes;
    born = record {
      at = length x.added + y.born.at;
      number = y.born.number;
      lane = y.born.lane;
      stands = behind x.added y.notes.added y.born.at ∙ y.born.stands;
    };
  }

  pub allots_on : (answer : Result RootId AllocNo) → NotesOn r q u v → Allots q class watch answer v w
      → Allots r class watch answer u w
  allots_on (Ok root) x y = bears_behind root x y
  allots_on (Err NoHandle) x y = notes_on r q u v (give (Err Reply.Handles)) w x y
  allots_on (Err Full) x y = notes_on r q u v (give (Err Reply.Full)) w x y
  allots_on (Err Worn) x y = tt

-- a reading that does as another
module _ (r q : Reader (Result New Reply)) (class : ℕ) (watch : Option Watch) (u v : SeatView)
    (same : (log : Log) → r log ≡ q log) where
  pub bears_from : (root : RootId) → Bears q class watch root u v → Bears r class watch root u v
  unfolding notes_from
  bears_from root y = record {
    region = y.region;
    class_is = y.class_is;
    notes = notes_from q (give _) u v r same y.notes;
    born = y.born;
  }

  pub allots_from : (answer : Result RootId AllocNo) → Allots q class watch answer u v → Allots r class watch answer u v
  allots_from (Ok root) y = bears_from root y
  allots_from (Err NoHandle) y = notes_from q (give (Err Reply.Handles)) u v r same y
  allots_from (Err Full) y = notes_from q (give (Err Reply.Full)) u v r same y
  allots_from (Err Worn) y = tt
