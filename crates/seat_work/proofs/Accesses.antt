-- An access to a root: it changes neither counts nor hands, and sends nothing.
use Rattle.std.proofs.Common.{◌≡◌, ℕ, ◌-◌, List, [], ◌∷◌, ◌++◌, length, Option, refl, subst, arith}
use Rattle.pool_law.specs.declared.id.RootId.{RootId}
use Rattle.pool_law.specs.declared.note.Did.{Did}
use Rattle.pool_law.specs.declared.note.Noted.{Noted}
use Rattle.pool_law.specs.declared.note.Object.{Object}
use Rattle.pool_law.specs.declared.note.Object.TheVariants.{Root}
use Rattle.pool_law.specs.Naming.{noted_by}
use Rattle.pool_law.specs.Roots.{bytes_at}
use Rattle.shared_pool.specs.declared.seat.PoolSeat.{PoolSeat}
use Rattle.pool_table.specs.declared.views.Entry.{Entry}
use Rattle.pool_table.specs.declared.views.Entry.TheVariants.{At}
use Rattle.pool_table.specs.declared.views.SeatView.{SeatView}
use Rattle.pool_table.specs.Counts.{HasCount}
use Rattle.pool_table.specs.Lone.{IsLone, own_bytes}
use Rattle.pool_table.specs.Numbers.{IsAbove}
use Rattle.shared_pool.specs.SeatViews.{view_of, HasView}
use Rattle.pool_table.specs.Views.{with_entry}
use Rattle.history_laws.specs.Histories.{IsLawful}
use Rattle.shared_pool.specs.declared.pool.SharedPool.{SharedPool}
use Rattle.pool_table.specs.Letters.{sent_on}
use Rattle.shared_pool.specs.RootNotes.{access, IsSetOver}
use Rattle.shared_pool.specs.Seats.{IsPoolSeat, IsNoted}
use Rattle.seat_work.specs.Hands.{empty_hand, lane_in}
use Rattle.seat_work.specs.Changes.{no_change}
use Rattle.seat_work.specs.Works.{Works, Proceeds}
use Rattle.seat_work.proofs.Calls.{proceeds_noted}
use Rattle.seat_work.proofs.Counting.{Tells, still_counts}
use Rattle.seat_work.proofs.HandLaws.{Carries}
use Rattle.seat_work.proofs.Proceeding.{works_same, proceeds_same}

module _ (root : RootId) (number : ℕ) (lane : Option ℕ) where
  abbrev entries : Did → List Entry
  entries did = At (Root root.place) number (noted_by lane (access root did)) ∷ []

  pub record IsQuiet (did : Did) : Type 0 where
    pub carries : (m : ℕ) → Carries m empty_hand empty_hand (entries did)
    pub tells : Tells no_change (entries did)
    pub unsent : (m to : ℕ) → sent_on m to (entries did) ≡ 0

  pub set_quiet : (offset : ℕ) (bytes : List ℕ) → IsQuiet (Did.Set offset bytes)
  set_quiet offset bytes = record {
    carries = λ m. record {
      places = λ q. omega arith;
      births = λ q. refl;
      regions = λ q. omega arith;
      uses = λ q. omega arith;
      tokens = λ q. omega arith;
      ended = λ q. refl;
      quotas = λ class. refl;
      closes = λ class. refl;
    };
    tells = record { counts = λ q. refl; ended = λ q. refl; empty = refl; full = refl };
    unsent = λ m to. refl;
  }

  pub get_quiet : (offset : ℕ) (bytes : List ℕ) → IsQuiet (Did.Get offset bytes)
  get_quiet offset bytes = record {
    carries = λ m. record {
      places = λ q. omega arith;
      births = λ q. refl;
      regions = λ q. omega arith;
      uses = λ q. omega arith;
      tokens = λ q. omega arith;
      ended = λ q. refl;
      quotas = λ class. refl;
      closes = λ class. refl;
    };
    tells = record { counts = λ q. refl; ended = λ q. refl; empty = refl; full = refl };
    unsent = λ m to. refl;
  }

  pub touch_quiet : IsQuiet Did.Touch
  touch_quiet = record {
    carries = λ m. record {
      places = λ q. omega arith;
      births = λ q. refl;
      regions = λ q. omega arith;
      uses = λ q. omega arith;
      tokens = λ q. omega arith;
      ended = λ q. refl;
      quotas = λ class. refl;
      closes = λ class. refl;
    };
    tells = record { counts = λ q. refl; ended = λ q. refl; empty = refl; full = refl };
    unsent = λ m to. refl;
  }

-- what an access leaves
pub record IsAccessed (pool : SharedPool) (old new : PoolSeat) (root : RootId)
    (number : ℕ) (did : Did) : Type 0 where
  pub proceeds : Proceeds pool empty_hand 1 0 no_change old new
  pub counts : HasCount root (view_of new)
  pub noted : IsNoted pool old new (Root root.place) number (access root did)

-- the note of a call is the next of any seat with the same view
pub noted_same : (pool : SharedPool) (old mid new : PoolSeat) (number : ℕ)
    (o : SeatView → Object) (n : Noted) → view_of mid ≡ view_of old
    → IsNoted pool mid new (o (view_of mid)) number n → IsNoted pool old new (o (view_of old)) number n
noted_same pool old mid new number o n same noted = record {
  history = noted.history;
  number_is = noted.number_is;
  accepted =
      subst (λ (v : SeatView). IsLawful pool.table.layout.shape (o v)
      (noted.history ++ noted_by v.own.number n ∷ [])) same noted.accepted;
  above = subst (λ (v : SeatView). IsAbove (o v) number v.own.notes) same noted.above;
  seat =
      subst (λ (v : SeatView).
      HasView new (with_entry v (At (o v) number (noted_by v.own.number n)) (v.turns - 1)))
      same noted.seat;
}

-- so is the note of a set over other bytes
pub set_same : (pool : SharedPool) (old mid new : PoolSeat) (root : RootId) (number offset : ℕ) (before bytes : List ℕ)
    → view_of mid ≡ view_of old → IsSetOver pool mid new root number offset before bytes
    → IsSetOver pool old new root number offset before bytes
unfolding noted_same
set_same pool old mid new root number offset before bytes same over = let n = access root (Did.Set offset bytes) in
    record {
      noted = noted_same pool old mid new number (λ v. Root root.place) n same over.noted;
      there =
          subst (λ (v : SeatView). IsLawful pool.table.layout.shape (Root root.place)
          (over.noted.history ++ noted_by v.own.number (access root (Did.Get offset before)) ∷ [])) same over.there;
      lone =
          subst (λ (v : SeatView). IsLone root v → before ≡ bytes_at (own_bytes root v) offset (length before)) same
          over.lone;
    }

module _ (pool : SharedPool) (old mid new : PoolSeat) (root : RootId) (number : ℕ)
    (did : Did) (seat : IsPoolSeat pool mid) (same : view_of mid ≡ view_of old) where
  pub accessed : IsPoolSeat pool new → Works pool empty_hand 1 0 old → HasCount root (view_of old)
      → IsQuiet root number (view_of mid).own.number did
      → IsNoted pool mid new (Root root.place) number (access root did) → IsAccessed pool old new root number did
  accessed is works counts quiet noted =
      let here = works_same pool empty_hand 1 0 old mid seat same works in let v = view_of mid in
      let one = proceeds_noted pool mid new is number empty_hand empty_hand no_change (Root root.place)
      (access root did) here noted (quiet.carries (lane_in v)) quiet.tells here.paid
      (λ to. (let a = quiet.unsent (lane_in v) to in omega (arith, a))) in
      let all = proceeds_same pool no_change empty_hand 1 0 old mid new same one in
      record {
        proceeds = all;
        counts = still_counts no_change (view_of old) (view_of new) root refl all.changes counts;
        noted = noted_same pool old mid new number (λ v. Root root.place) (access root did) same noted;
      }
