-- The roots that a thread alone has, behind its steps.
use Rattle.std.proofs.Common.{◌≡◌, ◌≢◌, ℕ, List, [], Bool, false, length, Option, Some, None, refl, sym, ap, ◌∙◌, subst, ⊎_elim}
use Rattle.std.specs.Prelude.{IfSome, if◌then◌else◌}
use Rattle.std.proofs.lemmas.List.Sums.{fold_push}
use Rattle.history_laws.proofs.Names.{same_root-or}
use Rattle.pool_law.specs.declared.id.Parcel.{Parcel}
use Rattle.pool_law.specs.declared.id.RootId.{RootId}
use Rattle.pool_law.specs.declared.id.ViewData.{ViewData}
use Rattle.pool_law.specs.declared.note.Did.{Did}
use Rattle.pool_law.specs.declared.note.Noted.{Noted}
use Rattle.pool_law.specs.declared.note.Object.{Object}
use Rattle.pool_law.specs.declared.note.Object.TheVariants.{Root}
use Rattle.pool_law.specs.declared.note.RefDid.{RefDid}
use Rattle.pool_law.specs.Roots.{bytes_at, laid_over}
use Rattle.pool_law.specs.Same.{same_root}
use Rattle.history_laws.specs.NoteCounts.{did_post_of}
use Rattle.pool_table.specs.Counts.{with_ref}
use Rattle.pool_table.specs.Lone.{laid_by, laid_in, own_bytes, IsLone}
use Rattle.pool_table.specs.Views.{with_entry}
use Rattle.pool_table.specs.declared.views.Entry.{Entry}
use Rattle.pool_table.specs.declared.views.Entry.TheVariants.{Ref}
use Rattle.pool_table.specs.declared.views.SeatView.{SeatView}
use Rattle.shared_pool.proofs.LoneSeats.{lone_entry, lone_noted, lone_ref, other_posted, own_noted, own_written}
use Rattle.shared_pool.proofs.MailWays.{fetch_entry, post_entry}
use Rattle.shared_pool.specs.declared.pool.SharedPool.{SharedPool}
use Rattle.shared_pool.specs.declared.seat.PoolSeat.{PoolSeat}
use Rattle.shared_pool.specs.MailAnswers.{IsFetched, IsPosted}
use Rattle.shared_pool.specs.RootNotes.{access}
use Rattle.shared_pool.specs.SeatLanes.{lane_of}
use Rattle.shared_pool.specs.SeatViews.{HasView, view_of}
use Rattle.shared_pool.specs.Seats.{IsNoted}
use Rattle.pool_member.specs.declared.member.Member.{Member}
use Rattle.pool_member.specs.Alone.{AreLaid, KeepsAlone, LaysOver}

-- all that the seat alone has it has still, and the bytes are as they were, but for those of a root
pub record Stays (but : Option RootId) (old new : PoolSeat) : Type 0 where
  pub alone : (root : RootId) → IsLone root (view_of old) → IsLone root (view_of new)
  pub laid : (root : RootId) → but ≢ Some root → IsLone root (view_of old)
      → own_bytes root (view_of new) ≡ own_bytes root (view_of old)

pub not_none : (root : RootId) → None ≢ Some root
not_none root e = absurd (cc e)

module _ (but : Option RootId) where
  pub keeps : (old new : Member) → Stays but old.seat new.seat → KeepsAlone but old new
  keeps old new stays root ne alone = (stays.alone root alone, stays.laid root ne alone)

  pub keeps_on : (old mid new : Member) → KeepsAlone None old mid → KeepsAlone but mid new → KeepsAlone but old new
  keeps_on old mid new x y root ne alone =
      let a = x root (not_none root) alone in let b = y root ne a.0 in (b.0, b.1 ∙ a.1)

  -- a seat that knows what it knew
  pub stays_same : (old new : PoolSeat) → view_of new ≡ view_of old → Stays but old new
  stays_same old new same = record {
    alone = λ root alone. subst (λ (v : SeatView). IsLone root v) (sym same) alone;
    laid = λ root ne alone. ap (λ (v : SeatView). own_bytes root v) same;
  }

  -- a step on the count of a root
  pub stays_ref : (old new : PoolSeat) (q : RootId) (d : RefDid) (moves : ℕ)
      → HasView new (with_ref (view_of old) q d moves) → Stays but old new
  stays_ref old new q d moves has =
      let v = view_of old in let is : view_of new ≡ with_ref v q d moves = λ i. (has i).0 in
      record {
        alone = λ root alone. subst (λ (w : SeatView). IsLone root w) (sym is) (lone_ref root v q d moves alone);
        laid =
            λ root ne alone.
            ap (λ (w : SeatView). own_bytes root w) is ∙ fold_push (laid_in root) [] v.own.notes (Ref q d);
      }

  -- a note that passes no parcel and lays nothing in another root
  pub stays_noted : (pool : SharedPool) (old new : PoolSeat) (o : Object) (number : ℕ) (n : Noted)
      → IsNoted pool old new o number n → ((root : RootId) → did_post_of root n.did ≡ 0)
      → ((root : RootId) → but ≢ Some root → (bytes : List ℕ) → laid_by root bytes n.root n.did ≡ bytes)
      → Stays but old new
  stays_noted pool old new o number n noted none same = record {
    alone = λ root alone. lone_noted pool old new o number n root noted (none root) alone;
    laid =
        λ root ne alone.
        own_noted pool old new o number n root noted ∙ same root ne (own_bytes root (view_of old));
  }

-- ---- Accesses.

-- another root than this one
pub apart : (root other : RootId) → Some root ≢ Some other → same_root root other ≡ false
apart root other ne = ⊎_elim
    (λ t. absurd (ne (ap (λ (r : RootId). Some r) t.1)))
    (λ (e : same_root root other ≡ false). e)
    (same_root-or root other)

module _ (pool : SharedPool) (old new : PoolSeat) (root : RootId) (number : ℕ) where
  pub stays_set : (offset : ℕ) (bytes : List ℕ)
      → IsNoted pool old new (Root root.place) number (access root (Did.Set offset bytes)) → Stays (Some root) old new
  stays_set offset bytes noted = stays_noted (Some root) pool old new (Root root.place) number
      (access root (Did.Set offset bytes)) noted (λ q. refl)
      (λ q ne before. ap (λ (b : Bool). if b then laid_over before offset bytes else before) (apart root q ne))

  pub stays_got : (offset : ℕ) (bytes : List ℕ)
      → IsNoted pool old new (Root root.place) number (access root (Did.Get offset bytes)) → Stays None old new
  stays_got offset bytes noted = stays_noted None pool old new (Root root.place) number
      (access root (Did.Get offset bytes)) noted (λ q. refl) (λ q ne before. refl)

  pub stays_touched : IsNoted pool old new (Root root.place) number (access root Did.Touch) → Stays None old new
  stays_touched noted = stays_noted None pool old new (Root root.place) number (access root Did.Touch) noted
      (λ q. refl) (λ q ne before. refl)

-- what was set is laid over what was there
pub lays_over : (pool : SharedPool) (old new : Member) (root : RootId) (number offset : ℕ) (bytes : List ℕ)
    → IsNoted pool old.seat new.seat (Root root.place) number (access root (Did.Set offset bytes))
    → LaysOver root offset bytes old new
lays_over pool old new root number offset bytes noted alone = (
  (stays_set pool old.seat new.seat root number offset bytes noted).alone root alone,
  own_written pool old.seat new.seat number offset bytes root noted,
)

-- ---- Parcels.

module _ (old new : Member) where
  -- one that passes another root
  pub keeps_posted : (to number : ℕ) (parcel : Parcel) (root : RootId) → IfSome parcel.view (λ w. w.root ≡ root)
      → IsPosted old.seat new.seat to number parcel → KeepsAlone (Some root) old new
  keeps_posted to number parcel root at noted q ne alone =
      let v = view_of old.seat in
      let e : Entry = post_entry (lane_of old.seat) to number v.own.number parcel in
      let is : view_of new.seat ≡ with_entry v e v.turns = λ i. (noted.noted i).0 in (
        subst (λ (w : SeatView). IsLone q w) (sym is)
            (lone_entry q v e v.turns (other_posted q parcel (other parcel at)) alone),
        ap (λ (w : SeatView). own_bytes q w) is ∙ fold_push (laid_in q) [] v.own.notes e,
      )
    where
      other : (p : Parcel) → IfSome p.view (λ w. w.root ≡ root) → IfSome p.view (λ w. w.root ≢ q)
      other p at = by p.view at
        where
          by : (o : Option ViewData) → IfSome o (λ w. w.root ≡ root) → IfSome o (λ w. w.root ≢ q)
          by None at = tt
          by (Some w) at = λ same. ne (ap (λ (r : RootId). Some r) (sym at ∙ same))

  pub stays_fetched : (from number : ℕ) (parcel : Parcel) → IsFetched old.seat new.seat from number parcel
      → Stays None old.seat new.seat
  stays_fetched from number parcel noted =
      let v = view_of old.seat in
      let e : Entry = fetch_entry from (lane_of old.seat) number v.own.number parcel in
      let is : view_of new.seat ≡ with_entry v e v.turns = λ i. (noted.noted i).0 in
      record {
        alone = λ q alone. subst (λ (w : SeatView). IsLone q w) (sym is) (lone_entry q v e v.turns refl alone);
        laid = λ q ne alone. ap (λ (w : SeatView). own_bytes q w) is ∙ fold_push (laid_in q) [] v.own.notes e;
      }

-- ---- A thread that waited before it.

module _ (old mid new : Member) (same : view_of mid.seat ≡ view_of old.seat) (root : RootId) (offset : ℕ) where
  pub laid_after : (bytes : List ℕ) → LaysOver root offset bytes mid new → LaysOver root offset bytes old new
  laid_after bytes laid =
      subst (λ (v : SeatView). IsLone root v → IsLone root (view_of new.seat)
      × (own_bytes root (view_of new.seat) ≡ laid_over (own_bytes root v) offset bytes)) same laid

  pub own_after : (bytes : List ℕ) → AreLaid mid root offset bytes → AreLaid old root offset bytes
  own_after bytes own =
      subst (λ (v : SeatView). IsLone root v → bytes ≡ bytes_at (own_bytes root v) offset (length bytes)) same own
