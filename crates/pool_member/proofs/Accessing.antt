-- A thread that accessed the bytes of a root, or found another at it.
use Rattle.std.proofs.Common.{◌≡◌, ℕ, ◌-◌, ◌≤◌, false, List, Option, Some, None, refl, ap, ◌∙◌, subst, arith}
use Rattle.pool_law.specs.declared.id.RootId.{RootId}
use Rattle.pool_law.specs.declared.note.Did.{Did}
use Rattle.pool_law.specs.declared.note.Held.{Held}
use Rattle.pool_law.specs.declared.note.Noted.{Noted}
use Rattle.pool_law.specs.declared.note.Object.TheVariants.{Root}
use Rattle.pool_table.specs.declared.views.SeatView.{SeatView}
use Rattle.shared_pool.specs.declared.pool.SharedPool.{SharedPool}
use Rattle.shared_pool.specs.declared.seat.PoolSeat.{PoolSeat}
use Rattle.shared_pool.specs.RootNotes.{access, IsSetOver}
use Rattle.shared_pool.specs.SeatViews.{view_of}
use Rattle.shared_pool.specs.Seats.{FoundBusy, IsNoted, IsPoolSeat}
use Rattle.seat_work.specs.Changes.{Change, Changes, no_change}
use Rattle.seat_work.specs.Works.{Proceeds}
use Rattle.seat_work.proofs.Accesses.{noted_same, set_same}
use Rattle.seat_tries.proofs.Carrying.{IsAccess, accesses, set_access}
use Rattle.pool_member.specs.declared.account.Account.{Account}
use Rattle.pool_member.specs.declared.member.Member.{Member}
use Rattle.pool_member.specs.Counting.{counted, known}
use Rattle.pool_member.specs.Pendings.{hand_of}
use Rattle.pool_member.specs.Threads.{Does, HasChanged, IsThread, KeepsOwn}
use Rattle.pool_member.specs.Tries.{HasAccessed, HasSetOver, StaysOut}
use Rattle.pool_member.proofs.Alone.{keeps, keeps_on, laid_after, lays_over, stays_same, stays_set, Stays}
use Rattle.pool_member.proofs.Keeping.{kept_on, may_work, spends_none, still_thread, tells_known}
use Rattle.pool_member.proofs.Letters.{noted_letters}
use Rattle.pool_member.proofs.Pendings.{pending_stays}

-- the thread with another seat, after so many turns
abbrev pub after_turns : ℕ → Member → PoolSeat → Member
after_turns turns m seat =
    record m { seat = seat; account = record m.account { turns = m.account.turns - turns } }

-- the thread as it was, but for what its seat knows beyond its view
pub record Waits (pool : SharedPool) (old mid : Member) : Type 0 where
  pub thread : IsThread pool mid
  pub view : view_of mid.seat ≡ view_of old.seat
  pub rest : mid ≡ record old { seat = mid.seat }

module _ (pool : SharedPool) (old : Member) (is : IsThread pool old) (le : 1 ≤ old.account.turns) where
  accessed_once : (new : PoolSeat) → Proceeds pool (hand_of old.pending) 1 0 no_change old.seat new → (root : RootId)
      (number : ℕ) (n : Noted) → IsNoted pool old.seat new (Root root.place) number n → (but : Option RootId)
      → Stays but old.seat new → Does pool 1 no_change but old (after_turns 1 old new)
  accessed_once new did root number n noted but stays =
      let after = after_turns 1 old new in
      let spends = spends_none no_change 1 old.account after.account refl (omega (arith, le)) refl (λ other. refl)
      (λ other. refl) (λ other. refl) (λ other. omega arith) (λ q kept. kept) in
      kept_on pool no_change 1 0 1 old after is did.goes did.changes spends
      (tells_known pool no_change 1 0 1 old after is did.goes did.changes spends (λ root. omega arith))
      (omega arith) (let a = did.goes.moves_left in let b = is.works.moves_left in omega (arith, a, b))
      (pending_stays pool old.pending old.seat new did.sends.setting is.pending)
      (noted_letters pool old.seat new root number n noted) refl but stays (λ q kept. kept)

  pub has_accessed : (root : RootId) (new : PoolSeat) (number : ℕ) (did : Did) → IsPoolSeat pool new
      → IsAccess did → IsNoted pool old.seat new (Root root.place) number (access root did) → (but : Option RootId)
      → Stays but old.seat new → HasAccessed pool root did but old (after_turns 1 old new)
  has_accessed root new number did seat is_access noted but stays =
      record {
        does =
            accessed_once new
            (accesses pool (hand_of old.pending) old.seat new seat root number did
            (may_work pool old is 1 0 le (omega arith)) is_access noted) root number _ noted but stays;
        moves = refl;
        number = number;
        noted = noted;
      }

  -- so of a set in place
  pub has_set_over : (root : RootId) (new : PoolSeat) (number offset : ℕ) (before bytes : List ℕ)
      → IsPoolSeat pool new → IsSetOver pool old.seat new root number offset before bytes
      → HasSetOver pool root offset before bytes old (after_turns 1 old new)
  has_set_over root new number offset before bytes seat over =
      let it = has_accessed root new number (Did.Set offset bytes) seat (set_access offset bytes) over.noted
      (Some root) (stays_set pool old.seat new root number offset bytes over.noted) in
      record {
        does = it.does;
        moves = it.moves;
        number = number;
        over = over;
        laid = lays_over pool old (after_turns 1 old new) root number offset bytes over.noted;
      }

pub waits_first : (pool : SharedPool) (old : Member) → IsThread pool old → Waits pool old old
waits_first pool old is = record { thread = is; view = refl; rest = refl }

-- so its account is as it was
pub same_account : (pool : SharedPool) (old mid : Member) → Waits pool old mid → mid.account ≡ old.account
same_account pool old mid waits = ap (λ (m : Member). m.account) waits.rest

module _ (pool : SharedPool) (root : RootId) (old : Member) where
  -- another was at the root
  pub stays_out : (new : PoolSeat) (held : Held) → IsThread pool old → IsPoolSeat pool new
      → FoundBusy pool (Root root.place) false old.seat new held → StaysOut pool root old (record old { seat = new })
  stays_out new held is seat found = record {
    thread = still_thread pool old is new seat (ap (λ m. m.0) found.marked);
    other = record { held = held; found = found; rest = refl };
  }

  pub waits_on : (mid new : Member) → Waits pool old mid → StaysOut pool root mid new → Waits pool old new
  waits_on mid new waits out = record {
    thread = out.thread;
    view = ap (λ m. m.0) out.other.found.marked ∙ waits.view;
    rest = out.other.rest ∙ ap (λ (m : Member). record m { seat = new.seat }) waits.rest;
  }

  -- what changed behind a try that found another changed since before it
  pub changed_out : (mid new : Member) (turns : ℕ) (c : Change) (but : Option RootId) → StaysOut pool root old mid
      → HasChanged turns c but mid new → HasChanged turns c but old new
  changed_out mid new turns c but out changed =
      let same = ap (λ (m : Member). m.account) out.other.rest in let view = ap (λ m. m.0) out.other.found.marked in
      record {
        number = changed.number ∙ ap (λ (a : Account). a.lane) same;
        spent = changed.spent ∙ ap (λ (a : Account). a.turns) same;
        counts =
            λ r.
            (let p = changed.counts r in let q = ap (λ (a : Account). counted a.counts r) same in
            omega (arith, p, q));
        notes = subst (λ (v : SeatView). Changes c v (view_of new.seat)) view changed.notes;
        knows =
            λ r lt.
            subst (λ (a : Account). known a.counts r ≤ known new.account.counts r) same (changed.knows r lt);
        alone =
            keeps_on but old mid new (keeps None old mid (stays_same None old.seat mid.seat view)) changed.alone;
        owns = subst (λ (a : Account). KeepsOwn c a new.account) same changed.owns;
      }

  -- an access of a thread that waited is one from before
  pub accessed_after : (mid new : Member) (did : Did) (but : Option RootId) → Waits pool old mid
      → HasAccessed pool root did but mid new → HasAccessed pool root did but old new
  accessed_after mid new did but waits it =
      let same = same_account pool old mid waits in
      let changed = it.does.changed in
      record {
        does = record {
          thread = it.does.thread;
          changed = record {
            number = changed.number ∙ ap (λ (a : Account). a.lane) same;
            spent = changed.spent ∙ ap (λ (a : Account). a.turns) same;
            counts =
                λ r.
                (let p = changed.counts r in let q = ap (λ (a : Account). counted a.counts r) same in
                omega (arith, p, q));
            notes = subst (λ (v : SeatView). Changes no_change v (view_of new.seat)) waits.view changed.notes;
            knows =
                λ r lt.
                subst (λ (a : Account). known a.counts r ≤ known new.account.counts r) same (changed.knows r lt);
            alone =
                keeps_on but old mid new (keeps None old mid (stays_same None old.seat mid.seat waits.view))
                changed.alone;
            owns = subst (λ (a : Account). KeepsOwn no_change a new.account) same changed.owns;
          };
        };
        moves = it.moves ∙ ap (λ (a : Account). a.moves) same;
        number = it.number;
        noted =
            noted_same pool old.seat mid.seat new.seat it.number (λ v. Root root.place) (access root did) waits.view
            it.noted;
      }

  pub set_over_after : (mid new : Member) (offset : ℕ) (before bytes : List ℕ) → Waits pool old mid
      → HasSetOver pool root offset before bytes mid new → HasSetOver pool root offset before bytes old new
  set_over_after mid new offset before bytes waits it =
      let set : HasAccessed pool root (Did.Set offset bytes) (Some root) mid new =
      record { does = it.does; moves = it.moves; number = it.number; noted = it.over.noted } in
      let all = accessed_after mid new (Did.Set offset bytes) (Some root) waits set in
      record {
        does = all.does;
        moves = all.moves;
        number = it.number;
        over = set_same pool old.seat mid.seat new.seat root it.number offset before bytes waits.view it.over;
        laid = laid_after old mid new waits.view root offset bytes it.laid;
      }
