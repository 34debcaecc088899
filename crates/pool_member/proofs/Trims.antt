-- A thread that gives back what its caches keep, step by step.
use Rattle.std.proofs.Common.{◌≡◌, ℕ, ◌+◌, ◌-◌, ◌<◌, ◌≤◌, Bool, false, None, refl, sym, ap, ◌∙◌, subst, ⊎_elim, arith}
use Rattle.std.proofs.Math.Nat.{eq-or-lt_of_le, le_trans}
use Rattle.pool_law.specs.declared.note.Held.{Held}
use Rattle.pool_law.specs.declared.note.Object.{Object}
use Rattle.shared_pool.specs.declared.pool.SharedPool.{SharedPool}
use Rattle.shared_pool.specs.declared.seat.PoolSeat.{PoolSeat}
use Rattle.shared_pool.specs.Seats.{FoundBusy, IsPoolSeat}
use Rattle.shared_pool.specs.SeatViews.{view_of}
use Rattle.seat_work.specs.Changes.{no_change}
use Rattle.seat_work.specs.Works.{IsLater}
use Rattle.seat_work.proofs.Later.{later_none, later_on}
use Rattle.seat_work.proofs.Proceeding.{changes_on}
use Rattle.seat_tries.specs.Leaving.{MeetsOther}
use Rattle.seat_tries.specs.Taking.{taken}
use Rattle.pool_member.specs.declared.account.Account.{Account}
use Rattle.pool_member.specs.declared.answers.TryTrimNo.{TryTrimNo}
use Rattle.pool_member.specs.declared.answers.TryTrimNo.TheVariants.{Busy, Spent}
use Rattle.pool_member.specs.declared.member.Member.{Member}
use Rattle.pool_member.specs.declared.pending.Pending.{Pending}
use Rattle.pool_member.specs.Counting.{counted}
use Rattle.pool_member.specs.Pendings.{PutsAway}
use Rattle.pool_member.specs.Returns.{given, given_with}
use Rattle.pool_member.specs.Threads.{Does, IsSettled, IsThread, Settles}
use Rattle.pool_member.specs.Trims.{AreEmpty, FindsEmpty, HasPaid, HasTrimmed, MayStop, MeetsAny}
use Rattle.pool_member.proofs.Alone.{keeps_on}
use Rattle.pool_member.proofs.AloneLater.{stays_later}
use Rattle.pool_member.proofs.Keeping.{kept_on, spends_none, tells_known}
use Rattle.pool_member.proofs.Letters.{later_letters}
use Rattle.pool_member.proofs.Settling.{same_account, settled, settles_none}

module _ (pool : SharedPool) where
  -- ---- Caches that were found empty.

  module _ (class : ℕ) (old mid new : PoolSeat) where
    pub finds_on : IsLater pool old mid → FindsEmpty pool class mid new → FindsEmpty pool class old new
    finds_on later it = record {
      mid = it.mid;
      next = it.next;
      number = it.number;
      before = later_on pool old mid it.mid later it.before;
      noted = it.noted;
      held = it.held;
      after = it.after;
    }

    pub finds_then : FindsEmpty pool class old mid → IsLater pool mid new → FindsEmpty pool class old new
    finds_then it later = record {
      mid = it.mid;
      next = it.next;
      number = it.number;
      before = it.before;
      noted = it.noted;
      held = it.held;
      after = later_on pool it.next mid new it.after later;
    }

  pub empty_none : (old new : PoolSeat) → AreEmpty pool 0 old new
  empty_none old new class lt = absurd (omega (arith, lt))

  -- one class more
  pub empty_next : (classes : ℕ) (old mid new : PoolSeat) → IsLater pool old mid → IsLater pool mid new
      → AreEmpty pool classes old mid → FindsEmpty pool classes mid new → AreEmpty pool (classes + 1) old new
  empty_next classes old mid new before after are it class lt = ⊎_elim last earlier (eq-or-lt_of_le (omega (arith, lt)))
    where
      earlier : class < classes → FindsEmpty pool class old new
      earlier le = finds_then class old mid new (are class le) after

      last : class ≡ classes → FindsEmpty pool class old new
      last e = subst (λ (k : ℕ). FindsEmpty pool k old new) (sym e) (finds_on classes old mid new before it)

  -- ---- What the thread did.

  any_on : (old mid new : PoolSeat) → IsLater pool old mid → MeetsAny pool mid new → MeetsAny pool old new
  any_on old mid new later met = record {
    mid = met.mid;
    next = met.next;
    object = met.object;
    mark = met.mark;
    held = met.held;
    before = later_on pool old mid met.mid later met.before;
    found = met.found;
    after = met.after;
  }

  pub any_of : (old new : PoolSeat) → MeetsOther pool old new → MeetsAny pool old new
  any_of old new met = record {
    mid = met.mid;
    next = met.next;
    object = met.object;
    mark = false;
    held = met.held;
    before = met.before;
    found = met.found;
    after = met.after;
  }

  pub any_here : (old new : PoolSeat) (o : Object) (held : Held) (mark : Bool) → IsPoolSeat pool old
      → IsPoolSeat pool new → FoundBusy pool o mark old new held → MeetsAny pool old new
  any_here old new o held mark was is found = record {
    mid = old;
    next = new;
    object = o;
    mark = mark;
    held = held;
    before = later_none pool old was;
    found = found;
    after = later_none pool new is;
  }

  pub stop_on : (old mid new : Member) (no : TryTrimNo) → IsLater pool old.seat mid.seat → MayStop pool mid new no
      → MayStop pool old new no
  stop_on old mid new Busy later is = any_on old.seat mid.seat new.seat later is
  stop_on old mid new Spent later is = is

  does_on : (a b : ℕ) (old mid new : Member) → Does pool a no_change None old mid → Does pool b no_change None mid new
      → Does pool (a + b) no_change None old new
  does_on a b old mid new x y =
      let p = x.changed in let q = y.changed in
      record {
        thread = y.thread;
        changed = record {
          number = q.number ∙ p.number;
          spent = (let u = p.spent in let v = q.spent in omega (arith, u, v));
          counts = λ r. (let u = p.counts r in let v = q.counts r in omega (arith, u, v));
          notes = changes_on no_change (view_of old.seat) (view_of mid.seat) (view_of new.seat) p.notes q.notes;
          knows =
              λ r lt.
              (let v = q.counts r in let some : 0 < counted mid.account.counts r = omega (arith, v, lt) in
              le_trans (p.knows r some) (q.knows r lt));
          alone = keeps_on None old mid new p.alone q.alone;
          owns =
              λ r lt none kept.
              (let u = p.counts r in let some : 0 < counted mid.account.counts r = omega (arith, u, lt) in
              q.owns r some none (p.owns r lt none kept));
        };
      }

  pub trimmed_on : (old mid new : Member) → HasTrimmed pool old mid → HasTrimmed pool mid new → HasTrimmed pool old new
  trimmed_on old mid new x y = record {
    spent = x.spent + y.spent;
    does = does_on x.spent y.spent old mid new x.does y.does;
    moves = y.moves ∙ x.moves;
    later = later_on pool old.seat mid.seat new.seat x.later y.later;
    took = y.took ∙ x.took;
  }

  pub trimmed_settled : (old new : Member) → Settles pool old new → HasTrimmed pool old new
  trimmed_settled old new x = record {
    spent = 0;
    does = settled pool old new x;
    moves = ap (λ (a : Account). a.moves) (same_account pool old new x);
    later = x.later;
    took = x.took;
  }

  pub trimmed_none : (old : Member) → IsThread pool old → HasTrimmed pool old old
  trimmed_none old is = trimmed_settled old old (settles_none pool old is)

  -- a step at a cache
  pub trimmed_once : (old : Member) (new : PoolSeat) (left : Pending) → IsThread pool old → 2 ≤ old.account.turns
      → PutsAway pool 2 old.seat new left → taken new ≡ taken old.seat → HasTrimmed pool old
      (record old { seat = new; account = record old.account { turns = old.account.turns - 2 }; pending = left })
  trimmed_once old new left is le away took =
      let after : Member = record old {
        seat = new;
        account = record old.account { turns = old.account.turns - 2 };
        pending = left;
      } in
      let did = away.proceeds in
      let spends = spends_none no_change 2 old.account after.account refl (omega (arith, le)) refl (λ other. refl)
      (λ other. refl) (λ other. refl) (λ other. omega arith) (λ q kept. kept) in
      record {
        spent = 2;
        does =
            kept_on pool no_change away.spent 0 2 old after is did.goes did.changes spends
            (tells_known pool no_change away.spent 0 2 old after is did.goes did.changes spends (λ root. omega arith))
            (let a = away.within in omega (arith, a))
            (let a = did.goes.moves_left in let b = is.works.moves_left in omega (arith, a, b)) away.pending
            (later_letters pool old.seat new away.later) refl None (stays_later pool old.seat new away.later)
            (λ q kept. kept);
        moves = refl;
        later = away.later;
        took = took;
      }

-- ---- What it spent.

-- a step that gave a region back, or left it, or a mark, or found so many caches empty
pub paid_step : (old : Member) (new : PoolSeat) (left pending : Pending) (caches : ℕ) → IsSettled old → pending ≡ left
    → 2 ≤ old.account.turns → given old.seat + 1 ≤ caches + given_with new left
    → HasPaid caches old
    (record old { seat = new; account = record old.account { turns = old.account.turns - 2 }; pending = pending })
paid_step old new left pending caches settled is le more =
    let was : given_with old.seat old.pending ≡ given old.seat = ap (given_with old.seat) settled in
    let now : given_with new pending ≡ given_with new left = ap (given_with new) is in
    omega (arith, was, now, le, more)

pub paid_settled : (pool : SharedPool) (old new : Member) → Settles pool old new → HasPaid 0 old new
paid_settled pool old new x =
    let same = ap (λ (a : Account). a.turns) (same_account pool old new x) in
    let returned = x.returned in omega (arith, same, returned)
