-- A seat further on, behind steps of its own.
use Rattle.std.proofs.Common.{◌≡◌, ℕ, zero, suc, ◌+◌, ◌≤◌, List, [], ◌∷◌, ◌++◌, Bool, true, false, length, refl, sym, ap, ◌∙◌, subst, arith, append_assoc, append-nil, length-append, Some}
use Rattle.std.specs.Prelude.{◌&&◌, ◌||◌, slice_get, sum_by, Option, None, Result, Ok, Err, IfOk}
use Rattle.std.specs.List.{list_all}
use Rattle.std.proofs.lemmas.Bool.{or_left, and_parts}
use Rattle.handle_bin.specs.Bins.{HandleValue}
use Rattle.pool_arena.specs.Standing.{taken_or_full}
use Rattle.pool_law.specs.declared.id.Region.{Region}
use Rattle.pool_law.specs.declared.id.RegionId.{RegionId}
use Rattle.pool_law.specs.declared.id.RootId.{RootId}
use Rattle.pool_law.specs.declared.note.Did.{Did}
use Rattle.pool_law.specs.declared.note.Did.TheVariants.{Post, Fetch}
use Rattle.pool_law.specs.declared.note.Held.{Held}
use Rattle.pool_law.specs.declared.note.Noted.{Noted}
use Rattle.pool_law.specs.declared.note.Object.{Object}
use Rattle.pool_law.specs.declared.note.Object.TheVariants.{Root}
use Rattle.pool_law.specs.declared.note.RefDid.{RefDid}
use Rattle.pool_law.specs.declared.note.RefDid.TheVariants.{Born}
use Rattle.pool_law.specs.declared.report.Watch.{Watch}
use Rattle.shared_pool.specs.declared.seat.PoolSeat.{PoolSeat}
use Rattle.pool_law.specs.Counts.{root_is}
use Rattle.pool_law.specs.Kinds.{Stays, passing}
use Rattle.pool_law.specs.Naming.{noted_by}
use Rattle.history_laws.specs.NoteCounts.{did_post_of}
use Rattle.pool_table.specs.declared.views.Entry.{Entry}
use Rattle.pool_table.specs.declared.views.Entry.TheVariants.{Ref, Busy}
use Rattle.pool_table.specs.declared.views.SeatView.{SeatView}
use Rattle.pool_table.specs.Counts.{with_ref}
use Rattle.pool_table.specs.Lone.{IsLone, names}
use Rattle.shared_pool.specs.SeatViews.{view_of, HasView, SameSeat}
use Rattle.shared_pool.specs.declared.pool.SharedPool.{SharedPool}
use Rattle.shared_pool.specs.declared.went.Put.{Put}
use Rattle.shared_pool.specs.declared.went.Put.TheVariants.{Kept, Back}
use Rattle.shared_pool.specs.CacheAnswers.{was_put}
use Rattle.shared_pool.specs.Notes.{popped, hit}
use Rattle.shared_pool.specs.PlaceSteps.{used}
use Rattle.shared_pool.specs.RootNotes.{birth, IsNotedWith}
use Rattle.seat_work.specs.declared.allocation.AllocNo.{AllocNo}
use Rattle.shared_pool.specs.Seats.{IsPoolSeat, IsNoted, FoundBusy}
use Rattle.seat_work.specs.Growth.{BearsNew, HasGrown, asks_root, is_ask, is_quiet, is_quiet_but, is_quiet_entry}
use Rattle.seat_work.specs.Works.{IsLater, IsLaterBut, IsLaterBy, HasBorn}
use Rattle.seat_work.proofs.Bearing.{bears_on, bears_one, bears_two, bears_born, born_zeros, ask_bears, is_still, still_bears, still_quiet, unnamed_first}
use Rattle.seat_work.proofs.Grown.{Grows, note_at, grows_noted, grows_busy, grows_none, grows_ref, grows_with}

-- ---- Views that grow.

pub grown_none : (v : SeatView) → HasGrown v v []
grown_none v = record {
  notes = sym (append-nil v.own.notes);
  number = refl;
  setting = refl;
  turns = omega arith;
}

-- one after another
pub grown_on : (u v w : SeatView) (xs ys : List Entry) → HasGrown u v xs → HasGrown v w ys → HasGrown u w (xs ++ ys)
grown_on u v w xs ys x y = record {
  notes = y.notes ∙ ap (λ (es : List Entry). es ++ ys) x.notes ∙ append_assoc u.own.notes xs ys;
  number = y.number ∙ x.number;
  setting = y.setting ∙ x.setting;
  turns = (let a = x.turns in let b = y.turns in let c = length-append xs ys in omega (arith, a, b, c));
}

-- what a step adds
pub grown_by : (v w : SeatView) (es : List Entry) (spent : ℕ) → Grows v w es spent → HasGrown v w es
grown_by v w es spent grows = record {
  notes = grows.more.notes;
  number = grows.more.number;
  setting = grows.more.setting;
  turns = grows.more.turns;
}

-- ---- Entries that are quiet.

pub quiet_on : (is_so : Entry → Bool) (xs ys : List Entry) → list_all is_so xs ≡ true → list_all is_so ys ≡ true
    → list_all is_so (xs ++ ys) ≡ true
quiet_on is_so [] ys x y = y
quiet_on is_so (e ∷ xs) ys x y = go (is_so e) x (λ rest. quiet_on is_so xs ys rest y)
  where
    go : (b : Bool) → (b && list_all is_so xs) ≡ true
        → (list_all is_so xs ≡ true → list_all is_so (xs ++ ys) ≡ true)
        → (b && list_all is_so (xs ++ ys)) ≡ true
    go false none more = absurd (cc none)
    go true rest more = more rest

pub or_last : (a : Bool) → ((a || true) && true) ≡ true
or_last true = refl
or_last false = refl

-- what was done quietly passes nothing, so that it posts no root
pub quiet_note_stays : (d : Did) → is_quiet d ≡ true → passing d ≡ Stays
quiet_note_stays (Post parcel) quiet = absurd (cc quiet)
quiet_note_stays (Fetch parcel) quiet = absurd (cc quiet)
quiet_note_stays d quiet = refl

pub quiet_note_posts : (root : RootId) (d : Did) → is_quiet d ≡ true → did_post_of root d ≡ 0
quiet_note_posts root (Post parcel) quiet = absurd (cc quiet)
quiet_note_posts root d quiet = refl

-- quiet entries are quiet but for a root
pub quiet_too : (root : RootId) (es : List Entry) → list_all is_quiet_entry es ≡ true
    → list_all (is_quiet_but root) es ≡ true
quiet_too root [] quiet = refl
quiet_too root (e ∷ es) quiet =
    let both = and_parts (is_quiet_entry e) (list_all is_quiet_entry es) quiet in
    (λ i. or_left (is_quiet_entry e) (asks_root root e) both.0 i && list_all (is_quiet_but root) es)
    ∙ quiet_too root es both.1

-- ---- Where an entry stands.

-- behind other entries, and before others
pub behind : (xs ys : List Entry) (k : ℕ) → slice_get (xs ++ ys) (length xs + k) ≡ slice_get ys k
behind [] ys k = let none : 0 + k ≡ k = omega arith in ap (slice_get ys) none
behind (e ∷ xs) ys k =
    let next : length (e ∷ xs) + k ≡ suc (length xs + k) = omega arith in
    ap (slice_get (e ∷ (xs ++ ys))) next ∙ behind xs ys k

pub before : (xs ys : List Entry) (k : ℕ) (e : Entry) → slice_get xs k ≡ Some e → slice_get (xs ++ ys) k ≡ Some e
before [] ys k e is = absurd (cc is)
before (x ∷ xs) ys zero e is = is
before (x ∷ xs) ys (suc k) e is = before xs ys k e is

-- ---- What pops, takes and puts note.

pub quiet_popped : (h : Option HandleValue) → is_still (popped h) ≡ true
quiet_popped None = refl
quiet_popped (Some h) = refl

pub quiet_hit : (r : Option Region) → is_still (hit r) ≡ true
quiet_hit None = refl
quiet_hit (Some r) = refl

pub quiet_taken : (class : ℕ) (r : Option Region) → is_still (taken_or_full class r) ≡ true
quiet_taken class None = refl
quiet_taken class (Some r) = refl

pub quiet_put : (id : RegionId) (put : Put) → is_still (was_put id put) ≡ true
quiet_put id Kept = refl
quiet_put id (Back r why) = refl

-- ---- Seats that go on.

pub same_on : (old mid new : PoolSeat) → SameSeat old mid → SameSeat mid new
    → SameSeat old new
same_on old mid new x y = (y.0 ∙ x.0, y.1 ∙ x.1)

module _ (pool : SharedPool) where
  pub later_none : (s : PoolSeat) → IsPoolSeat pool s → IsLater pool s s
  later_none s is = record {
    same = (refl, refl);
    seat = is;
    added = [];
    grown = grown_none (view_of s);
    quiet = refl;
    once = λ r some. refl;
  }

  module _ (is_so : Entry → Bool) where
    abbrev pub follows_on : (old mid new : PoolSeat) → IsLaterBy is_so pool old mid → IsLaterBy is_so pool mid new
        → IsLaterBy is_so pool old new
    follows_on old mid new x y = record {
      same = same_on old mid new x.same y.same;
      seat = y.seat;
      added = x.added ++ y.added;
      grown = grown_on (view_of old) (view_of mid) (view_of new) x.added y.added x.grown y.grown;
      quiet = quiet_on is_so x.added y.added x.quiet y.quiet;
      once =
          bears_on (view_of old).own.notes x.added y.added x.once
          (subst (λ (es : List Entry). BearsNew es y.added) x.grown.notes y.once);
    }

    -- what follows a seat that knows what it knew
    abbrev pub follows_same : (old mid new : PoolSeat) → SameSeat old mid → view_of mid ≡ view_of old
        → IsLaterBy is_so pool mid new → IsLaterBy is_so pool old new
    follows_same old mid new same view x = record {
      same = same_on old mid new same x.same;
      seat = x.seat;
      added = x.added;
      grown = subst (λ (v : SeatView). HasGrown v (view_of new) x.added) view x.grown;
      quiet = x.quiet;
      once = subst (λ (v : SeatView). BearsNew v.own.notes x.added) view x.once;
    }

  abbrev pub later_on : (old mid new : PoolSeat) → IsLater pool old mid → IsLater pool mid new → IsLater pool old new
  later_on old mid new x y = follows_on is_quiet_entry old mid new x y

  pub later_same : (old mid new : PoolSeat) → SameSeat old mid → view_of mid ≡ view_of old
      → IsLater pool mid new → IsLater pool old new
  later_same old mid new same view x = follows_same is_quiet_entry old mid new same view x

  -- what is quiet is so but for a root
  abbrev pub later_but : (root : RootId) (old new : PoolSeat) → IsLater pool old new → IsLaterBut root pool old new
  later_but root old new x = record {
    same = x.same;
    seat = x.seat;
    added = x.added;
    grown = x.grown;
    quiet = quiet_too root x.added x.quiet;
    once = x.once;
  }

  module _ (old new : PoolSeat) (same : SameSeat old new) (was : IsPoolSeat pool old)
      (is : IsPoolSeat pool new) where
    abbrev pub later_by : (es : List Entry) (spent : ℕ) → Grows (view_of old) (view_of new) es spent
        → list_all is_quiet_entry es ≡ true → BearsNew (view_of old).own.notes es → IsLater pool old new
    later_by es spent grows quiet once = record {
      same = same;
      seat = is;
      added = es;
      grown = grown_by (view_of old) (view_of new) es spent grows;
      quiet = quiet;
      once = once;
    }

    -- a root is asked for capacity
    abbrev pub later_asked : (root : RootId) {o : Object} {number : ℕ} {n : Noted} → IsNoted pool old new o number n
        → (is_ask n.did && root_is root n.root) ≡ true → IsLaterBut root pool old new
    later_asked root {o} {number} {n} noted asks = record {
      same = same;
      seat = is;
      added = note_at pool old new was is o number n ∷ [];
      grown = grown_by (view_of old) (view_of new) _ 0 (grows_noted pool old new was is o number n noted);
      quiet = ap (λ b. (is_quiet n.did || b) && true) asks ∙ or_last (is_quiet n.did);
      once = bears_one (view_of old).own.notes (note_at pool old new was is o number n)
          (λ r. ask_bears r n.did (root_is root n.root) asks);
    }

    -- the calls that make a note, that leave a mark, and that do nothing
    pub later_noted : {o : Object} {number : ℕ} {n : Noted} → IsNoted pool old new o number n → is_still n.did ≡ true
        → IsLater pool old new
    later_noted {o} {number} {n} noted still =
        later_by _ 0 (grows_noted pool old new was is o number n noted)
        (ap (λ b. b && true) (still_quiet n.did still))
        (bears_one (view_of old).own.notes (note_at pool old new was is o number n)
        (λ r. still_bears r n.did still))

    pub later_busy : (o : Object) (held : Held) → FoundBusy pool o true old new held → IsLater pool old new
    later_busy o held found = later_by _ 0 (grows_busy pool old new was is o held found) refl
        (bears_one (view_of old).own.notes (Busy held) (λ r. refl))

    pub later_has : HasView new (view_of old) → IsLater pool old new
    later_has has = later_by [] 0 (grows_none pool old new was has) refl (λ r some. refl)

    -- a step on the count of a root, and one behind a note
    pub later_ref : (r : RootId) (d : RefDid) (moves spent : ℕ) → HasView new (with_ref (view_of old) r d moves)
        → (view_of old).moves ≤ moves + spent → IsLater pool old new
    later_ref r d moves spent has le = later_by _ spent (grows_ref pool old new was is r d moves spent has le) refl
        (bears_one (view_of old).own.notes (Ref r d) (λ q. refl))

    abbrev pub later_with : (root : RootId) (number : ℕ) (n : Noted) (step : RefDid) (moves spent : ℕ)
        → IsNotedWith pool old new root number n step moves → (view_of old).moves ≤ moves + spent
        → is_still n.did ≡ true → IsLater pool old new
    later_with root number n step moves spent noted le still =
        let v = view_of old in let e = note_at pool old new was is (Root root.place) number n in
        later_by _ spent (grows_with pool old new was is root number n step moves spent noted le)
        (ap (λ b. b && (true && true)) (still_quiet n.did still))
        (bears_two v.own.notes e root step (bears_one v.own.notes e (λ r. still_bears r n.did still)))

    -- a birth
    module _ (root : RootId) (number : ℕ) (region : RegionId) (watch : Option Watch) (moves : ℕ)
        (noted : IsNotedWith pool old new root number (birth root region watch) Born moves)
        (le : (view_of old).moves ≤ moves + 0) (fresh : sum_by (names root) (view_of old).own.notes ≡ 0) where
      abbrev pub later_born : IsLater pool old new
      later_born =
          let v = view_of old in let n : Noted = birth root region watch in
          let e = note_at pool old new was is (Root root.place) number n in
          later_by _ 0 (grows_with pool old new was is root number n Born moves 0 noted le) refl
          (bears_two v.own.notes e root Born
          (bears_born v.own.notes root (used region) (Root root.place) number (noted_by v.own.number n) refl fresh))

      pub born_with : IsLone root (view_of new) → HasBorn pool root old new
      born_with lone = record {
        later = later_born;
        at = 1;
        born = refl;
        fresh = fresh;
        lone = lone;
        zeros = born_zeros pool old new root number region watch moves noted;
      }

  -- behind a birth, and before one
  pub born_on : (root : RootId) (old mid new : PoolSeat) → IsLater pool old mid → HasBorn pool root mid new
      → HasBorn pool root old new
  born_on root old mid new x y = record {
    later = later_on old mid new x y.later;
    at = length x.added + y.at;
    born = behind x.added y.later.added y.at ∙ y.born;
    fresh =
        unnamed_first root (view_of mid).own.notes (view_of old).own.notes x.added x.grown.notes y.fresh;
    lone = y.lone;
    zeros = y.zeros;
  }

  pub if_born_on : (old mid new : PoolSeat) (r : Result RootId AllocNo) → IsLater pool old mid
      → IfOk r (λ root. HasBorn pool root mid new) → IfOk r (λ root. HasBorn pool root old new)
  if_born_on old mid new (Ok root) x y = born_on root old mid new x y
  if_born_on old mid new (Err why) x y = y
