-- A thread that put away what it had to, and then did some work.
use Rattle.std.proofs.Common.{◌≡◌, ℕ, ◌+◌, ◌-◌, ◌≤◌, refl, sym, ap, ◌∙◌, subst, arith, None}
use Rattle.std.proofs.Math.Nat.{le_trans}
use Rattle.std.specs.Prelude.{Option, Result, Ok, Err, IfErr, IfOk}
use Rattle.pool_law.specs.declared.id.RootId.{RootId}
use Rattle.shared_pool.specs.declared.pool.SharedPool.{SharedPool}
use Rattle.shared_pool.specs.declared.seat.PoolSeat.{PoolSeat}
use Rattle.shared_pool.specs.SeatViews.{view_of}
use Rattle.seat_work.specs.Changes.{Change, no_change, times}
use Rattle.seat_work.specs.Answers.{IsWorn, MeetsWorn}
use Rattle.seat_work.specs.Works.{HasBorn}
use Rattle.seat_work.specs.declared.allocation.AllocNo.{AllocNo as WorkNo}
use Rattle.seat_work.specs.declared.allocation.AllocNo.TheVariants as work
use Rattle.seat_work.proofs.Later.{born_on, later_none, later_on}
use Rattle.seat_work.proofs.Proceeding.{changes_on, goes_none}
use Rattle.seat_tries.specs.Allocations.{refused, HasCause}
use Rattle.seat_tries.specs.declared.allocation.AllocNo.{AllocNo as TriesNo}
use Rattle.seat_tries.specs.declared.allocation.AllocNo.TheVariants as tries
use Rattle.seat_tries.specs.Taking.{taken}
use Rattle.seat_tries.proofs.Goings.{meets_on}
use Rattle.pool_member.specs.declared.account.Account.{Account}
use Rattle.pool_member.specs.declared.member.Member.{Member}
use Rattle.pool_member.specs.declared.pending.Pending.{Pending}
use Rattle.pool_member.specs.declared.answers.AllocNo.TheVariants.{Worn}
use Rattle.pool_member.specs.Alone.{KeepsAlone}
use Rattle.pool_member.specs.Answers as alloc
use Rattle.pool_member.specs.Answers.{as_alloc}
use Rattle.pool_member.specs.Attempts.{as_try, HasTryCause}
use Rattle.pool_member.specs.Counting.{counted, known}
use Rattle.pool_member.specs.Pendings.{hand_of, owed, PutsAway}
use Rattle.pool_member.specs.Returns.{given_with}
use Rattle.pool_member.specs.Threads.{Does, IsSettled, IsThread, Settles, KeepsOwn}
use Rattle.pool_member.proofs.Alone.{keeps, keeps_on, stays_same}
use Rattle.pool_member.proofs.AloneLater.{stays_later}
use Rattle.pool_member.proofs.Keeping.{kept_on, spends_none, tells_known}
use Rattle.pool_member.proofs.Letters.{later_letters}

module _ (pool : SharedPool) (old : Member) where
  -- what a try left is what the thread has to put away
  pub settles : (new : PoolSeat) (left : Pending) → IsThread pool old → ¬ IsSettled old
      → PutsAway pool (owed old.pending) old.seat new left
      → given_with old.seat old.pending ≤ given_with new left → taken new ≡ taken old.seat
      → Settles pool old (record old { seat = new; pending = left })
  settles new left is some away returned took =
      let after : Member = record old { seat = new; pending = left } in let did = away.proceeds in
      let spends = spends_none no_change 0 old.account old.account refl (omega arith) refl (λ other. refl)
      (λ other. refl) (λ other. refl) (λ other. omega arith) (λ q kept. kept) in
      let kept : Does pool 0 no_change None old after =
      kept_on pool no_change away.spent 0 0 old after is did.goes did.changes spends
      (tells_known pool no_change away.spent 0 0 old after is did.goes did.changes spends (λ root. omega arith))
      (let a = away.within in omega (arith, a))
      (let a = did.goes.moves_left in let b = is.works.moves_left in omega (arith, a, b)) away.pending
      (later_letters pool old.seat new away.later) refl None (stays_later pool old.seat new away.later)
      (λ q kept. kept) in
      record {
        thread = kept.thread;
        later = away.later;
        changes = did.changes;
        rest = refl;
        returned = returned;
        took = took;
        none = λ settled. absurd (some settled);
      }

  pub settles_none : IsThread pool old → Settles pool old old
  settles_none is = record {
    thread = is;
    later = later_none pool old.seat is.works.seat;
    changes = record {
      counts = λ root. omega arith;
      ended = λ root. omega arith;
      empty = omega arith;
      full = omega arith;
    };
    rest = refl;
    returned = omega arith;
    took = refl;
    none = λ settled. refl;
  }

  pub settles_on : (mid new : Member) → Settles pool old mid → Settles pool mid new → Settles pool old new
  settles_on mid new x y = record {
    thread = y.thread;
    later = later_on pool old.seat mid.seat new.seat x.later y.later;
    changes = changes_on no_change (view_of old.seat) (view_of mid.seat) (view_of new.seat) x.changes y.changes;
    rest = y.rest ∙ ap (λ (m : Member). record m { seat = new.seat; pending = new.pending }) x.rest;
    returned = le_trans x.returned y.returned;
    took = y.took ∙ x.took;
    none =
        λ settled.
        (let same = x.none settled in y.none (ap (λ (m : Member). m.pending) same ∙ settled) ∙ same);
  }

  pub same_account : (new : Member) → Settles pool old new → new.account ≡ old.account
  same_account new x = ap (λ (m : Member). m.account) x.rest

  pub still_turns : (new : Member) (turns : ℕ) → Settles pool old new → turns ≤ old.account.turns
      → turns ≤ new.account.turns
  still_turns new turns x le = subst (λ (a : Account). turns ≤ a.turns) (sym (same_account new x)) le

  -- what it alone had it has alone still
  pub keeps_settled : (new : Member) → Settles pool old new → KeepsAlone None old new
  keeps_settled new x = keeps None old new (stays_later pool old.seat new.seat x.later)

  -- the work is that of the thread from before
  pub settled_does : (mid new : Member) (turns : ℕ) (c : Change) (but : Option RootId) → Settles pool old mid
      → Does pool turns c but mid new → Does pool turns c but old new
  settled_does mid new turns c but x it =
      let same = same_account mid x in let changed = it.changed in
      record {
        thread = it.thread;
        changed = record {
          number = changed.number ∙ ap (λ (a : Account). a.lane) same;
          spent = changed.spent ∙ ap (λ (a : Account). a.turns) same;
          counts =
              λ r.
              (let p = changed.counts r in let q = ap (λ (a : Account). counted a.counts r) same in
              omega (arith, p, q));
          notes = changes_on c (view_of old.seat) (view_of mid.seat) (view_of new.seat) x.changes changed.notes;
          knows =
              λ r lt.
              subst (λ (a : Account). known a.counts r ≤ known new.account.counts r) same (changed.knows r lt);
          alone = keeps_on but old mid new (keeps_settled mid x) changed.alone;
          owns = subst (λ (a : Account). KeepsOwn c a new.account) same changed.owns;
        };
      }

  -- a thread that settled has changed nothing
  pub settled : (new : Member) → Settles pool old new → Does pool 0 no_change None old new
  settled new x =
      let same = same_account new x in
      record {
        thread = x.thread;
        changed = record {
          number = ap (λ (a : Account). a.lane) same;
          spent = (let a = ap (λ (a : Account). a.turns) same in omega (arith, a));
          counts = λ r. (let q = ap (λ (a : Account). counted a.counts r) same in omega (arith, q));
          notes = x.changes;
          knows =
              λ r lt. (let q = ap (λ (a : Account). known a.counts r) same in omega (arith, q));
          alone = keeps_settled new x;
          owns =
              subst (λ (a : Account). KeepsOwn no_change old.account a) (sym same) (λ r lt none kept. kept);
        };
      }

-- a thread that spends turns alone
pub spends_only : (pool : SharedPool) (m : Member) (turns : ℕ) (but : Option RootId) → IsThread pool m
    → turns ≤ m.account.turns
    → Does pool turns no_change but m (record m { account = record m.account { turns = m.account.turns - turns } })
spends_only pool m turns but is le =
    let after : Member = record m { account = record m.account { turns = m.account.turns - turns } } in
    let spends = spends_none no_change turns m.account after.account refl (omega (arith, le)) refl (λ other. refl)
    (λ other. refl) (λ other. refl) (λ other. omega arith) (λ q kept. kept) in
    let goes = goes_none pool (hand_of m.pending) (m.account.turns + owed m.pending) m.account.moves m.seat is.works in
    let same = (settles_none pool m is).changes in
    kept_on pool no_change 0 0 turns m after is goes same spends
    (tells_known pool no_change 0 0 turns m after is goes same spends (λ root. omega arith)) (omega arith)
    (let a = is.works.moves_left in omega (arith, a)) is.pending
    (later_letters pool m.seat m.seat (later_none pool m.seat is.works.seat)) refl but
    (stays_same but m.seat m.seat refl) (λ q kept. kept)

-- ---- Allocations of a thread that settled first.

module _ (pool : SharedPool) (old mid new : Member) (settles : Settles pool old mid) where
  worn_on : MeetsWorn pool mid.seat new.seat → alloc.HasCause pool old new Worn
  worn_on is =
      let at_once = λ (settled : IsSettled old).
      subst (λ (m : Member). MeetsWorn pool m.seat new.seat) (settles.none settled) is in
      (record { mid = mid.seat; before = settles.later; meets = is }, at_once)

  -- its causes are those from before it settled
  pub alloc_cause : (why : WorkNo) → IsWorn pool mid.seat new.seat why → alloc.HasCause pool old new (as_alloc why)
  alloc_cause work.NoHandle is = tt
  alloc_cause work.Full is = tt
  alloc_cause work.Worn is = worn_on is

  -- and those of a try
  try_cause : (why : TriesNo) → HasCause pool mid.seat new.seat why → HasTryCause pool old new (as_try why)
  try_cause tries.Busy is = meets_on pool old.seat mid.seat new.seat settles.later is
  try_cause tries.NoHandle is = tt
  try_cause tries.Full is = tt
  try_cause tries.Worn is = worn_on is

  pub if_cause_on : (r : Result RootId TriesNo) → IfErr r (HasCause pool mid.seat new.seat)
      → IfErr r (λ why. HasTryCause pool old new (as_try why))
  if_cause_on (Ok root) is = tt
  if_cause_on (Err why) is = try_cause why is

  pub if_tried_born_on : (r : Result RootId TriesNo) → IfOk r (λ root. HasBorn pool root mid.seat new.seat)
      → IfOk r (λ root. HasBorn pool root old.seat new.seat)
  if_tried_born_on (Ok root) x = born_on pool root old.seat mid.seat new.seat settles.later x
  if_tried_born_on (Err why) x = tt

-- a refused try counts no root
pub none_got : (why : TriesNo) (root : RootId) → times root (refused why).got ≡ 0
none_got tries.Busy root = refl
none_got tries.NoHandle root = refl
none_got tries.Full root = refl
none_got tries.Worn root = refl

pub none_gone : (why : TriesNo) (root : RootId) → times root (refused why).gone ≡ 0
none_gone tries.Busy root = refl
none_gone tries.NoHandle root = refl
none_gone tries.Full root = refl
none_gone tries.Worn root = refl
