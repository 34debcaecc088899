-- A thread that has nothing to put away counts a root that its seat bore, or was refused one.
use Rattle.std.proofs.Common.{◌≡◌, ◌+◌, ◌-◌, ◌<◌, ◌≤◌, true, List, length, None, refl, arith}
use Rattle.pool_law.specs.declared.id.RootId.{RootId}
use Rattle.shared_pool.specs.declared.pool.SharedPool.{SharedPool}
use Rattle.shared_pool.specs.declared.seat.PoolSeat.{PoolSeat}
use Rattle.seat_work.specs.Answers.{refused}
use Rattle.seat_work.specs.Hands.{empty_hand}
use Rattle.seat_work.specs.Changes.{once_more, one_for}
use Rattle.seat_work.specs.Works.{IsLater, Proceeds, Works}
use Rattle.seat_work.specs.declared.allocation.AllocNo.{AllocNo as WorkNo}
use Rattle.pool_member.specs.declared.counts.Counted.{Counted}
use Rattle.pool_member.specs.declared.member.Member.{Member}
use Rattle.pool_member.specs.Counting.{counted, is_alone, known, told}
use Rattle.pool_member.specs.Threads.{Does, IsSettled, IsThread}
use Rattle.pool_member.specs.Watching.{with_next}
use Rattle.pool_member.proofs.AloneLater.{stays_later}
use Rattle.pool_member.proofs.Keeping.{may_begin, settled_on, spends_more, spends_none, tells_settled, times_one}
use Rattle.pool_member.proofs.Letters.{later_letters}

module _ (pool : SharedPool) (old : Member) (is : IsThread pool old) (none : IsSettled old)
    (turns : 6 ≤ old.account.turns) where
  -- what the seat's allocation asks
  pub may_allocate : Works pool empty_hand 6 0 old.seat
  may_allocate = may_begin pool old is 6 0 none turns (omega arith)

  -- it bore a root, and these counts are kept
  module _ (root : RootId) (seat : PoolSeat) (did : Proceeds pool empty_hand 6 0 (once_more root) old.seat seat)
      (later : IsLater pool old.seat seat) (cs : List Counted)
      (more : (other : RootId) → counted cs other ≡ counted old.account.counts other + one_for root other)
      (tells : (other : RootId) → told cs other ≤ told old.account.counts other)
      (keeps : (other : RootId) → 0 < counted cs other → known old.account.counts other ≤ known cs other)
      (alone : (other : RootId) → is_alone cs other ≡ true → is_alone old.account.counts other ≡ true)
      (owns : (other : RootId) → 0 < counted old.account.counts other → is_alone old.account.counts other ≡ true
      → is_alone cs other ≡ true)
      (places : length cs ≡ length old.account.counts) where
    abbrev pub borne_as : Member
    borne_as = record old {
      seat = seat;
      account = record old.account { turns = old.account.turns - 6; counts = cs };
      watcher = with_next old.watcher;
    }

    pub borne : Does pool 6 (once_more root) None old borne_as
    borne =
        let new = borne_as in
        let spends = spends_more (once_more root) 6 old.account new.account refl (omega (arith, turns)) places root
        (omega arith) (times_one root) (λ other. refl) more keeps owns in
        settled_on pool (once_more root) 6 0 6 old new is none refl did.goes did.changes spends
        (tells_settled pool (once_more root) 6 0 6 old new is none refl did.goes did.changes spends tells) (omega arith)
        (let a = did.goes.moves_left in let b = is.works.moves_left in omega (arith, a, b))
        (later_letters pool old.seat seat later) refl None (stays_later pool old.seat seat later) alone

  -- it was refused one
  module _ (no : WorkNo) (seat : PoolSeat) (did : Proceeds pool empty_hand 6 0 (refused no) old.seat seat)
      (later : IsLater pool old.seat seat) where
    abbrev pub spent_as : Member
    spent_as = record old {
      seat = seat;
      account = record old.account { turns = old.account.turns - 6 };
    }

    pub spent : Does pool 6 (refused no) None old spent_as
    spent =
        let new = spent_as in let change = refused no in
        let spends = spends_none change 6 old.account new.account refl (omega (arith, turns)) refl (λ other. refl)
        (λ other. refl) (λ other. refl) (λ other. omega arith) (λ q kept. kept) in
        settled_on pool change 6 0 6 old new is none refl did.goes did.changes spends
        (tells_settled pool change 6 0 6 old new is none refl did.goes did.changes spends (λ root. omega arith))
        (omega arith) (let a = did.goes.moves_left in let b = is.works.moves_left in omega (arith, a, b))
        (later_letters pool old.seat seat later) refl None (stays_later pool old.seat seat later) (λ q kept. kept)
