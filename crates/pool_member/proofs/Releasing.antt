-- A thread that has nothing to put away counts a root once less: what its seat's release makes of it.
use Rattle.std.proofs.Common.{◌≡◌, ◌+◌, ◌-◌, ◌<◌, ◌≤◌, Bool, false, List, length, None, refl, sym, subst, ◌∙◌, arith}
use Rattle.pool_law.specs.declared.id.RootId.{RootId}
use Rattle.pool_table.specs.Counts.{HasCount}
use Rattle.shared_pool.specs.declared.pool.SharedPool.{SharedPool}
use Rattle.shared_pool.specs.declared.seat.PoolSeat.{PoolSeat}
use Rattle.shared_pool.specs.SeatViews.{view_of}
use Rattle.seat_work.specs.Hands.{empty_hand}
use Rattle.seat_work.specs.Changes.{once_less, one_for}
use Rattle.seat_work.specs.Works.{IsLater, Proceeds, Works}
use Rattle.pool_member.specs.declared.account.Account.{Account}
use Rattle.pool_member.specs.declared.counts.Counted.{Counted}
use Rattle.pool_member.specs.declared.member.Member.{Member}
use Rattle.pool_member.specs.Counting.{counted, is_alone, told}
use Rattle.pool_member.specs.Threads.{Does, IsSettled, moves_after, Settles}
use Rattle.pool_member.proofs.AloneLater.{stays_later}
use Rattle.pool_member.proofs.Keeping.{has_count, may_begin, settled_on, spends_less, tells_settled, times_one}
use Rattle.pool_member.proofs.Letters.{later_letters}
use Rattle.pool_member.proofs.MoveLaws.{moves_left}
use Rattle.pool_member.proofs.Settling.{same_account, settled_does, still_turns}

module _ (pool : SharedPool) (old mid : Member) (root : RootId) (settles : Settles pool old mid) (none : IsSettled mid)
    (turns : 4 ≤ old.account.turns) (some : 0 < counted old.account.counts root) where
  has_turns : 4 ≤ mid.account.turns
  has_turns = still_turns pool old mid 4 settles turns

  -- what the seat's release asks
  pub may_release : Works pool empty_hand 4 0 mid.seat
  may_release = may_begin pool mid settles.thread 4 0 none has_turns (omega arith)

  pub is_counted : HasCount root (view_of mid.seat)
  is_counted =
      has_count pool mid settles.thread root
      (subst (λ (a : Account). 0 < counted a.counts root) (sym (same_account pool old mid settles)) some)

  -- what it did, and these counts are kept
  module _ (last : Bool) (seat : PoolSeat) (did : Proceeds pool empty_hand 4 0 (once_less root last) mid.seat seat)
      (moves : last ≡ false → (view_of mid.seat).moves < (view_of seat).moves) (later : IsLater pool mid.seat seat)
      (cs : List Counted)
      (less : (other : RootId) → counted cs other + one_for root other ≡ counted mid.account.counts other)
      (tells : (other : RootId) → told cs other ≡ told mid.account.counts other)
      (alone : (other : RootId) → is_alone cs other ≡ is_alone mid.account.counts other)
      (places : length cs ≡ length mid.account.counts) where
    abbrev pub released_as : Member
    released_as = record mid {
      seat = seat;
      account =
          record mid.account {
            turns = mid.account.turns - 4;
            moves = moves_after last mid.account.moves;
            counts = cs;
          };
    }

    pub released : Does pool 4 (once_less root last) None old released_as
    released =
        let change = once_less root last in let is = settles.thread in let new = released_as in
        let spends = spends_less change 4 mid.account new.account refl (omega (arith, has_turns)) places root
        (λ other. refl) (times_one root) less tells (λ q none kept. alone q ∙ kept) in
        settled_does pool old mid new 4 change None settles
        (settled_on pool change 4 0 4 mid new is none refl did.goes did.changes spends
        (tells_settled pool change 4 0 4 mid new is none refl did.goes did.changes spends
        (λ other. (let a = tells other in omega (arith, a)))) (omega arith)
        (moves_left pool mid seat is last (moves_after last mid.account.moves) did.goes.moves_left moves refl)
        (later_letters pool mid.seat seat later) refl None (stays_later pool mid.seat seat later)
        (λ q kept. sym (alone q) ∙ kept))
