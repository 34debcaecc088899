-- A release whose turns are taken before the thread puts away what it has to.
use Rattle.std.proofs.Common.{◌≡◌, ◌+◌, ◌-◌, ◌<◌, ◌≤◌, Bool, false, true, List, length, None, sym, subst, ap, ◌∙◌, arith}
use Rattle.std.specs.Prelude.{ℕ}
use Rattle.pool_law.specs.declared.id.RootId.{RootId}
use Rattle.pool_table.specs.Counts.{HasCount}
use Rattle.shared_pool.specs.declared.pool.SharedPool.{SharedPool}
use Rattle.shared_pool.specs.declared.seat.PoolSeat.{PoolSeat}
use Rattle.shared_pool.specs.SeatViews.{view_of}
use Rattle.seat_work.specs.Hands.{empty_hand}
use Rattle.seat_work.specs.Changes.{once_less, one_for}
use Rattle.seat_work.specs.Works.{IsLater, Proceeds, Works}
use Rattle.pool_member.specs.declared.counts.Counted.{Counted}
use Rattle.pool_member.specs.declared.member.Member.{Member}
use Rattle.pool_member.specs.Counting.{counted, is_alone, told}
use Rattle.pool_member.specs.Refusals.{is_here}
use Rattle.pool_member.specs.Threads.{Does, IsSettled, IsThread, less_turns, moves_after, Settles, with_turns}
use Rattle.pool_member.specs.Windows.{Window}
use Rattle.pool_member.proofs.Releasing.{is_counted, may_release, released}
use Rattle.pool_member.proofs.Settling.{settles_none}
use Rattle.pool_member.proofs.Turns.{turns_again}

module _ (pool : SharedPool) (old took : Member) (is : IsThread pool old) (turns : 4 ≤ old.account.turns)
    (took_is : took ≡ less_turns 4 old) where
  again : with_turns 4 took ≡ old
  again = ap (λ (m : Member). with_turns 4 m) took_is ∙ turns_again old 4 turns

  -- what the way apart asks
  pub is_taken : IsThread pool (with_turns 4 took)
  is_taken = subst (λ (m : Member). IsThread pool m) (sym again) is

  -- by either way all is put away, with the turns again
  pub waited : (between after : Member) → Settles pool (with_turns 4 took) (with_turns 4 between) → IsSettled between
      → after ≡ between → Settles pool old (with_turns 4 after) × IsSettled after
  waited between after did none same =
      subst (λ (m : Member). Settles pool old (with_turns 4 m) × IsSettled m) (sym same)
      (subst (λ (m : Member). Settles pool m (with_turns 4 between)) again did, none)

  pub at_once : (after : Member) → IsSettled took → after ≡ took
      → Settles pool old (with_turns 4 after) × IsSettled after
  at_once after none same =
      subst (λ (m : Member). Settles pool old (with_turns 4 m) × IsSettled m) (sym same)
      (subst (λ (m : Member). Settles pool old m) (sym again) (settles_none pool old is), none)

-- the thread that has a buffer counts its root
pub still_counted : (old now : Member) (w b : Window) → old ≡ now → w ≡ b → is_here now.account b ≡ true
    → 0 < counted old.account.counts w.at.root
still_counted old now w b same at here =
    let lt : 0 < counted now.account.counts b.at.root = grind (arith, here) in
    subst (λ (m : Member). 0 < counted m.account.counts w.at.root) (sym same)
    (subst (λ (x : Window). 0 < counted now.account.counts x.at.root) (sym at) lt)

-- behind either way
module _ (pool : SharedPool) (old after : Member) (turns : 4 ≤ old.account.turns)
    (settles : Settles pool old (with_turns 4 after)) (none : IsSettled after) (root : RootId)
    (some : 0 < counted old.account.counts root) where
  pub may_less : Works pool empty_hand 4 0 after.seat
  may_less = may_release pool old (with_turns 4 after) root settles none turns some

  pub has_one : HasCount root (view_of after.seat)
  has_one = is_counted pool old (with_turns 4 after) root settles none turns some

  pub did_release : (last : Bool) (seat : PoolSeat) → Proceeds pool empty_hand 4 0 (once_less root last) after.seat seat
      → (last ≡ false → (view_of after.seat).moves < (view_of seat).moves) → IsLater pool after.seat seat
      → (cs : List Counted)
      → ((other : RootId) → counted cs other + one_for root other ≡ counted after.account.counts other)
      → ((other : RootId) → told cs other ≡ told after.account.counts other)
      → ((other : RootId) → is_alone cs other ≡ is_alone after.account.counts other)
      → length cs ≡ length after.account.counts
      → Does pool 4 (once_less root last) None old (record after {
        seat = seat;
        account = record after.account { moves = moves_after last after.account.moves; counts = cs };
      })
  did_release last seat did moves later cs less tells alone places =
      let left : after.account.turns + 4 - 4 ≡ after.account.turns = omega arith in
      subst (λ (k : ℕ). Does pool 4 (once_less root last) None old (record after {
        seat = seat;
        account = record after.account { turns = k; moves = moves_after last after.account.moves; counts = cs };
      })) left
      (released pool old (with_turns 4 after) root settles none turns some last seat did moves later cs less tells alone
      places)
