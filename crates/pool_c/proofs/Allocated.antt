-- A thread with a new buffer, and one that got none.
use Rattle.std.proofs.Common.{◌≡◌, ℕ, ◌+◌, ◌<◌, ◌≤◌, None, refl, ap, arith, rules}
use Rattle.std.specs.Prelude.{IsTrue}
use Rattle.std.proofs.lemmas.Bool.Decides.{nat_tests}
use Rattle.pool_law.specs.declared.id.RootId.{RootId}
use Rattle.seat_work.specs.Changes.{once_more}
use Rattle.seat_work.specs.Works.{HasBorn}
use Rattle.seat_tries.specs.declared.allocation.AllocNo.{AllocNo}
use Rattle.seat_tries.specs.Allocations.{refused}
use Rattle.pool_member.specs.declared.account.Account.{Account}
use Rattle.pool_member.specs.declared.member.Member.{Member}
use Rattle.pool_member.specs.Allotting.{IsAllotted, IsTryRefused}
use Rattle.pool_member.specs.Attempts.{as_try, HasTryCause}
use Rattle.pool_member.specs.Counting.{counted, known}
use Rattle.pool_member.specs.Refusals.{is_here}
use Rattle.pool_member.specs.Threads.{Does}
use Rattle.pool_member.specs.Watching.{with_next}
use Rattle.pool_member.specs.Windows.{Window}
use Rattle.pool_c.specs.declared.held.Common.{Common}
use Rattle.pool_c.specs.Answers.{as_stop, HasAllocated, HasStopped, whole}
use Rattle.pool_c.specs.Refusals.{window_of}

-- a buffer is here whose root is counted, and known to reach as far
pub here_of : (a : Account) (w : Window) → a.lane ≡ w.thread → 0 < counted a.counts w.at.root
    → w.at.offset + w.at.len ≤ known a.counts w.at.root → IsTrue (is_here a w)
here_of a w own counts reaches = first_of (search rules, grind (arith, nat_tests))

pub has_allocated : (size : ℕ) (c : Common) (old new : Member) (root : RootId) → root.capacity ≡ size
    → 0 < counted new.account.counts root → Does c.shared 6 (once_more root) None old new
    → new.account.moves ≡ old.account.moves → HasBorn c.shared root old.seat new.seat
    → new.watcher ≡ with_next old.watcher → IsAllotted c.shared size root old new
    → HasAllocated size c old new (whole c.name new.account.lane root)
has_allocated size c old new root is counts does moves born watcher notes = record {
  whole_is = ap (λ n. whole c.name n root) does.changed.number;
  size_is = is;
  here = here_of new.account (window_of (whole c.name new.account.lane root)) refl counts (omega arith);
  does = does;
  moves = moves;
  born = born;
  notes = notes;
  watcher = watcher;
}

pub has_stopped : (size : ℕ) (c : Common) (old new : Member) (stop : AllocNo)
    → Does c.shared 6 (refused stop) None old new → new.account.moves ≡ old.account.moves
    → HasTryCause c.shared old new (as_try stop) → new.watcher ≡ old.watcher
    → IsTryRefused c.shared size (as_try stop) old new
    → HasStopped size c old new (as_stop stop)
has_stopped size c old new stop does moves cause watcher notes = record {
  stop = stop;
  why_is = refl;
  does = does;
  moves = moves;
  cause = cause;
  notes = notes;
  watcher = watcher;
}
