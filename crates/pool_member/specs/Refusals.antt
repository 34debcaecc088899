-- Why calls are refused, in the order of their tests.
use Rattle.std.specs.Prelude.{◌≡◌, ◌<◌, ◌≤◌, ℕ, ◌+◌, Bool, false, ◌==◌, ◌&&◌, ◌||◌, nat_lt, nat_le, if◌then◌else◌, Option, Some, None, option_map, slice_get}
use Rattle.pool_law.specs.Views.{LiesIn}
use Rattle.pool_table.specs.declared.views.Letter.{Letter}
use Rattle.pool_member.specs.declared.account.Account.{Account}
use Rattle.pool_member.specs.declared.answers.AccessNo.{AccessNo}
use Rattle.pool_member.specs.declared.answers.AccessNo.TheVariants as access
use Rattle.pool_member.specs.declared.answers.AcceptNo.{AcceptNo}
use Rattle.pool_member.specs.declared.answers.AcceptNo.TheVariants as accept
use Rattle.pool_member.specs.declared.answers.PartNo.{PartNo}
use Rattle.pool_member.specs.declared.answers.PartNo.TheVariants as part
use Rattle.pool_member.specs.Counting.{counted, known}
use Rattle.pool_member.specs.Windows.{Window}

-- the buffer is this thread's, which counts its root and knows of as much capacity as it reaches
abbrev pub is_here : Account → Window → Bool
is_here a w =
    (a.lane == w.thread) && nat_lt 0 (counted a.counts w.at.root)
    && nat_le (w.at.offset + w.at.len) (known a.counts w.at.root)

-- what is so then
pub record IsHere (a : Account) (w : Window) : Type 0 where
  pub thread : w.thread ≡ a.lane
  pub counts : 0 < counted a.counts w.at.root
  pub reaches : LiesIn (known a.counts w.at.root) w.at

-- a call on a buffer that takes so many turns
abbrev pub call_no : Account → Window → ℕ → Option AccessNo
call_no a w turns =
    if is_here a w
    then (if nat_lt a.turns turns then Some access.Spent else None)
    else Some access.NotHere

-- a call on a part of a buffer, if that is within its bounds, which takes so many turns and moves
abbrev pub part_no : Account → Window → Bool → ℕ → ℕ → Option AccessNo
part_no a w inside turns moves =
    if is_here a w
    then (if inside
    then (if nat_lt a.turns turns || nat_lt a.moves moves then Some access.Spent else None)
    else Some access.Range)
    else Some access.NotHere

-- why a buffer isn't parted with, where a call on it is refused; such a call has no range
abbrev pub as_part : AccessNo → PartNo
as_part access.NotHere = part.NotHere
as_part access.Range = part.NotHere
as_part access.Spent = part.Spent

-- the making of a parcel, where there are so many threads
abbrev pub send_no : ℕ → Account → Window → ℕ → Option PartNo
send_no threads a w to =
    if nat_lt to threads then option_map as_part (call_no a w 1) else Some part.NoThread

-- the letter is the next of its way that the thread accepts
abbrev pub is_next : Option ℕ → ℕ → Bool
is_next None number = false
is_next (Some accepted) number = number == accepted + 1

-- the accepting of a parcel
abbrev pub accept_no : Account → Letter → Option AcceptNo
accept_no a x =
    if a.lane == x.to
    then (if is_next (slice_get a.received.items x.from) x.number
    then (if nat_lt a.turns 1 then Some accept.Spent else None)
    else Some accept.OutOfOrder)
    else Some accept.NotHere

-- what an accepted one is
pub record MayAccept (a : Account) (x : Letter) : Type 0 where
  pub to : x.to ≡ a.lane
  pub accepted : ℕ
  pub before : slice_get a.received.items x.from ≡ Some accepted
  pub next : x.number ≡ accepted + 1
  pub turns : 1 ≤ a.turns
