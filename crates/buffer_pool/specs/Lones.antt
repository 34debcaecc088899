-- A buffer that its thread alone has: what its bytes are, and why a call on it is refused.
use Rattle.std.specs.Prelude.{ℕ, Bool, if◌then◌else◌, List, Option, Some}
use Rattle.pool_law.specs.Roots.{bytes_at}
use Rattle.pool_member.specs.declared.account.Account.{Account}
use Rattle.pool_member.specs.declared.answers.AccessNo.{AccessNo}
use Rattle.pool_member.specs.declared.answers.AccessNo.TheVariants.{NotHere}
use Rattle.pool_member.specs.declared.member.Member.{Member}
use Rattle.pool_member.specs.Alone.{laid_in}
use Rattle.pool_member.specs.Counting.{is_alone}
use Rattle.pool_member.specs.Refusals.{part_no}
use Rattle.pool_member.specs.Windows.{Window}

-- its bytes, as the thread's own calls laid them
abbrev pub bytes_of : Member → Window → List ℕ
bytes_of m w = bytes_at (laid_in m w.at.root) w.at.offset w.at.len

-- a call on a part of it, if that is within its bounds, which takes a turn
abbrev pub lone_no : Account → Window → Bool → Option AccessNo
lone_no a w inside = if is_alone a.counts w.at.root then part_no a w inside 1 0 else Some NotHere
