-- Why a call on a buffer or for one is refused before it begins, in the order of the tests.
use Rattle.std.specs.Prelude.{ℕ, Bool, ◌==◌, nat_lt, if◌then◌else◌, Option, Some, None, option_map}
use Rattle.size_classes.specs.Sizes.{Geometry, chunk_bytes}
use Rattle.pool_law.specs.declared.id.RootId.{RootId}
use Rattle.pool_law.specs.Views.{in_range}
use Rattle.pool_member.specs.declared.account.Account.{Account}
use Rattle.pool_member.specs.declared.answers.AccessNo.{AccessNo}
use Rattle.pool_member.specs.declared.answers.AccessNo.TheVariants as access
use Rattle.pool_member.specs.Refusals.{part_no}
use Rattle.pool_member.specs.Windows.{Window}
use Rattle.pool_c.specs.declared.buffer.PoolBuffer.{PoolBuffer}
use Rattle.pool_c.specs.declared.codes.Refusal.{Refusal}
use Rattle.pool_c.specs.declared.codes.Refusal.TheVariants.{NotHere, Range, Spent, TooLarge}
use Rattle.pool_c.specs.declared.held.Common.{Common}

-- the root whose bytes a buffer is on, and where it lies there
abbrev pub root_of : PoolBuffer → RootId
root_of b = record { place = b.place; generation = b.generation; capacity = b.capacity }

abbrev pub window_of : PoolBuffer → Window
window_of b = record {
  at = record { root = root_of b; offset = b.offset; len = b.length; reader = 0; writer = 0 };
  thread = b.thread;
}

-- so many bytes of a buffer, from a place in it on, are all its own
abbrev pub has_range : PoolBuffer → ℕ → ℕ → Bool
has_range b start count = in_range (window_of b).at start count

-- the refusal of a call on a buffer, as it is told here
abbrev pub of_access : AccessNo → Refusal
of_access access.NotHere = NotHere
of_access access.Range = Range
of_access access.Spent = Spent

-- a call on a buffer that takes so many turns and moves: its pool has another name, or the thread
-- refuses it, as it would a buffer of its own kind
abbrev pub buffer_refusal : Common → Account → PoolBuffer → Bool → ℕ → ℕ → Option Refusal
buffer_refusal c a b inside turns moves =
    if b.pool == c.name
    then option_map of_access (part_no a (window_of b) inside turns moves)
    else Some NotHere

-- an allocation of so many bytes
abbrev pub size_refusal : Geometry → Account → ℕ → Option Refusal
size_refusal g a size =
    if nat_lt (chunk_bytes g) size
    then Some TooLarge
    else (if nat_lt a.turns 6 then Some Spent else None)
