-- How a buffer goes from one thread to another in a parcel that C carries.
use Rattle.std.specs.Prelude.{◌≡◌, ℕ, ◌+◌, ◌==◌, nat_lt, nat_le, true, if◌then◌else◌, [], ◌∷◌, Option, None, Some, option_map, Result, IfSome, IsTrue}
use Rattle.pool_law.specs.declared.id.ViewData.{ViewData}
use Rattle.pool_law.specs.Views.{most_capacity}
use Rattle.pool_table.specs.Letters.{next_letter}
use Rattle.shared_pool.specs.Posting.{PostedLetter}
use Rattle.shared_pool.specs.SeatViews.{view_of}
use Rattle.seat_work.specs.Changes.{no_change, once_more}
use Rattle.pool_member.specs.declared.account.Account.{Account}
use Rattle.pool_member.specs.declared.answers.AcceptNo.{AcceptNo}
use Rattle.pool_member.specs.declared.answers.AcceptNo.TheVariants as accept
use Rattle.pool_member.specs.declared.member.Member.{Member}
use Rattle.pool_member.specs.Refusals.{accept_no, is_here}
use Rattle.pool_member.specs.Threads.{Does}
use Rattle.pool_member.specs.Windows.{IsParcelOf}
use Rattle.pool_c.specs.declared.buffer.PoolBuffer.{PoolBuffer}
use Rattle.pool_c.specs.declared.codes.Refusal.{Refusal}
use Rattle.pool_c.specs.declared.codes.Refusal.TheVariants.{Empty, NoMemory, NoThread, NotHere, OutOfOrder, Spent}
use Rattle.pool_c.specs.declared.held.Common.{Common}
use Rattle.pool_c.specs.declared.carried.Carried.{Carried}
use Rattle.pool_c.specs.Answers.{Answers}
use Rattle.pool_c.specs.Refusals.{buffer_refusal, root_of, window_of}

-- ---- The making of one.

-- why no parcel is made of a buffer for the thread of this number, in the order of the tests. No
-- root has bytes past the greatest capacity
abbrev pub part_refusal : Common → Account → PoolBuffer → ℕ → Option Refusal
part_refusal c a b to =
    if nat_lt to c.threads
    then (if nat_le (b.offset + b.length) most_capacity
    then buffer_refusal c a b true 1 0
    else Some NotHere)
    else Some NoThread

-- a buffer as it lies in a parcel: all of it is to be read
abbrev pub sent_view : PoolBuffer → ViewData
sent_view b = record {
  root = root_of b;
  offset = b.offset;
  len = b.length;
  reader = 0;
  writer = b.length;
}

-- the thread counts the buffer's root once less, and its next letter to the other has the buffer
pub record HasParted (b : PoolBuffer) (to : ℕ) (c : Common) (old new : Member) (p : Carried) :
    Type 0 where
  pub letter : PostedLetter
  pub posted : p.posted ≡ Some letter
  pub pool : p.pool ≡ c.name
  pub letter_is : letter.letter
      ≡ next_letter to (record { view = Some (sent_view b) }) (view_of old.seat)
  pub parcel : IsParcelOf c.shared letter
  pub does : Does c.shared 1 (record no_change { gone = root_of b ∷ [] }) (Some (root_of b)) old new
  pub moves : new.account.moves ≡ old.account.moves

-- there was no memory, and nothing changed
abbrev pub LacksMemory : Member → Member → Refusal → Type 0
LacksMemory old new why = (why ≡ NoMemory) × (new ≡ old)

abbrev pub Parts : PoolBuffer → ℕ → Common → Member → Member → Result Carried Refusal → Type 0
Parts b to c old new answer =
    Answers (part_refusal c old.account b to) answer old new (HasParted b to c old new)
    (LacksMemory old new)

-- ---- The accepting of one.

-- the refusal of a parcel, as it is told here
abbrev pub of_accept : AcceptNo → Refusal
of_accept accept.NotHere = NotHere
of_accept accept.OutOfOrder = OutOfOrder
of_accept accept.Spent = Spent

-- a letter, if there is one
abbrev pub letter_refusal : Account → Option PostedLetter → Option Refusal
letter_refusal a None = Some Empty
letter_refusal a (Some p) = option_map of_accept (accept_no a p.letter)

-- why a parcel is not accepted: its pool has another name, or the thread refuses its letter
abbrev pub accept_refusal : Common → Account → Carried → Option Refusal
accept_refusal c a p = if p.pool == c.name then letter_refusal a p.posted else Some NotHere

-- the buffer of a thread that a view of the pool with this name is
abbrev pub arrived : ℕ → ℕ → ViewData → PoolBuffer
arrived pool thread at = record {
  pool = pool;
  thread = thread;
  place = at.root.place;
  generation = at.root.generation;
  capacity = at.root.capacity;
  offset = at.offset;
  length = at.len;
}

-- the thread counts the root of the parcel's buffer once more, and has the buffer
pub record HasAccepted (p : Carried) (c : Common) (old new : Member) (b : PoolBuffer) : Type 0 where
  pub letter : PostedLetter
  pub posted : p.posted ≡ Some letter
  pub at : ViewData
  pub view : letter.letter.parcel.view ≡ Some at
  pub buffer : b ≡ arrived c.name old.account.lane at
  pub here : IsTrue (is_here new.account (window_of b))
  pub does : Does c.shared 1 (once_more at.root) None old new
  pub moves : new.account.moves ≡ old.account.moves

abbrev pub Accepts : Carried → Common → Member → Member → Result PoolBuffer Refusal → Type 0
Accepts p c old new answer =
    Answers (accept_refusal c old.account p) answer old new (HasAccepted p c old new) (λ why. ⊥)

-- the parcel is of the pool that these threads share
abbrev pub IsOf : Common → Carried → Type 0
IsOf c p = IfSome p.posted (IsParcelOf c.shared)
