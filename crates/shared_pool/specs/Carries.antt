-- The rule of each mail: what its queue holds, by what the passes on it know.
use Rattle.std.specs.Prelude.{◌≡◌, ℕ, ◌+◌, ◌<◌, ◌≤◌, List, [], ◌∷◌, length, true}
use mathlib.Core.Option.{some}
use lib.ListN.{get_elem?}
use Rattle.atomic_table.specs.Seated.{TableId}
use Rattle.shared_pool.specs.Posting.{PostedLetter}
use Rattle.shared_pool.specs.MailEnds.{KnownEnds, one_received}

-- a letter of this pool, on this way, with this number
pub record IsLetter (table : TableId) (from to number : ℕ) (p : PostedLetter) : Type 0 where
  pub table_is : p.table ≡ table
  pub from_is : p.letter.from ≡ from
  pub to_is : p.letter.to ≡ to
  pub number_is : p.letter.number ≡ number

-- letters with the numbers behind this one, in order
abbrev pub Follow : TableId → ℕ → ℕ → ℕ → List PostedLetter → Type 0
Follow table from to number [] = Unit {0}
Follow table from to number (p ∷ ps) =
    IsLetter table from to (number + 1) p × Follow table from to (number + 1) ps

-- an end is this one, of this mail
pub record IsEndOf (table : TableId) (from to room : ℕ) (own : ℕ) (port : ℕ) (e : KnownEnds) :
    Type 0
  where
    pub own_is : port ≡ own
    pub table_is : e.table ≡ table
    pub from_is : e.from ≡ from
    pub to_is : e.to ≡ to
    pub room_is : e.room ≡ room

-- the queue holds the letters that were sent and not received, in order of number, and no more are
-- ever sent than there is room for; one pass sends, and knows how many it sent; one receives, and
-- knows how many it received
pub record Carries (items : List PostedLetter) (passes : List KnownEnds) : Type 0 where
  pub table : TableId
  pub from : ℕ
  pub to : ℕ
  pub room : ℕ
  pub writer : ℕ
  pub reader : ℕ
  pub sent : ℕ
  pub received : ℕ
  pub counted : sent ≡ received + length items
  pub most : sent ≤ room
  pub in_order : Follow table from to received items
  pub sends : (port : ℕ) (e : KnownEnds) → get_elem? passes port ≡ some e → e.sends ≡ true →
      IsEndOf table from to room writer port e × (e.sent ≡ sent)
  pub receives : (port : ℕ) (e : KnownEnds) → get_elem? passes port ≡ some e →
      e.receives ≡ true → IsEndOf table from to room reader port e × (e.received ≡ received)

-- the next letter of the way of an end that sends, and of one that receives
abbrev pub IsNextSent : KnownEnds → PostedLetter → Type 0
IsNextSent e p = IsLetter e.table e.from e.to (e.sent + 1) p

abbrev pub IsNextReceived : KnownEnds → PostedLetter → Type 0
IsNextReceived e p = IsLetter e.table e.from e.to (e.received + 1) p

-- a pass received the next letter, of which there are no more than there is room for
pub record Received (e : KnownEnds) (p : PostedLetter) (now : KnownEnds) : Type 0 where
  pub next : IsNextReceived e p
  pub below : e.received < e.room
  pub one_more : now ≡ one_received e

-- at one moment under a rule the queue held these letters, while a pass knew this
pub record Stood
    (holds : List PostedLetter → List KnownEnds → Type 0) (e : KnownEnds)
    (items : List PostedLetter) : Type 0
  where
    pub passes : List KnownEnds
    pub port : ℕ
    pub held : holds items passes
    pub known : get_elem? passes port ≡ some e
