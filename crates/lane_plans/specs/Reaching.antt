-- Where a command reaches the bytes of a view, and the access that is made of that.
use Rattle.std.specs.Prelude.{◌≡◌, ℕ, ◌<◌, Bool, true, ⊤, List, length, Option, Some, Result, Ok, Err}
use Rattle.pool_law.specs.declared.id.ViewData.{ViewData}
use Rattle.pool_law.specs.Views.{root_index}
use Rattle.pool_law.specs.Names.{Bound, Plain}
use Rattle.lane_context.specs.declared.access.Refusal.{Refusal}
use Rattle.lane_context.specs.declared.access.Reach.{Reach}
use Rattle.lane_context.specs.declared.access.Access.{Access}
use Rattle.lane_context.specs.declared.access.Access.TheVariants.{Refused, Set, Get}
use Rattle.lane_stages.specs.declared.counts.Counted.{Counted}
use Rattle.lane_context.specs.Named.{bound_at}
use Rattle.lane_stages.specs.Counting.{counted}

-- a range of the view of a name that passes the test: where it begins, and what the view is behind
-- the access
pub record IsReached (names : List (Option Bound)) (cs : List Counted) (name : ℕ) (tries : Bool)
    (test : ViewData → Bool) (index : ViewData → ℕ) (behind : ViewData → ViewData) (r : Reach) :
    Type 0
  where
    pub view : ViewData
    pub bound : bound_at names name ≡ Some (Plain view)
    pub counts : 0 < counted cs view.root
    pub passes : test view ≡ true
    pub root : r.root ≡ view.root
    pub offset : r.offset ≡ root_index view (index view)
    pub after : r.after.at ≡ behind view
    pub name_is : r.name ≡ name
    pub tries_is : r.tries ≡ tries

-- the access of a set, of where it reaches
abbrev pub IsMadeSet : Result Reach Refusal → List ℕ → Access → Type 0
IsMadeSet (Ok reach) bytes (Set other copy) = (other ≡ reach) × (copy.items ≡ bytes)
IsMadeSet (Err refusal) bytes (Refused other) = other ≡ refusal
IsMadeSet _ bytes _ = ⊥

-- and of a get, with room for its note and its reply
abbrev pub IsMadeGet : Result Reach Refusal → ℕ → Access → Type 0
IsMadeGet (Ok reach) len (Get other note reply) =
    (other ≡ reach) × (length note.items ≡ len) × (length reply.items ≡ len)
IsMadeGet (Err refusal) len (Refused other) = other ≡ refusal
IsMadeGet _ len _ = ⊥

-- the name that an access binds, if it does, is below this
abbrev pub BindsBelow : ℕ → Access → Type 0
BindsBelow count (Refused refusal) = ⊤
BindsBelow count (Set reach bytes) = reach.name < count
BindsBelow count (Get reach note reply) = reach.name < count
