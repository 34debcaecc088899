-- What follows of a legal run: regions of live roots never overlap.
use Rattle.std.specs.Prelude.{◌≡◌, ◌⊎◌, ℕ, ◌<◌, List, [], ◌∷◌, IsTrue}
use Rattle.pool_law.specs.declared.id.RootId.{RootId}
use Rattle.pool_law.specs.declared.id.RegionId.{RegionId}
use Rattle.pool_law.specs.declared.note.Did.{Did}
use Rattle.pool_law.specs.Places.{Overlap}
use Rattle.pool_law.specs.Same.{same_taking}
use Rattle.pool_law.specs.Logs.{Logs}
use Rattle.pool_law.specs.Lives.{IsUse, Done, arena_of, with_uses, Event, Happening, Begins, Leaves, Happens, Stands, InOneLog, AtOneObject}

-- one event leads to another by way of these: each is later than the one before it, in one log or
-- at one object
abbrev pub Leads : Logs → Event → List Event → Event → Type 0
Leads logs e [] g = InOneLog e g ⊎ AtOneObject e g
Leads logs e (f ∷ fs) g =
    (InOneLog e f ⊎ AtOneObject e f) × (Stands logs f × Leads logs f fs g)

-- one use ended before another began: a root's end, or its growth out of the region, leads to another
-- root's birth with the other region, or to a growth into it
pub record EndsBefore (logs : Logs) (first : RootId) (a : RegionId) (second : RootId) (b : RegionId)
    : Type 0
  where
    pub end : Event
    pub birth : Event
    pub ended : Happens logs (record { event = end; move = Leaves first a })
    pub born : Happens logs (record { event = birth; move = Begins second b })
    pub between : List Event
    pub order : Leads logs end between birth

-- two uses are one: of one root, with one region. A root that grows uses one region after another
abbrev pub IsOneUse : RootId → RegionId → RootId → RegionId → Type 0
IsOneUse first a second b = (first ≡ second) × (a ≡ b)

-- regions of live roots never overlap: of two uses whose places do, one ended before the other
-- began
abbrev pub NeverOverlap : Logs → Type 0
NeverOverlap logs =
    (first second : RootId) (a b : RegionId) → IsUse logs first a → IsUse logs second b →
    (IsOneUse first a second b → ⊥) → Overlap a.place b.place →
    EndsBefore logs first a second b ⊎ EndsBefore logs second b first a

-- one taking came back before the other was taken
pub record Before (logs : Logs) (a b : RegionId) : Type 0 where
  pub uses : ℕ
  pub given : Done logs (arena_of a) (Did.Give (with_uses a uses))
  pub taken : Done logs (arena_of b) (Did.Take b.class (with_uses b 0))
  pub order : given.number < taken.number

-- two uses whose places overlap are of one taking, or the taking of one came back before the other's
abbrev pub LieApart : Logs → Type 0
LieApart logs =
    (first second : RootId) (a b : RegionId) → IsUse logs first a → IsUse logs second b →
    (IsOneUse first a second b → ⊥) → Overlap a.place b.place →
    IsTrue (same_taking a b) ⊎ (Before logs a b ⊎ Before logs b a)
