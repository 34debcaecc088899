-- The bytes of a composite at a read: those of its components, each as it stands at the core seat's
-- own get in the section.
use Rattle.std.specs.Prelude.{◌≡◌, ℕ, false, List, [], ◌∷◌, ◌++◌, length, drop}
use Rattle.pool_law.specs.declared.id.Part.{Part}
use Rattle.pool_law.specs.declared.note.Did.{Did}
use Rattle.pool_law.specs.declared.note.Held.{Held}
use Rattle.pool_law.specs.declared.note.Object.TheVariants.{Root}
use Rattle.pool_law.specs.Composites.{ranges}
use Rattle.shared_pool.specs.declared.pool.SharedPool.{SharedPool}
use Rattle.shared_pool.specs.declared.seat.PoolSeat.{PoolSeat}
use Rattle.shared_pool.specs.RootNotes.{access}
use Rattle.shared_pool.specs.Seats.{IsNoted, FoundBusy}
use Rattle.shared_composite.specs.declared.cores.Core.{Core}

-- the seat got these parts of roots one after another, each by the next note of its root's place, and
-- these are their bytes, one behind the other
abbrev pub Gets : SharedPool → List Part → PoolSeat → PoolSeat → List ℕ → Type 0
Gets pool [] old new bytes = (new ≡ old) × (bytes ≡ [])
Gets pool (p ∷ ps) old new bytes =
    (mid : PoolSeat) × (number : ℕ) × (first : List ℕ) × (rest : List ℕ)
    × (length first ≡ p.len)
    × IsNoted pool old mid (Root p.root.place) number (access p.root (Did.Get p.offset first))
    × Gets pool ps mid new rest
    × (bytes ≡ first ++ rest)

-- the core's seat got the range of its components from an index on, and these are its bytes
abbrev pub HasRead : SharedPool → Core → Core → ℕ → List ℕ → Type 0
HasRead pool old new i bytes =
    Gets pool (ranges old.parts i (length bytes)) old.seat new.seat bytes

-- of the range the core's seat got the parts before one, at which it found another seat; what it got
-- stands in front of what was to be filled, the rest of which is as before
pub record FoundHeldPart
    (pool : SharedPool) (old new : Core) (i : ℕ) (unfilled filled : List ℕ) (held : Held) :
    Type 0
  where
    pub before : List Part
    pub part : Part
    pub behind : List Part
    pub split : ranges old.parts i (length unfilled) ≡ before ++ part ∷ behind
    pub mid : PoolSeat
    pub bytes : List ℕ
    pub got : Gets pool before old.seat mid bytes
    pub found : FoundBusy pool (Root part.root.place) false mid new.seat held
    pub partly : filled ≡ bytes ++ drop (length bytes) unfilled
