-- What the calls of a nest do with the seat that counts its root.
use Rattle.std.specs.Prelude.{◌≡◌, ℕ, ◌+◌, ◌-◌, ◌==◌, Bool, Option, Some, None, MatchBool}
use Rattle.pool_law.specs.declared.id.RootId.{RootId}
use Rattle.pool_law.specs.declared.note.RefDid.TheVariants.{Retain}
use Rattle.pool_table.specs.declared.roots.EndToken.{EndToken}
use Rattle.shared_pool.specs.declared.seat.PoolSeat.{PoolSeat}
use Rattle.pool_table.specs.Counts.{gained_of, lost_of, with_ref}
use Rattle.shared_pool.specs.SeatViews.{view_of, HasView}
use Rattle.shared_pool.specs.declared.went.Release.{Release}
use Rattle.shared_pool.specs.declared.went.Release.TheVariants.{Kept, Ended}
use Rattle.shared_pool.specs.RootNotes.{IsReleasedAs}
use Rattle.counted_view.specs.Nests.{NestState, root_counts}

-- what the pool answered, by the token that it gave
abbrev pub release_of : Option EndToken → Release
release_of None = Kept
release_of (Some token) = Ended token

-- the seat counts the root of the nest as often as the nest does
abbrev pub CountsRoot : NestState → PoolSeat → Type 0
CountsRoot s seat =
    gained_of s.root (view_of seat) ≡ lost_of s.root (view_of seat) + root_counts s

-- the seat counts the root once more
abbrev pub IsRetained : RootId → PoolSeat → PoolSeat → Type 0
IsRetained root old new =
    HasView new (with_ref (view_of old) root Retain ((view_of old).moves - 1))

-- what depends on view 0 is counted in the pool, and what depends on another view is not
abbrev pub IsCountedIn : ℕ → RootId → PoolSeat → PoolSeat → Type 0
IsCountedIn number root old new = MatchBool (number == 0) (IsRetained root old new) (new ≡ old)

-- the root was released once, or else nothing was done and there is no token
abbrev pub IsReleasedIf :
    Bool → RootId → Option EndToken → PoolSeat → PoolSeat → Type 0
IsReleasedIf lost root token old new =
    MatchBool lost (IsReleasedAs (release_of token) root old new) ((token ≡ None) × (new ≡ old))
