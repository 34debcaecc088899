-- Accesses to the roots of one place.
use Rattle.std.specs.Prelude.{ℕ, [], ◌∷◌, take}
use Rattle.pool_law.specs.declared.note.Did.TheVariants.{Birth, Set, Get, Touch, End}
use Rattle.pool_law.specs.declared.note.RefDid.{RefDid}
use Rattle.pool_law.specs.declared.note.Note.TheVariants.{Ref}
use Rattle.pool_law.specs.declared.report.Access.{Access}
use Rattle.pool_law.specs.Logs.{Logs, History}
use Rattle.definition_rows.specs.Notes.{root, least_region, root_place}
use Rattle.definition_rows.specs.GrowthPlays.{grown_notes}

-- a touch by a lane
abbrev pub touch_of : ℕ → Access
touch_of lane = Access.Touch lane

-- two roots, one after the other, with the lanes that use them
abbrev pub history : History
history =
    (0, Birth (root 0 1 4) (least_region 1))
    ∷ (0, Set 1 (8 ∷ 9 ∷ []))
    ∷ (1, Get 0 (0 ∷ 8 ∷ 9 ∷ 0 ∷ []))
    ∷ (1, End (root 0 1 4))
    ∷ (0, Birth (root 0 2 4) (least_region 2))
    ∷ (1, Touch)
    ∷ (0, Get 4 [])
    ∷ []

-- three roots of the first lane, of which the second ends and the other lane retains the third,
-- and one root of that lane
abbrev pub two_logs : Logs
two_logs =
    (root_place 0 1 (Birth (root 0 1 4) (least_region 1))
    ∷ root_place 1 1 (Birth (root 1 1 5) (least_region 1))
    ∷ Ref (root 1 1 5) RefDid.Ended
    ∷ root_place 1 2 (End (root 1 1 5))
    ∷ root_place 1 3 (Birth (root 1 2 6) (least_region 2))
    ∷ root_place 1 4 Touch
    ∷ [])
    ∷ (root_place 1024 1 (Birth (root 1024 1 7) (least_region 1))
    ∷ Ref (root 1 2 6) RefDid.Retain
    ∷ [])
    ∷ []

-- a root that has grown and does not end
abbrev pub live_grown : Logs
live_grown = take 14 grown_notes ∷ []
