-- Two logs of one root, and which lanes may note what.
use Rattle.std.specs.Prelude.{ℕ, false, List, [], ◌∷◌, filter, Option, Some, None}
use Rattle.pool_law.specs.declared.id.RootId.{RootId}
use Rattle.pool_law.specs.declared.id.RegionId.{RegionId}
use Rattle.pool_law.specs.declared.note.Did.{Did}
use Rattle.pool_law.specs.declared.note.Noted.{Noted}
use Rattle.pool_law.specs.declared.note.Note.{Note}
use Rattle.pool_law.specs.declared.note.RefDid.{RefDid}
use Rattle.pool_law.specs.declared.note.Note.TheVariants.{Ref}
use Rattle.pool_law.specs.Logs.{Logs, note_stands}
use Rattle.definition_rows.specs.Notes.{default_shape, root, least_region, root_place}

-- a root that one lane bears and sets, and the other touches and ends
abbrev pub logs : Logs
logs =
    (root_place 0 1 (Did.Birth (root 0 1 4) (least_region 1))
    ∷ Ref (root 0 1 4) RefDid.Born
    ∷ root_place 0 3 (Did.Set 0 (7 ∷ []))
    ∷ [])
    ∷ (root_place 0 2 Did.Touch ∷ root_place 0 4 (Did.End (root 0 1 4)) ∷ [])
    ∷ []

-- the lanes of three that may note this, over two arenas
abbrev pub lanes_of : Note → List ℕ
lanes_of note = filter (λ lane. note_stands (default_shape 3) lane note) (0 ∷ 1 ∷ 2 ∷ [])

-- a note of a lane, with what its object's history tells
abbrev pub noted : ℕ → Did → Option RootId → Option RegionId → Noted
noted lane did root region =
    record { did = did; lane = Some lane; watch = None; root = root; region = region }

-- the birth of a root of four bytes
abbrev pub born : Noted
born = noted 0 (Did.Birth (root 0 1 4) (least_region 1)) None None

-- a touch of that root, made with a watch as if it were a birth
abbrev pub watched_touch : Noted
watched_touch =
    let touch = noted 1 Did.Touch (Some (root 0 1 4)) None in
    record touch { watch = Some (record { lane = 1; serial = 1; keeps = false }) }

-- a note of a seat without a number
abbrev pub of_no_lane : Noted → Noted
of_no_lane n = record n { lane = None }
