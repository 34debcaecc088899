-- Notes by their places.
use Rattle.std.proofs.Common.{◌≡◌, ◌<◌, ℕ, List, [], ◌∷◌, suc, length, get_or, Some, refl, ap, ◌∙◌}
use Rattle.std.specs.Prelude.{slice_get, option_map, unwrap_or}
use Rattle.std.proofs.lemmas.Option.{slice_get_read, slice_get-map}
use Rattle.pool_law.specs.declared.run.LaneLog.{LaneLog}
use Rattle.pool_law.specs.Logs.{of_lane}
use Rattle.log_order.specs.Spots.{notes_in}

-- the notes of a lane
pub lane-notes : (logs : List LaneLog) (lane : ℕ) (log : LaneLog) → lane < length logs → log ≡ get_or logs lane log
    → of_lane (notes_in logs) lane ≡ log.notes
lane-notes logs lane log low is =
    let got : slice_get logs lane ≡ Some log = slice_get_read logs (length logs) lane log refl low is in
    ap (λ o. unwrap_or o []) (slice_get-map (λ (l : LaneLog). l.notes) logs lane
    ∙ ap (option_map (λ (l : LaneLog). l.notes)) got)

-- there are as many logs
pub as-many : (logs : List LaneLog) → length (notes_in logs) ≡ length logs
as-many [] = refl
as-many (l ∷ logs) = ap suc (as-many logs)
