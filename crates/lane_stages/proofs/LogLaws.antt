-- What steps wrote into a log.
use Rattle.std.proofs.Common.{◌+◌, ◌<◌, ◌≤◌, List, [], ◌∷◌, ◌++◌, length, refl, sym, ap, ◌∙◌, arith, append_assoc, append-nil, length-append}
use Rattle.std.specs.Prelude.{vec_capacity}
use Rattle.std.specs.Global.{Vec}
use Rattle.pool_law.specs.declared.note.Note.{Note}
use Rattle.lane_stages.specs.Logs.{HasWritten}

-- a log that nothing was written into
pub wrote_none : (log : Vec Note) → HasWritten log log []
wrote_none log = record { items = sym (append-nil log.items); room = refl }

-- two notes, one behind the other
pub wrote_two : (old mid new : Vec Note) (first second : Note) → HasWritten old mid (first ∷ [])
    → HasWritten mid new (second ∷ []) → HasWritten old new (first ∷ second ∷ [])
wrote_two old mid new first second a b = record {
  items =
      b.items ∙ ap (λ (ns : List Note). ns ++ second ∷ []) a.items ∙ append_assoc old.items (first ∷ []) (second ∷ []);
  room = b.room ∙ a.room;
}

-- behind the first there is room for the second
pub room_behind : (old mid : Vec Note) (note : Note) → HasWritten old mid (note ∷ [])
    → length old.items + 2 ≤ vec_capacity old → length mid.items < vec_capacity mid
room_behind old mid note a room =
    let b = ap (λ (ns : List Note). length ns) a.items in let c = length-append old.items (note ∷ []) in let d =
    a.room in
    omega (arith, b, c, d, room)
