-- Runs of two lanes of which the gate stops one, while a root goes from the first to the second.
use Rattle.std.specs.Prelude.{[], ◌∷◌}
use Rattle.pool_law.specs.declared.note.Did.{Did}
use Rattle.pool_law.specs.declared.note.RefDid.{RefDid}
use Rattle.pool_law.specs.declared.note.Note.TheVariants.{Ref}
use Rattle.pool_law.specs.declared.run.Reply.{Reply}
use Rattle.pool_law.specs.declared.run.LaneLog.{LaneLog}
use Rattle.pool_law.specs.declared.run.Run.{Run}
use Rattle.definition_rows.specs.Notes.{place, least_region, arena, cache, bin, mail, root_place, post, post_nothing, fetch_nothing, closes, answered, leak}
use Rattle.definition_rows.specs.LaneRuns.{four, whole_four, hand_over}

-- the hand-over, with other logs, and its root live at the end
abbrev pub stopped_with : LaneLog → LaneLog → Run
stopped_with sender receiver =
    record hand_over { logs = sender ∷ receiver ∷ []; leaks = leak 1 4 1 [] 0 ∷ [] }

-- ---- The lane that receives is stopped at its first command.

-- the lane that sends
abbrev pub sender_log : LaneLog
sender_log =
    record {
      replies =
          answered (Reply.OkPlace 16 (place 0 16)) 5
          ∷ answered Reply.Ok 1
          ∷ answered Reply.Ok 1
          ∷ [];
      notes =
          bin 0 1 (Did.Handle 0)
          ∷ cache 0 0 1 Did.Miss
          ∷ arena 0 1 (Did.Take 0 (least_region 0))
          ∷ root_place 0 1 (Did.Birth four (least_region 1))
          ∷ Ref four RefDid.Born
          ∷ root_place 0 2 (Did.Set 0 (10 ∷ 11 ∷ []))
          ∷ mail 0 1 1 (post whole_four)
          ∷ cache 0 0 2 (Did.Close 0)
          ∷ closes 0 1 39;
    }

-- the lane that is stopped
abbrev pub stopped_log : LaneLog
stopped_log =
    record {
      replies =
          answered Reply.Stopped 0
          ∷ answered Reply.Stopped 0
          ∷ answered Reply.Stopped 0
          ∷ [];
      notes = closes 1 0 40;
    }

-- the parcel is not fetched
abbrev pub stopped_receiver : Run
stopped_receiver = stopped_with sender_log stopped_log

-- ---- The lane that sends is stopped at its send.

-- the lane that is stopped
abbrev pub stopped_sender_log : LaneLog
stopped_sender_log =
    record {
      replies =
          answered (Reply.OkPlace 16 (place 0 16)) 5
          ∷ answered Reply.Ok 1
          ∷ answered Reply.Stopped 1
          ∷ [];
      notes =
          bin 0 1 (Did.Handle 0)
          ∷ cache 0 0 1 Did.Miss
          ∷ arena 0 1 (Did.Take 0 (least_region 0))
          ∷ root_place 0 1 (Did.Birth four (least_region 1))
          ∷ Ref four RefDid.Born
          ∷ root_place 0 2 (Did.Set 0 (10 ∷ 11 ∷ []))
          ∷ mail 0 1 1 post_nothing
          ∷ cache 0 0 2 (Did.Close 0)
          ∷ closes 0 1 39;
    }

-- the lane that receives nothing
abbrev pub empty_handed_log : LaneLog
empty_handed_log =
    record {
      replies =
          answered Reply.Nothing 1
          ∷ answered Reply.Unbound 0
          ∷ answered Reply.Unbound 0
          ∷ [];
      notes = mail 0 1 1 fetch_nothing ∷ closes 1 0 40;
    }

-- an empty parcel is sent and fetched
abbrev pub stopped_sender : Run
stopped_sender = stopped_with stopped_sender_log empty_handed_log
