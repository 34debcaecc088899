-- Runs of two lanes: parcels between them.
use Rattle.std.specs.Prelude.{false, [], ◌∷◌}
use Rattle.pool_law.specs.declared.id.RootId.{RootId}
use Rattle.pool_law.specs.declared.id.ViewData.{ViewData}
use Rattle.pool_law.specs.declared.command.Command.{Command}
use Rattle.pool_law.specs.declared.note.Did.{Did}
use Rattle.pool_law.specs.declared.note.RefDid.{RefDid}
use Rattle.pool_law.specs.declared.note.Note.TheVariants.{Ref}
use Rattle.pool_law.specs.declared.report.ListName.{ListName}
use Rattle.pool_law.specs.declared.run.Reply.{Reply}
use Rattle.pool_law.specs.declared.run.LaneLog.{LaneLog}
use Rattle.pool_law.specs.declared.run.Run.{Run}
use Rattle.definition_rows.specs.Notes.{default_shape, place, least_region, root, view, arena, cache, bin, mail, root_place, post, fetch, post_nothing, fetch_nothing, closes, answered, chunk_end, leak}

-- a root of four bytes
abbrev pub four : RootId
four = root 0 1 4

-- a view of the whole of it
abbrev pub whole_four : ViewData
whole_four = view four 0 4 0 0

-- ---- A root goes from one lane to the other.

-- the lane that sends
abbrev pub sender_log : LaneLog
sender_log =
    record {
      replies =
          answered (Reply.OkPlace 16 (place 0 16)) 5
          ∷ answered Reply.Ok 1
          ∷ answered Reply.Ok 1
          ∷ [];
      notes =
          bin 0 1 (Did.Handle 0)
          ∷ cache 0 0 1 Did.Miss
          ∷ arena 0 1 (Did.Take 0 (least_region 0))
          ∷ root_place 0 1 (Did.Birth four (least_region 1))
          ∷ Ref four RefDid.Born
          ∷ root_place 0 2 (Did.Set 0 (10 ∷ 11 ∷ []))
          ∷ mail 0 1 1 (post whole_four)
          ∷ cache 0 0 3 (Did.Close 1)
          ∷ cache 0 0 4 (Did.Shed (least_region 1))
          ∷ arena 0 2 (Did.Give (least_region 1))
          ∷ closes 0 1 39;
    }

-- the lane that receives
abbrev pub receiver_log : LaneLog
receiver_log =
    record {
      replies =
          answered Reply.Ok 1
          ∷ answered (Reply.OkBytes (10 ∷ 11 ∷ [])) 1
          ∷ answered Reply.Freed 5
          ∷ [];
      notes =
          mail 0 1 1 (fetch whole_four)
          ∷ root_place 0 3 (Did.Get 0 (10 ∷ 11 ∷ []))
          ∷ Ref four RefDid.Ended
          ∷ root_place 0 4 (Did.End four)
          ∷ Ref four RefDid.Vacated
          ∷ cache 0 0 2 (Did.Kept (least_region 1))
          ∷ bin 0 2 (Did.Home 0)
          ∷ closes 1 0 40;
    }

-- one lane sends a root, and the other reads and releases it
abbrev pub hand_over : Run
hand_over =
    record {
      trace = record {
        lanes =
            (Command.Alloc 0 4
            ∷ Command.Set 0 0 (10 ∷ 11 ∷ []) false
            ∷ Command.Send 0 1
            ∷ [])
            ∷ (Command.Recv 0 0 ∷ Command.Get 0 0 2 false ∷ Command.Release 0 ∷ [])
            ∷ [];
      };
      shape = default_shape 2;
      logs = sender_log ∷ receiver_log ∷ [];
      chunks = chunk_end 0 ListName.QInit 8192 4186112 ∷ [];
      leaks = [];
    }

-- ---- A root is sent after its end.

-- the lane that sends
abbrev pub late_sender_log : LaneLog
late_sender_log =
    record {
      replies =
          answered (Reply.OkPlace 16 (place 0 16)) 5
          ∷ answered Reply.Freed 5
          ∷ answered Reply.Illegal 1
          ∷ [];
      notes =
          bin 0 1 (Did.Handle 0)
          ∷ cache 0 0 1 Did.Miss
          ∷ arena 0 1 (Did.Take 0 (least_region 0))
          ∷ root_place 0 1 (Did.Birth four (least_region 1))
          ∷ Ref four RefDid.Born
          ∷ Ref four RefDid.Ended
          ∷ root_place 0 2 (Did.End four)
          ∷ Ref four RefDid.Vacated
          ∷ cache 0 0 2 (Did.Kept (least_region 1))
          ∷ bin 0 2 (Did.Home 0)
          ∷ mail 0 1 1 post_nothing
          ∷ cache 0 0 3 (Did.Close 1)
          ∷ cache 0 0 4 (Did.Shed (least_region 1))
          ∷ arena 0 2 (Did.Give (least_region 1))
          ∷ closes 0 1 39;
    }

-- the lane that receives
abbrev pub empty_handed_log : LaneLog
empty_handed_log =
    record {
      replies =
          answered Reply.Nothing 1
          ∷ answered Reply.Unbound 0
          ∷ [];
      notes =
          mail 0 1 1 fetch_nothing
          ∷ closes 1 0 40;
    }

-- a send that is refused posts an empty parcel
abbrev pub sent_after_release : Run
sent_after_release =
    record {
      trace = record {
        lanes =
            (Command.Alloc 0 4 ∷ Command.Release 0 ∷ Command.Send 0 1 ∷ [])
            ∷ (Command.Recv 0 0 ∷ Command.Get 0 0 1 false ∷ [])
            ∷ [];
      };
      shape = default_shape 2;
      logs = late_sender_log ∷ empty_handed_log ∷ [];
      chunks = chunk_end 0 ListName.QInit 8192 4186112 ∷ [];
      leaks = [];
    }

-- ---- A parcel that nobody fetches.

-- the lane that sends
abbrev pub unheard_log : LaneLog
unheard_log =
    record {
      replies =
          answered (Reply.OkPlace 16 (place 0 16)) 5
          ∷ answered Reply.Ok 1
          ∷ [];
      notes =
          bin 0 1 (Did.Handle 0)
          ∷ cache 0 0 1 Did.Miss
          ∷ arena 0 1 (Did.Take 0 (least_region 0))
          ∷ root_place 0 1 (Did.Birth four (least_region 1))
          ∷ Ref four RefDid.Born
          ∷ mail 0 1 1 (post whole_four)
          ∷ cache 0 0 2 (Did.Close 0)
          ∷ closes 0 1 39;
    }

-- the lane that receives nothing
abbrev pub idle_log : LaneLog
idle_log =
    record {
      replies = [];
      notes = closes 1 0 40;
    }

-- a parcel that nobody fetches is a leak
abbrev pub unfetched : Run
unfetched =
    record {
      trace = record {
        lanes =
            (Command.Alloc 0 4 ∷ Command.Send 0 1 ∷ [])
            ∷ []
            ∷ [];
      };
      shape = default_shape 2;
      logs = unheard_log ∷ idle_log ∷ [];
      chunks = chunk_end 0 ListName.QInit 8192 4186112 ∷ [];
      leaks = leak 1 4 1 [] 0 ∷ [];
    }
