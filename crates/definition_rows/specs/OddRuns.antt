-- Runs of two lanes that no pool makes.
use Rattle.std.specs.Prelude.{false, [], ◌∷◌}
use Rattle.pool_law.specs.declared.id.RootId.{RootId}
use Rattle.pool_law.specs.declared.command.Command.{Command}
use Rattle.pool_law.specs.declared.note.Did.{Did}
use Rattle.pool_law.specs.declared.note.RefDid.{RefDid}
use Rattle.pool_law.specs.declared.note.Note.TheVariants.{Ref}
use Rattle.pool_law.specs.declared.report.ListName.{ListName}
use Rattle.pool_law.specs.declared.run.Reply.{Reply}
use Rattle.pool_law.specs.declared.run.LaneLog.{LaneLog}
use Rattle.pool_law.specs.declared.run.Run.{Run}
use Rattle.definition_rows.specs.Notes.{default_shape, place, least_region, root, arena, cache, bin, mail, root_place, post, fetch, closes, answered, chunk_end}
use Rattle.definition_rows.specs.LaneRuns.{four, whole_four}

-- ---- Two lanes send each other a root that nobody bore.

-- the lane that uses it
abbrev pub user_log : LaneLog
user_log =
    record {
      replies =
          answered Reply.Ok 1
          ∷ answered Reply.Ok 1
          ∷ answered Reply.Kept 1
          ∷ answered (Reply.OkNumber 1) 1
          ∷ answered Reply.Ok 1
          ∷ [];
      notes =
          mail 1 0 1 (fetch whole_four)
          ∷ Ref four RefDid.Retain
          ∷ Ref four RefDid.Kept
          ∷ Ref four (RefDid.Look 1)
          ∷ mail 0 1 1 (post whole_four)
          ∷ closes 0 0 40;
    }

-- the lane that sends it back
abbrev pub returner_log : LaneLog
returner_log =
    record {
      replies = answered Reply.Ok 1 ∷ answered Reply.Ok 1 ∷ [];
      notes =
          mail 0 1 1 (fetch whole_four)
          ∷ mail 1 0 1 (post whole_four)
          ∷ closes 1 0 40;
    }

-- each gets the root by what it sends itself
abbrev pub circling : Run
circling =
    record {
      trace = record {
        lanes =
            (Command.Recv 0 1
            ∷ Command.Retain 0
            ∷ Command.Release 0
            ∷ Command.Refcnt 0
            ∷ Command.Send 0 1
            ∷ [])
            ∷ (Command.Recv 0 0 ∷ Command.Send 0 0 ∷ [])
            ∷ [];
      };
      shape = default_shape 2;
      logs = user_log ∷ returner_log ∷ [];
      chunks = [];
      leaks = [];
    }

-- ---- A root is read before it is set, by the lane that gets it afterwards.

-- the lane that sets and sends
abbrev pub early_sender_log : LaneLog
early_sender_log =
    record {
      replies =
          answered (Reply.OkPlace 16 (place 0 16)) 5
          ∷ answered Reply.Ok 1
          ∷ answered Reply.Ok 1
          ∷ [];
      notes =
          bin 0 1 (Did.Handle 0)
          ∷ cache 0 0 1 Did.Miss
          ∷ arena 0 1 (Did.Take 0 (least_region 0))
          ∷ root_place 0 1 (Did.Birth four (least_region 1))
          ∷ Ref four RefDid.Born
          ∷ root_place 0 3 (Did.Set 0 (10 ∷ 11 ∷ []))
          ∷ mail 0 1 1 (post whole_four)
          ∷ cache 0 0 3 (Did.Close 1)
          ∷ cache 0 0 4 (Did.Shed (least_region 1))
          ∷ arena 0 2 (Did.Give (least_region 1))
          ∷ closes 0 1 39;
    }

-- the lane that receives and reads
abbrev pub early_reader_log : LaneLog
early_reader_log =
    record {
      replies =
          answered Reply.Ok 1
          ∷ answered (Reply.OkBytes (0 ∷ 0 ∷ [])) 1
          ∷ answered Reply.Freed 5
          ∷ [];
      notes =
          mail 0 1 1 (fetch whole_four)
          ∷ root_place 0 2 (Did.Get 0 (0 ∷ 0 ∷ []))
          ∷ Ref four RefDid.Ended
          ∷ root_place 0 4 (Did.End four)
          ∷ Ref four RefDid.Vacated
          ∷ cache 0 0 2 (Did.Kept (least_region 1))
          ∷ bin 0 2 (Did.Home 0)
          ∷ closes 1 0 40;
    }

-- what was set before the send has a higher number than what was read after it
abbrev pub read_before_set : Run
read_before_set =
    record {
      trace = record {
        lanes =
            (Command.Alloc 0 4
            ∷ Command.Set 0 0 (10 ∷ 11 ∷ []) false
            ∷ Command.Send 0 1
            ∷ [])
            ∷ (Command.Recv 0 0 ∷ Command.Get 0 0 2 false ∷ Command.Release 0 ∷ [])
            ∷ [];
      };
      shape = default_shape 2;
      logs = early_sender_log ∷ early_reader_log ∷ [];
      chunks = chunk_end 0 ListName.QInit 8192 4186112 ∷ [];
      leaks = [];
    }

-- ---- A count ends while another lane counts the root.

-- the second root
abbrev pub second : RootId
second = root 1 1 4

-- the lane that still counts the first root, and lets the second be born on its region
abbrev pub counting_log : LaneLog
counting_log =
    record {
      replies =
          answered (Reply.OkPlace 16 (place 0 16)) 5
          ∷ answered Reply.Ok 1
          ∷ answered Reply.Ok 1
          ∷ answered (Reply.OkPlace 16 (place 0 16)) 4
          ∷ answered (Reply.OkNumber 1) 1
          ∷ answered Reply.Kept 1
          ∷ [];
      notes =
          bin 0 1 (Did.Handle 0)
          ∷ cache 0 0 1 Did.Miss
          ∷ arena 0 1 (Did.Take 0 (least_region 0))
          ∷ root_place 0 1 (Did.Birth four (least_region 1))
          ∷ Ref four RefDid.Born
          ∷ Ref four RefDid.Retain
          ∷ mail 0 1 1 (post whole_four)
          ∷ bin 0 2 (Did.Handle 1)
          ∷ cache 0 0 3 (Did.Hit (least_region 1))
          ∷ root_place 1 1 (Did.Birth second (least_region 2))
          ∷ Ref second RefDid.Born
          ∷ Ref four (RefDid.Look 1)
          ∷ Ref four RefDid.Kept
          ∷ cache 0 0 4 (Did.Close 0)
          ∷ closes 0 1 39;
    }

-- the lane whose release ends the first root's count
abbrev pub ending_log : LaneLog
ending_log =
    record {
      replies = answered Reply.Ok 1 ∷ answered Reply.Freed 5 ∷ [];
      notes =
          mail 0 1 1 (fetch whole_four)
          ∷ Ref four RefDid.Ended
          ∷ root_place 0 2 (Did.End four)
          ∷ Ref four RefDid.Vacated
          ∷ cache 0 0 2 (Did.Kept (least_region 1))
          ∷ bin 0 3 (Did.Home 0)
          ∷ closes 1 0 40;
    }

-- a root is freed, though the other lane counts it, which releases it later
abbrev pub freed_while_counted : Run
freed_while_counted =
    record {
      trace = record {
        lanes =
            (Command.Alloc 0 4
            ∷ Command.Retain 0
            ∷ Command.Send 0 1
            ∷ Command.Alloc 1 4
            ∷ Command.Refcnt 0
            ∷ Command.Release 0
            ∷ [])
            ∷ (Command.Recv 0 0 ∷ Command.Release 0 ∷ [])
            ∷ [];
      };
      shape = default_shape 2;
      logs = counting_log ∷ ending_log ∷ [];
      chunks = chunk_end 0 ListName.QInit 8192 4186112 ∷ [];
      leaks = [];
    }
