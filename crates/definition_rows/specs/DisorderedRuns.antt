-- Runs whose every log and every history is in order, and whose steps together are in none.
use Rattle.std.specs.Prelude.{false, [], ◌∷◌}
use Rattle.pool_law.specs.declared.command.Command.{Command}
use Rattle.pool_law.specs.declared.note.Did.{Did}
use Rattle.pool_law.specs.declared.note.RefDid.{RefDid}
use Rattle.pool_law.specs.declared.note.Note.TheVariants.{Ref}
use Rattle.pool_law.specs.declared.report.ListName.{ListName}
use Rattle.pool_law.specs.declared.run.Reply.{Reply}
use Rattle.pool_law.specs.declared.run.LaneLog.{LaneLog}
use Rattle.pool_law.specs.declared.run.Run.{Run}
use Rattle.definition_rows.specs.Notes.{default_shape, place, least_region, arena, cache, bin, mail, root_place, post, fetch, closes, answered, chunk_end}
use Rattle.definition_rows.specs.LaneRuns.{four, whole_four}
use Rattle.definition_rows.specs.OddRuns.{second, ending_log, freed_while_counted}

-- ---- A count ends while a parcel with the root lies in the mail.

-- the lane that sends the root to itself, ends it, and receives it on the bytes of the second
abbrev pub self_sender_log : LaneLog
self_sender_log =
    record {
      replies =
          answered (Reply.OkPlace 16 (place 0 16)) 5
          ∷ answered Reply.Ok 1
          ∷ answered Reply.Ok 1
          ∷ answered Reply.Freed 5
          ∷ answered (Reply.OkPlace 16 (place 0 16)) 4
          ∷ answered Reply.Ok 1
          ∷ answered (Reply.OkNumber 1) 1
          ∷ answered Reply.Kept 1
          ∷ answered Reply.Freed 5
          ∷ [];
      notes =
          bin 0 1 (Did.Handle 0)
          ∷ cache 0 0 1 Did.Miss
          ∷ arena 0 1 (Did.Take 0 (least_region 0))
          ∷ root_place 0 1 (Did.Birth four (least_region 1))
          ∷ Ref four RefDid.Born
          ∷ Ref four RefDid.Retain
          ∷ mail 0 0 1 (post whole_four)
          ∷ Ref four RefDid.Ended
          ∷ root_place 0 2 (Did.End four)
          ∷ Ref four RefDid.Vacated
          ∷ cache 0 0 2 (Did.Kept (least_region 1))
          ∷ bin 0 2 (Did.Home 0)
          ∷ bin 0 3 (Did.Handle 1)
          ∷ cache 0 0 3 (Did.Hit (least_region 1))
          ∷ root_place 1 1 (Did.Birth second (least_region 2))
          ∷ Ref second RefDid.Born
          ∷ mail 0 0 1 (fetch whole_four)
          ∷ Ref four (RefDid.Look 1)
          ∷ Ref four RefDid.Kept
          ∷ Ref second RefDid.Ended
          ∷ root_place 1 2 (Did.End second)
          ∷ Ref second RefDid.Vacated
          ∷ cache 0 0 4 (Did.Kept (least_region 2))
          ∷ bin 0 4 (Did.Home 1)
          ∷ cache 0 0 5 (Did.Close 1)
          ∷ cache 0 0 6 (Did.Shed (least_region 2))
          ∷ arena 0 2 (Did.Give (least_region 2))
          ∷ closes 0 1 39;
    }

-- a lane ends a root that it sent to itself, bears another on its bytes, and then receives it
abbrev pub freed_in_its_mail : Run
freed_in_its_mail =
    record {
      trace = record {
        lanes =
            (Command.Alloc 0 4
            ∷ Command.Retain 0
            ∷ Command.Send 0 0
            ∷ Command.Release 0
            ∷ Command.Alloc 1 4
            ∷ Command.Recv 2 0
            ∷ Command.Refcnt 2
            ∷ Command.Release 2
            ∷ Command.Release 1
            ∷ [])
            ∷ [];
      };
      shape = default_shape 1;
      logs = self_sender_log ∷ [];
      chunks = chunk_end 0 ListName.QInit 8192 4186112 ∷ [];
      leaks = [];
    }

-- ---- A root is written behind its end, and its end comes behind that.

-- the lane that bears the second root where the first is to end, and then uses the first
abbrev pub late_writer_log : LaneLog
late_writer_log =
    record {
      replies =
          answered (Reply.OkPlace 16 (place 0 16)) 5
          ∷ answered Reply.Ok 1
          ∷ answered Reply.Ok 1
          ∷ answered (Reply.OkPlace 16 (place 0 16)) 4
          ∷ answered Reply.Ok 1
          ∷ answered (Reply.OkBytes (7 ∷ [])) 1
          ∷ answered Reply.Kept 1
          ∷ [];
      notes =
          bin 0 1 (Did.Handle 0)
          ∷ cache 0 0 1 Did.Miss
          ∷ arena 0 1 (Did.Take 0 (least_region 0))
          ∷ root_place 0 1 (Did.Birth four (least_region 1))
          ∷ Ref four RefDid.Born
          ∷ Ref four RefDid.Retain
          ∷ mail 0 1 1 (post whole_four)
          ∷ bin 0 2 (Did.Handle 1)
          ∷ cache 0 0 3 (Did.Hit (least_region 1))
          ∷ root_place 1 1 (Did.Birth second (least_region 2))
          ∷ Ref second RefDid.Born
          ∷ root_place 0 2 (Did.Set 0 (7 ∷ []))
          ∷ root_place 0 3 (Did.Get 0 (7 ∷ []))
          ∷ Ref four RefDid.Kept
          ∷ cache 0 0 4 (Did.Close 0)
          ∷ closes 0 1 39;
    }

-- the lane that ends the first root, behind what was done at its place
abbrev pub late_ender_log : LaneLog
late_ender_log =
    record ending_log {
      notes =
          mail 0 1 1 (fetch whole_four)
          ∷ Ref four RefDid.Ended
          ∷ root_place 0 4 (Did.End four)
          ∷ Ref four RefDid.Vacated
          ∷ cache 0 0 2 (Did.Kept (least_region 1))
          ∷ bin 0 3 (Did.Home 0)
          ∷ closes 1 0 40;
    }

-- a lane writes and reads a root on whose bytes it bore another, before the other lane ends it
abbrev pub used_behind_its_end : Run
used_behind_its_end =
    record freed_while_counted {
      trace = record {
        lanes =
            (Command.Alloc 0 4
            ∷ Command.Retain 0
            ∷ Command.Send 0 1
            ∷ Command.Alloc 1 4
            ∷ Command.Set 0 0 (7 ∷ []) false
            ∷ Command.Get 0 0 1 false
            ∷ Command.Release 0
            ∷ [])
            ∷ (Command.Recv 0 0 ∷ Command.Release 0 ∷ [])
            ∷ [];
      };
      logs = late_writer_log ∷ late_ender_log ∷ [];
    }
