-- Runs of two lanes of which one finds the other at an object.
use Rattle.std.specs.Prelude.{ℕ, true, [], ◌∷◌}
use Rattle.pool_law.specs.declared.id.RootId.{RootId}
use Rattle.pool_law.specs.declared.id.RegionId.{RegionId}
use Rattle.pool_law.specs.declared.id.ViewData.{ViewData}
use Rattle.pool_law.specs.declared.command.Command.{Command}
use Rattle.pool_law.specs.declared.note.Did.{Did}
use Rattle.pool_law.specs.declared.note.Object.{Object}
use Rattle.pool_law.specs.declared.note.RefDid.{RefDid}
use Rattle.pool_law.specs.declared.note.Note.TheVariants.{Ref}
use Rattle.pool_law.specs.declared.report.ListName.{ListName}
use Rattle.pool_law.specs.declared.run.Reply.{Reply}
use Rattle.pool_law.specs.declared.run.LaneLog.{LaneLog}
use Rattle.pool_law.specs.declared.run.Run.{Run}
use Rattle.definition_rows.specs.Notes.{default_shape, place, region, least_region, root, view, arena, cache, bin, mail, root_place, post, fetch, closes, answered, chunk_end}
use Rattle.definition_rows.specs.Entries.{mark}

-- a root of four bytes
abbrev pub four : RootId
four = root 0 1 4

-- a view of the whole of it
abbrev pub whole_four : ViewData
whole_four = view four 0 4 0 0

-- ---- One lane tries to set a root while the other touches it.

-- the lane that touches
abbrev pub touching_log : LaneLog
touching_log =
    record {
      replies =
          answered (Reply.OkPlace 16 (place 0 16)) 5
          ∷ answered Reply.Ok 1
          ∷ answered Reply.Ok 1
          ∷ answered Reply.Ok 1
          ∷ answered Reply.Kept 1
          ∷ [];
      notes =
          bin 0 1 (Did.Handle 0)
          ∷ cache 0 0 1 Did.Miss
          ∷ arena 0 1 (Did.Take 0 (least_region 0))
          ∷ root_place 0 1 (Did.Birth four (least_region 1))
          ∷ Ref four RefDid.Born
          ∷ Ref four RefDid.Retain
          ∷ mail 0 1 1 (post whole_four)
          ∷ root_place 0 2 Did.Touch
          ∷ Ref four RefDid.Kept
          ∷ cache 0 0 3 (Did.Close 1)
          ∷ cache 0 0 4 (Did.Shed (least_region 1))
          ∷ arena 0 2 (Did.Give (least_region 1))
          ∷ closes 0 1 39;
    }

-- the lane that tries
abbrev pub trying_log : LaneLog
trying_log =
    record {
      replies =
          answered Reply.Ok 1
          ∷ answered (Reply.Busy 1) 1
          ∷ answered (Reply.OkBytes (0 ∷ [])) 1
          ∷ answered Reply.Freed 5
          ∷ [];
      notes =
          mail 0 1 1 (fetch whole_four)
          ∷ mark (Object.Root 0) 1
          ∷ root_place 0 3 (Did.Get 0 (0 ∷ []))
          ∷ Ref four RefDid.Ended
          ∷ root_place 0 4 (Did.End four)
          ∷ Ref four RefDid.Vacated
          ∷ cache 0 0 2 (Did.Kept (least_region 1))
          ∷ bin 0 2 (Did.Home 0)
          ∷ closes 1 0 40;
    }

-- a lane that tries finds the root held, and then finds it free
abbrev pub tried : Run
tried =
    record {
      trace = record {
        lanes =
            (Command.Alloc 0 4
            ∷ Command.Retain 0
            ∷ Command.Send 0 1
            ∷ Command.Touch 0
            ∷ Command.Release 0
            ∷ [])
            ∷ (Command.Recv 0 0
            ∷ Command.Set 0 0 (1 ∷ []) true
            ∷ Command.Get 0 0 1 true
            ∷ Command.Release 0
            ∷ [])
            ∷ [];
      };
      shape = default_shape 2;
      logs = touching_log ∷ trying_log ∷ [];
      chunks = chunk_end 0 ListName.QInit 8192 4186112 ∷ [];
      leaks = [];
    }

-- ---- One lane allocates while the other puts a region into its cache.

-- the root of the second allocation
abbrev pub second : RootId
second = root 1 1 4

-- its region, after so many uses
abbrev pub second_region : ℕ → RegionId
second_region uses = region (place 16 16) 0 2 uses

-- the lane that allocates
abbrev pub passing_log : LaneLog
passing_log =
    record {
      replies =
          answered (Reply.OkPlace 16 (place 0 16)) 5
          ∷ answered Reply.Ok 1
          ∷ answered (Reply.OkPlace 16 (place 16 16)) 5
          ∷ [];
      notes =
          bin 0 1 (Did.Handle 0)
          ∷ cache 0 0 1 Did.Miss
          ∷ arena 0 1 (Did.Take 0 (least_region 0))
          ∷ root_place 0 1 (Did.Birth four (least_region 1))
          ∷ Ref four RefDid.Born
          ∷ mail 0 1 1 (post whole_four)
          ∷ bin 0 2 (Did.Handle 1)
          ∷ mark (Object.Cache 0 0) 1
          ∷ arena 0 2 (Did.Take 0 (second_region 0))
          ∷ root_place 1 1 (Did.Birth second (second_region 1))
          ∷ Ref second RefDid.Born
          ∷ cache 0 0 3 (Did.Close 1)
          ∷ cache 0 0 4 (Did.Shed (least_region 1))
          ∷ arena 0 3 (Did.Give (least_region 1))
          ∷ closes 0 1 39;
    }

-- the lane that releases
abbrev pub putting_log : LaneLog
putting_log =
    record {
      replies = answered Reply.Ok 1 ∷ answered Reply.Freed 5 ∷ [];
      notes =
          mail 0 1 1 (fetch whole_four)
          ∷ Ref four RefDid.Ended
          ∷ root_place 0 2 (Did.End four)
          ∷ Ref four RefDid.Vacated
          ∷ cache 0 0 2 (Did.Kept (least_region 1))
          ∷ bin 0 3 (Did.Home 0)
          ∷ closes 1 0 40;
    }

-- an allocation passes by its cache, in which the other lane is
abbrev pub passed_by : Run
passed_by =
    record {
      trace = record {
        lanes =
            (Command.Alloc 0 4 ∷ Command.Send 0 1 ∷ Command.Alloc 1 4 ∷ [])
            ∷ (Command.Recv 0 0 ∷ Command.Release 0 ∷ [])
            ∷ [];
      };
      shape = default_shape 2;
      logs = passing_log ∷ putting_log ∷ [];
      chunks = chunk_end 0 ListName.QInit 8192 4186112 ∷ [];
      leaks = [];
    }
