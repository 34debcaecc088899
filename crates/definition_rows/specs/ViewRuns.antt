-- Runs of one lane: views of a root, and its count.
use Rattle.std.specs.Prelude.{true, false, [], ◌∷◌}
use Rattle.pool_law.specs.declared.id.RootId.{RootId}
use Rattle.pool_law.specs.declared.command.Command.{Command}
use Rattle.pool_law.specs.declared.note.Did.{Did}
use Rattle.pool_law.specs.declared.note.RefDid.{RefDid}
use Rattle.pool_law.specs.declared.note.Note.TheVariants.{Ref}
use Rattle.pool_law.specs.declared.report.ListName.{ListName}
use Rattle.pool_law.specs.declared.run.Reply.{Reply}
use Rattle.pool_law.specs.declared.run.LaneLog.{LaneLog}
use Rattle.pool_law.specs.declared.run.Run.{Run}
use Rattle.definition_rows.specs.Notes.{default_shape, place, least_region, root, arena, cache, bin, root_place, closes, answered, chunk_end}

-- ---- A slice of a slice.

-- the root
abbrev pub sixteen : RootId
sixteen = root 0 1 16

-- its lane
abbrev pub slices_log : LaneLog
slices_log =
    record {
      replies =
          answered (Reply.OkPlace 16 (place 0 16)) 5
          ∷ answered Reply.Ok 0
          ∷ answered Reply.Ok 0
          ∷ answered Reply.Ok 1
          ∷ answered (Reply.OkBytes (0 ∷ 0 ∷ 170 ∷ 187 ∷ 0 ∷ 0 ∷ 0 ∷ 0 ∷ [])) 1
          ∷ answered (Reply.OkBytes (170 ∷ 187 ∷ [])) 1
          ∷ answered Reply.Range 0
          ∷ answered Reply.Freed 5
          ∷ answered Reply.Illegal 0
          ∷ [];
      notes =
          bin 0 1 (Did.Handle 0)
          ∷ cache 0 0 1 Did.Miss
          ∷ arena 0 1 (Did.Take 0 (least_region 0))
          ∷ root_place 0 1 (Did.Birth sixteen (least_region 1))
          ∷ Ref sixteen RefDid.Born
          ∷ root_place 0 2 (Did.Set 6 (170 ∷ 187 ∷ []))
          ∷ root_place 0 3 (Did.Get 4 (0 ∷ 0 ∷ 170 ∷ 187 ∷ 0 ∷ 0 ∷ 0 ∷ 0 ∷ []))
          ∷ root_place 0 4 (Did.Get 6 (170 ∷ 187 ∷ []))
          ∷ Ref sixteen RefDid.Ended
          ∷ root_place 0 5 (Did.End sixteen)
          ∷ Ref sixteen RefDid.Vacated
          ∷ cache 0 0 2 (Did.Kept (least_region 1))
          ∷ bin 0 2 (Did.Home 0)
          ∷ cache 0 0 3 (Did.Close 1)
          ∷ cache 0 0 4 (Did.Shed (least_region 1))
          ∷ arena 0 2 (Did.Give (least_region 1))
          ∷ closes 0 1 39;
    }

-- a slice of a slice reads and writes at the offsets of both
abbrev pub slices : Run
slices =
    record {
      trace = record {
        lanes =
            (Command.Alloc 0 16
            ∷ Command.Slice 1 0 4 8 false
            ∷ Command.Slice 2 1 2 4 false
            ∷ Command.Set 2 0 (170 ∷ 187 ∷ []) false
            ∷ Command.Get 0 4 8 false
            ∷ Command.Get 1 2 2 false
            ∷ Command.Set 2 3 (1 ∷ 2 ∷ []) false
            ∷ Command.Release 2
            ∷ Command.Get 0 0 1 false
            ∷ [])
            ∷ [];
      };
      shape = default_shape 1;
      logs = slices_log ∷ [];
      chunks = chunk_end 0 ListName.QInit 8192 4186112 ∷ [];
      leaks = [];
    }

-- ---- A count of two, down to its end.

-- the root
abbrev pub eight_bytes : RootId
eight_bytes = root 0 1 8

-- its lane
abbrev pub counting_log : LaneLog
counting_log =
    record {
      replies =
          answered (Reply.OkPlace 16 (place 0 16)) 5
          ∷ answered Reply.Ok 1
          ∷ answered (Reply.OkNumber 2) 1
          ∷ answered Reply.Kept 1
          ∷ answered Reply.Freed 5
          ∷ answered Reply.Illegal 0
          ∷ answered Reply.Illegal 0
          ∷ answered Reply.Taken 0
          ∷ answered Reply.Unbound 0
          ∷ [];
      notes =
          bin 0 1 (Did.Handle 0)
          ∷ cache 0 0 1 Did.Miss
          ∷ arena 0 1 (Did.Take 0 (least_region 0))
          ∷ root_place 0 1 (Did.Birth eight_bytes (least_region 1))
          ∷ Ref eight_bytes RefDid.Born
          ∷ Ref eight_bytes RefDid.Retain
          ∷ Ref eight_bytes (RefDid.Look 2)
          ∷ Ref eight_bytes RefDid.Kept
          ∷ Ref eight_bytes RefDid.Ended
          ∷ root_place 0 2 (Did.End eight_bytes)
          ∷ Ref eight_bytes RefDid.Vacated
          ∷ cache 0 0 2 (Did.Kept (least_region 1))
          ∷ bin 0 2 (Did.Home 0)
          ∷ cache 0 0 3 (Did.Close 1)
          ∷ cache 0 0 4 (Did.Shed (least_region 1))
          ∷ arena 0 2 (Did.Give (least_region 1))
          ∷ closes 0 1 39;
    }

-- a retained slice, and the refusals after the end
abbrev pub counting : Run
counting =
    record {
      trace = record {
        lanes =
            (Command.Alloc 0 8
            ∷ Command.Slice 1 0 0 4 true
            ∷ Command.Refcnt 0
            ∷ Command.Release 1
            ∷ Command.Release 0
            ∷ Command.Release 0
            ∷ Command.Get 1 0 1 false
            ∷ Command.Alloc 0 8
            ∷ Command.Get 2 0 1 false
            ∷ [])
            ∷ [];
      };
      shape = default_shape 1;
      logs = counting_log ∷ [];
      chunks = chunk_end 0 ListName.QInit 8192 4186112 ∷ [];
      leaks = [];
    }
