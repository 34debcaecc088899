-- Runs of lanes that make a root grow.
use Rattle.std.specs.Prelude.{ℕ, false, [], ◌∷◌, ◌++◌}
use Rattle.pool_law.specs.declared.id.RootId.{RootId}
use Rattle.pool_law.specs.declared.id.RegionId.{RegionId}
use Rattle.pool_law.specs.declared.command.Command.{Command}
use Rattle.pool_law.specs.declared.note.Did.{Did}
use Rattle.pool_law.specs.declared.note.RefDid.{RefDid}
use Rattle.pool_law.specs.declared.note.Note.TheVariants.{Ref}
use Rattle.pool_law.specs.declared.report.ListName.{ListName}
use Rattle.pool_law.specs.declared.run.Reply.{Reply}
use Rattle.pool_law.specs.declared.run.LaneLog.{LaneLog}
use Rattle.pool_law.specs.declared.run.Run.{Run}
use Rattle.definition_rows.specs.Notes.{default_shape, one_chunk, place, least_region, root, view, arena, cache, bin, mail, root_place, post, fetch, closes, answered, chunk_end}
use Rattle.definition_rows.specs.GrowthPlays.{sixteen, seventeen, five_pages, second_class, wider, five_region, grown_notes}

-- ---- A root is asked for less than it has, and then for more than its region holds.

abbrev pub replaced : Run
replaced =
    record {
      trace = record {
        lanes =
            (Command.Alloc 0 16
            ∷ Command.Set 0 0 (255 ∷ []) false
            ∷ Command.Capacity 0 10
            ∷ Command.Capacity 0 100
            ∷ Command.Get 0 0 2 false
            ∷ Command.Get 0 99 1 false
            ∷ Command.Release 0
            ∷ [])
            ∷ [];
      };
      shape = default_shape 1;
      logs = record {
        replies =
            answered (Reply.OkPlace 16 (place 0 16)) 5
            ∷ answered Reply.Ok 1
            ∷ answered (Reply.OkNumber 16) 1
            ∷ answered (Reply.OkNumber 100) 5
            ∷ answered (Reply.OkBytes (255 ∷ 0 ∷ [])) 1
            ∷ answered (Reply.OkBytes (0 ∷ [])) 1
            ∷ answered Reply.Freed 5
            ∷ [];
        notes = grown_notes;
      } ∷ [];
      chunks = chunk_end 0 ListName.QInit 65536 4128768 ∷ [];
      leaks = [];
    }

-- ---- A root is asked for what its region holds, and then for what no chunk holds.

-- its lane
abbrev pub extended_log : LaneLog
extended_log =
    record {
      replies =
          answered (Reply.OkPlace 32 (place 0 32)) 5
          ∷ answered (Reply.OkNumber 30) 1
          ∷ answered Reply.TooLarge 0
          ∷ answered Reply.Freed 5
          ∷ [];
      notes =
          bin 0 1 (Did.Handle 0)
          ∷ cache 0 1 1 Did.Miss
          ∷ arena 0 1 (Did.Take 1 (second_class 0))
          ∷ root_place 0 1 (Did.Birth seventeen (second_class 1))
          ∷ Ref seventeen RefDid.Born
          ∷ root_place 0 2 (Did.Extend 30)
          ∷ Ref seventeen RefDid.Ended
          ∷ root_place 0 3 (Did.End seventeen)
          ∷ Ref seventeen RefDid.Vacated
          ∷ cache 0 1 2 (Did.Kept (second_class 1))
          ∷ bin 0 2 (Did.Home 0)
          ∷ cache 0 0 1 (Did.Close 0)
          ∷ cache 0 1 3 (Did.Close 1)
          ∷ cache 0 1 4 (Did.Shed (second_class 1))
          ∷ arena 0 2 (Did.Give (second_class 1))
          ∷ closes 0 2 38;
    }

abbrev pub extended : Run
extended =
    record {
      trace = record {
        lanes =
            (Command.Alloc 0 17
            ∷ Command.Capacity 0 30
            ∷ Command.Capacity 0 4194305
            ∷ Command.Release 0
            ∷ [])
            ∷ [];
      };
      shape = default_shape 1;
      logs = extended_log ∷ [];
      chunks = chunk_end 0 ListName.QInit 8192 4186112 ∷ [];
      leaks = [];
    }

-- ---- A root is asked for a whole chunk, and the one chunk is in use.

-- its lane
abbrev pub too_full_log : LaneLog
too_full_log =
    record {
      replies =
          answered (Reply.OkPlace 40960 (place 0 40960)) 4
          ∷ answered Reply.Full 2
          ∷ answered Reply.Freed 5
          ∷ [];
      notes =
          bin 0 1 (Did.Handle 0)
          ∷ arena 0 1 (Did.Take 40 (five_region 0))
          ∷ root_place 0 1 (Did.Birth five_pages (five_region 1))
          ∷ Ref five_pages RefDid.Born
          ∷ root_place 0 2 (Did.Room 65536 40960)
          ∷ arena 0 2 (Did.Full 43)
          ∷ Ref five_pages RefDid.Ended
          ∷ root_place 0 3 (Did.End five_pages)
          ∷ Ref five_pages RefDid.Vacated
          ∷ arena 0 3 (Did.Give (five_region 1))
          ∷ bin 0 2 (Did.Home 0)
          ∷ closes 0 0 40;
    }

abbrev pub too_full : Run
too_full =
    record {
      trace = record {
        lanes =
            (Command.Alloc 0 40960 ∷ Command.Capacity 0 65536 ∷ Command.Release 0 ∷ []) ∷ [];
      };
      shape = one_chunk 3;
      logs = too_full_log ∷ [];
      chunks = [];
      leaks = [];
    }

-- ---- Two lanes make one root grow. The first takes a region for it, is outrun, and keeps that
-- region unused for its next root.

-- the region that the second lane takes from its own arena, after so many uses
abbrev pub far : ℕ → RegionId
far uses =
    record {
      place = record { arena = 1; chunk = 0; offset = 0; len = 112 };
      class = 6;
      taking = 1;
      uses = uses;
      owner = 1;
    }

-- the next root
abbrev pub hundred : RootId
hundred = root 1 1 100

-- the first lane
abbrev pub outrun_log : LaneLog
outrun_log =
    record {
      replies =
          answered (Reply.OkPlace 16 (place 0 16)) 5
          ∷ answered Reply.Ok 1
          ∷ answered Reply.Ok 1
          ∷ answered (Reply.OkNumber 112) 5
          ∷ answered (Reply.OkPlace 112 (place 8192 112)) 4
          ∷ answered (Reply.OkBytes (0 ∷ [])) 1
          ∷ answered Reply.Freed 5
          ∷ answered Reply.Freed 5
          ∷ [];
      notes =
          bin 0 1 (Did.Handle 0)
          ∷ cache 0 0 1 Did.Miss
          ∷ arena 0 1 (Did.Take 0 (least_region 0))
          ∷ root_place 0 1 (Did.Birth sixteen (least_region 1))
          ∷ Ref sixteen RefDid.Born
          ∷ Ref sixteen RefDid.Retain
          ∷ mail 0 1 1 (post (view sixteen 0 16 0 0))
          ∷ root_place 0 2 (Did.Room 100 16)
          ∷ cache 0 6 1 Did.Miss
          ∷ arena 0 2 (Did.Take 6 (wider 0))
          ∷ root_place 0 5 (Did.Room 100 112)
          ∷ cache 0 6 2 (Did.Kept (wider 0))
          ∷ bin 0 2 (Did.Handle 1)
          ∷ cache 0 6 3 (Did.Hit (wider 0))
          ∷ root_place 1 1 (Did.Birth hundred (wider 1))
          ∷ Ref hundred RefDid.Born
          ∷ root_place 0 6 (Did.Get 111 (0 ∷ []))
          ∷ Ref sixteen RefDid.Ended
          ∷ root_place 0 7 (Did.End sixteen)
          ∷ Ref sixteen RefDid.Vacated
          ∷ cache 1 6 2 (Did.Kept (far 1))
          ∷ bin 0 3 (Did.Home 0)
          ∷ Ref hundred RefDid.Ended
          ∷ root_place 1 2 (Did.End hundred)
          ∷ Ref hundred RefDid.Vacated
          ∷ cache 0 6 4 (Did.Kept (wider 1))
          ∷ bin 0 4 (Did.Home 1)
          ∷ cache 0 0 3 (Did.Close 1)
          ∷ cache 0 0 4 (Did.Shed (least_region 1))
          ∷ arena 0 3 (Did.Give (least_region 1))
          ∷ closes 0 1 5
          ++ cache 0 6 5 (Did.Close 1)
          ∷ cache 0 6 6 (Did.Shed (wider 1))
          ∷ arena 0 4 (Did.Give (wider 1))
          ∷ closes 0 7 33;
    }

-- the second
abbrev pub outrunning_log : LaneLog
outrunning_log =
    record {
      replies =
          answered Reply.Ok 1
          ∷ answered (Reply.OkNumber 112) 5
          ∷ answered Reply.Kept 1
          ∷ [];
      notes =
          mail 0 1 1 (fetch (view sixteen 0 16 0 0))
          ∷ root_place 0 3 (Did.Room 112 16)
          ∷ cache 1 6 1 Did.Miss
          ∷ arena 1 1 (Did.Take 6 (far 0))
          ∷ root_place 0 4 (Did.Grow 112 (far 1))
          ∷ cache 0 0 2 (Did.Kept (least_region 1))
          ∷ Ref sixteen RefDid.Kept
          ∷ closes 1 0 6
          ++ cache 1 6 3 (Did.Close 1)
          ∷ cache 1 6 4 (Did.Shed (far 1))
          ∷ arena 1 2 (Did.Give (far 1))
          ∷ closes 1 7 33;
    }

abbrev pub outrun : Run
outrun =
    record {
      trace = record {
        lanes =
            (Command.Alloc 0 16
            ∷ Command.Retain 0
            ∷ Command.Send 0 1
            ∷ Command.Capacity 0 100
            ∷ Command.Alloc 1 100
            ∷ Command.Get 0 111 1 false
            ∷ Command.Release 0
            ∷ Command.Release 1
            ∷ [])
            ∷ (Command.Recv 0 0 ∷ Command.Capacity 0 112 ∷ Command.Release 0 ∷ [])
            ∷ [];
      };
      shape = default_shape 2;
      logs = outrun_log ∷ outrunning_log ∷ [];
      chunks =
          chunk_end 0 ListName.QInit 65536 4128768
          ∷ record (chunk_end 0 ListName.QInit 57344 4136960) { arena = 1 }
          ∷ [];
      leaks = [];
    }
