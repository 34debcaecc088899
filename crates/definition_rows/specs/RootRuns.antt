-- Runs of one lane: roots from their births to their ends.
use Rattle.std.specs.Prelude.{ℕ, false, List, [], ◌∷◌, codes}
use Rattle.pool_law.specs.declared.id.RootId.{RootId}
use Rattle.pool_law.specs.declared.id.RegionId.{RegionId}
use Rattle.pool_law.specs.declared.command.Command.{Command}
use Rattle.pool_law.specs.declared.note.Did.{Did}
use Rattle.pool_law.specs.declared.note.RefDid.{RefDid}
use Rattle.pool_law.specs.declared.note.Note.TheVariants.{Ref}
use Rattle.pool_law.specs.declared.report.ListName.{ListName}
use Rattle.pool_law.specs.declared.run.Reply.{Reply}
use Rattle.pool_law.specs.declared.run.LaneLog.{LaneLog}
use Rattle.pool_law.specs.declared.run.Run.{Run}
use Rattle.definition_rows.specs.Notes.{default_shape, place, region, least_region, root, arena, cache, bin, root_place, closes, answered, chunk_end}

-- ---- A lane without commands.

-- its lane
abbrev pub nothing_log : LaneLog
nothing_log =
    record {
      replies = [];
      notes = closes 0 0 40;
    }

-- no command: the lane closes its caches
abbrev pub nothing : Run
nothing =
    record {
      trace = record { lanes = [] ∷ [] };
      shape = default_shape 1;
      logs = nothing_log ∷ [];
      chunks = [];
      leaks = [];
    }

-- ---- One root that is set, read and released.

-- the root
abbrev pub hello : RootId
hello = root 0 1 24

-- its region, after so many uses
abbrev pub hello_region : ℕ → RegionId
hello_region uses = region (place 0 32) 1 1 uses

-- its lane
abbrev pub smallest_log : LaneLog
smallest_log =
    record {
      replies =
          answered (Reply.OkPlace 32 (place 0 32)) 5
          ∷ answered Reply.Ok 1
          ∷ answered (Reply.OkBytes (codes "hello")) 1
          ∷ answered Reply.Freed 5
          ∷ [];
      notes =
          bin 0 1 (Did.Handle 0)
          ∷ cache 0 1 1 Did.Miss
          ∷ arena 0 1 (Did.Take 1 (hello_region 0))
          ∷ root_place 0 1 (Did.Birth hello (hello_region 1))
          ∷ Ref hello RefDid.Born
          ∷ root_place 0 2 (Did.Set 0 (codes "hello"))
          ∷ root_place 0 3 (Did.Get 0 (codes "hello"))
          ∷ Ref hello RefDid.Ended
          ∷ root_place 0 4 (Did.End hello)
          ∷ Ref hello RefDid.Vacated
          ∷ cache 0 1 2 (Did.Kept (hello_region 1))
          ∷ bin 0 2 (Did.Home 0)
          ∷ cache 0 0 1 (Did.Close 0)
          ∷ cache 0 1 3 (Did.Close 1)
          ∷ cache 0 1 4 (Did.Shed (hello_region 1))
          ∷ arena 0 2 (Did.Give (hello_region 1))
          ∷ closes 0 2 38;
    }

-- one root, from its birth to its end
abbrev pub smallest : Run
smallest =
    record {
      trace = record {
        lanes =
            (Command.Alloc 0 24
            ∷ Command.Set 0 0 (codes "hello") false
            ∷ Command.Get 0 0 5 false
            ∷ Command.Release 0
            ∷ [])
            ∷ [];
      };
      shape = default_shape 1;
      logs = smallest_log ∷ [];
      chunks = chunk_end 0 ListName.QInit 8192 4186112 ∷ [];
      leaks = [];
    }

-- ---- A root of no bytes.

-- the root
abbrev pub empty_root : RootId
empty_root = root 0 1 0

-- its lane
abbrev pub request_zero_log : LaneLog
request_zero_log =
    record {
      replies =
          answered (Reply.OkPlace 16 (place 0 16)) 5
          ∷ answered Reply.Range 0
          ∷ answered Reply.Freed 5
          ∷ [];
      notes =
          bin 0 1 (Did.Handle 0)
          ∷ cache 0 0 1 Did.Miss
          ∷ arena 0 1 (Did.Take 0 (least_region 0))
          ∷ root_place 0 1 (Did.Birth empty_root (least_region 1))
          ∷ Ref empty_root RefDid.Born
          ∷ Ref empty_root RefDid.Ended
          ∷ root_place 0 2 (Did.End empty_root)
          ∷ Ref empty_root RefDid.Vacated
          ∷ cache 0 0 2 (Did.Kept (least_region 1))
          ∷ bin 0 2 (Did.Home 0)
          ∷ cache 0 0 3 (Did.Close 1)
          ∷ cache 0 0 4 (Did.Shed (least_region 1))
          ∷ arena 0 2 (Did.Give (least_region 1))
          ∷ closes 0 1 39;
    }

-- a request of no bytes takes the least class, and nothing can be read
abbrev pub request_zero : Run
request_zero =
    record {
      trace = record {
        lanes =
            (Command.Alloc 0 0
            ∷ Command.Get 0 0 1 false
            ∷ Command.Release 0
            ∷ [])
            ∷ [];
      };
      shape = default_shape 1;
      logs = request_zero_log ∷ [];
      chunks = chunk_end 0 ListName.QInit 8192 4186112 ∷ [];
      leaks = [];
    }

-- ---- One handle, and one region that two roots use.

-- the first root
abbrev pub first_root : RootId
first_root = root 0 1 8

-- the second root, at the same place
abbrev pub second_root : RootId
second_root = root 0 2 8

-- one byte eight times
abbrev pub eight : ℕ → List ℕ
eight b = b ∷ b ∷ b ∷ b ∷ b ∷ b ∷ b ∷ b ∷ []

-- its lane
abbrev pub one_handle_log : LaneLog
one_handle_log =
    record {
      replies =
          answered (Reply.OkPlace 16 (place 0 16)) 5
          ∷ answered Reply.Ok 1
          ∷ answered Reply.Handles 1
          ∷ answered Reply.Freed 5
          ∷ answered (Reply.OkPlace 16 (place 0 16)) 4
          ∷ answered (Reply.OkBytes (eight 0)) 1
          ∷ answered Reply.Freed 5
          ∷ [];
      notes =
          bin 0 1 (Did.Handle 0)
          ∷ cache 0 0 1 Did.Miss
          ∷ arena 0 1 (Did.Take 0 (least_region 0))
          ∷ root_place 0 1 (Did.Birth first_root (least_region 1))
          ∷ Ref first_root RefDid.Born
          ∷ root_place 0 2 (Did.Set 0 (eight 255))
          ∷ bin 0 2 Did.NoHandle
          ∷ Ref first_root RefDid.Ended
          ∷ root_place 0 3 (Did.End first_root)
          ∷ Ref first_root RefDid.Vacated
          ∷ cache 0 0 2 (Did.Kept (least_region 1))
          ∷ bin 0 3 (Did.Home 0)
          ∷ bin 0 4 (Did.Handle 0)
          ∷ cache 0 0 3 (Did.Hit (least_region 1))
          ∷ root_place 0 4 (Did.Birth second_root (least_region 2))
          ∷ Ref second_root RefDid.Born
          ∷ root_place 0 5 (Did.Get 0 (eight 0))
          ∷ Ref second_root RefDid.Ended
          ∷ root_place 0 6 (Did.End second_root)
          ∷ Ref second_root RefDid.Vacated
          ∷ cache 0 0 4 (Did.Kept (least_region 2))
          ∷ bin 0 5 (Did.Home 0)
          ∷ cache 0 0 5 (Did.Close 1)
          ∷ cache 0 0 6 (Did.Shed (least_region 2))
          ∷ arena 0 2 (Did.Give (least_region 2))
          ∷ closes 0 1 39;
    }

-- one handle; a region that comes back begins with zeros
abbrev pub one_handle : Run
one_handle =
    record {
      trace = record {
        lanes =
            (Command.Alloc 0 8
            ∷ Command.Set 0 0 (eight 255) false
            ∷ Command.Alloc 1 8
            ∷ Command.Release 0
            ∷ Command.Alloc 1 8
            ∷ Command.Get 1 0 8 false
            ∷ Command.Release 1
            ∷ [])
            ∷ [];
      };
      shape = record (default_shape 1) { handles = 1 };
      logs = one_handle_log ∷ [];
      chunks = chunk_end 0 ListName.QInit 8192 4186112 ∷ [];
      leaks = [];
    }
