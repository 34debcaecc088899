-- A root that another lane than its own makes grow, and the lives of the regions of lanes that grow
-- roots.
use Rattle.std.specs.Prelude.{false, true, List, [], ◌∷◌, ◌++◌}
use Rattle.pool_law.specs.declared.id.RootId.{RootId}
use Rattle.pool_law.specs.declared.command.Command.{Command}
use Rattle.pool_law.specs.declared.note.Object.{Object}
use Rattle.pool_law.specs.declared.note.Did.{Did}
use Rattle.pool_law.specs.declared.note.RefDid.{RefDid}
use Rattle.pool_law.specs.declared.note.Note.TheVariants.{Ref}
use Rattle.pool_law.specs.declared.report.ListName.{ListName}
use Rattle.pool_law.specs.declared.run.Reply.{Reply}
use Rattle.pool_law.specs.declared.run.LaneLog.{LaneLog}
use Rattle.pool_law.specs.declared.run.Run.{Run}
use Rattle.pool_law.specs.Lives.{Takes, Gives, Keeps, Hits, Sheds, Begins, Leaves, Happening}
use Rattle.definition_rows.specs.Notes.{default_shape, place, least_region, root, view, arena, cache, bin, mail, root_place, post, fetch, closes, answered, chunk_end}
use Rattle.definition_rows.specs.LifeRows.{happening, first_arena, least_cache}
use Rattle.definition_rows.specs.GrowthPlays.{sixteen, wider, wider_cache}
use Rattle.definition_rows.specs.GrowthRuns.{far, hundred}

-- ---- The first lane slices a root and sends it. The second makes it grow, so that its first region
-- lies in the first lane's cache, which hits it for another root. What the slice reads is in the
-- second region by then.

-- the root that uses the first region next
abbrev pub following : RootId
following = root 1 1 16

-- the first lane
abbrev pub slicing_log : LaneLog
slicing_log =
    record {
      replies =
          answered (Reply.OkPlace 16 (place 0 16)) 5
          ∷ answered Reply.Ok 1
          ∷ answered Reply.Ok 1
          ∷ answered Reply.Ok 1
          ∷ answered (Reply.OkPlace 16 (place 0 16)) 4
          ∷ answered Reply.Ok 1
          ∷ answered (Reply.OkBytes (3 ∷ 8 ∷ [])) 1
          ∷ answered Reply.Range 0
          ∷ answered Reply.Freed 5
          ∷ answered Reply.Kept 1
          ∷ [];
      notes =
          bin 0 1 (Did.Handle 0)
          ∷ cache 0 0 1 Did.Miss
          ∷ arena 0 1 (Did.Take 0 (least_region 0))
          ∷ root_place 0 1 (Did.Birth sixteen (least_region 1))
          ∷ Ref sixteen RefDid.Born
          ∷ root_place 0 2 (Did.Set 0 (1 ∷ 2 ∷ 3 ∷ 4 ∷ []))
          ∷ Ref sixteen RefDid.Retain
          ∷ mail 0 1 1 (post (view sixteen 0 16 0 0))
          ∷ bin 0 2 (Did.Handle 1)
          ∷ cache 0 0 3 (Did.Hit (least_region 1))
          ∷ root_place 1 1 (Did.Birth following (least_region 2))
          ∷ Ref following RefDid.Born
          ∷ root_place 1 2 (Did.Set 0 (9 ∷ 9 ∷ 9 ∷ 9 ∷ []))
          ∷ root_place 0 6 (Did.Get 2 (3 ∷ 8 ∷ []))
          ∷ Ref following RefDid.Ended
          ∷ root_place 1 3 (Did.End following)
          ∷ Ref following RefDid.Vacated
          ∷ cache 0 0 4 (Did.Kept (least_region 2))
          ∷ bin 0 3 (Did.Home 1)
          ∷ Ref sixteen RefDid.Kept
          ∷ cache 0 0 5 (Did.Close 1)
          ∷ cache 0 0 6 (Did.Shed (least_region 2))
          ∷ arena 0 2 (Did.Give (least_region 2))
          ∷ closes 0 1 39;
    }

-- the second
abbrev pub growing_log : LaneLog
growing_log =
    record {
      replies =
          answered Reply.Ok 1
          ∷ answered (Reply.OkNumber 100) 5
          ∷ answered Reply.Ok 1
          ∷ answered (Reply.OkBytes (0 ∷ [])) 1
          ∷ answered Reply.Freed 5
          ∷ [];
      notes =
          mail 0 1 1 (fetch (view sixteen 0 16 0 0))
          ∷ root_place 0 3 (Did.Room 100 16)
          ∷ cache 1 6 1 Did.Miss
          ∷ arena 1 1 (Did.Take 6 (far 0))
          ∷ root_place 0 4 (Did.Grow 100 (far 1))
          ∷ cache 0 0 2 (Did.Kept (least_region 1))
          ∷ root_place 0 5 (Did.Set 3 (8 ∷ []))
          ∷ root_place 0 7 (Did.Get 99 (0 ∷ []))
          ∷ Ref sixteen RefDid.Ended
          ∷ root_place 0 8 (Did.End sixteen)
          ∷ Ref sixteen RefDid.Vacated
          ∷ cache 1 6 2 (Did.Kept (far 1))
          ∷ bin 0 4 (Did.Home 0)
          ∷ closes 1 0 6
          ++ cache 1 6 3 (Did.Close 1)
          ∷ cache 1 6 4 (Did.Shed (far 1))
          ∷ arena 1 2 (Did.Give (far 1))
          ∷ closes 1 7 33;
    }

abbrev pub elsewhere : Run
elsewhere =
    record {
      trace = record {
        lanes =
            (Command.Alloc 0 16
            ∷ Command.Set 0 0 (1 ∷ 2 ∷ 3 ∷ 4 ∷ []) false
            ∷ Command.Slice 1 0 2 2 true
            ∷ Command.Send 0 1
            ∷ Command.Alloc 2 16
            ∷ Command.Set 2 0 (9 ∷ 9 ∷ 9 ∷ 9 ∷ []) false
            ∷ Command.Get 1 0 2 false
            ∷ Command.Get 1 0 3 false
            ∷ Command.Release 2
            ∷ Command.Release 1
            ∷ [])
            ∷ (Command.Recv 0 0
            ∷ Command.Capacity 0 100
            ∷ Command.Set 0 3 (8 ∷ []) false
            ∷ Command.Get 0 99 1 false
            ∷ Command.Release 0
            ∷ [])
            ∷ [];
      };
      shape = default_shape 2;
      logs = slicing_log ∷ growing_log ∷ [];
      chunks =
          chunk_end 0 ListName.QInit 8192 4186112
          ∷ record (chunk_end 0 ListName.QInit 57344 4136960) { arena = 1 }
          ∷ [];
      leaks = [];
    }

-- what becomes of the first region, which both lanes move
abbrev pub first_used : List Happening
first_used =
    happening 0 3 (Object.Root 0) 1 (Did.Birth sixteen (least_region 1))
    (Begins sixteen (least_region 1))
    ∷ happening 1 4 (Object.Root 0) 4 (Did.Grow 100 (far 1)) (Leaves sixteen (least_region 1))
    ∷ happening 1 5 least_cache 2 (Did.Kept (least_region 1)) (Keeps (least_region 1))
    ∷ happening 0 9 least_cache 3 (Did.Hit (least_region 1)) (Hits (least_region 1))
    ∷ happening 0 10 (Object.Root 1) 1 (Did.Birth following (least_region 2))
    (Begins following (least_region 2))
    ∷ happening 0 15 (Object.Root 1) 3 (Did.End following) (Leaves following (least_region 2))
    ∷ happening 0 17 least_cache 4 (Did.Kept (least_region 2)) (Keeps (least_region 2))
    ∷ happening 0 21 least_cache 6 (Did.Shed (least_region 2)) (Sheds (least_region 2))
    ∷ happening 0 22 first_arena 2 (Did.Give (least_region 2)) (Gives (least_region 2))
    ∷ []

-- the region of the second lane, which it takes for the root of the first
abbrev pub far_cache : Object
far_cache = Object.Cache 1 6

abbrev pub far_taken : Happening
far_taken = happening 1 3 (Object.Arena 1) 1 (Did.Take 6 (far 0)) (Takes 6 (far 0))

abbrev pub far_used : List Happening
far_used =
    happening 1 4 (Object.Root 0) 4 (Did.Grow 100 (far 1)) (Begins sixteen (far 1))
    ∷ happening 1 9 (Object.Root 0) 8 (Did.End sixteen) (Leaves sixteen (far 1))
    ∷ happening 1 11 far_cache 2 (Did.Kept (far 1)) (Keeps (far 1))
    ∷ happening 1 20 far_cache 4 (Did.Shed (far 1)) (Sheds (far 1))
    ∷ happening 1 21 (Object.Arena 1) 2 (Did.Give (far 1)) (Gives (far 1))
    ∷ []

-- ---- Of a lane that another outran: the region that it took for nothing, and used for its next root.

abbrev pub spare_used : List Happening
spare_used =
    happening 0 11 wider_cache 2 (Did.Kept (wider 0)) (Keeps (wider 0))
    ∷ happening 0 13 wider_cache 3 (Did.Hit (wider 0)) (Hits (wider 0))
    ∷ happening 0 14 (Object.Root 1) 1 (Did.Birth hundred (wider 1)) (Begins hundred (wider 1))
    ∷ happening 0 23 (Object.Root 1) 2 (Did.End hundred) (Leaves hundred (wider 1))
    ∷ happening 0 25 wider_cache 4 (Did.Kept (wider 1)) (Keeps (wider 1))
    ∷ happening 0 36 wider_cache 6 (Did.Shed (wider 1)) (Sheds (wider 1))
    ∷ happening 0 37 first_arena 4 (Did.Give (wider 1)) (Gives (wider 1))
    ∷ []
