-- Runs of one lane that makes composites.
use Rattle.std.specs.Prelude.{ℕ, zero, suc, ◌+◌, ◌*◌, false, List, [], ◌∷◌, ◌++◌, replicate}
use Rattle.pool_law.specs.declared.id.RootId.{RootId}
use Rattle.pool_law.specs.declared.id.RegionId.{RegionId}
use Rattle.pool_law.specs.declared.command.Command.{Command}
use Rattle.pool_law.specs.declared.note.Did.{Did}
use Rattle.pool_law.specs.declared.note.Note.{Note}
use Rattle.pool_law.specs.declared.note.RefDid.{RefDid}
use Rattle.pool_law.specs.declared.note.Note.TheVariants.{Ref}
use Rattle.pool_law.specs.declared.report.ListName.{ListName}
use Rattle.pool_law.specs.declared.run.Reply.{Reply}
use Rattle.pool_law.specs.declared.run.LaneLog.{LaneLog}
use Rattle.pool_law.specs.declared.run.Run.{Run}
use Rattle.definition_rows.specs.Notes.{default_shape, place, region, least_region, root, arena, cache, bin, root_place, closes, answered, chunk_end}

-- ---- A composite of two roots.

-- the first root
abbrev pub first : RootId
first = root 0 1 4

-- the second root
abbrev pub second : RootId
second = root 1 1 4

-- its region, after so many uses
abbrev pub second_region : ℕ → RegionId
second_region uses = region (place 16 16) 0 2 uses

-- its lane
abbrev pub two_parts_log : LaneLog
two_parts_log =
    record {
      replies =
          answered (Reply.OkPlace 16 (place 0 16)) 5
          ∷ answered Reply.Ok 1
          ∷ answered (Reply.OkPlace 16 (place 16 16)) 5
          ∷ answered Reply.Ok 1
          ∷ answered (Reply.OkNumber 3) 0
          ∷ answered Reply.Ok 2
          ∷ answered (Reply.OkBytes (1 ∷ 255 ∷ [])) 1
          ∷ answered (Reply.OkBytes (1 ∷ 255 ∷ 238 ∷ [])) 2
          ∷ answered Reply.Freed 10
          ∷ answered Reply.Illegal 0
          ∷ [];
      notes =
          bin 0 1 (Did.Handle 0)
          ∷ cache 0 0 1 Did.Miss
          ∷ arena 0 1 (Did.Take 0 (least_region 0))
          ∷ root_place 0 1 (Did.Birth first (least_region 1))
          ∷ Ref first RefDid.Born
          ∷ root_place 0 2 (Did.Set 0 (1 ∷ 2 ∷ []))
          ∷ bin 0 2 (Did.Handle 1)
          ∷ cache 0 0 2 Did.Miss
          ∷ arena 0 2 (Did.Take 0 (second_region 0))
          ∷ root_place 1 1 (Did.Birth second (second_region 1))
          ∷ Ref second RefDid.Born
          ∷ root_place 1 2 (Did.Set 0 (3 ∷ []))
          ∷ root_place 0 3 (Did.Set 1 (255 ∷ []))
          ∷ root_place 1 3 (Did.Set 0 (238 ∷ []))
          ∷ root_place 0 4 (Did.Get 0 (1 ∷ 255 ∷ []))
          ∷ root_place 0 5 (Did.Get 0 (1 ∷ 255 ∷ []))
          ∷ root_place 1 4 (Did.Get 0 (238 ∷ []))
          ∷ Ref first RefDid.Ended
          ∷ root_place 0 6 (Did.End first)
          ∷ Ref first RefDid.Vacated
          ∷ cache 0 0 3 (Did.Kept (least_region 1))
          ∷ bin 0 3 (Did.Home 0)
          ∷ Ref second RefDid.Ended
          ∷ root_place 1 5 (Did.End second)
          ∷ Ref second RefDid.Vacated
          ∷ cache 0 0 4 (Did.Kept (second_region 1))
          ∷ bin 0 4 (Did.Home 1)
          ∷ cache 0 0 5 (Did.Close 2)
          ∷ cache 0 0 6 (Did.Shed (least_region 1))
          ∷ arena 0 3 (Did.Give (least_region 1))
          ∷ cache 0 0 7 (Did.Shed (second_region 1))
          ∷ arena 0 4 (Did.Give (second_region 1))
          ∷ closes 0 1 39;
    }

-- a composite of two roots, which it releases at its end
abbrev pub two_parts : Run
two_parts =
    record {
      trace = record {
        lanes =
            (Command.Alloc 0 4
            ∷ Command.Write 0 (1 ∷ 2 ∷ [])
            ∷ Command.Alloc 1 4
            ∷ Command.Write 1 (3 ∷ [])
            ∷ Command.Compose 2 (0 ∷ 1 ∷ [])
            ∷ Command.Set 2 1 (255 ∷ 238 ∷ []) false
            ∷ Command.Get 0 0 2 false
            ∷ Command.Get 2 0 3 false
            ∷ Command.Release 2
            ∷ Command.Release 0
            ∷ [])
            ∷ [];
      };
      shape = default_shape 1;
      logs = two_parts_log ∷ [];
      chunks = chunk_end 0 ListName.QInit 8192 4186112 ∷ [];
      leaks = [];
    }

-- ---- Seventeen parts of one root.

-- so many times the same items
abbrev pub times : {X : Type 0} → ℕ → List X → List X
times zero xs = []
times (suc n) xs = xs ++ times n xs

-- the bytes of the root
abbrev pub four_bytes : List ℕ
four_bytes = 97 ∷ 98 ∷ 99 ∷ 100 ∷ []

-- the root that seventeen parts are copied to
abbrev pub copy : RootId
copy = root 1 1 68

-- its region, after so many uses
abbrev pub copy_region : ℕ → RegionId
copy_region uses = region (place 8192 80) 4 2 uses

-- so many parts are copied, from this one on
abbrev pub part_copies : ℕ → ℕ → List Note
part_copies k zero = []
part_copies k (suc n) =
    root_place 0 (k + 3) (Did.Get 0 four_bytes)
    ∷ root_place 1 (k + 2) (Did.Set (4 * k) four_bytes)
    ∷ part_copies (k + 1) n

-- its lane
abbrev pub consolidated_log : LaneLog
consolidated_log =
    record {
      replies =
          answered (Reply.OkPlace 16 (place 0 16)) 5
          ∷ answered Reply.Ok 1
          ∷ times 16 (answered Reply.Ok 1 ∷ [])
          ++ answered (Reply.OkNumber 68) 60
          ∷ answered (Reply.OkBytes (times 17 four_bytes)) 1
          ∷ answered Reply.Freed 5
          ∷ [];
      notes =
          bin 0 1 (Did.Handle 0)
          ∷ cache 0 0 1 Did.Miss
          ∷ arena 0 1 (Did.Take 0 (least_region 0))
          ∷ root_place 0 1 (Did.Birth first (least_region 1))
          ∷ Ref first RefDid.Born
          ∷ root_place 0 2 (Did.Set 0 four_bytes)
          ∷ times 16 (Ref first RefDid.Retain ∷ [])
          ++ bin 0 2 (Did.Handle 1)
          ∷ cache 0 4 1 Did.Miss
          ∷ arena 0 2 (Did.Take 4 (copy_region 0))
          ∷ root_place 1 1 (Did.Birth copy (copy_region 1))
          ∷ Ref copy RefDid.Born
          ∷ part_copies 0 17
          ++ times 16 (Ref first RefDid.Kept ∷ [])
          ++ Ref first RefDid.Ended
          ∷ root_place 0 20 (Did.End first)
          ∷ Ref first RefDid.Vacated
          ∷ cache 0 0 2 (Did.Kept (least_region 1))
          ∷ bin 0 3 (Did.Home 0)
          ∷ root_place 1 19 (Did.Get 0 (times 17 four_bytes))
          ∷ Ref copy RefDid.Ended
          ∷ root_place 1 20 (Did.End copy)
          ∷ Ref copy RefDid.Vacated
          ∷ cache 0 4 2 (Did.Kept (copy_region 1))
          ∷ bin 0 4 (Did.Home 1)
          ∷ cache 0 0 3 (Did.Close 1)
          ∷ cache 0 0 4 (Did.Shed (least_region 1))
          ∷ arena 0 3 (Did.Give (least_region 1))
          ∷ closes 0 1 3
          ++ cache 0 4 3 (Did.Close 1)
          ∷ cache 0 4 4 (Did.Shed (copy_region 1))
          ∷ arena 0 4 (Did.Give (copy_region 1))
          ∷ closes 0 5 35;
    }

-- seventeen parts of one root are copied to a new one, and the root is released as often
abbrev pub consolidated : Run
consolidated =
    record {
      trace = record {
        lanes =
            (Command.Alloc 0 4
            ∷ Command.Write 0 four_bytes
            ∷ times 16 (Command.Retain 0 ∷ [])
            ++ Command.Compose 1 (replicate 17 0)
            ∷ Command.Get 1 0 68 false
            ∷ Command.Release 1
            ∷ [])
            ∷ [];
      };
      shape = default_shape 1;
      logs = consolidated_log ∷ [];
      chunks = chunk_end 0 ListName.QInit 49152 4145152 ∷ [];
      leaks = [];
    }
