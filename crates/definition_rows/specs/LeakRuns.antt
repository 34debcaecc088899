-- Runs that end with live roots.
use Rattle.std.specs.Prelude.{ℕ, false, [], ◌∷◌, ◌++◌}
use Rattle.pool_law.specs.declared.id.RootId.{RootId}
use Rattle.pool_law.specs.declared.id.RegionId.{RegionId}
use Rattle.pool_law.specs.declared.command.Command.{Command}
use Rattle.pool_law.specs.declared.note.Did.{Did}
use Rattle.pool_law.specs.declared.note.RefDid.{RefDid}
use Rattle.pool_law.specs.declared.note.Note.TheVariants.{Ref}
use Rattle.pool_law.specs.declared.report.ListName.{ListName}
use Rattle.pool_law.specs.declared.report.Access.{Access}
use Rattle.pool_law.specs.declared.run.Level.{Level}
use Rattle.pool_law.specs.declared.run.Reply.{Reply}
use Rattle.pool_law.specs.declared.run.LaneLog.{LaneLog}
use Rattle.pool_law.specs.declared.run.Run.{Run}
use Rattle.definition_rows.specs.Notes.{default_shape, place, region, root, arena, cache, bin, root_place, closes, answered, chunk_end, leak}

-- a root that is forgotten
abbrev pub forgotten : RootId
forgotten = root 0 1 100

-- its region, after so many uses
abbrev pub forgotten_region : ℕ → RegionId
forgotten_region uses = region (place 0 112) 6 1 uses

-- a root that is set
abbrev pub lost : RootId
lost = root 1 1 10

-- its region, after so many uses
abbrev pub lost_region : ℕ → RegionId
lost_region uses = region (place 57344 16) 0 2 uses

-- the lane of both
abbrev pub leaking_log : LaneLog
leaking_log =
    record {
      replies =
          answered (Reply.OkPlace 112 (place 0 112)) 5
          ∷ answered Reply.Ok 0
          ∷ answered (Reply.OkPlace 16 (place 57344 16)) 5
          ∷ answered Reply.Ok 1
          ∷ [];
      notes =
          bin 0 1 (Did.Handle 0)
          ∷ cache 0 6 1 Did.Miss
          ∷ arena 0 1 (Did.Take 6 (forgotten_region 0))
          ∷ root_place 0 1 (Did.Birth forgotten (forgotten_region 1))
          ∷ Ref forgotten RefDid.Born
          ∷ bin 0 2 (Did.Handle 1)
          ∷ cache 0 0 1 Did.Miss
          ∷ arena 0 2 (Did.Take 0 (lost_region 0))
          ∷ root_place 1 1 (Did.Birth lost (lost_region 1))
          ∷ Ref lost RefDid.Born
          ∷ root_place 1 2 (Did.Set 0 (1 ∷ []))
          ∷ cache 0 0 2 (Did.Close 0)
          ∷ (closes 0 1 5 ++ (cache 0 6 2 (Did.Close 0) ∷ closes 0 7 33));
    }

-- of two live roots the first is sampled, and its accesses are not kept
abbrev pub leaking_by_default : Run
leaking_by_default =
    record {
      trace = record {
        lanes =
            (Command.Alloc 0 100
            ∷ Command.Forget 0
            ∷ Command.Alloc 1 10
            ∷ Command.Set 1 0 (1 ∷ []) false
            ∷ [])
            ∷ [];
      };
      shape = default_shape 1;
      logs = leaking_log ∷ [];
      chunks = chunk_end 0 ListName.QInit 65536 4128768 ∷ [];
      leaks = leak 1 100 1 [] 0 ∷ [];
    }

-- two live roots, each sampled, with their accesses
abbrev pub leaking : Run
leaking =
    record leaking_by_default {
      shape = record (default_shape 1) { level = Level.Advanced; interval = 1 };
      leaks = leak 1 100 1 [] 0 ∷ leak 2 10 1 (Access.Set 0 0 1 ∷ []) 0 ∷ [];
    }
