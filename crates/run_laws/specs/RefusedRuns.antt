-- Runs that no pool makes, and that the laws refuse.
use Rattle.std.specs.Prelude.{ℕ, false, List, [], ◌∷◌}
use Rattle.pool_law.specs.declared.id.Place.{Place}
use Rattle.pool_law.specs.declared.id.RootId.{RootId}
use Rattle.pool_law.specs.declared.id.RegionId.{RegionId}
use Rattle.pool_law.specs.declared.id.Parcel.{Parcel}
use Rattle.pool_law.specs.declared.command.Command.{Command}
use Rattle.pool_law.specs.declared.note.Object.{Object}
use Rattle.pool_law.specs.declared.note.Did.{Did}
use Rattle.pool_law.specs.declared.note.RefDid.{RefDid}
use Rattle.pool_law.specs.declared.note.Note.{Note}
use Rattle.pool_law.specs.declared.note.Note.TheVariants.{At, Ref}
use Rattle.pool_law.specs.declared.report.Leak.{Leak}
use Rattle.pool_law.specs.declared.run.Level.{Level}
use Rattle.pool_law.specs.declared.run.Shape.{Shape}
use Rattle.pool_law.specs.declared.run.Reply.{Reply}
use Rattle.pool_law.specs.declared.run.Answered.{Answered}
use Rattle.pool_law.specs.declared.run.LaneLog.{LaneLog}
use Rattle.pool_law.specs.declared.run.Run.{Run}
use Rattle.pool_law.specs.Views.{view_of}
use Rattle.pool_law.specs.Lanes.{parcel_of}
use Rattle.run_laws.specs.Refused.{front_place, first_taking, byte_root, at_arena, at_cache, at_root}

-- a least shape, with so many handles a lane and so many lanes
abbrev pub shape_of : ℕ → ℕ → Shape
shape_of handles lanes =
    record {
      page = 8192;
      order = 9;
      arenas = 1;
      chunks = 1;
      handles = handles;
      lanes = lanes;
      level = Level.Simple;
      interval = 128;
    }

-- a lane's log
abbrev pub log_with : List Answered → List Note → LaneLog
log_with replies notes = record { replies = replies; notes = notes }

-- a run of these lanes that reports nothing
abbrev pub run_with : Shape → List (List Command) → List LaneLog → Run
run_with shape lanes logs =
    record { trace = record { lanes = lanes }; shape = shape; logs = logs; chunks = []; leaks = [] }

-- a reply, and how many notes its command made
abbrev pub answered_by : Reply → ℕ → Answered
answered_by reply notes = record { reply = reply; notes = notes }

-- a byte is read, set, and read again as it was
abbrev pub stale : Run
stale =
    record {
      trace = record {
        lanes =
            (Command.Alloc 0 1
            ∷ Command.Get 0 0 1 false
            ∷ Command.Set 0 0 (255 ∷ []) false
            ∷ Command.Get 0 0 1 false
            ∷ [])
            ∷ [];
      };
      shape = record {
        page = 8192;
        order = 9;
        arenas = 1;
        chunks = 1;
        handles = 1;
        lanes = 1;
        level = Level.Simple;
        interval = 128;
      };
      logs = record {
        replies =
            answered_by (Reply.OkPlace 16 front_place) 5
            ∷ answered_by (Reply.OkBytes (0 ∷ [])) 1
            ∷ answered_by Reply.Ok 1
            ∷ answered_by (Reply.OkBytes (0 ∷ [])) 1
            ∷ [];
        notes =
            At (Object.Bin 0) 1 (Did.Handle 0)
            ∷ at_cache 1 Did.Miss
            ∷ at_arena 1 (Did.Take 0 (first_taking 0))
            ∷ at_root 0 1 (Did.Birth (byte_root 0) (first_taking 1))
            ∷ Ref (byte_root 0) RefDid.Born
            ∷ at_root 0 2 (Did.Get 0 (0 ∷ []))
            ∷ at_root 0 3 (Did.Set 0 (255 ∷ []))
            ∷ at_root 0 4 (Did.Get 0 (0 ∷ []))
            ∷ [];
      } ∷ [];
      chunks = [];
      leaks = [];
    }

-- two bytes of a composite are read the wrong way round
abbrev pub behind_place : Place
behind_place = record { arena = 0; chunk = 0; offset = 16; len = 16 }

abbrev pub behind_taking : ℕ → RegionId
behind_taking uses =
    record { place = behind_place; class = 0; taking = 2; uses = uses; owner = 0 }

abbrev pub swapped : Run
swapped =
    record {
      trace = record {
        lanes =
            (Command.Alloc 0 1
            ∷ Command.Alloc 1 1
            ∷ Command.Write 0 (1 ∷ [])
            ∷ Command.Write 1 (2 ∷ [])
            ∷ Command.Compose 2 (0 ∷ 1 ∷ [])
            ∷ Command.Read 2 2
            ∷ [])
            ∷ [];
      };
      shape = record {
        page = 8192;
        order = 9;
        arenas = 1;
        chunks = 1;
        handles = 2;
        lanes = 1;
        level = Level.Simple;
        interval = 128;
      };
      logs = record {
        replies =
            answered_by (Reply.OkPlace 16 front_place) 5
            ∷ answered_by (Reply.OkPlace 16 behind_place) 5
            ∷ answered_by Reply.Ok 1
            ∷ answered_by Reply.Ok 1
            ∷ answered_by (Reply.OkNumber 2) 0
            ∷ answered_by (Reply.OkBytes (2 ∷ 1 ∷ [])) 2
            ∷ [];
        notes =
            At (Object.Bin 0) 1 (Did.Handle 0)
            ∷ at_cache 1 Did.Miss
            ∷ at_arena 1 (Did.Take 0 (first_taking 0))
            ∷ at_root 0 1 (Did.Birth (byte_root 0) (first_taking 1))
            ∷ Ref (byte_root 0) RefDid.Born
            ∷ At (Object.Bin 0) 2 (Did.Handle 1)
            ∷ at_cache 2 Did.Miss
            ∷ at_arena 2 (Did.Take 0 (behind_taking 0))
            ∷ at_root 1 1 (Did.Birth (byte_root 1) (behind_taking 1))
            ∷ Ref (byte_root 1) RefDid.Born
            ∷ at_root 0 2 (Did.Set 0 (1 ∷ []))
            ∷ at_root 1 2 (Did.Set 0 (2 ∷ []))
            ∷ at_root 1 3 (Did.Get 0 (2 ∷ []))
            ∷ at_root 0 3 (Did.Get 0 (1 ∷ []))
            ∷ [];
      } ∷ [];
      chunks = [];
      leaks = [];
    }

-- a byte is set, and then read as it was, by a note with an earlier number
abbrev pub read_early : Run
read_early =
    run_with (shape_of 1 1)
    ((Command.Alloc 0 1 ∷ Command.Set 0 0 (255 ∷ []) false ∷ Command.Get 0 0 1 false ∷ []) ∷ [])
    (log_with
    (answered_by (Reply.OkPlace 16 front_place) 5
    ∷ answered_by Reply.Ok 1
    ∷ answered_by (Reply.OkBytes (0 ∷ [])) 1
    ∷ [])
    (At (Object.Bin 0) 1 (Did.Handle 0)
    ∷ at_cache 1 Did.Miss
    ∷ at_arena 1 (Did.Take 0 (first_taking 0))
    ∷ at_root 0 1 (Did.Birth (byte_root 0) (first_taking 1))
    ∷ Ref (byte_root 0) RefDid.Born
    ∷ at_root 0 3 (Did.Set 0 (255 ∷ []))
    ∷ at_root 0 2 (Did.Get 0 (0 ∷ []))
    ∷ [])
    ∷ [])

-- the parcel with the byte
abbrev pub byte_parcel : Parcel
byte_parcel = parcel_of (view_of (byte_root 0))

-- a byte is said to be set, without a note; the lane that gets it then reads it as it was
abbrev pub set_unnoted : Run
set_unnoted =
    run_with (shape_of 1 2)
    ((Command.Alloc 0 1 ∷ Command.Set 0 0 (255 ∷ []) false ∷ Command.Send 0 1 ∷ [])
    ∷ (Command.Recv 0 0 ∷ Command.Get 0 0 1 false ∷ [])
    ∷ [])
    (log_with
    (answered_by (Reply.OkPlace 16 front_place) 5
    ∷ answered_by Reply.Ok 0
    ∷ answered_by Reply.Ok 1
    ∷ [])
    (At (Object.Bin 0) 1 (Did.Handle 0)
    ∷ at_cache 1 Did.Miss
    ∷ at_arena 1 (Did.Take 0 (first_taking 0))
    ∷ at_root 0 1 (Did.Birth (byte_root 0) (first_taking 1))
    ∷ Ref (byte_root 0) RefDid.Born
    ∷ At (Object.Mail 0 1) 1 (Did.Post byte_parcel)
    ∷ [])
    ∷ log_with
    (answered_by Reply.Ok 1 ∷ answered_by (Reply.OkBytes (0 ∷ [])) 1 ∷ [])
    (At (Object.Mail 0 1) 1 (Did.Fetch byte_parcel) ∷ at_root 0 2 (Did.Get 0 (0 ∷ [])) ∷ [])
    ∷ [])

-- a root of four bytes
abbrev pub four_root : RootId
four_root = record { place = 0; generation = 1; capacity = 4 }

-- three bytes are read of a slice of one
abbrev pub read_past : Run
read_past =
    run_with (shape_of 1 1)
    ((Command.Alloc 0 4 ∷ Command.Slice 1 0 0 1 false ∷ Command.Get 1 0 3 false ∷ []) ∷ [])
    (log_with
    (answered_by (Reply.OkPlace 16 front_place) 5
    ∷ answered_by Reply.Ok 0
    ∷ answered_by (Reply.OkBytes (0 ∷ 0 ∷ 0 ∷ [])) 1
    ∷ [])
    (At (Object.Bin 0) 1 (Did.Handle 0)
    ∷ at_cache 1 Did.Miss
    ∷ at_arena 1 (Did.Take 0 (first_taking 0))
    ∷ at_root 0 1 (Did.Birth four_root (first_taking 1))
    ∷ Ref four_root RefDid.Born
    ∷ at_root 0 2 (Did.Get 0 (0 ∷ 0 ∷ 0 ∷ []))
    ∷ [])
    ∷ [])

-- bytes are the answer to a command that reads nothing
abbrev pub touched : Run
touched =
    run_with (shape_of 1 1) ((Command.Touch 0 ∷ []) ∷ [])
    (log_with (answered_by (Reply.OkBytes (7 ∷ [])) 0 ∷ []) [] ∷ [])

-- a leak of one byte
abbrev pub byte_leak : ℕ → Leak
byte_leak serial =
    record { lane = 0; serial = serial; capacity = 1; count = 1; records = []; dropped = 0 }

-- two leaks of a lane are reported the later one first
abbrev pub leaks_turned : Run
leaks_turned = record (run_with (shape_of 2 1) ([] ∷ []) []) {
  leaks = byte_leak 2 ∷ byte_leak 1 ∷ [];
}
