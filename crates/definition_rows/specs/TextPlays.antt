-- One of each command, reply and note.
use Rattle.std.specs.Prelude.{ℕ, true, false, List, [], ◌∷◌, ◌++◌, codes, decimal}
use Rattle.std.specs.List.{flat_map}
use Rattle.size_classes.specs.Sizes.{below}
use Rattle.pool_law.specs.declared.id.RootId.{RootId}
use Rattle.pool_law.specs.declared.id.RegionId.{RegionId}
use Rattle.pool_law.specs.declared.id.ViewData.{ViewData}
use Rattle.pool_law.specs.declared.command.Command.{Command}
use Rattle.pool_law.specs.declared.note.CacheNo.{CacheNo}
use Rattle.pool_law.specs.declared.note.Did.{Did}
use Rattle.pool_law.specs.declared.note.Note.{Note}
use Rattle.pool_law.specs.declared.note.Object.{Object}
use Rattle.pool_law.specs.declared.note.RefDid.{RefDid}
use Rattle.pool_law.specs.declared.note.Note.TheVariants.{Ref}
use Rattle.pool_law.specs.declared.run.Reply.{Reply}
use Rattle.pool_law.specs.declared.run.Answered.{Answered}
use Rattle.pool_law.specs.declared.run.Run.{Run}
use Rattle.pool_law.specs.declared.report.Access.{Access}
use Rattle.pool_law.specs.declared.report.ListName.{ListName}
use Rattle.definition_rows.specs.Notes.{default_shape, place, region, least_region, chunk_end, leak, root, view, arena, cache, bin, mail, root_place, post, fetch, post_nothing, fetch_nothing, answered}
use Rattle.definition_rows.specs.Entries.{mark}

-- commands, one of each
abbrev pub commands : List Command
commands =
    Command.Alloc 0 24
    ∷ Command.Set 0 0 [] false
    ∷ Command.Set 0 0 [] true
    ∷ Command.Get 0 0 2 false
    ∷ Command.Get 0 0 0 true
    ∷ Command.Write 0 []
    ∷ Command.Read 0 1
    ∷ Command.Slice 1 0 0 1 false
    ∷ Command.Slice 1 0 0 1 true
    ∷ Command.Dup 1 0
    ∷ Command.Retain 0
    ∷ Command.Release 0
    ∷ Command.Release 0
    ∷ Command.Refcnt 0
    ∷ Command.Touch 0
    ∷ Command.Forget 0
    ∷ Command.Send 0 1
    ∷ Command.Recv 2 1
    ∷ Command.Compose 3 (0 ∷ [])
    ∷ Command.Add 3 0
    ∷ Command.Alloc 4 8
    ∷ Command.Alloc 4 8
    ∷ []

-- a reply to each
abbrev pub replies_to : List Answered
replies_to =
    answered (Reply.OkPlace 32 (record { arena = 0; chunk = 1; offset = 64; len = 32 })) 5
    ∷ answered Reply.Ok 1
    ∷ answered (Reply.Busy 7) 1
    ∷ answered (Reply.OkBytes (10 ∷ 255 ∷ [])) 1
    ∷ answered (Reply.OkBytes []) 1
    ∷ answered Reply.Range 0
    ∷ answered Reply.Illegal 0
    ∷ answered Reply.Unbound 0
    ∷ answered Reply.Taken 0
    ∷ answered Reply.Composite 0
    ∷ answered Reply.Ok 1
    ∷ answered Reply.Kept 1
    ∷ answered Reply.Freed 5
    ∷ answered (Reply.OkNumber 3) 1
    ∷ answered Reply.Ok 1
    ∷ answered Reply.Ok 0
    ∷ answered Reply.Stopped 1
    ∷ answered Reply.Nothing 1
    ∷ answered Reply.TooLarge 0
    ∷ answered Reply.Plain 0
    ∷ answered Reply.Handles 1
    ∷ answered Reply.Full 4
    ∷ []

-- a region of another arena and chunk
abbrev pub far_region : RegionId
far_region =
    record {
      place = record { arena = 1; chunk = 3; offset = 4096; len = 16 };
      class = 0;
      taking = 257;
      uses = 2;
      owner = 2;
    }

-- the sixth root of a place
abbrev pub sixth_root : RootId
sixth_root = root 5 6 11

-- a view of some of its bytes
abbrev pub inner_view : ViewData
inner_view = view sixth_root 3 8 1 7

-- what is noted at an arena
abbrev pub arena_notes : List Note
arena_notes =
    arena 1 1 (Did.Take 0 far_region)
    ∷ arena 1 2 (Did.Full 39)
    ∷ arena 1 3 (Did.Give far_region)
    ∷ []

-- what is noted at a cache
abbrev pub cache_notes : List Note
cache_notes =
    cache 2 0 1 Did.Miss
    ∷ cache 2 0 2 (Did.Kept far_region)
    ∷ cache 2 0 3 (Did.Hit far_region)
    ∷ cache 2 0 4 (Did.Back far_region CacheNo.Full)
    ∷ cache 2 0 5 (Did.Trim 12)
    ∷ cache 2 0 6 (Did.Shed far_region)
    ∷ cache 2 0 7 (Did.Close 0)
    ∷ cache 2 0 8 (Did.Back far_region CacheNo.Closed)
    ∷ []

-- what is noted at a bin
abbrev pub bin_notes : List Note
bin_notes = bin 2 1 (Did.Handle 5) ∷ bin 2 2 Did.NoHandle ∷ bin 2 3 (Did.Home 5) ∷ []

-- what is noted at a mail
abbrev pub mail_notes : List Note
mail_notes =
    mail 0 1 1 (post inner_view)
    ∷ mail 0 1 2 post_nothing
    ∷ mail 0 1 1 (fetch inner_view)
    ∷ mail 0 1 2 fetch_nothing
    ∷ []

-- what is noted at a root place
abbrev pub root_notes : List Note
root_notes =
    root_place 5 1 (Did.Birth sixth_root far_region)
    ∷ root_place 5 2 (Did.Set 3 (10 ∷ 255 ∷ []))
    ∷ root_place 5 3 (Did.Set 11 [])
    ∷ root_place 5 4 (Did.Get 3 (10 ∷ 255 ∷ []))
    ∷ root_place 5 5 (Did.Get 11 [])
    ∷ root_place 5 6 Did.Touch
    ∷ root_place 5 7 (Did.End sixth_root)
    ∷ []

-- what is noted of a word
abbrev pub word_notes : List Note
word_notes =
    Ref sixth_root RefDid.Born
    ∷ Ref sixth_root RefDid.Retain
    ∷ Ref sixth_root (RefDid.Look 2)
    ∷ Ref sixth_root RefDid.Kept
    ∷ Ref sixth_root RefDid.Ended
    ∷ Ref sixth_root RefDid.Vacated
    ∷ []

-- busy marks
abbrev pub marks : List Note
marks = mark (Object.Cache 0 39) 12 ∷ mark (Object.Root 5) 0 ∷ []

-- a cache that is full sends a region back, and its arena takes it
abbrev pub back_and_given : List Note
back_and_given =
    cache 0 0 514 (Did.Back (region (place 4096 16) 0 257 1) CacheNo.Full)
    ∷ arena 0 258 (Did.Give (region (place 4096 16) 0 257 1))
    ∷ []

-- the closing of the forty caches of the first lane, line by line
abbrev pub close_lines : List ℕ
close_lines =
    flat_map
    (λ class. codes "note 0 cache 0 " ++ (decimal class ++ (codes " 1 close 0" ++ 10 ∷ [])))
    (below 40)

-- a run of two lanes with a note each, of which the first has one root
abbrev pub two_logs : Run
two_logs =
    record {
      trace = record {
        lanes = (Command.Alloc 0 4 ∷ Command.Forget 0 ∷ []) ∷ (Command.Recv 0 0 ∷ []) ∷ [];
      };
      shape = default_shape 2;
      logs =
          record {
            replies = answered (Reply.OkPlace 16 (place 0 16)) 1 ∷ answered Reply.Ok 0 ∷ [];
            notes = root_place 0 1 (Did.Birth (root 0 1 4) (least_region 1)) ∷ [];
          }
          ∷ record {
            replies = answered Reply.Nothing 1 ∷ [];
            notes = mail 0 1 1 fetch_nothing ∷ [];
          }
          ∷ [];
      chunks = chunk_end 0 ListName.QInit 8192 4186112 ∷ [];
      leaks = leak 1 4 1 (Access.Touch 0 ∷ []) 0 ∷ [];
    }
