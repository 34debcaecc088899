-- Runs of one lane: what its arena gives, and when it is full.
use Rattle.std.specs.Prelude.{ℕ, ◌+◌, ◌*◌, List, [], ◌∷◌, ◌++◌}
use Rattle.pool_law.specs.declared.id.RootId.{RootId}
use Rattle.pool_law.specs.declared.id.RegionId.{RegionId}
use Rattle.pool_law.specs.declared.command.Command.{Command}
use Rattle.pool_law.specs.declared.note.Did.{Did}
use Rattle.pool_law.specs.declared.note.RefDid.{RefDid}
use Rattle.pool_law.specs.declared.note.Note.{Note}
use Rattle.pool_law.specs.declared.note.Note.TheVariants.{Ref}
use Rattle.pool_law.specs.declared.report.ListName.{ListName}
use Rattle.pool_law.specs.declared.run.Reply.{Reply}
use Rattle.pool_law.specs.declared.run.LaneLog.{LaneLog}
use Rattle.pool_law.specs.declared.run.Run.{Run}
use Rattle.definition_rows.specs.Notes.{default_shape, one_chunk, place, region, root, arena, cache, bin, root_place, closes, answered, chunk_end}

-- ---- The last small class and the first that is whole pages.

-- the root of the last small class
abbrev pub last_small : RootId
last_small = root 0 1 28672

-- its region, after so many uses
abbrev pub last_small_region : ℕ → RegionId
last_small_region uses = region (place 0 28672) 38 1 uses

-- the root of the first normal class
abbrev pub first_normal : RootId
first_normal = root 1 1 28673

-- its region, after so many uses
abbrev pub first_normal_region : ℕ → RegionId
first_normal_region uses = region (place 57344 32768) 39 2 uses

-- its lane
abbrev pub small_and_normal_log : LaneLog
small_and_normal_log =
    record {
      replies =
          answered (Reply.OkPlace 28672 (place 0 28672)) 5
          ∷ answered (Reply.OkPlace 32768 (place 57344 32768)) 5
          ∷ answered Reply.Freed 5
          ∷ answered Reply.Freed 5
          ∷ [];
      notes =
          bin 0 1 (Did.Handle 0)
          ∷ cache 0 38 1 Did.Miss
          ∷ arena 0 1 (Did.Take 38 (last_small_region 0))
          ∷ root_place 0 1 (Did.Birth last_small (last_small_region 1))
          ∷ Ref last_small RefDid.Born
          ∷ bin 0 2 (Did.Handle 1)
          ∷ cache 0 39 1 Did.Miss
          ∷ arena 0 2 (Did.Take 39 (first_normal_region 0))
          ∷ root_place 1 1 (Did.Birth first_normal (first_normal_region 1))
          ∷ Ref first_normal RefDid.Born
          ∷ Ref last_small RefDid.Ended
          ∷ root_place 0 2 (Did.End last_small)
          ∷ Ref last_small RefDid.Vacated
          ∷ cache 0 38 2 (Did.Kept (last_small_region 1))
          ∷ bin 0 3 (Did.Home 0)
          ∷ Ref first_normal RefDid.Ended
          ∷ root_place 1 2 (Did.End first_normal)
          ∷ Ref first_normal RefDid.Vacated
          ∷ cache 0 39 2 (Did.Kept (first_normal_region 1))
          ∷ bin 0 4 (Did.Home 1)
          ∷ (closes 0 0 38
          ++ (cache 0 38 3 (Did.Close 1)
          ∷ cache 0 38 4 (Did.Shed (last_small_region 1))
          ∷ arena 0 3 (Did.Give (last_small_region 1))
          ∷ cache 0 39 3 (Did.Close 1)
          ∷ cache 0 39 4 (Did.Shed (first_normal_region 1))
          ∷ arena 0 4 (Did.Give (first_normal_region 1))
          ∷ []));
    }

-- the last small class and the first normal one, each through its cache
abbrev pub small_and_normal : Run
small_and_normal =
    record {
      trace = record {
        lanes =
            (Command.Alloc 0 28672
            ∷ Command.Alloc 1 28673
            ∷ Command.Release 0
            ∷ Command.Release 1
            ∷ [])
            ∷ [];
      };
      shape = default_shape 1;
      logs = small_and_normal_log ∷ [];
      chunks = chunk_end 0 ListName.QInit 57344 4136960 ∷ [];
      leaks = [];
    }

-- ---- Runs that come back are merged.

-- the roots of five pages, by their places
abbrev pub five : ℕ → RootId
five at = root at 1 40960

-- their regions, by their places, after so many uses
abbrev pub five_region : ℕ → ℕ → RegionId
five_region at uses = region (place (40960 * at) 40960) 40 (at + 1) uses

-- the root of ten pages, where two of five were
abbrev pub ten : RootId
ten = root 3 1 81920

-- its region, after so many uses
abbrev pub ten_region : ℕ → RegionId
ten_region uses = region (place 0 81920) 44 4 uses

-- the notes of an allocation of five pages
abbrev pub five_born : ℕ → List Note
five_born at =
    bin 0 (at + 1) (Did.Handle at)
    ∷ arena 0 (at + 1) (Did.Take 40 (five_region at 0))
    ∷ root_place at 1 (Did.Birth (five at) (five_region at 1))
    ∷ Ref (five at) RefDid.Born
    ∷ []

-- the notes of the end of one, which has this number at the arena and at the bin
abbrev pub five_ended : ℕ → ℕ → List Note
five_ended at n =
    Ref (five at) RefDid.Ended
    ∷ root_place at 2 (Did.End (five at))
    ∷ Ref (five at) RefDid.Vacated
    ∷ arena 0 n (Did.Give (five_region at 1))
    ∷ bin 0 n (Did.Home at)
    ∷ []

-- its lane
abbrev pub merging_log : LaneLog
merging_log =
    record {
      replies =
          answered (Reply.OkPlace 40960 (place 0 40960)) 4
          ∷ answered (Reply.OkPlace 40960 (place 40960 40960)) 4
          ∷ answered (Reply.OkPlace 40960 (place 81920 40960)) 4
          ∷ answered Reply.Freed 5
          ∷ answered Reply.Freed 5
          ∷ answered (Reply.OkPlace 81920 (place 0 81920)) 4
          ∷ [];
      notes =
          five_born 0 ++ (five_born 1 ++ (five_born 2 ++ (five_ended 0 4 ++ (five_ended 1 5
          ++ (bin 0 6 (Did.Handle 3)
          ∷ arena 0 6 (Did.Take 44 (ten_region 0))
          ∷ root_place 3 1 (Did.Birth ten (ten_region 1))
          ∷ Ref ten RefDid.Born
          ∷ closes 0 0 40)))));
    }

-- two runs that come back side by side hold a request of both
abbrev pub merging : Run
merging =
    record {
      trace = record {
        lanes =
            (Command.Alloc 0 40960
            ∷ Command.Alloc 1 40960
            ∷ Command.Alloc 2 40960
            ∷ Command.Release 0
            ∷ Command.Release 1
            ∷ Command.Alloc 3 81920
            ∷ [])
            ∷ [];
      };
      shape = one_chunk 4;
      logs = merging_log ∷ [];
      chunks = chunk_end 0 ListName.Q050 122880 8192 ∷ [];
      leaks = [];
    }

-- ---- An arena is full while bytes wait in a cache.

-- the roots of half a chunk, by their places
abbrev pub half : ℕ → RootId
half at = root at 1 32768

-- their regions, by their places, after so many uses
abbrev pub half_region : ℕ → ℕ → RegionId
half_region at uses = region (place (32768 * at) 32768) 39 (at + 1) uses

-- its lane
abbrev pub full_while_cached_log : LaneLog
full_while_cached_log =
    record {
      replies =
          answered (Reply.OkPlace 32768 (place 0 32768)) 5
          ∷ answered (Reply.OkPlace 32768 (place 32768 32768)) 5
          ∷ answered Reply.Freed 5
          ∷ answered Reply.Full 3
          ∷ [];
      notes =
          bin 0 1 (Did.Handle 0)
          ∷ cache 0 39 1 Did.Miss
          ∷ arena 0 1 (Did.Take 39 (half_region 0 0))
          ∷ root_place 0 1 (Did.Birth (half 0) (half_region 0 1))
          ∷ Ref (half 0) RefDid.Born
          ∷ bin 0 2 (Did.Handle 1)
          ∷ cache 0 39 2 Did.Miss
          ∷ arena 0 2 (Did.Take 39 (half_region 1 0))
          ∷ root_place 1 1 (Did.Birth (half 1) (half_region 1 1))
          ∷ Ref (half 1) RefDid.Born
          ∷ Ref (half 0) RefDid.Ended
          ∷ root_place 0 2 (Did.End (half 0))
          ∷ Ref (half 0) RefDid.Vacated
          ∷ cache 0 39 3 (Did.Kept (half_region 0 1))
          ∷ bin 0 3 (Did.Home 0)
          ∷ bin 0 4 (Did.Handle 2)
          ∷ arena 0 3 (Did.Full 40)
          ∷ bin 0 5 (Did.Home 2)
          ∷ (closes 0 0 39
          ++ (cache 0 39 4 (Did.Close 1)
          ∷ cache 0 39 5 (Did.Shed (half_region 0 1))
          ∷ arena 0 4 (Did.Give (half_region 0 1))
          ∷ []));
    }

-- a request is refused though its bytes wait in a cache
abbrev pub full_while_cached : Run
full_while_cached =
    record {
      trace = record {
        lanes =
            (Command.Alloc 0 32768
            ∷ Command.Alloc 1 32768
            ∷ Command.Release 0
            ∷ Command.Alloc 2 40960
            ∷ [])
            ∷ [];
      };
      shape = one_chunk 3;
      logs = full_while_cached_log ∷ [];
      chunks = chunk_end 0 ListName.Q050 32768 32768 ∷ [];
      leaks = [];
    }
