-- Notes that no pool makes, and that the laws refuse.
use Rattle.std.specs.Prelude.{ℕ, List, [], ◌∷◌}
use Rattle.pool_law.specs.declared.id.Place.{Place}
use Rattle.pool_law.specs.declared.id.RootId.{RootId}
use Rattle.pool_law.specs.declared.id.RegionId.{RegionId}
use Rattle.pool_law.specs.declared.note.Object.{Object}
use Rattle.pool_law.specs.declared.note.Did.{Did}
use Rattle.pool_law.specs.declared.note.RefDid.{RefDid}
use Rattle.pool_law.specs.declared.note.Note.{Note}
use Rattle.pool_law.specs.declared.note.Note.TheVariants.{At, Ref}
use Rattle.pool_law.specs.Logs.{Logs}

-- the front of the first chunk
abbrev pub front_place : Place
front_place = record { arena = 0; chunk = 0; offset = 0; len = 16 }

-- its first taking and its second, after so many uses
abbrev pub first_taking : ℕ → RegionId
first_taking uses = record { place = front_place; class = 0; taking = 1; uses = uses; owner = 0 }

abbrev pub second_taking : ℕ → RegionId
second_taking uses = record { place = front_place; class = 0; taking = 2; uses = uses; owner = 0 }

-- a root of one byte
abbrev pub byte_root : ℕ → RootId
byte_root place = record { place = place; generation = 1; capacity = 1 }

abbrev pub at_arena : ℕ → Did → Note
at_arena n did = At (Object.Arena 0) n did

abbrev pub at_cache : ℕ → Did → Note
at_cache n did = At (Object.Cache 0 0) n did

abbrev pub at_root : ℕ → ℕ → Did → Note
at_root place n did = At (Object.Root place) n did

-- a region is given back while its root is live, and taken for another
abbrev pub given_while_live : Logs
given_while_live =
    (at_arena 1 (Did.Take 0 (first_taking 0))
    ∷ at_root 0 1 (Did.Birth (byte_root 0) (first_taking 1))
    ∷ Ref (byte_root 0) RefDid.Born
    ∷ at_arena 2 (Did.Give (first_taking 0))
    ∷ at_arena 3 (Did.Take 0 (second_taking 0))
    ∷ at_root 1 1 (Did.Birth (byte_root 1) (second_taking 1))
    ∷ Ref (byte_root 1) RefDid.Born
    ∷ Ref (byte_root 0) RefDid.Ended
    ∷ at_root 0 2 (Did.End (byte_root 0))
    ∷ Ref (byte_root 0) RefDid.Vacated
    ∷ at_cache 1 (Did.Kept (first_taking 1))
    ∷ at_cache 2 (Did.Close 1)
    ∷ at_cache 3 (Did.Shed (first_taking 1))
    ∷ [])
    ∷ []

-- a root is born, and ends if these notes follow
abbrev pub ends_with : List Note → Logs
ends_with notes =
    (at_arena 1 (Did.Take 0 (first_taking 0))
    ∷ at_root 0 1 (Did.Birth (byte_root 0) (first_taking 1))
    ∷ Ref (byte_root 0) RefDid.Born
    ∷ notes)
    ∷ []

-- its region is given back though it never ends
abbrev pub given_alive : Logs
given_alive = ends_with (at_arena 2 (Did.Give (first_taking 1)) ∷ [])

-- it is kept though it never ends
abbrev pub kept_alive : Logs
kept_alive = ends_with (at_cache 1 (Did.Kept (first_taking 1)) ∷ [])

-- it is given back and then kept, and shed as the cache closes
abbrev pub given_and_kept : Logs
given_and_kept =
    ends_with
    (Ref (byte_root 0) RefDid.Ended
    ∷ at_root 0 2 (Did.End (byte_root 0))
    ∷ Ref (byte_root 0) RefDid.Vacated
    ∷ at_arena 2 (Did.Give (first_taking 1))
    ∷ at_cache 1 (Did.Kept (first_taking 1))
    ∷ at_cache 2 (Did.Close 1)
    ∷ at_cache 3 (Did.Shed (first_taking 1))
    ∷ [])

-- it is kept and then given back, and shed as the cache closes
abbrev pub kept_and_given : Logs
kept_and_given =
    ends_with
    (Ref (byte_root 0) RefDid.Ended
    ∷ at_root 0 2 (Did.End (byte_root 0))
    ∷ Ref (byte_root 0) RefDid.Vacated
    ∷ at_cache 1 (Did.Kept (first_taking 1))
    ∷ at_arena 2 (Did.Give (first_taking 1))
    ∷ at_cache 2 (Did.Close 1)
    ∷ at_cache 3 (Did.Shed (first_taking 1))
    ∷ [])

-- it returns long after the release that ended its count
abbrev pub given_late : Logs
given_late =
    ends_with
    (Ref (byte_root 0) RefDid.Ended
    ∷ At (Object.Bin 0) 1 (Did.Handle 1)
    ∷ At (Object.Bin 0) 2 (Did.Home 1)
    ∷ At (Object.Bin 0) 3 (Did.Handle 1)
    ∷ At (Object.Bin 0) 4 (Did.Home 1)
    ∷ at_root 0 2 (Did.End (byte_root 0))
    ∷ Ref (byte_root 0) RefDid.Vacated
    ∷ at_arena 2 (Did.Give (first_taking 1))
    ∷ [])

-- its count ends twice
abbrev pub ended_twice : Logs
ended_twice =
    ends_with
    (Ref (byte_root 0) RefDid.Ended
    ∷ at_root 0 2 (Did.End (byte_root 0))
    ∷ Ref (byte_root 0) RefDid.Vacated
    ∷ at_arena 2 (Did.Give (first_taking 1))
    ∷ Ref (byte_root 0) RefDid.Ended
    ∷ [])

-- it is kept by a cache of another lane, and shed there
abbrev pub kept_elsewhere : Logs
kept_elsewhere =
    ends_with
    (Ref (byte_root 0) RefDid.Ended
    ∷ at_root 0 2 (Did.End (byte_root 0))
    ∷ Ref (byte_root 0) RefDid.Vacated
    ∷ At (Object.Cache 1 0) 1 (Did.Kept (first_taking 1))
    ∷ At (Object.Cache 1 0) 2 (Did.Close 1)
    ∷ At (Object.Cache 1 0) 3 (Did.Shed (first_taking 1))
    ∷ at_arena 2 (Did.Give (first_taking 1))
    ∷ [])

-- an arena that has given nothing away says that it is full
abbrev pub false_full : Logs
false_full = (at_arena 1 (Did.Full 0) ∷ []) ∷ []

-- a cache gives what it never kept
abbrev pub false_hit : Logs
false_hit = (at_cache 1 (Did.Hit (first_taking 1)) ∷ []) ∷ []

-- ---- Growths.

-- a second taking, of the next class, after so many uses
abbrev pub wider_taking : ℕ → RegionId
wider_taking uses =
    record {
      place = record { arena = 0; chunk = 0; offset = 8192; len = 32 };
      class = 1;
      taking = 2;
      uses = uses;
      owner = 0;
    }

-- a root is born, a wider region is taken for it, and these notes follow
abbrev pub grows_by : List Note → Logs
grows_by notes =
    (at_arena 1 (Did.Take 0 (first_taking 0))
    ∷ at_root 0 1 (Did.Birth (byte_root 0) (first_taking 1))
    ∷ Ref (byte_root 0) RefDid.Born
    ∷ at_arena 2 (Did.Take 1 (wider_taking 0))
    ∷ notes)
    ∷ []

-- its growth
abbrev pub growth : Note
growth = at_root 0 2 (Did.Grow 17 (wider_taking 1))

-- the region that it leaves does not return
abbrev pub grown_and_held : Logs
grown_and_held = grows_by (growth ∷ [])

-- it returns twice
abbrev pub grown_and_returned_twice : Logs
grown_and_returned_twice =
    grows_by
    (growth ∷ at_cache 1 (Did.Kept (first_taking 1)) ∷ at_arena 3 (Did.Give (first_taking 1)) ∷ [])

-- it returns before the root has left it
abbrev pub grown_after_return : Logs
grown_after_return = grows_by (at_cache 1 (Did.Kept (first_taking 1)) ∷ growth ∷ [])

-- the growth does not count as a use
abbrev pub grown_uncounted : Logs
grown_uncounted = grows_by (at_root 0 2 (Did.Grow 17 (wider_taking 0)) ∷ [])
