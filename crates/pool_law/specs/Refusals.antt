-- Why a command is refused before it notes anything: the tests of each, in order.
use Rattle.std.specs.Prelude.{ℕ, Bool, true, false, ◌&&◌, ◌||◌, not, nat_lt, if◌then◌else◌, List, [], ◌∷◌, ◌++◌, length, map, Option, Some, None, is_some, is_none}
use Rattle.size_classes.specs.Sizes.{class_of}
use Rattle.pool_law.specs.declared.command.Command.{Command}
use Rattle.pool_law.specs.declared.command.Command.TheVariants.{Alloc, Set, Get, Write, Read, Slice, Dup, Retain, Release, Refcnt, Touch, Forget, Send, Recv, Compose, Add, Capacity}
use Rattle.pool_law.specs.declared.run.Shape.{Shape}
use Rattle.pool_law.specs.declared.run.Reply.{Reply}
use Rattle.pool_law.specs.Limits.{geometry_of}
use Rattle.pool_law.specs.Composites.{Composite, most_bytes, size_of, is_crowded}
use Rattle.pool_law.specs.Names.{passes, view_in, composite_in, has_range, has_to_read, has_room, is_usable, is_counted}
use Rattle.pool_law.specs.LaneStates.{LaneState, counts, named, composite_from, composite_with}

-- a reply that a command may get, and whether its cause is there
pub record Refusal : Type 0 where
  pub reply : Reply
  pub comes : Bool

-- a reply that comes where the test holds
abbrev pub refusal : Reply → Bool → Refusal
refusal reply comes = record { reply = reply; comes = comes }

-- the first of them that comes
abbrev pub first_refusal : List Refusal → Option Reply
first_refusal [] = None
first_refusal (r ∷ rs) = if r.comes then Some r.reply else first_refusal rs

-- ---- The tests. Where a name isn't bound, only the first two may come.

-- the name isn't bound
abbrev pub unbound : LaneState → ℕ → Refusal
unbound s name = refusal Reply.Unbound (is_none (named s name))

-- the new name is bound
abbrev pub taken : LaneState → ℕ → Refusal
taken s fresh = refusal Reply.Taken (is_some (named s fresh))

-- the name is bound to a composite
abbrev pub composite : LaneState → ℕ → Refusal
composite s name = refusal Reply.Composite (passes (λ b. is_some (composite_in b)) (named s name))

-- the name is bound to a view
abbrev pub plain : LaneState → ℕ → Refusal
plain s name = refusal Reply.Plain (passes (λ b. is_some (view_in b)) (named s name))

-- the composite has ended, or the lane has no count of a root that the name's bytes lie in
abbrev pub illegal : LaneState → ℕ → Refusal
illegal s name = refusal Reply.Illegal (passes (λ b. not (is_usable (counts s) b)) (named s name))

-- the lane has no count of the name's root, or the composite has ended
abbrev pub uncounted : LaneState → ℕ → Refusal
uncounted s name =
    refusal Reply.Illegal (passes (λ b. not (is_counted (counts s) b)) (named s name))

-- the range leaves what the name is bound to
abbrev pub range : LaneState → ℕ → ℕ → ℕ → Refusal
range s name i n = refusal Reply.Range (passes (λ b. not (has_range i n b)) (named s name))

-- so much can't be read
abbrev pub read_range : LaneState → ℕ → ℕ → Refusal
read_range s name n = refusal Reply.Range (passes (λ b. not (has_to_read n b)) (named s name))

-- so much can't be written
abbrev pub write_range : LaneState → ℕ → ℕ → Refusal
write_range s name n = refusal Reply.Range (passes (λ b. not (has_room n b)) (named s name))

-- no class holds so many bytes
abbrev pub has_no_class : Shape → ℕ → Bool
has_no_class shape size = is_none (class_of (geometry_of shape) size)

-- the size is above the chunk
abbrev pub too_large : Shape → ℕ → Refusal
too_large shape size = refusal Reply.TooLarge (has_no_class shape size)

-- the composite is too long, or no chunk holds it where it is consolidated
abbrev pub is_too_long : Shape → Option Composite → Bool
is_too_long shape None = false
is_too_long shape (Some c) =
    let size = size_of c.parts in
    nat_lt most_bytes size || (is_crowded c && has_no_class shape size)

-- the same as a refusal
abbrev pub too_long : Shape → Option Composite → Refusal
too_long shape c = refusal Reply.TooLarge (is_too_long shape c)

-- ---- The table.

-- the refusals of a command in order, but those that its notes say: handles, full, busy, nothing
abbrev pub refusals : Shape → LaneState → Command → List Refusal
refusals shape s (Alloc new n) = taken s new ∷ too_large shape n ∷ []
refusals shape s (Set v i bytes false) =
    unbound s v ∷ illegal s v ∷ range s v i (length bytes) ∷ []
refusals shape s (Set v i bytes true) =
    unbound s v ∷ composite s v ∷ illegal s v ∷ range s v i (length bytes) ∷ []
refusals shape s (Get v i n false) = unbound s v ∷ illegal s v ∷ range s v i n ∷ []
refusals shape s (Get v i n true) =
    unbound s v ∷ composite s v ∷ illegal s v ∷ range s v i n ∷ []
refusals shape s (Write v bytes) =
    unbound s v ∷ illegal s v ∷ write_range s v (length bytes) ∷ []
refusals shape s (Read v n) = unbound s v ∷ illegal s v ∷ read_range s v n ∷ []
refusals shape s (Slice new v i n retained) =
    unbound s v ∷ taken s new ∷ composite s v ∷ illegal s v ∷ range s v i n ∷ []
refusals shape s (Dup new v) = unbound s v ∷ taken s new ∷ composite s v ∷ illegal s v ∷ []
refusals shape s (Retain v) = unbound s v ∷ uncounted s v ∷ []
refusals shape s (Release v) = unbound s v ∷ uncounted s v ∷ []
refusals shape s (Refcnt v) = unbound s v ∷ uncounted s v ∷ []
refusals shape s (Touch v) = unbound s v ∷ composite s v ∷ illegal s v ∷ []
refusals shape s (Forget v) = unbound s v ∷ []
refusals shape s (Send v to) = unbound s v ∷ composite s v ∷ illegal s v ∷ []
refusals shape s (Recv new from) = []
refusals shape s (Compose new vs) =
    map (unbound s) vs ++ taken s new ∷ map (composite s) vs ++ map (illegal s) vs
    ++ too_long shape (composite_from s vs) ∷ []
refusals shape s (Add c v) =
    unbound s c ∷ unbound s v ∷ plain s c ∷ composite s v ∷ illegal s c ∷ illegal s v
    ∷ too_long shape (composite_with s c v) ∷ []
refusals shape s (Capacity v n) =
    unbound s v ∷ composite s v ∷ illegal s v ∷ too_large shape n ∷ []
