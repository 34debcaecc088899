-- How composites are made of views: what refuses one, its parts, and what is then to be done.
use Rattle.std.specs.Prelude.{◌≡◌, ℕ, ◌+◌, ◌^◌, ◌<◌, ◌≤◌, Bool, true, false, not, nat_le, is_none, is_some, List, [], ◌∷◌, ◌++◌, length, map, All, Option, Some, None}
use Rattle.std.specs.List.{flat_map}
use Rattle.pool_law.specs.declared.id.Part.{Part}
use Rattle.pool_law.specs.declared.id.RootId.{RootId}
use Rattle.pool_law.specs.declared.run.Reply.{Reply}
use Rattle.pool_law.specs.Composites.{Composite, is_crowded, readable, size_of}
use Rattle.pool_law.specs.Names.{Bound, Plain, Composed, composite_in, is_usable, passes, view_in}
use Rattle.pool_law.specs.Refusals.{Refusal, is_too_long, refusal}
use Rattle.lane_context.specs.declared.access.Refusal.TheVariants.{TooLarge}
use Rattle.lane_stages.specs.declared.copying.Transfer.{Transfer}
use Rattle.lane_stages.specs.declared.counts.Counted.{Counted}
use Rattle.lane_context.specs.declared.context.Context.{Context}
use Rattle.lane_context.specs.declared.work.Work.{Work}
use Rattle.lane_context.specs.declared.work.Work.TheVariants.{Refused, Empty, Cross, End, Bind, Consolidate}
use Rattle.lane_context.specs.Composing.{IsConsolidation}
use Rattle.lane_stages.specs.Counting.{counted}
use Rattle.lane_context.specs.Named.{IsInRoot, bound_at, known_to}

-- ---- The tests of the law, of what a lane keeps of its names and counts.

-- the lane counts the root
abbrev pub counts_in : List Counted → RootId → Bool
counts_in cs root = nat_le 1 (counted cs root)

-- the name isn't bound
abbrev pub is_unbound : List (Option Bound) → ℕ → Bool
is_unbound names name = is_none (bound_at names name)

-- the name is bound
abbrev pub is_taken : List (Option Bound) → ℕ → Bool
is_taken names name = is_some (bound_at names name)

-- the name is bound to a composite
abbrev pub is_composite : List (Option Bound) → ℕ → Bool
is_composite names name = passes (λ b. is_some (composite_in b)) (bound_at names name)

-- the name is bound to a view
abbrev pub is_plain : List (Option Bound) → ℕ → Bool
is_plain names name = passes (λ b. is_some (view_in b)) (bound_at names name)

-- the composite has ended, or the lane has no count of a root that the name's bytes lie in
abbrev pub is_illegal : List (Option Bound) → List Counted → ℕ → Bool
is_illegal names cs name = passes (λ b. not (is_usable (counts_in cs) b)) (bound_at names name)

-- the refusals of a new composite of these names in order, but that it is too long
abbrev pub refusals_to_compose :
    List (Option Bound) → List Counted → ℕ → List ℕ → List Refusal
refusals_to_compose names cs fresh of =
    map (λ n. refusal Reply.Unbound (is_unbound names n)) of
    ++ refusal Reply.Taken (is_taken names fresh)
    ∷ map (λ n. refusal Reply.Composite (is_composite names n)) of
    ++ map (λ n. refusal Reply.Illegal (is_illegal names cs n)) of

-- and of one with the readable bytes of a name behind it
abbrev pub refusals_to_add : List (Option Bound) → List Counted → ℕ → ℕ → List Refusal
refusals_to_add names cs whole name =
    refusal Reply.Unbound (is_unbound names whole)
    ∷ refusal Reply.Unbound (is_unbound names name)
    ∷ refusal Reply.Plain (is_plain names whole)
    ∷ refusal Reply.Composite (is_composite names name)
    ∷ refusal Reply.Illegal (is_illegal names cs whole)
    ∷ refusal Reply.Illegal (is_illegal names cs name)
    ∷ []

-- ---- The parts.

-- the readable bytes of a view, if it is one
abbrev pub readable_in : Option Bound → List Part
readable_in None = []
readable_in (Some (Plain v)) = readable v ∷ []
readable_in (Some (Composed c)) = []

-- those of the view of a name
abbrev pub readable_at : List (Option Bound) → ℕ → List Part
readable_at names name = readable_in (bound_at names name)

-- those of the views of these names, one behind the other
abbrev pub readable_of : List (Option Bound) → List ℕ → List Part
readable_of names of = flat_map (readable_at names) of

-- a part that lies in its root where it is in numbers of 32 bits
abbrev pub IsPlaced : Part → Type 0
IsPlaced p = p.offset + p.len < 2 ^ 32

-- the memory for the bytes of a part, twice
pub record HasBytes (t : Transfer) : Type 0 where
  pub got : length t.got.items ≡ t.part.len
  pub set : length t.set.items ≡ t.part.len

-- ---- What is made of them.

-- a composite of these parts, up to the end of which it can be read
abbrev pub joined : List Part → ℕ → ℕ → Composite
joined parts count reader =
    record { parts = parts; count = count; reader = reader; writer = size_of parts }

-- the parts may be those of a composite before it is consolidated
pub record AreJoinable (known : RootId → ℕ) (cs : List Counted) (parts : List Part) : Type 0 where
  pub some : 1 ≤ length parts
  pub few : length parts ≤ 24
  pub placed : All IsPlaced parts
  pub inside : All (IsInRoot known) parts
  pub counts : All (λ p. 0 < counted cs p.root) parts

-- a composite to which a name of the context may be bound, once it is not too long
pub record MayMake (d : Context) (name : ℕ) (c : Composite) : Type 0 where
  pub name_is : name < length d.names
  pub composes : d.composes ≡ true
  pub few : c.count ≤ 1 + length d.replies.items
  pub parts : AreJoinable (known_to d.seat) d.counts c.parts
  pub reader : c.reader ≤ size_of c.parts

-- the work that binds a name to a composite, unless it is too long
abbrev pub IsMade : Context → ℕ → Composite → Work → Type 0
IsMade d name c (Refused refusal) =
    (refusal ≡ TooLarge) × (is_too_long d.shape (Some c) ≡ true)
IsMade d name c (Empty other marks reply) = ⊥
IsMade d name c (Cross other marks stage) = ⊥
IsMade d name c (End other parts) = ⊥
IsMade d name c (Bind other whole) =
    (other ≡ name) × (whole.value ≡ c)
    × (is_too_long d.shape (Some c) ≡ false) × (is_crowded c ≡ false)
IsMade d name c (Consolidate p) =
    (p.name ≡ name) × (p.whole.value ≡ c)
    × (is_too_long d.shape (Some c) ≡ false) × (is_crowded c ≡ true)
    × IsConsolidation (known_to d.seat) d.shape d.counts p
