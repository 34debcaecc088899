-- What the names of a lane are bound to, and how far that reaches into the roots.
use Rattle.std.specs.Prelude.{◌≡◌, ℕ, ◌+◌, ◌≤◌, Bool, false, List, All, Option, Some, None, length, unwrap_or, slice_get}
use Rattle.pool_law.specs.declared.command.Command.{Command}
use Rattle.pool_law.specs.declared.id.Part.{Part}
use Rattle.pool_law.specs.declared.id.RootId.{RootId}
use Rattle.pool_law.specs.Composites.{Composite, most_parts, size_of}
use Rattle.pool_law.specs.Names.{Bound, Plain, Composed, Names, lookup}
use Rattle.pool_law.specs.Views.{LiesIn}
use Rattle.pool_table.specs.Capacities.{knows_of}
use Rattle.shared_pool.specs.declared.seat.PoolSeat.{PoolSeat}
use Rattle.shared_pool.specs.SeatViews.{view_of}
use Rattle.lane_context.specs.declared.bound.Bound.{Bound as HeldBound}
use Rattle.lane_context.specs.declared.bound.Bound.TheVariants.{Plain as HeldView, Composed as HeldComposite}

-- what the lane keeps of a name, as the law has it
abbrev pub bound_of : HeldBound → Bound
bound_of (HeldView view) = Plain view.at
bound_of (HeldComposite composed) = Composed composed.value

-- what a name is bound to, of a list by name
abbrev pub bound_at : List (Option Bound) → ℕ → Option Bound
bound_at names name = unwrap_or (slice_get names name) None

-- the list has what the law's names are bound to
abbrev pub NamesAre : Names → List (Option Bound) → Type 0
NamesAre bound names = (name : ℕ) → lookup name bound ≡ bound_at names name

-- no name is bound to a composite
abbrev pub AreViews : List (Option Bound) → Type 0
AreViews names = (name : ℕ) (c : Composite) → bound_at names name ≡ Some (Composed c) → ⊥

-- what a seat knows of the capacity of each root
abbrev pub known_to : PoolSeat → RootId → ℕ
known_to seat root = knows_of root (view_of seat)

-- a part lies in what is known of its root
abbrev pub IsInRoot : (RootId → ℕ) → Part → Type 0
IsInRoot known p = p.offset + p.len ≤ known p.root

-- a view, or each part of a composite, lies in what is known of its root
abbrev pub IsInside : (RootId → ℕ) → Bound → Type 0
IsInside known (Plain v) = LiesIn (known v.root) v
IsInside known (Composed c) = All (IsInRoot known) c.parts

-- so does all that names are bound to
pub record AreInside (known : RootId → ℕ) (names : List (Option Bound)) : Type 0 where
  pub each : (name : ℕ) (b : Bound) → bound_at names name ≡ Some b → IsInside known b

-- a composite that is read and written within its parts
pub record IsMarked (c : Composite) : Type 0 where
  pub reader : c.reader ≤ c.writer
  pub writer : c.writer ≤ size_of c.parts

-- a composite as names are bound to it
pub record IsFormed (c : Composite) : Type 0 where
  pub marked : IsMarked c
  pub parts : length c.parts ≤ most_parts

-- the composites that names are bound to: none where the lane makes none, and no count above this
pub record AreComposites (composes : Bool) (most : ℕ) (names : List (Option Bound)) : Type 0 where
  pub unmixed : composes ≡ false → AreViews names
  pub few : (name : ℕ) (c : Composite) → bound_at names name ≡ Some (Composed c) → c.count ≤ most
  pub formed : (name : ℕ) (c : Composite) → bound_at names name ≡ Some (Composed c) → IsFormed c

-- the name whose binding a command may change
abbrev pub changed_name : Command → Option ℕ
changed_name (Command.Alloc name size) = Some name
changed_name (Command.Set name at bytes tries) = Some name
changed_name (Command.Get name at len tries) = Some name
changed_name (Command.Write name bytes) = Some name
changed_name (Command.Read name len) = Some name
changed_name (Command.Slice fresh name at len retained) = Some fresh
changed_name (Command.Dup fresh name) = Some fresh
changed_name (Command.Forget name) = Some name
changed_name (Command.Recv fresh lane) = Some fresh
changed_name (Command.Compose fresh names) = Some fresh
changed_name (Command.Capacity name size) = Some name
changed_name _ = None
