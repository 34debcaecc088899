-- The composites of a lane's names: how the law changes one, and which may be bound.
use Rattle.std.specs.Prelude.{◌≡◌, ℕ, ◌+◌, ◌-◌, ◌<◌, ◌≤◌, ⊤, true, List, [], ◌∷◌, length, map, All, Option, Some, None, option_and_then}
use Rattle.size_classes.specs.Sizes.{class_of}
use Rattle.pool_law.specs.declared.id.RootId.{RootId}
use Rattle.pool_law.specs.declared.run.Reply.{Reply}
use Rattle.pool_law.specs.declared.run.Shape.{Shape}
use Rattle.pool_law.specs.Composites.{Composite, filled, most_parts, moved_to, size_of}
use Rattle.pool_law.specs.LaneStates.{LaneState}
use Rattle.pool_law.specs.Lanes.{Answer, answer}
use Rattle.pool_law.specs.Limits.{geometry_of}
use Rattle.pool_law.specs.Names.{Bound, Composed, Names, bind, composite_in, lookup}
use Rattle.lane_context.specs.declared.composed.Marks.{Marks}
use Rattle.lane_stages.specs.declared.copying.Transfer.{Transfer}
use Rattle.lane_stages.specs.declared.counts.Counted.{Counted}
use Rattle.lane_stages.specs.declared.crossing.Crossing.{Crossing}
use Rattle.lane_stages.specs.declared.crossing.Crossing.TheVariants.{Set, Get}
use Rattle.lane_stages.specs.declared.crossing.Stretch.{Stretch}
use Rattle.lane_stages.specs.declared.copying.Copying.TheVariants.{Get as CopyGet}
use Rattle.lane_context.specs.declared.context.Context.{Context}
use Rattle.lane_context.specs.declared.context.Stage.{Stage}
use Rattle.lane_context.specs.declared.context.Stage.TheVariants.{Copying, Replacing}
use Rattle.lane_context.specs.declared.work.Consolidation.{Consolidation}
use Rattle.lane_stages.specs.Counting.{counted}
use Rattle.lane_stages.specs.Crossings.{HasRoom, stretches}
use Rattle.lane_context.specs.Named.{IsInRoot, IsMarked, bound_at, known_to}
use Rattle.lane_stages.specs.Releasings.{AreUncounted}

-- ---- Names, where one composite is another.

-- a composite with its reader and its writer elsewhere
abbrev pub set_marks : Marks → Composite → Composite
set_marks marks c = record c { reader = marks.reader; writer = marks.writer }

-- a composite with one count less
abbrev pub released : Composite → Composite
released c = record c { count = c.count - 1 }

-- the names once the composite is changed so that a name is bound to, if it is
abbrev pub rebound : (Composite → Composite) → ℕ → Names → Option Composite → Names
rebound change name names None = names
rebound change name names (Some c) = bind name (Composed (change c)) names

-- the names once the composite of one is changed so
abbrev pub changed : (Composite → Composite) → ℕ → Names → Names
changed change name names =
    rebound change name names (option_and_then composite_in (lookup name names))

-- the names once the reader and the writer of one have moved, if they do
abbrev pub marked : ℕ → Option Marks → Names → Names
marked name None names = names
marked name (Some marks) names = changed (set_marks marks) name names

-- the reply once all parts of a range are set or got
abbrev pub reply_of : Crossing → List ℕ → Reply
reply_of (Set first later) bytes = Reply.Ok
reply_of (Get first later got) bytes = Reply.OkBytes bytes

-- the answer then
abbrev pub crossed : LaneState → ℕ → Option Marks → Crossing → List ℕ → Answer
crossed s name marks stage bytes = answer (reply_of stage bytes) (marked name marks s.names)

-- the answer once all parts of a composite that ended are released
abbrev pub ended : LaneState → ℕ → Answer
ended s name = answer Reply.Freed (changed released name s.names)

-- ---- What may be done to them.

-- marks lie in the composite that a name is bound to
abbrev pub MarksFit : List (Option Bound) → ℕ → Option Marks → Type 0
MarksFit names name None = ⊤
MarksFit names name (Some marks) =
    (c : Composite) × (bound_at names name ≡ Some (Composed c))
    × (marks.reader ≤ marks.writer) × (marks.writer ≤ size_of c.parts)

-- the name's composite has one count left
abbrev pub HasLast : List (Option Bound) → ℕ → Type 0
HasLast names name = (c : Composite) × (bound_at names name ≡ Some (Composed c)) × (c.count ≡ 1)

-- a composite that may be bound to a name of the context once it has few enough parts
pub record IsCandidate (d : Context) (name : ℕ) (c : Composite) : Type 0 where
  pub name_is : name < length d.names
  pub composes : d.composes ≡ true
  pub few : c.count ≤ 1 + length d.replies.items
  pub inside : All (IsInRoot (known_to d.seat)) c.parts
  pub marked : IsMarked c

-- and has them
abbrev pub IsBindable : Context → ℕ → Composite → Type 0
IsBindable d name c = IsCandidate d name c × (length c.parts ≤ most_parts)

-- a part of a root that is counted and so much known of, with memory for just its bytes
pub record IsReachable (known : RootId → ℕ) (cs : List Counted) (s : Stretch) : Type 0 where
  pub counts : 0 < counted cs s.part.root
  pub inside : IsInRoot known s.part
  pub bytes : length s.bytes.items ≡ s.part.len

-- a range lies in what is known of roots that are counted
abbrev pub AreReachable : (RootId → ℕ) → List Counted → Crossing → Type 0
AreReachable known cs stage = All (IsReachable known cs) (stretches stage) × HasRoom stage

-- a part of a root that is counted and so much known of, with memory for its bytes twice
pub record IsTransfer (known : RootId → ℕ) (cs : List Counted) (t : Transfer) : Type 0 where
  pub counts : 0 < counted cs t.part.root
  pub inside : IsInRoot known t.part
  pub got : length t.got.items ≡ t.part.len
  pub set : length t.set.items ≡ t.part.len

-- a crowded composite may be copied to a root of this size and class: its parts that are not empty
-- are to be copied, and all are to be released, of which some root is counted
pub record IsConsolidation
    (known : RootId → ℕ) (shape : Shape) (cs : List Counted) (p : Consolidation) : Type 0
  where
    pub size : p.size ≡ size_of p.whole.value.parts
    pub class : class_of (geometry_of shape) p.size ≡ Some p.class
    pub parts : p.parts.items ≡ p.whole.value.parts
    pub copied : map (λ t. t.part) p.transfers.items ≡ filled p.whole.value.parts
    pub transfers : All (IsTransfer known cs) p.transfers.items
    pub some : AreUncounted cs p.parts.items → ⊥

-- what follows once a root is there for its bytes: its parts are copied, or released where all of
-- them are empty
abbrev pub MovesTo : Consolidation → RootId → List Transfer → Stage → Type 0
MovesTo p root [] (Replacing name whole stage) =
    (name ≡ p.name) × (whole.value ≡ moved_to root p.whole.value)
    × (stage.ending ≡ None) × (stage.left ≡ p.parts)
MovesTo p root (first ∷ later) (Copying name whole parts (CopyGet to at next left)) =
    (name ≡ p.name) × (whole.value ≡ moved_to root p.whole.value) × (parts ≡ p.parts)
    × (to ≡ root) × (at ≡ 0) × (next ≡ first) × (left.items ≡ later)
MovesTo p root transfers stage = ⊥

abbrev pub IsMoved : Consolidation → RootId → Stage → Type 0
IsMoved p root stage = MovesTo p root p.transfers.items stage
