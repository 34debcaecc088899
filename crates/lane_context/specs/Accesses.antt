-- What a command that accesses bytes is prepared for, and how the law reads it.
use Rattle.std.specs.Prelude.{◌≡◌, ℕ, ◌+◌, ◌<◌, ◌≤◌, Bool, false, ⊤, List, length, slice_set, Option, Some, None, if◌then◌else◌}
use Rattle.pool_law.specs.declared.command.Command.{Command}
use Rattle.pool_law.specs.declared.id.RootId.{RootId}
use Rattle.pool_law.specs.declared.id.ViewData.{ViewData}
use Rattle.pool_law.specs.declared.run.Reply.{Reply}
use Rattle.pool_law.specs.declared.run.Shape.{Shape}
use Rattle.pool_law.specs.Views.{LiesIn}
use Rattle.pool_law.specs.Bounds.{most_notes}
use Rattle.pool_law.specs.Dids as says
use Rattle.pool_law.specs.Readers.{Log, Reader, ◌>>=◌, ◌>>◌, give, access}
use Rattle.pool_law.specs.Composites.{Composite as LawComposite}
use Rattle.pool_law.specs.Names.{Bound, Plain, Composed, Names}
use Rattle.pool_law.specs.LaneStates.{LaneState}
use Rattle.pool_law.specs.Lanes.{Answer, answer, answer_of, busy_or}
use Rattle.lane_context.specs.declared.access.Refusal.{Refusal}
use Rattle.lane_context.specs.declared.access.Refusal.TheVariants.{Unbound, Taken, Composite, Illegal, Range, Plain as NotComposite, TooLarge}
use Rattle.lane_context.specs.declared.access.Owned.{Owned}
use Rattle.lane_context.specs.declared.access.Owned.TheVariants.{View as OwnView, Composite as OwnComposite}
use Rattle.lane_context.specs.declared.access.Reach.{Reach}
use Rattle.lane_context.specs.declared.access.Access.{Access}
use Rattle.lane_context.specs.declared.access.Access.TheVariants.{Refused, Set, Get}
use Rattle.lane_stages.specs.declared.counts.Counted.{Counted}
use Rattle.lane_context.specs.Named.{AreInside, bound_at, NamesAre}
use Rattle.lane_stages.specs.Counting.{counted, CountsAre}

abbrev pub reply_for : Refusal → Reply
reply_for Unbound = Reply.Unbound
reply_for Taken = Reply.Taken
reply_for Composite = Reply.Composite
reply_for Illegal = Reply.Illegal
reply_for Range = Reply.Range
reply_for NotComposite = Reply.Plain
reply_for TooLarge = Reply.TooLarge

-- the lane's names and counts are those of this state of the law
pub record IsState (s : LaneState) (names : List (Option Bound)) (cs : List Counted) : Type 0
  where
    pub names_are : NamesAre s.names names
    pub counts_are : CountsAre cs s.seen

-- why a command on the view of a name is refused
abbrev pub IsRefused : List (Option Bound) → List Counted → ℕ → Refusal → Type 0
IsRefused names cs name Unbound = bound_at names name ≡ None
IsRefused names cs name Composite =
    (c : LawComposite) × (bound_at names name ≡ Some (Composed c))
IsRefused names cs name Illegal =
    (v : ViewData) × (bound_at names name ≡ Some (Plain v)) × (counted cs v.root ≡ 0)
IsRefused names cs name _ = ⊥

-- and where it has a new name
abbrev pub IsRefusedFresh : List (Option Bound) → List Counted → ℕ → ℕ → Refusal → Type 0
IsRefusedFresh names cs fresh name Unbound = bound_at names name ≡ None
IsRefusedFresh names cs fresh name Taken =
    (b other : Bound) × (bound_at names name ≡ Some b) × (bound_at names fresh ≡ Some other)
IsRefusedFresh names cs fresh name Composite =
    (c : LawComposite) × (bound_at names name ≡ Some (Composed c)) × (bound_at names fresh ≡ None)
IsRefusedFresh names cs fresh name Illegal =
    (v : ViewData) × (bound_at names name ≡ Some (Plain v)) × (bound_at names fresh ≡ None)
    × (counted cs v.root ≡ 0)
IsRefusedFresh names cs fresh name Range = ⊥
IsRefusedFresh names cs fresh name NotComposite = ⊥
IsRefusedFresh names cs fresh name TooLarge = ⊥

-- and where its range has to pass a test
abbrev pub IsRefusedRange :
    List (Option Bound) → List Counted → ℕ → (ViewData → Bool) → Refusal → Type 0
IsRefusedRange names cs name test Range =
    (v : ViewData) × (bound_at names name ≡ Some (Plain v)) × (0 < counted cs v.root)
    × (test v ≡ false)
IsRefusedRange names cs name test refusal = IsRefused names cs name refusal

-- the lane has no count of a view's root, or a composite has ended
abbrev pub IsUncounted : List Counted → Bound → Type 0
IsUncounted cs (Plain v) = counted cs v.root ≡ 0
IsUncounted cs (Composed c) = c.count ≡ 0

-- why a command on the count of a name is refused
abbrev pub IsRefusedCount : List (Option Bound) → List Counted → ℕ → Refusal → Type 0
IsRefusedCount names cs name Unbound = bound_at names name ≡ None
IsRefusedCount names cs name Illegal =
    (b : Bound) × (bound_at names name ≡ Some b) × IsUncounted cs b
IsRefusedCount names cs name _ = ⊥

-- what the count of a name is one of: a view whose root the lane counts, or a composite that has
-- not ended
abbrev pub IsOwned : List (Option Bound) → List Counted → ℕ → Owned → Type 0
IsOwned names cs name (OwnView v) =
    (bound_at names name ≡ Some (Plain v)) × (0 < counted cs v.root)
IsOwned names cs name (OwnComposite count) =
    (c : LawComposite) × (bound_at names name ≡ Some (Composed c)) × (c.count ≡ count) × (0 < count)

-- so many bytes of a root that the lane counts, from the offset on, lie in what is known of it; and
-- so does the view that the name is bound to afterwards, which is one of this root
pub record Reaches (known : RootId → ℕ) (cs : List Counted) (len : ℕ) (r : Reach) : Type 0 where
  pub counts : 0 < counted cs r.root
  pub inside : r.offset + len ≤ known r.root
  pub view : r.after.at.root ≡ r.root
  pub lies : LiesIn (known r.after.at.root) r.after.at

-- the names once a name is bound to the view behind an access
abbrev pub names_after : List (Option Bound) → Access → List (Option Bound)
names_after names (Refused refusal) = names
names_after names (Set reach bytes) = slice_set names reach.name (Some (Plain reach.after.at))
names_after names (Get reach note reply) = slice_set names reach.name (Some (Plain reach.after.at))

-- how the law reads the note of an access, after which these names are bound
abbrev pub reads_set : Names → Reach → List ℕ → Reader Answer
reads_set names reach bytes =
    access reach.root (says.set reach.offset bytes) >> give (answer Reply.Ok names)

abbrev pub reads_get : Names → Reach → ℕ → Reader Answer
reads_get names reach len = do
  bytes ← access reach.root (says.get reach.offset len)
  give (answer (Reply.OkBytes bytes) names)

-- where the command only tries, the root may be busy
abbrev pub tries_or : Bool → LaneState → ViewData → Reader Answer → Reader Answer
tries_or tries s v r = if tries then busy_or s v r else r

abbrev pub reads_access : LaneState → Names → Access → Reader Answer
reads_access s names (Refused refusal) = give (answer (reply_for refusal) s.names)
reads_access s names (Set reach bytes) =
    tries_or reach.tries s reach.after.at (reads_set names reach bytes.items)
reads_access s names (Get reach note reply) =
    tries_or reach.tries s reach.after.at (reads_get names reach (length note.items))

-- an access has room for its bytes, and reaches them
abbrev pub AccessIsReady : (RootId → ℕ) → List Counted → Access → Type 0
AccessIsReady known cs (Refused refusal) = ⊤
AccessIsReady known cs (Set reach bytes) = Reaches known cs (length bytes.items) reach
AccessIsReady known cs (Get reach note reply) =
    Reaches known cs (length note.items) reach × (length reply.items ≡ length note.items)

-- a command is prepared: its access is what the law reads of it, and reaches what is known of its
-- root where all names do
pub record IsPrepared (names : List (Option Bound)) (cs : List Counted) (command : Command)
    (made : Access) (s : LaneState) : Type 0 where
  pub ready : (known : RootId → ℕ) → AreInside known names → AccessIsReady known cs made
  pub noted : (composes : Bool) → 1 ≤ most_notes composes command
  pub bound : Names
  pub names_are : NamesAre bound (names_after names made)
  pub read : (shape : Shape) (lane : ℕ) (log : Log) →
      answer_of shape lane s command log ≡ reads_access s bound made log

-- a command accesses bytes
abbrev pub IsAccess : Command → Type 0
IsAccess (Command.Set name at bytes tries) = ⊤
IsAccess (Command.Get name at len tries) = ⊤
IsAccess (Command.Write name bytes) = ⊤
IsAccess (Command.Read name len) = ⊤
IsAccess _ = ⊥
