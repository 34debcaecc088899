-- Roots that are asked for capacity.
use Rattle.std.proofs.Common.{◌≡◌, ℕ, ◌<◌, Bool, true, false, refl, sym, ap, arith, ◌∙◌}
use Rattle.std.proofs.lemmas.Bool.Decides.{nat_tests}
use Rattle.std.specs.Prelude.{Option, Some, None, Result, nat_le, option_map, option_and_then, if◌then◌else◌}
use Rattle.size_classes.specs.Sizes.{class_of}
use Rattle.pool_law.specs.declared.command.Command.{Command}
use Rattle.pool_law.specs.declared.id.RegionId.{RegionId}
use Rattle.pool_law.specs.declared.id.RootId.{RootId}
use Rattle.pool_law.specs.declared.id.ViewData.{ViewData}
use Rattle.pool_law.specs.declared.note.Did.{Did}
use Rattle.pool_law.specs.declared.note.Object.{Object}
use Rattle.pool_law.specs.declared.run.Reply.{Reply}
use Rattle.pool_law.specs.declared.run.Shape.{Shape}
use Rattle.pool_law.specs.Arenas.{or_else}
use Rattle.pool_law.specs.Counts.{root_is}
use Rattle.pool_law.specs.Dids as says
use Rattle.pool_law.specs.LaneStates.{LaneState, view_named}
use Rattle.pool_law.specs.Lanes.{Answer, carried_out, regrown}
use Rattle.pool_law.specs.Limits.{geometry_of}
use Rattle.pool_law.specs.Patterns.{one_more, found_room, grown, obtain, regrow}
use Rattle.pool_law.specs.Readers.{Log, Reader, ◌>>◌, ◌or◌, give, access, growth, done_at}
use Rattle.std.specs.Bool.{then_some}
use Rattle.pool_law.specs.Names.{Names}
use Rattle.lane_reader.specs.declared.bound.Change.{Change}
use Rattle.lane_reader.specs.declared.log.At.{At}
use Rattle.lane_reader.specs.Reading.{log_from}
use Rattle.lane_reader.specs.Replying.{changes}
use Rattle.lane_reader.specs.Standing.{changed}
use Rattle.lane_reader.proofs.DrainLemmas.{KeepsAsked, keeps-then}
use Rattle.lane_reader.proofs.ReadingLemmas.{next-asked}

-- ---- What is found of a root's capacity.

keeps-give : {A : Type 0} (x : A) → KeepsAsked (give x)
keeps-give {A} x log after a is =
    let same : ◌≡◌ {A = A × Log} (a, after) (x, log) = cc is in ap (λ p. p.1.asked) same

keeps-or : {A : Type 0} (r q : Reader A) → KeepsAsked r → KeepsAsked q → KeepsAsked (r or q)
keeps-or {A} r q first second log after a is = go (r log) refl is
  where
    go : (o : Option (A × Log)) → r log ≡ o → or_else o (q log) ≡ Some (a, after) → after.asked ≡ log.asked
    go None was h = second log after a h
    go (Some p) was h = first log after a (was ∙ h)

keeps-access : {A : Type 0} (root : RootId) (said : Did → Option A) → KeepsAsked (access root said)
keeps-access root said log after a is =
    next-asked
    (λ e. if root_is root e.root then option_and_then said (done_at (Object.Root root.place) e.note) else None) log
    after a is

-- to look for room counts no allocation that asked a cache
pub keeps-room : (root : RootId) (size : ℕ) → KeepsAsked (found_room root size)
keeps-room root size =
    keeps-or (access root (says.extend size) >> give size) (access root (says.room size))
    (keeps-then (access root (says.extend size)) (λ _. give size) (keeps-access root (says.extend size))
    (λ _. keeps-give size))
    (keeps-access root (says.room size))

-- a root that is not extended has what is found
pub room-found : (root : RootId) (size : ℕ) (log : Log) (o : Option (ℕ × Log)) →
    access root (says.extend size) log ≡ None → access root (says.room size) log ≡ o → found_room root size log ≡ o
room-found root size log o none found = rw none found

-- ---- What a growth comes to.

-- a root that neither grows nor has so much
pub grown-none : (root : RootId) (size : ℕ) (region : RegionId) (log : Log) →
    growth root size (one_more region) log ≡ None → found_room root size log ≡ None →
    grown root size region log ≡ None
grown-none root size region log first second = rw (first, second) refl

module _ (shape : Shape) (lane : ℕ) (root : RootId) (size : ℕ) (log : Log) where
  -- nothing is found of its capacity
  pub asked-none : found_room root size log ≡ None → regrow shape lane root size log ≡ None
  asked-none none = rw none refl

  -- no region is obtained for it, nor is the arena full
  pub obtained-none : (capacity class : ℕ) (behind : Log) → found_room root size log ≡ Some (capacity, behind) →
      class_of (geometry_of shape) size ≡ Some class → capacity < size → obtain shape lane class behind ≡ None →
      regrow shape lane root size log ≡ None
  obtained-none capacity class behind first second less none =
      let short : nat_le size capacity ≡ false = grind (arith, nat_tests) in rw (first, second, short, none) refl

-- ---- What is answered.

-- the answer to what an ask for capacity comes to
abbrev pub answered_to :
    LaneState → ℕ → ViewData → Option (Result ℕ Reply × Log) → Option (Answer × Log)
answered_to s name v o = option_map (λ p. (regrown s name v p.0, p.1)) o

pub capacity-answered : (shape : Shape) (lane : ℕ) (s : LaneState) (name size : ℕ) (v : ViewData) (log : Log)
    (o : Option (Result ℕ Reply × Log)) →
    view_named s name ≡ Some v → regrow shape lane v.root size log ≡ o →
    carried_out shape lane s (Command.Capacity name size) log ≡ answered_to s name v o
capacity-answered shape lane s name size v log o there got = rw there (rw got (go o))
  where
    go : (o : Option (Result ℕ Reply × Log)) →
        option_and_then (λ got. Some (regrown s name v got.0, got.1)) o ≡ answered_to s name v o
    go None = refl
    go (Some p) = refl

-- what becomes of the names, where this is answered
pub said-changes : (s : LaneState) (log : Rattle.lane_reader.specs.declared.log.Log.Log) (said : Bool)
    (change : Change) (names : Names) (behind : At) → changed change s.names ≡ names →
    (if said then Some (names, log_from s.seen log behind) else None)
    ≡ changes s log (then_some said (change, behind))
said-changes s log true change names behind same = ap (λ (ns : Names). Some (ns, log_from s.seen log behind)) (sym same)
said-changes s log false change names behind same = refl
