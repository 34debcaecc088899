-- What lines say of roots and regions: of each, the last line that says anything of it. So a
-- text determines what the lines of its notes leave out.
use Rattle.std.specs.Prelude.{◌≡◌, ℕ, zero, suc, ◌<◌, ◌%◌, ◌&&◌, nat_eq, Bool, if◌then◌else◌, List, [], ◌∷◌, ◌++◌, ◌+◌, map, Option, Some, None, option_and_then, unwrap_or}
use Rattle.std.specs.Option.{option_map, option_or}
use Rattle.pool_law.specs.declared.id.RegionId.{RegionId}
use Rattle.pool_law.specs.declared.id.RootId.{RootId}
use Rattle.pool_law.specs.declared.id.ViewData.{ViewData}
use Rattle.pool_law.specs.declared.note.Did.{Did}
use Rattle.pool_law.specs.declared.note.Note.{Note}
use Rattle.pool_law.specs.declared.note.Object.{Object}
use Rattle.run_text.specs.Told.{FitsNote}
use Rattle.size_classes.specs.Sizes.{Geometry, class_count, of_pages, size_at}

-- a note with its lane
abbrev pub Line : Type 0
Line = ℕ × Note

-- the notes of a lane, each with the lane
abbrev pub of_lane : ℕ → List Note → List Line
of_lane lane notes = map (λ note. (lane, note)) notes

-- the notes of lanes, from this lane on, one lane behind the other
abbrev pub told_from : ℕ → List (List Note) → List Line
told_from lane [] = []
told_from lane (notes ∷ more) = of_lane lane notes ++ told_from (lane + 1) more

-- what the last of the lines says that say anything
abbrev pub last : {X : Type 0} → (Line → Option X) → List Line → Option X
last says [] = None
last says (line ∷ lines) = option_or (last says lines) (says line)

-- whether two keys are the same
abbrev pub same_key : ℕ × ℕ → ℕ × ℕ → Bool
same_key a b = nat_eq a.0 b.0 && nat_eq a.1 b.1

-- what there is, where this is its key
abbrev pub keyed : {X : Type 0} → (X → ℕ × ℕ) → ℕ × ℕ → Option X → Option X
keyed key k None = None
keyed key k (Some x) = if same_key (key x) k then Some x else None

-- ---- What is said of roots and regions.

-- what was done, as far as it says anything of a root or a region
pub data Said : Type 0 where
  Takes : (class : ℕ) (region : RegionId) → Said
  Comes : (region : RegionId) → Said
  Goes : (region : RegionId) → Said
  Bears : (root : RootId) (region : RegionId) → Said
  Grows : (region : RegionId) → Said
  Ends : (root : RootId) → Said
  Nothing : Said

-- a region is taken, comes of a cache, or is put away; a root is born with a region, grows into one, or ends
abbrev pub said : Did → Said
said (Did.Take class region) = Said.Takes class region
said (Did.Full class) = Said.Nothing
said (Did.Give region) = Said.Goes region
said (Did.Hit region) = Said.Comes region
said Did.Miss = Said.Nothing
said (Did.Kept region) = Said.Goes region
said (Did.Back region why) = Said.Goes region
said (Did.Trim quota) = Said.Nothing
said (Did.Close quota) = Said.Nothing
said (Did.Shed region) = Said.Comes region
said (Did.Handle place) = Said.Nothing
said Did.NoHandle = Said.Nothing
said (Did.Home place) = Said.Nothing
said (Did.Post parcel) = Said.Nothing
said (Did.Fetch parcel) = Said.Nothing
said (Did.Birth root region) = Said.Bears root region
said (Did.Set offset bytes) = Said.Nothing
said (Did.Get offset bytes) = Said.Nothing
said Did.Touch = Said.Nothing
said (Did.Room asked capacity) = Said.Nothing
said (Did.Extend size) = Said.Nothing
said (Did.Grow capacity region) = Said.Grows region
said (Did.End root) = Said.Ends root

-- ---- Takings.

-- the classes of the greatest chunk, among which are those of all others
abbrev pub all_classes : Geometry
all_classes = of_pages 9 32768

-- arena and number of a taking
abbrev pub taking_key : RegionId → ℕ × ℕ
taking_key r = (r.place.arena, r.taking)

-- a region that a lane takes of an arena for a class, by the chunk, the offset and the taking of r
abbrev pub formed : ℕ → ℕ → ℕ → RegionId → RegionId
formed lane arena class r =
    record {
      place = record { arena = arena; chunk = r.place.chunk; offset = r.place.offset; len = size_at class };
      class = class;
      owner = lane;
      taking = r.taking;
      uses = 0;
    }

-- the region that is taken
abbrev pub taken_by : Said → Option RegionId
taken_by (Said.Takes class region) = Some region
taken_by (Said.Comes region) = None
taken_by (Said.Goes region) = None
taken_by (Said.Bears root region) = None
taken_by (Said.Grows region) = None
taken_by (Said.Ends root) = None
taken_by Said.Nothing = None

-- the region that a note takes
abbrev pub taken : Note → Option RegionId
taken (Note.At object number did) = taken_by (said did)
taken (Note.Ref root did) = None
taken (Note.Busy held) = None

-- the region of a taking, by the last line that tells it
abbrev pub last_taken : List Line → ℕ × ℕ → Option RegionId
last_taken lines key = last (λ line. keyed taking_key key (taken line.1)) lines

-- a region, used so often
abbrev pub with_uses : ℕ → RegionId → RegionId
with_uses uses r = record r { uses = uses }

-- the region of a taking, used so often
abbrev pub region_with : List Line → ℕ × ℕ → ℕ → Option RegionId
region_with lines key uses = option_map (with_uses uses) (last_taken lines key)

-- ---- Roots.

-- place and generation of a root
abbrev pub root_key : RootId → ℕ × ℕ
root_key root = (root.place, root.generation)

-- the root that is born
abbrev pub born_by : Said → Option RootId
born_by (Said.Takes class region) = None
born_by (Said.Comes region) = None
born_by (Said.Goes region) = None
born_by (Said.Bears root region) = Some root
born_by (Said.Grows region) = None
born_by (Said.Ends root) = None
born_by Said.Nothing = None

-- the root of a birth
abbrev pub born : Note → Option RootId
born (Note.At object number did) = born_by (said did)
born (Note.Ref root did) = None
born (Note.Busy held) = None

-- the root of a place and a generation, by the last line that tells its birth
abbrev pub last_born : List Line → ℕ × ℕ → Option RootId
last_born lines key = last (λ line. keyed root_key key (born line.1)) lines

-- ---- Uses.

-- the place of a root
abbrev pub place_of : Object → ℕ
place_of (Object.Arena number) = 0
place_of (Object.Cache lane class) = 0
place_of (Object.Bin lane) = 0
place_of (Object.Mail from to) = 0
place_of (Object.Root place) = place

-- the region that begins to be used
abbrev pub begun_by : Said → Option RegionId
begun_by (Said.Takes class region) = None
begun_by (Said.Comes region) = None
begun_by (Said.Goes region) = None
begun_by (Said.Bears root region) = Some region
begun_by (Said.Grows region) = Some region
begun_by (Said.Ends root) = None
begun_by Said.Nothing = None

-- a region that a root begins to use, with the root's place and the number of the note there
abbrev pub Begun : Type 0
Begun = (ℕ × ℕ) × RegionId

-- what a note begins
abbrev pub begun : Note → Option Begun
begun (Note.At object number did) =
    option_map (λ r. ((place_of object, number), r)) (begun_by (said did))
begun (Note.Ref root did) = None
begun (Note.Busy held) = None

-- what begins at a root place by the note of a number there
abbrev pub last_begun : List Line → ℕ × ℕ → Option Begun
last_begun lines key = last (λ line. keyed (λ b. b.0) key (begun line.1)) lines

-- what began last at a root place before the note of a number there
abbrev pub begun_before : List Line → ℕ → ℕ → Option Begun
begun_before lines place zero = None
begun_before lines place (suc number) =
    option_or (last_begun lines (place, number)) (begun_before lines place number)

-- the uses of what began, 0 where nothing did
abbrev pub uses_in : Option Begun → ℕ
uses_in None = 0
uses_in (Some b) = b.1.uses

-- what began last to be used of a taking
abbrev pub last_use : List Line → ℕ × ℕ → Option Begun
last_use lines key = last (λ line. keyed (λ b. taking_key b.1) key (begun line.1)) lines

-- the uses that the last of these lines tells of a taking, 0 where none does
abbrev pub uses_after : List Line → ℕ × ℕ → ℕ
uses_after lines key = uses_in (last_use lines key)

-- ---- The region in hand.

-- the region that a root place leaves at the note of a number there
abbrev pub left : List Line → ℕ → ℕ → Option RegionId
left all place number =
    option_and_then (λ b. region_with all (taking_key b.1) b.1.uses) (begun_before all place number)

-- what comes to a lane's hands: a region that is taken, hit or shed; where a root grows or ends the one that its
-- place leaves, and nothing where no line tells which that is
abbrev pub brought_by : List Line → Object → ℕ → Said → Option (Option RegionId)
brought_by all object number (Said.Takes class region) = Some (Some region)
brought_by all object number (Said.Comes region) = Some (Some region)
brought_by all object number (Said.Goes region) = None
brought_by all object number (Said.Bears root region) = None
brought_by all object number (Said.Grows region) = Some (left all (place_of object) number)
brought_by all object number (Said.Ends root) = Some (left all (place_of object) number)
brought_by all object number Said.Nothing = None

-- and what comes there by a note
abbrev pub brought : List Line → Note → Option (Option RegionId)
brought all (Note.At object number did) = brought_by all object number (said did)
brought all (Note.Ref root did) = None
brought all (Note.Busy held) = None

-- the region in hand: what came last
abbrev pub in_hand : List Line → List Line → Option RegionId
in_hand all before = unwrap_or (last (λ line. brought all line.1) before) None

-- ---- What a note is, by what all lines and those before it say.

-- the arena of which regions are, among so many: a cache has those of the arena that its lane takes from
abbrev pub arena_at : ℕ → Object → ℕ
arena_at arenas (Object.Arena number) = number
arena_at arenas (Object.Cache lane class) = lane % arenas
arena_at arenas (Object.Bin lane) = 0
arena_at arenas (Object.Mail from to) = 0
arena_at arenas (Object.Root place) = 0

-- the taking of a region at an object
abbrev pub key_at : ℕ → Object → RegionId → ℕ × ℕ
key_at arenas object region = (arena_at arenas object, region.taking)

-- the root of a view is told
abbrev pub IsViewTold : List Line → Option ViewData → Type 0
IsViewTold all None = Unit {0}
IsViewTold all (Some v) = last_born all (root_key v.root) ≡ Some v.root

-- what was done is what all lines, and those before it, tell
abbrev pub IsDidTold : ℕ → List Line → List Line → ℕ → Object → Did → Type 0
IsDidTold arenas all before lane object (Did.Take class region) =
    (class < class_count all_classes)
    × (object ≡ Object.Arena region.place.arena)
    × (region ≡ formed lane region.place.arena class region)
IsDidTold arenas all before lane object (Did.Full class) = Unit {0}
IsDidTold arenas all before lane object (Did.Give region) = in_hand all before ≡ Some region
IsDidTold arenas all before lane object (Did.Hit region) =
    region_with all (key_at arenas object region) (uses_after before (key_at arenas object region))
    ≡ Some region
IsDidTold arenas all before lane object Did.Miss = Unit {0}
IsDidTold arenas all before lane object (Did.Kept region) = in_hand all before ≡ Some region
IsDidTold arenas all before lane object (Did.Back region why) = in_hand all before ≡ Some region
IsDidTold arenas all before lane object (Did.Trim quota) = Unit {0}
IsDidTold arenas all before lane object (Did.Close quota) = Unit {0}
IsDidTold arenas all before lane object (Did.Shed region) =
    region_with all (key_at arenas object region) (uses_after all (key_at arenas object region))
    ≡ Some region
IsDidTold arenas all before lane object (Did.Handle place) = Unit {0}
IsDidTold arenas all before lane object Did.NoHandle = Unit {0}
IsDidTold arenas all before lane object (Did.Home place) = Unit {0}
IsDidTold arenas all before lane object (Did.Post parcel) = IsViewTold all parcel.view
IsDidTold arenas all before lane object (Did.Fetch parcel) = IsViewTold all parcel.view
IsDidTold arenas all before lane object (Did.Birth root region) =
    (object ≡ Object.Root root.place)
    × (region_with all (taking_key region) region.uses ≡ Some region)
IsDidTold arenas all before lane object (Did.Set offset bytes) = Unit {0}
IsDidTold arenas all before lane object (Did.Get offset bytes) = Unit {0}
IsDidTold arenas all before lane object Did.Touch = Unit {0}
IsDidTold arenas all before lane object (Did.Room asked capacity) = Unit {0}
IsDidTold arenas all before lane object (Did.Extend size) = Unit {0}
IsDidTold arenas all before lane object (Did.Grow capacity region) =
    region_with all (taking_key region) region.uses ≡ Some region
IsDidTold arenas all before lane object (Did.End root) =
    (object ≡ Object.Root root.place) × (last_born all (root_key root) ≡ Some root)

-- so is a note
abbrev pub IsTold : ℕ → List Line → List Line → ℕ → Note → Type 0
IsTold arenas all before lane (Note.At object number did) = IsDidTold arenas all before lane object did
IsTold arenas all before lane (Note.Ref root did) = last_born all (root_key root) ≡ Some root
IsTold arenas all before lane (Note.Busy held) = Unit {0}

-- each of these lines, by all and those before it
abbrev pub AreTold : ℕ → List Line → List Line → List Line → Type 0
AreTold arenas all before [] = Unit {0}
AreTold arenas all before (line ∷ lines) =
    FitsNote line.1 × IsTold arenas all before line.0 line.1 × AreTold arenas all (before ++ line ∷ []) lines
