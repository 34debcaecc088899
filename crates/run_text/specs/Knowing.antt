-- How the program knows what lines say of roots and regions. No public clause cites this module.
use Rattle.std.specs.Prelude.{◌≡◌, ℕ, ◌<◌, ◌^◌, Bool, true, false, if◌then◌else◌, nat_eq, List, [], ◌∷◌, length, map, slice_get, Option, Some, None, Vec, codes, decimal}
use Rattle.std.specs.Option.{MatchOption, option_map}
use Rattle.std.specs.declared.alloc.Global.{Global}
use Rattle.std.specs.declared.cmp.Ordering.{Ordering}
use Rattle.std.specs.Ordering.{nat_cmp, ordering_then}
use Rattle.std.specs.BTreeMap as tree
use Rattle.std.specs.HashMap as hash
use Rattle.pool_law.specs.declared.id.RegionId.{RegionId}
use Rattle.pool_law.specs.declared.id.RootId.{RootId}
use Rattle.pool_law.specs.declared.note.Did.{Did}
use Rattle.pool_law.specs.declared.note.Note.{Note}
use Rattle.pool_law.specs.declared.note.Object.{Object}
use Rattle.pool_law.specs.Text.{Text, note_words, spaced}
use Rattle.size_classes.specs.Sizes.{class_count}
use Rattle.run_text.specs.Lines.{Line, Said, all_classes, begun, begun_by, born, born_by, formed, in_hand, last_begun, last_born, last_taken, last_use, said, same_key, taken, taking_key}
use Rattle.run_text.specs.Told.{FitsNote, note_told, use_told}
use Rattle.run_text.specs.declared.known.Known.{Known}
use Rattle.run_text.specs.declared.known.Use.{Use}
use Rattle.run_text.specs.declared.filling.Filler.{Filler}
use Rattle.run_text.specs.declared.making.Making.{Making}

-- the order of two keys
abbrev pub key_cmp : ℕ × ℕ → ℕ × ℕ → Ordering
key_cmp a b = ordering_then (nat_cmp a.0 b.0) (nat_cmp a.1 b.1)

-- ---- What a line tells that says something of a root or a region.

-- of a taking: its class, and the region
abbrev pub class_taken : Said → Option (ℕ × RegionId)
class_taken (Said.Takes class region) = Some (class, region)
class_taken (Said.Comes region) = None
class_taken (Said.Goes region) = None
class_taken (Said.Bears root region) = None
class_taken (Said.Grows region) = None
class_taken (Said.Ends root) = None
class_taken Said.Nothing = None

-- of a taking at an object: its arena, its class, and the region
abbrev pub taking_at : Object → Did → Option (ℕ × ℕ × RegionId)
taking_at (Object.Arena arena) did = option_map (λ t. (arena, t.0, t.1)) (class_taken (said did))
taking_at (Object.Cache lane class) did = None
taking_at (Object.Bin lane) did = None
taking_at (Object.Mail from to) did = None
taking_at (Object.Root place) did = None

-- of the note of a taking
abbrev pub taking_told : Note → Option (ℕ × ℕ × RegionId)
taking_told (Note.At object number did) = taking_at object did
taking_told (Note.Ref root did) = None
taking_told (Note.Busy held) = None

-- a root, at this place
abbrev pub placed : ℕ → RootId → RootId
placed place root = record root { place = place }

-- of a birth: the root
abbrev pub birth_at : Object → Did → Option RootId
birth_at (Object.Arena number) did = None
birth_at (Object.Cache lane class) did = None
birth_at (Object.Bin lane) did = None
birth_at (Object.Mail from to) did = None
birth_at (Object.Root place) did = option_map (λ root. placed place root) (born_by (said did))

-- of the note of a birth
abbrev pub birth_told : Note → Option RootId
birth_told (Note.At object number did) = birth_at object did
birth_told (Note.Ref root did) = None
birth_told (Note.Busy held) = None

-- of a birth or a growth: the root's place, the number of the note there, and the region
abbrev pub begin_at : Object → ℕ → Did → Option (ℕ × ℕ × RegionId)
begin_at (Object.Arena arena) number did = None
begin_at (Object.Cache lane class) number did = None
begin_at (Object.Bin lane) number did = None
begin_at (Object.Mail from to) number did = None
begin_at (Object.Root place) number did = option_map (λ r. (place, number, r)) (begun_by (said did))

-- of the note of one of these
abbrev pub begin_told : Note → Option (ℕ × ℕ × RegionId)
begin_told (Note.At object number did) = begin_at object number did
begin_told (Note.Ref root did) = None
begin_told (Note.Busy held) = None

-- ---- That the line of a note tells what the note says.

-- of the region that a lane takes
abbrev pub TellsTaking : ℕ → Note → Type 0
TellsTaking lane note =
    MatchOption (taking_told (note_told note)) (taken note ≡ None)
    (λ t. (t.1 < class_count all_classes) × (taken note ≡ Some (formed lane t.0 t.1 t.2)))

-- of the root that is born, and of the region that begins to be used
abbrev pub TellsUse : Note → Type 0
TellsUse note =
    (birth_told (note_told note) ≡ born note)
    × (begin_told (note_told note) ≡ option_map (λ b. (b.0.0, b.0.1, use_told b.1)) (begun note))

-- ---- What is known.

-- a use of a region
abbrev pub use_of : RegionId → Use
use_of r = record { taking = taking_key r; uses = r.uses }

-- the takings of these lines are known, and the births and the uses of those
pub record Knows (known : Known) (all lines : List Line) : Type 0 where
  pub sizes : known.sizes ≡ all_classes
  pub takings : (key : ℕ × ℕ) → hash.get same_key known.takings key ≡ last_taken all key
  pub births : (key : ℕ × ℕ) → hash.get same_key known.births key ≡ last_born lines key
  pub uses : (key : ℕ × ℕ) → hash.get same_key known.uses key ≡ option_map (λ b. b.1.uses) (last_use lines key)
  pub begun : (key : ℕ × ℕ) → tree.get key_cmp known.begun key ≡ option_map (λ b. use_of b.1) (last_begun lines key)

-- all lines are known, of which those before were passed
pub record IsAt (count : ℕ) (all before : List Line) (filler : Filler) : Type 0 where
  pub known : Knows filler.known all all
  pub passed : (key : ℕ × ℕ) → hash.get same_key filler.passed key ≡ option_map (λ b. b.1.uses) (last_use before key)
  pub hand : filler.hand ≡ in_hand all before
  pub arenas : filler.arenas ≡ count
  pub some : 0 < count

-- what was done to the region that a line names: it was taken, or came, or was put away
abbrev pub names_region : Said → Bool
names_region (Said.Takes class region) = true
names_region (Said.Comes region) = true
names_region (Said.Goes region) = true
names_region (Said.Bears root region) = false
names_region (Said.Grows region) = false
names_region (Said.Ends root) = false
names_region Said.Nothing = false

abbrev pub of_region : Did → Bool
of_region did = names_region (said did)

-- what the line of a note tells, with its lane
abbrev pub line_told : Line → Line
line_told line = (line.0, note_told line.1)

-- the line of a note tells what it says of roots and regions
abbrev pub Tells : Line → Type 0
Tells line = TellsTaking line.0 line.1 × TellsUse line.1

-- the text of the line of a note, with its lane
abbrev pub line_text : Line → Text
line_text line = spaced (codes "note" ∷ decimal line.0 ∷ note_words line.1)

-- the numbers that are told are of their types
abbrev pub FitsLine : Line → Type 0
FitsLine line = (line.0 < 2 ^ 32) × FitsNote line.1

-- ---- Which notes are whose.

-- the notes of these lines that a lane made
abbrev pub made_by : ℕ → List Line → List Note
made_by lane [] = []
made_by lane (line ∷ lines) =
    if nat_eq line.0 lane then line.1 ∷ made_by lane lines else made_by lane lines

-- the notes of each log
abbrev pub notes_in : List (Vec Note Global) → List (List Note)
notes_in logs = map (λ log. log.items) logs

-- the notes of the lines before are made, each in its lane, of so many arenas and lanes
pub record AreMade (arenas lanes : ℕ) (all before : List Line) (making : Making) : Type 0 where
  pub filler : IsAt arenas all before making.filler
  pub count : length making.logs.items ≡ lanes
  pub logs : (lane : ℕ) → lane < lanes → slice_get (notes_in making.logs.items) lane ≡ Some (made_by lane before)
