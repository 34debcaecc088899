-- At which object readings begin.
use Rattle.std.proofs.Common.{◌≡◌, ℕ, zero, suc, ◌<◌, ◌%◌, [], ◌∷◌, Bool, true, false, refl, sym, ap, subst, arith, List, ◌++◌, take, Option, Some, None}
use Rattle.std.specs.Prelude.{if◌then◌else◌, option_map, option_and_then, IsSome}
use Rattle.pool_law.specs.declared.id.Part.{Part}
use Rattle.pool_law.specs.declared.id.RegionId.{RegionId}
use Rattle.pool_law.specs.declared.id.RootId.{RootId}
use Rattle.pool_law.specs.declared.note.Did.{Did}
use Rattle.pool_law.specs.declared.note.Held.{Held}
use Rattle.pool_law.specs.declared.note.Note.{Note}
use Rattle.pool_law.specs.declared.note.Object.{Object}
use Rattle.pool_law.specs.declared.note.Object.TheVariants.{Arena, Bin, Cache, Root}
use Rattle.pool_law.specs.declared.run.Shape.{Shape}
use Rattle.pool_law.specs.Arenas.{or_else}
use Rattle.pool_law.specs.Counts.{root_is}
use Rattle.pool_law.specs.Dids as says
use Rattle.pool_law.specs.Lanes.{set_parts, get_parts}
use Rattle.pool_law.specs.Limits.{cached_classes}
use Rattle.pool_law.specs.Logs.{ToldNote}
use Rattle.pool_law.specs.Patterns.{allot, ask_arena, bear, drain, found_room, give_back, grown, one_more, sheds}
use Rattle.pool_law.specs.Readers.{ToldNotes, Log, Reader, ◌>>=◌, ◌>>◌, ◌or◌, access, done_at, first_of_left, give, growth, next, note}
use Rattle.pool_law.specs.Same.{same_object}
use Rattle.pool_law.proofs.SameLemmas.{same_object-is}
use Rattle.lane_stages.specs.declared.draining.DrainKind.{DrainKind}
use Rattle.lane_stages.specs.Drainings.{classes_from, quota_in}
use Rattle.lane_stages.specs.NextNotes.{StandsFirst, BeginsAt}
use Rattle.lane_stages.proofs.Readings.{classes_next}

-- an entry that is a note in the section of this object
abbrev StandsAt : Object → ToldNote → Type 0
StandsAt o e = (number : ℕ) × (did : Did) × (e.note ≡ Note.At o number did)

-- ---- One note.

-- what is there of something that was made of it
mapped_some : {A B : Type 0} (f : A → B) (o : Option A) → IsSome (option_map f o) → IsSome o
mapped_some f None is = absurd (cc is)
mapped_some f (Some a) is = refl

then_some : {A B : Type 0} (f : A → Option B) (o : Option A) → IsSome (option_and_then f o) → IsSome o
then_some f None is = absurd (cc is)
then_some f (Some a) is = refl

if_some : {A : Type 0} (b : Bool) (o : Option A) → IsSome (if b then o else None) → (b ≡ true) × IsSome o
if_some true o is = (refl, is)
if_some false o is = absurd (cc is)

done_there : (o : Object) (n : Note) → IsSome (done_at o n)
    → (number : ℕ) × (did : Did) × (n ≡ Note.At o number did)
done_there o (Note.At other number did) is = (
  number,
  did,
  ap (λ (x : Object). Note.At x number did)
      (sym (same_object-is o other (if_some (same_object o other) (Some did) is).0)),
)
done_there o (Note.Ref root did) is = absurd (cc is)
done_there o (Note.Busy held) is = absurd (cc is)

module _ {A : Type 0} (o : Object) (read : ToldNote → Option A)
    (there : (e : ToldNote) → IsSome (read e) → StandsAt o e) where
  first_there : (log : Log) (es : ToldNotes) → IsSome (first_of_left read log es) → StandsFirst o es
  first_there log [] is = absurd (cc is)
  first_there log (e ∷ es) is = there e (mapped_some _ (read e) is)

  next_begins : BeginsAt o (next read)
  next_begins log is = first_there log log.left is

module _ {A : Type 0} (says : Did → Option A) where
  pub note_begins : (o : Object) → BeginsAt o (note o says)
  note_begins o = next_begins o (λ e. option_and_then says (done_at o e.note))
      (λ e is. done_there o e.note (then_some says (done_at o e.note) is))

  pub access_begins : (root : RootId) → BeginsAt (Root root.place) (access root says)
  access_begins root = next_begins (Root root.place)
      (λ e. if root_is root e.root then option_and_then says (done_at (Root root.place) e.note) else None)
      (λ e is. done_there (Root root.place) e.note (then_some says (done_at (Root root.place) e.note)
      (if_some (root_is root e.root) (option_and_then says (done_at (Root root.place) e.note)) is).1))

pub growth_begins : (root : RootId) (size : ℕ) (region : RegionId)
    → BeginsAt (Root root.place) (growth root size region)
growth_begins root size region = next_begins (Root root.place)
    (λ e. if root_is root e.root then option_and_then (λ _. e.region)
    (option_and_then (says.grow size region) (done_at (Root root.place) e.note)) else None)
    (λ e is. (let did = option_and_then (says.grow size region) (done_at (Root root.place) e.note) in
    done_there (Root root.place) e.note (then_some (says.grow size region) (done_at (Root root.place) e.note)
    (then_some (λ _. e.region) did (if_some (root_is root e.root) (option_and_then (λ _. e.region) did) is).1))))

-- ---- Readings of readings.

pub then_begins : {A B : Type 0} (o : Object) (r : Reader A) (f : A → Reader B) → BeginsAt o r → BeginsAt o (r >>= f)
then_begins o r f begins log is = begins log (then_some (λ got. f got.0 got.1) (r log) is)

pub either_begins : {A : Type 0} (o : Object) (r q : Reader A) → BeginsAt o r → BeginsAt o q → BeginsAt o (r or q)
either_begins o r q first second log is = pick (r log) (q log) is (first log) (second log)
  where
    pick : {A : Type 0} (x y : Option (A × Log)) → IsSome (or_else x y) → (IsSome x → StandsFirst o log.left)
        → (IsSome y → StandsFirst o log.left) → StandsFirst o log.left
    pick None y is f g = g is
    pick (Some a) y is f g = f refl

pub same_begins : {A : Type 0} (o : Object) (r q : Reader A) → ((log : Log) → q log ≡ r log) → BeginsAt o r
    → BeginsAt o q
same_begins o r q same begins log is = begins log (subst (λ x. IsSome x) (same log) is)

-- it begins at the object that was found busy
pub begins_there : {A : Type 0} (o : Object) (held : Held) (r : Reader A) → held.object ≡ o → BeginsAt o r
    → BeginsAt held.object r
begins_there o held r is begins = subst (λ (x : Object). BeginsAt x r) (sym is) begins

-- ---- The law's patterns.

pub allot_begins : (shape : Shape) (lane size : ℕ) → BeginsAt (Bin lane) (allot shape lane size)
allot_begins shape lane size =
    either_begins (Bin lane) _ _ (then_begins (Bin lane) _ _ (note_begins says.no_handle (Bin lane)))
    (then_begins (Bin lane) _ _ (note_begins says.handle (Bin lane)))

pub arena_begins : (shape : Shape) (lane class : ℕ)
    → BeginsAt (Arena (lane % shape.arenas)) (ask_arena shape lane class)
arena_begins shape lane class =
    let o = Arena (lane % shape.arenas) in
    either_begins o _ _ (then_begins o _ _ (note_begins (says.take class) o))
    (then_begins o _ _ (note_begins (says.full class) o))

pub home_begins : (lane place size : ℕ) → BeginsAt (Bin lane) (bear lane place size None)
home_begins lane place size = then_begins (Bin lane) _ _ (note_begins (says.home place) (Bin lane))

pub room_begins : (root : RootId) (size : ℕ) → BeginsAt (Root root.place) (found_room root size)
room_begins root size =
    either_begins (Root root.place) _ _ (then_begins (Root root.place) _ _ (access_begins (says.extend size) root))
    (access_begins (says.room size) root)

pub grown_begins : (root : RootId) (size : ℕ) (region : RegionId) → BeginsAt (Root root.place) (grown root size region)
grown_begins root size region =
    either_begins (Root root.place) _ _
    (then_begins (Root root.place) _ _ (growth_begins root size (one_more region)))
    (then_begins (Root root.place) _ _ (room_begins root size))

pub given_begins : (region : RegionId) → BeginsAt (Arena region.place.arena) (give_back region)
given_begins region = note_begins (says.give region) (Arena region.place.arena)

pub shed_begins : (lane class left : ℕ) → 0 < left → BeginsAt (Cache lane class) (sheds lane class left)
shed_begins lane class zero some = absurd (omega (arith, some))
shed_begins lane class (suc n) some = then_begins (Cache lane class) _ _ (note_begins says.shed (Cache lane class))

pub drain_begins : (kind : DrainKind) (lane class : ℕ) → class < cached_classes
    → BeginsAt (Cache lane class) (drain lane (quota_in kind) (classes_from class))
drain_begins kind lane class lt =
    subst (λ classes. BeginsAt (Cache lane class) (drain lane (quota_in kind) classes)) (sym (classes_next class lt))
    (then_begins (Cache lane class) _ _ (note_begins (quota_in kind) (Cache lane class)))

-- bytes are set, and got behind others, part by part
pub set_begins : (p : Part) (ps : List Part) (bytes : List ℕ)
    → BeginsAt (Root p.root.place) (set_parts (p ∷ ps) bytes >> give {A = List ℕ} [])
set_begins p ps bytes =
    then_begins (Root p.root.place) _ _
    (then_begins (Root p.root.place) _ _ (access_begins (says.set p.offset (take p.len bytes)) p.root))

pub got_begins : (p : Part) (ps : List Part) (got : List ℕ)
    → BeginsAt (Root p.root.place) (get_parts (p ∷ ps) >>= (λ more. give (got ++ more)))
got_begins p ps got =
    then_begins (Root p.root.place) _ _
    (then_begins (Root p.root.place) _ _ (access_begins (says.get p.offset p.len) p.root))
