-- For each reading of the law there are entries that it reads, whatever was noted before.
use Rattle.std.proofs.Common.{◌≡◌, ℕ, zero, suc, ◌+◌, ◌%◌, List, [], ◌∷◌, ◌++◌, take, drop, Bool, true, false, length, replicate, refl, sym, ap, ◌∙◌, subst, append_assoc, eq-eqb, Option, Some, None}
use Rattle.std.specs.Prelude.{◌==◌, if◌then◌else◌, nat_le, option_map, option_and_then, IsSome, Result, Ok, Err}
use Rattle.std.proofs.lemmas.List.{length-replicate}
use Rattle.pool_law.specs.declared.id.Part.{Part}
use Rattle.pool_law.specs.declared.id.RegionId.{RegionId}
use Rattle.pool_law.specs.declared.id.RootId.{RootId}
use Rattle.pool_law.specs.declared.note.Did.{Did}
use Rattle.pool_law.specs.declared.note.Note.{Note}
use Rattle.pool_law.specs.declared.note.Object.{Object}
use Rattle.pool_law.specs.declared.note.Object.TheVariants.{Arena, Bin, Cache, Root}
use Rattle.pool_law.specs.declared.note.RefDid.{RefDid}
use Rattle.pool_law.specs.declared.run.Reply.{Reply}
use Rattle.pool_law.specs.declared.run.Shape.{Shape}
use Rattle.pool_law.specs.Arenas.{or_else}
use Rattle.pool_law.specs.Caches.{if_so}
use Rattle.pool_law.specs.Composites.{Composite, filled, moved_to}
use Rattle.pool_law.specs.Counts.{root_is, count_of}
use Rattle.pool_law.specs.Dids as says
use Rattle.pool_law.specs.LaneLaw.{sweep_period}
use Rattle.pool_law.specs.Lanes.{Answer, copied_to, copy_parts, get_parts, release_part, release_parts, set_parts}
use Rattle.pool_law.specs.Limits.{has_cache, cached_classes}
use Rattle.pool_law.specs.Logs.{ToldNote}
use Rattle.pool_law.specs.Options.{check}
use Rattle.pool_law.specs.Patterns.{New, allot, ask_arena, ask_cache, bear, drain, give_back, obtain, offer, one_more, put_away, release, sheds, sweep_if_due}
use Rattle.pool_law.specs.Readers.{ToldNotes, Log, Reader, ◌>>=◌, ◌or◌, access, ask, asks, asks_anew, busy, count, done_at, done_to, ending, found, give, next, not_found, note, step, unless_there}
use Rattle.pool_law.proofs.CompositeLemmas.{same_bytes-refl}
use Rattle.pool_law.proofs.PatternLemmas.{same_number, same_object-refl, same_region-refl, same_root-refl}
use Rattle.size_classes.specs.Sizes.{below}
use Rattle.lane_stages.specs.NextNotes.{CanBeRead}
use Rattle.lane_context.specs.Readings.{swept}

-- entries that are read from here on, what they give, and what was noted and asked then
pub record Taken (A : Type 0) (r : Reader A) (seen : ToldNotes) (asked : ℕ) : Type 0 where
  pub taken : ToldNotes
  pub got : A
  pub seen_then : ToldNotes
  pub asked_then : ℕ
  pub read : (rest : ToldNotes) →
      r (record { seen = seen; asked = asked; left = taken ++ rest })
      ≡ Some (got, record { seen = seen_then; asked = asked_then; left = rest })

-- there are some from everywhere
abbrev pub HasWay : {A : Type 0} → Reader A → Type 0
HasWay {A} r = (seen : ToldNotes) (asked : ℕ) → Taken A r seen asked

-- it can be read
pub way_read : {A : Type 0} (r : Reader A) → HasWay r → CanBeRead r
way_read {A} r way seen asked =
    let x : Taken A r seen asked = way seen asked in
    (x.taken ++ [], subst (λ o. IsSome o) (sym (x.read [])) refl)

-- ---- One reading after another.

pub give_way : {A : Type 0} (a : A) → HasWay (give a)
give_way a seen asked = record { taken = []; got = a; seen_then = seen; asked_then = asked; read = λ rest. refl }

pub then_way : {A B : Type 0} (r : Reader A) (f : A → Reader B) → HasWay r → ((a : A) → HasWay (f a))
    → HasWay (r >>= f)
then_way {A} {B} r f first second seen asked =
    let x : Taken A r seen asked = first seen asked in
    let y : Taken B (f x.got) x.seen_then x.asked_then = second x.got x.seen_then x.asked_then in
    record {
      taken = x.taken ++ y.taken;
      got = y.got;
      seen_then = y.seen_then;
      asked_then = y.asked_then;
      read = λ rest.
          ap (λ (left : ToldNotes). (r >>= f) (record { seen = seen; asked = asked; left = left }))
          (append_assoc x.taken y.taken rest)
          ∙ ap (λ o. option_and_then (λ got. f got.0 got.1) o) (x.read (y.taken ++ rest))
          ∙ y.read rest;
    }

pub either_way : {A : Type 0} (r q : Reader A) → HasWay r → HasWay (r or q)
either_way {A} r q first seen asked =
    let x : Taken A r seen asked = first seen asked in
    record {
      taken = x.taken;
      got = x.got;
      seen_then = x.seen_then;
      asked_then = x.asked_then;
      read = λ rest.
          ap (λ o. or_else o (q (record { seen = seen; asked = asked; left = x.taken ++ rest }))) (x.read rest);
    }

pub same_way : {A : Type 0} (r q : Reader A) → ((log : Log) → q log ≡ r log) → HasWay r → HasWay q
same_way {A} r q same way seen asked =
    let x : Taken A r seen asked = way seen asked in
    record {
      taken = x.taken;
      got = x.got;
      seen_then = x.seen_then;
      asked_then = x.asked_then;
      read = λ rest. same (record { seen = seen; asked = asked; left = x.taken ++ rest }) ∙ x.read rest;
    }

pub if_way : {A : Type 0} (b : Bool) (r q : Reader A) → HasWay r → HasWay q → HasWay (if b then r else q)
if_way true r q first second = first
if_way false r q first second = second

-- ---- One entry.

next_way : {A : Type 0} (read : ToldNote → Option A) (e : ToldNote) (a : A) → read e ≡ Some a → HasWay (next read)
next_way read e a is seen asked = record {
  taken = e ∷ [];
  got = a;
  seen_then = seen ++ e ∷ [];
  asked_then = asked;
  read = λ rest.
      ap (λ o. option_map (λ a. (a, record { seen = seen ++ e ∷ []; asked = asked; left = rest })) o) is;
}

module _ {A : Type 0} where
  pub note_way : (o : Object) (says : Did → Option A) (did : Did) (a : A) → says did ≡ Some a → HasWay (note o says)
  note_way o says did a is =
      next_way (λ e. option_and_then says (done_at o e.note))
      (record { note = Note.At o 0 did; root = None; region = None }) a
      (ap (λ (b : Bool). option_and_then says (if b then Some did else None)) (same_object-refl o) ∙ is)

  pub step_way : (root : RootId) (says : RefDid → Option A) (did : RefDid) (a : A) → says did ≡ Some a
      → HasWay (step root says)
  step_way root says did a is =
      next_way (λ e. option_and_then says (done_to root e.note))
      (record { note = Note.Ref root did; root = None; region = None }) a
      (ap (λ (b : Bool). option_and_then says (if b then Some did else None)) (same_root-refl root) ∙ is)

  pub access_way : (root : RootId) (says : Did → Option A) (did : Did) (a : A) → says did ≡ Some a
      → HasWay (access root says)
  access_way root says did a is =
      let o = Root root.place in
      next_way (λ e. if root_is root e.root then option_and_then says (done_at o e.note) else None)
      (record { note = Note.At o 0 did; root = Some root; region = None }) a
      (ap (λ (b : Bool). if b then option_and_then says (done_at o (Note.At o 0 did)) else None) (same_root-refl root)
      ∙ ap (λ (b : Bool). option_and_then says (if b then Some did else None)) (same_object-refl o) ∙ is)

-- some region
a_region : RegionId
a_region = record {
  place = record { arena = 0; chunk = 0; offset = 0; len = 0 };
  class = 0;
  owner = 0;
  taking = 0;
  uses = 0;
}

pub ending_way : (root : RootId) → HasWay (ending root)
ending_way root =
    let o = Root root.place in
    next_way (λ e. option_and_then (λ _. e.region) (option_and_then (says.end root) (done_at o e.note)))
    (record { note = Note.At o 0 (Did.End root); root = None; region = Some a_region }) a_region
    (ap (λ (b : Bool). option_and_then (λ (x : Unit {0}). Some a_region)
    (option_and_then (says.end root) (if b then Some (Did.End root) else None))) (same_object-refl o)
    ∙ ap (λ (b : Bool). option_and_then (λ (x : Unit {0}). Some a_region) (check b)) (same_root-refl root))

-- ---- What is known.

count_way : (root : RootId) → HasWay (count root)
count_way root seen asked = record {
  taken = [];
  got = count_of root seen;
  seen_then = seen;
  asked_then = asked;
  read = λ rest. refl;
}

ask_way : HasWay ask
ask_way seen asked = record { taken = []; got = tt; seen_then = seen; asked_then = asked + 1; read = λ rest. refl }

asks_way : HasWay asks
asks_way seen asked = record { taken = []; got = asked; seen_then = seen; asked_then = asked; read = λ rest. refl }

anew_way : HasWay asks_anew
anew_way seen asked = record { taken = []; got = tt; seen_then = seen; asked_then = 0; read = λ rest. refl }

-- ---- An allocation.

found_way : {A : Type 0} (r : Reader A) → HasWay r → HasWay (found r)
found_way r way = then_way r (λ a. give (Some a)) way (λ a. give_way (Some a))

cache_way : (lane class : ℕ) → HasWay (ask_cache lane class)
cache_way lane class =
    let cache = Cache lane class in
    let none : Reader (Option RegionId) = not_found (note cache says.miss) or not_found (busy cache) in
    then_way ask (λ u. found (note cache says.hit) or none) ask_way
    (λ u. either_way (found (note cache says.hit)) none (found_way (note cache says.hit)
    (note_way cache says.hit (Did.Hit a_region) a_region refl)))

pub arena_way : (shape : Shape) (lane class : ℕ) → HasWay (ask_arena shape lane class)
arena_way shape lane class =
    let o = Arena (lane % shape.arenas) in
    either_way _ _ (found_way (note o (says.take class))
    (note_way o (says.take class) (Did.Take class a_region) a_region
    (ap (λ (b : Bool). if_so b a_region) (same_number class))))

there_way : (o : Option RegionId) (r : Reader (Option RegionId)) → HasWay r → HasWay (unless_there o r)
there_way None r way = way
there_way (Some a) r way = give_way (Some a)

pub obtain_way : (shape : Shape) (lane class : ℕ) → HasWay (obtain shape lane class)
obtain_way shape lane class =
    then_way (if has_cache class then ask_cache lane class else give None)
    (λ cached. unless_there cached (ask_arena shape lane class))
    (if_way (has_cache class) _ _ (cache_way lane class) (give_way None))
    (λ cached. there_way cached (ask_arena shape lane class) (arena_way shape lane class))

pub home_way : (o : Object) (place : ℕ) → HasWay (note o (says.home place))
home_way o place =
    note_way o (says.home place) (Did.Home place) tt (ap (λ (b : Bool). check b) (same_number place))

pub bear_way : (lane place size : ℕ) (region : Option RegionId) → HasWay (bear lane place size region)
bear_way lane place size None = then_way _ _ (home_way (Bin lane) place) (λ u. give_way (Err Reply.Full))
bear_way lane place size (Some region) =
    let root : RootId = record { place = place; generation = 0; capacity = size } in
    then_way (note (Root place) (says.birth place size (one_more region))) _
    (note_way (Root place) (says.birth place size (one_more region)) (Did.Birth root (one_more region)) root
    (rw (same_number place, same_number size, same_region-refl (one_more region)) refl))
    (λ born. then_way (step born says.born) _ (step_way born says.born RefDid.Born tt refl)
    (λ u. give_way (Ok (record { root = born; region = one_more region }))))

pub allot_way : (shape : Shape) (lane size : ℕ) → HasWay (allot shape lane size)
allot_way shape lane size =
    either_way _ _ (then_way (note (Bin lane) says.no_handle) _
    (note_way (Bin lane) says.no_handle Did.NoHandle tt refl)
    (λ u. give_way (Err Reply.Handles)))

-- ---- The end of a root.

pub give_back_way : (region : RegionId) → HasWay (give_back region)
give_back_way region =
    note_way (Arena region.place.arena) (says.give region) (Did.Give region) tt
    (ap (λ (b : Bool). check b) (same_region-refl region))

pub put_away_way : (region : RegionId) → HasWay (put_away region)
put_away_way region =
    if_way (has_cache region.class) (offer region) (give_back region)
    (either_way _ _ (note_way (Cache region.owner region.class) (says.kept region) (Did.Kept region) tt
    (ap (λ (b : Bool). check b) (same_region-refl region))))
    (give_back_way region)

pub vacated_way : (root : RootId) → HasWay (step root says.vacated)
vacated_way root = step_way root says.vacated RefDid.Vacated tt refl

release_way : (shape : Shape) (root : RootId) → HasWay (release shape root)
release_way shape root =
    either_way _ _ (then_way (step root says.count_kept) _ (step_way root says.count_kept RefDid.Kept tt refl)
    (λ u. give_way Reply.Kept))

part_way : (shape : Shape) (p : Part) → HasWay (release_part shape p)
part_way shape p =
    then_way (count p.root) _ (count_way p.root) (λ k. if_way (k == 0) _ _ (give_way tt)
    (then_way (release shape p.root) _ (release_way shape p.root) (λ reply. give_way tt)))

pub parts_way : (shape : Shape) (ps : List Part) → HasWay (release_parts shape ps)
parts_way shape [] = give_way tt
parts_way shape (p ∷ ps) = then_way (release_part shape p) _ (part_way shape p) (λ u. parts_way shape ps)

-- ---- Caches.

pub sheds_way : (lane class n : ℕ) → HasWay (sheds lane class n)
sheds_way lane class zero = give_way tt
sheds_way lane class (suc n) =
    then_way (note (Cache lane class) says.shed) _
    (note_way (Cache lane class) says.shed (Did.Shed a_region) a_region refl)
    (λ region. then_way (give_back region) _ (give_back_way region) (λ u. sheds_way lane class n))

pub drain_way : (lane : ℕ) (kind : Did → Option ℕ) (did : Did) (n : ℕ) → kind did ≡ Some n → (classes : List ℕ)
    → HasWay (drain lane kind classes)
drain_way lane kind did n is [] = give_way tt
drain_way lane kind did n is (class ∷ classes) =
    then_way (note (Cache lane class) kind) _ (note_way (Cache lane class) kind did n is)
    (λ quota. then_way (sheds lane class quota) _ (sheds_way lane class quota)
    (λ u. drain_way lane kind did n is classes))

sweep_way : (period lane : ℕ) → HasWay (sweep_if_due period lane)
sweep_way period lane =
    then_way asks _ asks_way (λ n. if_way (nat_le period n) _ _
    (then_way asks_anew _ anew_way (λ u. drain_way lane says.trim (Did.Trim 0) 0 refl (below cached_classes)))
    (give_way tt))

-- ---- Bytes of parts.

pub set_way : (root : RootId) (at : ℕ) (bytes : List ℕ) → HasWay (access root (says.set at bytes))
set_way root at bytes =
    access_way root (says.set at bytes) (Did.Set at bytes) tt
    (rw (same_number at, same_bytes-refl bytes) refl)

pub get_way : (root : RootId) (at len : ℕ) → HasWay (access root (says.get at len))
get_way root at len =
    let bytes : List ℕ = replicate len 0 in let long : length bytes ≡ len = length-replicate len 0 in
    access_way root (says.get at len) (Did.Get at bytes) bytes
    (rw (same_number at, eq-eqb (length bytes) len long) refl)

pub set_parts_way : (ps : List Part) (bytes : List ℕ) → HasWay (set_parts ps bytes)
set_parts_way [] bytes = give_way tt
set_parts_way (p ∷ ps) bytes =
    then_way (access p.root (says.set p.offset (take p.len bytes))) _ (set_way p.root p.offset (take p.len bytes))
    (λ u. set_parts_way ps (drop p.len bytes))

pub get_parts_way : (ps : List Part) → HasWay (get_parts ps)
get_parts_way [] = give_way []
get_parts_way (p ∷ ps) =
    then_way (access p.root (says.get p.offset p.len)) _ (get_way p.root p.offset p.len)
    (λ first. then_way (get_parts ps) _ (get_parts_way ps) (λ more. give_way (first ++ more)))

pub copy_way : (root : RootId) (at : ℕ) (ps : List Part) → HasWay (copy_parts root at ps)
copy_way root at [] = give_way tt
copy_way root at (p ∷ ps) =
    then_way (access p.root (says.get p.offset p.len)) _ (get_way p.root p.offset p.len)
    (λ bytes. then_way (access root (says.set at bytes)) _ (set_way root at bytes)
    (λ u. copy_way root (at + p.len) ps))

pub copied_way : (shape : Shape) (c : Composite) (got : Result New Reply) → HasWay (copied_to shape c got)
copied_way shape c (Err reply) = give_way (Err reply)
copied_way shape c (Ok new) =
    then_way (copy_parts new.root 0 (filled c.parts)) _ (copy_way new.root 0 (filled c.parts))
    (λ u. then_way (release_parts shape c.parts) _ (parts_way shape c.parts)
    (λ v. give_way (Ok (moved_to new.root c))))

-- an answer, and behind it the sweep that may be due
pub swept_way : (lane : ℕ) (a : Answer) → HasWay (swept lane a)
swept_way lane a = then_way (sweep_if_due sweep_period lane) _ (sweep_way sweep_period lane) (λ u. give_way a)
