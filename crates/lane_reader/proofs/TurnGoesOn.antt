-- What is read of the notes of a command hangs on them alone: the law's readers, one by one.
use Rattle.std.proofs.Common.{◌≡◌, ℕ, zero, suc, ◌+◌, ◌%◌, ◌==◌, true, false, List, [], ◌∷◌, ◌++◌, length, drop, Option, Some, None, Result, Ok, Err, refl, ap, nat_le}
use Rattle.std.specs.Prelude.{if◌then◌else◌, option_and_then}
use Rattle.size_classes.specs.Sizes.{class_of, below}
use Rattle.pool_law.specs.declared.command.Command.{Command}
use Rattle.pool_law.specs.declared.id.RootId.{RootId}
use Rattle.pool_law.specs.declared.id.RegionId.{RegionId}
use Rattle.pool_law.specs.declared.id.Part.{Part}
use Rattle.pool_law.specs.declared.id.ViewData.{ViewData}
use Rattle.pool_law.specs.declared.note.Did.{Did}
use Rattle.pool_law.specs.declared.note.Object.TheVariants.{Arena, Cache, Bin, Root}
use Rattle.pool_law.specs.declared.run.Shape.{Shape}
use Rattle.pool_law.specs.declared.run.Reply.{Reply}
use Rattle.pool_law.specs.Composites.{Composite, filled, is_crowded, moved_to, size_of}
use Rattle.pool_law.specs.Dids as says
use Rattle.pool_law.specs.LaneLaw.{lane_step}
use Rattle.pool_law.specs.Lanes.{Answer, answer, answer_by, busy_or, carried_out, consolidate, copied_to, copy_parts, count_in, get_at, get_parts, not_carried_out, release_of, release_part, release_parts, retain_of, set_at, set_parts, turn}
use Rattle.pool_law.specs.LaneStates.{LaneState, composite_from, composite_with, log_at, named, state_at, view_named}
use Rattle.pool_law.specs.Limits.{cached_classes, geometry_of, has_cache}
use Rattle.pool_law.specs.Names.{Bound, Plain, Composed, parts_at, reader_of, writer_of}
use Rattle.pool_law.specs.Options.{check}
use Rattle.pool_law.specs.Patterns.{New, allot, ask_arena, ask_cache, bear, drain, end_of, found_room, give_back, grow_with, grown, not_kept, obtain, offer, one_more, put_away, regrow, release, sheds, sweep, sweep_if_due, with_handle}
use Rattle.pool_law.specs.Readers.{Log, Reader, ToldNotes, ◌>>=◌, ◌>>◌, ◌or◌, access, ask, asks_anew, at_end, busy, ended_with, found, give, growth, not_found, note, nothing, step}
use Rattle.pool_law.specs.Refusals.{first_refusal, refusals}
use Rattle.lane_reader.proofs.GoesOn.{GoesOn, Needs, anew-goes, ask-goes, asks-goes, bind-goes, bind-needs, count-goes, give-goes, given-goes, if-goes, made-falls, next-falls, next-goes, next-needs, or-goes, or-needs, then-goes, then-needs, there-goes, with_more}

-- ---- A region is obtained.

cache-goes : (lane class : ℕ) → GoesOn (ask_cache lane class)
cache-goes lane class =
    let cache = Cache lane class in
    let hit : Reader (Option RegionId) = found (note cache says.hit) in
    let miss : Reader (Option RegionId) = not_found (note cache says.miss) in
    let held : Reader (Option RegionId) = not_found (busy cache) in
    let hit-goes : GoesOn hit = bind-goes _ _ (next-goes _) (λ a. give-goes (Some a)) in
    let miss-goes : GoesOn miss = bind-goes _ _ (next-goes _) (λ a. give-goes None) in
    let held-goes : GoesOn held = bind-goes _ _ (next-goes _) (λ a. give-goes None) in
    then-goes ask (hit or miss or held) ask-goes
    (or-goes hit (miss or held) hit-goes
    (or-goes miss held miss-goes held-goes (made-falls _ (λ _. None) (next-falls _)) (bind-needs _ _ (next-needs _)))
    (made-falls _ Some (next-falls _))
    (or-needs miss held (bind-needs _ _ (next-needs _)) (bind-needs _ _ (next-needs _))))

arena-goes : (shape : Shape) (lane class : ℕ) → GoesOn (ask_arena shape lane class)
arena-goes shape lane class =
    let arena = Arena (lane % shape.arenas) in
    or-goes (found (note arena (says.take class))) (not_found (note arena (says.full class)))
    (bind-goes _ _ (next-goes _) (λ a. give-goes (Some a)))
    (bind-goes _ _ (next-goes _) (λ a. give-goes None))
    (made-falls _ Some (next-falls _))
    (bind-needs _ _ (next-needs _))

obtain-goes : (shape : Shape) (lane class : ℕ) → GoesOn (obtain shape lane class)
obtain-goes shape lane class =
    bind-goes (if has_cache class then ask_cache lane class else give None) _
    (if-goes (has_cache class) (ask_cache lane class) (give None) (cache-goes lane class) (give-goes None))
    (λ cached. there-goes cached (ask_arena shape lane class) (arena-goes shape lane class))

-- ---- A root is allotted.

bear-goes : (lane place size : ℕ) (region : Option RegionId) → GoesOn (bear lane place size region)
bear-goes lane place size None = then-goes _ _ (next-goes _) (give-goes (Err Reply.Full))
bear-goes lane place size (Some region) =
    bind-goes _ _ (next-goes _) (λ root. then-goes _ _ (next-goes _) (give-goes _))

handle-goes : (shape : Shape) (lane size place : ℕ) → GoesOn (with_handle shape lane size place)
handle-goes shape lane size place =
    bind-goes _ _ (given-goes (class_of (geometry_of shape) size))
    (λ class. bind-goes _ _ (obtain-goes shape lane class) (λ region. bear-goes lane place size region))

pub allot-goes : (shape : Shape) (lane size : ℕ) → GoesOn (allot shape lane size)
allot-goes shape lane size =
    or-goes (note (Bin lane) says.no_handle >> give (Err Reply.Handles))
    (note (Bin lane) says.handle >>= with_handle shape lane size)
    (then-goes _ _ (next-goes _) (give-goes (Err Reply.Handles)))
    (bind-goes _ _ (next-goes _) (λ place. handle-goes shape lane size place))
    (made-falls _ (λ _. Err Reply.Handles) (next-falls _))
    (bind-needs _ _ (next-needs _))

-- ---- A root ends.

kept-goes : (region : RegionId) → GoesOn (not_kept region)
kept-goes region =
    let cache = Cache region.owner region.class in
    or-goes (note cache (says.back region)) (busy cache >> nothing) (next-goes _)
    (then-goes _ _ (next-goes _) (give-goes tt)) (next-falls _) (then-needs _ _ (next-needs _))

kept-needs : (region : RegionId) → Needs (not_kept region)
kept-needs region =
    let cache = Cache region.owner region.class in
    or-needs (note cache (says.back region)) (busy cache >> nothing) (next-needs _) (then-needs _ _ (next-needs _))

offer-goes : (region : RegionId) → GoesOn (offer region)
offer-goes region =
    or-goes (note (Cache region.owner region.class) (says.kept region)) (not_kept region >> give_back region)
    (next-goes _) (then-goes _ _ (kept-goes region) (next-goes _)) (next-falls _)
    (then-needs _ _ (kept-needs region))

away-goes : (region : RegionId) → GoesOn (put_away region)
away-goes region =
    if-goes (has_cache region.class) (offer region) (give_back region) (offer-goes region) (next-goes _)

end-goes : (shape : Shape) (root : RootId) → GoesOn (end_of shape root)
end-goes shape root =
    then-goes _ _ (next-goes _)
    (bind-goes _ _ (next-goes _)
    (λ region. then-goes _ _ (next-goes _) (then-goes _ _ (away-goes region) (next-goes _))))

end-needs : (shape : Shape) (root : RootId) → Needs (end_of shape root)
end-needs shape root = then-needs _ _ (next-needs _)

pub release-goes : (shape : Shape) (root : RootId) → GoesOn (release shape root)
release-goes shape root =
    or-goes (step root says.count_kept >> give Reply.Kept) (end_of shape root >> give Reply.Freed)
    (then-goes _ _ (next-goes _) (give-goes Reply.Kept))
    (then-goes _ _ (end-goes shape root) (give-goes Reply.Freed))
    (made-falls _ (λ _. Reply.Kept) (next-falls _))
    (then-needs _ _ (end-needs shape root))

-- ---- A root grows.

room-goes : (root : RootId) (size : ℕ) → GoesOn (found_room root size)
room-goes root size =
    or-goes (access root (says.extend size) >> give size) (access root (says.room size))
    (then-goes _ _ (next-goes _) (give-goes size)) (next-goes _) (made-falls _ (λ _. size) (next-falls _))
    (next-needs _)

room-needs : (root : RootId) (size : ℕ) → Needs (found_room root size)
room-needs root size =
    or-needs (access root (says.extend size) >> give size) (access root (says.room size))
    (then-needs _ _ (next-needs _)) (next-needs _)

grown-goes : (root : RootId) (size : ℕ) (region : RegionId) → GoesOn (grown root size region)
grown-goes root size region =
    or-goes (growth root size (one_more region) >>= (λ old. give (record { capacity = size; spare = old })))
    (found_room root size >>= (λ k. give (record { capacity = k; spare = region })))
    (bind-goes _ _ (next-goes _) (λ old. give-goes _))
    (bind-goes _ _ (room-goes root size) (λ k. give-goes _))
    (made-falls _ (λ old. record { capacity = size; spare = old }) (next-falls _))
    (bind-needs _ _ (room-needs root size))

with-goes : (root : RootId) (size : ℕ) (region : Option RegionId) → GoesOn (grow_with root size region)
with-goes root size None = give-goes (Err Reply.Full)
with-goes root size (Some region) =
    bind-goes _ _ (grown-goes root size region)
    (λ g. then-goes _ _ (given-goes (check (nat_le size g.capacity)))
    (then-goes _ _ (away-goes g.spare) (give-goes (Ok g.capacity))))

pub regrow-goes : (shape : Shape) (lane : ℕ) (root : RootId) (size : ℕ) → GoesOn (regrow shape lane root size)
regrow-goes shape lane root size =
    bind-goes _ _ (room-goes root size)
    (λ capacity. bind-goes _ _ (given-goes (class_of (geometry_of shape) size))
    (λ class. if-goes (nat_le size capacity) (give (Ok capacity)) (obtain shape lane class >>= grow_with root size)
    (give-goes (Ok capacity))
    (bind-goes _ _ (obtain-goes shape lane class) (λ region. with-goes root size region))))

-- ---- Caches are swept.

sheds-goes : (lane class n : ℕ) → GoesOn (sheds lane class n)
sheds-goes lane class zero = give-goes tt
sheds-goes lane class (suc n) =
    bind-goes _ _ (next-goes _) (λ region. then-goes _ _ (next-goes _) (sheds-goes lane class n))

drain-goes : (lane : ℕ) (kind : Did → Option ℕ) (classes : List ℕ) → GoesOn (drain lane kind classes)
drain-goes lane kind [] = give-goes tt
drain-goes lane kind (class ∷ classes) =
    bind-goes _ _ (next-goes _)
    (λ quota. then-goes _ _ (sheds-goes lane class quota) (drain-goes lane kind classes))

due-goes : (period lane : ℕ) → GoesOn (sweep_if_due period lane)
due-goes period lane =
    bind-goes _ _ asks-goes
    (λ n. if-goes (nat_le period n) (asks_anew >> sweep lane) nothing
    (then-goes _ _ anew-goes (drain-goes lane says.trim (below cached_classes))) (give-goes tt))

-- ---- Bytes of parts.

set-goes : (parts : List Part) (bytes : List ℕ) → GoesOn (set_parts parts bytes)
set-goes [] bytes = give-goes tt
set-goes (p ∷ ps) bytes = then-goes _ _ (next-goes _) (set-goes ps (drop p.len bytes))

get-goes : (parts : List Part) → GoesOn (get_parts parts)
get-goes [] = give-goes []
get-goes (p ∷ ps) = bind-goes _ _ (next-goes _)
    (λ first. bind-goes _ _ (get-goes ps) (λ rest. give-goes (first ++ rest)))

copy-goes : (root : RootId) (at : ℕ) (parts : List Part) → GoesOn (copy_parts root at parts)
copy-goes root at [] = give-goes tt
copy-goes root at (p ∷ ps) =
    bind-goes _ _ (next-goes _) (λ bytes. then-goes _ _ (next-goes _) (copy-goes root (at + p.len) ps))

part-goes : (shape : Shape) (p : Part) → GoesOn (release_part shape p)
part-goes shape p =
    bind-goes _ _ (count-goes p.root)
    (λ k. if-goes (k == 0) nothing (release shape p.root >> nothing) (give-goes tt)
    (then-goes _ _ (release-goes shape p.root) (give-goes tt)))

parts-goes : (shape : Shape) (parts : List Part) → GoesOn (release_parts shape parts)
parts-goes shape [] = give-goes tt
parts-goes shape (p ∷ ps) = then-goes _ _ (part-goes shape p) (parts-goes shape ps)

-- ---- Composites.

copied-goes : (shape : Shape) (c : Composite) (made : Result New Reply) → GoesOn (copied_to shape c made)
copied-goes shape c (Err reply) = give-goes (Err reply)
copied-goes shape c (Ok new) =
    then-goes _ _ (copy-goes new.root 0 (filled c.parts))
    (then-goes _ _ (parts-goes shape c.parts) (give-goes (Ok (moved_to new.root c))))

whole-goes : (shape : Shape) (lane : ℕ) (c : Composite) → GoesOn (consolidate shape lane c)
whole-goes shape lane c =
    if-goes (is_crowded c) (allot shape lane (size_of c.parts) >>= copied_to shape c) (give (Ok c))
    (bind-goes _ _ (allot-goes shape lane (size_of c.parts)) (λ made. copied-goes shape c made)) (give-goes (Ok c))

-- ---- The table.

bytes-goes : (s : LaneState) (i : ℕ) (bytes : List ℕ) (b : Bound) → GoesOn (set_at s i bytes b)
bytes-goes s i bytes b = then-goes _ _ (set-goes (parts_at b i (length bytes)) bytes) (give-goes _)

got-goes : (s : LaneState) (i n : ℕ) (b : Bound) → GoesOn (get_at s i n b)
got-goes s i n b = bind-goes _ _ (get-goes (parts_at b i n)) (λ bytes. give-goes _)

set-needs : (s : LaneState) (i : ℕ) (bytes : List ℕ) (view : ViewData) → Needs (set_at s i bytes (Plain view))
set-needs s i bytes view = then-needs _ _ (then-needs _ _ (next-needs _))

get-needs : (s : LaneState) (i n : ℕ) (view : ViewData) → Needs (get_at s i n (Plain view))
get-needs s i n view = bind-needs _ _ (bind-needs _ _ (next-needs _))

busy-goes : (s : LaneState) (v : ViewData) (r : Reader Answer) → GoesOn r → Needs r → GoesOn (busy_or s v r)
busy-goes s v r goes need =
    or-goes (busy (Root v.root.place) >>= (λ number. give (answer (Reply.Busy number) s.names))) r
    (bind-goes _ _ (next-goes _) (λ number. give-goes _)) goes
    (made-falls _ (λ number. answer (Reply.Busy number) s.names) (next-falls _)) need

retain-goes : (s : LaneState) (name : ℕ) (b : Bound) → GoesOn (retain_of s name b)
retain-goes s name (Plain v) = then-goes _ _ (next-goes _) (give-goes _)
retain-goes s name (Composed c) = give-goes _

less-goes : (shape : Shape) (s : LaneState) (name : ℕ) (b : Bound) → GoesOn (release_of shape s name b)
less-goes shape s name (Plain v) = bind-goes _ _ (release-goes shape v.root) (λ reply. give-goes _)
less-goes shape s name (Composed c) =
    if-goes (c.count == 1) _ _ (then-goes _ _ (parts-goes shape c.parts) (give-goes _)) (give-goes _)

look-goes : (s : LaneState) (b : Bound) → GoesOn (count_in s b)
look-goes s (Plain v) = bind-goes _ _ (next-goes _) (λ k. give-goes _)
look-goes s (Composed c) = give-goes _

carried-goes : (shape : Shape) (lane : ℕ) (s : LaneState) (c : Command) → GoesOn (carried_out shape lane s c)
carried-goes shape lane s (Command.Alloc new n) = bind-goes _ _ (allot-goes shape lane n) (λ got. give-goes _)
carried-goes shape lane s (Command.Set v i bytes false) =
    bind-goes _ _ (given-goes (named s v)) (λ b. bytes-goes s i bytes b)
carried-goes shape lane s (Command.Set v i bytes true) =
    bind-goes _ _ (given-goes (view_named s v))
    (λ view. busy-goes s view _ (bytes-goes s i bytes (Plain view)) (set-needs s i bytes view))
carried-goes shape lane s (Command.Get v i n false) =
    bind-goes _ _ (given-goes (named s v)) (λ b. got-goes s i n b)
carried-goes shape lane s (Command.Get v i n true) =
    bind-goes _ _ (given-goes (view_named s v))
    (λ view. busy-goes s view _ (got-goes s i n (Plain view)) (get-needs s i n view))
carried-goes shape lane s (Command.Write v bytes) =
    bind-goes _ _ (given-goes (named s v))
    (λ b. then-goes _ _ (set-goes (parts_at b (writer_of b) (length bytes)) bytes) (give-goes _))
carried-goes shape lane s (Command.Read v n) =
    bind-goes _ _ (given-goes (named s v))
    (λ b. bind-goes _ _ (get-goes (parts_at b (reader_of b) n)) (λ bytes. give-goes _))
carried-goes shape lane s (Command.Slice new v i n retained) =
    bind-goes _ _ (given-goes (view_named s v))
    (λ view. then-goes _ _
    (if-goes retained (step view.root says.retain) nothing (next-goes _) (give-goes tt)) (give-goes _))
carried-goes shape lane s (Command.Dup new v) = bind-goes _ _ (given-goes (view_named s v)) (λ view. give-goes _)
carried-goes shape lane s (Command.Retain v) = bind-goes _ _ (given-goes (named s v)) (λ b. retain-goes s v b)
carried-goes shape lane s (Command.Release v) = bind-goes _ _ (given-goes (named s v)) (λ b. less-goes shape s v b)
carried-goes shape lane s (Command.Refcnt v) = bind-goes _ _ (given-goes (named s v)) (λ b. look-goes s b)
carried-goes shape lane s (Command.Touch v) =
    bind-goes _ _ (given-goes (view_named s v)) (λ view. then-goes _ _ (next-goes _) (give-goes _))
carried-goes shape lane s (Command.Forget v) = give-goes _
carried-goes shape lane s (Command.Send v to) =
    bind-goes _ _ (given-goes (view_named s v)) (λ view. then-goes _ _ (next-goes _) (give-goes _))
carried-goes shape lane s (Command.Recv new from) = bind-goes _ _ (next-goes _) (λ parcel. give-goes _)
carried-goes shape lane s (Command.Compose new vs) =
    bind-goes _ _ (given-goes (composite_from s vs))
    (λ c. bind-goes _ _ (whole-goes shape lane c) (λ made. give-goes _))
carried-goes shape lane s (Command.Add c v) =
    bind-goes _ _ (given-goes (composite_with s c v))
    (λ longer. bind-goes _ _ (whole-goes shape lane longer) (λ made. give-goes _))
carried-goes shape lane s (Command.Capacity v n) =
    bind-goes _ _ (given-goes (view_named s v))
    (λ view. bind-goes _ _ (regrow-goes shape lane view.root n) (λ got. give-goes _))

pub refused-goes : (lane : ℕ) (c : Command) → GoesOn (not_carried_out lane c)
refused-goes lane (Command.Send v to) = next-goes _
refused-goes lane c = give-goes tt

answer-goes : (shape : Shape) (lane : ℕ) (s : LaneState) (c : Command) (no : Option Reply)
    → GoesOn (answer_by shape lane s c no)
answer-goes shape lane s c None = carried-goes shape lane s c
answer-goes shape lane s c (Some reply) = then-goes _ _ (refused-goes lane c) (give-goes _)

pub turn-goes : (period : ℕ) (shape : Shape) (lane : ℕ) (s : LaneState) (c : Command)
    → GoesOn (turn period shape lane s c)
turn-goes period shape lane s c =
    bind-goes _ _ (answer-goes shape lane s c (first_refusal (refusals shape s c)))
    (λ a. then-goes _ _ (due-goes period lane) (give-goes a))

-- ---- A command whose notes are exactly these takes these of more.

-- what a command's notes say, and what is left behind them
pub record Takes
    (period : ℕ) (shape : Shape) (lane : ℕ) (s : LaneState) (c : Command) (all rest : ToldNotes) (reply : Reply)
    (mid : LaneState) : Type 0
  where
    pub a : Answer
    pub end : Log
    pub read : turn period shape lane s c (log_at s all) ≡ Some (a, end)
    pub left : end.left ≡ rest
    pub replied : a.reply ≡ reply
    pub state : state_at a.names end ≡ mid

module _ (period : ℕ) (shape : Shape) (lane : ℕ) (s : LaneState) (c : Command) (es rest : ToldNotes) (reply : Reply)
    (mid : LaneState) where
  -- what is answered, and the state behind it
  abbrev said : Answer × Log → Option (Reply × LaneState)
  said got = Some (got.0.reply, state_at got.0.names got.1)

  step-left : (got : Answer × Log) → turn period shape lane s c (log_at s es) ≡ Some got → (left : ToldNotes)
      → got.1.left ≡ left
      → option_and_then said (option_and_then (λ g. give got.0 g.1) (ended_with got.1 left)) ≡ Some (reply, mid)
      → Takes period shape lane s c (es ++ rest) rest reply mid
  step-left got is [] here e =
      let both : ◌≡◌ {A = Reply × LaneState} (got.0.reply, state_at got.0.names got.1) (reply, mid) = cc e in
      record {
        a = got.0;
        end = with_more rest got.1;
        read = (turn-goes period shape lane s c).0 rest (log_at s es) got.0 got.1 is;
        left = ap (λ (left : ToldNotes). left ++ rest) here;
        replied = ap (λ (p : Reply × LaneState). p.0) both;
        state = ap (λ (p : Reply × LaneState). p.1) both;
      }
  step-left got is (x ∷ xs) here e = absurd
      (let no : ◌≡◌ {A = Option (Reply × LaneState)} None (Some (reply, mid)) = e in cc)

  step-by : (o : Option (Answer × Log)) → turn period shape lane s c (log_at s es) ≡ o
      → option_and_then said (option_and_then (λ got. (at_end >> give got.0) got.1) o) ≡ Some (reply, mid)
      → Takes period shape lane s c (es ++ rest) rest reply mid
  step-by None is e = absurd (let no : ◌≡◌ {A = Option (Reply × LaneState)} None (Some (reply, mid)) = e in cc)
  step-by (Some got) is e = step-left got is got.1.left refl e

  pub step-goes : lane_step period shape lane s c es ≡ Some (reply, mid)
      → Takes period shape lane s c (es ++ rest) rest reply mid
  step-goes e = step-by (turn period shape lane s c (log_at s es)) refl e
