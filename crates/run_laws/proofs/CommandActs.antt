-- What each command notes are acts.
use Rattle.std.proofs.Common.{◌≡◌, ℕ, ◌+◌, List, [], ◌∷◌, ◌++◌, length, take, drop, Bool, true, false, Some, None, Ok, Err}
use Rattle.std.specs.Prelude.{◌==◌, if◌then◌else◌, Option, Result}
use Rattle.pool_law.specs.declared.id.RootId.{RootId}
use Rattle.pool_law.specs.declared.id.ViewData.{ViewData}
use Rattle.pool_law.specs.declared.id.Parcel.{Parcel}
use Rattle.pool_law.specs.declared.id.Part.{Part}
use Rattle.pool_law.specs.declared.command.Command.{Command}
use Rattle.pool_law.specs.declared.note.Object.{Object}
use Rattle.pool_law.specs.declared.note.Did.{Did}
use Rattle.pool_law.specs.declared.note.RefDid.{RefDid}
use Rattle.pool_law.specs.declared.run.Shape.{Shape}
use Rattle.pool_law.specs.declared.run.Reply.{Reply}
use Rattle.pool_law.specs.Dids as says
use Rattle.pool_law.specs.Readers.{Reader, ◌>>=◌, ◌>>◌, give, nothing, given, note, step, busy, access, count}
use Rattle.pool_law.specs.Composites.{Composite, size_of, filled, is_crowded, moved_to}
use Rattle.pool_law.specs.Names.{Bound, Plain, Composed, bind, reader_of, writer_of, parts_at, written_on, read_on, without}
use Rattle.pool_law.specs.LaneStates.{LaneState, named, view_named, composite_from, composite_with}
use Rattle.pool_law.specs.Refusals.{first_refusal, refusals}
use Rattle.pool_law.specs.Patterns.{New, allot, release, regrow}
use Rattle.pool_law.specs.Lanes.{Answer, answer, set_parts, get_parts, copy_parts, release_part, release_parts, copied_to, consolidate, composed, allotted, regrown, received, busy_or, set_at, get_at, retain_of, release_of, count_in, no_parcel, parcel_of, carried_out, not_carried_out, answer_by, answer_of}
use Rattle.run_laws.proofs.Acts.{IsStill, IsStep, Acts}
use Rattle.run_laws.proofs.Keeping.{Keeps, keeps-give, keeps-given, keeps-bind, keeps-then, keeps-or, keeps-if, keeps-count}
use Rattle.run_laws.proofs.RootActs.{acts-chain, note-acts, step-acts, access-acts, busy-acts, allot-acts}
use Rattle.run_laws.proofs.EndActs.{release-acts}
use Rattle.run_laws.proofs.GrowActs.{regrow-acts}

module _ (P : Object → Did → Type 0) where
  pub set_one-acts : (root : RootId) (at : ℕ) (bytes : List ℕ) → Keeps (Acts P) (access root (says.set at bytes))
  set_one-acts root at bytes = access-acts P root (says.set at bytes) still
    where
      still : (d : Did) (u : Unit {0}) → says.set at bytes d ≡ Some u → IsStill P (Object.Root root.place) d
      still (Did.Set a b) u e = tt
      still _ u e = absurd (cc e)

  pub get_one-acts : (root : RootId) (at len : ℕ) → Keeps (Acts P) (access root (says.get at len))
  get_one-acts root at len = access-acts P root (says.get at len) still
    where
      still : (d : Did) (b : List ℕ) → says.get at len d ≡ Some b → IsStill P (Object.Root root.place) d
      still (Did.Get a b) u e = tt
      still _ u e = absurd (cc e)

  pub set_parts-acts : (ps : List Part) (bytes : List ℕ) → Keeps (Acts P) (set_parts ps bytes)
  set_parts-acts [] bytes = keeps-give (acts-chain P) tt
  set_parts-acts (p ∷ ps) bytes =
      keeps-then (acts-chain P) (access p.root (says.set p.offset (take p.len bytes))) (set_parts ps (drop p.len bytes))
      (set_one-acts p.root p.offset (take p.len bytes)) (set_parts-acts ps (drop p.len bytes))

  pub get_parts-acts : (ps : List Part) → Keeps (Acts P) (get_parts ps)
  get_parts-acts [] = keeps-give (acts-chain P) []
  get_parts-acts (p ∷ ps) =
      keeps-bind (acts-chain P) (access p.root (says.get p.offset p.len))
      (λ first. get_parts ps >>= (λ rest. give (first ++ rest))) (get_one-acts p.root p.offset p.len)
      (λ first. keeps-bind (acts-chain P) (get_parts ps) (λ rest. give (first ++ rest)) (get_parts-acts ps)
      (λ rest. keeps-give (acts-chain P) (first ++ rest)))

  pub copy_parts-acts : (root : RootId) (at : ℕ) (ps : List Part) → Keeps (Acts P) (copy_parts root at ps)
  copy_parts-acts root at [] = keeps-give (acts-chain P) tt
  copy_parts-acts root at (p ∷ ps) =
      keeps-bind (acts-chain P) (access p.root (says.get p.offset p.len))
      (λ bytes. access root (says.set at bytes) >> copy_parts root (at + p.len) ps)
      (get_one-acts p.root p.offset p.len)
      (λ bytes. keeps-then (acts-chain P) (access root (says.set at bytes)) (copy_parts root (at + p.len) ps)
      (set_one-acts root at bytes) (copy_parts-acts root (at + p.len) ps))

  pub release_part-acts : (shape : Shape) (p : Part) → Keeps (Acts P) (release_part shape p)
  release_part-acts shape p =
      keeps-bind (acts-chain P) (count p.root) (λ k. if k == 0 then nothing else (release shape p.root >> nothing))
      (keeps-count (acts-chain P) p.root)
      (λ k. keeps-if (acts-chain P) (k == 0) nothing (release shape p.root >> nothing) (keeps-give (acts-chain P) tt)
      (keeps-then (acts-chain P) (release shape p.root) nothing (release-acts P shape p.root)
      (keeps-give (acts-chain P) tt)))

  pub release_parts-acts : (shape : Shape) (ps : List Part) → Keeps (Acts P) (release_parts shape ps)
  release_parts-acts shape [] = keeps-give (acts-chain P) tt
  release_parts-acts shape (p ∷ ps) =
      keeps-then (acts-chain P) (release_part shape p) (release_parts shape ps) (release_part-acts shape p)
      (release_parts-acts shape ps)

  -- ---- Composites.

  pub copied_to-acts : (shape : Shape) (c : Composite) (new : Result New Reply) → Keeps (Acts P) (copied_to shape c new)
  copied_to-acts shape c (Err reply) = keeps-give (acts-chain P) (Err reply)
  copied_to-acts shape c (Ok new) =
      keeps-then (acts-chain P) (copy_parts new.root 0 (filled c.parts))
      (release_parts shape c.parts >> give (Ok (moved_to new.root c))) (copy_parts-acts new.root 0 (filled c.parts))
      (keeps-then (acts-chain P) (release_parts shape c.parts) (give (Ok (moved_to new.root c)))
      (release_parts-acts shape c.parts) (keeps-give (acts-chain P) (Ok (moved_to new.root c))))

  pub consolidate-acts : (shape : Shape) (lane : ℕ) (c : Composite) → Keeps (Acts P) (consolidate shape lane c)
  consolidate-acts shape lane c =
      keeps-if (acts-chain P) (is_crowded c) (allot shape lane (size_of c.parts) >>= copied_to shape c) (give (Ok c))
      (keeps-bind (acts-chain P) (allot shape lane (size_of c.parts)) (copied_to shape c)
      (allot-acts P shape lane (size_of c.parts)) (copied_to-acts shape c))
      (keeps-give (acts-chain P) (Ok c))

  -- ---- Commands.

  -- after quiet notes, an answer
  pub then-answer : {A : Type 0} (r : Reader A) (f : A → Answer) → Keeps (Acts P) r
      → Keeps (Acts P) (r >>= (λ a. give (f a)))
  then-answer r f h = keeps-bind (acts-chain P) r (λ a. give (f a)) h (λ a. keeps-give (acts-chain P) (f a))

  pub retain_one-acts : (root : RootId) → Keeps (Acts P) (step root says.retain)
  retain_one-acts root = step-acts P root says.retain still
    where
      still : (d : RefDid) (u : Unit {0}) → says.retain d ≡ Some u → IsStep d
      still RefDid.Retain u e = tt
      still _ u e = absurd (cc e)

  pub look-acts : (root : RootId) → Keeps (Acts P) (step root says.look)
  look-acts root = step-acts P root says.look still
    where
      still : (d : RefDid) (k : ℕ) → says.look d ≡ Some k → IsStep d
      still (RefDid.Look k) u e = tt
      still _ u e = absurd (cc e)

  pub touch-acts : (root : RootId) → Keeps (Acts P) (access root says.touch)
  touch-acts root = access-acts P root says.touch still
    where
      still : (d : Did) (u : Unit {0}) → says.touch d ≡ Some u → IsStill P (Object.Root root.place) d
      still Did.Touch u e = tt
      still _ u e = absurd (cc e)

  pub fetch-acts : (o : Object) → Keeps (Acts P) (note o says.fetch)
  fetch-acts o = note-acts P o says.fetch still
    where
      still : (d : Did) (q : Parcel) → says.fetch d ≡ Some q → IsStill P o d
      still (Did.Fetch other) q e = tt
      still _ q e = absurd (cc e)

  pub post-acts : (o : Object) (parcel : Parcel) → ((other : Parcel) → P o (Did.Post other))
      → Keeps (Acts P) (note o (says.post parcel))
  post-acts o parcel near = note-acts P o (says.post parcel) still
    where
      still : (d : Did) (u : Unit {0}) → says.post parcel d ≡ Some u → IsStill P o d
      still (Did.Post other) u e = near other
      still _ u e = absurd (cc e)

  pub set_at-acts : (s : LaneState) (i : ℕ) (bytes : List ℕ) (b : Bound) → Keeps (Acts P) (set_at s i bytes b)
  set_at-acts s i bytes b =
      then-answer (set_parts (parts_at b i (length bytes)) bytes) (λ _. answer Reply.Ok s.names)
      (set_parts-acts (parts_at b i (length bytes)) bytes)

  pub get_at-acts : (s : LaneState) (i n : ℕ) (b : Bound) → Keeps (Acts P) (get_at s i n b)
  get_at-acts s i n b =
      then-answer (get_parts (parts_at b i n)) (λ bytes. answer (Reply.OkBytes bytes) s.names)
      (get_parts-acts (parts_at b i n))

  pub busy_or-acts : (s : LaneState) (v : ViewData) (r : Reader Answer) → Keeps (Acts P) r
      → Keeps (Acts P) (busy_or s v r)
  busy_or-acts s v r h =
      keeps-or (acts-chain P)
      (busy (Object.Root v.root.place) >>= (λ number. give (answer (Reply.Busy number) s.names))) r
      (then-answer (busy (Object.Root v.root.place)) (λ number. answer (Reply.Busy number) s.names)
      (busy-acts P (Object.Root v.root.place))) h

  pub retain_of-acts : (s : LaneState) (name : ℕ) (b : Bound) → Keeps (Acts P) (retain_of s name b)
  retain_of-acts s name (Plain v) =
      then-answer (step v.root says.retain) (λ _. answer Reply.Ok s.names) (retain_one-acts v.root)
  retain_of-acts s name (Composed c) =
      keeps-give (acts-chain P) (answer Reply.Ok (bind name (Composed (record c { count = c.count + 1 })) s.names))

  pub release_of-acts : (shape : Shape) (s : LaneState) (name : ℕ) (b : Bound)
      → Keeps (Acts P) (release_of shape s name b)
  release_of-acts shape s name (Plain v) =
      then-answer (release shape v.root) (λ reply. answer reply s.names) (release-acts P shape v.root)
  release_of-acts shape s name (Composed c) =
      keeps-if (acts-chain P) (c.count == 1) _ _
      (then-answer (release_parts shape c.parts) (λ _. answer Reply.Freed _) (release_parts-acts shape c.parts))
      (keeps-give (acts-chain P) (answer Reply.Kept _))

  pub count_in-acts : (s : LaneState) (b : Bound) → Keeps (Acts P) (count_in s b)
  count_in-acts s (Plain v) =
      then-answer (step v.root says.look) (λ k. answer (Reply.OkNumber k) s.names) (look-acts v.root)
  count_in-acts s (Composed c) = keeps-give (acts-chain P) (answer (Reply.OkNumber c.count) s.names)

  pub retained-acts : (retained : Bool) (root : RootId)
      → Keeps (Acts P) (if retained then step root says.retain else nothing)
  retained-acts retained root =
      keeps-if (acts-chain P) retained (step root says.retain) nothing (retain_one-acts root)
      (keeps-give (acts-chain P) tt)

  -- a command may send to its lane
  abbrev pub Sends : Command → Type 0
  Sends (Command.Send name to) = (lane : ℕ) (parcel : Parcel) → P (Object.Mail lane to) (Did.Post parcel)
  Sends _ = Unit {0}

  -- what is there, and then what is done with it
  pub given-acts : {A : Type 0} (o : Option A) (f : A → Reader Answer) → ((a : A) → Keeps (Acts P) (f a))
      → Keeps (Acts P) (given o >>= f)
  given-acts o f h = keeps-bind (acts-chain P) (given o) f (keeps-given (acts-chain P) o) h

  -- what each command notes are acts
  pub carried_out-acts : (shape : Shape) (lane : ℕ) (s : LaneState) (c : Command) → Sends c
      → Keeps (Acts P) (carried_out shape lane s c)
  carried_out-acts shape lane s (Command.Alloc name size) near =
      then-answer (allot shape lane size) (λ got. allotted s name got) (allot-acts P shape lane size)
  carried_out-acts shape lane s (Command.Set name at bytes false) near =
      given-acts (named s name) (set_at s at bytes) (set_at-acts s at bytes)
  carried_out-acts shape lane s (Command.Set name at bytes true) near =
      given-acts (view_named s name) _
      (λ v. busy_or-acts s v (set_at s at bytes (Plain v)) (set_at-acts s at bytes (Plain v)))
  carried_out-acts shape lane s (Command.Get name at len false) near =
      given-acts (named s name) (get_at s at len) (get_at-acts s at len)
  carried_out-acts shape lane s (Command.Get name at len true) near =
      given-acts (view_named s name) _
      (λ v. busy_or-acts s v (get_at s at len (Plain v)) (get_at-acts s at len (Plain v)))
  carried_out-acts shape lane s (Command.Write name bytes) near =
      given-acts (named s name) _
      (λ b. then-answer (set_parts (parts_at b (writer_of b) (length bytes)) bytes)
      (λ _. answer Reply.Ok (bind name (written_on (length bytes) b) s.names))
      (set_parts-acts (parts_at b (writer_of b) (length bytes)) bytes))
  carried_out-acts shape lane s (Command.Read name len) near =
      given-acts (named s name) _
      (λ b. then-answer (get_parts (parts_at b (reader_of b) len))
      (λ bytes. answer (Reply.OkBytes bytes) (bind name (read_on len b) s.names))
      (get_parts-acts (parts_at b (reader_of b) len)))
  carried_out-acts shape lane s (Command.Slice fresh name at len retained) near =
      given-acts (view_named s name) _
      (λ v. then-answer (if retained then step v.root says.retain else nothing) _ (retained-acts retained v.root))
  carried_out-acts shape lane s (Command.Dup fresh name) near =
      given-acts (view_named s name) _ (λ v. keeps-give (acts-chain P) _)
  carried_out-acts shape lane s (Command.Retain name) near =
      given-acts (named s name) (retain_of s name) (retain_of-acts s name)
  carried_out-acts shape lane s (Command.Release name) near =
      given-acts (named s name) (release_of shape s name) (release_of-acts shape s name)
  carried_out-acts shape lane s (Command.Refcnt name) near = given-acts (named s name) (count_in s) (count_in-acts s)
  carried_out-acts shape lane s (Command.Touch name) near =
      given-acts (view_named s name) _
      (λ v. then-answer (access v.root says.touch) (λ _. answer Reply.Ok s.names) (touch-acts v.root))
  carried_out-acts shape lane s (Command.Forget name) near =
      keeps-give (acts-chain P) (answer Reply.Ok (without name s.names))
  carried_out-acts shape lane s (Command.Send name to) near =
      given-acts (view_named s name) _
      (λ v. then-answer (note (Object.Mail lane to) (says.post (parcel_of v))) (λ _. answer Reply.Ok s.names)
      (post-acts (Object.Mail lane to) (parcel_of v) (near lane)))
  carried_out-acts shape lane s (Command.Recv fresh from) near =
      then-answer (note (Object.Mail from lane) says.fetch) (λ parcel. received s fresh parcel.view)
      (fetch-acts (Object.Mail from lane))
  carried_out-acts shape lane s (Command.Compose fresh names) near =
      given-acts (composite_from s names) _
      (λ c. then-answer (consolidate shape lane c) (λ made. composed s fresh made) (consolidate-acts shape lane c))
  carried_out-acts shape lane s (Command.Add whole name) near =
      given-acts (composite_with s whole name) _
      (λ c. then-answer (consolidate shape lane c) (λ made. composed s whole made) (consolidate-acts shape lane c))
  carried_out-acts shape lane s (Command.Capacity name size) near =
      given-acts (view_named s name) _
      (λ v. then-answer (regrow shape lane v.root size) (λ got. regrown s name v got)
      (regrow-acts P shape lane v.root size))

  pub not_carried_out-acts : (lane : ℕ) (c : Command) → Sends c → Keeps (Acts P) (not_carried_out lane c)
  not_carried_out-acts lane (Command.Send name to) near = post-acts (Object.Mail lane to) no_parcel (near lane)
  not_carried_out-acts lane _ near = keeps-give (acts-chain P) tt

  pub answer_of-acts : (shape : Shape) (lane : ℕ) (s : LaneState) (c : Command) → Sends c
      → Keeps (Acts P) (answer_of shape lane s c)
  answer_of-acts shape lane s c near = by (first_refusal (refusals shape s c))
    where
      by : (o : Option Reply) → Keeps (Acts P) (answer_by shape lane s c o)
      by None = carried_out-acts shape lane s c near
      by (Some reply) =
          then-answer (not_carried_out lane c) (λ _. answer reply s.names) (not_carried_out-acts lane c near)
