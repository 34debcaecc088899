-- What each command of a lane notes is lawful.
use Rattle.std.proofs.Common.{ℕ, ◌+◌, List, [], ◌∷◌, ◌++◌, length, take, drop, Bool, true, false, Option, Some, None, Ok, Err, refl}
use Rattle.std.specs.Prelude.{◌==◌, if◌then◌else◌, Result}
use Rattle.size_classes.specs.Sizes.{class_count}
use Rattle.pool_law.specs.declared.command.Command.{Command}
use Rattle.pool_law.specs.declared.id.Parcel.{Parcel}
use Rattle.pool_law.specs.declared.id.Part.{Part}
use Rattle.pool_law.specs.declared.id.RootId.{RootId}
use Rattle.pool_law.specs.declared.id.ViewData.{ViewData}
use Rattle.pool_law.specs.declared.note.Object.{Object}
use Rattle.pool_law.specs.declared.run.Reply.{Reply}
use Rattle.pool_law.specs.declared.run.Shape.{Shape}
use Rattle.pool_law.specs.Composites.{Composite, filled, is_crowded, moved_to, size_of}
use Rattle.pool_law.specs.Dids as says
use Rattle.pool_law.specs.LaneStates.{LaneState, composite_from, composite_with, named, view_named}
use Rattle.pool_law.specs.Lanes.{Answer, allotted, answer, answer_by, answer_of, busy_or, carried_out, composed, consolidate, copied_to, copy_parts, count_in, get_at, get_parts, no_parcel, not_carried_out, parcel_of, received, regrown, release_of, release_part, release_parts, retain_of, set_at, set_parts}
use Rattle.pool_law.specs.Limits.{geometry_of}
use Rattle.pool_law.specs.Names.{Bound, Composed, Plain, bind, parts_at, read_on, reader_of, without, writer_of, written_on}
use Rattle.pool_law.specs.Patterns.{New, allot, regrow, release}
use Rattle.pool_law.specs.Readers.{Reader, ◌>>=◌, ◌>>◌, access, busy, count, give, given, note, nothing, step}
use Rattle.pool_law.specs.Refusals.{first_refusal, refusals}
use Rattle.run_laws.proofs.Keeping.{Chains, Keeps, keeps-bind, keeps-count, keeps-give, keeps-given, keeps-if, keeps-or, keeps-then}
use Rattle.text_laws.proofs.Lawful.{Lawful, access-lawful, busy-lawful, lawful-chain, note-lawful, step-lawful}
use Rattle.text_laws.proofs.LawfulRoots.{allot-lawful, regrow-lawful, release-lawful}

module _ (shape : Shape) where
  abbrev classes : ℕ
  classes = class_count (geometry_of shape)

  abbrev Keep : {A : Type 0} → Reader A → Type 0
  Keep r = Keeps (Lawful (class_count (geometry_of shape))) r

  abbrev chain : Chains (Lawful (class_count (geometry_of shape)))
  chain = lawful-chain (class_count (geometry_of shape))

  set_one-lawful : (root : RootId) (at : ℕ) (bytes : List ℕ) → Keep (access root (says.set at bytes))
  set_one-lawful root at bytes = access-lawful classes root (says.set at bytes) (λ k r. refl) (λ r why. refl)

  get_one-lawful : (root : RootId) (at len : ℕ) → Keep (access root (says.get at len))
  get_one-lawful root at len = access-lawful classes root (says.get at len) (λ k r. refl) (λ r why. refl)

  set_parts-lawful : (ps : List Part) (bytes : List ℕ) → Keep (set_parts ps bytes)
  set_parts-lawful [] bytes = keeps-give chain tt
  set_parts-lawful (p ∷ ps) bytes =
      keeps-then chain (access p.root (says.set p.offset (take p.len bytes))) (set_parts ps (drop p.len bytes))
      (set_one-lawful p.root p.offset (take p.len bytes)) (set_parts-lawful ps (drop p.len bytes))

  get_parts-lawful : (ps : List Part) → Keep (get_parts ps)
  get_parts-lawful [] = keeps-give chain []
  get_parts-lawful (p ∷ ps) =
      keeps-bind chain (access p.root (says.get p.offset p.len))
      (λ first. get_parts ps >>= (λ rest. give (first ++ rest))) (get_one-lawful p.root p.offset p.len)
      (λ first. keeps-bind chain (get_parts ps) (λ rest. give (first ++ rest)) (get_parts-lawful ps)
      (λ rest. keeps-give chain (first ++ rest)))

  copy_parts-lawful : (root : RootId) (at : ℕ) (ps : List Part) → Keep (copy_parts root at ps)
  copy_parts-lawful root at [] = keeps-give chain tt
  copy_parts-lawful root at (p ∷ ps) =
      keeps-bind chain (access p.root (says.get p.offset p.len))
      (λ bytes. access root (says.set at bytes) >> copy_parts root (at + p.len) ps)
      (get_one-lawful p.root p.offset p.len)
      (λ bytes. keeps-then chain (access root (says.set at bytes)) (copy_parts root (at + p.len) ps)
      (set_one-lawful root at bytes) (copy_parts-lawful root (at + p.len) ps))

  release_part-lawful : (p : Part) → Keep (release_part shape p)
  release_part-lawful p =
      keeps-bind chain (count p.root) (λ k. if k == 0 then nothing else (release shape p.root >> nothing))
      (keeps-count chain p.root)
      (λ k. keeps-if chain (k == 0) nothing (release shape p.root >> nothing) (keeps-give chain tt)
      (keeps-then chain (release shape p.root) nothing (release-lawful shape p.root)
      (keeps-give chain tt)))

  release_parts-lawful : (ps : List Part) → Keep (release_parts shape ps)
  release_parts-lawful [] = keeps-give chain tt
  release_parts-lawful (p ∷ ps) =
      keeps-then chain (release_part shape p) (release_parts shape ps) (release_part-lawful p)
      (release_parts-lawful ps)

  -- ---- Composites.

  copied_to-lawful : (c : Composite) (new : Result New Reply) → Keep (copied_to shape c new)
  copied_to-lawful c (Err reply) = keeps-give chain (Err reply)
  copied_to-lawful c (Ok new) =
      keeps-then chain (copy_parts new.root 0 (filled c.parts))
      (release_parts shape c.parts >> give (Ok (moved_to new.root c))) (copy_parts-lawful new.root 0 (filled c.parts))
      (keeps-then chain (release_parts shape c.parts) (give (Ok (moved_to new.root c)))
      (release_parts-lawful c.parts) (keeps-give chain (Ok (moved_to new.root c))))

  consolidate-lawful : (lane : ℕ) (c : Composite) → Keep (consolidate shape lane c)
  consolidate-lawful lane c =
      keeps-if chain (is_crowded c) (allot shape lane (size_of c.parts) >>= copied_to shape c) (give (Ok c))
      (keeps-bind chain (allot shape lane (size_of c.parts)) (copied_to shape c)
      (allot-lawful shape lane (size_of c.parts)) (copied_to-lawful c))
      (keeps-give chain (Ok c))

  -- ---- Commands.

  -- after these notes, an answer
  then-answer : {A : Type 0} (r : Reader A) (f : A → Answer) → Keep r
      → Keep (r >>= (λ a. give (f a)))
  then-answer r f h = keeps-bind chain r (λ a. give (f a)) h (λ a. keeps-give chain (f a))

  post-lawful : (o : Object) (parcel : Parcel) → Keep (note o (says.post parcel))
  post-lawful o parcel = note-lawful classes o (says.post parcel) (λ k r. refl) (λ r why. refl)

  set_at-lawful : (s : LaneState) (i : ℕ) (bytes : List ℕ) (b : Bound) → Keep (set_at s i bytes b)
  set_at-lawful s i bytes b =
      then-answer (set_parts (parts_at b i (length bytes)) bytes) (λ _. answer Reply.Ok s.names)
      (set_parts-lawful (parts_at b i (length bytes)) bytes)

  get_at-lawful : (s : LaneState) (i n : ℕ) (b : Bound) → Keep (get_at s i n b)
  get_at-lawful s i n b =
      then-answer (get_parts (parts_at b i n)) (λ bytes. answer (Reply.OkBytes bytes) s.names)
      (get_parts-lawful (parts_at b i n))

  busy_or-lawful : (s : LaneState) (v : ViewData) (r : Reader Answer) → Keep r
      → Keep (busy_or s v r)
  busy_or-lawful s v r h =
      keeps-or chain
      (busy (Object.Root v.root.place) >>= (λ number. give (answer (Reply.Busy number) s.names))) r
      (then-answer (busy (Object.Root v.root.place)) (λ number. answer (Reply.Busy number) s.names)
      (busy-lawful classes (Object.Root v.root.place))) h

  retain_of-lawful : (s : LaneState) (name : ℕ) (b : Bound) → Keep (retain_of s name b)
  retain_of-lawful s name (Plain v) =
      then-answer (step v.root says.retain) (λ _. answer Reply.Ok s.names) (step-lawful classes v.root says.retain)
  retain_of-lawful s name (Composed c) =
      keeps-give chain (answer Reply.Ok (bind name (Composed (record c { count = c.count + 1 })) s.names))

  release_of-lawful : (s : LaneState) (name : ℕ) (b : Bound)
      → Keep (release_of shape s name b)
  release_of-lawful s name (Plain v) =
      then-answer (release shape v.root) (λ reply. answer reply s.names) (release-lawful shape v.root)
  release_of-lawful s name (Composed c) =
      keeps-if chain (c.count == 1) _ _
      (then-answer (release_parts shape c.parts) (λ _. answer Reply.Freed _) (release_parts-lawful c.parts))
      (keeps-give chain (answer Reply.Kept _))

  count_in-lawful : (s : LaneState) (b : Bound) → Keep (count_in s b)
  count_in-lawful s (Plain v) =
      then-answer (step v.root says.look) (λ k. answer (Reply.OkNumber k) s.names)
      (step-lawful classes v.root says.look)
  count_in-lawful s (Composed c) = keeps-give chain (answer (Reply.OkNumber c.count) s.names)

  retained-lawful : (retained : Bool) (root : RootId)
      → Keep (if retained then step root says.retain else nothing)
  retained-lawful retained root =
      keeps-if chain retained (step root says.retain) nothing (step-lawful classes root says.retain)
      (keeps-give chain tt)

  -- what is there, and then what is done with it
  then-done : {A : Type 0} (o : Option A) (f : A → Reader Answer) → ((a : A) → Keep (f a))
      → Keep (given o >>= f)
  then-done o f h = keeps-bind chain (given o) f (keeps-given chain o) h

  -- what each command notes
  carried_out-lawful : (lane : ℕ) (s : LaneState) (c : Command)
      → Keep (carried_out shape lane s c)
  carried_out-lawful lane s (Command.Alloc name size) =
      then-answer (allot shape lane size) (λ got. allotted s name got) (allot-lawful shape lane size)
  carried_out-lawful lane s (Command.Set name at bytes false) =
      then-done (named s name) (set_at s at bytes) (set_at-lawful s at bytes)
  carried_out-lawful lane s (Command.Set name at bytes true) =
      then-done (view_named s name) _
      (λ v. busy_or-lawful s v (set_at s at bytes (Plain v)) (set_at-lawful s at bytes (Plain v)))
  carried_out-lawful lane s (Command.Get name at len false) =
      then-done (named s name) (get_at s at len) (get_at-lawful s at len)
  carried_out-lawful lane s (Command.Get name at len true) =
      then-done (view_named s name) _
      (λ v. busy_or-lawful s v (get_at s at len (Plain v)) (get_at-lawful s at len (Plain v)))
  carried_out-lawful lane s (Command.Write name bytes) =
      then-done (named s name) _
      (λ b. then-answer (set_parts (parts_at b (writer_of b) (length bytes)) bytes)
      (λ _. answer Reply.Ok (bind name (written_on (length bytes) b) s.names))
      (set_parts-lawful (parts_at b (writer_of b) (length bytes)) bytes))
  carried_out-lawful lane s (Command.Read name len) =
      then-done (named s name) _
      (λ b. then-answer (get_parts (parts_at b (reader_of b) len))
      (λ bytes. answer (Reply.OkBytes bytes) (bind name (read_on len b) s.names))
      (get_parts-lawful (parts_at b (reader_of b) len)))
  carried_out-lawful lane s (Command.Slice fresh name at len retained) =
      then-done (view_named s name) _
      (λ v. then-answer (if retained then step v.root says.retain else nothing) _ (retained-lawful retained v.root))
  carried_out-lawful lane s (Command.Dup fresh name) =
      then-done (view_named s name) _ (λ v. keeps-give chain _)
  carried_out-lawful lane s (Command.Retain name) =
      then-done (named s name) (retain_of s name) (retain_of-lawful s name)
  carried_out-lawful lane s (Command.Release name) =
      then-done (named s name) (release_of shape s name) (release_of-lawful s name)
  carried_out-lawful lane s (Command.Refcnt name) = then-done (named s name) (count_in s) (count_in-lawful s)
  carried_out-lawful lane s (Command.Touch name) =
      then-done (view_named s name) _
      (λ v. then-answer (access v.root says.touch) (λ _. answer Reply.Ok s.names)
      (access-lawful classes v.root says.touch (λ k r. refl) (λ r why. refl)))
  carried_out-lawful lane s (Command.Forget name) =
      keeps-give chain (answer Reply.Ok (without name s.names))
  carried_out-lawful lane s (Command.Send name to) =
      then-done (view_named s name) _
      (λ v. then-answer (note (Object.Mail lane to) (says.post (parcel_of v))) (λ _. answer Reply.Ok s.names)
      (post-lawful (Object.Mail lane to) (parcel_of v)))
  carried_out-lawful lane s (Command.Recv fresh from) =
      then-answer (note (Object.Mail from lane) says.fetch) (λ parcel. received s fresh parcel.view)
      (note-lawful classes (Object.Mail from lane) says.fetch (λ k r. refl) (λ r why. refl))
  carried_out-lawful lane s (Command.Compose fresh names) =
      then-done (composite_from s names) _
      (λ c. then-answer (consolidate shape lane c) (λ made. composed s fresh made) (consolidate-lawful lane c))
  carried_out-lawful lane s (Command.Add whole name) =
      then-done (composite_with s whole name) _
      (λ c. then-answer (consolidate shape lane c) (λ made. composed s whole made) (consolidate-lawful lane c))
  carried_out-lawful lane s (Command.Capacity name size) =
      then-done (view_named s name) _
      (λ v. then-answer (regrow shape lane v.root size) (λ got. regrown s name v got)
      (regrow-lawful shape lane v.root size))

  pub not_carried_out-lawful : (lane : ℕ) (c : Command) → Keep (not_carried_out lane c)
  not_carried_out-lawful lane (Command.Send name to) = post-lawful (Object.Mail lane to) no_parcel
  not_carried_out-lawful lane _ = keeps-give chain tt

  pub answer_of-lawful : (lane : ℕ) (s : LaneState) (c : Command)
      → Keep (answer_of shape lane s c)
  answer_of-lawful lane s c = by (first_refusal (refusals shape s c))
    where
      by : (o : Option Reply) → Keep (answer_by shape lane s c o)
      by None = carried_out-lawful lane s c
      by (Some reply) =
          then-answer (not_carried_out lane c) (λ _. answer reply s.names) (not_carried_out-lawful lane c)
