-- Reads alone are answered with bytes, and a read that is not refused lies in what its name is bound to.
use Rattle.std.proofs.Common.{⊎_elim, ◌≡◌, ℕ, ◌-◌, List, [], ◌∷◌, ◌++◌, length, subst, Bool, true, false, Some, None, Ok, Err}
use Rattle.std.specs.Prelude.{◌==◌, not, nat_le, map, if◌then◌else◌, Option, Result}
use Rattle.std.proofs.lemmas.Bool.{cond_both}
use Rattle.pool_law.specs.declared.id.ViewData.{ViewData}
use Rattle.pool_law.specs.declared.id.RootId.{RootId}
use Rattle.pool_law.specs.declared.id.RegionId.{RegionId}
use Rattle.pool_law.specs.declared.command.Command.{Command}
use Rattle.pool_law.specs.declared.note.Object.{Object}
use Rattle.pool_law.specs.declared.run.Shape.{Shape}
use Rattle.pool_law.specs.declared.run.Reply.{Reply}
use Rattle.size_classes.specs.Sizes.{class_of}
use Rattle.pool_law.specs.Limits.{geometry_of}
use Rattle.pool_law.specs.Options.{check}
use Rattle.pool_law.specs.Dids as says
use Rattle.pool_law.specs.Readers.{Log, give, given, note, step, busy, access, ◌>>=◌, ◌>>◌, nothing}
use Rattle.pool_law.specs.Composites.{Composite, size_of, filled, is_crowded, moved_to}
use Rattle.pool_law.specs.Names.{Bound, Plain, Composed, Names, bind, passes, writer_of, parts_at}
use Rattle.pool_law.specs.LaneStates.{LaneState, named, view_named, composite_from, composite_with}
use Rattle.pool_law.specs.Refusals.{Refusal, first_refusal, unbound, taken, composite, illegal, too_long, refusals}
use Rattle.pool_law.specs.Patterns.{New, obtain, one_more, bear, with_handle, allot, put_away, end_of, release, found_room, grown, grow_with, regrow}
use Rattle.pool_law.specs.Lanes.{Answer, answer, parcel_of, set_parts, copy_parts, release_parts, copied_to, consolidate, composed, allotted, regrown, received, set_at, retain_of, release_of, count_in, carried_out}
use Rattle.arena_laws.specs.Slots.{EachOf}
use Rattle.run_laws.proofs.Readings.{bind-some, or-some}

-- a reply without bytes
abbrev pub NoBytes : Reply → Type 0
NoBytes (Reply.OkBytes bytes) = ⊥
NoBytes _ = Unit {0}

-- ---- Refusals.

abbrev pub Refuses : Refusal → Type 0
Refuses r = NoBytes r.reply

pub first-refuses : (rs : List Refusal) (reply : Reply) → EachOf Refuses rs → first_refusal rs ≡ Some reply
    → NoBytes reply
first-refuses [] reply h e = absurd (cc e)
first-refuses (r ∷ rs) reply h e =
    cond_both r.comes (Some r.reply) (first_refusal rs) (λ z. z ≡ Some reply → NoBytes reply)
    (λ _ is. let same : r.reply ≡ reply = cc is in subst NoBytes same h.0)
    (λ _ is. first-refuses rs reply h.1 is)
    e

-- where none comes, the first doesn't
pub none-comes : (r : Refusal) (rs : List Refusal) → first_refusal (r ∷ rs) ≡ None
    → (r.comes ≡ false) × (first_refusal rs ≡ None)
none-comes r rs = go r.comes
  where
    go : (b : Bool) → (if b then Some r.reply else first_refusal rs) ≡ None → (b ≡ false) × (first_refusal rs ≡ None)
    go true e = absurd (cc e)
    go false e = (λ _. false, e)

-- what is bound passes the test that it does not fail
pub passes-it : (test : Bound → Bool) (o : Option Bound) (b : Bound) → passes (λ x. not (test x)) o ≡ false → o ≡ Some b
    → test b ≡ true
passes-it test o b e is = go (test b) (subst (λ q. passes (λ x. not (test x)) q ≡ false) is e)
  where
    go : (t : Bool) → not t ≡ false → t ≡ true
    go true e = λ _. true
    go false e = absurd (cc e)

each-map : (f : ℕ → Refusal) → ((n : ℕ) → Refuses (f n)) → (ns : List ℕ) → EachOf Refuses (map f ns)
each-map f h [] = tt
each-map f h (n ∷ ns) = (h n, each-map f h ns)

each-append : (xs ys : List Refusal) → EachOf Refuses xs → EachOf Refuses ys → EachOf Refuses (xs ++ ys)
each-append [] ys a b = b
each-append (x ∷ xs) ys a b = (a.0, each-append xs ys a.1 b)

-- no refusal has bytes
pub refusals-quiet : (shape : Shape) (s : LaneState) (c : Command) → EachOf Refuses (refusals shape s c)
refusals-quiet shape s (Command.Alloc new n) = (tt, (tt, tt))
refusals-quiet shape s (Command.Set v i bytes false) = (tt, (tt, (tt, tt)))
refusals-quiet shape s (Command.Set v i bytes true) = (tt, (tt, (tt, (tt, tt))))
refusals-quiet shape s (Command.Get v i n false) = (tt, (tt, (tt, tt)))
refusals-quiet shape s (Command.Get v i n true) = (tt, (tt, (tt, (tt, tt))))
refusals-quiet shape s (Command.Write v bytes) = (tt, (tt, (tt, tt)))
refusals-quiet shape s (Command.Read v n) = (tt, (tt, (tt, tt)))
refusals-quiet shape s (Command.Slice new v i n retained) = (tt, (tt, (tt, (tt, (tt, tt)))))
refusals-quiet shape s (Command.Dup new v) = (tt, (tt, (tt, (tt, tt))))
refusals-quiet shape s (Command.Retain v) = (tt, (tt, tt))
refusals-quiet shape s (Command.Release v) = (tt, (tt, tt))
refusals-quiet shape s (Command.Refcnt v) = (tt, (tt, tt))
refusals-quiet shape s (Command.Touch v) = (tt, (tt, (tt, tt)))
refusals-quiet shape s (Command.Forget v) = (tt, tt)
refusals-quiet shape s (Command.Send v to) = (tt, (tt, (tt, tt)))
refusals-quiet shape s (Command.Recv new sender) = tt
refusals-quiet shape s (Command.Compose new vs) =
    let first : List Refusal = map (unbound s) vs ++ (taken s new ∷ map (composite s) vs) in
    each-append (first ++ map (illegal s) vs) (too_long shape (composite_from s vs) ∷ [])
    (each-append first (map (illegal s) vs)
    (each-append (map (unbound s) vs) (taken s new ∷ map (composite s) vs) (each-map (unbound s) (λ n. tt) vs)
    (tt, each-map (composite s) (λ n. tt) vs)) (each-map (illegal s) (λ n. tt) vs))
    (tt, tt)
refusals-quiet shape s (Command.Add c v) = (tt, (tt, (tt, (tt, (tt, (tt, (tt, tt)))))))
refusals-quiet shape s (Command.Capacity v n) = (tt, (tt, (tt, (tt, tt))))

-- ---- Answers.

quiet-give : (reply : Reply) (names : Names) (log : Log) (p : Answer × Log) → NoBytes reply
    → give (answer reply names) log ≡ Some p → NoBytes p.0.reply
quiet-give reply names log p quiet is =
    let same : ◌≡◌ {A = Answer × Log} (answer reply names, log) p = cc is in subst (λ q. NoBytes q.0.reply) same quiet

-- a result, if it is a refusal, has no bytes
abbrev pub QuietErr : {A : Type 0} → Result A Reply → Type 0
QuietErr (Ok a) = Unit {0}
QuietErr (Err reply) = NoBytes reply

result-give : {A : Type 0} (r : Result A Reply) (log : Log) (p : Result A Reply × Log) → QuietErr r
    → give r log ≡ Some p → QuietErr p.0
result-give {A} r log p quiet is =
    let same : ◌≡◌ {A = Result A Reply × Log} (r, log) p = cc is in subst (λ q. QuietErr q.0) same quiet

bear-quiet : (lane place size : ℕ) (o : Option RegionId) (log : Log) (p : Result New Reply × Log)
    → bear lane place size o log ≡ Some p → QuietErr p.0
bear-quiet lane place size None log p is =
    let x = bind-some (note (Object.Bin lane) (says.home place) log) _ p is in
    result-give (Err Reply.Full) x.0.1 p tt x.2
bear-quiet lane place size (Some region) log p is =
    let x = bind-some (note (Object.Root place) (says.birth place size (one_more region)) log) _ p is in
    let y = bind-some (step x.0.0 says.born x.0.1) _ p x.2 in
    result-give (Ok _) y.0.1 p tt y.2

allot-quiet : (shape : Shape) (lane size : ℕ) (log : Log) (p : Result New Reply × Log)
    → allot shape lane size log ≡ Some p → QuietErr p.0
allot-quiet shape lane size log p is =
    ⊎_elim
    (λ e. let x = bind-some (note (Object.Bin lane) says.no_handle log) _ p e in
    result-give (Err Reply.Handles) x.0.1 p tt x.2)
    (λ e.
    let x = bind-some (note (Object.Bin lane) says.handle log) _ p e in
    let y = bind-some (given (class_of (geometry_of shape) size) x.0.1) _ p x.2 in
    let z = bind-some (obtain shape lane y.0.0 y.0.1) _ p y.2 in
    bear-quiet lane x.0.0 size z.0.0 z.0.1 p z.2)
    (or-some ((note (Object.Bin lane) says.no_handle >> give (Err Reply.Handles)) log)
    ((note (Object.Bin lane) says.handle >>= with_handle shape lane size) log) p is)

grow_with-quiet : (root : RootId) (size : ℕ) (o : Option RegionId) (log : Log) (p : Result ℕ Reply × Log)
    → grow_with root size o log ≡ Some p → QuietErr p.0
grow_with-quiet root size None log p is = result-give (Err Reply.Full) log p tt is
grow_with-quiet root size (Some region) log p is =
    let x = bind-some (grown root size region log) _ p is in
    let y = bind-some (given (check (nat_le size x.0.0.capacity)) x.0.1) _ p x.2 in
    let z = bind-some (put_away x.0.0.spare y.0.1) _ p y.2 in
    result-give (Ok x.0.0.capacity) z.0.1 p tt z.2

regrow-quiet : (shape : Shape) (lane : ℕ) (root : RootId) (size : ℕ) (log : Log) (p : Result ℕ Reply × Log)
    → regrow shape lane root size log ≡ Some p → QuietErr p.0
regrow-quiet shape lane root size log p is =
    let x = bind-some (found_room root size log) _ p is in
    let y = bind-some (given (class_of (geometry_of shape) size) x.0.1) _ p x.2 in
    cond_both (nat_le size x.0.0) (give (Ok x.0.0)) (obtain shape lane y.0.0 >>= grow_with root size)
    (λ r. r y.0.1 ≡ Some p → QuietErr p.0)
    (λ _ e. result-give (Ok x.0.0) y.0.1 p tt e)
    (λ _ e. let z = bind-some (obtain shape lane y.0.0 y.0.1) _ p e in
    grow_with-quiet root size z.0.0 z.0.1 p z.2) y.2

regrown-quiet : (s : LaneState) (name : ℕ) (v : ViewData) (r : Result ℕ Reply) (log : Log) (p : Answer × Log)
    → QuietErr r → give (regrown s name v r) log ≡ Some p → NoBytes p.0.reply
regrown-quiet s name v (Err reply) log p quiet is = quiet-give reply s.names log p quiet is
regrown-quiet s name v (Ok capacity) log p quiet is = quiet-give (Reply.OkNumber capacity) _ log p tt is

copied-quiet : (shape : Shape) (c : Composite) (r : Result New Reply) → QuietErr r
    → (log : Log) (p : Result Composite Reply × Log) → copied_to shape c r log ≡ Some p → QuietErr p.0
copied-quiet shape c (Err reply) quiet log p is = result-give (Err reply) log p quiet is
copied-quiet shape c (Ok new) quiet log p is =
    let x = bind-some (copy_parts new.root 0 (filled c.parts) log) _ p is in
    let y = bind-some (release_parts shape c.parts x.0.1) _ p x.2 in
    result-give (Ok (moved_to new.root c)) y.0.1 p tt y.2

consolidate-quiet : (shape : Shape) (lane : ℕ) (c : Composite) (log : Log) (p : Result Composite Reply × Log)
    → consolidate shape lane c log ≡ Some p → QuietErr p.0
consolidate-quiet shape lane c log p =
    cond_both (is_crowded c) (allot shape lane (size_of c.parts) >>= copied_to shape c) (give (Ok c))
    (λ r. r log ≡ Some p → QuietErr p.0)
    (λ _ is. let x = bind-some (allot shape lane (size_of c.parts) log) _ p is in
    copied-quiet shape c x.0.0 (allot-quiet shape lane (size_of c.parts) log x.0 x.1) x.0.1 p x.2)
    (λ _ is. result-give (Ok c) log p tt is)

composed-quiet : (s : LaneState) (name : ℕ) (r : Result Composite Reply) (log : Log) (p : Answer × Log) → QuietErr r
    → give (composed s name r) log ≡ Some p → NoBytes p.0.reply
composed-quiet s name (Err reply) log p quiet is = quiet-give reply s.names log p quiet is
composed-quiet s name (Ok c) log p quiet is = quiet-give (Reply.OkNumber (size_of c.parts)) _ log p tt is

allotted-quiet : (s : LaneState) (name : ℕ) (r : Result New Reply) (log : Log) (p : Answer × Log) → QuietErr r
    → give (allotted s name r) log ≡ Some p → NoBytes p.0.reply
allotted-quiet s name (Err reply) log p quiet is = quiet-give reply s.names log p quiet is
allotted-quiet s name (Ok new) log p quiet is = quiet-give (Reply.OkPlace _ _) _ log p tt is

release-quiet : (shape : Shape) (root : RootId) (log : Log) (p : Reply × Log) → release shape root log ≡ Some p
    → NoBytes p.0
release-quiet shape root log p is =
    ⊎_elim
    (λ e. let x = bind-some (step root says.count_kept log) _ p e in
    let same : ◌≡◌ {A = Reply × Log} (Reply.Kept, x.0.1) p = cc x.2 in subst (λ q. NoBytes q.0) same tt)
    (λ e. let x = bind-some (end_of shape root log) _ p e in let same : ◌≡◌ {A = Reply × Log} (Reply.Freed, x.0.1) p =
    cc x.2 in subst (λ q. NoBytes q.0) same tt)
    (or-some ((step root says.count_kept >> give Reply.Kept) log) ((end_of shape root >> give Reply.Freed) log) p is)

set_at-quiet : (s : LaneState) (i : ℕ) (bytes : List ℕ) (b : Bound) (log : Log) (p : Answer × Log)
    → set_at s i bytes b log ≡ Some p → NoBytes p.0.reply
set_at-quiet s i bytes b log p is =
    let x = bind-some (set_parts (parts_at b i (length bytes)) bytes log) _ p is in
    quiet-give Reply.Ok s.names x.0.1 p tt x.2

retain-quiet : (s : LaneState) (name : ℕ) (b : Bound) (log : Log) (p : Answer × Log) → retain_of s name b log ≡ Some p
    → NoBytes p.0.reply
retain-quiet s name (Plain v) log p is =
    let x = bind-some (step v.root says.retain log) _ p is in quiet-give Reply.Ok s.names x.0.1 p tt x.2
retain-quiet s name (Composed c) log p is = quiet-give Reply.Ok _ log p tt is

release_of-quiet : (shape : Shape) (s : LaneState) (name : ℕ) (b : Bound) (log : Log) (p : Answer × Log)
    → release_of shape s name b log ≡ Some p → NoBytes p.0.reply
release_of-quiet shape s name (Plain v) log p is =
    let x = bind-some (release shape v.root log) _ p is in
    quiet-give x.0.0 s.names x.0.1 p (release-quiet shape v.root log x.0 x.1) x.2
release_of-quiet shape s name (Composed c) log p is =
    go (c.count == 1) (bind name (Composed (record c { count = c.count - 1 })) s.names) is
  where
    go : (b : Bool) (names : Names)
        → (if b then (release_parts shape c.parts >> give (answer Reply.Freed names)) else give
        (answer Reply.Kept names)) log ≡ Some p → NoBytes p.0.reply
    go true names e =
        let x = bind-some (release_parts shape c.parts log) _ p e in quiet-give Reply.Freed names x.0.1 p tt x.2
    go false names e = quiet-give Reply.Kept names log p tt e

look-quiet : (s : LaneState) (b : Bound) (log : Log) (p : Answer × Log) → count_in s b log ≡ Some p → NoBytes p.0.reply
look-quiet s (Plain v) log p is =
    let x = bind-some (step v.root says.look log) _ p is in quiet-give (Reply.OkNumber x.0.0) s.names x.0.1 p tt x.2
look-quiet s (Composed c) log p is = quiet-give (Reply.OkNumber c.count) s.names log p tt is

received-quiet : (s : LaneState) (name : ℕ) (o : Option ViewData) (log : Log) (p : Answer × Log)
    → give (received s name o) log ≡ Some p → NoBytes p.0.reply
received-quiet s name None log p is = quiet-give Reply.Nothing s.names log p tt is
received-quiet s name (Some v) log p is = quiet-give Reply.Ok _ log p tt is

-- no read
abbrev pub IsOther : Command → Type 0
IsOther (Command.Get v i n tries) = ⊥
IsOther (Command.Read v n) = ⊥
IsOther _ = Unit {0}

-- what is no read is not answered with bytes
pub other-quiet : (shape : Shape) (lane : ℕ) (s : LaneState) (c : Command) → IsOther c → (log : Log) (p : Answer × Log)
    → carried_out shape lane s c log ≡ Some p → NoBytes p.0.reply
other-quiet shape lane s (Command.Alloc new n) other log p is =
    let x = bind-some (allot shape lane n log) _ p is in
    allotted-quiet s new x.0.0 x.0.1 p (allot-quiet shape lane n log x.0 x.1) x.2
other-quiet shape lane s (Command.Set v i bytes false) other log p is =
    let x = bind-some (given (named s v) log) _ p is in set_at-quiet s i bytes x.0.0 x.0.1 p x.2
other-quiet shape lane s (Command.Set v i bytes true) other log p is =
    let x = bind-some (given (view_named s v) log) _ p is in
    ⊎_elim
    (λ e. let y = bind-some (busy (Object.Root x.0.0.root.place) x.0.1) _ p e in
    quiet-give (Reply.Busy y.0.0) s.names y.0.1 p tt y.2)
    (λ e. set_at-quiet s i bytes (Plain x.0.0) x.0.1 p e)
    (or-some ((busy (Object.Root x.0.0.root.place) >>= (λ number. give (answer (Reply.Busy number) s.names))) x.0.1)
    (set_at s i bytes (Plain x.0.0) x.0.1) p x.2)
other-quiet shape lane s (Command.Get v i n tries) other log p is = absurd other
other-quiet shape lane s (Command.Write v bytes) other log p is =
    let x = bind-some (given (named s v) log) _ p is in
    let y = bind-some (set_parts (parts_at x.0.0 (writer_of x.0.0) (length bytes)) bytes x.0.1) _ p x.2 in
    quiet-give Reply.Ok _ y.0.1 p tt y.2
other-quiet shape lane s (Command.Read v n) other log p is = absurd other
other-quiet shape lane s (Command.Slice new v i n retained) other log p is =
    let x = bind-some (given (view_named s v) log) _ p is in
    let y = bind-some ((if retained then step x.0.0.root says.retain else nothing) x.0.1) _ p x.2 in
    quiet-give Reply.Ok _ y.0.1 p tt y.2
other-quiet shape lane s (Command.Dup new v) other log p is =
    let x = bind-some (given (view_named s v) log) _ p is in quiet-give Reply.Ok _ x.0.1 p tt x.2
other-quiet shape lane s (Command.Retain v) other log p is =
    let x = bind-some (given (named s v) log) _ p is in retain-quiet s v x.0.0 x.0.1 p x.2
other-quiet shape lane s (Command.Release v) other log p is =
    let x = bind-some (given (named s v) log) _ p is in release_of-quiet shape s v x.0.0 x.0.1 p x.2
other-quiet shape lane s (Command.Refcnt v) other log p is =
    let x = bind-some (given (named s v) log) _ p is in look-quiet s x.0.0 x.0.1 p x.2
other-quiet shape lane s (Command.Touch v) other log p is =
    let x = bind-some (given (view_named s v) log) _ p is in let y =
    bind-some (access x.0.0.root says.touch x.0.1) _ p x.2 in
    quiet-give Reply.Ok s.names y.0.1 p tt y.2
other-quiet shape lane s (Command.Forget v) other log p is = quiet-give Reply.Ok _ log p tt is
other-quiet shape lane s (Command.Send v to) other log p is =
    let x = bind-some (given (view_named s v) log) _ p is in
    let y = bind-some (note (Object.Mail lane to) (says.post (parcel_of x.0.0)) x.0.1) _ p x.2 in
    quiet-give Reply.Ok s.names y.0.1 p tt y.2
other-quiet shape lane s (Command.Recv new sender) other log p is =
    let x = bind-some (note (Object.Mail sender lane) says.fetch log) _ p is in
    received-quiet s new x.0.0.view x.0.1 p x.2
other-quiet shape lane s (Command.Compose new vs) other log p is =
    let x = bind-some (given (composite_from s vs) log) _ p is in
    let y = bind-some (consolidate shape lane x.0.0 x.0.1) _ p x.2 in
    composed-quiet s new y.0.0 y.0.1 p (consolidate-quiet shape lane x.0.0 x.0.1 y.0 y.1) y.2
other-quiet shape lane s (Command.Add c v) other log p is =
    let x = bind-some (given (composite_with s c v) log) _ p is in
    let y = bind-some (consolidate shape lane x.0.0 x.0.1) _ p x.2 in
    composed-quiet s c y.0.0 y.0.1 p (consolidate-quiet shape lane x.0.0 x.0.1 y.0 y.1) y.2
other-quiet shape lane s (Command.Capacity v n) other log p is =
    let x = bind-some (given (view_named s v) log) _ p is in
    let y = bind-some (regrow shape lane x.0.0.root n x.0.1) _ p x.2 in
    regrown-quiet s v x.0.0 y.0.0 y.0.1 p (regrow-quiet shape lane x.0.0.root n x.0.1 y.0 y.1) y.2
