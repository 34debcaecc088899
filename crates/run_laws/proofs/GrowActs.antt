-- How a root grows: what is noted of it are acts.
use Rattle.std.proofs.Common.{⊎_elim, inl, inr, ◌≡◌, ℕ, ◌∷◌, refl, sym, ap, subst, Some, None, Ok, Err, ◌∙◌, eqb-true}
use Rattle.std.specs.Prelude.{◌⊎◌, ◌==◌, ◌&&◌, nat_le, if◌then◌else◌, Option, Result, option_and_then}
use Rattle.size_classes.specs.Sizes.{class_of}
use Rattle.pool_law.specs.declared.id.RootId.{RootId}
use Rattle.pool_law.specs.declared.id.RegionId.{RegionId}
use Rattle.pool_law.specs.declared.note.Object.{Object}
use Rattle.pool_law.specs.declared.note.Did.{Did}
use Rattle.pool_law.specs.declared.note.Did.TheVariants.{Room, Extend, Grow}
use Rattle.pool_law.specs.declared.note.Note.TheVariants.{At}
use Rattle.pool_law.specs.declared.run.Shape.{Shape}
use Rattle.pool_law.specs.declared.run.Reply.{Reply}
use Rattle.pool_law.specs.Limits.{geometry_of}
use Rattle.pool_law.specs.Same.{same_region}
use Rattle.pool_law.specs.Counts.{root_is}
use Rattle.pool_law.specs.Logs.{ToldNote}
use Rattle.pool_law.specs.Options.{check}
use Rattle.pool_law.specs.Dids as says
use Rattle.pool_law.specs.Readers.{ToldNotes, Log, ◌>>=◌, ◌>>◌, give, given, done_at, access, growth}
use Rattle.pool_law.specs.Patterns.{obtain, one_more, found_room, Grown, grown, grow_with, put_away, regrow}
use Rattle.pool_law.proofs.SameLemmas.{same_region-is, and-first, and-second}
use Rattle.run_laws.proofs.CacheLaw.{if-some}
use Rattle.run_laws.proofs.Acts.{IsStill, IsQuiet, PutsAway, IsAt, Growing, Sparing, Acts, acts-then, one-act, Act, grow-act, spare-act}
use Rattle.run_laws.proofs.Readings.{bind-some, or-some, map-some, check-true, done_at-note, next-read, access-read}
use Rattle.run_laws.proofs.Keeping.{Keeps, keeps-give, keeps-given, keeps-bind, keeps-if}
use Rattle.run_laws.proofs.RootActs.{acts-chain, GotBy, obtain-got}
use Rattle.run_laws.proofs.EndActs.{Away, put_away-away}

module _ (P : Object → Did → Type 0) where
  -- one note that moves no region
  pub record OneStill (es rest : ToldNotes) : Type 0 where
    pub entry : ToldNote
    pub quiet : IsQuiet P entry.note
    pub are : es ≡ entry ∷ rest

  still-access : {A : Type 0} (root : RootId) (says_it : Did → Option A)
      → ((d : Did) (a : A) → says_it d ≡ Some a → IsStill P (Object.Root root.place) d)
      → (log : Log) (p : A × Log) → access root says_it log ≡ Some p → OneStill log.left p.1.left
  still-access root says_it still log p is =
      let n = access-read root says_it log p is in
      record {
        entry = n.read.entry;
        quiet = subst (IsQuiet P) (sym n.read.is) (still n.read.did p.0 n.read.said);
        are = n.read.are;
      }

  -- a root is asked for capacity
  pub found_room-still : (root : RootId) (size : ℕ) (log : Log) (p : ℕ × Log) → found_room root size log ≡ Some p
      → OneStill log.left p.1.left
  found_room-still root size log p is =
      ⊎_elim
      (λ e.
      let x = bind-some (access root (says.extend size) log) (λ got. give size got.1) p e in
      let same : ◌≡◌ {A = ℕ × Log} (size, x.0.1) p = cc x.2 in
      subst (λ q. OneStill log.left q.1.left) same
      (still-access root (says.extend size) extends log x.0 x.1))
      (λ e. still-access root (says.room size) rooms log p e)
      (or-some ((access root (says.extend size) >> give size) log) (access root (says.room size) log) p is)
    where
      extends : (d : Did) (u : Unit {0}) → says.extend size d ≡ Some u → IsStill P (Object.Root root.place) d
      extends (Extend other) u e = tt
      extends _ u e = absurd (cc e)

      rooms : (d : Did) (k : ℕ) → says.room size d ≡ Some k → IsStill P (Object.Root root.place) d
      rooms (Room other capacity) k e = tt
      rooms _ k e = absurd (cc e)

  pub found_room-acts : (root : RootId) (size : ℕ) → Keeps (Acts P) (found_room root size)
  found_room-acts root size log p is =
      let n = found_room-still root size log p is in
      one-act (Act.Quiet n.entry n.quiet) log.left p.1.left n.are

  -- what the note of a growth says
  pub grow-is : (size : ℕ) (r : RegionId) (d : Did) (u : Unit {0}) → says.grow size r d ≡ Some u → d ≡ Grow size r
  grow-is size r (Grow other with) u e =
      let test = check-true ((size == other) && same_region r with) u e in
      let number : size ≡ other = eqb-true size other (and-first (size == other) (same_region r with) test) in
      let region : r ≡ with = same_region-is r with (and-second (size == other) (same_region r with) test) in
      λ i. Grow (sym number i) (sym region i)
  grow-is size r _ u e = absurd (cc e)

  pub record GrowthRead (size : ℕ) (r old : RegionId) (es rest : ToldNotes) : Type 0 where
    pub entry : ToldNote
    pub is : IsAt (Grow size r) entry.note
    pub out : entry.region ≡ Some old
    pub are : es ≡ entry ∷ rest

  pub growth-read : (root : RootId) (size : ℕ) (r : RegionId) (log : Log) (p : RegionId × Log)
      → growth root size r log ≡ Some p → GrowthRead size r p.0 log.left p.1.left
  growth-read root size r log p is =
      let n = next-read (λ e. if root_is root e.root then option_and_then (λ _. e.region)
      (option_and_then (says.grow size r) (done_at (Object.Root root.place) e.note)) else None) log p is in
      let some = if-some (root_is root n.0.root) (option_and_then (λ _. n.0.region)
      (option_and_then (says.grow size r) (done_at (Object.Root root.place) n.0.note))) p.0 n.2 in
      let u = bind-some (option_and_then (says.grow size r) (done_at (Object.Root root.place) n.0.note))
      (λ _. n.0.region) p.0 some in
      let d = bind-some (done_at (Object.Root root.place) n.0.note) (says.grow size r) u.0 u.1 in
      let k = done_at-note (Object.Root root.place) n.0.note d.0 d.1 in
      record {
        entry = n.0;
        is = record {
          object = Object.Root root.place;
          number = k.0;
          is = k.1 ∙ ap (At (Object.Root root.place) k.0) (grow-is size r d.0 u.0 d.2);
        };
        out = u.2;
        are = n.1;
      }

  -- the root grows into a region, or is found to have so much without it
  abbrev pub GrownBy : ℕ → RegionId → RegionId → ToldNotes → ToldNotes → Type 0
  GrownBy size r spare es rest =
      GrowthRead size (one_more r) spare es rest ⊎ (OneStill es rest × (spare ≡ r))

  pub grown-read : (root : RootId) (size : ℕ) (r : RegionId) (log : Log) (p : Grown × Log)
      → grown root size r log ≡ Some p → GrownBy size r p.0.spare log.left p.1.left
  grown-read root size r log p is =
      ⊎_elim
      (λ e.
      let x = bind-some (growth root size (one_more r) log)
      (λ got. give (record { capacity = size; spare = got.0 }) got.1) p e in
      let same : ◌≡◌ {A = Grown × Log} (record { capacity = size; spare = x.0.0 }, x.0.1) p = cc x.2 in
      subst (λ q. GrownBy size r q.0.spare log.left q.1.left) same
      (inl (growth-read root size (one_more r) log x.0 x.1)))
      (λ e.
      let x = bind-some (found_room root size log)
      (λ got. give (record { capacity = got.0; spare = r }) got.1) p e in
      let same : ◌≡◌ {A = Grown × Log} (record { capacity = x.0.0; spare = r }, x.0.1) p = cc x.2 in
      subst (λ q. GrownBy size r q.0.spare log.left q.1.left) same
      (inr (found_room-still root size log x.0 x.1, refl)))
      (or-some ((growth root size (one_more r) >>= (λ old. give (record { capacity = size; spare = old }))) log)
      ((found_room root size >>= (λ k. give (record { capacity = k; spare = r }))) log) p is)

  -- a region in hand is grown into or spared, and a region is put away
  with-away : (size : ℕ) (r : RegionId) (spare : RegionId) (es mid rest last : ToldNotes)
      → GotBy P (Some r) es mid → GrownBy size r spare mid rest → Away P spare rest last → Acts P es last
  with-away size r spare es mid rest last got (inl g) a =
      let growing : Growing got.got g.entry a.away =
      record {
        capacity = size;
        region = r;
        left = spare;
        got_did = got.did;
        got_is = got.got_is;
        gets = got.gets;
        growth_is = g.is;
        out = g.out;
        did = a.did;
        away_is = a.away_is;
        puts_away = a.puts_away;
      } in
      acts-then es (got.got ∷ mid) last got.acts
      (grow-act got.got g.entry a.refused a.away a.quiet growing (got.got ∷ mid) last
      (ap (λ xs. got.got ∷ xs) (g.are ∙ ap (λ xs. g.entry ∷ xs) a.are)))
  with-away size r spare es mid rest last got (inr n) a =
      let sparing : Sparing got.got a.away =
      record {
        region = r;
        got_did = got.did;
        got_is = got.got_is;
        gets = got.gets;
        did = a.did;
        away_is = a.away_is;
        puts_away = subst (λ x. PutsAway x a.did) n.1 a.puts_away;
      } in
      acts-then es (got.got ∷ mid) last got.acts
      (spare-act got.got n.0.entry a.refused a.away n.0.quiet a.quiet sparing (got.got ∷ mid) last
      (ap (λ xs. got.got ∷ xs) (n.0.are ∙ ap (λ xs. n.0.entry ∷ xs) a.are)))

  pub grow_with-acts : (root : RootId) (size : ℕ) (o : Option RegionId) (es : ToldNotes) (log : Log)
      (p : Result ℕ Reply × Log) → GotBy P o es log.left → grow_with root size o log ≡ Some p → Acts P es p.1.left
  grow_with-acts root size None es log p got is =
      acts-then es log.left p.1.left got (keeps-give (acts-chain P) (Err Reply.Full) log p is)
  grow_with-acts root size (Some r) es log p got is =
      let g = bind-some (grown root size r log) _ p is in
      let c = bind-some (given (check (nat_le size g.0.0.capacity)) g.0.1) _ p g.2 in
      let a = bind-some (put_away g.0.0.spare c.0.1) _ p c.2 in
      let u = map-some (check (nat_le size g.0.0.capacity)) (λ x. (x, g.0.1)) c.0 c.1 in
      let behind : g.0.1 ≡ c.0.1 = ap (λ q. q.1) u.2 in
      let same : ◌≡◌ {A = Result ℕ Reply × Log} (Ok g.0.0.capacity, a.0.1) p = cc a.2 in
      let away : Away P g.0.0.spare g.0.1.left a.0.1.left =
      subst (λ l. Away P g.0.0.spare l.left a.0.1.left) (sym behind) (put_away-away P g.0.0.spare c.0.1 a.0 a.1) in
      subst (λ q. Acts P es q.1.left) same
      (with-away size r g.0.0.spare es log.left g.0.1.left a.0.1.left got (grown-read root size r log g.0 g.1) away)

  pub regrow-acts : (shape : Shape) (lane : ℕ) (root : RootId) (size : ℕ) → Keeps (Acts P) (regrow shape lane root size)
  regrow-acts shape lane root size =
      keeps-bind (acts-chain P) (found_room root size) _ (found_room-acts root size)
      (λ capacity. keeps-bind (acts-chain P) (given (class_of (geometry_of shape) size)) _
      (keeps-given (acts-chain P) (class_of (geometry_of shape) size))
      (λ class. keeps-if (acts-chain P) (nat_le size capacity) (give (Ok capacity))
      (obtain shape lane class >>= grow_with root size) (keeps-give (acts-chain P) (Ok capacity))
      (λ log p is.
      let x = bind-some (obtain shape lane class log) (λ got. grow_with root size got.0 got.1) p is in
      grow_with-acts root size x.0.0 log.left x.0.1 p (obtain-got P shape lane class log x.0 x.1) x.2)))
