-- A read that answers with bytes got its parts first of all.
use Rattle.std.proofs.Common.{⊎_elim, ◌≡◌, ℕ, List, [], ◌∷◌, ◌++◌, length, refl, sym, ap, subst, Bool, true, false, Some, None, ◌∙◌, eqb-true}
use Rattle.std.specs.Prelude.{option_and_then, ◌==◌, ◌&&◌, if◌then◌else◌, Option}
use Rattle.pool_law.specs.declared.id.ViewData.{ViewData}
use Rattle.pool_law.specs.declared.command.Command.{Command}
use Rattle.pool_law.specs.declared.note.Object.{Object}
use Rattle.pool_law.specs.declared.note.Did.{Did}
use Rattle.pool_law.specs.declared.note.Did.TheVariants.{Get}
use Rattle.pool_law.specs.declared.note.Note.TheVariants.{At}
use Rattle.pool_law.specs.declared.run.Shape.{Shape}
use Rattle.pool_law.specs.declared.run.Reply.{Reply}
use Rattle.pool_law.specs.Logs.{ToldNote}
use Rattle.pool_law.specs.Counts.{root_is}
use Rattle.pool_law.specs.declared.id.Part.{Part}
use Rattle.pool_law.specs.Dids as says
use Rattle.pool_law.specs.Readers.{ToldNotes, Log, Reader, ◌>>=◌, give, given, behind_entry, first_of_left, next, done_at, busy, access}
use Rattle.pool_law.specs.Names.{Bound, Plain, Composed, Names, view_in, has_range, has_to_read, reader_of, parts_at, bind, read_on}
use Rattle.pool_law.specs.LaneStates.{LaneState, named, view_named}
use Rattle.pool_law.specs.Caches.{if_so}
use Rattle.pool_law.specs.Refusals.{first_refusal, unbound, composite, illegal, range, read_range, refusals}
use Rattle.pool_law.specs.Lanes.{Answer, answer, get_parts, get_at, busy_or, carried_out, not_carried_out, answer_by, answer_of}
use Rattle.run_laws.specs.Reads.{get_note, parts_read, joined}
use Rattle.pool_law.proofs.SameLemmas.{and-first, and-second}
use Rattle.run_laws.proofs.CacheLaw.{if_so-is}
use Rattle.run_laws.proofs.PlaceLaw.{if_so-test}
use Rattle.run_laws.proofs.Readings.{bind-some, map-some, or-some, access-read}
use Rattle.run_laws.proofs.ReplyLaw.{NoBytes, first-refuses, none-comes, passes-it, refusals-quiet, other-quiet}

-- an entry got these bytes of a part
pub record GotPart (part : Part) (e : ToldNote) (bytes : List ℕ) : Type 0 where
  pub number : ℕ
  pub note : e.note ≡ get_note part number bytes
  pub root : e.root ≡ Some part.root
  pub size : length bytes ≡ part.len

-- the first of these entries got the parts, in order
abbrev pub GotParts : List Part → ToldNotes → ToldNotes → List (List ℕ) → Type 0
GotParts [] es rest [] = es ≡ rest
GotParts (p ∷ ps) es rest (b ∷ bs) =
    (e : ToldNote) × (xs : ToldNotes) × (es ≡ e ∷ xs) × GotPart p e b × GotParts ps xs rest bs
GotParts _ es rest _ = ⊥

pub next-asked : {A : Type 0} (read : ToldNote → Option A) (log : Log) (p : A × Log) → next read log ≡ Some p
    → p.1.asked ≡ log.asked
next-asked {A} read log p is = go log.left is
  where
    go : (es : ToldNotes) → first_of_left read log es ≡ Some p → p.1.asked ≡ log.asked
    go [] e = absurd (cc e)
    go (x ∷ xs) e = let f = map-some (read x) (λ a. (a, behind_entry log x xs)) p e in ap (λ q. q.1.asked) (sym f.2)

pub access-got : (part : Part) (log : Log) (p : List ℕ × Log)
    → access part.root (says.get part.offset part.len) log ≡ Some p
    → (e : ToldNote) × (log.left ≡ e ∷ p.1.left) × GotPart part e p.0
access-got part log p is =
    let a = access-read part.root (says.get part.offset part.len) log p is in
    let g = got a.read.did p.0 a.read.said in (
      a.read.entry,
      a.read.are,
      record {
        number = a.read.number;
        note = a.read.is
            ∙ ap (At (Object.Root part.root.place) a.read.number) g.0;
        root = a.root;
        size = g.1;
      },
    )
  where
    got : (d : Did) (b : List ℕ) → says.get part.offset part.len d ≡ Some b
        → (d ≡ Get part.offset b) × (length b ≡ part.len)
    got (Get o bs) b e =
        let test = if_so-test ((o == part.offset) && (length bs == part.len)) bs b e in
        let same : bs ≡ b = if_so-is ((o == part.offset) && (length bs == part.len)) bs b e in
        let here : o ≡ part.offset = eqb-true o part.offset
        (and-first (o == part.offset) (length bs == part.len) test) in (
          λ i. Get (here i) (same i),
          ap length (sym same)
              ∙ eqb-true (length bs) part.len (and-second (o == part.offset) (length bs == part.len) test),
        )
    got _ b e = absurd (cc e)

-- what a reading of parts gives
pub record PartsGot (ps : List Part) (log : Log) (p : List ℕ × Log) : Type 0 where
  pub pieces_got : List (List ℕ)
  pub gives : p.0 ≡ joined pieces_got
  pub got : GotParts ps log.left p.1.left pieces_got
  pub asked : p.1.asked ≡ log.asked

pub get_parts-got : (ps : List Part) (log : Log) (p : List ℕ × Log) → get_parts ps log ≡ Some p → PartsGot ps log p
get_parts-got [] log p is =
    let same : ◌≡◌ {A = List ℕ × Log} ([], log) p = cc is in
    record {
      pieces_got = [];
      gives = ap (λ q. q.0) (sym same);
      got = ap (λ q. q.1.left) same;
      asked =
          ap (λ q. q.1.asked) (sym same);
    }
get_parts-got (part ∷ ps) log p is =
    let x = bind-some (access part.root (says.get part.offset part.len) log) _ p is in
    let y = bind-some (get_parts ps x.0.1) _ p x.2 in
    let same : ◌≡◌ {A = List ℕ × Log} (x.0.0 ++ y.0.0, y.0.1) p = cc y.2 in
    let a = access-got part log x.0 x.1 in
    let r = get_parts-got ps x.0.1 y.0 y.1 in
    let kept : x.0.1.asked ≡ log.asked = next-asked
    (λ e. if root_is part.root e.root then option_and_then (says.get part.offset part.len)
    (done_at (Object.Root part.root.place) e.note) else None) log x.0 x.1 in
    record {
      pieces_got = x.0.0 ∷ r.pieces_got;
      gives = ap (λ q. q.0) (sym same) ∙ ap (λ b. x.0.0 ++ b) r.gives;
      got = (a.0, x.0.1.left, a.1, a.2, subst (λ q. GotParts ps x.0.1.left q.1.left r.pieces_got) same r.got);
      asked = ap (λ q. q.1.asked) (sym same) ∙ r.asked ∙ kept;
    }

-- a read that answers with bytes got the parts first of all
pub record ReadsParts (s : LaneState) (c : Command) (log : Log) (p : Answer × Log) (bytes : List ℕ) : Type 0 where
  pub parts : List Part
  pub is : parts_read s c ≡ Some parts
  pub pieces_got : List (List ℕ)
  pub gives : bytes ≡ joined pieces_got
  pub got : GotParts parts log.left p.1.left pieces_got
  pub asked : p.1.asked ≡ log.asked

pub got-answer : (s : LaneState) (c : Command) (ps : List Part) (names : List ℕ → Names) (log : Log) (p : Answer × Log)
    (bytes : List ℕ) → parts_read s c ≡ Some ps →
    (get_parts ps >>= (λ b. give (answer (Reply.OkBytes b) (names b)))) log ≡ Some p → p.0.reply ≡ Reply.OkBytes bytes
    → ReadsParts s c log p bytes
got-answer s c ps names log p bytes parts is reply =
    let x = bind-some (get_parts ps log) (λ got. give (answer (Reply.OkBytes got.0) (names got.0)) got.1) p is in
    let r = get_parts-got ps log x.0 x.1 in
    let same : ◌≡◌ {A = Answer × Log} (answer (Reply.OkBytes x.0.0) (names x.0.0), x.0.1) p = cc x.2 in
    let b : x.0.0 ≡ bytes = cc (ap (λ q. q.0.reply) same ∙ reply) in
    record {
      parts = ps;
      is = parts;
      pieces_got = r.pieces_got;
      gives = sym b
          ∙ r.gives;
      got = subst (λ q. GotParts ps log.left q.1.left r.pieces_got) same r.got;
      asked =
          ap (λ q. q.1.asked) (sym same) ∙ r.asked;
    }

pub given-some : {A B : Type 0} (o : Option A) (f : A → Reader B) (log : Log) (p : B × Log)
    → (given o >>= f) log ≡ Some p → (a : A) × (o ≡ Some a) × (f a log ≡ Some p)
given-some None f log p is = absurd (cc is)
given-some (Some a) f log p is = (a, refl, is)

pub view-plain : (o : Option Bound) (v : ViewData) → option_and_then view_in o ≡ Some v → o ≡ Some (Plain v)
view-plain None v e = absurd (cc e)
view-plain (Some (Plain w)) v e = let same : w ≡ v = cc e in ap (λ x. Some (Plain x)) same
view-plain (Some (Composed c)) v e = absurd (cc e)

-- what is bound and passes the test gives its parts
pub in-range : (o : Option Bound) (b : Bound) (test : Bound → Bool) (ps : Bound → List Part) → o ≡ Some b
    → test b ≡ true → option_and_then (λ x. if_so (test x) (ps x)) o ≡ Some (ps b)
in-range o b test ps is passes =
    ap (λ q. option_and_then (λ x. if_so (test x) (ps x)) q) is ∙ ap (λ t. if t then Some (ps b) else None) passes

pub reads-carried : (shape : Shape) (lane : ℕ) (s : LaneState) (c : Command) (log : Log) (p : Answer × Log)
    (bytes : List ℕ) → first_refusal (refusals shape s c) ≡ None → carried_out shape lane s c log ≡ Some p
    → p.0.reply ≡ Reply.OkBytes bytes → ReadsParts s c log p bytes
reads-carried shape lane s (Command.Get name at len false) log p bytes none is reply =
    let g = given-some (named s name) (get_at s at len) log p is in
    let two = none-comes (illegal s name) (range s name at len ∷ [])
    (none-comes (unbound s name) (illegal s name ∷ range s name at len ∷ []) none).1 in
    let fits = passes-it (has_range at len) (named s name) g.0 (none-comes (range s name at len) [] two.1).0 g.1 in
    got-answer s (Command.Get name at len false) (parts_at g.0 at len) (λ _. s.names) log p bytes
    (in-range (named s name) g.0 (has_range at len) (λ b. parts_at b at len) g.1 fits) g.2 reply
reads-carried shape lane s (Command.Get name at len true) log p bytes none is reply =
    let g = given-some (view_named s name) (λ view. busy_or s view (get_at s at len (Plain view))) log p is in
    let bound : named s name ≡ Some (Plain g.0) = view-plain (named s name) g.0 g.1 in
    let two = none-comes (composite s name) (illegal s name ∷ range s name at len ∷ [])
    (none-comes (unbound s name) (composite s name ∷ illegal s name ∷ range s name at len ∷ []) none).1 in
    let three = none-comes (illegal s name) (range s name at len ∷ []) two.1 in
    let fits = passes-it (has_range at len) (named s name) (Plain g.0) (none-comes (range s name at len) [] three.1).0
    bound in
    ⊎_elim
    (λ e.
    let x = bind-some (busy (Object.Root g.0.root.place) log) (λ got. give (answer (Reply.Busy got.0) s.names) got.1) p
    e in
    let same : ◌≡◌ {A = Answer × Log} (answer (Reply.Busy x.0.0) s.names, x.0.1) p = cc x.2 in
    absurd (cc (ap (λ q. q.0.reply) same ∙ reply)))
    (λ e. got-answer s (Command.Get name at len true) (parts_at (Plain g.0) at len) (λ _. s.names) log p bytes
    (in-range (named s name) (Plain g.0) (has_range at len) (λ b. parts_at b at len) bound fits) e reply)
    (or-some ((busy (Object.Root g.0.root.place) >>= (λ number. give (answer (Reply.Busy number) s.names))) log)
    (get_at s at len (Plain g.0) log) p g.2)
reads-carried shape lane s (Command.Read name len) log p bytes none is reply =
    let g = given-some (named s name) _ log p is in
    let two = none-comes (illegal s name) (read_range s name len ∷ [])
    (none-comes (unbound s name) (illegal s name ∷ read_range s name len ∷ []) none).1 in
    let fits = passes-it (has_to_read len) (named s name) g.0 (none-comes (read_range s name len) [] two.1).0 g.1 in
    got-answer s (Command.Read name len) (parts_at g.0 (reader_of g.0) len) (λ _. bind name (read_on len g.0) s.names)
    log p bytes (in-range (named s name) g.0 (has_to_read len) (λ b. parts_at b (reader_of b) len) g.1 fits) g.2
    reply
reads-carried shape lane s c log p bytes none is reply =
    absurd (subst NoBytes reply (other-quiet shape lane s c tt log p is))

pub reads-parts : (shape : Shape) (lane : ℕ) (s : LaneState) (c : Command) (log : Log) (p : Answer × Log)
    (bytes : List ℕ) → answer_of shape lane s c log ≡ Some p → p.0.reply ≡ Reply.OkBytes bytes
    → ReadsParts s c log p bytes
reads-parts shape lane s c log p bytes is reply = by (first_refusal (refusals shape s c)) refl is
  where
    by : (o : Option Reply) → first_refusal (refusals shape s c) ≡ o → answer_by shape lane s c o log ≡ Some p
        → ReadsParts s c log p bytes
    by None first e = reads-carried shape lane s c log p bytes first e reply
    by (Some r) first e =
        let x = bind-some (not_carried_out lane c log) (λ got. give (answer r s.names) got.1) p e in
        let same : ◌≡◌ {A = Answer × Log} (answer r s.names, x.0.1) p = cc x.2 in
        absurd (subst NoBytes (ap (λ q. q.0.reply) same ∙ reply)
        (first-refuses (refusals shape s c) r (refusals-quiet shape s c) first))
