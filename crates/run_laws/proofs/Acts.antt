-- The notes of a lane, act by act: a note that moves no region, a birth, a growth, a region that is got and put
-- away unused, an end, or a shed.
use Rattle.std.proofs.Common.{◌≡◌, ℕ, ◌+◌, ◌≤◌, List, [], ◌∷◌, ◌++◌, refl, sym, ap, subst, arith, true, Some, None, ◌∙◌}
use Rattle.std.specs.Prelude.{Option}
use Rattle.pool_law.specs.declared.id.RootId.{RootId}
use Rattle.pool_law.specs.declared.id.RegionId.{RegionId}
use Rattle.pool_law.specs.declared.note.Object.{Object}
use Rattle.pool_law.specs.declared.note.Did.{Did}
use Rattle.pool_law.specs.declared.note.Did.TheVariants.{Take, Full, Give, Hit, Miss, Kept, Back, Handle, NoHandle, Home, Post, Fetch, Trim, Close, Shed, Birth, Set, Get, Touch, Room, Extend, Grow, End}
use Rattle.pool_law.specs.declared.note.RefDid.{RefDid}
use Rattle.pool_law.specs.declared.note.Note.{Note}
use Rattle.pool_law.specs.declared.note.Note.TheVariants.{At, Ref, Busy}
use Rattle.pool_law.specs.Limits.{has_cache}
use Rattle.pool_law.specs.Logs.{ToldNote}
use Rattle.pool_law.specs.Readers.{ToldNotes}
use Rattle.pool_law.specs.Patterns.{one_more}
use Rattle.pool_law.proofs.HistoryLemmas.{append-assoc}
use Rattle.run_laws.proofs.Sums.{sum_by}

-- a sum over entries, by their notes
abbrev pub sum_notes : (Note → ℕ) → ToldNotes → ℕ
sum_notes f es = sum_by (λ e. f e.note) es

pub notes-append : (f : Note → ℕ) (xs ys : ToldNotes) → sum_notes f (xs ++ ys) ≡ sum_notes f xs + sum_notes f ys
notes-append f [] ys = omega arith
notes-append f (x ∷ xs) ys = omega (arith, notes-append f xs ys)

-- what moves no region; P says which posts, trims and closings there may be
abbrev pub IsStill : (Object → Did → Type 0) → Object → Did → Type 0
IsStill P o (Full class) = Unit {0}
IsStill P o Miss = Unit {0}
IsStill P o (Back region why) = Unit {0}
IsStill P o (Handle place) = Unit {0}
IsStill P o NoHandle = Unit {0}
IsStill P o (Home place) = Unit {0}
IsStill P o (Post parcel) = P o (Post parcel)
IsStill P o (Trim quota) = P o (Trim quota)
IsStill P o (Close quota) = P o (Close quota)
IsStill P o (Fetch parcel) = Unit {0}
IsStill P o (Set offset bytes) = Unit {0}
IsStill P o (Get offset bytes) = Unit {0}
IsStill P o Touch = Unit {0}
IsStill P o (Room asked capacity) = Unit {0}
IsStill P o (Extend size) = Unit {0}
IsStill P o _ = ⊥

-- a step on a count that neither begins nor ends it
abbrev pub IsStep : RefDid → Type 0
IsStep RefDid.Retain = Unit {0}
IsStep RefDid.Kept = Unit {0}
IsStep (RefDid.Look k) = Unit {0}
IsStep _ = ⊥

abbrev pub IsQuiet : (Object → Did → Type 0) → Note → Type 0
IsQuiet P (At o k d) = IsStill P o d
IsQuiet P (Ref root d) = IsStep d
IsQuiet P (Busy held) = Unit {0}

abbrev pub AreQuiet : (Object → Did → Type 0) → Option ToldNote → Type 0
AreQuiet P None = Unit {0}
AreQuiet P (Some e) = IsQuiet P e.note

-- what gets the region, and what puts it away
abbrev pub Gets : RegionId → Did → Type 0
Gets r (Hit x) = x ≡ r
Gets r (Take class x) = x ≡ r
Gets r _ = ⊥

abbrev pub PutsAway : RegionId → Did → Type 0
PutsAway r (Kept x) = (x ≡ r) × (has_cache x.class ≡ true)
PutsAway r (Give x) = x ≡ r
PutsAway r _ = ⊥

pub record IsAt (did : Did) (n : Note) : Type 0 where
  pub object : Object
  pub number : ℕ
  pub is : n ≡ At object number did

-- a region is got, a root is born with it, and the root's word is set
pub record Birthing (got birth set : ToldNote) : Type 0 where
  pub root : RootId
  pub region : RegionId
  pub did : Did
  pub got_is : IsAt did got.note
  pub gets : Gets region did
  pub birth_is : IsAt (Birth root (one_more region)) birth.note
  pub set_is : set.note ≡ Ref root RefDid.Born

-- a region is got, a root grows into it, and the region that it leaves is put away
pub record Growing (got growth away : ToldNote) : Type 0 where
  pub capacity : ℕ
  pub region : RegionId
  pub left : RegionId
  pub got_did : Did
  pub got_is : IsAt got_did got.note
  pub gets : Gets region got_did
  pub growth_is : IsAt (Grow capacity (one_more region)) growth.note
  pub out : growth.region ≡ Some left
  pub did : Did
  pub away_is : IsAt did away.note
  pub puts_away : PutsAway left did

-- a region is got, and put away unused
pub record Sparing (got away : ToldNote) : Type 0 where
  pub region : RegionId
  pub got_did : Did
  pub got_is : IsAt got_did got.note
  pub gets : Gets region got_did
  pub did : Did
  pub away_is : IsAt did away.note
  pub puts_away : PutsAway region did

-- a count ends, then its root, whose place is vacated, and its region is put away
pub record Ending (ended end vacated away : ToldNote) : Type 0 where
  pub root : RootId
  pub region : RegionId
  pub ended_is : ended.note ≡ Ref root RefDid.Ended
  pub end_is : IsAt (End root) end.note
  pub out : end.region ≡ Some region
  pub vacated_is : vacated.note ≡ Ref root RefDid.Vacated
  pub did : Did
  pub away_is : IsAt did away.note
  pub puts_away : PutsAway region did

-- a closed cache sheds a region, which is given to its arena
pub record Shedding (P : Object → Did → Type 0) (shed given : ToldNote) : Type 0 where
  pub region : RegionId
  pub shed_is : IsAt (Shed region) shed.note
  pub may : P shed_is.object (Shed region)
  pub given_is : IsAt (Give region) given.note

-- a cache may refuse the region before it is put away
pub data Act (P : Object → Did → Type 0) : Type 0 where
  Quiet : (e : ToldNote) → IsQuiet P e.note → Act P
  Births : (got birth set : ToldNote) → Birthing got birth set → Act P
  Grows : (got growth : ToldNote) (refused : Option ToldNote) (away : ToldNote) → AreQuiet P refused
      → Growing got growth away → Act P
  Spares : (got found : ToldNote) (refused : Option ToldNote) (away : ToldNote) → IsQuiet P found.note → AreQuiet P
      refused
      → Sparing got away → Act P
  Ends : (ended end vacated : ToldNote) (refused : Option ToldNote) (away : ToldNote) → AreQuiet P refused
      → Ending ended end vacated away → Act P
  Sheds : (shed given : ToldNote) → Shedding P shed given → Act P

abbrev pub before : Option ToldNote → ToldNotes → ToldNotes
before None es = es
before (Some e) es = e ∷ es

abbrev pub act_notes : {P : Object → Did → Type 0} → Act P → ToldNotes
act_notes (Act.Quiet e quiet) = e ∷ []
act_notes (Act.Births got birth set b) = got ∷ birth ∷ set ∷ []
act_notes (Act.Grows got growth refused away quiet g) = got ∷ growth ∷ before refused (away ∷ [])
act_notes (Act.Spares got found refused away still quiet s) = got ∷ found ∷ before refused (away ∷ [])
act_notes (Act.Ends ended end vacated refused away quiet e) = ended ∷ end ∷ vacated ∷ before refused (away ∷ [])
act_notes (Act.Sheds shed given x) = shed ∷ given ∷ []

abbrev pub all_notes : {P : Object → Did → Type 0} → List (Act P) → ToldNotes
all_notes [] = []
all_notes (a ∷ acts) = act_notes a ++ all_notes acts

-- notes are some acts before others
pub record Acts (P : Object → Did → Type 0) (es rest : ToldNotes) : Type 0 where
  pub acts : List (Act P)
  pub are : es ≡ all_notes acts ++ rest

module _ {P : Object → Did → Type 0} where
  pub no-acts : (es rest : ToldNotes) → es ≡ rest → Acts P es rest
  no-acts es rest same = record { acts = []; are = same }

  pub one-act : (a : Act P) (es rest : ToldNotes) → es ≡ act_notes a ++ rest → Acts P es rest
  one-act a es rest is = record { acts = a ∷ []; are = is ∙ sym (append-assoc (act_notes a) [] rest) }

  pub grow-act : (got growth : ToldNote) (refused : Option ToldNote) (away : ToldNote) → AreQuiet P refused
      → Growing got growth away → (es rest : ToldNotes) → es ≡ got ∷ (growth ∷ before refused (away ∷ rest))
      → Acts P es rest
  grow-act got growth None away quiet g es rest is = one-act (Act.Grows got growth None away quiet g) es rest is
  grow-act got growth (Some x) away quiet g es rest is =
      one-act (Act.Grows got growth (Some x) away quiet g) es rest is

  pub spare-act : (got found : ToldNote) (refused : Option ToldNote) (away : ToldNote) → IsQuiet P found.note
      → AreQuiet P refused → Sparing got away → (es rest : ToldNotes)
      → es ≡ got ∷ (found ∷ before refused (away ∷ rest)) → Acts P es rest
  spare-act got found None away still quiet s es rest is =
      one-act (Act.Spares got found None away still quiet s) es rest is
  spare-act got found (Some x) away still quiet s es rest is =
      one-act (Act.Spares got found (Some x) away still quiet s) es rest is

  pub end-act : (ended end vacated : ToldNote) (refused : Option ToldNote) (away : ToldNote) → AreQuiet P refused
      → Ending ended end vacated away → (es rest : ToldNotes) →
      es ≡ ended ∷ (end ∷ (vacated ∷ before refused (away ∷ rest))) → Acts P es rest
  end-act ended end vacated None away quiet e es rest is =
      one-act (Act.Ends ended end vacated None away quiet e) es rest is
  end-act ended end vacated (Some x) away quiet e es rest is =
      one-act (Act.Ends ended end vacated (Some x) away quiet e) es rest is

  pub acts-then : (es mid rest : ToldNotes) → Acts P es mid → Acts P mid rest → Acts P es rest
  acts-then es mid rest a b =
      record {
        acts = a.acts ++ b.acts;
        are = a.are ∙ ap (λ xs. all_notes a.acts ++ xs) b.are
            ∙ sym (append-assoc (all_notes a.acts) (all_notes b.acts) rest) ∙ ap (λ xs. xs ++ rest) (sym (go a.acts));
      }
    where
      go : (xs : List (Act P)) → all_notes (xs ++ b.acts) ≡ all_notes xs ++ all_notes b.acts
      go [] = refl
      go (x ∷ xs) =
          ap (λ ys. act_notes x ++ ys) (go xs) ∙ sym (append-assoc (act_notes x) (all_notes xs) (all_notes b.acts))

  pub acts-before : (es rest : ToldNotes) → Acts P es [] → Acts P (es ++ rest) rest
  acts-before es rest a =
      record { acts = a.acts; are = ap (λ xs. xs ++ rest) a.are ∙ append-assoc (all_notes a.acts) [] rest }

  -- what each act leaves as it is, all of them do
  pub acts-keep : {X : Type 0} (f : ToldNotes → X) → ((a : Act P) (es : ToldNotes) → f (act_notes a ++ es) ≡ f es)
      → (acts : List (Act P)) (rest : ToldNotes) → f (all_notes acts ++ rest) ≡ f rest
  acts-keep f keeps [] rest = refl
  acts-keep f keeps (x ∷ acts) rest =
      ap f (append-assoc (act_notes x) (all_notes acts) rest) ∙ keeps x (all_notes acts ++ rest)
      ∙ acts-keep f keeps acts rest

module _ (P : Object → Did → Type 0) where
  -- what no birth, no growth and no end says
  abbrev pub IsOther : Note → Type 0
  IsOther (At o k (Take class r)) = Unit {0}
  IsOther (At o k (Hit r)) = Unit {0}
  IsOther (At o k (Kept r)) = has_cache r.class ≡ true
  IsOther (At o k (Give r)) = Unit {0}
  IsOther (At o k d) = IsStill P o d
  IsOther (Ref root d) = IsStep d
  IsOther (Busy held) = Unit {0}

  pub quiet-other : (n : Note) → IsQuiet P n → IsOther n
  quiet-other (At o k (Take class r)) quiet = tt
  quiet-other (At o k (Hit r)) quiet = tt
  quiet-other (At o k (Kept r)) quiet = absurd quiet
  quiet-other (At o k (Give r)) quiet = tt
  quiet-other (At o k _) quiet = quiet
  quiet-other (Ref root d) quiet = quiet
  quiet-other (Busy held) quiet = tt

  pub gets-other : (r : RegionId) (d : Did) (n : Note) → IsAt d n → Gets r d → IsOther n
  gets-other r (Hit x) n at gets = subst IsOther (sym at.is) tt
  gets-other r (Take class x) n at gets = subst IsOther (sym at.is) tt
  gets-other r _ n at gets = absurd gets

  pub away-other : (r : RegionId) (d : Did) (n : Note) → IsAt d n → PutsAway r d → IsOther n
  away-other r (Kept x) n at puts = subst IsOther (sym at.is) puts.1
  away-other r (Give x) n at puts = subst IsOther (sym at.is) tt
  away-other r _ n at puts = absurd puts

  -- a sum that is at most another over each act
  pub record Less (f g : Note → ℕ) : Type 0 where
    pub other : (n : Note) → IsOther n → f n ≤ g n
    pub birth : (o : Object) (k : ℕ) (root : RootId) (r : RegionId)
        → f (At o k (Birth root r)) + f (Ref root RefDid.Born) ≤ g (At o k (Birth root r)) + g (Ref root RefDid.Born)
    pub growth : (o : Object) (k c : ℕ) (r : RegionId) → f (At o k (Grow c r)) ≤ g (At o k (Grow c r))
    pub end : (o : Object) (k : ℕ) (root : RootId) →
        f (Ref root RefDid.Ended) + (f (At o k (End root)) + f (Ref root RefDid.Vacated)) ≤ g (Ref root RefDid.Ended)
        + (g (At o k (End root)) + g (Ref root RefDid.Vacated))
    pub shed : (o p : Object) (k l : ℕ) (r : RegionId) → P o (Shed r)
        → f (At o k (Shed r)) + f (At p l (Give r)) ≤ g (At o k (Shed r)) + g (At p l (Give r))

  less-away : (f g : Note → ℕ) → Less f g → (r : RegionId) (d : Did) (refused : Option ToldNote) (away : ToldNote)
      → AreQuiet P refused → IsAt d away.note → PutsAway r d
      → sum_notes f (before refused (away ∷ [])) ≤ sum_notes g (before refused (away ∷ []))
  less-away f g less r d None away quiet at puts =
      omega (arith, less.other away.note (away-other r d away.note at puts))
  less-away f g less r d (Some x) away quiet at puts =
      omega (
        arith,
        less.other x.note (quiet-other x.note quiet),
        less.other away.note (away-other r d away.note at puts),
      )

  pub less-act : (f g : Note → ℕ) → Less f g → (a : Act P) → sum_notes f (act_notes a) ≤ sum_notes g (act_notes a)
  less-act f g less (Act.Quiet e quiet) = omega (arith, less.other e.note (quiet-other e.note quiet))
  less-act f g less (Act.Births got birth set b) =
      omega (
        arith,
        less.other got.note (gets-other b.region b.did got.note b.got_is b.gets),
        less.birth b.birth_is.object b.birth_is.number b.root (one_more b.region),
        ap f b.birth_is.is,
        ap g b.birth_is.is,
        ap f b.set_is,
        ap g b.set_is,
      )
  less-act f g less (Act.Grows got growth refused away quiet x) =
      omega (
        arith,
        less.other got.note (gets-other x.region x.got_did got.note x.got_is x.gets),
        less.growth x.growth_is.object x.growth_is.number x.capacity (one_more x.region),
        ap f x.growth_is.is,
        ap g x.growth_is.is,
        less-away f g less x.left x.did refused away quiet x.away_is x.puts_away,
      )
  less-act f g less (Act.Spares got found refused away still quiet x) =
      omega (
        arith,
        less.other got.note (gets-other x.region x.got_did got.note x.got_is x.gets),
        less.other found.note (quiet-other found.note still),
        less-away f g less x.region x.did refused away quiet x.away_is x.puts_away,
      )
  less-act f g less (Act.Ends ended end vacated refused away quiet e) =
      omega (
        arith,
        less-away f g less e.region e.did refused away quiet e.away_is e.puts_away,
        less.end e.end_is.object e.end_is.number e.root,
        ap f e.ended_is,
        ap g e.ended_is,
        ap f e.end_is.is,
        ap g e.end_is.is,
        ap f e.vacated_is,
        ap g e.vacated_is,
      )
  less-act f g less (Act.Sheds shed given x) =
      omega (
        arith,
        less.shed x.shed_is.object x.given_is.object x.shed_is.number x.given_is.number x.region x.may,
        ap f
            x.shed_is.is,
        ap g x.shed_is.is,
        ap f x.given_is.is,
        ap g x.given_is.is,
      )

  pub less-acts : (f g : Note → ℕ) → Less f g → (es rest : ToldNotes) → Acts P es rest
      → sum_notes f rest ≤ sum_notes g rest → sum_notes f es ≤ sum_notes g es
  less-acts f g less es rest a last =
      omega (
        arith,
        go a.acts,
        ap (sum_notes f) a.are,
        ap (sum_notes g) a.are,
        notes-append f (all_notes a.acts) rest,
        notes-append g (all_notes a.acts) rest,
        last,
      )
    where
      go : (acts : List (Act P)) → sum_notes f (all_notes acts) ≤ sum_notes g (all_notes acts)
      go [] = omega arith
      go (x ∷ acts) =
          omega (
            arith,
            go acts,
            less-act f g less x,
            notes-append f (act_notes x) (all_notes acts),
            notes-append g
                (act_notes x) (all_notes acts),
          )
