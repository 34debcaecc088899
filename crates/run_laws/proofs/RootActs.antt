-- How a region is obtained and a root allotted: what is noted of it are acts.
use Rattle.std.proofs.Common.{⊎_elim, ◌≡◌, ℕ, ◌+◌, ◌%◌, ◌∷◌, refl, sym, ap, subst, Some, None, Ok, Err, ◌∙◌}
use Rattle.std.specs.Prelude.{◌==◌, ◌&&◌, if◌then◌else◌, Option, Result}
use Rattle.size_classes.specs.Sizes.{class_of}
use Rattle.pool_law.specs.declared.id.RootId.{RootId}
use Rattle.pool_law.specs.declared.id.RegionId.{RegionId}
use Rattle.pool_law.specs.declared.note.Object.{Object}
use Rattle.pool_law.specs.declared.note.Did.{Did}
use Rattle.pool_law.specs.declared.note.Did.TheVariants.{Take, Full, Hit, Miss, Handle, NoHandle, Home, Birth}
use Rattle.pool_law.specs.declared.note.RefDid.{RefDid}
use Rattle.pool_law.specs.declared.note.Note.TheVariants.{At, Ref}
use Rattle.pool_law.specs.declared.run.Shape.{Shape}
use Rattle.pool_law.specs.declared.run.Reply.{Reply}
use Rattle.pool_law.specs.Limits.{geometry_of, has_cache}
use Rattle.pool_law.specs.Same.{same_region}
use Rattle.pool_law.specs.Logs.{ToldNote}
use Rattle.pool_law.specs.Dids as says
use Rattle.pool_law.specs.Readers.{ToldNotes, Log, Reader, ◌>>=◌, ◌>>◌, ◌or◌, give, given, unless_there, found, not_found, marked, note, step, busy, access, ask}
use Rattle.pool_law.specs.Patterns.{ask_cache, ask_arena, obtain, New, one_more, bear, with_handle, allot}
use Rattle.pool_law.proofs.SameLemmas.{same_region-is, and-second}
use Rattle.run_laws.proofs.CacheLaw.{if_so-is}
use Rattle.run_laws.proofs.PlaceLaw.{if_so-test}
use Rattle.run_laws.proofs.Acts.{IsStill, IsStep, IsQuiet, Gets, IsAt, Birthing, Act, Acts, no-acts, acts-then, one-act, acts-before}
use Rattle.std.proofs.lemmas.Bool.{cond_both}
use Rattle.run_laws.proofs.Readings.{bind-some, or-some, marked-quiet, next-read, note-read, step-read, access-read}
use Rattle.run_laws.proofs.Keeping.{Chains, Keeps, keeps-give, keeps-given, keeps-bind, keeps-then, keeps-or}

module _ (P : Object → Did → Type 0) where
  pub acts-chain : Chains (Acts P)
  acts-chain =
      record {
        none = λ es. no-acts es es refl;
        more = λ es mid rest a b. acts-then es mid rest a b;
        front =
            λ es rest a. acts-before es rest a;
      }

  -- ---- One quiet note.

  pub note-acts : {A : Type 0} (o : Object) (says_it : Did → Option A)
      → ((d : Did) (a : A) → says_it d ≡ Some a → IsStill P o d) → Keeps (Acts P) (note o says_it)
  note-acts o says_it still log p is =
      let n = note-read o says_it log p is in
      one-act (Act.Quiet n.entry (subst (IsQuiet P) (sym n.is) (still n.did p.0 n.said))) log.left p.1.left n.are

  pub step-acts : {A : Type 0} (r : RootId) (says_it : RefDid → Option A)
      → ((d : RefDid) (a : A) → says_it d ≡ Some a → IsStep d) → Keeps (Acts P) (step r says_it)
  step-acts r says_it still log p is =
      let n = step-read r says_it log p is in
      one-act (Act.Quiet n.entry (subst (IsQuiet P) (sym n.is) (still n.did p.0 n.said))) log.left p.1.left n.are

  pub access-acts : {A : Type 0} (r : RootId) (says_it : Did → Option A)
      → ((d : Did) (a : A) → says_it d ≡ Some a → IsStill P (Object.Root r.place) d) → Keeps (Acts P) (access r says_it)
  access-acts r says_it still log p is =
      let n = access-read r says_it log p is in
      one-act (Act.Quiet n.read.entry (subst (IsQuiet P) (sym n.read.is) (still n.read.did p.0 n.read.said))) log.left
      p.1.left n.read.are

  pub busy-acts : (o : Object) → Keeps (Acts P) (busy o)
  busy-acts o log p is =
      let n = next-read (λ e. marked o e.note) log p is in
      one-act (Act.Quiet n.0 (marked-quiet P o n.0.note p.0 n.2)) log.left p.1.left n.1

  -- ---- A region is obtained.

  -- acts, and then what got a region, if one was got
  pub record InHand (r : RegionId) (es rest : ToldNotes) : Type 0 where
    pub got : ToldNote
    pub did : Did
    pub got_is : IsAt did got.note
    pub gets : Gets r did
    pub acts : Acts P es (got ∷ rest)

  abbrev pub GotBy : Option RegionId → ToldNotes → ToldNotes → Type 0
  GotBy None es rest = Acts P es rest
  GotBy (Some r) es rest = InHand r es rest

  -- a reading gives what it got
  abbrev pub Obtains : Reader (Option RegionId) → Type 0
  Obtains r = (log : Log) (p : Option RegionId × Log) → r log ≡ Some p → GotBy p.0 log.left p.1.left

  pub got-then : (r : Option RegionId) (es mid rest : ToldNotes) → Acts P es mid → GotBy r mid rest → GotBy r es rest
  got-then None es mid rest a b = acts-then es mid rest a b
  got-then (Some r) es mid rest a b =
      record {
        got = b.got;
        did = b.did;
        got_is = b.got_is;
        gets = b.gets;
        acts =
            acts-then es mid (b.got ∷ rest) a b.acts;
      }

  pub found-got : (o : Object) (says_it : Did → Option RegionId)
      → ((d : Did) (r : RegionId) → says_it d ≡ Some r → Gets r d) → Obtains (found (note o says_it))
  found-got o says_it gets log p is =
      let x = bind-some (note o says_it log) (λ got. give (Some got.0) got.1) p is in
      let n = note-read o says_it log x.0 x.1 in
      let same : ◌≡◌ {A = Option RegionId × Log} (Some x.0.0, x.0.1) p = cc x.2 in
      subst (λ q. GotBy q.0 log.left q.1.left) same
      (record {
        got = n.entry;
        did = n.did;
        got_is = record { object = o; number = n.number; is = n.is };
        gets =
            gets n.did x.0.0 n.said;
        acts = no-acts log.left (n.entry ∷ x.0.1.left) n.are;
      })

  pub not_found-got : {A : Type 0} (r : Reader A) → Keeps (Acts P) r → Obtains (not_found r)
  not_found-got r h log p is =
      let x = bind-some (r log) (λ got. give None got.1) p is in
      let same : ◌≡◌ {A = Option RegionId × Log} (None, x.0.1) p = cc x.2 in
      subst (λ q. GotBy q.0 log.left q.1.left) same (h log x.0 x.1)

  pub or-got : (r q : Reader (Option RegionId)) → Obtains r → Obtains q → Obtains (r or q)
  or-got r q h k log p is = ⊎_elim (λ e. h log p e) (λ e. k log p e) (or-some (r log) (q log) p is)

  pub ask_arena-got : (shape : Shape) (lane class : ℕ) → Obtains (ask_arena shape lane class)
  ask_arena-got shape lane class =
      or-got (found (note (Object.Arena (lane % shape.arenas)) (says.take class)))
      (not_found (note (Object.Arena (lane % shape.arenas)) (says.full class)))
      (found-got (Object.Arena (lane % shape.arenas)) (says.take class) takes)
      (not_found-got (note (Object.Arena (lane % shape.arenas)) (says.full class))
      (note-acts (Object.Arena (lane % shape.arenas)) (says.full class) fulls))
    where
      takes : (d : Did) (r : RegionId) → says.take class d ≡ Some r → Gets r d
      takes (Take other region) r e = if_so-is (class == other) region r e
      takes _ r e = absurd (cc e)

      fulls : (d : Did) (u : Unit {0}) → says.full class d ≡ Some u → IsStill P (Object.Arena (lane % shape.arenas)) d
      fulls (Full other) u e = tt
      fulls _ u e = absurd (cc e)

  pub ask_cache-got : (lane class : ℕ) → Obtains (ask_cache lane class)
  ask_cache-got lane class log p is =
      let x = bind-some (ask log) (λ got.
      (found (note (Object.Cache lane class) says.hit) or
      (not_found (note (Object.Cache lane class) says.miss) or not_found (busy (Object.Cache lane class))))
      got.1) p is in
      let same : ◌≡◌ {A = Unit {0} × Log} (tt, record log { asked = log.asked + 1 }) x.0 = cc x.1 in
      subst (λ l. GotBy p.0 l p.1.left) (ap (λ q. q.1.left) (sym same)) (asked x.0.1 p x.2)
    where
      hits : (d : Did) (r : RegionId) → says.hit d ≡ Some r → Gets r d
      hits (Hit region) r e = cc e
      hits _ r e = absurd (cc e)

      misses : (d : Did) (u : Unit {0}) → says.miss d ≡ Some u → IsStill P (Object.Cache lane class) d
      misses Miss u e = tt
      misses _ u e = absurd (cc e)

      asked : Obtains (found (note (Object.Cache lane class) says.hit) or
          (not_found (note (Object.Cache lane class) says.miss) or not_found (busy (Object.Cache lane class))))
      asked =
          or-got (found (note (Object.Cache lane class) says.hit))
          (not_found (note (Object.Cache lane class) says.miss) or not_found (busy (Object.Cache lane class)))
          (found-got (Object.Cache lane class) says.hit hits)
          (or-got (not_found (note (Object.Cache lane class) says.miss)) (not_found (busy (Object.Cache lane class)))
          (not_found-got (note (Object.Cache lane class) says.miss)
          (note-acts (Object.Cache lane class) says.miss misses))
          (not_found-got (busy (Object.Cache lane class)) (busy-acts (Object.Cache lane class))))

  pub unless_there-got : (o : Option RegionId) (r : Reader (Option RegionId)) → Obtains r
      → (es : ToldNotes) (log : Log) (p : Option RegionId × Log) → GotBy o es log.left → unless_there o r log ≡ Some p
      → GotBy p.0 es p.1.left
  unless_there-got None r h es log p got is = got-then p.0 es log.left p.1.left got (h log p is)
  unless_there-got (Some region) r h es log p got is =
      let same : ◌≡◌ {A = Option RegionId × Log} (Some region, log) p = cc is in
      subst (λ q. GotBy q.0 es q.1.left) same got

  pub obtain-got : (shape : Shape) (lane class : ℕ) → Obtains (obtain shape lane class)
  obtain-got shape lane class log p is =
      let x = bind-some ((if has_cache class then ask_cache lane class else give None) log)
      (λ got. unless_there got.0 (ask_arena shape lane class) got.1) p is in
      unless_there-got x.0.0 (ask_arena shape lane class) (ask_arena-got shape lane class) log.left x.0.1 p
      (cond_both (has_cache class) (ask_cache lane class) (give None) Obtains (λ _. ask_cache-got lane class)
      (λ _. none) log x.0 x.1) x.2
    where
      none : Obtains (give None)
      none log p is =
          let same : ◌≡◌ {A = Option RegionId × Log} (None, log) p = cc is in
          subst (λ q. GotBy q.0 log.left q.1.left) same (no-acts log.left log.left refl)

  -- ---- A root is allotted.

  pub birth-is : (place size : ℕ) (r : RegionId) (d : Did) (root : RootId) → says.birth place size r d ≡ Some root
      → d ≡ Birth root r
  birth-is place size r (Birth root' with) root e =
      let all = if_so-test ((root'.place == place) && ((root'.capacity == size) && same_region with r)) root' root e in
      let same : root' ≡ root = if_so-is ((root'.place == place) && ((root'.capacity == size) && same_region with r))
      root' root e in
      let region : with ≡ r = same_region-is with r
      (and-second (root'.capacity == size) (same_region with r)
      (and-second (root'.place == place) ((root'.capacity == size) && same_region with r) all)) in
      λ i. Birth (same i) (region i)
  birth-is place size r _ root e = absurd (cc e)

  pub born-is : (d : RefDid) (u : Unit {0}) → says.born d ≡ Some u → d ≡ RefDid.Born
  born-is RefDid.Born u e = refl
  born-is _ u e = absurd (cc e)

  pub ended-is : (d : RefDid) (u : Unit {0}) → says.ended d ≡ Some u → d ≡ RefDid.Ended
  ended-is RefDid.Ended u e = refl
  ended-is _ u e = absurd (cc e)

  pub vacated-is : (d : RefDid) (u : Unit {0}) → says.vacated d ≡ Some u → d ≡ RefDid.Vacated
  vacated-is RefDid.Vacated u e = refl
  vacated-is _ u e = absurd (cc e)

  pub home-acts : (o : Object) (place : ℕ) → Keeps (Acts P) (note o (says.home place))
  home-acts o place = note-acts o (says.home place) still
    where
      still : (d : Did) (u : Unit {0}) → says.home place d ≡ Some u → IsStill P o d
      still (Home other) u e = tt
      still _ u e = absurd (cc e)

  -- a birth, or a handle that goes home
  pub bear-acts : (lane place size : ℕ) (o : Option RegionId) (es : ToldNotes) (log : Log) (p : Result New Reply × Log)
      → GotBy o es log.left → bear lane place size o log ≡ Some p → Acts P es p.1.left
  bear-acts lane place size None es log p got is =
      acts-then es log.left p.1.left got
      (keeps-then acts-chain (note (Object.Bin lane) (says.home place)) (give (Err Reply.Full))
      (home-acts (Object.Bin lane) place) (keeps-give acts-chain (Err Reply.Full)) log p is)
  bear-acts lane place size (Some r) es log p got is =
      let b = bind-some (note (Object.Root place) (says.birth place size (one_more r)) log) _ p is in
      let s = bind-some (step b.0.0 says.born b.0.1) _ p b.2 in
      let same : ◌≡◌ {A = Result New Reply × Log} (Ok (record { root = b.0.0; region = one_more r }), s.0.1) p =
      cc s.2 in
      let n = note-read (Object.Root place) (says.birth place size (one_more r)) log b.0 b.1 in
      let w = step-read b.0.0 says.born b.0.1 s.0 s.1 in
      let birthing : Birthing got.got n.entry w.entry =
      record {
        root = b.0.0;
        region = r;
        did = got.did;
        got_is = got.got_is;
        gets = got.gets;
        birth_is =
            record {
              object = Object.Root place;
              number = n.number;
              is = n.is
                  ∙ ap (At (Object.Root place) n.number) (birth-is place size (one_more r) n.did b.0.0 n.said);
            };
        set_is = w.is ∙ ap (Ref b.0.0) (born-is w.did s.0.0 w.said);
      } in
      let there : log.left ≡ n.entry ∷ (w.entry ∷ s.0.1.left) = n.are ∙ ap (λ xs. n.entry ∷ xs) w.are in
      subst (λ q. Acts P es q.1.left) same
      (acts-then es (got.got ∷ log.left) s.0.1.left got.acts
      (one-act (Act.Births got.got n.entry w.entry birthing) (got.got ∷ log.left) s.0.1.left
      (ap (λ xs. got.got ∷ xs) there)))

  pub with_handle-acts : (shape : Shape) (lane size place : ℕ) → Keeps (Acts P) (with_handle shape lane size place)
  with_handle-acts shape lane size place =
      keeps-bind acts-chain (given (class_of (geometry_of shape) size))
      (λ class. obtain shape lane class >>= bear lane place size)
      (keeps-given acts-chain (class_of (geometry_of shape) size))
      (λ class log p is.
      let x = bind-some (obtain shape lane class log) (λ got. bear lane place size got.0 got.1) p is in
      bear-acts lane place size x.0.0 log.left x.0.1 p (obtain-got shape lane class log x.0 x.1) x.2)

  pub allot-acts : (shape : Shape) (lane size : ℕ) → Keeps (Acts P) (allot shape lane size)
  allot-acts shape lane size =
      keeps-or acts-chain (note (Object.Bin lane) says.no_handle >> give (Err Reply.Handles))
      (note (Object.Bin lane) says.handle >>= with_handle shape lane size)
      (keeps-then acts-chain (note (Object.Bin lane) says.no_handle) (give (Err Reply.Handles))
      (note-acts (Object.Bin lane) says.no_handle empty) (keeps-give acts-chain (Err Reply.Handles)))
      (keeps-bind acts-chain (note (Object.Bin lane) says.handle) (with_handle shape lane size)
      (note-acts (Object.Bin lane) says.handle handles) (with_handle-acts shape lane size))
    where
      empty : (d : Did) (u : Unit {0}) → says.no_handle d ≡ Some u → IsStill P (Object.Bin lane) d
      empty NoHandle u e = tt
      empty _ u e = absurd (cc e)

      handles : (d : Did) (place : ℕ) → says.handle d ≡ Some place → IsStill P (Object.Bin lane) d
      handles (Handle place) q e = tt
      handles _ q e = absurd (cc e)
