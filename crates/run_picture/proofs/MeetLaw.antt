-- In a history of an arena no two takings share a byte at a moment.
use Rattle.std.proofs.Common.{◌≡◌, ℕ, ◌+◌, ◌<◌, Bool, true, false, List, [], ◌∷◌, ◌++◌, length, refl, sym, ap, subst, ◌∙◌, arith, Some, None}
use Rattle.std.specs.Prelude.{if◌then◌else◌, ◌||◌, Option, is_some, IsTrue}
use Rattle.std.specs.List.{list_any}
use Rattle.std.proofs.lemmas.List.{map-append, length_push}
use Rattle.size_classes.specs.Sizes.{IsPage}
use Rattle.pool_law.specs.declared.id.RegionId.{RegionId}
use Rattle.pool_law.specs.declared.note.Did.{Did}
use Rattle.pool_law.specs.declared.note.Did.TheVariants.{Take, Full, Give, Hit, Miss, Kept, Back, Trim, Close, Shed, Handle, NoHandle, Home, Post, Fetch, Birth, Set, Get, Touch, Room, Extend, Grow, End}
use Rattle.pool_law.specs.declared.note.Object.{Object}
use Rattle.pool_law.specs.declared.run.Run.{Run}
use Rattle.pool_law.specs.declared.run.Shape.{Shape}
use Rattle.pool_law.specs.Limits.{geometry_of}
use Rattle.pool_law.specs.Arenas.{Arena, new_arena, arena_step, listed}
use Rattle.pool_law.specs.Histories.{after, arena_after, IsAccepted}
use Rattle.pool_law.specs.Logs.{History, dids, history_of}
use Rattle.pool_law.specs.Legal.{IsLegal, logs_of}
use Rattle.pool_law.proofs.HistoryLemmas.{append-assoc}
use Rattle.arena_laws.specs.Returns.{gives}
use Rattle.arena_laws.specs.Slots.{EachOf, EachTwo}
use Rattle.arena_laws.proofs.ReturnLaw.{after-append, comes-back}
use Rattle.run_picture.specs.declared.blocks.Return.{Return}
use Rattle.run_picture.specs.Blocks.{return_from, region_taken, block_of, blocks_from, arena_blocks, IsLaterThan, NeverMeet, LieApart}

EachOf-append : {X : Type 0} (P : X → Type 0) (xs ys : List X) → EachOf P xs → EachOf P ys → EachOf P (xs ++ ys)
EachOf-append P [] ys a b = b
EachOf-append P (x ∷ xs) ys a b = (a.0, EachOf-append P xs ys a.1 b)

-- what takes a region is a Take of it
taken-is : (d : Did) (s : RegionId) → region_taken d ≡ Some s → (c : ℕ) × (d ≡ Take c s)
taken-is (Take c r) s e = let same : r ≡ s = cc e in (c, ap (λ x. Take c x) same)
taken-is (Full c) s e = absurd (cc e)
taken-is (Give r) s e = absurd (cc e)
taken-is (Hit r) s e = absurd (cc e)
taken-is Miss s e = absurd (cc e)
taken-is (Kept r) s e = absurd (cc e)
taken-is (Back r why) s e = absurd (cc e)
taken-is (Trim q) s e = absurd (cc e)
taken-is (Close q) s e = absurd (cc e)
taken-is (Shed r) s e = absurd (cc e)
taken-is (Handle p) s e = absurd (cc e)
taken-is NoHandle s e = absurd (cc e)
taken-is (Home p) s e = absurd (cc e)
taken-is (Post p) s e = absurd (cc e)
taken-is (Fetch p) s e = absurd (cc e)
taken-is (Birth q r) s e = absurd (cc e)
taken-is (Set o b) s e = absurd (cc e)
taken-is (Get o b) s e = absurd (cc e)
taken-is Touch s e = absurd (cc e)
taken-is (Room asked capacity) s e = absurd (cc e)
taken-is (Extend size) s e = absurd (cc e)
taken-is (Grow capacity r) s e = absurd (cc e)
taken-is (End q) s e = absurd (cc e)

-- where one of these notes gives a taking back, it comes back before what follows
return-early : (r : RegionId) (k : ℕ) (pre h : History) → list_any (gives r) (dids pre) ≡ true →
    (b : Return) × (return_from r k (pre ++ h) ≡ Some b) × (b.number < k + length pre)
return-early r k [] h e = absurd (cc e)
return-early r k (x ∷ pre) h e =
    go (gives r x.1) e (λ rest. return-early r (k + 1) pre h rest)
  where
    go : (b : Bool) → (b || list_any (gives r) (dids pre)) ≡ true →
        (list_any (gives r) (dids pre) ≡ true →
        (b : Return) × (return_from r (k + 1) (pre ++ h) ≡ Some b) × (b.number < k + 1 + length pre)) →
        (y : Return)
        × ((if b then Some (record { number = k; lane = x.0 }) else return_from r (k + 1) (pre ++ h)) ≡ Some y)
        × (y.number < k + length (x ∷ pre))
    go true any rest = (record { number = k; lane = x.0 }, refl, omega arith)
    go false any rest =
        let found : (b : Return) × (return_from r (k + 1) (pre ++ h) ≡ Some b) × (b.number < k + 1 + length pre) =
        rest any in
        (found.0, found.1, omega (arith, found.2))

module _ (shape : Shape) (number : ℕ) (page : IsPage shape.page) where
  -- what a longer history begins with is accepted
  front-accepted : (xs ys : List Did) (a : Arena) → arena_after shape number (xs ++ ys) ≡ Some a →
      (m : Arena) × (arena_after shape number xs ≡ Some m)
  front-accepted xs ys a e =
      let found : (m : Arena)
      × (after (arena_step (geometry_of shape) number) (new_arena (geometry_of shape) shape.chunks) xs ≡ Some m)
      × (after (arena_step (geometry_of shape) number) m ys ≡ Some a) =
      after-append (arena_step (geometry_of shape) number) xs ys (new_arena (geometry_of shape) shape.chunks) a e in
      (found.0, found.1)

  -- a taking and one that comes after these notes
  meets-none : (before : List Did) (c d : ℕ) (r s : RegionId) (k lane other : ℕ) (pre h rest : History) (a : Arena) →
      arena_after shape number (before ++ Take c r ∷ (dids pre ++ Take d s ∷ [])) ≡ Some a →
      NeverMeet (block_of k lane (pre ++ h) r) (block_of (k + 1 + length pre) other rest s)
  meets-none before c d r s k lane other pre h rest a e m first second over =
      let early : (b : Return) × (return_from r (k + 1) (pre ++ h) ≡ Some b) × (b.number < k + 1 + length pre) =
      return-early r (k + 1) pre h (comes-back shape number page before (dids pre) c d r s a e over) in
      let later : m < early.0.number = subst (λ o. IsLaterThan m o) early.1 first.1 in
      omega (arith, later, early.2, second.0)

  -- a taking and all that come after it
  meets-later : (before : List Did) (c : ℕ) (r : RegionId) (k lane : ℕ) (pre h : History) (a : Arena) →
      arena_after shape number (before ++ Take c r ∷ dids (pre ++ h)) ≡ Some a →
      EachOf (NeverMeet (block_of k lane (pre ++ h) r)) (blocks_from (k + 1 + length pre) h)
  meets-later before c r k lane pre [] a e = tt
  meets-later before c r k lane pre (x ∷ h) a e =
      let whole : pre ++ x ∷ h ≡ (pre ++ x ∷ []) ++ h = sym (append-assoc pre (x ∷ []) h) in
      let long : k + 1 + length (pre ++ x ∷ []) ≡ k + 1 + length pre + 1 = omega (arith, length_push pre x) in
      EachOf-append (NeverMeet (block_of k lane (pre ++ x ∷ h) r))
      (listed (region_taken x.1) (block_of (k + 1 + length pre) x.0 h))
      (blocks_from (k + 1 + length pre + 1) h)
      (here (region_taken x.1) refl)
      (subst (λ n. EachOf (NeverMeet (block_of k lane (pre ++ x ∷ h) r)) (blocks_from n h)) long
      (subst (λ w. EachOf (NeverMeet (block_of k lane w r)) (blocks_from (k + 1 + length (pre ++ x ∷ [])) h))
      (sym whole)
      (meets-later before c r k lane (pre ++ x ∷ []) h a
      (subst (λ w. arena_after shape number (before ++ Take c r ∷ dids w) ≡ Some a) whole e))))
    where
      here : (o : Option RegionId) → region_taken x.1 ≡ o →
          EachOf (NeverMeet (block_of k lane (pre ++ x ∷ h) r)) (listed o (block_of (k + 1 + length pre) x.0 h))
      here None is = tt
      here (Some s) is =
          let taken : (d : ℕ) × (x.1 ≡ Take d s) = taken-is x.1 s is in
          let parts : before ++ Take c r ∷ dids (pre ++ x ∷ h)
          ≡ (before ++ Take c r ∷ (dids pre ++ Take taken.0 s ∷ [])) ++ dids h =
          ap (λ w. before ++ Take c r ∷ w)
          (map-append (λ (y : ℕ × Did). y.1) pre (x ∷ h)
          ∙ ap (λ d. dids pre ++ d ∷ dids h) taken.1
          ∙ sym (append-assoc (dids pre) (Take taken.0 s ∷ []) (dids h)))
          ∙ sym (append-assoc before (Take c r ∷ (dids pre ++ Take taken.0 s ∷ [])) (dids h)) in
          let front : (m : Arena)
          × (arena_after shape number (before ++ Take c r ∷ (dids pre ++ Take taken.0 s ∷ [])) ≡ Some m) =
          front-accepted (before ++ Take c r ∷ (dids pre ++ Take taken.0 s ∷ [])) (dids h) a
          (subst (λ w. arena_after shape number w ≡ Some a) parts e) in
          (meets-none before c taken.0 r s k lane x.0 pre (x ∷ h) h front.0 front.1, tt)

  -- all takings of a history
  all-apart : (before : List Did) (k : ℕ) (h : History) (a : Arena) →
      arena_after shape number (before ++ dids h) ≡ Some a → EachTwo NeverMeet (blocks_from k h)
  all-apart before k [] a e = tt
  all-apart before k (x ∷ h) a e =
      let rest : EachTwo NeverMeet (blocks_from (k + 1) h) =
      all-apart (before ++ x.1 ∷ []) (k + 1) h a
      (subst (λ w. arena_after shape number w ≡ Some a) (sym (append-assoc before (x.1 ∷ []) (dids h))) e) in
      first (region_taken x.1) refl rest
    where
      first : (o : Option RegionId) → region_taken x.1 ≡ o → EachTwo NeverMeet (blocks_from (k + 1) h) →
          EachTwo NeverMeet (listed o (block_of k x.0 h) ++ blocks_from (k + 1) h)
      first None is rest = rest
      first (Some r) is rest =
          let taken : (c : ℕ) × (x.1 ≡ Take c r) = taken-is x.1 r is in
          let none : k + 1 + length (let xs : History = [] in xs) ≡ k + 1 = omega arith in (
            subst (λ n. EachOf (NeverMeet (block_of k x.0 h r)) (blocks_from n h)) none
                (meets-later before taken.0 r k x.0 [] h a
                (subst (λ d. arena_after shape number (before ++ d ∷ dids h) ≡ Some a) taken.1 e)),
            rest,
          )

  -- an accepted history has a last state
  pub accepted-apart : (h : History) → IsAccepted shape (Object.Arena number) (dids h) →
      LieApart (blocks_from 1 h)
  accepted-apart h ok = go (arena_after shape number (dids h)) refl ok
    where
      go : (o : Option Arena) → arena_after shape number (dids h) ≡ o → IsTrue (is_some o) → LieApart (blocks_from 1 h)
      go None is there = absurd (cc there)
      go (Some a) is there = all-apart [] 1 h a is

pub never-meet : (run : Run) → IsLegal run → (arena : ℕ) → LieApart (arena_blocks run arena)
never-meet run legal arena =
    accepted-apart run.shape arena legal.shape.page (history_of (Object.Arena arena) (logs_of run))
    (legal.histories.accepted (Object.Arena arena) refl)
