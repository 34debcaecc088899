-- Between two takings of one arena whose places overlap, the first came back.
use Rattle.std.proofs.Common.{⊎_elim, ◌≡◌, inl, inr, ℕ, List, [], ◌∷◌, ◌++◌, refl, sym, ap, subst, arith, Bool, true, false, Some, None, ◌∙◌}
use Rattle.std.specs.Prelude.{nat_lt, not, filter, Option, option_map, option_and_then}
use Rattle.std.specs.List.{list_any}
use Rattle.size_classes.specs.Sizes.{Geometry, class_count, IsPage}
use Rattle.pool_law.specs.declared.id.RegionId.{RegionId}
use Rattle.pool_law.specs.declared.note.Did.{Did}
use Rattle.pool_law.specs.declared.note.Did.TheVariants.{Take, Full, Give}
use Rattle.pool_law.specs.declared.run.Shape.{Shape}
use Rattle.pool_law.specs.Limits.{geometry_of}
use Rattle.pool_law.specs.Same.{same_taking, same_region}
use Rattle.pool_law.specs.Arenas.{Arena, new_arena, take_class, noted_taking, take, give, is_out_of, as_noted, if_none, arena_step}
use Rattle.pool_law.specs.Histories.{after}
use Rattle.arena_laws.specs.Slots.{EachTwo, ArenaHolds, AreApart, OutApart}
use Rattle.arena_laws.specs.Returns.{gives, ComesBackBetween}
use Rattle.arena_laws.proofs.ElementTakes.{ClassTaken, take_class-is}
use Rattle.arena_laws.proofs.GiveSteps.{IsOne}
use Rattle.arena_laws.proofs.ElementGives.{EachOf-one}
use Rattle.arena_laws.proofs.ArenaLaw.{step-holds, after-holds, new-holds, pairs-apart}
use Rattle.pool_law.proofs.SameLemmas.{same_region-is}
use Rattle.std.proofs.lemmas.Bool.{cond_both, true_from_ne_false, or_parts}

pub IsOne-front : {X : Type 0} (x : X) (xs ys : List X) → IsOne x xs → IsOne x (xs ++ ys)
IsOne-front x [] ys o = absurd o
IsOne-front x (y ∷ xs) ys (inl o) = inl o
IsOne-front x (y ∷ xs) ys (inr o) = inr (IsOne-front x xs ys o)

pub IsOne-last : {X : Type 0} (x : X) (xs : List X) → IsOne x (xs ++ x ∷ [])
IsOne-last x [] = inl refl
IsOne-last x (y ∷ xs) = inr (IsOne-last x xs)

pub IsOne-filter : {X : Type 0} (test : X → Bool) (x : X) (xs : List X) → IsOne x xs → test x ≡ true
    → IsOne x (filter test xs)
IsOne-filter test x [] o passes = absurd o
IsOne-filter test x (y ∷ ys) (inl o) passes =
    cond_both (test y) (y ∷ filter test ys) (filter test ys) (IsOne x) (λ _. inl o)
    (λ bad. absurd (let both : true ≡ false = sym passes ∙ ap test o ∙ bad in cc both))
IsOne-filter test x (y ∷ ys) (inr o) passes =
    cond_both (test y) (y ∷ filter test ys) (filter test ys) (IsOne x) (λ _. inr (IsOne-filter test x ys o passes))
    (λ _. IsOne-filter test x ys o passes)

-- a fact of each two holds of the last and any before it
pub EachTwo-last : {X : Type 0} (R : X → X → Type 0) (x y : X) (xs : List X) → EachTwo R (xs ++ y ∷ []) → IsOne x xs
    → R x y
EachTwo-last R x y [] h o = absurd o
EachTwo-last R x y (z ∷ zs) h (inl o) =
    subst (λ w. R w y) (sym o) (EachOf-one (R z) (zs ++ y ∷ []) y h.0 (IsOne-last y zs))
EachTwo-last R x y (z ∷ zs) h (inr o) = EachTwo-last R x y zs h.1 o

-- a history of one note is one step
pub one-step : {S : Type 0} (step : S → Did → Option S) (s t : S) (d : Did) → after step s (d ∷ []) ≡ Some t
    → step s d ≡ Some t
one-step {S = S} step s t d e = go (step s d) e
  where
    go : (o : Option S) → option_and_then (λ m. after step m []) o ≡ Some t → o ≡ Some t
    go None is = cc is
    go (Some m) is = is

-- a history is one history after another
pub after-append : {S : Type 0} (step : S → Did → Option S) (xs ys : List Did) (s t : S)
    → after step s (xs ++ ys) ≡ Some t → (m : S) × (after step s xs ≡ Some m) × (after step m ys ≡ Some t)
after-append step [] ys s t e = (s, refl, e)
after-append {S = S} step (x ∷ xs) ys s t e = go (step s x) e (λ m. after-append step xs ys m t)
  where
    go : (o : Option S) → option_and_then (λ m. after step m (xs ++ ys)) o ≡ Some t →
        ((m : S) → after step m (xs ++ ys) ≡ Some t → (n : S) × (after step m xs ≡ Some n) × (after step n ys ≡ Some t))
        →
        (n : S) × (option_and_then (λ m. after step m xs) o ≡ Some n) × (after step n ys ≡ Some t)
    go None is rest = absurd (cc is)
    go (Some m) is rest = rest m is

module _ (g : Geometry) (number : ℕ) where
  -- a taking is the last of those that are out
  pub take-out : (a : Arena) (class owner : ℕ) → ArenaHolds g number a → (t : RegionId × Arena)
      → take g number a class owner ≡ Some t → t.1.out ≡ a.out ++ t.0 ∷ []
  take-out a class owner holds t e = go (take_class g a class) (λ u. take_class-is g number class a holds u) e
    where
      go : (o : Option (ℕ × ℕ × Arena)) → ((u : ℕ × ℕ × Arena) → o ≡ Some u → ClassTaken g number a u.2 u.0 u.1 class) →
          option_map (noted_taking number class owner) o ≡ Some t → t.1.out ≡ a.out ++ t.0 ∷ []
      go None found is = absurd (cc is)
      go (Some u) found is =
          let same : noted_taking number class owner u ≡ t = cc is in
          subst (λ x. x.1.out ≡ a.out ++ x.0 ∷ []) same
          (ap (λ xs. xs ++ (noted_taking number class owner u).0 ∷ []) (found u refl).out)

  -- the takings that are out after a note of taking
  pub take_note-out : (a b : Arena) (class : ℕ) (region : RegionId) → ArenaHolds g number a
      → arena_step g number a (Take class region) ≡ Some b
      → (r : RegionId) × (same_region region r ≡ true) × (b.out ≡ a.out ++ r ∷ [])
  take_note-out a b class region holds e =
      go (take g number a class region.owner) (λ t. take-out a class region.owner holds t) e
    where
      go : (o : Option (RegionId × Arena)) → ((t : RegionId × Arena) → o ≡ Some t → t.1.out ≡ a.out ++ t.0 ∷ [])
          → as_noted region o ≡ Some b → (r : RegionId) × (same_region region r ≡ true) × (b.out ≡ a.out ++ r ∷ [])
      go None found is = absurd (cc is)
      go (Some t) found is =
          cond_both (same_region region t.0) (Some t.1) None
          (λ z. z ≡ Some b → (r : RegionId) × (same_region region r ≡ true) × (b.out ≡ a.out ++ r ∷ []))
          (λ yes same. let arena : t.1 ≡ b = cc same in
          (t.0, yes, subst (λ x. x.out ≡ a.out ++ t.0 ∷ []) arena (found t refl)))
          (λ _ same. absurd (cc same))
          is

  -- a taking that is out stays out, unless the note gives it back
  pub step-keeps : (a b : Arena) (d : Did) (r : RegionId) → ArenaHolds g number a → arena_step g number a d ≡ Some b
      → IsOne r a.out → gives r d ≡ false → IsOne r b.out
  step-keeps a b (Take class region) r holds e o kept =
      let t : (s : RegionId) × (same_region region s ≡ true)
      × (b.out ≡ a.out ++ s ∷ []) = take_note-out a b class region holds e in
      subst (IsOne r) (sym t.2) (IsOne-front r a.out (t.0 ∷ []) o)
  step-keeps a b (Full class) r holds e o kept =
      cond_both (nat_lt class (class_count g)) (if_none (take g number a class 0) a) None
      (λ z. z ≡ Some b → IsOne r b.out)
      (λ _ is. go (take g number a class 0) is) (λ _ is. absurd (cc is)) e
    where
      go : (x : Option (RegionId × Arena)) → if_none x a ≡ Some b → IsOne r b.out
      go None is = let same : a ≡ b = cc is in subst (λ x. IsOne r x.out) same o
      go (Some t) is = absurd (cc is)
  step-keeps a b (Give region) r holds e o kept =
      cond_both (is_out_of a region) (Some (give g a region)) None (λ z. z ≡ Some b → IsOne r b.out)
      (λ _ is. let same : give g a region ≡ b = cc is in
      subst (λ x. IsOne r x.out) same (IsOne-filter (λ other. not (same_taking region other)) r a.out o (ap not kept)))
      (λ _ is. absurd (cc is))
      e
  step-keeps a b _ r holds e o kept = absurd (cc e)

  pub after-keeps : (ds : List Did) (a b : Arena) (r : RegionId) → ArenaHolds g number a
      → after (arena_step g number) a ds ≡ Some b → IsOne r a.out → list_any (gives r) ds ≡ false → IsOne r b.out
  after-keeps [] a b r holds e o kept = let same : a ≡ b = cc e in subst (λ x. IsOne r x.out) same o
  after-keeps (d ∷ ds) a b r holds e o kept =
      go (arena_step g number a d) (λ t. step-holds g number a t d holds)
      (λ t is. step-keeps a t d r holds is o (or_parts (gives r d) (list_any (gives r) ds) kept).0) e
      (λ t h is one. after-keeps ds t b r h is one (or_parts (gives r d) (list_any (gives r) ds) kept).1)
    where
      go : (x : Option Arena) → ((t : Arena) → x ≡ Some t → ArenaHolds g number t)
          → ((t : Arena) → x ≡ Some t → IsOne r t.out)
          → option_and_then (λ t. after (arena_step g number) t ds) x ≡ Some b →
          ((t : Arena) → ArenaHolds g number t → after (arena_step g number) t ds ≡ Some b → IsOne r t.out
          → IsOne r b.out) → IsOne r b.out
      go None h o' is rest = absurd (cc is)
      go (Some t) h o' is rest = rest t (h t refl) is (o' t refl)

  -- two takings of which the first is still out lie apart
  pub both-out : (before between : List Did) (c d : ℕ) (r s : RegionId) (z a : Arena) → ArenaHolds g number z →
      after (arena_step g number) z (before ++ Take c r ∷ (between ++ Take d s ∷ [])) ≡ Some a
      → list_any (gives r) between ≡ false → r.place.chunk ≡ s.place.chunk → AreApart r.place s.place
  both-out before between c d r s z a holds e kept same =
      let first : (m : Arena) × (after (arena_step g number) z before ≡ Some m)
      × (after (arena_step g number) m (Take c r ∷ (between ++ Take d s ∷ [])) ≡ Some a) =
      after-append (arena_step g number) before (Take c r ∷ (between ++ Take d s ∷ [])) z a e in
      let m_holds : ArenaHolds g number first.0 = after-holds g number before z first.0 holds first.1 in
      let second : (m : Arena) × (after (arena_step g number) first.0 (Take c r ∷ []) ≡ Some m)
      × (after (arena_step g number) m (between ++ Take d s ∷ []) ≡ Some a) =
      after-append (arena_step g number) (Take c r ∷ []) (between ++ Take d s ∷ []) first.0 a first.2 in
      let third : (m : Arena) × (after (arena_step g number) second.0 between ≡ Some m)
      × (after (arena_step g number) m (Take d s ∷ []) ≡ Some a) =
      after-append (arena_step g number) between (Take d s ∷ []) second.0 a second.2 in
      let n_holds : ArenaHolds g number second.0 =
      after-holds g number (Take c r ∷ []) first.0 second.0 m_holds second.1 in
      let k_holds : ArenaHolds g number third.0 = after-holds g number between second.0 third.0 n_holds third.1 in
      let taken : (x : RegionId) × (same_region r x ≡ true)
      × (second.0.out ≡ first.0.out ++ x ∷ []) =
      take_note-out first.0 second.0 c r m_holds
      (one-step (arena_step g number) first.0 second.0 (Take c r) second.1) in
      let r_is : r ≡ taken.0 = same_region-is r taken.0 taken.1 in
      let r_out : IsOne r second.0.out = subst (IsOne r) (sym taken.2)
      (subst (λ y. IsOne r (first.0.out ++ y ∷ [])) r_is (IsOne-last r first.0.out)) in
      let still : IsOne r third.0.out = after-keeps between second.0 third.0 r n_holds third.1 r_out kept in
      let last : (x : RegionId) × (same_region s x ≡ true)
      × (a.out ≡ third.0.out ++ x ∷ []) = take_note-out third.0 a d s k_holds
      (one-step (arena_step g number) third.0 a (Take d s) third.2) in
      let s_is : s ≡ last.0 = same_region-is s last.0 last.1 in
      let a_holds : ArenaHolds g number a = after-holds g number (Take d s ∷ []) third.0 a k_holds third.2 in
      let apart : OutApart a = pairs-apart g number a a_holds.sound a.out a_holds.located a_holds.elsewhere in
      let listed : EachTwo (λ x y. x.place.chunk ≡ y.place.chunk → AreApart x.place y.place) (third.0.out ++ s ∷ []) =
      subst (λ y. EachTwo (λ x y. x.place.chunk ≡ y.place.chunk → AreApart x.place y.place) (third.0.out ++ y ∷ []))
      (sym s_is) (subst (EachTwo (λ x y. x.place.chunk ≡ y.place.chunk → AreApart x.place y.place)) last.2
      apart) in
      EachTwo-last (λ x y. x.place.chunk ≡ y.place.chunk → AreApart x.place y.place) r s third.0.out listed still same

pub comes-back : (shape : Shape) (number : ℕ) → IsPage shape.page → ComesBackBetween shape number
comes-back shape number page before between c d r s a e over =
    true_from_ne_false (list_any (gives r) between)
    (λ kept. ⊎_elim (λ x. omega (arith, over.second, x)) (λ x. omega (arith, over.first, x))
    (both-out (geometry_of shape) number before between c d r s (new_arena (geometry_of shape) shape.chunks) a
    (new-holds (geometry_of shape) number page shape.chunks) e kept over.chunk))
