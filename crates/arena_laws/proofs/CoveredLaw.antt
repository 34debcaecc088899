-- After every history what is in use in an arena is the place of a taking that is out.
use Rattle.std.proofs.Common.{◌≡◌, inl, inr, ℕ, ◌+◌, ◌*◌, List, [], ◌∷◌, refl, sym, subst, true, Some, None}
use Rattle.std.specs.Prelude.{nat_lt, slice_get, Option, option_and_then}
use Rattle.std.proofs.lemmas.Bool.{cond_both}
use Rattle.size_classes.specs.Sizes.{Geometry, class_count, page_of, size_at}
use Rattle.size_classes.specs.Pages.{Run, Free, Used, pages_in}
use Rattle.size_classes.specs.Runs.{Begins}
use Rattle.size_classes.specs.Elements.{Elements}
use Rattle.pool_law.specs.declared.id.RegionId.{RegionId}
use Rattle.pool_law.specs.declared.note.Did.{Did}
use Rattle.pool_law.specs.declared.note.Did.TheVariants.{Take, Full, Give}
use Rattle.pool_law.specs.Same.{same_region}
use Rattle.pool_law.specs.Chunks.{Chunk, Use, Whole, Sub}
use Rattle.pool_law.specs.Arenas.{Arena, chunk_at, take, give, is_out_of, as_noted, if_none, arena_step}
use Rattle.pool_law.specs.Histories.{after}
use Rattle.arena_laws.specs.Slots.{ArenaHolds, IsOne}
use Rattle.arena_laws.specs.Orderly.{IsAtRest, ChunkAtRest}
use Rattle.arena_laws.specs.Covered.{IsTakenAt, IsCovered}
use Rattle.arena_laws.proofs.ElementSteps.{idle-where}
use Rattle.arena_laws.proofs.ArenaLaw.{step-holds}
use Rattle.arena_laws.proofs.OutSlots.{out-slot}
use Rattle.arena_laws.proofs.CoveredSteps.{take-covered}
use Rattle.arena_laws.proofs.CoveredGives.{give-covered}

module _ (g : Geometry) (number : ℕ) where
  -- each note keeps an arena covered
  pub step-covered : (a b : Arena) (d : Did) → ArenaHolds g number a → IsCovered g a → arena_step g number a d ≡ Some b
      → IsCovered g b
  step-covered a b (Take class region) holds covered e =
      go (take g number a class region.owner) (λ t. take-covered g number a class region.owner holds covered t) e
    where
      go : (x : Option (RegionId × Arena)) → ((t : RegionId × Arena) → x ≡ Some t → IsCovered g t.1)
          → as_noted region x ≡ Some b → IsCovered g b
      go None found is = absurd (cc is)
      go (Some t) found is =
          cond_both (same_region region t.0) (Some t.1) None (λ z. z ≡ Some b → IsCovered g b)
          (λ _ same. let arena : t.1 ≡ b = cc same in subst (λ x. IsCovered g x) arena (found t refl))
          (λ _ same. absurd (cc same))
          is
  step-covered a b (Full class) holds covered e =
      cond_both (nat_lt class (class_count g)) (if_none (take g number a class 0) a) None
      (λ z. z ≡ Some b → IsCovered g b)
      (λ _ is. go (take g number a class 0) is) (λ _ is. absurd (cc is)) e
    where
      go : (x : Option (RegionId × Arena)) → if_none x a ≡ Some b → IsCovered g b
      go None is = let same : a ≡ b = cc is in subst (λ x. IsCovered g x) same covered
      go (Some t) is = absurd (cc is)
  step-covered a b (Give region) holds covered e =
      cond_both (is_out_of a region) (Some (give g a region)) None (λ z. z ≡ Some b → IsCovered g b)
      (λ out is. let same : give g a region ≡ b = cc is in
      subst (λ x. IsCovered g x) same
      (give-covered g a holds.sound holds.whole covered region (out-slot g number a region holds out)))
      (λ _ is. absurd (cc is))
      e
  step-covered a b _ holds covered e = absurd (cc e)

  -- so does a history
  pub after-covered : (ds : List Did) (a b : Arena) → ArenaHolds g number a → IsCovered g a
      → after (arena_step g number) a ds ≡ Some b → IsCovered g b
  after-covered [] a b holds covered e = let same : a ≡ b = cc e in subst (λ x. IsCovered g x) same covered
  after-covered (d ∷ ds) a b holds covered e =
      go (arena_step g number a d) (λ t is. (step-holds g number a t d holds is, step-covered a t d holds covered is)) e
      (λ t. after-covered ds t b)
    where
      go : (x : Option Arena) → ((t : Arena) → x ≡ Some t → ArenaHolds g number t × IsCovered g t)
          → option_and_then (λ t. after (arena_step g number) t ds) x ≡ Some b →
          ((t : Arena) → ArenaHolds g number t → IsCovered g t → after (arena_step g number) t ds ≡ Some b
          → IsCovered g b) → IsCovered g b
      go None found is rest = absurd (cc is)
      go (Some t) found is rest = rest t (found t refl).0 (found t refl).1 is

-- nothing of a chunk is out that has no run in use as a whole, and no element that is out
pub rest-where : (rs : Chunk) → ((p n : ℕ) → Begins p (Used n Whole) rs → ⊥)
    → ((p n class at : ℕ) (e : Elements) → Begins p (Used n (Sub class e)) rs → slice_get e.out at ≡ Some true → ⊥)
    → ChunkAtRest rs
rest-where [] runs elements = tt
rest-where (r ∷ rs) runs elements = (
  first r (λ n is. runs 0 n (inl (refl, sym is))) (λ n class at e is. elements 0 n class at e (inl (refl, sym is))),
  rest-where rs (λ p n b. runs (pages_in r + p) n (inr (p, refl, b)))
      (λ p n class at e b. elements (pages_in r + p) n class at e (inr (p, refl, b))),
)
  where
    first : (s : Run Use) → ((n : ℕ) → s ≡ Used n Whole → ⊥)
        → ((n class at : ℕ) (e : Elements) → s ≡ Used n (Sub class e) → slice_get e.out at ≡ Some true → ⊥) → IsAtRest s
    first (Free n) no_run no_element = tt
    first (Used n Whole) no_run no_element = no_run n refl
    first (Used n (Sub class e)) no_run no_element = idle-where e.out (λ at. no_element n class at e refl)

-- so it is in an arena that is covered, and of which nothing is out
pub covered-rests : (g : Geometry) (a : Arena) → IsCovered g a → a.out ≡ [] → (c : ℕ) → ChunkAtRest (chunk_at a c)
covered-rests g a covered none c =
    rest-where (chunk_at a c)
    (λ p n b. no_taking c (page_of g * p) (covered.runs c p n b))
    (λ p n class at e b out. no_taking c (page_of g * p + at * size_at class) (covered.elements c p n class at e b out))
  where
    no_taking : (c offset : ℕ) → IsTakenAt a.out c offset → ⊥
    no_taking c offset t = subst (λ xs. IsOne t.region xs) none t.there
