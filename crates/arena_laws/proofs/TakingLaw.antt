-- The takings of an arena are numbered in order.
use Rattle.std.proofs.Common.{◌≡◌, ℕ, ◌+◌, List, [], ◌∷◌, refl, sym, ap, subst, Some, None}
use Rattle.std.specs.Prelude.{nat_lt, Option, option_map, option_and_then}
use Rattle.size_classes.specs.Sizes.{Geometry, class_count}
use Rattle.pool_law.specs.declared.id.RegionId.{RegionId}
use Rattle.pool_law.specs.declared.note.Did.{Did}
use Rattle.pool_law.specs.declared.note.Did.TheVariants.{Take, Full, Give}
use Rattle.pool_law.specs.declared.run.Shape.{Shape}
use Rattle.pool_law.specs.Limits.{geometry_of}
use Rattle.pool_law.specs.Same.{same_region}
use Rattle.pool_law.specs.Arenas.{Arena, Yielded, new_arena, take_class, noted_taking, take, give, is_out_of, as_noted, if_none, arena_step}
use Rattle.pool_law.specs.Histories.{after}
use Rattle.arena_laws.specs.Takings.{IsTaking, TakenInOrder, TakingsInOrder}
use Rattle.pool_law.proofs.SameLemmas.{same_region-is}
use Rattle.arena_laws.proofs.TakingsKept.{take_class-takings, given_place-takings}
use Rattle.std.proofs.lemmas.Bool.{cond_both}

module _ (g : Geometry) (number : ℕ) where
  pub take-numbers : (a : Arena) (class owner : ℕ) → (t : RegionId × Arena) → take g number a class owner ≡ Some t →
      IsTaking number class a.takings t.0 × (t.1.takings ≡ a.takings + 1)
  take-numbers a class owner t e = go (take_class g a class) (take_class-takings g class a) e
    where
      go : (o : Option Yielded) → ((u : Yielded) → o ≡ Some u → u.2.takings ≡ a.takings) →
          option_map (noted_taking number class owner) o ≡ Some t
          → IsTaking number class a.takings t.0 × (t.1.takings ≡ a.takings + 1)
      go None found is = absurd (cc is)
      go (Some u) found is =
          let same : noted_taking number class owner u ≡ t = cc is in
          let next : u.2.takings + 1 ≡ a.takings + 1 = ap (λ n. n + 1) (found u refl) in
          subst (λ x. IsTaking number class a.takings x.0 × (x.1.takings ≡ a.takings + 1)) same
          (record { taking = next; uses = refl; class_is = refl; arena = refl; len = refl }, next)

  pub give-numbers : (a : Arena) (region : RegionId) → (give g a region).takings ≡ a.takings
  give-numbers a region = given_place-takings g region.class region.place.chunk a region.place.offset

  abbrev pub Numbers : Arena → Did → Arena → Type 0
  Numbers a (Take class r) b = IsTaking number class a.takings r × (b.takings ≡ a.takings + 1)
  Numbers a _ b = b.takings ≡ a.takings

  pub step-numbers : (a b : Arena) (d : Did) → arena_step g number a d ≡ Some b → Numbers a d b
  step-numbers a b (Take class region) e = go (take g number a class region.owner) (take-numbers a class region.owner) e
    where
      go : (o : Option (RegionId × Arena))
          → ((t : RegionId × Arena) → o ≡ Some t → IsTaking number class a.takings t.0 × (t.1.takings ≡ a.takings + 1))
          → as_noted region o ≡ Some b → IsTaking number class a.takings region × (b.takings ≡ a.takings + 1)
      go None found is = absurd (cc is)
      go (Some t) found is =
          cond_both (same_region region t.0) (Some t.1) None
          (λ z. z ≡ Some b → IsTaking number class a.takings region × (b.takings ≡ a.takings + 1))
          (λ test same. let arena : t.1 ≡ b = cc same in (
            subst (λ r. IsTaking number class a.takings r) (sym (same_region-is region t.0 test)) (found t refl).0,
            subst
                (λ x. x.takings ≡ a.takings + 1) arena (found t refl).1,
          ))
          (λ _ same. absurd (cc same))
          is
  step-numbers a b (Full class) e =
      cond_both (nat_lt class (class_count g)) (if_none (take g number a class 0) a) None
      (λ z. z ≡ Some b → b.takings ≡ a.takings)
      (λ _ is. go (take g number a class 0) is) (λ _ is. absurd (cc is)) e
    where
      go : (o : Option (RegionId × Arena)) → if_none o a ≡ Some b → b.takings ≡ a.takings
      go None is = let same : b ≡ a = cc is in ap (λ x. x.takings) same
      go (Some t) is = absurd (cc is)
  step-numbers a b (Give region) e =
      cond_both (is_out_of a region) (Some (give g a region)) None (λ z. z ≡ Some b → b.takings ≡ a.takings)
      (λ _ is. let same : give g a region ≡ b = cc is in
      subst (λ x. x.takings ≡ a.takings) same (give-numbers a region))
      (λ _ is. absurd (cc is))
      e
  step-numbers a b _ e = absurd (cc e)

  pub after-numbers : (ds : List Did) (a b : Arena) → after (arena_step g number) a ds ≡ Some b
      → TakenInOrder number a.takings ds b.takings
  after-numbers [] a b e = let same : a ≡ b = cc e in ap (λ x. x.takings) same
  after-numbers (d ∷ ds) a b e = first (arena_step g number a d) (λ m. step-numbers a m d) e (λ m. after-numbers ds m b)
    where
      join : (d : Did) (m : Arena) → Numbers a d m → TakenInOrder number m.takings ds b.takings
          → TakenInOrder number a.takings (d ∷ ds) b.takings
      join (Take class r) m numbers rest = (numbers.0, subst (λ n. TakenInOrder number n ds b.takings) numbers.1 rest)
      join _ m numbers rest = subst (λ n. TakenInOrder number n ds b.takings) numbers rest

      first : (o : Option Arena) → ((m : Arena) → o ≡ Some m → Numbers a d m)
          → option_and_then (λ m. after (arena_step g number) m ds) o ≡ Some b →
          ((m : Arena) → after (arena_step g number) m ds ≡ Some b → TakenInOrder number m.takings ds b.takings)
          → TakenInOrder number a.takings (d ∷ ds) b.takings
      first None step is rest = absurd (cc is)
      first (Some m) step is rest = join d m (step m refl) (rest m is)

pub takings-in_order : (shape : Shape) (number : ℕ) → TakingsInOrder shape number
takings-in_order shape number ds a e =
    after-numbers (geometry_of shape) number ds (new_arena (geometry_of shape) shape.chunks) a e
