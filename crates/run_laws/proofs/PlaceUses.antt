-- What is present at a root place began to use its region there, by a birth or by a growth.
use Rattle.std.proofs.Common.{inl, inr, ◌≡◌, ℕ, zero, suc, List, [], ◌∷◌, ◌++◌, take, refl, sym, ap, subst, arith, Some, None, ◌∙◌}
use Rattle.std.specs.Prelude.{◌⊎◌, ◌<◌, Option, option_and_then, slice_get}
use Rattle.pool_law.specs.declared.id.RootId.{RootId}
use Rattle.pool_law.specs.declared.id.RegionId.{RegionId}
use Rattle.pool_law.specs.declared.note.Did.{Did}
use Rattle.pool_law.specs.declared.note.Did.TheVariants.{Birth, Grow}
use Rattle.pool_law.specs.Roots.{RootPlace, Present, new_place, place_step}
use Rattle.pool_law.specs.Histories.{after, place_after}
use Rattle.pool_law.specs.Logs.{present_in}
use Rattle.pool_law.proofs.HistoryLemmas.{after-push}
use Rattle.run_laws.proofs.PlaceLaw.{Does, place_step-does, was-born}
use Rattle.run_laws.proofs.Placed.{step-at, take-get, born-at, birth-place}

-- a beginning that is longer by one
pub take-next : {X : Type 0} (xs : List X) (n : ℕ) (x : X) → slice_get xs n ≡ Some x
    → take (suc n) xs ≡ take n xs ++ x ∷ []
take-next [] n x e = absurd (cc e)
take-next (y ∷ ys) zero x e = let same : y ≡ x = cc e in ap (λ z. z ∷ []) same
take-next (y ∷ ys) (suc n) x e = ap (λ zs. y ∷ zs) (take-next ys n x e)

pub take-past : {X : Type 0} (xs : List X) (n : ℕ) → slice_get xs n ≡ None → take (suc n) xs ≡ take n xs
take-past [] zero e = refl
take-past [] (suc n) e = refl
take-past (y ∷ ys) zero e = absurd (cc e)
take-past (y ∷ ys) (suc n) e = ap (λ zs. y ∷ zs) (take-past ys n e)

pub present-some : (o : Option RootPlace) (p : Present) → present_in o ≡ Some p
    → (s : RootPlace) × (o ≡ Some s) × (s.present ≡ Some p)
present-some None p e = absurd (cc e)
present-some (Some s) p e = (s, refl, e)

module _ (place : ℕ) where
  -- before so many notes a root began to use a region, as one that is born or one that was present
  pub record Begun (ds : List Did) (n : ℕ) (root : RootId) (region : RegionId) : Type 0 where
    pub at : ℕ
    pub did : Did
    pub there : slice_get ds at ≡ Some did
    pub before : at < n
    pub begins : (did ≡ Birth root region)
        ⊎ ((c : ℕ) × (did ≡ Grow c region)
        × ((q : Present) × (present_in (place_after place (take at ds)) ≡ Some q) × (q.root ≡ root)))

  begun-later : (ds : List Did) (n : ℕ) (root : RootId) (region : RegionId) → Begun ds n root region
      → Begun ds (suc n) root region
  begun-later ds n root region b =
      record { at = b.at; did = b.did; there = b.there; before = omega (arith, b.before); begins = b.begins }

  module _ (ds : List Did) (t : RootPlace) (whole : place_after place ds ≡ Some t) where
    -- one more note
    begun-by : (n : ℕ) (a b : RootPlace) (d : Did) (p : Present) → slice_get ds n ≡ Some d
        → place_after place (take n ds) ≡ Some a → Does place a d b → b.present ≡ Some p
        → ((q : Present) → a.present ≡ Some q → Begun ds n q.root q.region) → Begun ds (suc n) p.root p.region
    begun-by n a b (Birth root x) p there before does is again =
        let same : (p.root ≡ root) × (p.region ≡ x) = does.present p is in
        record {
          at = n;
          did = Birth root x;
          there = there;
          before = omega arith;
          begins = inl (λ i. Birth (sym same.0 i) (sym same.1 i));
        }
    begun-by n a b (Grow c x) p there before does is again =
        let same : (p.root ≡ does.there.root) × (p.region ≡ x) = does.present p is in
        record {
          at = n;
          did = Grow c x;
          there = there;
          before = omega arith;
          begins = inr (
            c,
            ap (Grow c) (sym same.1),
            (does.there, ap present_in before ∙ does.there_is, sym same.0),
          );
        }
    begun-by n a b _ p there before does is again =
        let q : (q : Present) × (a.present ≡ Some q) × (p.root ≡ q.root) × (p.region ≡ q.region) =
        does.present p is in
        begun-later ds n p.root p.region
        (subst (λ r. Begun ds n r p.region) (sym q.2)
        (subst (λ r. Begun ds n q.0.root r) (sym q.3) (again q.0 q.1)))

    pub begun : (n : ℕ) (s : RootPlace) (p : Present) → place_after place (take n ds) ≡ Some s → s.present ≡ Some p
        → Begun ds n p.root p.region
    begun zero s p e is =
        let same : new_place ≡ s = cc e in
        let none : None ≡ Some p = ap (λ x. x.present) same ∙ is in absurd (cc none)
    begun (suc n) s p e is =
        go (slice_get ds n) refl (λ a q before here. begun n a q before here)
      where
        go : (o : Option Did) → slice_get ds n ≡ o → ((a : RootPlace) (q : Present)
            → place_after place (take n ds) ≡ Some a → a.present ≡ Some q → Begun ds n q.root q.region)
            → Begun ds (suc n) p.root p.region
        go None past again =
            begun-later ds n p.root p.region
            (again s p (ap (place_after place) (sym (take-past ds n past)) ∙ e) is)
        go (Some d) there again =
            let x : (a : RootPlace) × (b : RootPlace) × (after (place_step place) new_place (take n ds) ≡ Some a)
            × (place_step place a d ≡ Some b) = step-at (place_step place) ds new_place t n d whole there in
            let longer : place_after place (take (suc n) ds) ≡ Some x.1 =
            ap (place_after place) (take-next ds n d there)
            ∙ after-push (place_step place) new_place (take n ds) d
            ∙ ap (option_and_then (λ y. place_step place y d)) x.2 ∙ x.3 in
            let both : Some x.1 ≡ Some s = sym longer ∙ e in
            let same : x.1 ≡ s = cc both in
            begun-by n x.0 s d p there x.2 (place_step-does place x.0 s d (x.3 ∙ ap (λ y. Some y) same)) is
            (λ q here. again x.0 q x.2 here)

    -- and it was born there
    pub root-here : (n : ℕ) (s : RootPlace) (p : Present) → place_after place (take n ds) ≡ Some s
        → s.present ≡ Some p → p.root.place ≡ place
    root-here n s p e is =
        let b = born-at p.root p.region (take n ds) (was-born place (take n ds) s p e is) in
        let g = take-get n ds b.0 (Birth p.root b.1) b.2 in
        birth-place place ds t b.0 p.root b.1 whole g.0
