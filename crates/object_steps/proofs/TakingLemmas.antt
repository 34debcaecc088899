-- The takings of an arena in order.
use Rattle.std.proofs.Common.{◌≡◌, ℕ, zero, suc, ◌+◌, ◌<◌, List, [], ◌∷◌, ◌++◌, length, Option, Some, None, Bool, true, false, refl, sym, ap, arith, eqb-true, length-append, ◌∙◌}
use Rattle.std.specs.Prelude.{◌==◌, ◌&&◌, not, filter, slice_get, slice_set, unwrap_or}
use Rattle.std.specs.List.{list_any}
use Rattle.std.proofs.Math.Bool.{or-false}
use Rattle.std.proofs.lemmas.List.Elements.{filter_map-append}
use Rattle.pool_law.specs.declared.id.RegionId.{RegionId}
use Rattle.pool_law.specs.Same.{same_place, same_taking}
use Rattle.pool_law.proofs.SameLemmas.{and-first, and-second}
use Rattle.pool_law.proofs.ListLemmas.{slice_get-below}
use Rattle.object_steps.specs.Numbering.{out_in, slot_at, AreNumbered, IsPlaceOf}

other-taking : (a b : RegionId) → (a.taking ≡ b.taking → ⊥) → same_taking a b ≡ false
other-taking a b other = go (same_taking a b) refl
  where
    go : (same : Bool) → same_taking a b ≡ same → same_taking a b ≡ false
    go false e = e
    go true e =
        let rest = (a.class == b.class) && ((a.taking == b.taking) && (a.owner == b.owner)) in
        let last = and-second (a.class == b.class) ((a.taking == b.taking) && (a.owner == b.owner))
        (and-second (same_place a.place b.place) rest e) in
        absurd (other (eqb-true a.taking b.taking (and-first (a.taking == b.taking) (a.owner == b.owner) last)))

pub kept : {X : Type 0} (test : X → Bool) (xs : List X) → list_any test xs ≡ false → xs ≡ filter (λ x. not (test x)) xs
kept test [] none = refl
kept test (x ∷ xs) none = go (test x) refl (kept test xs)
  where
    go : (b : Bool) → test x ≡ b → (list_any test xs ≡ false → xs ≡ filter (λ y. not (test y)) xs) →
        x ∷ xs ≡ filter (λ y. not (test y)) (x ∷ xs)
    go true is later = absurd (cc (rw is at none))
    go false is later = rw is (ap (λ ys. x ∷ ys) (later (rw is at none)))

pub pushed : (slots : List (Option RegionId)) (r : RegionId) →
    ◌≡◌ {A = ℕ × List RegionId} (length (slots ++ Some r ∷ []), out_in (slots ++ Some r ∷ []))
    (length slots + 1, out_in slots ++ r ∷ [])
pushed slots r =
    λ i. (length-append slots (Some r ∷ []) i, filter_map-append (λ slot. slot) slots (Some r ∷ []) i)

pub numbered-push : (n : ℕ) (slots : List (Option RegionId)) (r : RegionId) → AreNumbered n slots →
    r.taking ≡ n + length slots → AreNumbered n (slots ++ Some r ∷ [])
numbered-push n [] r h is = (omega (arith, is), tt)
numbered-push n (None ∷ slots) r h is = numbered-push (suc n) slots r h (omega (arith, is))
numbered-push n (Some x ∷ slots) r h is = (h.0, numbered-push (suc n) slots r h.1 (omega (arith, is)))

pub numbered-set : (n k : ℕ) (slots : List (Option RegionId)) → AreNumbered n slots →
    AreNumbered n (slice_set slots k None)
numbered-set n k [] h = tt
numbered-set n zero (None ∷ slots) h = h
numbered-set n zero (Some x ∷ slots) h = h.1
numbered-set n (suc k) (None ∷ slots) h = numbered-set (suc n) k slots h
numbered-set n (suc k) (Some x ∷ slots) h = (h.0, numbered-set (suc n) k slots h.1)

module _ (r : RegionId) where
  -- whether the taking is out
  abbrev is_out : List (Option RegionId) → Bool
  is_out slots = list_any (λ other. same_taking r other) (out_in slots)

  -- whether the taking is at a place
  abbrev is_there : Option RegionId → Bool
  is_there None = false
  is_there (Some other) = same_taking r other

  pub none-below : (n : ℕ) (slots : List (Option RegionId)) → AreNumbered n slots → r.taking < n →
      is_out slots ≡ false
  none-below n [] h below = refl
  none-below n (None ∷ slots) h below = none-below (suc n) slots h (omega (arith, below))
  none-below n (Some x ∷ slots) h below =
      rw (other-taking r x (λ same. omega (arith, same, h.0, below)))
      (none-below (suc n) slots h.1 (omega (arith, below)))

  out-there : (n k : ℕ) (slots : List (Option RegionId)) → AreNumbered n slots → r.taking ≡ n + k →
      is_out slots ≡ is_there (slot_at slots k)
  out-there n k [] h is = refl
  out-there n zero (None ∷ slots) h is = none-below (suc n) slots h (omega (arith, is))
  out-there n zero (Some x ∷ slots) h is =
      rw (none-below (suc n) slots h.1 (omega (arith, is))) (or-false (same_taking r x))
  out-there n (suc k) (None ∷ slots) h is = out-there (suc n) k slots h (omega (arith, is))
  out-there n (suc k) (Some x ∷ slots) h is =
      rw (other-taking r x (λ same. omega (arith, same, h.0, is)))
      (out-there (suc n) k slots h.1 (omega (arith, is)))

  out-set : (n k : ℕ) (slots : List (Option RegionId)) → AreNumbered n slots → r.taking ≡ n + k →
      is_there (slot_at slots k) ≡ true →
      out_in (slice_set slots k None) ≡ filter (λ other. not (same_taking r other)) (out_in slots)
  out-set n k [] h is there = absurd (cc there)
  out-set n zero (None ∷ slots) h is there = absurd (cc there)
  out-set n zero (Some x ∷ slots) h is there =
      rw there (kept (λ other. same_taking r other) (out_in slots) (none-below (suc n) slots h.1 (omega (arith, is))))
  out-set n (suc k) (None ∷ slots) h is there = out-set (suc n) k slots h (omega (arith, is)) there
  out-set n (suc k) (Some x ∷ slots) h is there =
      rw (other-taking r x (λ same. omega (arith, same, h.0, is)))
      (ap (λ ys. x ∷ ys) (out-set (suc n) k slots h.1 (omega (arith, is)) there))

  pub place-none : (n k : ℕ) (slots : List (Option RegionId)) (o : Option RegionId) → AreNumbered n slots →
      r.taking ≡ n + k → o ≡ slot_at slots k → is_there o ≡ false → is_out slots ≡ false
  place-none n k slots o h is found none = out-there n k slots h is ∙ sym (ap is_there found) ∙ none

  pub place-is : (n k : ℕ) (slots : List (Option RegionId)) (other : RegionId) → AreNumbered n slots →
      r.taking ≡ n + k → Some other ≡ slot_at slots k → same_taking r other ≡ true → IsPlaceOf r slots (Some k)
  place-is n k slots other h is found same =
      let there : is_there (slot_at slots k) ≡ true = sym (ap is_there found) ∙ same in
      (out-there n k slots h is ∙ there, below (slice_get slots k) refl found, out-set n k slots h is there)
    where
      below : (o : Option (Option RegionId)) → slice_get slots k ≡ o → Some other ≡ unwrap_or o None → k < length slots
      below None e none = absurd (cc none)
      below (Some slot) e some = slice_get-below slots k slot e
