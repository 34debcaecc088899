-- Which refusal of a list comes first.
use Rattle.std.proofs.Common.{◌≡◌, ℕ, Bool, true, false, List, [], ◌∷◌, ◌++◌, map, refl, Some, None}
use Rattle.std.specs.Prelude.{if◌then◌else◌, ◌||◌}
use Rattle.std.specs.List.{list_any}
use Rattle.pool_law.specs.declared.run.Reply.{Reply}
use Rattle.pool_law.specs.Arenas.{or_else}
use Rattle.pool_law.specs.Refusals.{Refusal, first_refusal, refusal}

-- the first of some, or else of those behind them
pub first_refusal-append : (xs ys : List Refusal)
    → first_refusal (xs ++ ys) ≡ or_else (first_refusal xs) (first_refusal ys)
first_refusal-append [] ys = refl
first_refusal-append (x ∷ xs) ys = go x.comes (first_refusal-append xs ys)
  where
    go : (b : Bool) → first_refusal (xs ++ ys) ≡ or_else (first_refusal xs) (first_refusal ys)
        → (if b then Some x.reply else first_refusal (xs ++ ys))
        ≡ or_else (if b then Some x.reply else first_refusal xs) (first_refusal ys)
    go true rest = refl
    go false rest = rest

-- of refusals with one reply, which comes where a test holds
module _ (test : ℕ → Bool) (reply : Reply) where
  abbrev pub each : List ℕ → List Refusal
  each ns = map (λ n. refusal reply (test n)) ns

  pub first_of_each : (ns : List ℕ) → first_refusal (each ns) ≡ (if list_any test ns then Some reply else None)
  first_of_each [] = refl
  first_of_each (n ∷ ns) = go (test n) (first_of_each ns)
    where
      go : (b : Bool) → first_refusal (each ns) ≡ (if list_any test ns then Some reply else None)
          → (if b then Some reply else first_refusal (each ns))
          ≡ (if b || list_any test ns then Some reply else None)
      go true rest = refl
      go false rest = rest

-- none of a list passes a test
pub none_passes : (test : ℕ → Bool) (n : ℕ) (ns : List ℕ) → list_any test (n ∷ ns) ≡ false
    → (test n ≡ false) × (list_any test ns ≡ false)
none_passes test n ns none = go (test n) none
  where
    go : (b : Bool) → (b || list_any test ns) ≡ false → (b ≡ false) × (list_any test ns ≡ false)
    go true is = absurd (cc is)
    go false is = (refl, is)
