-- What holds of every lane, from a test of those that are there.
use Rattle.std.proofs.Common.{◌≡◌, ℕ, zero, suc, ◌+◌, ◌<◌, List, [], ◌∷◌, Bool, true, subst, arith}
use Rattle.std.specs.Prelude.{◌&&◌}
use Rattle.pool_law.specs.Logs.{of_lane}
use Rattle.pool_law.proofs.SameLemmas.{and-first, and-second}

-- the test passes for each list, with its place counted from k
abbrev pub all_from : {X : Type 0} → (ℕ → List X → Bool) → ℕ → List (List X) → Bool
all_from test k [] = true
all_from test k (xs ∷ rest) = test k xs && all_from test (k + 1) rest

-- the test passes for every lane, where it passes for empty lists
pub all_from-at : {X : Type 0} (test : ℕ → List X → Bool) → ((k : ℕ) → test k [] ≡ true) →
    (k : ℕ) (logs : List (List X)) → all_from test k logs ≡ true →
    (i : ℕ) → test (k + i) (of_lane logs i) ≡ true
all_from-at test empty k [] e i = empty (k + i)
all_from-at test empty k (xs ∷ rest) e zero =
    let same : k ≡ k + 0 = omega arith in
    subst (λ n. test n xs ≡ true) same (and-first _ _ e)
all_from-at test empty k (xs ∷ rest) e (suc i) =
    let next : k + 1 + i ≡ k + suc i = omega arith in
    subst (λ n. test n (of_lane rest i) ≡ true) next
    (all_from-at test empty (k + 1) rest (and-second _ _ e) i)

pub all_lanes : {X : Type 0} (test : ℕ → List X → Bool) → ((k : ℕ) → test k [] ≡ true) → (logs : List (List X)) →
    all_from test 0 logs ≡ true →
    (lane : ℕ) → test lane (of_lane logs lane) ≡ true
all_lanes test empty logs e lane =
    let same : 0 + lane ≡ lane = omega arith in
    subst (λ n. test n (of_lane logs lane) ≡ true) same (all_from-at test empty 0 logs e lane)

-- the values of a function from k on, so many
abbrev pub each_from : {X : Type 0} → (ℕ → X) → ℕ → ℕ → List X
each_from f k zero = []
each_from f k (suc n) = f k ∷ each_from f (k + 1) n

pub each_from-at : {X : Type 0} (f h : ℕ → X) (k n : ℕ) → each_from f k n ≡ each_from h k n → (i : ℕ) → i < n →
    f (k + i) ≡ h (k + i)
each_from-at f h k zero e i below = absurd (omega arith)
each_from-at f h k (suc n) e zero below =
    let first : f k ≡ h k = cc e in
    let same : k ≡ k + 0 = omega arith in
    subst (λ m. f m ≡ h m) same first
each_from-at f h k (suc n) e (suc i) below =
    let rest : each_from f (k + 1) n ≡ each_from h (k + 1) n = cc e in
    let next : k + 1 + i ≡ k + suc i = omega arith in
    subst (λ m. f m ≡ h m) next (each_from-at f h (k + 1) n rest i (omega arith))

-- what two functions have in common for each of the first lanes
pub each_lane : {X : Type 0} (f h : ℕ → X) (n : ℕ) → each_from f 0 n ≡ each_from h 0 n → (lane : ℕ) → lane < n →
    f lane ≡ h lane
each_lane f h n e lane below =
    let same : 0 + lane ≡ lane = omega arith in
    subst (λ m. f m ≡ h m) same (each_from-at f h 0 n e lane below)
