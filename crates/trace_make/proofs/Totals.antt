-- How many commands a generated trace has, and how many bytes they ask to see.
use Rattle.std.proofs.Common.{◌≡◌, ℕ, zero, suc, ◌+◌, ◌*◌, ◌/◌, ◌≤◌, List, [], ◌∷◌, length, map, refl, sym, ◌∙◌, ap, arith, length-append}
use Rattle.std.specs.List.{sum_by}
use Rattle.std.proofs.lemmas.List.{map-append}
use Rattle.std.proofs.lemmas.List.Sums.{sum_by-append, sum_by-cons}
use Rattle.std.proofs.Math.Nat.{mul-div-le}
use Rattle.size_classes.specs.Sizes.{below}
use Rattle.pool_law.specs.declared.command.Command.{Command}
use Rattle.pool_law.specs.Stuck.{command_count}
use Rattle.pool_law.specs.Traces.{bytes_asked, bytes_asked_by}
use Rattle.trace_make.specs.Generated.{drawn_block, joined}

pub length-joined : {X : Type 0} (list : ℕ → List X) (k n : ℕ) → ((j : ℕ) → length (list j) ≡ k)
    → length (joined list n) ≡ k * n
length-joined list k zero each = omega arith
length-joined list k (suc n) each =
    let front = length-joined list k n each in
    let last = each n in
    omega (arith, front, last, length-append (joined list n) (list n))

sum_by-joined : {X : Type 0} (f : X → ℕ) (list : ℕ → List X) (k n : ℕ) → ((j : ℕ) → sum_by f (list j) ≡ k)
    → sum_by f (joined list n) ≡ k * n
sum_by-joined f list k zero each = omega arith
sum_by-joined f list k (suc n) each =
    let front = sum_by-joined f list k n each in
    let last = each n in
    let both = sum_by-append f (joined list n) (list n) in
    omega (arith, front, last, both)

sum_by-given : {X : Type 0} (g : X → ℕ) (f : ℕ → X) (k n : ℕ) → ((i : ℕ) → g (f i) ≡ k)
    → sum_by g (map f (below n)) ≡ k * n
sum_by-given g f k zero each = omega arith
sum_by-given g f k (suc n) each =
    let front = sum_by-given g f k n each in
    let last = each n in
    let both = ap (sum_by g) (map-append f (below n) (n ∷ [])) ∙ sum_by-append g (map f (below n)) (f n ∷ []) in
    omega (arith, front, last, both)

command_count-sum : (lanes : List (List Command)) → command_count lanes ≡ sum_by length lanes
command_count-sum [] = refl
command_count-sum (cs ∷ rest) = ap (λ k. length cs + k) (command_count-sum rest) ∙ sym (sum_by-cons length cs rest)

-- ---- A lane, and the trace.

pub length-lane : (lanes lane state n : ℕ) → length (joined (drawn_block lanes lane state) n) ≡ 8 * n
length-lane lanes lane state n = length-joined (drawn_block lanes lane state) 8 n (λ j. refl)

-- in so many lanes of so many blocks
pub command_count-lanes : (lanes n : ℕ) (state : ℕ → ℕ)
    → command_count (map (λ i. joined (drawn_block lanes i (state i)) n) (below lanes)) ≡ 8 * n * lanes
command_count-lanes lanes n state =
    command_count-sum (map (λ i. joined (drawn_block lanes i (state i)) n) (below lanes))
    ∙ sum_by-given length (λ i. joined (drawn_block lanes i (state i)) n) (8 * n) lanes
    (λ i. length-lane lanes i (state i) n)

pub bytes_asked-lanes : (lanes n : ℕ) (state : ℕ → ℕ)
    → bytes_asked (map (λ i. joined (drawn_block lanes i (state i)) n) (below lanes)) ≡ 8 * n * lanes
bytes_asked-lanes lanes n state =
    sum_by-given (sum_by bytes_asked_by) (λ i. joined (drawn_block lanes i (state i)) n) (8 * n) lanes
    (λ i. sum_by-joined bytes_asked_by (drawn_block lanes i (state i)) 8 n (λ j. refl))

-- the blocks have no more commands than were asked for
pub few-blocks : (lanes commands : ℕ) → 8 * (commands / (8 * lanes)) * lanes ≤ commands
few-blocks lanes commands =
    let most = mul-div-le commands (8 * lanes) in
    turned lanes (commands / (8 * lanes)) commands most
  where
    turned : (a b c : ℕ) → 8 * a * b ≤ c → 8 * b * a ≤ c
    turned a b c h = omega arith
