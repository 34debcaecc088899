-- What the commands of a lane add up to.
use Rattle.std.proofs.Common.{◌≡◌, ℕ, ◌+◌, ◌<◌, ◌≤◌, inl, inr, subst, Bool, true, false, List, [], ◌∷◌, ◌++◌, length, map, take, get_or, cond, refl, sym, ap, ◌∙◌, arith}
use Rattle.std.specs.List.{list_any}
use Rattle.std.specs.Prelude.{count_by, sum, if◌then◌else◌}
use Rattle.std.proofs.lemmas.Bool.{cases_lt}
use Rattle.std.proofs.lemmas.List.{map_more}
use Rattle.std.proofs.lemmas.List.Sums.{sum_by_push}
use Rattle.std.proofs.lemmas.List.Recursion.{is_count_by}
use Rattle.pool_law.specs.declared.command.Command.{Command}
use Rattle.pool_law.specs.Bounds.{composes}
use Rattle.pool_law.specs.Logs.{of_lane}
use Rattle.pool_law.proofs.LogLemmas.{lane-at}
use Rattle.lane_context.specs.Contexts.{left_for}
use Rattle.lane_core.specs.Lanes.{left_for_each, left_for_all}
use Rattle.trace_top.specs.Needs.{is_move, is_send}

abbrev pub one : Bool → ℕ
one b = if b then 1 else 0

-- a count by recursion
abbrev counted : {X : Type 0} → (X → Bool) → List X → ℕ
counted p [] = 0
counted p (x ∷ xs) = cond (p x) (1 + counted p xs) (counted p xs)

counted_is : {X : Type 0} (p : X → Bool) (xs : List X) → counted p xs ≡ count_by p xs
counted_is p xs = is_count_by (counted p) p refl (λ x xs. refl) xs

pub count_more : {X : Type 0} (p : X → Bool) (x : X) (xs : List X) → count_by p (x ∷ xs) ≡ one (p x) + count_by p xs
count_more p x xs =
    sym (counted_is p (x ∷ xs)) ∙ by_case (p x) (counted p xs) ∙ ap (λ n. one (p x) + n) (counted_is p xs)
  where
    by_case : (b : Bool) (n : ℕ) → cond b (1 + n) n ≡ one b + n
    by_case true n = refl
    by_case false n = omega arith

moves_of_one : (composes : Bool) (c : Command) → (left_for composes c).moves ≡ one (is_move c)
moves_of_one composes (Command.Alloc name size) = refl
moves_of_one composes (Command.Set name at bytes tries) = refl
moves_of_one composes (Command.Get name at len tries) = refl
moves_of_one composes (Command.Write name bytes) = refl
moves_of_one composes (Command.Read name len) = refl
moves_of_one composes (Command.Slice fresh name at len true) = refl
moves_of_one composes (Command.Slice fresh name at len false) = refl
moves_of_one composes (Command.Dup fresh name) = refl
moves_of_one composes (Command.Retain name) = refl
moves_of_one composes (Command.Release name) = refl
moves_of_one composes (Command.Refcnt name) = refl
moves_of_one composes (Command.Touch name) = refl
moves_of_one composes (Command.Forget name) = refl
moves_of_one composes (Command.Send name lane) = refl
moves_of_one composes (Command.Recv fresh lane) = refl
moves_of_one composes (Command.Compose fresh names) = refl
moves_of_one composes (Command.Add whole name) = refl
moves_of_one composes (Command.Capacity name size) = refl

sends_of_one : (composes : Bool) (to : ℕ) (c : Command) → (left_for composes c).sends to ≡ one (is_send to c)
sends_of_one composes to (Command.Alloc name size) = refl
sends_of_one composes to (Command.Set name at bytes tries) = refl
sends_of_one composes to (Command.Get name at len tries) = refl
sends_of_one composes to (Command.Write name bytes) = refl
sends_of_one composes to (Command.Read name len) = refl
sends_of_one composes to (Command.Slice fresh name at len true) = refl
sends_of_one composes to (Command.Slice fresh name at len false) = refl
sends_of_one composes to (Command.Dup fresh name) = refl
sends_of_one composes to (Command.Retain name) = refl
sends_of_one composes to (Command.Release name) = refl
sends_of_one composes to (Command.Refcnt name) = refl
sends_of_one composes to (Command.Touch name) = refl
sends_of_one composes to (Command.Forget name) = refl
sends_of_one composes to (Command.Send name lane) = refl
sends_of_one composes to (Command.Recv fresh lane) = refl
sends_of_one composes to (Command.Compose fresh names) = refl
sends_of_one composes to (Command.Add whole name) = refl
sends_of_one composes to (Command.Capacity name size) = refl

module _ (composes : Bool) where
  moves_of_each : (cs : List Command) → (left_for_each composes cs).moves ≡ count_by is_move cs
  moves_of_each [] = refl
  moves_of_each (c ∷ cs) = omega (arith, moves_of_one composes c, moves_of_each cs, count_more is_move c cs)

  sends_of_each : (to : ℕ) (cs : List Command) → (left_for_each composes cs).sends to ≡ count_by (is_send to) cs
  sends_of_each to [] = refl
  sends_of_each to (c ∷ cs) =
      omega (arith, sends_of_one composes to c, sends_of_each to cs, count_more (is_send to) c cs)

pub moves_of_all : (cs : List Command) → (left_for_all cs).moves ≡ count_by is_move cs
moves_of_all cs = moves_of_each (list_any composes cs) cs

pub sends_of_all : (to : ℕ) (cs : List Command) → (left_for_all cs).sends to ≡ count_by (is_send to) cs
sends_of_all to cs = sends_of_each (list_any composes cs) to cs

-- ---- The notes.

-- a sum over the first commands, with one more
pub sum_more : (f : Command → ℕ) (cs : List Command) (i : ℕ) (c : Command) → i < length cs → c ≡ get_or cs i c
    → sum (map f (take (i + 1) cs)) ≡ sum (map f (take i cs)) + f c
sum_more f cs i c below at =
    ap sum (map_more f cs i c below ∙ ap (λ x. map f (take i cs) ++ f x ∷ []) (sym at))
    ∙ sum_by_push (λ (n : ℕ). n) (map f (take i cs)) (f c)

-- ---- The most of all lanes.

-- what each lane before this one has no more of, and then this one too
pub each_more : (f : List Command → ℕ) (lanes : List (List Command)) (i : ℕ) (cs : List Command) (most more : ℕ)
    → i < length lanes → cs ≡ get_or lanes i cs → most ≤ more → f cs ≤ more
    → ((k : ℕ) → k < i → f (of_lane lanes k) ≤ most) → (k : ℕ) → k < i + 1 → f (of_lane lanes k) ≤ more
each_more f lanes i cs most more here at kept now before k below = elim (cases_lt k i) [
  | inl less ↦ (let a = before k less in omega (arith, a, kept))
  | inr past ↦
      let same : i ≡ k = omega (arith, below, past) in
      subst (λ j. f (of_lane lanes j) ≤ more) same
      (subst (λ (xs : List Command). f xs ≤ more) (sym (lane-at lanes i cs here at)) now)
]
