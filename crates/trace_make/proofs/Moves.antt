-- All lanes move together, up to their last lines.
use Rattle.std.proofs.Common.{◌≡◌, ℕ, zero, suc, ◌+◌, ◌*◌, ◌/◌, ◌%◌, ◌<◌, ◌≤◌, List, [], ◌∷◌, length, refl, sym, ◌∙◌, ap, subst, arith, inl, inr, Bool, true, false}
use Rattle.std.specs.Prelude.{None, All, replicate, nat_lt, if◌then◌else◌}
use Rattle.std.proofs.lemmas.Bool.{cases_lt, le-ltb}
use Rattle.std.proofs.Math.Nat.{div-add-mod, mul-le-mul_left}
use Rattle.pool_law.specs.declared.command.Command.{Command}
use Rattle.pool_law.specs.Stuck.{may_pass, next_of, moved, moves, command_count, resting, first_waiting, stuck_at}
use Rattle.trace_make.proofs.Joined.{All-given, length-given}
use Rattle.trace_make.proofs.Totals.{length-lane, command_count-lanes}
use Rattle.trace_make.proofs.Places.{ring_lane, ring}
use Rattle.trace_make.proofs.Waits.{ring_passes, ring_ends}

-- where each of the lanes may pass, or none may
moved-all : (trace : List (List Command)) (at : List ℕ) (k : ℕ) (may : Bool) (r lane : ℕ)
    → ((i : ℕ) → lane ≤ i → i < lane + r → may_pass trace at i (next_of trace at i) ≡ may)
    → moved trace at lane (replicate r k) ≡ replicate r (if may then k + 1 else k)
moved-all trace at k may zero lane each = refl
moved-all trace at k may (suc r) lane each =
    let first = each lane (omega arith) (omega arith) in
    let others = moved-all trace at k may r (lane + 1) (λ i from to. each i (omega arith) (omega arith)) in
    ap (λ (b : Bool). (if b then k + 1 else k) ∷ moved trace at (lane + 1) (replicate r k)) first
    ∙ ap (λ xs. (if may then k + 1 else k) ∷ xs) others

-- all lanes pass a line
moved-on : (lanes n : ℕ) (state : ℕ → ℕ) (k : ℕ) → k < 8 * n
    → moved (ring lanes n state) (replicate lanes k) 0 (replicate lanes k) ≡ replicate lanes (k + 1)
moved-on lanes n state k less =
    let is : 8 * (k / 8) + k % 8 ≡ k = div-add-mod k 8 in
    let within : k / 8 < n = omega (arith, is) in
    let line : k % 8 < 8 = omega arith in
    let P : ℕ → Type 0 = λ (at : ℕ). moved (ring lanes n state) (replicate lanes at) 0
    (replicate lanes at) ≡ replicate lanes (at + 1) in
    subst P is (moved-all (ring lanes n state) (replicate lanes (8 * (k / 8) + k % 8))
    (8 * (k / 8) + k % 8) true lanes 0
    (λ i from to. ring_passes lanes n state i (k / 8) (k % 8) (omega arith) within line))

moved-no_more : (lanes n : ℕ) (state : ℕ → ℕ)
    → moved (ring lanes n state) (replicate lanes (8 * n)) 0 (replicate lanes (8 * n)) ≡ replicate lanes (8 * n)
moved-no_more lanes n state =
    moved-all (ring lanes n state) (replicate lanes (8 * n)) (8 * n) false lanes 0
    (λ i from to. ring_ends lanes n state i (omega arith))

-- from a line on, in moves enough
moves-end : (lanes n : ℕ) (state : ℕ → ℕ) (t k : ℕ) → k ≤ 8 * n → 8 * n ≤ k + t
    → moves t (ring lanes n state) (replicate lanes k) ≡ replicate lanes (8 * n)
moves-end lanes n state zero k low high = let e : k ≡ 8 * n = omega arith in ap (replicate lanes) e
moves-end lanes n state (suc t) k low high = elim (cases_lt k (8 * n)) [
  | inl less ↦ ap (moves t (ring lanes n state)) (moved-on lanes n state k less)
      ∙ moves-end lanes n state t (k + 1) (omega arith) (omega arith)
  | inr end ↦
      let e : 8 * n ≡ k = omega arith in
      let P : ℕ → Type 0 = λ (at : ℕ). moves t (ring lanes n state)
      (moved (ring lanes n state) (replicate lanes at) 0 (replicate lanes at)) ≡ replicate lanes (8 * n) in
      subst P e (ap (moves t (ring lanes n state)) (moved-no_more lanes n state)
      ∙ moves-end lanes n state t (8 * n) (omega arith) (omega arith))
]

-- no lane waits at the line behind its last
none_waits : (trace : List (List Command)) (lane k : ℕ) → All (λ (cs : List Command). length cs ≡ k) trace
    → first_waiting lane trace (replicate (length trace) k) ≡ None
none_waits [] lane k long = refl
none_waits (cs ∷ rest) lane k long =
    let here : length cs ≡ k = long 0 cs (omega arith) in
    let whole : nat_lt k (length cs) ≡ false = le-ltb k (length cs) (omega arith) in
    rw whole (none_waits rest (lane + 1) k (λ i d less. long (suc i) d (omega arith)))

pub not_stuck : (lanes n : ℕ) (state : ℕ → ℕ) → 1 ≤ lanes → stuck_at (ring lanes n state) ≡ None
not_stuck lanes n state some =
    let total = command_count-lanes lanes n state in
    let more : 8 * n * 1 ≤ 8 * n * lanes = mul-le-mul_left (8 * n) some in
    let as_many : length (ring lanes n state) ≡ lanes = length-given (ring_lane lanes n state) lanes in
    let P : ℕ → Type 0 = λ (l : ℕ). moves (command_count (ring lanes n state)) (ring lanes n state)
    (replicate l 0) ≡ replicate l (8 * n) in
    let at_end : resting (ring lanes n state) ≡ replicate (length (ring lanes n state)) (8 * n) =
    subst P (sym as_many) (moves-end lanes n state (command_count (ring lanes n state)) 0 (omega arith)
    (omega (arith, total, more))) in
    ap (first_waiting 0 (ring lanes n state)) at_end
    ∙ none_waits (ring lanes n state) 0 (8 * n)
    (All-given (λ (cs : List Command). length cs ≡ 8 * n) (ring_lane lanes n state) lanes
    (λ i less. length-lane lanes i (state i) n))
