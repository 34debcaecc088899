-- What commands that allocate, release and send to lane 1 may spend, and that a lane of two may have them.
use Rattle.std.proofs.Common.{◌≡◌, ℕ, ◌+◌, ◌≤◌, Bool, true, false, List, [], ◌∷◌, ◌++◌, length, refl, arith}
use Rattle.std.specs.Prelude.{◌==◌, if◌then◌else◌}
use Rattle.std.specs.List.{list_all}
use Rattle.std.proofs.lemmas.Bool.{and_parts, eqb-true, lt-ltb}
use Rattle.pool_law.specs.declared.command.Command.{Command}
use Rattle.pool_law.specs.declared.run.Shape.{Shape}
use Rattle.pool_law.specs.Legal.{fits_after, all_fit}
use Rattle.pool_law.proofs.PatternLemmas.{both_true}
use Rattle.lane_context.specs.Contexts.{moves_of, sends_of}
use Rattle.lane_core.specs.Lanes.{left_for_each}
use Rattle.lane_cases.specs.Plain.{is_plain}

-- one of them makes at most one root and sends at most one parcel, and fits after any others
record IsSmall (c : Command) : Type 0 where
  moves : moves_of c ≤ 1
  sends : (to : ℕ) → sends_of c to ≤ 1
  fits : (shape : Shape) (earlier : List Command) → shape.lanes ≡ 2 → fits_after shape earlier c ≡ true

none_or_one : (b : Bool) → ◌≤◌ (if b then 1 else 0) 1
none_or_one true = omega arith
none_or_one false = omega arith

is_small : (c : Command) → is_plain c ≡ true → IsSmall c
is_small (Command.Alloc name size) is =
    record { moves = omega arith; sends = λ to. omega arith; fits = λ shape earlier two. refl }
is_small (Command.Release name) is =
    record { moves = omega arith; sends = λ to. omega arith; fits = λ shape earlier two. refl }
is_small (Command.Send name lane) is =
    let first : lane ≡ 1 = eqb-true lane 1 is in
    record {
      moves = omega arith;
      sends = λ to. none_or_one (lane == to);
      fits = λ shape earlier two. lt-ltb lane shape.lanes (omega (arith, first, two));
    }
is_small (Command.Set name at bytes tries) is = absurd (cc is)
is_small (Command.Get name at len tries) is = absurd (cc is)
is_small (Command.Write name bytes) is = absurd (cc is)
is_small (Command.Read name len) is = absurd (cc is)
is_small (Command.Slice fresh name at len retained) is = absurd (cc is)
is_small (Command.Dup fresh name) is = absurd (cc is)
is_small (Command.Retain name) is = absurd (cc is)
is_small (Command.Refcnt name) is = absurd (cc is)
is_small (Command.Touch name) is = absurd (cc is)
is_small (Command.Forget name) is = absurd (cc is)
is_small (Command.Recv fresh lane) is = absurd (cc is)
is_small (Command.Compose fresh names) is = absurd (cc is)
is_small (Command.Add whole name) is = absurd (cc is)
is_small (Command.Capacity name size) is = absurd (cc is)

-- all of them together
pub few_moves : (composes : Bool) (cs : List Command) → list_all is_plain cs ≡ true
    → (left_for_each composes cs).moves ≤ length cs
few_moves composes [] all = omega arith
few_moves composes (c ∷ cs) all =
    let (first, rest) = and_parts (is_plain c) (list_all is_plain cs) all in
    omega (arith, (is_small c first).moves, few_moves composes cs rest)

pub few_sends : (composes : Bool) (cs : List Command) (to : ℕ) → list_all is_plain cs ≡ true
    → (left_for_each composes cs).sends to ≤ length cs
few_sends composes [] to all = omega arith
few_sends composes (c ∷ cs) to all =
    let (first, rest) = and_parts (is_plain c) (list_all is_plain cs) all in
    omega (arith, (is_small c first).sends to, few_sends composes cs to rest)

pub all_fits : (shape : Shape) (earlier cs : List Command) → shape.lanes ≡ 2 → list_all is_plain cs ≡ true
    → all_fit shape earlier cs ≡ true
all_fits shape earlier [] two all = refl
all_fits shape earlier (c ∷ cs) two all =
    let (first, rest) = and_parts (is_plain c) (list_all is_plain cs) all in
    both_true (fits_after shape earlier c) (all_fit shape (earlier ++ c ∷ []) cs)
    ((is_small c first).fits shape earlier two) (all_fits shape (earlier ++ c ∷ []) cs two rest)
