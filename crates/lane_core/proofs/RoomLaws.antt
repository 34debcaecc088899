-- What commands may spend in all, one command after another.
use Rattle.std.proofs.Common.{◌≡◌, ℕ, ◌+◌, ◌*◌, ◌<◌, ◌≤◌, Bool, true, false, List, [], ◌∷◌, ◌++◌, length, map, take, get_or, refl, sym, ap, ◌∙◌, subst, arith}
use Rattle.std.specs.Prelude.{◌==◌, cond, nat_lt, All, sum}
use Rattle.std.specs.List.{list_any}
use Rattle.std.specs.Ordering.{ord_max, nat_cmp, is_lt}
use Rattle.std.specs.declared.cmp.Ordering.TheVariants.{Less, Equal, Greater}
use Rattle.std.proofs.lemmas.Bool.{ltb-true, ltb-false}
use Rattle.std.proofs.lemmas.List.{take_more}
use Rattle.std.proofs.lemmas.List.Elements.{All-more, All-weaker}
use Rattle.std.proofs.lemmas.List.Sums.{sum_by-cons}
use Rattle.std.proofs.lemmas.Option.{IfSome_then}
use Rattle.pool_law.specs.declared.command.Command.{Command}
use Rattle.pool_law.specs.Bounds.{composes, may_ask, most_notes, most_drained, note_bound}
use Rattle.lane_stages.specs.Budgets.{most_of_lane}
use Rattle.lane_core.specs.Lanes.{left_for_each, left_for_all}
use Rattle.lane_context.specs.Named.{changed_name}
use Rattle.lane_core.specs.Opened.{ChangesBelow}

-- a command makes at most 197 notes, and asks at most one cache
pub few_notes : (composes : Bool) (c : Command) → most_notes composes c ≤ 197
few_notes composes (Command.Alloc name size) = omega arith
few_notes composes (Command.Set name at bytes true) = omega arith
few_notes true (Command.Set name at bytes false) = omega arith
few_notes false (Command.Set name at bytes false) = omega arith
few_notes composes (Command.Get name at len true) = omega arith
few_notes true (Command.Get name at len false) = omega arith
few_notes false (Command.Get name at len false) = omega arith
few_notes true (Command.Write name bytes) = omega arith
few_notes false (Command.Write name bytes) = omega arith
few_notes true (Command.Read name len) = omega arith
few_notes false (Command.Read name len) = omega arith
few_notes composes (Command.Slice fresh name at len true) = omega arith
few_notes composes (Command.Slice fresh name at len false) = omega arith
few_notes composes (Command.Dup fresh name) = omega arith
few_notes composes (Command.Retain name) = omega arith
few_notes true (Command.Release name) = omega arith
few_notes false (Command.Release name) = omega arith
few_notes composes (Command.Refcnt name) = omega arith
few_notes composes (Command.Touch name) = omega arith
few_notes composes (Command.Forget name) = omega arith
few_notes composes (Command.Send name lane) = omega arith
few_notes composes (Command.Recv fresh lane) = omega arith
few_notes composes (Command.Compose fresh names) = omega arith
few_notes composes (Command.Add whole name) = omega arith
few_notes composes (Command.Capacity name size) = omega arith

pub one_ask : (c : Command) → may_ask c ≤ 1
one_ask (Command.Alloc name size) = omega arith
one_ask (Command.Set name at bytes tries) = omega arith
one_ask (Command.Get name at len tries) = omega arith
one_ask (Command.Write name bytes) = omega arith
one_ask (Command.Read name len) = omega arith
one_ask (Command.Slice fresh name at len retained) = omega arith
one_ask (Command.Dup fresh name) = omega arith
one_ask (Command.Retain name) = omega arith
one_ask (Command.Release name) = omega arith
one_ask (Command.Refcnt name) = omega arith
one_ask (Command.Touch name) = omega arith
one_ask (Command.Forget name) = omega arith
one_ask (Command.Send name lane) = omega arith
one_ask (Command.Recv fresh lane) = omega arith
one_ask (Command.Compose fresh names) = omega arith
one_ask (Command.Add whole name) = omega arith
one_ask (Command.Capacity name size) = omega arith

module _ (composes : Bool) where
  pub all_few : (cs : List Command) → (left_for_each composes cs).notes ≤ 197 * length cs
  all_few [] = omega arith
  all_few (c ∷ cs) = let one = few_notes composes c in let rest = all_few cs in omega (arith, one, rest)

  pub all_asks_few : (cs : List Command) → (left_for_each composes cs).asks ≤ length cs
  all_asks_few [] = omega arith
  all_asks_few (c ∷ cs) = let one = one_ask c in let rest = all_asks_few cs in omega (arith, one, rest)

  -- where a cache is asked, a region may be taken
  pub all_takes : (cs : List Command) → (left_for_each composes cs).takes ≡ (left_for_each composes cs).asks
  all_takes [] = refl
  all_takes (c ∷ cs) = let rest = all_takes cs in omega (arith, rest)

  notes_push : (cs : List Command) (c : Command) → (left_for_each composes (cs ++ c ∷ [])).notes
      ≡ (left_for_each composes cs).notes + most_notes composes c
  notes_push [] c = omega arith
  notes_push (b ∷ bs) c = let rest = notes_push bs c in omega (arith, rest)

  asks_push : (cs : List Command) (c : Command) → (left_for_each composes (cs ++ c ∷ [])).asks
      ≡ (left_for_each composes cs).asks + may_ask c
  asks_push [] c = omega arith
  asks_push (b ∷ bs) c = let rest = asks_push bs c in omega (arith, rest)

  module _ (cs : List Command) (i : ℕ) (c : Command) (lt : i < length cs) (is : c ≡ get_or cs i c) where
    more : take (i + 1) cs ≡ take i cs ++ c ∷ []
    more = take_more cs i c lt ∙ ap (λ x. take i cs ++ x ∷ []) (sym is)

    pub notes_more : (left_for_each composes (take (i + 1) cs)).notes
        ≡ (left_for_each composes (take i cs)).notes + most_notes composes c
    notes_more = ap (λ xs. (left_for_each composes xs).notes) more ∙ notes_push (take i cs) c

    pub asks_more : (left_for_each composes (take (i + 1) cs)).asks
        ≡ (left_for_each composes (take i cs)).asks + may_ask c
    asks_more = ap (λ xs. (left_for_each composes xs).asks) more ∙ asks_push (take i cs) c

  -- ---- The law's bound.

  all_notes : (cs : List Command) → sum (map (most_notes composes) cs) ≡ (left_for_each composes cs).notes
  all_notes [] = refl
  all_notes (c ∷ cs) =
      let cut = sum_by-cons (λ (n : ℕ). n) (most_notes composes c) (map (most_notes composes) cs) in
      let rest = all_notes cs in omega (arith, cut, rest)

  all_asks : (cs : List Command) → sum (map may_ask cs) ≡ (left_for_each composes cs).asks
  all_asks [] = refl
  all_asks (c ∷ cs) =
      let cut = sum_by-cons (λ (n : ℕ). n) (may_ask c) (map may_ask cs) in let rest = all_asks cs in
      omega (arith, cut, rest)

-- it is what they may spend in all
pub bound_is : (cs : List Command) → note_bound cs ≡ (left_for_all cs).notes + most_drained (left_for_all cs).asks
bound_is cs =
    let kind : Bool = list_any composes cs in (λ i. all_notes kind cs i + most_drained (all_asks kind cs i))

-- and it is within what a lane may note
pub bound_few : (cs : List Command) → length cs ≤ 65536 → note_bound cs ≤ most_of_lane
bound_few cs few =
    let bound = bound_is cs in let notes = all_few (list_any composes cs) cs in
    let asks = all_asks_few (list_any composes cs) cs in omega (arith, bound, notes, asks, few)

-- names below less are below more
below_more : (m n : ℕ) → m ≤ n → (c : Command) → ChangesBelow m c → ChangesBelow n c
below_more m n le c below = IfSome_then (changed_name c) below (λ name lt. omega (arith, le, lt))

pub all_below_more : (m n k : ℕ) (cs : List Command) (i : ℕ) (c : Command) → i < length cs → c ≡ get_or cs i c → m ≤ k
    → n ≤ k → All (ChangesBelow m) (take i cs) → ChangesBelow n c → All (ChangesBelow k) (take (i + 1) cs)
all_below_more m n k cs i c lt is most also below here =
    All-more (ChangesBelow k) cs i c lt
    (All-weaker (ChangesBelow m) (ChangesBelow k) (below_more m k most) (take i cs) below)
    (subst (ChangesBelow k) is (below_more n k also c here))

pub max_most : (a b : ℕ) → (a ≤ ord_max nat_cmp a b) × (b ≤ ord_max nat_cmp a b)
max_most a b = go (nat_lt b a) refl (b == a)
  where
    go : (t : Bool) → nat_lt b a ≡ t → (u : Bool) → (a ≤ cond (is_lt (cond t Less (cond u Equal Greater))) a b)
        × (b ≤ cond (is_lt (cond t Less (cond u Equal Greater))) a b)
    go true is u = let low = ltb-true b a is in (omega arith, omega (arith, low))
    go false is true = let low = ltb-false b a is in (omega (arith, low), omega arith)
    go false is false = let low = ltb-false b a is in (omega (arith, low), omega arith)
