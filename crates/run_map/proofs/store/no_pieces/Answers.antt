use Rattle.std.proofs.Common.{ℕ, ◌+◌, List, Option, None, [], ◌∷◌, length, get_or, ap, ◌∙◌, arith, length-append}
use Rattle.ground.specs.Ground.{Segment}
use Rattle.run_map.proofs.EmptyStore.{none-appended}
use Rattle.run_map.proofs.store.no_pieces.Goals as goal

pub unreachable-requires : goal.unreachable-requires
unreachable-requires c =
    let h = c.loop.invariant in
    cc (c.in-Err.ensures.succeeds (omega (arith, h.len, h.room, c.loop-test.true)))

pub loop-init : goal.loop-init
loop-init c =
    let made = c.in_ok-pieces.ensures in
    record {
      none = λ i. ap (λ (ps : List (Option Segment)). get_or ps i None) made.items;
      long = ap length made.items;
      len = made.len;
      room = made.capacity;
    }

pub loop-preserved : goal.loop-preserved
loop-preserved c =
    let h = c.loop.invariant in
    let pushed = c.in-Ok.ensures in
    record {
      none =
          λ i. ap (λ (ps : List (Option Segment)). get_or ps i None) pushed.items
          ∙ none-appended c.loop.pieces.items h.none i;
      long = ap length pushed.items ∙ length-append c.loop.pieces.items (None ∷ []) ∙ ap (λ (n : ℕ). n + 1) h.long;
      len = pushed.len ∙ ap (λ (n : ℕ). n + 1) h.len;
      room = omega (arith, h.room, pushed.capacity);
    }

pub returns-clause-none : goal.returns-clause-none
returns-clause-none c = c.loop.invariant.none

pub returns-clause-len : goal.returns-clause-len
returns-clause-len c =
    let h = c.loop.invariant in
    (omega (arith, h.long, c.loop-test.false), omega (arith, h.len, c.loop-test.false))
