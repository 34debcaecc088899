-- A generated trace is what a run asks for.
use Rattle.std.proofs.Common.{◌≡◌, ℕ, ◌+◌, ◌*◌, ◌/◌, ◌≤◌, List, [], length, refl, sym, ◌∙◌, subst, arith, inl, inr}
use Rattle.std.specs.Prelude.{Option, All, unwrap_or}
use Rattle.std.proofs.lemmas.Bool.{cases_lt}
use Rattle.std.proofs.lemmas.List.Elements.{All-from_recursion}
use Rattle.std.proofs.lemmas.Option.{slice_get-get_or, slice_get_past}
use Rattle.size_classes.specs.Sizes.{below}
use Rattle.pool_law.specs.declared.command.Command.{Command}
use Rattle.pool_law.specs.Legal.{AreCommands}
use Rattle.pool_law.specs.Logs.{of_lane}
use Rattle.trace_make.specs.Draws.{first_state, state_after, draw_after}
use Rattle.trace_make.specs.Generated.{drawn_size, drawn_byte, block_of, drawn_block, blocks_in, generated}
use Rattle.pool_law.specs.Traces.{AreLanes}
use Rattle.trace_make.specs.Accepted.{IsPlain, IsAccepted}
use Rattle.trace_make.proofs.DrawSteps.{few_blocks}
use Rattle.trace_make.proofs.Joined.{All-joined, All-given, length-given}
use Rattle.trace_make.proofs.Totals.{length-lane, command_count-lanes, bytes_asked-lanes, few-blocks}
use Rattle.trace_make.proofs.LaneFits.{lane_fits}
use Rattle.trace_make.proofs.Places.{ring_lane, ring}
use Rattle.trace_make.proofs.Moves.{not_stuck}

-- as many commands in each lane
pub lanes_long : (start lanes commands : ℕ) (trace : List (List Command)) → trace ≡ generated start lanes commands
    → (length trace ≡ lanes) × All (λ (cs : List Command). length cs ≡ 8 * blocks_in lanes commands) trace
lanes_long start lanes commands trace is =
    let blocks = commands / (8 * lanes) in
    let state = λ (i : ℕ). state_after (2 * blocks * i) (first_state start) in
    let P : List (List Command)
    → Type 0 = λ lists. (length lists ≡ lanes) × All (λ (cs : List Command). length cs ≡ 8 * blocks) lists in
    subst P (sym is) (
      length-given (ring_lane lanes blocks state) lanes,
      All-given (λ (cs : List Command). length cs ≡ 8 * blocks) (ring_lane lanes blocks state) lanes
          (λ i less. length-lane lanes i (state i) blocks),
    )

-- what each lane has, and what a lane that isn't there has too
log_has : (P : List Command → Type 0) (trace : List (List Command)) (k : ℕ) → All P trace → P [] → P (of_lane trace k)
log_has P trace k each none = elim (cases_lt k (length trace)) [
  | inl below ↦ subst (λ (o : Option (List Command)). P (unwrap_or o [])) (sym (slice_get-get_or trace k [] below))
      (each k [] below)
  | inr past ↦ subst (λ (o : Option (List Command)). P (unwrap_or o [])) (sym (slice_get_past trace k past)) none
]

lanes_are : (lanes n : ℕ) (state : ℕ → ℕ) → 1 ≤ lanes → n ≤ 8192 → AreLanes (ring lanes n state)
lanes_are lanes n state some few shape count k =
    let same : shape.lanes ≡ lanes = count ∙ length-given (ring_lane lanes n state) lanes in
    log_has (AreCommands shape) (ring lanes n state) k
    (All-given (AreCommands shape) (ring_lane lanes n state) lanes
    (λ i less. record {
      few = omega (arith, length-lane lanes i (state i) n);
      fit = lane_fits shape lanes i
          (state i) n same some;
    }))
    (record { few = omega arith; fit = refl })

block_plain : (lanes i j size byte : ℕ) → All IsPlain (block_of lanes i j size byte)
block_plain lanes i j size byte = All-from_recursion IsPlain (block_of lanes i j size byte)
    (tt, (tt, (tt, (tt, (tt, (tt, (tt, (tt, tt))))))))

ring_plain : (lanes n : ℕ) (state : ℕ → ℕ) → All (All IsPlain) (ring lanes n state)
ring_plain lanes n state =
    All-given (λ (cs : List Command). All IsPlain cs) (ring_lane lanes n state) lanes
    (λ i less. All-joined IsPlain (drawn_block lanes i (state i)) n
    (λ j. block_plain lanes i j (drawn_size (draw_after (2 * j) (state i)))
    (drawn_byte (draw_after (2 * j + 1) (state i)))))

ring_accepted : (lanes n : ℕ) (state : ℕ → ℕ) → 1 ≤ lanes → lanes ≤ 16 → n ≤ 8192 → 8 * n * lanes ≤ 65536
    → IsAccepted (ring lanes n state)
ring_accepted lanes n state some few small total =
    let as_many = length-given (ring_lane lanes n state) lanes in
    let commands = command_count-lanes lanes n state in
    let bytes = bytes_asked-lanes lanes n state in
    record {
      some_lane = omega (arith, as_many);
      few_lanes = omega (arith, as_many);
      few_commands = omega (arith, commands);
      few_bytes = omega (arith, bytes);
      each = lanes_are lanes n state some small;
      plain = ring_plain lanes n state;
      moves = not_stuck lanes n state some;
    }

pub accepted : (start lanes commands : ℕ) (trace : List (List Command)) → trace ≡ generated start lanes commands
    → 1 ≤ lanes → lanes ≤ 16 → commands ≤ 65536 → IsAccepted trace
accepted start lanes commands trace is some few most =
    let blocks = commands / (8 * lanes) in
    let total = few-blocks lanes commands in
    let small : blocks ≤ 8192 = few_blocks lanes commands some most in
    subst IsAccepted (sym is)
    (ring_accepted lanes blocks (λ i. state_after (2 * blocks * i) (first_state start)) some few small
    (omega (arith, total)))
