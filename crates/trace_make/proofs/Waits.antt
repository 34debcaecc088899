-- Where all lanes are at the same line, each may pass its next command: what it receives was sent.
use Rattle.std.proofs.Common.{◌≡◌, ℕ, zero, suc, ◌+◌, ◌-◌, ◌*◌, ◌%◌, ◌<◌, List, ◌++◌, take, refl, sym, ◌∙◌, ap, subst, arith, true, false, eq-eqb}
use Rattle.std.specs.Prelude.{None, slice_get, slice_index, replicate, nat_lt}
use Rattle.std.proofs.lemmas.Bool.{lt-ltb}
use Rattle.std.proofs.lemmas.List.{get_or-replicate}
use Rattle.std.proofs.lemmas.Option.{slice_get_past}
use Rattle.std.proofs.Math.Nat.{mod-add-mod, add-mod_right, mod-eq_of_lt}
use Rattle.pool_law.specs.declared.command.Command.{Command}
use Rattle.pool_law.specs.Logs.{of_lane}
use Rattle.pool_law.specs.Stuck.{sends_to, receives_from, how_many, passed, may_pass, next_of}
use Rattle.trace_make.specs.Draws.{draw_after}
use Rattle.trace_make.specs.Generated.{lane_after, lane_before, drawn_size, drawn_byte, block_of}
use Rattle.trace_make.proofs.LaneFits.{before_within}
use Rattle.trace_make.proofs.Totals.{length-lane}
use Rattle.trace_make.proofs.Places.{ring_lane, ring, of_lane-ring, next_of-ring, passed-ring}

-- ---- The ring.

-- the lane before sends to this one
around : (lanes i : ℕ) → i < lanes → lane_after lanes (lane_before lanes i) ≡ i
around lanes i less =
    let e : i + lanes - 1 + 1 ≡ i + lanes = omega arith in
    mod-add-mod (i + lanes - 1) lanes 1 ∙ (ap (λ k. k % lanes) e ∙ (add-mod_right i lanes ∙ mod-eq_of_lt less))

-- a block receives from the lane before, and sends to the lane after, once
receives_once : (lanes i j size byte : ℕ)
    → how_many (receives_from (lane_before lanes i)) (block_of lanes i j size byte) ≡ 1
receives_once lanes i j size byte = rw (eq-eqb (lane_before lanes i) (lane_before lanes i) refl) refl

sends_once : (lanes from to j size byte : ℕ) → lane_after lanes from ≡ to
    → how_many (sends_to to) (block_of lanes from j size byte) ≡ 1
sends_once lanes from to j size byte e = rw (eq-eqb (lane_after lanes from) to e) refl

-- before it receives, a block has received nothing, and has sent
none_received : (lanes i j size byte from : ℕ) (rest : List Command)
    → how_many (receives_from from) (take 5 (block_of lanes i j size byte ++ rest)) ≡ 0
none_received lanes i j size byte from rest = refl

one_sent : (lanes from to j size byte : ℕ) (rest : List Command) → lane_after lanes from ≡ to
    → how_many (sends_to to) (take 5 (block_of lanes from j size byte ++ rest)) ≡ 1
one_sent lanes from to j size byte rest e = rw (eq-eqb (lane_after lanes from) to e) refl

-- ---- Lines of a block.

-- a line that doesn't receive is passed, and one that does where the sends are more than the receives
line_passes : (lanes i j size byte r : ℕ) (rest : List Command) (trace : List (List Command)) (at : List ℕ) → r < 8
    → (r ≡ 5 → nat_lt (how_many (receives_from (lane_before lanes i)) (passed trace at i))
    (how_many (sends_to i) (passed trace at (lane_before lanes i))) ≡ true)
    → may_pass trace at i (slice_get (block_of lanes i j size byte ++ rest) r) ≡ true
line_passes lanes i j size byte zero rest trace at below sent = refl
line_passes lanes i j size byte (suc zero) rest trace at below sent = refl
line_passes lanes i j size byte (suc (suc zero)) rest trace at below sent = refl
line_passes lanes i j size byte (suc (suc (suc zero))) rest trace at below sent = refl
line_passes lanes i j size byte (suc (suc (suc (suc zero)))) rest trace at below sent = refl
line_passes lanes i j size byte (suc (suc (suc (suc (suc zero))))) rest trace at below sent = sent refl
line_passes lanes i j size byte (suc (suc (suc (suc (suc (suc zero)))))) rest trace at below sent = refl
line_passes lanes i j size byte (suc (suc (suc (suc (suc (suc (suc zero))))))) rest trace at below sent = refl
line_passes lanes i j size byte (suc (suc (suc (suc (suc (suc (suc (suc r)))))))) rest trace at below sent = absurd
    (omega arith)

-- what a lane receives in block j was sent
was_sent : (lanes n : ℕ) (state : ℕ → ℕ) (i j : ℕ) → i < lanes → j < n
    → nat_lt (how_many (receives_from (lane_before lanes i))
    (passed (ring lanes n state) (replicate lanes (8 * j + 5)) i))
    (how_many (sends_to i) (passed (ring lanes n state) (replicate lanes (8 * j + 5)) (lane_before lanes i))) ≡ true
was_sent lanes n state i j less within =
    let from = lane_before lanes i in
    let back = around lanes i less in
    let before : from < lanes = before_within lanes i (omega arith) in
    let (mine, received) = passed-ring lanes n state i j 5 (receives_from from) less within
    (λ k. receives_once lanes i k (drawn_size (draw_after (2 * k) (state i)))
    (drawn_byte (draw_after (2 * k + 1) (state i)))) in
    let (other, sent) = passed-ring lanes n state from j 5 (sends_to i) before within
    (λ k. sends_once lanes from i k (drawn_size (draw_after (2 * k) (state from)))
    (drawn_byte (draw_after (2 * k + 1) (state from))) back) in
    let none = none_received lanes i j (drawn_size (draw_after (2 * j) (state i)))
    (drawn_byte (draw_after (2 * j + 1) (state i))) from mine in
    let one = one_sent lanes from i j (drawn_size (draw_after (2 * j) (state from)))
    (drawn_byte (draw_after (2 * j + 1) (state from))) other back in
    lt-ltb (how_many (receives_from from) (passed (ring lanes n state) (replicate lanes (8 * j + 5)) i))
    (how_many (sends_to i) (passed (ring lanes n state) (replicate lanes (8 * j + 5)) from))
    (omega (arith, received, sent, none, one))

pub ring_passes : (lanes n : ℕ) (state : ℕ → ℕ) (i j r : ℕ) → i < lanes → j < n → r < 8
    → may_pass (ring lanes n state) (replicate lanes (8 * j + r)) i
    (next_of (ring lanes n state) (replicate lanes (8 * j + r)) i) ≡ true
ring_passes lanes n state i j r less within below =
    let (rest, next) = next_of-ring lanes n state i j r less within in
    ap (may_pass (ring lanes n state) (replicate lanes (8 * j + r)) i) next
    ∙ line_passes lanes i j (drawn_size (draw_after (2 * j) (state i)))
    (drawn_byte (draw_after (2 * j + 1) (state i))) r rest (ring lanes n state) (replicate lanes (8 * j + r)) below
    (λ is. let P : ℕ → Type 0 = λ r. nat_lt
    (how_many (receives_from (lane_before lanes i)) (passed (ring lanes n state) (replicate lanes (8 * j + r)) i))
    (how_many (sends_to i) (passed (ring lanes n state) (replicate lanes (8 * j + r)) (lane_before lanes i))) ≡ true in
    subst P (sym is) (was_sent lanes n state i j less within))

-- behind its last line a lane passes nothing
pub ring_ends : (lanes n : ℕ) (state : ℕ → ℕ) (i : ℕ) → i < lanes
    → may_pass (ring lanes n state) (replicate lanes (8 * n)) i
    (next_of (ring lanes n state) (replicate lanes (8 * n)) i) ≡ false
ring_ends lanes n state i less =
    let here : slice_index (replicate lanes (8 * n)) i ≡ 8 * n = get_or-replicate lanes i (8 * n) 0 less in
    let own = of_lane-ring lanes n state i less in
    let long = length-lane lanes i (state i) n in
    let next : next_of (ring lanes n state) (replicate lanes (8 * n)) i ≡ None =
    ap (λ k. slice_get (of_lane (ring lanes n state) i) k) here
    ∙ (ap (λ cs. slice_get cs (8 * n)) own
    ∙ slice_get_past (ring_lane lanes n state i) (8 * n) (omega (arith, long))) in
    ap (may_pass (ring lanes n state) (replicate lanes (8 * n)) i) next
