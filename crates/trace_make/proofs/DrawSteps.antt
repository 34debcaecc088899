-- One block more: two draws, and eight commands. And one lane more.
use Rattle.std.proofs.Common.{◌≡◌, ℕ, zero, suc, ◌+◌, ◌*◌, ◌/◌, ◌%◌, ◌≤◌, List, [], ◌∷◌, ◌++◌, map, refl, sym, ◌∙◌, ap, arith, zero-add, add-one}
use Rattle.std.proofs.lemmas.List.{map-append}
use Rattle.std.proofs.Math.Nat.{div-le_of_le-mul}
use Rattle.size_classes.specs.Sizes.{below}
use Rattle.pool_law.specs.declared.command.Command.{Command}
use Rattle.trace_make.specs.Draws.{next_state, state_after}
use Rattle.trace_make.specs.Generated.{block_of, drawn_size, drawn_byte, drawn_block, joined}

-- two more numbers are drawn for a block
pub state_after-more : (n d here one two : ℕ) → here ≡ state_after (2 * n) d → one ≡ next_state here
    → two ≡ next_state one → two ≡ state_after (2 * (n + 1)) d
state_after-more n d here one two h o t =
    let e : 2 * (n + 1) ≡ suc (suc (2 * n)) = omega arith in
    rw e (cc)

-- a block by the states that its two draws leave
drawn_block-at : (lanes lane n d here one two : ℕ) → here ≡ state_after (2 * n) d → one ≡ next_state here
    → two ≡ next_state one
    → drawn_block lanes lane d n ≡ block_of lanes lane n (drawn_size (one / 256)) (drawn_byte (two / 256))
drawn_block-at lanes lane n d here one two h o t = rw (add-one (2 * n), t, o, h) refl

-- the blocks with one more, where x and y are what was drawn for it
pub joined-more : (lanes lane n d here one two x y : ℕ) (front made all : List Command)
    → here ≡ state_after (2 * n) d → one ≡ next_state here → x ≡ one / 256 → two ≡ next_state one → y ≡ two / 256
    → front ≡ joined (drawn_block lanes lane d) n → made ≡ block_of lanes lane n (16 + x % 1009) (y % 256)
    → all ≡ front ++ made
    → all ≡ joined (drawn_block lanes lane d) (n + 1)
joined-more lanes lane n d here one two x y front made all h o at_x t at_y f m a =
    let b = drawn_block-at lanes lane n d here one two h o t in
    rw (add-one, a, f, b, m, at_x, at_y) refl

-- ---- From lane to lane.

state_after-add : (m n d : ℕ) → state_after (m + n) d ≡ state_after m (state_after n d)
state_after-add zero n d = ap (λ k. state_after k d) (zero-add n)
state_after-add (suc m) n d =
    let e : suc m + n ≡ suc (m + n) = omega arith in
    ap (λ k. state_after k d) e ∙ ap next_state (state_after-add m n d)

-- what a lane draws for its blocks
pub state_after-lane : (blocks lane d here next : ℕ) → here ≡ state_after (2 * blocks * lane) d
    → next ≡ state_after (2 * blocks) here
    → next ≡ state_after (2 * blocks * (lane + 1)) d
state_after-lane blocks lane d here next h n =
    let e : 2 * blocks + 2 * blocks * lane ≡ 2 * blocks * (lane + 1) = omega arith in
    n ∙ (ap (state_after (2 * blocks)) h
    ∙ (sym (state_after-add (2 * blocks) (2 * blocks * lane) d) ∙ ap (λ k. state_after k d) e))

-- the lanes with one more
pub lanes-more : (f : ℕ → List Command) (lane : ℕ) (made all : List (List Command)) (one : List Command)
    → made ≡ map f (below lane) → one ≡ f lane → all ≡ made ++ one ∷ [] → all ≡ map f (below (lane + 1))
lanes-more f lane made all one m o a =
    let e : map f (below (suc lane)) ≡ map f (below lane) ++ f lane ∷ [] = map-append f (below lane) (lane ∷ []) in
    rw (add-one lane, e, a, m, o) refl

-- few enough blocks for their names
pub few_blocks : (lanes commands : ℕ) → 1 ≤ lanes → commands ≤ 65536 → commands / (8 * lanes) ≤ 8192
few_blocks lanes commands some few = div-le_of_le-mul (8 * lanes) (omega arith)
