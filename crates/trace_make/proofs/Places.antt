-- The lanes of a generated trace, and what each has passed at a line.
use Rattle.std.proofs.Common.{◌≡◌, ℕ, zero, suc, ◌+◌, ◌*◌, ◌<◌, List, [], ◌∷◌, ◌++◌, map, take, refl, sym, ◌∙◌, ap, arith, add_assoc, zero-add, Bool}
use Rattle.std.specs.Prelude.{Option, slice_get, slice_index, unwrap_or, replicate, if◌then◌else◌}
use Rattle.std.proofs.lemmas.List.{get_or-replicate}
use Rattle.size_classes.specs.Sizes.{below}
use Rattle.pool_law.specs.declared.command.Command.{Command}
use Rattle.pool_law.specs.Logs.{of_lane}
use Rattle.pool_law.specs.Stuck.{how_many, passed, next_of}
use Rattle.trace_make.specs.Generated.{drawn_block, joined}
use Rattle.trace_make.proofs.Joined.{slice_get-at, take-at, joined-split, slice_get-given}
use Rattle.trace_make.proofs.Totals.{length-lane}

-- lane i of a ring of so many, with n blocks, which draws from this state
abbrev pub ring_lane : ℕ → ℕ → (ℕ → ℕ) → ℕ → List Command
ring_lane lanes n state i = joined (drawn_block lanes i (state i)) n

abbrev pub ring : ℕ → ℕ → (ℕ → ℕ) → List (List Command)
ring lanes n state = map (ring_lane lanes n state) (below lanes)

pub of_lane-ring : (lanes n : ℕ) (state : ℕ → ℕ) (i : ℕ) → i < lanes
    → of_lane (ring lanes n state) i ≡ ring_lane lanes n state i
of_lane-ring lanes n state i less = ap (λ (o : Option (List Command)). unwrap_or o [])
    (slice_get-given (ring_lane lanes n state) lanes i less)

-- ---- How many commands pass a test.

how_many-append : (test : Command → Bool) (xs ys : List Command)
    → how_many test (xs ++ ys) ≡ how_many test xs + how_many test ys
how_many-append test [] ys = sym (zero-add (how_many test ys))
how_many-append test (c ∷ cs) ys =
    ap (λ k. (if test c then 1 else 0) + k) (how_many-append test cs ys)
    ∙ sym (add_assoc (if test c then 1 else 0) (how_many test cs) (how_many test ys))

how_many-joined : (test : Command → Bool) (list : ℕ → List Command) (n : ℕ) → ((j : ℕ) → how_many test (list j) ≡ 1)
    → how_many test (joined list n) ≡ n
how_many-joined test list zero each = refl
how_many-joined test list (suc n) each =
    let front = how_many-joined test list n each in
    let last = each n in
    let both = how_many-append test (joined list n) (list n) in
    omega (arith, front, last, both)

-- ---- Where all lanes are at line r of block j.

pub next_of-ring : (lanes n : ℕ) (state : ℕ → ℕ) (i j r : ℕ) → i < lanes → j < n
    → (rest : List Command) ×
    (next_of (ring lanes n state) (replicate lanes (8 * j + r)) i ≡ slice_get
    (drawn_block lanes i (state i) j ++ rest) r)
next_of-ring lanes n state i j r less within =
    let (rest, split) = joined-split (drawn_block lanes i (state i)) n j within in
    let here : slice_index (replicate lanes (8 * j + r)) i ≡ 8 * j + r = get_or-replicate lanes i (8 * j + r) 0 less in
    let own = of_lane-ring lanes n state i less in (
      rest,
      ap (λ k. slice_get (of_lane (ring lanes n state) i) k) here
          ∙ (ap (λ cs. slice_get cs (8 * j + r)) own
          ∙ slice_get-at (ring_lane lanes n state i) (joined (drawn_block lanes i (state i)) j)
          (drawn_block lanes i (state i) j ++ rest) (8 * j) r split (length-lane lanes i (state i) j)),
    )

-- of the commands that a lane has passed then, one a block passes the test, and those of block j
pub passed-ring : (lanes n : ℕ) (state : ℕ → ℕ) (i j r : ℕ) (test : Command → Bool) → i < lanes → j < n
    → ((k : ℕ) → how_many test (drawn_block lanes i (state i) k) ≡ 1)
    → (rest : List Command) ×
    (how_many test (passed (ring lanes n state) (replicate lanes (8 * j + r)) i) ≡ j + how_many test
    (take r (drawn_block lanes i (state i) j ++ rest)))
passed-ring lanes n state i j r test less within each =
    let (rest, split) = joined-split (drawn_block lanes i (state i)) n j within in
    let here : slice_index (replicate lanes (8 * j + r)) i ≡ 8 * j + r = get_or-replicate lanes i (8 * j + r) 0 less in
    let own = of_lane-ring lanes n state i less in
    let front = joined (drawn_block lanes i (state i)) j in
    let back = drawn_block lanes i (state i) j ++ rest in
    let cut : passed (ring lanes n state) (replicate lanes (8 * j + r)) i ≡ front ++ take r back =
    ap (λ k. take k (of_lane (ring lanes n state) i)) here
    ∙ (ap (λ cs. take (8 * j + r) cs) own
    ∙ take-at (ring_lane lanes n state i) front back (8 * j) r split (length-lane lanes i (state i) j)) in (
      rest,
      ap (how_many test) cut
          ∙ (how_many-append test front (take r back)
          ∙ ap (λ k. k + how_many test (take r back)) (how_many-joined test (drawn_block lanes i (state i)) j each)),
    )
