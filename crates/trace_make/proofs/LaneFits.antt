-- The commands of a lane may be given to it: what it receives gets a name that is new.
use Rattle.std.proofs.Common.{◌≡◌, ℕ, zero, suc, ◌+◌, ◌-◌, ◌*◌, ◌<◌, ◌≤◌, List, [], ◌∷◌, ◌++◌, refl, ◌∙◌, arith, true, false, Bool, append_assoc, append-nil}
use Rattle.std.specs.Prelude.{not, nat_lt, nat_eq, replicate}
use Rattle.std.specs.List.{list_all}
use Rattle.std.proofs.lemmas.Bool.{and_parts, ne_eqb, lt-ltb}
use Rattle.std.proofs.lemmas.List.Folds.{list_all-append}
use Rattle.std.proofs.Math.Nat.{mod-lt}
use Rattle.pool_law.specs.declared.command.Command.{Command}
use Rattle.pool_law.specs.declared.command.Command.TheVariants.{Alloc, Set, Get, Slice, Send}
use Rattle.pool_law.specs.declared.run.Shape.{Shape}
use Rattle.pool_law.specs.Legal.{new_name, is_named, fits_after, all_fit}
use Rattle.pool_law.proofs.PatternLemmas.{both_true}
use Rattle.trace_make.specs.Draws.{draw_after}
use Rattle.trace_make.specs.Generated.{lane_after, lane_before, buffer_name, slice_name, received_name, drawn_size, drawn_byte, block_of, drawn_block, joined}

-- a command doesn't bring the name
abbrev is_free : ℕ → Command → Bool
is_free name c = not (is_named name (new_name c))

-- ---- Names.

block_free : (lanes lane j size byte name : ℕ) → 3 * (j + 1) ≤ name
    → list_all (is_free name) (block_of lanes lane j size byte) ≡ true
block_free lanes lane j size byte name above =
    let a : nat_eq name (buffer_name j) ≡ false = ne_eqb name (buffer_name j) (λ e. omega arith) in
    let s : nat_eq name (slice_name j) ≡ false = ne_eqb name (slice_name j) (λ e. omega arith) in
    let r : nat_eq name (received_name j) ≡ false = ne_eqb name (received_name j) (λ e. omega arith) in
    rw (a, s, r) refl

-- the first n blocks of a lane bring names below 3 n
lane_free : (lanes lane state n name : ℕ) → 3 * n ≤ name
    → list_all (is_free name) (joined (drawn_block lanes lane state) n) ≡ true
lane_free lanes lane state zero name above = refl
lane_free lanes lane state (suc n) name above =
    let front = lane_free lanes lane state n name (omega arith) in
    let last = block_free lanes lane n (drawn_size (draw_after (2 * n) state))
    (drawn_byte (draw_after (2 * n + 1) state)) name (omega arith) in
    list_all-append (is_free name) (joined (drawn_block lanes lane state) n) (drawn_block lanes lane state n)
    ∙ both_true (list_all (is_free name) (joined (drawn_block lanes lane state) n))
    (list_all (is_free name) (drawn_block lanes lane state n)) front last

free_more : (name : ℕ) (earlier : List Command) (c : Command) → list_all (is_free name) earlier ≡ true
    → is_free name c ≡ true → list_all (is_free name) (earlier ++ c ∷ []) ≡ true
free_more name earlier c front last =
    list_all-append (is_free name) earlier (c ∷ [])
    ∙ both_true (list_all (is_free name) earlier) (list_all (is_free name) (c ∷ [])) front
    (both_true (is_free name c) true last refl)

-- ---- Lanes of the ring.

pub after_within : (lanes lane : ℕ) → 1 ≤ lanes → lane_after lanes lane < lanes
after_within lanes lane some = mod-lt (lane + 1) {m = lanes} (omega arith)

pub before_within : (lanes lane : ℕ) → 1 ≤ lanes → lane_before lanes lane < lanes
before_within lanes lane some = mod-lt (lane + lanes - 1) {m = lanes} (omega arith)

-- ---- What a lane needs.

-- one after the other
fit_append : (shape : Shape) (earlier xs ys : List Command) → all_fit shape earlier xs ≡ true
    → all_fit shape (earlier ++ xs) ys ≡ true → all_fit shape earlier (xs ++ ys) ≡ true
fit_append shape earlier [] ys front behind = rw append-nil at behind
fit_append shape earlier (x ∷ xs) ys front behind =
    let (first, rest) = and_parts (fits_after shape earlier x) (all_fit shape (earlier ++ x ∷ []) xs) front in
    let next : all_fit shape ((earlier ++ x ∷ []) ++ xs) ys ≡ true = rw append_assoc behind in
    rw (first, fit_append shape (earlier ++ x ∷ []) xs ys rest next) refl

block_fits : (shape : Shape) (earlier : List Command) (lanes lane j size byte : ℕ)
    → nat_lt (lane_after lanes lane) shape.lanes ≡ true → nat_lt (lane_before lanes lane) shape.lanes ≡ true
    → list_all (is_free (received_name j)) earlier ≡ true
    → all_fit shape earlier (block_of lanes lane j size byte) ≡ true
block_fits shape earlier lanes lane j size byte sends receives free =
    let not_buffer : nat_eq (received_name j) (buffer_name j) ≡ false = ne_eqb (received_name j) (buffer_name j)
    (λ e. omega arith) in
    let not_slice : nat_eq (received_name j) (slice_name j) ≡ false = ne_eqb (received_name j) (slice_name j)
    (λ e. omega arith) in
    let alloc = Alloc (buffer_name j) size in
    let set = Set (buffer_name j) 0 (replicate 4 byte) false in
    let slice = Slice (slice_name j) (buffer_name j) 2 8 false in
    let get = Get (slice_name j) 0 4 false in
    let send = Send (buffer_name j) (lane_after lanes lane) in
    let alloc_free : is_free (received_name j) alloc ≡ true = rw not_buffer refl in
    let slice_free : is_free (received_name j) slice ≡ true = rw not_slice refl in
    let one = free_more (received_name j) earlier alloc free alloc_free in
    let two = free_more (received_name j) (earlier ++ alloc ∷ []) set one refl in
    let three = free_more (received_name j) ((earlier ++ alloc ∷ []) ++ set ∷ []) slice two slice_free in
    let four = free_more (received_name j) (((earlier ++ alloc ∷ []) ++ set ∷ []) ++ slice ∷ []) get three refl in
    let five = free_more (received_name j)
    ((((earlier ++ alloc ∷ []) ++ set ∷ []) ++ slice ∷ []) ++ get ∷ []) send four refl in
    rw (sends, receives, five) refl

pub lane_fits : (shape : Shape) (lanes lane state n : ℕ) → shape.lanes ≡ lanes → 1 ≤ lanes
    → all_fit shape [] (joined (drawn_block lanes lane state) n) ≡ true
lane_fits shape lanes lane state zero count some = refl
lane_fits shape lanes lane state (suc n) count some =
    let after = after_within lanes lane some in
    let before = before_within lanes lane some in
    let sends : nat_lt (lane_after lanes lane) shape.lanes ≡ true = rw count
    (lt-ltb (lane_after lanes lane) lanes after) in
    let receives : nat_lt (lane_before lanes lane) shape.lanes ≡ true = rw count
    (lt-ltb (lane_before lanes lane) lanes before) in
    fit_append shape [] (joined (drawn_block lanes lane state) n) (drawn_block lanes lane state n)
    (lane_fits shape lanes lane state n count some)
    (block_fits shape (joined (drawn_block lanes lane state) n) lanes lane n (drawn_size (draw_after (2 * n) state))
    (drawn_byte (draw_after (2 * n + 1) state)) sends receives
    (lane_free lanes lane state n (received_name n) (omega arith)))
