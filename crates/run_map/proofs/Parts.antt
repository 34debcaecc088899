-- The memory of a run when it is cut, and of two that are joined.
use Rattle.std.proofs.Common.{◌≡◌, ℕ, ◌+◌, ◌-◌, ◌*◌, ◌<◌, ◌≤◌, ◌++◌, length, take, drop, refl, sym, ap, ◌∙◌, arith, length-append, length-take-le, length-drop, add-mul}
use Rattle.std.proofs.Math.Nat.{mul-le-mul_right}
use Rattle.ground.specs.Ground.{Segment, with_bytes, Follows}
use Rattle.run_map.specs.Spaced.{IsPart, IsRun}
use Rattle.run_map.specs.declared.runs.RunLayout.{RunLayout}
use Rattle.run_map.specs.declared.runs.FreeRun.{FreeRun}

pub product_parts : (a b k n : ℕ) → a + b ≡ n → a * k + b * k ≡ n * k
product_parts a b k n e = sym (add-mul a b k) ∙ ap (λ (m : ℕ). m * k) e

pub front_part : (l : RunLayout) (first long pages : ℕ) (s left : Segment) → IsPart l first long s → pages ≤ long →
    left ≡ with_bytes s (take (pages * l.page) s.bytes) → IsPart l first pages left
front_part l first long pages s left part less is =
    let n = pages * l.page in
    let short : n ≤ length s.bytes = omega (arith, mul-le-mul_right {m = pages} {n = long} l.page less, part.size) in
    record {
      origin = ap (λ (x : Segment). x.origin) is ∙ part.origin;
      start = ap (λ (x : Segment). x.start) is ∙ part.start;
      size = ap (λ (x : Segment). length x.bytes) is ∙ length-take-le n s.bytes short;
    }

pub rest_run : (l : RunLayout) (r q : FreeRun) (pages : ℕ) (left : Segment) → IsRun l r → pages < r.pages →
    IsPart l r.first pages left
    → Follows left q.piece → q.piece.bytes ≡ drop (pages * l.page) r.piece.bytes → q.first ≡ r.first + pages →
    q.pages ≡ r.pages - pages → IsRun l q
rest_run l r q pages left is less part follows bytes from many =
    let sum = product_parts r.first pages l.page (r.first + pages) refl in
    let whole = product_parts (r.pages - pages) pages l.page r.pages (omega (arith, less)) in
    let start = ap (λ (m : ℕ). m * l.page) from in
    let size = ap (λ (m : ℕ). m * l.page) many in
    let dropped = ap length bytes ∙ length-drop (pages * l.page) r.piece.bytes in
    record {
      part = record {
        origin = follows.0 ∙ part.origin;
        start = omega (arith, follows.1, part.start, part.size, sum, start);
        size = omega (arith, dropped, is.part.size, whole, size);
      };
      some = omega (arith, many, less);
      within = omega (arith, from, many, less, is.within);
    }

-- the memory of two runs that meet
pub follows_run : (l : RunLayout) (r s : FreeRun) → IsRun l r → IsRun l s → r.first + r.pages ≡ s.first →
    Follows r.piece s.piece
follows_run l r s a b e =
    let sum = product_parts r.first r.pages l.page s.first e in
    (b.part.origin ∙ sym a.part.origin, omega (arith, sum, a.part.start, a.part.size, b.part.start))

pub joined_run : (l : RunLayout) (r s q : FreeRun) → IsRun l r → IsRun l s → r.first + r.pages ≡ s.first →
    q.first ≡ r.first → q.pages ≡ r.pages + s.pages
    → q.piece ≡ with_bytes r.piece (r.piece.bytes ++ s.piece.bytes) → IsRun l q
joined_run l r s q a b e f n is =
    let sum = product_parts r.pages s.pages l.page (r.pages + s.pages) refl in
    let first = ap (λ (m : ℕ). m * l.page) f in
    let many = ap (λ (m : ℕ). m * l.page) n in
    let size = ap (λ (x : Segment). length x.bytes) is ∙ length-append r.piece.bytes s.piece.bytes in
    record {
      part = record {
        origin = ap (λ (x : Segment). x.origin) is ∙ a.part.origin;
        start = ap (λ (x : Segment). x.start) is ∙ omega (arith, a.part.start, first);
        size = omega (arith, size, a.part.size, b.part.size, sum, many);
      };
      some = omega (arith, n, a.some);
      within = omega (arith, f, n, e, b.within);
    }
