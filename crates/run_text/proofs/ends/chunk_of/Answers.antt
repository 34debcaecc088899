use Rattle.std.proofs.Common.{◌∷◌, [], codes, decimal, refl}
use Rattle.run_text.proofs.EndLemmas.{from_free, from_list, from_pair, from_used}
use Rattle.run_text.proofs.LineLemmas.{refused_on}
use Rattle.run_text.proofs.ends.chunk_of.Goals as goal

pub returns-in_err-arena : goal.returns-in_err-arena
returns-in_err-arena c chunk fits e =
    let w = c.next-chunk.ensures (codes "chunk") (from_pair chunk) refl e in
    let r0 = rw c.in_err-arena.was
    at (c.pair.ensures chunk.arena chunk.chunk (from_list chunk) fits.0 fits.1 w.1) in
    refused_on _ _ _ c.from_residual.ensures.1 r0

pub returns-in_err-list : goal.returns-in_err-list
returns-in_err-list c chunk fits e =
    let w = c.next-chunk.ensures (codes "chunk") (from_pair chunk) refl e in
    let r0 = rw c.in_ok-arena.was
    at (c.pair.ensures chunk.arena chunk.chunk (from_list chunk) fits.0 fits.1 w.1) in
    let r1 = rw c.in_err-list.was
    at (c.list_of.ensures chunk.list (from_used chunk) r0.1) in
    refused_on _ _ _ c.from_residual-in_err-list.ensures.1 r1

pub returns-in_err-used : goal.returns-in_err-used
returns-in_err-used c chunk fits e =
    let w = c.next-chunk.ensures (codes "chunk") (from_pair chunk) refl e in
    let r0 = rw c.in_ok-arena.was
    at (c.pair.ensures chunk.arena chunk.chunk (from_list chunk) fits.0 fits.1 w.1) in
    let r1 = rw c.in_ok-list.was
    at (c.list_of.ensures chunk.list (from_used chunk) r0.1) in
    let u = c.next-used.ensures (codes "used") (decimal chunk.used ∷ from_free chunk) refl r1.1 in
    let r2 = rw c.in_err-used.was
    at (c.small.ensures chunk.used (from_free chunk) fits.2 u.1) in
    refused_on _ _ _ c.from_residual-in_err-used.ensures.1 r2

pub returns-in_err-free : goal.returns-in_err-free
returns-in_err-free c chunk fits e =
    let w = c.next-chunk.ensures (codes "chunk") (from_pair chunk) refl e in
    let r0 = rw c.in_ok-arena.was
    at (c.pair.ensures chunk.arena chunk.chunk (from_list chunk) fits.0 fits.1 w.1) in
    let r1 = rw c.in_ok-list.was
    at (c.list_of.ensures chunk.list (from_used chunk) r0.1) in
    let u = c.next-used.ensures (codes "used") (decimal chunk.used ∷ from_free chunk) refl r1.1 in
    let r2 = rw c.in_ok-used.was
    at (c.small.ensures chunk.used (from_free chunk) fits.2 u.1) in
    let v = c.next-free.ensures (codes "free") (decimal chunk.free ∷ []) refl r2.1 in
    let r3 = rw c.in_err-free.was
    at (c.small-2.ensures chunk.free [] fits.3 v.1) in
    refused_on _ _ _ c.from_residual-in_err-free.ensures.1 r3

pub returns : goal.returns
returns c chunk fits e =
    let w = c.next-chunk.ensures (codes "chunk") (from_pair chunk) refl e in
    let r0 = rw c.in_ok-arena.was
    at (c.pair.ensures chunk.arena chunk.chunk (from_list chunk) fits.0 fits.1 w.1) in
    let r1 = rw c.in_ok-list.was
    at (c.list_of.ensures chunk.list (from_used chunk) r0.1) in
    let u = c.next-used.ensures (codes "used") (decimal chunk.used ∷ from_free chunk) refl r1.1 in
    let r2 = rw c.in_ok-used.was
    at (c.small.ensures chunk.used (from_free chunk) fits.2 u.1) in
    let v = c.next-free.ensures (codes "free") (decimal chunk.free ∷ []) refl r2.1 in
    let r3 = rw c.in_ok-free.was
    at (c.small-2.ensures chunk.free [] fits.3 v.1) in
    λ k. record { arena = (r0.0 k).0; chunk = (r0.0 k).1; list = r1.0 k; used = r2.0 k; free = r3.0 k }
