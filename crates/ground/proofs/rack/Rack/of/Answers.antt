-- A piece is a rack with all elements in.
use Rattle.std.proofs.Common.{◌≡◌, ℕ, ◌*◌, ◌/◌, ◌%◌, length, sym, ap, ◌∙◌, arith, div-add-mod'}
use Rattle.ground.proofs.RackMade.{rack_made}
use Rattle.ground.proofs.rack.Rack.of.Goals as goal

pub invariant_of-result : goal.invariant_of-result
invariant_of-result c =
    let p = c.piece.inside in
    let n = c.args.size in
    let is = c.piece.invariant in
    let items : c.of-raw_piece.result.items ≡ p.raw_bytes.items = c.of-raw_piece.ensures.1 in
    let whole : length p.raw_bytes.items % n ≡ 0 = ap (λ s. length s.bytes % n) c.piece.view_is ∙ c.requires.1 in
    let none_over : p.len % n ≡ 0 = ap (λ (m : ℕ). m % n) (sym is.there.1) ∙ whole in
    let all : p.len / n * n ≡ p.len = omega (arith, div-add-mod' p.len n, none_over) in
    rack_made c.of.result p n (p.len / n) c.of-raw_piece.result.items is
    (c.of.ensures.0 ∙ c.of-raw_piece.ensures.0 ∙ is.there.0)
    (c.of.ensures.3 ∙ c.of-raw_piece.ensures.3 ∙ is.claimed.0)
    c.of.ensures.4 (c.of.ensures.5 ∙ c.of-raw_piece.ensures.5) c.of.ensures.1 (ap length items ∙ is.there.1) all
    c.requires.0
