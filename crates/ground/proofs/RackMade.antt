-- A rack made of a piece.
use Rattle.std.proofs.Common.{◌≡◌, ℕ, zero, suc, ◌*◌, ◌<◌, List, length, sym, ap, ◌∙◌, subst, arith}
use Rattle.std.specs.Prelude.{Some}
use Rattle.ground.specs.Rack.{Cell, cells_of}
use Rattle.ground.specs.Racks.{Fits, IsRack}
use Rattle.ground.specs.Pieces.{IsPiece}
use Rattle.ground.specs.declared.raw_rack.RawRack.{RawRack}
use Rattle.ground.specs.declared.piece.Piece.TheInside.{Inside}
use Rattle.ground.proofs.RackLaws.{length-cells_of, cells_fit}

pub rack_made : (raw_rack : RawRack) (p : Inside) (each k : ℕ) (bs : List ℕ) → IsPiece p
    → raw_rack.ptr ≡ p.ptr → raw_rack.start ≡ p.start → raw_rack.each ≡ each → raw_rack.size ≡ p.claim.size
    → raw_rack.cells ≡ cells_of each k bs → length bs ≡ p.len → k * each ≡ p.len → 0 < each
    → IsRack (record { raw_rack = Some raw_rack; at = p.ptr; start = p.start; len = p.len; each = each })
rack_made raw_rack p each k bs is ptr start size whole cells long all positive =
    let many : length raw_rack.cells ≡ k = ap length cells ∙ length-cells_of each k bs in
    let product : length raw_rack.cells * each ≡ k * each = ap (λ (m : ℕ). m * each) many in
    let counted : 0 < k = pos k each (omega (arith, all, is.some)) in
    let F : List Cell → Type 0 = λ cs. Fits each cs in
    record {
      raw_rack = (ptr, start, size);
      placed = is.placed;
      above = is.above;
      some = positive;
      filled = (omega (arith, many, counted), product ∙ all);
      fits = subst F (sym cells) (cells_fit each k bs (long ∙ sym all));
      within = omega (arith, is.within, whole);
      small = omega (arith, is.small, whole);
    }
  where
    pos : (a b : ℕ) → 0 < a * b → 0 < a
    pos zero b h = absurd (omega arith)
    pos (suc a) b h = omega arith
