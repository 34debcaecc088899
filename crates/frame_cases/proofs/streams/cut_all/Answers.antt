use Rattle.std.proofs.Common.{◌≡◌, ℕ, ◌+◌, ◌-◌, ◌≤◌, List, [], ◌++◌, take, drop, slice_index_or, slice_range, sym, ap, ◌∙◌, subst, arith, append_assoc}
use Rattle.std.specs.List.{flat_map}
use Rattle.frame_core.specs.Frames.{cuts_at, cuts_of}
use Rattle.frame_core.specs.Standing.{HasRead}
use Rattle.frame_core.proofs.ListLaws.{take-split}
use Rattle.frame_cases.proofs.streams.cut_all.Goals as goal

-- the bytes of a piece up to a place, and on to another
take-range : (before piece : List ℕ) (used place : ℕ) → used ≤ place
    → before ++ take used piece ++ slice_range piece used place ≡ before ++ take place piece
take-range before piece used place h =
    let e : used + (place - used) ≡ place = omega arith in
    append_assoc before (take used piece) (take (place - used) (drop used piece))
    ∙ ap (λ more. before ++ more) (take-split used (place - used) piece ∙ ap (λ k. take k piece) e)

pub pieces-init : goal.pieces-init
pieces-init c =
    record {
      read = c.new-cutter.ensures.read;
      cuts = c.new-cuts.ensures.items ∙ ap (cuts_at 0) (sym c.new-cutter.ensures.none);
    }

pub within-preserved : goal.within-preserved
within-preserved c =
    let before = flat_map (λ piece. piece.now) (take c.pieces.piece-index c.args.pieces.now) in
    let piece = (slice_index_or c.args.pieces.now c.pieces.piece-index record { ref_ptr = (0, 0); now = [] }).now in
    let used = c.within.used in
    let place = c.in_ok-used.used in
    let told = c.in_ok-used.ensures in
    let f = told.fed (before ++ take used piece) c.within.invariant.read c.within.invariant.cuts in
    let moved = f.0 in
    let e = take-range before piece used place (omega arith) in
    record {
      place = told.within;
      read = subst (λ bytes. HasRead c.go_on.new.cutter bytes) e f.1;
      cuts = f.2 ∙ ap cuts_of e;
    }
