use Rattle.std.proofs.Common.{◌≡◌, ℕ, ◌-◌, List, take, drop, length, refl, sym, ap, ◌∙◌, rules}
use Rattle.std.specs.Prelude.{min}
use Rattle.lane_reader.specs.Viewing.{part_of}
use Rattle.lane_reader.specs.Reading.{log_from}
use Rattle.lane_reader.specs.Parting.{where_same, get_filled}
use Rattle.lane_reader.proofs.PartLemmas.{get-on}
use Rattle.lane_reader.proofs.ReadingLemmas.{take-min, drop-min}
use Rattle.lane_reader.proofs.log.Log.get_parts.Goals as goal

pub returns-in_err-here : goal.returns-in_err-here
returns-in_err-here c before =
    let log = log_from before c.args.self.now c.loop-part.here in
    let rest = c.loop-part.rest.now in
    let piece = c.cut-cut.result in
    let m : ℕ = c.min.result in
    let short : m ≡ min (length rest) piece.len = search rules in
    let first : take piece.len rest ≡ c.split_at.result.0.now =
    sym (c.split_at.ensures.front ∙ take-min rest piece.len m short) in
    let was = ap (λ (these : List ℕ). where_same these (get_filled (part_of piece) log)) first
    ∙ c.in_err-here.ensures before in
    rw c.from_residual.ensures
    (sym (c.loop-part.invariant before)
    ∙ get-on c.args.parts.now c.loop-part.part-index c.part-item.result (search rules) c.part-item.is
    c.loop-part.skip c.loop-part.left piece c.cut-cut.ensures
    rest (drop piece.len rest) (c.loop-part.skip - c.part-item.result.len) (c.loop-part.left - piece.len) log _ refl
    refl refl was)

pub loop-part-preserved : goal.loop-part-preserved
loop-part-preserved c before =
    let log = log_from before c.args.self.now c.loop-part.here in
    let rest = c.loop-part.rest.now in
    let piece = c.cut-cut.result in
    let m : ℕ = c.min.result in
    let short : m ≡ min (length rest) piece.len = search rules in
    let first : take piece.len rest ≡ c.split_at.result.0.now =
    sym (c.split_at.ensures.front ∙ take-min rest piece.len m short) in
    let behind = c.split_at.ensures.back ∙ drop-min rest piece.len m short in
    let further = c.saturating_sub-skip.ensures ∙ ap (λ (n : ℕ). c.loop-part.skip - n) c.from.ensures in
    let was = ap (λ (these : List ℕ). where_same these (get_filled (part_of piece) log)) first
    ∙ c.in_ok-here.ensures before in
    sym
    (get-on c.args.parts.now c.loop-part.part-index c.part-item.result (search rules) c.part-item.is
    c.loop-part.skip c.loop-part.left piece c.cut-cut.ensures
    rest _ _ (c.loop-part.left - piece.len) log _ further refl behind was)
    ∙ c.loop-part.invariant before
