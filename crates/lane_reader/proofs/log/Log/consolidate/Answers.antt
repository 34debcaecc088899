use Rattle.std.proofs.Common.{◌≡◌, ℕ, true, List, map, ap, sym, refl, arith, ◌∙◌, rules}
use Rattle.std.proofs.lemmas.List.{length-map}
use Rattle.std.proofs.lemmas.Bool.Decides.{nat_tests}
use Rattle.pool_law.specs.Composites.{size_of, is_crowded}
use Rattle.std.specs.Prelude.{option_and_then, Some, Ok}
use Rattle.pool_law.specs.Composites.{moved_to}
use Rattle.pool_law.specs.Patterns.{New, allot}
use Rattle.lane_reader.specs.declared.view.Range.{Range}
use Rattle.lane_reader.specs.Parting.{moved_parts}
use Rattle.lane_reader.proofs.PartLemmas.{moved-then}
use Rattle.lane_reader.specs.Reading.{log_from}
use Rattle.lane_reader.specs.Viewing.{part_of, composite_in}
use Rattle.lane_reader.proofs.log.Log.consolidate.Goals as goal

pub returns-in_err-behind-clause-reads : goal.returns-in_err-behind-clause-reads
returns-in_err-behind-clause-reads c before are =
    let parts = c.args.composite.now.parts.items in
    let long = length-map parts part_of in
    let crowded : is_crowded (composite_in c.args.composite.now) ≡ true = grind (arith, nat_tests, long) in
    let size : size_of (map part_of parts) ≡ c.size_of-size.result = search rules in
    let none =
    ap (λ (n : ℕ). allot c.args.shape.now c.args.lane n (log_from before c.args.self.now c.args.at)) size
    ∙ c.in_err-behind.ensures before in
    rw (c.from_residual.ensures, crowded, none) refl

pub returns-in_err-behind-in-New-default-clause-reads : goal.returns-in_err-behind-in-New-default-clause-reads
returns-in_err-behind-in-New-default-clause-reads c before are =
    let composite = composite_in c.args.composite.now in
    let parts = c.args.composite.now.parts.items in
    let long = length-map parts part_of in
    let crowded : is_crowded composite ≡ true = grind (arith, nat_tests, long) in
    let size : size_of (map part_of parts) ≡ c.size_of-size.result = search rules in
    let allotted =
    ap (λ (n : ℕ). allot c.args.shape.now c.args.lane n (log_from before c.args.self.now c.args.at)) size
    ∙ c.in_ok-behind.ensures before in
    let new : New = record { root = c.in-New-default.root; region = c.in-New-default.region-0 } in
    let log = log_from before c.args.self.now c.in_ok-behind.field-0.1 in
    let same : c.deref-in-New-default.result.now ≡ parts = search rules in
    let none =
    ap (λ (ps : List Range). moved_parts c.args.shape.now new.root (map part_of ps) log) (sym same)
    ∙ c.in_err-behind-in-New-default.ensures before are in
    rw (c.from_residual-in_err-behind-in-New-default.ensures, crowded, allotted, c.in-New-default.is-0)
    (moved-then c.args.shape.now composite new log
    ∙ ap (option_and_then (λ got. Some (Ok (moved_to new.root composite), got.1))) none)
