use Rattle.std.proofs.Common.{◌≡◌, List, ℕ, length, leb, true, false, arith, rules, ap, subst, sym, ◌∙◌}
use Rattle.std.specs.List.Sorted.{IsNonDecreasingBy, IsPartitionPoint}
use Rattle.std.proofs.lemmas.Fn.{always_returns_same}
use Rattle.std.proofs.lemmas.List.Sorted.{IsPartitionedBy-leb}
use Rattle.pool_law.specs.declared.id.Part.{Part}
use Rattle.composite_buf.specs.Ends.{ends_from, IsIn}
use Rattle.composite_buf.proofs.MapLaws.{same_size}
use Rattle.composite_buf.proofs.EndLaws.{found_at, ends_rise, length-ends_from}
use Rattle.composite_buf.proofs.composite.Composite.part_at.Goals as goal

found : (c : goal.After-partition_point) → IsIn c.self.inside.parts.items c.args.i c.partition_point.result
found c =
    let ps : List Part = c.self.inside.parts.items in
    let i : ℕ = c.args.i in
    let same : c.deref.result.now ≡ ends_from 0 ps = c.deref.ensures.value ∙ c.self.invariant.ends in
    let Rise : List ℕ → Type 0 = λ es. IsNonDecreasingBy (λ (e : ℕ). e) es in
    let parted = IsPartitionedBy-leb (λ (e : ℕ). e) c.deref.result.now i (subst Rise (sym same) (ends_rise ps)) in
    let point =
    c.partition_point.ensures.partitioned (λ (e : ℕ). leb e i)
    (always_returns_same _ _ _ (λ a r q k. search rules)) parted in
    let At : List ℕ → Type 0 = λ es.
    IsPartitionPoint (λ (e : ℕ). leb e i ≡ true) (λ (e : ℕ). leb e i ≡ false) es c.partition_point.result in
    found_at ps i c.partition_point.result
    (omega (arith, c.requires, same_size ps c.args.self.now c.self.view_is))
    (omega (arith, c.partition_point.ensures.bound, ap length same, length-ends_from 0 ps))
    (subst At same point)

pub overflow_cast-result : goal.overflow_cast-result
overflow_cast-result c = omega (arith, (found c).there, c.self.invariant.count)

pub returns : goal.returns
returns c =
    let In : List Part → Type 0 = λ ps. IsIn ps c.args.i c.partition_point.result in subst In c.self.view_is (found c)
