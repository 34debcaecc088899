use Rattle.std.proofs.Common.{◌-◌, ◌*◌, ◌/◌, ◌^◌, ◌≤◌, ◌+◌, Fits-le, Fits-lit, arith}
use Rattle.size_classes.proofs.CountLaws.{Quarters, doubling-least, quarters-of, last-quarters}
use Rattle.size_classes.proofs.counts.last_at_most.Goals as goal

pub overflow_sub-result-2 : goal.overflow_sub-result-2
overflow_sub-result-2 c =
    doubling-least c.args.n c.ilog2-doubling.result c.if-n-lt4.false c.ilog2-doubling.ensures.next_power_gt

quarters : (c : goal.After-ilog2-doubling) → Quarters c.args.n c.ilog2-doubling.result
    (c.args.n / 2 ^ (c.ilog2-doubling.result - 2))
quarters c =
    let log = c.ilog2-doubling.ensures in
    quarters-of c.args.n c.ilog2-doubling.result
    (doubling-least c.args.n c.ilog2-doubling.result c.if-n-lt4.false log.next_power_gt) log.power_le
    log.next_power_gt

pub overflow_add-result : goal.overflow_add-result
overflow_add-result c =
    let q = quarters c in
    let small : 4 * c.ilog2-doubling.result + c.args.n / 2 ^ (c.ilog2-doubling.result - 2) ≤ 135 =
    omega (arith, q.most, c.ilog2-doubling.ensures.bound) in
    Fits-le small (Fits-lit tt)

pub overflow_sub-result-3 : goal.overflow_sub-result-3
overflow_sub-result-3 c =
    let two = doubling-least c.args.n c.ilog2-doubling.result c.if-n-lt4.false c.ilog2-doubling.ensures.next_power_gt in
    omega (arith, (quarters c).least, two)

pub returns-clause-last : goal.returns-clause-last
returns-clause-last c =
    let log = c.ilog2-doubling.ensures in
    last-quarters c.args.n c.ilog2-doubling.result
    (doubling-least c.args.n c.ilog2-doubling.result c.if-n-lt4.false log.next_power_gt) log.power_le
    log.next_power_gt

pub returns-clause-few : goal.returns-clause-few
returns-clause-few c = omega (arith, (quarters c).most, c.ilog2-doubling.ensures.bound)
