use Rattle.std.proofs.Common.{◌^◌, ◌≤◌, ◌<◌, arith, rules}
use Rattle.object_steps.proofs.SizeLemmas.{bytes-fit, size-few, product-fits}
use Rattle.object_steps.proofs.arena.Arena.take_element.Goals as goal

pub overflow_add-offset : goal.overflow_add-offset
overflow_add-offset c =
    let low : c.args.page < 2 ^ 32 = search rules in
    let there : c.in-Some.element < 2 ^ 32 = search rules in
    let page : c.from.result ≤ 2 ^ 32 = omega (arith, c.from.ensures, low) in
    let element : c.from-2.result ≤ 2 ^ 32 = omega (arith, c.from-2.ensures, there) in
    let size : c.size_of.result ≤ 2 ^ 18 = omega (arith, c.size_of.ensures.value, size-few c.args.class c.requires) in
    let first = bytes-fit c.wide_page.result c.from.result (2 ^ 32) c.wide_page.ensures.within.1 page in
    let second = product-fits c.from-2.result c.size_of.result element size in
    omega (arith, first, second)
