use Rattle.std.proofs.Common.{rules, ◌≡◌, ℕ, suc, ◌+◌, ◌-◌, ◌++◌, length, ap, ◌∙◌, arith}
use Rattle.std.specs.Prelude.{None, replicate, vec_len}
use Rattle.pool_table.proofs.Unwrapping.{gap_less, gap_there}
use Rattle.pool_table.proofs.making.drop_empty.Goals as goal

pub loop-dropped-init : goal.loop-dropped-init
loop-dropped-init g c =
    let n : ℕ = c.args.count in let e : n ≡ n - 0 = omega arith in
    c.requires.1 ∙ ap (λ k. g.before ++ replicate k None) e

pub unreachable-requires : goal.unreachable-requires
unreachable-requires g c =
    let n : ℕ = c.args.count in let k : ℕ = c.loop-dropped._dropped in let test = c.loop-dropped-test.true in
    let e : n - k ≡ suc (n - (k + 1)) = omega (arith, test) in
    let some = gap_there c.loop-dropped.slots.items g.before (n - (k + 1)) None
    (c.loop-dropped.invariant ∙ ap (λ m. g.before ++ replicate m None) e) in
    let long : length c.loop-dropped.slots.items ≡ vec_len c.loop-dropped.slots = search (rules) in
    let none = c.in_default.ensures.cases.0 in omega (arith, some, long, none)

pub leave-requires : goal.leave-requires
leave-requires g c =
    let n : ℕ = c.args.count in let k : ℕ = c.loop-dropped._dropped in let test = c.loop-dropped-test.true in
    let e : n - k ≡ suc (n - (k + 1)) = omega (arith, test) in
    (gap_less c.loop-dropped.slots.items g.before c.pop.new.self.items (n - (k + 1)) None c.in-Some.bare
    (c.loop-dropped.invariant ∙ ap (λ m. g.before ++ replicate m None) e) c.in-Some.ensures.items).1

pub loop-dropped-preserved : goal.loop-dropped-preserved
loop-dropped-preserved g c =
    let n : ℕ = c.args.count in let k : ℕ = c.loop-dropped._dropped in let test = c.loop-dropped-test.true in
    let e : n - k ≡ suc (n - (k + 1)) = omega (arith, test) in
    (gap_less c.loop-dropped.slots.items g.before c.pop.new.self.items (n - (k + 1)) None c.in-Some.bare
    (c.loop-dropped.invariant ∙ ap (λ m. g.before ++ replicate m None) e) c.in-Some.ensures.items).0
