use Rattle.std.proofs.Common.{◌≡◌, ◌++◌, ◌∷◌, [], ◌≤◌, List, length, sym, ap, subst, arith, length-append}
use Rattle.std.specs.Prelude.{Option}
use Rattle.shared_pool.specs.Emptying.{Left, left_at, left_of, AreOut}
use Rattle.shared_pool.specs.declared.home.Home.{Home}
use Rattle.shared_pool.proofs.Emptyings.{popped, none_left_of, written}
use Rattle.shared_pool.proofs.emptying.empty.Goals as goal

pub empty_home-requires : goal.empty_home-requires
empty_home-requires c =
    let homes : List (Option Home) = c.loop-homes.homes.items in let rest : List (Option Home) = c.pop.new.self.items in
    let is : homes ≡ rest ++ c.in-Some.home ∷ [] = (c.in-Some.ensures {u = tt}).items in
    let many = ap (λ (xs : List (Option Home)). length xs) is in let more = length-append rest (c.in-Some.home ∷ []) in
    let test = c.loop-homes-test.true in let len = c.len.ensures in (
      c.args.arenas,
      subst (λ (xs : List (Option Home)). AreOut c.args.arenas xs (left_at c.in-Some.home ++ left_of xs))
          (sym c.deref_mut.ensures.value)
          (popped c.args.arenas homes rest c.in-Some.home is (omega (arith, many, more, test, len))
          c.loop-homes.invariant.out),
    )

pub loop-homes-preserved : goal.loop-homes-preserved
loop-homes-preserved c =
    let homes : List (Option Home) = c.loop-homes.homes.items in let rest : List (Option Home) = c.pop.new.self.items in
    let new : List (Option Home) = c.empty_home.new.homes in
    let is : homes ≡ rest ++ c.in-Some.home ∷ [] = (c.in-Some.ensures {u = tt}).items in
    let many = ap (λ (xs : List (Option Home)). length xs) is in let more = length-append rest (c.in-Some.home ∷ []) in
    let test = c.loop-homes-test.true in let len = c.len.ensures in
    let le : c.args.arenas ≤ length rest = omega (arith, many, more, test, len) in
    let same = ap (λ (xs : List (Option Home)). length xs) c.deref_mut.ensures.value in let kept =
    c.empty_home.ensures.len in let whole = c.pop.new.self.ok.0 in
    let back = written c.pop.new.self.len new c.pop.new.self.items (omega (arith, same, kept, whole)) in
    let o = c.empty_home.ensures.out c.args.arenas
    (subst (λ (xs : List (Option Home)). AreOut c.args.arenas xs (left_at c.in-Some.home ++ left_of xs))
    (sym c.deref_mut.ensures.value)
    (popped c.args.arenas homes rest c.in-Some.home is le c.loop-homes.invariant.out)) in
    record {
      many = subst (λ (xs : List (Option Home)). c.args.arenas ≤ length xs) (sym back) (omega (arith, le, same, kept));
      out = subst (λ (xs : List (Option Home)). AreOut c.args.arenas xs (left_of xs)) (sym back) o;
    }

pub returns-clause-out : goal.returns-clause-out
returns-clause-out c =
    let homes : List (Option Home) = c.loop-homes.homes.items in let many = c.loop-homes.invariant.many in let test =
    c.loop-homes-test.false in let len = c.len.ensures in
    subst (λ (xs : List Left). AreOut c.args.arenas homes xs)
    (none_left_of c.args.arenas homes (left_of homes) (omega (arith, many, test, len)) c.loop-homes.invariant.out)
    c.loop-homes.invariant.out
