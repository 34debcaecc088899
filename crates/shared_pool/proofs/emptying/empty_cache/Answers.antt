use Rattle.std.proofs.Common.{◌≡◌, ◌++◌, ◌∷◌, ℕ, List, map, length, ap, ◌∙◌, subst, arith}
use Rattle.std.specs.Prelude.{Option}
use Rattle.pool_law.specs.declared.id.Region.{Region}
use Rattle.shared_pool.specs.Emptying.{left_of, left_of_cache, AreOut}
use Rattle.shared_pool.specs.declared.home.Home.{Home}
use Rattle.shared_pool.proofs.emptying.empty_cache.Goals as goal

-- what is left of a cache with a region at its front
with_front : (n : ℕ) (homes : List (Option Home)) (rs rest : List Region) (r : Region) → rs ≡ r ∷ rest
    → AreOut n homes (map (λ (x : Region). (x.id, x.piece)) rs ++ left_of homes) →
    AreOut n homes ((r.id, r.piece) ∷ (map (λ (x : Region). (x.id, x.piece)) rest ++ left_of homes))
with_front n homes rs rest r is o =
    subst (λ (xs : List Region). AreOut n homes (map (λ (x : Region). (x.id, x.piece)) xs ++ left_of homes)) is o

pub give_to-requires : goal.give_to-requires
give_to-requires c = (
  c.requires.0,
  left_of_cache c.take_out.new.self,
  with_front c.requires.0 c.loop-region.homes c.loop-region.cache.regions c.take_out.new.self.regions c.in-Some.region
      c.in-Some.ensures.some (c.loop-region.invariant.out c.requires.0 c.requires.1),
)

pub loop-region-preserved : goal.loop-region-preserved
loop-region-preserved c = record {
  len = c.give_to.ensures.len ∙ c.loop-region.invariant.len;
  out = λ n o. c.give_to.ensures.out n (left_of_cache c.take_out.new.self)
      (with_front n c.loop-region.homes c.loop-region.cache.regions c.take_out.new.self.regions c.in-Some.region
      c.in-Some.ensures.some (c.loop-region.invariant.out n o));
}

pub loop-region-smaller : goal.loop-region-smaller
loop-region-smaller c = let e = ap (λ (xs : List Region). length xs) c.in-Some.ensures.some in omega (arith, e)
