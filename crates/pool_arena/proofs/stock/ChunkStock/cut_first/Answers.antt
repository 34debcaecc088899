use Rattle.std.proofs.Common.{◌≡◌, ℕ, ◌+◌, ◌-◌, ◌<◌, length, refl, sym, ap, ◌∙◌, subst, arith, Some, None, add-one}
use Rattle.std.specs.Prelude.{slice_get}
use Rattle.pool_law.specs.ChunkLists.{walk}
use Rattle.pool_law.proofs.ListLemmas.{slice_get-below}
use Rattle.arena_laws.specs.Orderly.{IsOrderly}
use Rattle.pool_arena.specs.Places.{IsWanted}
use Rattle.pool_arena.specs.Stocks.{StockState, arena_in, CutsFrom, found_in}
use Rattle.pool_arena.proofs.WalkLaws.{first_from, walked-chunk, first-passed, first-found, first-none}
use Rattle.pool_arena.proofs.stock.ChunkStock.cut_first.Goals as goal

pub loop-chunk-init : goal.loop-chunk-init
loop-chunk-init c = record { same = refl; rest = λ takings out. refl }

-- the rest of the chunks is one shorter
shorter : (n m k : ℕ) → n ≡ m → k < m → n - (k + 1) < m - k
shorter n m k same less = omega (arith, same, less)

pub cut_from-requires-clause-wanted : goal.cut_from-requires-clause-wanted
cut_from-requires-clause-wanted c =
    subst (λ (s : StockState). IsWanted s.geometry c.args.wanted) (sym c.loop-chunk.invariant.same) c.requires.wanted

pub cut_from-requires-clause-there : goal.cut_from-requires-clause-there
cut_from-requires-clause-there c =
    let at = ap (λ (s : StockState). slice_get (walk s.lists) c.loop-chunk.k) (sym c.self.view_is)
    ∙ sym c.nth.ensures.chunk ∙ c.in-Some.is in
    let orderly = subst (λ (s : StockState). IsOrderly s.geometry (arena_in s)) (sym c.loop-chunk.invariant.same)
    c.requires.orderly in
    walked-chunk c.loop-chunk.self orderly c.loop-chunk.k c.in-Some.chunk at

pub cut_from-requires-clause-some : goal.cut_from-requires-clause-some
cut_from-requires-clause-some c =
    let orderly = subst (λ (s : StockState). IsOrderly s.geometry (arena_in s)) (sym c.loop-chunk.invariant.same)
    c.requires.orderly in
    (orderly.sound c.in-Some.chunk).none_empty

pub returns-in-Some-cut_from-clause-some : goal.returns-in-Some-cut_from-clause-some
returns-in-Some-cut_from-clause-some c =
    let at = ap (λ (s : StockState). slice_get (walk s.lists) c.loop-chunk.k) (sym c.self.view_is)
    ∙ sym c.nth.ensures.chunk ∙ c.in-Some.is in
    let start = subst (λ (s : StockState). slice_get (walk s.lists) c.loop-chunk.k ≡ Some c.in-Some.chunk)
    c.loop-chunk.invariant.same at in
    let cuts = subst (λ (s : StockState). CutsFrom s c.in-Some.chunk c.args.wanted c.cut_from.new.self
    c.in-Some-cut_from.cut) c.loop-chunk.invariant.same (c.in-Some-cut_from.ensures {u = tt}).some in
    record {
      cuts = cuts;
      first = λ takings out.
          c.loop-chunk.invariant.rest takings out
          ∙ first-found c.args.self.now c.args.wanted takings out c.loop-chunk.k c.in-Some.chunk cuts.page cuts.long
          start cuts.run;
    }

pub loop-chunk-smaller : goal.loop-chunk-smaller
loop-chunk-smaller c =
    let at = ap (λ (s : StockState). slice_get (walk s.lists) c.loop-chunk.k) (sym c.self.view_is)
    ∙ sym c.nth.ensures.chunk ∙ c.in-Some.is in
    let less = slice_get-below (walk c.loop-chunk.self.lists) c.loop-chunk.k c.in-Some.chunk at in
    let same : length (walk c.cut_from.new.self.lists) ≡ length (walk c.loop-chunk.self.lists) =
    ap (λ (s : StockState). length (walk s.lists)) (c.in_default-cut_from.ensures {u = tt}).none.0 in
    shorter (length (walk c.cut_from.new.self.lists)) (length (walk c.loop-chunk.self.lists)) c.loop-chunk.k same less

pub loop-chunk-preserved : goal.loop-chunk-preserved
loop-chunk-preserved c =
    let old = c.args.self.now in
    let k = c.loop-chunk.k in
    let at = ap (λ (s : StockState). slice_get (walk s.lists) k) (sym c.self.view_is) ∙ sym c.nth.ensures.chunk
    ∙ c.in-Some.is in
    let start = subst (λ (s : StockState). slice_get (walk s.lists) k ≡ Some c.in-Some.chunk)
    c.loop-chunk.invariant.same at in
    let none = subst (λ (s : StockState). found_in s c.in-Some.chunk c.args.wanted ≡ None) c.loop-chunk.invariant.same
    (c.in_default-cut_from.ensures {u = tt}).none.1 in
    record {
      same = (c.in_default-cut_from.ensures {u = tt}).none.0 ∙ c.loop-chunk.invariant.same;
      rest = λ takings out.
          c.loop-chunk.invariant.rest takings out
          ∙ first-passed old c.args.wanted takings out k c.in-Some.chunk start none
          ∙ ap (λ (n : ℕ). first_from old c.args.wanted n takings out) (sym (add-one k));
    }

pub returns-clause-none : goal.returns-clause-none
returns-clause-none c =
    let old = c.args.self.now in
    let k = c.loop-chunk.k in
    let at : slice_get (walk c.loop-chunk.self.lists) k ≡ None =
    ap (λ (s : StockState). slice_get (walk s.lists) k) (sym c.self.view_is) ∙ sym c.nth.ensures.chunk
    ∙ c.in_default.is in
    let start = subst (λ (s : StockState). slice_get (walk s.lists) k ≡ None) c.loop-chunk.invariant.same at in (
      c.loop-chunk.invariant.same,
      λ takings out. c.loop-chunk.invariant.rest takings out ∙ first-none old c.args.wanted takings out k start,
    )
