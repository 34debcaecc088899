use Rattle.std.proofs.Common.{sym, ap, ◌∙◌, subst}
use Rattle.size_classes.specs.Sizes.{Geometry}
use Rattle.arena_laws.specs.Orderly.{IsOrderly}
use Rattle.pool_arena.specs.Places.{IsWanted}
use Rattle.pool_arena.specs.Stocks.{StockState, arena_in, FindsNone, CutsOff}
use Rattle.pool_arena.proofs.NewLaws.{cuts-first, unused-none, mid-some, mid-there, mid-has, cuts-new}
use Rattle.pool_arena.proofs.stock.ChunkStock.cut.Goals as goal

pub returns-in-Some-clause-some : goal.returns-in-Some-clause-some
returns-in-Some-clause-some c =
    cuts-first c.args.self.now c.cut_first.new.self c.args.wanted c.in-Some.chunk c.in-Some.cut
    (c.in-Some.ensures {u = tt}).some

pub start-requires : goal.start-requires
start-requires c =
    let same = (c.in_default.ensures {u = tt}).none.0 in
    let unused = sym (c.in_ok-chunk.ensures {u = tt}) in
    let orderly = subst (λ (s : StockState). IsOrderly s.geometry (arena_in s)) (sym same) c.requires.orderly in
    unused-none c.cut_first.new.self orderly c.in_ok-chunk.chunk unused

pub cut_from-requires-clause-wanted : goal.cut_from-requires-clause-wanted
cut_from-requires-clause-wanted c =
    let same = (c.in_default.ensures {u = tt}).none.0 in
    subst (λ (g : Geometry). IsWanted g c.args.wanted)
    (sym (c.start.ensures.geometry ∙ ap (λ (s : StockState). s.geometry) same)) c.requires.wanted

pub cut_from-requires-clause-there : goal.cut_from-requires-clause-there
cut_from-requires-clause-there c =
    let same = (c.in_default.ensures {u = tt}).none.0 in
    let orderly = subst (λ (s : StockState). IsOrderly s.geometry (arena_in s)) (sym same) c.requires.orderly in
    mid-there c.cut_first.new.self c.start.new.self orderly c.in_ok-chunk.chunk (sym (c.in_ok-chunk.ensures {u = tt}))
    c.start.ensures

pub cut_from-requires-clause-some : goal.cut_from-requires-clause-some
cut_from-requires-clause-some c =
    let same = (c.in_default.ensures {u = tt}).none.0 in
    let orderly = subst (λ (s : StockState). IsOrderly s.geometry (arena_in s)) (sym same) c.requires.orderly in
    mid-some c.cut_first.new.self c.start.new.self orderly c.in_ok-chunk.chunk (sym (c.in_ok-chunk.ensures {u = tt}))
    c.start.ensures

pub unreachable-requires : goal.unreachable-requires
unreachable-requires c =
    let same = (c.in_default.ensures {u = tt}).none.0 in
    let orderly = subst (λ (s : StockState). IsOrderly s.geometry (arena_in s)) (sym same) c.requires.orderly in
    let wanted = subst (λ (s : StockState). IsWanted s.geometry c.args.wanted) (sym same) c.requires.wanted in
    mid-has c.cut_first.new.self c.start.new.self orderly c.args.wanted wanted c.in_ok-chunk.chunk
    (sym (c.in_ok-chunk.ensures {u = tt})) c.start.ensures
    (c.in_default-cut_from.ensures {u = tt}).none.1

pub returns-clause-some : goal.returns-clause-some
returns-clause-some c =
    let none = (c.in_default.ensures {u = tt}).none in
    let orderly = subst (λ (s : StockState). IsOrderly s.geometry (arena_in s)) (sym none.0) c.requires.orderly in
    let wanted = subst (λ (s : StockState). IsWanted s.geometry c.args.wanted) (sym none.0) c.requires.wanted in
    let no_chunk = subst (λ (s : StockState). FindsNone s c.args.wanted) (sym none.0) none.1 in
    subst (λ (s : StockState). CutsOff s c.args.wanted c.cut_from.new.self c.in_ok-chunk.chunk c.in-Some-cut_from.cut)
    none.0
    (cuts-new c.cut_first.new.self c.start.new.self orderly c.args.wanted wanted c.in_ok-chunk.chunk
    (sym (c.in_ok-chunk.ensures {u = tt})) c.start.ensures
    c.cut_from.new.self c.in-Some-cut_from.cut no_chunk (c.in-Some-cut_from.ensures {u = tt}).some)
