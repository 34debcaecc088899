use Rattle.std.proofs.Common.{◌≡◌, List, ap, sym, ◌∙◌}
use Rattle.std.specs.Prelude.{position, not, is_some, Option, ℕ, map}
use Rattle.pool_arena.specs.Places.{PlaceState}
use Rattle.pool_arena.specs.Stocks.{StockState}
use Rattle.pool_law.specs.Arenas.{first_unused}
use Rattle.pool_arena.proofs.ListLaws.{unused-first}
use Rattle.pool_arena.proofs.stock.ChunkStock.first_unused.Goals as goal

-- the first of the places as a caller sees them
seen : (o : Option ℕ) (looked items : List PlaceState) (s : StockState)
    → o ≡ position (λ (p : PlaceState). not (is_some p.chunk)) looked
    → looked ≡ items → map (λ (p : PlaceState). p.chunk) items ≡ s.chunks → o ≡ first_unused s.chunks
seen o looked items s is same chunks =
    is ∙ ap (λ (ps : List PlaceState). position (λ (p : PlaceState). not (is_some p.chunk)) ps) same
    ∙ unused-first items ∙ ap first_unused chunks

pub returns-in-Some : goal.returns-in-Some
returns-in-Some c =
    sym c.in-Some.is
    ∙ seen c.first_unused.result c.deref.result.now c.self.inside.places.items c.args.self.now
    c.first_unused.ensures.place c.deref.ensures.value
    (ap (λ (s : StockState). s.chunks) c.self.view_is)

pub returns-in-None : goal.returns-in-None
returns-in-None c =
    sym c.in-None.is
    ∙ seen c.first_unused.result c.deref.result.now c.self.inside.places.items c.args.self.now
    c.first_unused.ensures.place c.deref.ensures.value
    (ap (λ (s : StockState). s.chunks) c.self.view_is)
