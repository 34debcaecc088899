-- What an arena keeps, and what its takings and givings are, in the law's words.
use Rattle.std.proofs.Common.{◌≡◌, ℕ, [], length, refl, sym, ap, ◌∙◌, subst, Bool, true, false, arith, ◌≤◌}
use Rattle.std.specs.Prelude.{Option, IfSome}
use Rattle.size_classes.specs.Sizes.{Geometry, IsPage, class_count, is_small}
use Rattle.size_classes.proofs.Geometries.{page_shift-is}
use Rattle.size_classes.proofs.SmallClasses.{small_below}
use Rattle.pool_law.specs.declared.id.RegionId.{RegionId}
use Rattle.pool_law.specs.Arenas.{Arena, Yielded, chunk_at, take_class, given_place}
use Rattle.arena_laws.specs.Orderly.{IsOrderly}
use Rattle.arena_laws.specs.Slots.{IsSlot}
use Rattle.arena_laws.proofs.OrderlyTakes.{take_class-orderly}
use Rattle.arena_laws.proofs.OrderlyGives.{given_place-orderly}
use Rattle.pool_arena.specs.Stocks.{StockState, arena_in, Yields, Becomes}
use Rattle.pool_arena.proofs.KeptPlaces.{Keeps, class-keeps, place-keeps}

-- a taking keeps the order
pub taken-orderly : (old new : StockState) (class chunk at : ℕ) → IsOrderly old.geometry (arena_in old)
    → Yields old (λ a. take_class old.geometry a class) chunk at new
    → IsOrderly new.geometry (arena_in new)
taken-orderly old new class chunk at o yields =
    subst (λ (g : Geometry). IsOrderly g (arena_in new)) (sym yields.geometry)
    (take_class-orderly old.geometry (arena_in old) class o (chunk, at, arena_in new) (yields.law 0 []))

-- a giving keeps it too
pub given-orderly : (old new : StockState) (r : RegionId) (offset : ℕ) → IsOrderly old.geometry (arena_in old)
    → IsSlot old.geometry (chunk_at (arena_in old) r.place.chunk) r
    → offset ≡ r.place.offset → Becomes old (λ a. given_place old.geometry a r.class r.place.chunk offset) new
    → IsOrderly new.geometry (arena_in new)
given-orderly old new r offset o slot same becomes =
    subst (λ (g : Geometry). IsOrderly g (arena_in new)) (sym becomes.geometry)
    (subst (λ (a : Arena). IsOrderly old.geometry a) (becomes.law 0 [])
    (subst (λ (n : ℕ). IsOrderly old.geometry (given_place old.geometry (arena_in old) r.class r.place.chunk n))
    (sym same)
    (given_place-orderly old.geometry (arena_in old) r o slot)))

-- neither changes the number of chunk places
pub taken-places : (old new : StockState) (class chunk at : ℕ)
    → Yields old (λ a. take_class old.geometry a class) chunk at new → length new.chunks ≡ length old.chunks
taken-places old new class chunk at yields =
    subst (λ (o : Option Yielded). IfSome o (Keeps (length old.chunks))) (yields.law 0 [])
    (class-keeps old.geometry (arena_in old) class)

pub given-places : (old new : StockState) (class chunk offset : ℕ)
    → Becomes old (λ a. given_place old.geometry a class chunk offset) new → length new.chunks ≡ length old.chunks
given-places old new class chunk offset becomes =
    ap (λ (x : Arena). length x.chunks) (sym (becomes.law 0 []))
    ∙ place-keeps old.geometry (arena_in old) class chunk offset

-- a number past the classes is that of no small class
pub past-not_small : (g : Geometry) → IsPage g.page → (class : ℕ) → 3 ≤ g.order → class_count g ≤ class
    → is_small g class ≡ false
past-not_small g page class order past = by (is_small g class) refl
  where
    by : (b : Bool) → is_small g class ≡ b → is_small g class ≡ false
    by false is = is
    by true is = absurd (omega (arith, small_below g page class is, order, (page_shift-is g.page page).least, past))
