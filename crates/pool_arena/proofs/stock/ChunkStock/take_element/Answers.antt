use Rattle.std.proofs.Common.{◌≡◌, ℕ, ◌*◌, length, refl, sym, ap, ◌∙◌, subst, Some}
use Rattle.std.specs.Vec.{with_item}
use Rattle.std.specs.Prelude.{slice_get, slice_index_or}
use Rattle.size_classes.specs.Sizes.{chunk_pages}
use Rattle.size_classes.specs.Elements.{with_out}
use Rattle.pool_law.specs.Arenas.{take_element}
use Rattle.pool_arena.specs.Places.{PlaceState}
use Rattle.pool_arena.specs.SubpageLists.{SubpagesState}
use Rattle.pool_arena.specs.Stocks.{StockState, IsOpen, GivesPlace}
use Rattle.pool_arena.specs.Held.{stock_in}
use Rattle.pool_arena.specs.declared.stock.ChunkStock.TheInside.{Inside}
use Rattle.pool_arena.proofs.ListLaws.{found-is}
use Rattle.pool_arena.proofs.StockLaws.{some_at}
use Rattle.pool_arena.proofs.FrontsLaws.{front-found, rooms-set}
use Rattle.pool_arena.proofs.ElementLaws.{open-sub, subpage-changed, elements-held, take-law, open-within, full-fronts, other-fronts}
use Rattle.pool_arena.proofs.stock.ChunkStock.take_element.Goals as goal

-- what is asked, by the fields
abbrev open_at : (s : Inside) (v : StockState) (class c page : ℕ) → stock_in s ≡ v → IsOpen v class c page
    → IsOpen (stock_in s) class c page
open_at s v class c page same o = subst (λ (w : StockState). IsOpen w class c page) (sym same) o

abbrev found_at : (s : Inside) (class c page : ℕ) (x : PlaceState) → IsOpen (stock_in s) class c page
    → x ≡ slice_index_or s.places.items c x → slice_get s.places.items c ≡ Some x
found_at s class c page x o here = found-is s.places.items c x (open-within s class c page o) here

pub take_element-piece-requires : goal.take_element-piece-requires
take_element-piece-requires c =
    let s = c.self.inside in
    let o = open_at s c.args.self.now c.args.class c.args.spot.chunk c.args.spot.page c.self.view_is c.requires.room in
    let found = found_at s c.args.class c.args.spot.chunk c.args.spot.page c.index_mut-place.result.now o
    c.index_mut-place.ensures.value in
    (open-sub s c.args.class c.args.spot.chunk c.args.spot.page c.index_mut-place.result.now found o, o.room)

pub is_full-requires : goal.is_full-requires
is_full-requires c =
    let s = c.self.inside in
    let o = open_at s c.args.self.now c.args.class c.args.spot.chunk c.args.spot.page c.self.view_is c.requires.room in
    let found = found_at s c.args.class c.args.spot.chunk c.args.spot.page c.index_mut-place.result.now o
    c.index_mut-place.ensures.value in
    let sub = open-sub s c.args.class c.args.spot.chunk c.args.spot.page c.index_mut-place.result.now found o in
    let out = c.take_element-piece.ensures sub in
    subpage-changed c.index_mut-place.result.now c.take_element-piece.new.self c.args.spot.page sub
    (with_out o.elements out.element) out.rest

abbrev left : goal.After-self-then-is_full-1 → Inside
left c =
    record {
      classes = c.self.inside.classes;
      page = c.self.inside.page;
      places = with_item c.self.inside.places c.args.spot.chunk c.take_element-piece.new.self;
      lists = c.self.inside.lists;
      fronts = with_item c.self.inside.fronts c.args.class c.leave.new.self;
    }

abbrev stays : goal.Else-is_full → Inside
stays c =
    record {
      classes = c.self.inside.classes;
      page = c.self.inside.page;
      places = with_item c.self.inside.places c.args.spot.chunk c.take_element-piece.new.self;
      lists = c.self.inside.lists;
      fronts = c.self.inside.fronts;
    }

pub invariant_of-self : goal.invariant_of-self
invariant_of-self c =
    let s = c.self.inside in
    let x = c.index_mut-place.result.now in
    let o = open_at s c.args.self.now c.args.class c.args.spot.chunk c.args.spot.page c.self.view_is c.requires.room in
    let found = found_at s c.args.class c.args.spot.chunk c.args.spot.page x o c.index_mut-place.ensures.value in
    let sub = open-sub s c.args.class c.args.spot.chunk c.args.spot.page x found o in
    let out = c.take_element-piece.ensures sub in
    let g : s.classes ≡ c.args.self.now.geometry = ap (λ (v : StockState). v.geometry) c.self.view_is in
    let front = front-found s c.self.invariant c.args.self.now.geometry c.args.class c.index_mut.result.now g
    c.requires.class c.index_mut.ensures.value in
    elements-held s (left c) c.self.invariant c.args.spot.chunk x c.take_element-piece.new.self c.args.spot.page found
    sub (with_out o.elements out.element) out.rest refl refl refl
    (some_at s c.args.self.now c.args.spot.chunk x c.self.view_is found c.requires.some)
    (rooms-set (length s.places.items * chunk_pages s.classes) s.classes s.fronts.items c.args.class
    c.index_mut.result.now c.leave.new.self c.self.invariant.fronts front
    (ap (λ (f : SubpagesState). f.room) c.leave.ensures))

pub invariant_of-self-else-is_full : goal.invariant_of-self-else-is_full
invariant_of-self-else-is_full c =
    let s = c.self.inside in
    let x = c.index_mut-place.result.now in
    let o = open_at s c.args.self.now c.args.class c.args.spot.chunk c.args.spot.page c.self.view_is c.requires.room in
    let found = found_at s c.args.class c.args.spot.chunk c.args.spot.page x o c.index_mut-place.ensures.value in
    let sub = open-sub s c.args.class c.args.spot.chunk c.args.spot.page x found o in
    let out = c.take_element-piece.ensures sub in
    elements-held s (stays c) c.self.invariant c.args.spot.chunk x c.take_element-piece.new.self c.args.spot.page found
    sub (with_out o.elements out.element) out.rest refl refl refl
    (some_at s c.args.self.now c.args.spot.chunk x c.self.view_is found c.requires.some) c.self.invariant.fronts

pub returns-then-is_full : goal.returns-then-is_full
returns-then-is_full c =
    let s = c.self.inside in
    let x = c.index_mut-place.result.now in
    let o = open_at s c.args.self.now c.args.class c.args.spot.chunk c.args.spot.page c.self.view_is c.requires.room in
    let found = found_at s c.args.class c.args.spot.chunk c.args.spot.page x o c.index_mut-place.ensures.value in
    let sub = open-sub s c.args.class c.args.spot.chunk c.args.spot.page x found o in
    let out = c.take_element-piece.ensures sub in
    let full = sym (c.is_full.ensures
    (subpage-changed x c.take_element-piece.new.self c.args.spot.page sub (with_out o.elements out.element)
    out.rest)) ∙ c.if-is_full.true in
    let g : s.classes ≡ c.args.self.now.geometry = ap (λ (v : StockState). v.geometry) c.self.view_is in
    let front = front-found s c.self.invariant c.args.self.now.geometry c.args.class c.index_mut.result.now g
    c.requires.class c.index_mut.ensures.value in
    subst (λ (v : StockState). GivesPlace v
    (λ a. take_element v.geometry a c.args.class (c.args.spot.chunk, c.args.spot.page)) c.args.class
    (stock_in (left c)) c.args.spot.chunk c.take_element-piece.result)
    c.self.view_is
    (take-law s (left c) c.self.invariant c.args.class c.args.spot.chunk c.args.spot.page x
    c.take_element-piece.new.self found o c.take_element-piece.result out refl refl refl
    (full-fronts s c.args.class c.args.spot.chunk c.args.spot.page (with_out o.elements out.element)
    c.index_mut.result.now c.leave.new.self
    (with_item s.fronts c.args.class c.leave.new.self).items front (ap (λ
    (f : SubpagesState). f.subpages) c.leave.ensures)
    refl full))

pub returns-else-is_full : goal.returns-else-is_full
returns-else-is_full c =
    let s = c.self.inside in
    let x = c.index_mut-place.result.now in
    let o = open_at s c.args.self.now c.args.class c.args.spot.chunk c.args.spot.page c.self.view_is c.requires.room in
    let found = found_at s c.args.class c.args.spot.chunk c.args.spot.page x o c.index_mut-place.ensures.value in
    let sub = open-sub s c.args.class c.args.spot.chunk c.args.spot.page x found o in
    let out = c.take_element-piece.ensures sub in
    let other = sym (c.is_full.ensures
    (subpage-changed x c.take_element-piece.new.self c.args.spot.page sub (with_out o.elements out.element)
    out.rest)) ∙ c.if-is_full.false in
    subst (λ (v : StockState). GivesPlace v
    (λ a. take_element v.geometry a c.args.class (c.args.spot.chunk, c.args.spot.page)) c.args.class
    (stock_in (stays c)) c.args.spot.chunk c.take_element-piece.result)
    c.self.view_is
    (take-law s (stays c) c.self.invariant c.args.class c.args.spot.chunk c.args.spot.page x
    c.take_element-piece.new.self found o c.take_element-piece.result out refl refl refl
    (other-fronts s c.args.class c.args.spot.chunk c.args.spot.page (with_out o.elements out.element) other))
