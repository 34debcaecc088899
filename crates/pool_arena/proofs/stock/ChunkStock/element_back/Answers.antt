use Rattle.std.proofs.Common.{◌≡◌, ◌*◌, length, refl, sym, ap, ◌∙◌, subst, true}
use Rattle.std.specs.Vec.{with_item}
use Rattle.size_classes.specs.Sizes.{Geometry, is_small, chunk_pages}
use Rattle.size_classes.specs.Elements.{is_idle, with_back}
use Rattle.pool_arena.specs.SubpageLists.{SubpagesState}
use Rattle.pool_arena.specs.Stocks.{StockState, Becomes, IsElementOutOf, element_back}
use Rattle.pool_arena.specs.Held.{stock_in}
use Rattle.pool_arena.specs.declared.stock.ChunkStock.TheInside.{Inside}
use Rattle.pool_arena.proofs.StockLaws.{some_at}
use Rattle.pool_arena.proofs.FrontsLaws.{front-found, rooms-set}
use Rattle.pool_arena.proofs.ElementLaws.{elements-held}
use Rattle.pool_arena.proofs.BackLaws.{out-found, out-sub, out-element, back-room, full-back, other-back, back-law}
use Rattle.pool_arena.proofs.stock.ChunkStock.element_back.Goals as goal

pub is_full-was_full-requires : goal.is_full-was_full-requires
is_full-was_full-requires c =
    let s = c.self.inside in
    let x = c.index_mut-place.result.now in
    let o = subst (λ (w : StockState). IsElementOutOf w c.args.class c.args.spot.chunk c.args.spot.page c.args.index
    c.args.piece) (sym c.self.view_is) c.requires.out in
    let found = out-found s c.args.class c.args.spot.chunk c.args.spot.page c.args.index c.args.piece x o
    c.index_mut-place.ensures.value in
    out-sub s c.args.class c.args.spot.chunk c.args.spot.page c.args.index c.args.piece x o found

pub give_element-idle-requires : goal.give_element-idle-requires
give_element-idle-requires c =
    let s = c.self.inside in
    let x = c.index_mut-place.result.now in
    let o = subst (λ (w : StockState). IsElementOutOf w c.args.class c.args.spot.chunk c.args.spot.page c.args.index
    c.args.piece) (sym c.self.view_is) c.requires.out in
    let found = out-found s c.args.class c.args.spot.chunk c.args.spot.page c.args.index c.args.piece x o
    c.index_mut-place.ensures.value in
    out-element s c.self.invariant c.args.class c.args.spot.chunk c.args.spot.page c.args.index c.args.piece x o found

pub enter-requires : goal.enter-requires
enter-requires c =
    let s = c.self.inside in
    let x = c.index_mut-place.result.now in
    let o = subst (λ (w : StockState). IsElementOutOf w c.args.class c.args.spot.chunk c.args.spot.page c.args.index
    c.args.piece) (sym c.self.view_is) c.requires.out in
    let found = out-found s c.args.class c.args.spot.chunk c.args.spot.page c.args.index c.args.piece x o
    c.index_mut-place.ensures.value in
    let g : s.classes ≡ c.args.self.now.geometry = ap (λ (w : StockState). w.geometry) c.self.view_is in
    let front = front-found s c.self.invariant c.args.self.now.geometry c.args.class c.index_mut.result.now g
    c.requires.class.0 c.index_mut.ensures.value in
    let full = sym (c.is_full-was_full.ensures
    (out-sub s c.args.class c.args.spot.chunk c.args.spot.page c.args.index c.args.piece x o found))
    ∙ c.if-was_full.true in
    back-room s c.self.invariant c.args.class c.args.spot.chunk c.args.spot.page c.args.index c.args.piece
    c.index_mut.result.now o front
    (subst (λ (h : Geometry). is_small h c.args.class ≡ true) (sym g) c.requires.class.1) o full

abbrev entered : goal.After-self-then-was_full-1 → Inside
entered c =
    record {
      classes = c.self.inside.classes;
      page = c.self.inside.page;
      places = with_item c.self.inside.places c.args.spot.chunk c.give_element-idle.new.self;
      lists = c.self.inside.lists;
      fronts = with_item c.self.inside.fronts c.args.class c.enter.new.self;
    }

abbrev stays : goal.Else-was_full → Inside
stays c =
    record {
      classes = c.self.inside.classes;
      page = c.self.inside.page;
      places = with_item c.self.inside.places c.args.spot.chunk c.give_element-idle.new.self;
      lists = c.self.inside.lists;
      fronts = c.self.inside.fronts;
    }

pub invariant_of-self : goal.invariant_of-self
invariant_of-self c =
    let s = c.self.inside in
    let x = c.index_mut-place.result.now in
    let o = subst (λ (w : StockState). IsElementOutOf w c.args.class c.args.spot.chunk c.args.spot.page c.args.index
    c.args.piece) (sym c.self.view_is) c.requires.out in
    let found = out-found s c.args.class c.args.spot.chunk c.args.spot.page c.args.index c.args.piece x o
    c.index_mut-place.ensures.value in
    let g : s.classes ≡ c.args.self.now.geometry = ap (λ (w : StockState). w.geometry) c.self.view_is in
    let front = front-found s c.self.invariant c.args.self.now.geometry c.args.class c.index_mut.result.now g
    c.requires.class.0 c.index_mut.ensures.value in
    elements-held s (entered c) c.self.invariant c.args.spot.chunk x c.give_element-idle.new.self c.args.spot.page found
    (out-sub s c.args.class c.args.spot.chunk c.args.spot.page c.args.index c.args.piece x o found)
    (with_back o.elements c.args.index)
    (c.give_element-idle.ensures.chunk
    (out-element s c.self.invariant c.args.class c.args.spot.chunk c.args.spot.page c.args.index c.args.piece x o
    found)) refl refl refl
    (some_at s c.args.self.now c.args.spot.chunk x c.self.view_is found c.requires.some)
    (rooms-set (length s.places.items * chunk_pages s.classes) s.classes s.fronts.items c.args.class
    c.index_mut.result.now c.enter.new.self c.self.invariant.fronts front
    (ap (λ (f : SubpagesState). f.room) c.enter.ensures))

pub invariant_of-self-else-was_full : goal.invariant_of-self-else-was_full
invariant_of-self-else-was_full c =
    let s = c.self.inside in
    let x = c.index_mut-place.result.now in
    let o = subst (λ (w : StockState). IsElementOutOf w c.args.class c.args.spot.chunk c.args.spot.page c.args.index
    c.args.piece) (sym c.self.view_is) c.requires.out in
    let found = out-found s c.args.class c.args.spot.chunk c.args.spot.page c.args.index c.args.piece x o
    c.index_mut-place.ensures.value in
    elements-held s (stays c) c.self.invariant c.args.spot.chunk x c.give_element-idle.new.self c.args.spot.page found
    (out-sub s c.args.class c.args.spot.chunk c.args.spot.page c.args.index c.args.piece x o found)
    (with_back o.elements c.args.index)
    (c.give_element-idle.ensures.chunk
    (out-element s c.self.invariant c.args.class c.args.spot.chunk c.args.spot.page c.args.index c.args.piece x o
    found)) refl refl refl
    (some_at s c.args.self.now c.args.spot.chunk x c.self.view_is found c.requires.some) c.self.invariant.fronts

pub returns-then-was_full-clause-idle : goal.returns-then-was_full-clause-idle
returns-then-was_full-clause-idle c =
    let s = c.self.inside in
    let x = c.index_mut-place.result.now in
    subst (λ (w : StockState). (o : IsElementOutOf w c.args.class c.args.spot.chunk c.args.spot.page c.args.index
    c.args.piece) → c.give_element-idle.result ≡ is_idle (with_back o.elements c.args.index))
    c.self.view_is
    (λ o. c.give_element-idle.ensures.idle
    (out-element s c.self.invariant c.args.class c.args.spot.chunk c.args.spot.page c.args.index c.args.piece x o
    (out-found s c.args.class c.args.spot.chunk c.args.spot.page c.args.index c.args.piece x o
    c.index_mut-place.ensures.value)))

pub returns-else-was_full-clause-idle : goal.returns-else-was_full-clause-idle
returns-else-was_full-clause-idle c =
    let s = c.self.inside in
    let x = c.index_mut-place.result.now in
    subst (λ (w : StockState). (o : IsElementOutOf w c.args.class c.args.spot.chunk c.args.spot.page c.args.index
    c.args.piece) → c.give_element-idle.result ≡ is_idle (with_back o.elements c.args.index))
    c.self.view_is
    (λ o. c.give_element-idle.ensures.idle
    (out-element s c.self.invariant c.args.class c.args.spot.chunk c.args.spot.page c.args.index c.args.piece x o
    (out-found s c.args.class c.args.spot.chunk c.args.spot.page c.args.index c.args.piece x o
    c.index_mut-place.ensures.value)))

pub returns-then-was_full-clause-back : goal.returns-then-was_full-clause-back
returns-then-was_full-clause-back c =
    let s = c.self.inside in
    let x = c.index_mut-place.result.now in
    let g : s.classes ≡ c.args.self.now.geometry = ap (λ (w : StockState). w.geometry) c.self.view_is in
    let front = front-found s c.self.invariant c.args.self.now.geometry c.args.class c.index_mut.result.now g
    c.requires.class.0 c.index_mut.ensures.value in
    subst
    (λ (w : StockState). (o : IsElementOutOf w c.args.class c.args.spot.chunk c.args.spot.page c.args.index
    c.args.piece)
    → Becomes w (element_back c.args.class c.args.spot.chunk c.args.spot.page c.args.index o.elements)
    (stock_in (entered c)))
    c.self.view_is
    (λ o.
    let found = out-found s c.args.class c.args.spot.chunk c.args.spot.page c.args.index c.args.piece x o
    c.index_mut-place.ensures.value in
    let full = sym (c.is_full-was_full.ensures
    (out-sub s c.args.class c.args.spot.chunk c.args.spot.page c.args.index c.args.piece x o found))
    ∙ c.if-was_full.true in
    back-law s (entered c) c.self.invariant c.args.class c.args.spot.chunk c.args.spot.page c.args.index c.args.piece x
    c.give_element-idle.new.self o found
    (c.give_element-idle.ensures.chunk
    (out-element s c.self.invariant c.args.class c.args.spot.chunk c.args.spot.page c.args.index c.args.piece x o
    found)) refl refl refl
    (full-back s c.args.class c.args.spot.chunk c.args.spot.page o.elements c.index_mut.result.now c.enter.new.self
    (with_item s.fronts c.args.class c.enter.new.self).items front (ap (λ
    (f : SubpagesState). f.subpages) c.enter.ensures)
    refl full))

pub returns-else-was_full-clause-back : goal.returns-else-was_full-clause-back
returns-else-was_full-clause-back c =
    let s = c.self.inside in
    let x = c.index_mut-place.result.now in
    subst
    (λ (w : StockState). (o : IsElementOutOf w c.args.class c.args.spot.chunk c.args.spot.page c.args.index
    c.args.piece)
    → Becomes w (element_back c.args.class c.args.spot.chunk c.args.spot.page c.args.index o.elements)
    (stock_in (stays c)))
    c.self.view_is
    (λ o.
    let found = out-found s c.args.class c.args.spot.chunk c.args.spot.page c.args.index c.args.piece x o
    c.index_mut-place.ensures.value in
    let other = sym (c.is_full-was_full.ensures
    (out-sub s c.args.class c.args.spot.chunk c.args.spot.page c.args.index c.args.piece x o found))
    ∙ c.if-was_full.false in
    back-law s (stays c) c.self.invariant c.args.class c.args.spot.chunk c.args.spot.page c.args.index c.args.piece x
    c.give_element-idle.new.self o found
    (c.give_element-idle.ensures.chunk
    (out-element s c.self.invariant c.args.class c.args.spot.chunk c.args.spot.page c.args.index c.args.piece x o
    found)) refl refl refl
    (other-back s c.args.class c.args.spot.chunk c.args.spot.page o.elements other))
