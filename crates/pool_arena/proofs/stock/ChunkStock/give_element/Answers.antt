use Rattle.std.proofs.Common.{◌≡◌, ℕ, ◌-◌, ◌*◌, ◌/◌, ◌<◌, sym, ap, ap₂, ◌∙◌, subst, Bool, true, Some}
use Rattle.std.specs.Prelude.{slice_get, slice_index_or}
use Rattle.ground.specs.Ground.{Segment}
use Rattle.size_classes.specs.Sizes.{Geometry, page_of, class_count, is_small, size_at}
use Rattle.size_classes.specs.Pages.{Used, run_start}
use Rattle.size_classes.specs.Runs.{Begins}
use Rattle.size_classes.specs.Elements.{is_idle, with_back}
use Rattle.pool_law.specs.Chunks.{Chunk, Sub, IsChunk}
use Rattle.pool_law.specs.Arenas.{chunk_at, is_alone}
use Rattle.arena_laws.specs.Orderly.{IsOrderly}
use Rattle.pool_chunk.specs.ChunkStates.{IsInUse}
use Rattle.pool_arena.specs.Places.{PlaceState, runs_of, state_of}
use Rattle.pool_arena.specs.Stocks.{StockState, arena_in, Becomes, IsPlaceOut, IsElementOutOf, IsIdleAt, element_back, subpage_given}
use Rattle.pool_arena.specs.Held.{stock_in, IsStock}
use Rattle.pool_arena.specs.declared.stock.ChunkStock.TheInside.{Inside}
use Rattle.pool_arena.proofs.ListLaws.{found-is}
use Rattle.pool_arena.proofs.StockLaws.{place-chunk_at, place-geometry}
use Rattle.pool_arena.proofs.FrontsLaws.{front-index, front-seen}
use Rattle.pool_arena.proofs.GiveLaws.{begins-within}
use Rattle.pool_arena.proofs.SmallGiveLaws.{small-class, it, it-begins, it-in_use, it-page, it-index, it-out, mid-some, mid-idle, mid-there, not-idle, idle-alone, idle-dropped}
use Rattle.pool_arena.proofs.stock.ChunkStock.give_element.Goals as goal

-- what is asked, by the fields
module _ (s : Inside) (is : IsStock s) (v : StockState) (class c : ℕ) (piece : Segment) (seen : stock_in s ≡ v)
    (small : is_small v.geometry class ≡ true)
    (orderly : IsOrderly v.geometry (arena_in v)) (asked : IsPlaceOut v class c piece) (x : PlaceState)
    (here : x ≡ slice_index_or s.places.items c x) where
  found : slice_get s.places.items c ≡ Some x
  found =
      let e = it v orderly class c piece asked small in
      found-is s.places.items c x
      (begins-within s c e.page (Used e.pages (Sub class e.elements))
      (subst (λ (w : StockState). Begins e.page (Used e.pages (Sub class e.elements)) (chunk_at (arena_in w) c))
      (sym seen) (it-begins v orderly class c piece asked small))) here

  runs_are : chunk_at (arena_in v) c ≡ runs_of x
  runs_are = ap (λ (w : StockState). chunk_at (arena_in w) c) (sym seen) ∙ place-chunk_at s c x found

  page_bytes : s.page ≡ page_of v.geometry
  page_bytes = is.page ∙ ap (λ (w : StockState). page_of w.geometry) seen

  in_use : (offset : ℕ) → offset ≡ piece.start → IsInUse (state_of x) (offset / s.page)
  in_use offset same =
      subst (λ (n : ℕ). IsInUse (state_of x) n) (sym (ap₂ (λ (n b : ℕ). n / b) same page_bytes))
      (it-in_use v orderly class c piece asked small x runs_are)

  module _ (offset page size : ℕ) (offset_is : offset ≡ piece.start)
      (page_is : page ≡ run_start (offset / s.page) (runs_of x)) (size_is : size ≡ size_at class)
      (whole : IsChunk x.geometry (runs_of x)) where
    its_page : page ≡ (it v orderly class c piece asked small).page
    its_page =
        page_is ∙ ap (λ (b : ℕ). run_start (offset / b) (runs_of x)) page_bytes
        ∙ ap₂ (λ (n : ℕ) (rs : Chunk). run_start (n / page_of v.geometry) rs) offset_is (sym runs_are)
        ∙ it-page v orderly class c piece asked small

    its_index : (offset - s.page * page) / size ≡ (it v orderly class c piece asked small).at
    its_index =
        ap (λ (b : ℕ). (offset - b * page) / size) page_bytes
        ∙ ap₂ (λ (n p : ℕ). (n - page_of v.geometry * p) / size) offset_is its_page
        ∙ ap (λ (k : ℕ). (piece.start - page_of v.geometry * (it v orderly class c piece asked small).page) / k) size_is
        ∙ it-index v orderly class c piece asked small

    its_chunk : IsChunk v.geometry (chunk_at (arena_in v) c)
    its_chunk =
        subst (λ (rs : Chunk). IsChunk v.geometry rs) (sym runs_are)
        (subst (λ (g : Geometry). IsChunk g (runs_of x))
        (place-geometry s c x found is ∙ ap (λ (w : StockState). w.geometry) seen) whole)

    its_out : IsElementOutOf v class c page ((offset - s.page * page) / size) piece
    its_out =
        subst (λ (k : ℕ). IsElementOutOf v class c page k piece) (sym its_index)
        (subst (λ (p : ℕ). IsElementOutOf v class c p (it v orderly class c piece asked small).at piece) (sym its_page)
        (it-out v orderly class c piece asked small its_chunk))

    module _ (mid : StockState) (idle : Bool) where
      its_back : ((o : IsElementOutOf v class c page ((offset - s.page * page) / size) piece)
          → Becomes v (element_back class c page ((offset - s.page * page) / size) o.elements) mid)
          → Becomes v (element_back class c (it v orderly class c piece asked small).page
          (it v orderly class c piece asked small).at (it v orderly class c piece asked small).elements) mid
      its_back back =
          let P : ℕ → ℕ → Type 0 = λ p k. (o : IsElementOutOf v class c p k piece)
          → Becomes v (element_back class c p k o.elements) mid in
          subst (λ (p : ℕ). P p (it v orderly class c piece asked small).at) its_page
          (subst (λ (k : ℕ). P page k) its_index back)
          (it-out v orderly class c piece asked small its_chunk)

      its_idle : ((o : IsElementOutOf v class c page ((offset - s.page * page) / size) piece)
          → idle ≡ is_idle (with_back o.elements ((offset - s.page * page) / size)))
          → idle ≡ is_idle (with_back (it v orderly class c piece asked small).elements
          (it v orderly class c piece asked small).at)
      its_idle is_so =
          let P : ℕ → ℕ → Type 0 = λ p k. (o : IsElementOutOf v class c p k piece)
          → idle ≡ is_idle (with_back o.elements k) in
          subst (λ (p : ℕ). P p (it v orderly class c piece asked small).at) its_page
          (subst (λ (k : ℕ). P page k) its_index is_so)
          (it-out v orderly class c piece asked small its_chunk)

pub start_of-page-requires : goal.start_of-page-requires
start_of-page-requires c =
    in_use c.self.inside c.self.invariant c.args.self.now c.args.class c.args.chunk c.args.piece c.self.view_is
    c.requires.small c.requires.orderly c.requires.out
    c.index.result.now c.index.ensures c.start-offset.result c.start-offset.ensures.start

pub size_of-requires : goal.size_of-requires
size_of-requires c =
    subst (λ (w : StockState). c.args.class < class_count w.geometry) (sym c.self.view_is)
    (small-class c.args.self.now.geometry (arena_in c.args.self.now) c.args.class c.requires.orderly c.requires.small)

pub element_back-idle-requires-clause-class : goal.element_back-idle-requires-clause-class
element_back-idle-requires-clause-class c = (
  small-class c.args.self.now.geometry (arena_in c.args.self.now) c.args.class c.requires.orderly c.requires.small,
  c.requires.small,
)

pub element_back-idle-requires-clause-out : goal.element_back-idle-requires-clause-out
element_back-idle-requires-clause-out c =
    its_out c.self.inside c.self.invariant c.args.self.now c.args.class c.args.chunk c.args.piece c.self.view_is
    c.requires.small c.requires.orderly c.requires.out
    c.index.result.now c.index.ensures c.start-offset.result c.start_of-page.result c.size_of.result
    c.start-offset.ensures.start c.start_of-page.ensures.start c.size_of.ensures.value
    c.start_of-page.ensures.chunk

pub returns-then-not-idle : goal.returns-then-not-idle
returns-then-not-idle c =
    let back = its_back c.self.inside c.self.invariant c.args.self.now c.args.class c.args.chunk c.args.piece
    c.self.view_is c.requires.small c.requires.orderly c.requires.out
    c.index.result.now c.index.ensures c.start-offset.result c.start_of-page.result c.size_of.result
    c.start-offset.ensures.start c.start_of-page.ensures.start c.size_of.ensures.value
    c.start_of-page.ensures.chunk
    c.element_back-idle.new.self c.element_back-idle.result c.element_back-idle.ensures.back in
    let idle_is = its_idle c.self.inside c.self.invariant c.args.self.now c.args.class c.args.chunk c.args.piece
    c.self.view_is c.requires.small c.requires.orderly c.requires.out
    c.index.result.now c.index.ensures c.start-offset.result c.start_of-page.result c.size_of.result
    c.start-offset.ensures.start c.start_of-page.ensures.start c.size_of.ensures.value
    c.start_of-page.ensures.chunk
    c.element_back-idle.new.self c.element_back-idle.result c.element_back-idle.ensures.idle in
    not-idle c.args.self.now c.requires.orderly c.args.class c.args.chunk c.args.piece c.requires.out c.requires.small
    c.element_back-idle.new.self back (sym idle_is ∙ c.if-not-idle.true)

pub index-requires-2 : goal.index-requires-2
index-requires-2 c =
    let back = its_back c.self.inside c.self.invariant c.args.self.now c.args.class c.args.chunk c.args.piece
    c.self.view_is c.requires.small c.requires.orderly c.requires.out
    c.index.result.now c.index.ensures c.start-offset.result c.start_of-page.result c.size_of.result
    c.start-offset.ensures.start c.start_of-page.ensures.start c.size_of.ensures.value
    c.start_of-page.ensures.chunk
    c.element_back-idle.new.self c.element_back-idle.result c.element_back-idle.ensures.back in
    let same : c.self-2.inside.classes ≡ c.args.self.now.geometry = ap (λ (w : StockState). w.geometry) c.self-2.view_is
    ∙ back.geometry in
    front-index c.self-2.inside c.self-2.invariant c.args.self.now.geometry c.args.class same
    (small-class c.args.self.now.geometry (arena_in c.args.self.now) c.args.class c.requires.orderly
    c.requires.small)

pub drop_subpage-requires-clause-class : goal.drop_subpage-requires-clause-class
drop_subpage-requires-clause-class c =
    let back = its_back c.self.inside c.self.invariant c.args.self.now c.args.class c.args.chunk c.args.piece
    c.self.view_is c.requires.small c.requires.orderly c.requires.out
    c.index.result.now c.index.ensures c.start-offset.result c.start_of-page.result c.size_of.result
    c.start-offset.ensures.start c.start_of-page.ensures.start c.size_of.ensures.value
    c.start_of-page.ensures.chunk
    c.element_back-idle.new.self c.element_back-idle.result c.element_back-idle.ensures.back in
    subst (λ (g : Geometry). c.args.class < class_count g) (sym back.geometry)
    (small-class c.args.self.now.geometry (arena_in c.args.self.now) c.args.class c.requires.orderly
    c.requires.small)

pub drop_subpage-requires-clause-idle : goal.drop_subpage-requires-clause-idle
drop_subpage-requires-clause-idle c =
    let back = its_back c.self.inside c.self.invariant c.args.self.now c.args.class c.args.chunk c.args.piece
    c.self.view_is c.requires.small c.requires.orderly c.requires.out
    c.index.result.now c.index.ensures c.start-offset.result c.start_of-page.result c.size_of.result
    c.start-offset.ensures.start c.start_of-page.ensures.start c.size_of.ensures.value
    c.start_of-page.ensures.chunk
    c.element_back-idle.new.self c.element_back-idle.result c.element_back-idle.ensures.back in
    let idle_is = its_idle c.self.inside c.self.invariant c.args.self.now c.args.class c.args.chunk c.args.piece
    c.self.view_is c.requires.small c.requires.orderly c.requires.out
    c.index.result.now c.index.ensures c.start-offset.result c.start_of-page.result c.size_of.result
    c.start-offset.ensures.start c.start_of-page.ensures.start c.size_of.ensures.value
    c.start_of-page.ensures.chunk
    c.element_back-idle.new.self c.element_back-idle.result c.element_back-idle.ensures.idle in
    let page_is = its_page c.self.inside c.self.invariant c.args.self.now c.args.class c.args.chunk c.args.piece
    c.self.view_is c.requires.small c.requires.orderly c.requires.out
    c.index.result.now c.index.ensures c.start-offset.result c.start_of-page.result c.size_of.result
    c.start-offset.ensures.start c.start_of-page.ensures.start c.size_of.ensures.value
    c.start_of-page.ensures.chunk in
    subst (λ (p : ℕ). IsIdleAt c.element_back-idle.new.self c.args.class c.args.chunk p) (sym page_is)
    (mid-idle c.args.self.now c.requires.orderly c.args.class c.args.chunk c.args.piece c.requires.out c.requires.small
    c.element_back-idle.new.self back (sym idle_is ∙ c.if-not-idle.false))

pub drop_subpage-requires-clause-some : goal.drop_subpage-requires-clause-some
drop_subpage-requires-clause-some c =
    let back = its_back c.self.inside c.self.invariant c.args.self.now c.args.class c.args.chunk c.args.piece
    c.self.view_is c.requires.small c.requires.orderly c.requires.out
    c.index.result.now c.index.ensures c.start-offset.result c.start_of-page.result c.size_of.result
    c.start-offset.ensures.start c.start_of-page.ensures.start c.size_of.ensures.value
    c.start_of-page.ensures.chunk
    c.element_back-idle.new.self c.element_back-idle.result c.element_back-idle.ensures.back in
    mid-some c.args.self.now c.requires.orderly c.args.class c.args.chunk c.args.piece c.requires.out c.requires.small
    c.element_back-idle.new.self back

pub drop_subpage-requires-clause-there : goal.drop_subpage-requires-clause-there
drop_subpage-requires-clause-there c =
    let back = its_back c.self.inside c.self.invariant c.args.self.now c.args.class c.args.chunk c.args.piece
    c.self.view_is c.requires.small c.requires.orderly c.requires.out
    c.index.result.now c.index.ensures c.start-offset.result c.start_of-page.result c.size_of.result
    c.start-offset.ensures.start c.start_of-page.ensures.start c.size_of.ensures.value
    c.start_of-page.ensures.chunk
    c.element_back-idle.new.self c.element_back-idle.result c.element_back-idle.ensures.back in
    mid-there c.args.self.now c.requires.orderly c.args.class c.args.chunk c.args.piece c.requires.out c.requires.small
    c.element_back-idle.new.self back

pub returns-then-not-alone : goal.returns-then-not-alone
returns-then-not-alone c =
    let back = its_back c.self.inside c.self.invariant c.args.self.now c.args.class c.args.chunk c.args.piece
    c.self.view_is c.requires.small c.requires.orderly c.requires.out
    c.index.result.now c.index.ensures c.start-offset.result c.start_of-page.result c.size_of.result
    c.start-offset.ensures.start c.start_of-page.ensures.start c.size_of.ensures.value
    c.start_of-page.ensures.chunk
    c.element_back-idle.new.self c.element_back-idle.result c.element_back-idle.ensures.back in
    let idle_is = its_idle c.self.inside c.self.invariant c.args.self.now c.args.class c.args.chunk c.args.piece
    c.self.view_is c.requires.small c.requires.orderly c.requires.out
    c.index.result.now c.index.ensures c.start-offset.result c.start_of-page.result c.size_of.result
    c.start-offset.ensures.start c.start_of-page.ensures.start c.size_of.ensures.value
    c.start_of-page.ensures.chunk
    c.element_back-idle.new.self c.element_back-idle.result c.element_back-idle.ensures.idle in
    let page_is = its_page c.self.inside c.self.invariant c.args.self.now c.args.class c.args.chunk c.args.piece
    c.self.view_is c.requires.small c.requires.orderly c.requires.out
    c.index.result.now c.index.ensures c.start-offset.result c.start_of-page.result c.size_of.result
    c.start-offset.ensures.start c.start_of-page.ensures.start c.size_of.ensures.value
    c.start_of-page.ensures.chunk in
    let mid = c.element_back-idle.new.self in
    let less = subst (λ (g : Geometry). c.args.class < class_count g) (sym back.geometry)
    (small-class c.args.self.now.geometry (arena_in c.args.self.now) c.args.class c.requires.orderly
    c.requires.small) in
    let front = front-seen c.self-2.inside mid c.args.class c.index-2.result.now c.self-2.invariant c.self-2.view_is
    less c.index-2.ensures in
    let dropped = subst (λ (p : ℕ). Becomes mid (subpage_given mid.geometry c.args.class c.args.chunk p)
    c.drop_subpage.new.self) page_is c.drop_subpage.ensures in
    idle-dropped c.args.self.now c.requires.orderly c.args.class c.args.chunk c.args.piece c.requires.out
    c.requires.small c.element_back-idle.new.self back c.drop_subpage.new.self (sym idle_is ∙ c.if-not-idle.false)
    (ap is_alone front ∙ sym c.is_alone-alone.ensures ∙ c.if-not-alone.true) dropped

pub returns-else-not-alone : goal.returns-else-not-alone
returns-else-not-alone c =
    let back = its_back c.self.inside c.self.invariant c.args.self.now c.args.class c.args.chunk c.args.piece
    c.self.view_is c.requires.small c.requires.orderly c.requires.out
    c.index.result.now c.index.ensures c.start-offset.result c.start_of-page.result c.size_of.result
    c.start-offset.ensures.start c.start_of-page.ensures.start c.size_of.ensures.value
    c.start_of-page.ensures.chunk
    c.element_back-idle.new.self c.element_back-idle.result c.element_back-idle.ensures.back in
    let idle_is = its_idle c.self.inside c.self.invariant c.args.self.now c.args.class c.args.chunk c.args.piece
    c.self.view_is c.requires.small c.requires.orderly c.requires.out
    c.index.result.now c.index.ensures c.start-offset.result c.start_of-page.result c.size_of.result
    c.start-offset.ensures.start c.start_of-page.ensures.start c.size_of.ensures.value
    c.start_of-page.ensures.chunk
    c.element_back-idle.new.self c.element_back-idle.result c.element_back-idle.ensures.idle in
    let mid = c.element_back-idle.new.self in
    let less = subst (λ (g : Geometry). c.args.class < class_count g) (sym back.geometry)
    (small-class c.args.self.now.geometry (arena_in c.args.self.now) c.args.class c.requires.orderly
    c.requires.small) in
    let front = front-seen c.self-2.inside mid c.args.class c.index-2.result.now c.self-2.invariant c.self-2.view_is
    less c.index-2.ensures in
    idle-alone c.args.self.now c.requires.orderly c.args.class c.args.chunk c.args.piece c.requires.out c.requires.small
    c.element_back-idle.new.self back (sym idle_is ∙ c.if-not-idle.false)
    (ap is_alone front ∙ sym c.is_alone-alone.ensures ∙ c.if-not-alone.false)
