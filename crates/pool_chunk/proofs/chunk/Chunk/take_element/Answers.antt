use Rattle.std.proofs.Common.{◌≡◌, ◌^◌, ◌<◌, true, refl, sym, subst, lit<}
use Rattle.std.specs.Prelude.{slice_set, ◌↔◌, IsNone, IfSome}
use Rattle.std.specs.Vec.{with_item}
use Rattle.size_classes.specs.Pages.{Used}
use Rattle.size_classes.specs.Elements.{Elements, is_full}
use Rattle.pool_law.specs.Chunks.{Sub}
use Rattle.pool_chunk.specs.declared.slot.PageUse.{PageUse}
use Rattle.pool_chunk.specs.declared.chunk.Chunk.TheInside.{Inside}
use Rattle.pool_chunk.specs.ChunkStates.{ChunkState, HasSubpage}
use Rattle.pool_chunk.specs.Outcomes.{TakesElement}
use Rattle.pool_chunk.specs.Held.{state_in}
use Rattle.pool_chunk.proofs.HeldLaws.{Follows, run-fields}
use Rattle.pool_chunk.proofs.CutLaws.{cut-room, cut-no_other, cut-is, cut-begins, asked-held, asked-takes}
use Rattle.pool_chunk.proofs.chunk.Chunk.take_element.Goals as goal

pub index_mut-slot-requires : goal.index_mut-slot-requires
index_mut-slot-requires c =
    let h = subst (λ (v : ChunkState). HasSubpage v c.args.page) (sym c.self.view_is) c.requires in
    cut-room c.self.inside c.self.invariant c.args.page h

pub unreachable-requires : goal.unreachable-requires
unreachable-requires c =
    let h = subst (λ (v : ChunkState). HasSubpage v c.args.page) (sym c.self.view_is) c.requires in
    cut-no_other c.self.inside c.self.invariant c.args.page h c.index_mut-slot.result.now c.index_mut-slot.ensures.value
    c.in_default.not-Cut

pub hand_out-requires : goal.hand_out-requires
hand_out-requires c =
    let s = c.self.inside in
    let h = subst (λ (v : ChunkState). HasSubpage v c.args.page) (sym c.self.view_is) c.requires in
    let cuts = cut-is s c.self.invariant c.args.page h c.index_mut-slot.result.now c.in-Cut.run'
    c.index_mut-slot.ensures.value c.in-Cut.is in
    let fields = run-fields s c.self.invariant c.args.page (Used h.pages (Sub h.class h.elements)) 0
    (cut-begins s c.self.invariant c.args.page h) (lit< tt) in
    (fields.page_fits, subst (λ n. n < 2 ^ 15) (sym cuts.pages) fields.pages_fit)

abbrev after : goal.After-self-2-1 → Inside
after c =
    record {
      map = c.self.inside.map;
      classes = c.self.inside.classes;
      bytes = c.self.inside.bytes;
      slots =
          with_item c.self.inside.slots c.args.page (PageUse.Cut c.hand_out.new.self);
    }

follows : (c : goal.After-self-2-1) → Follows c.self.inside (after c) c.self.inside.map.runs
    (slice_set c.self.inside.slots.items c.args.page (PageUse.Cut c.hand_out.new.self))
follows c = record { map_is = refl; classes = refl; bytes = refl; slots_are = refl }

pub invariant_of-self : goal.invariant_of-self
invariant_of-self c =
    let h = subst (λ (v : ChunkState). HasSubpage v c.args.page) (sym c.self.view_is) c.requires in
    asked-held c.self.inside c.self.invariant c.args.page h c.index_mut-slot.result.now c.in-Cut.run'
    c.index_mut-slot.ensures.value c.in-Cut.is
    (after c) c.hand_out.new.self (follows c) c.hand_out.result c.hand_out.ensures.none c.hand_out.ensures.some

pub returns-clause-full : goal.returns-clause-full
returns-clause-full c =
    let s = c.self.inside in
    let P : ChunkState → Type 0 = λ v. (h : HasSubpage v c.args.page)
    → IsNone c.hand_out.result ↔ (is_full h.elements ≡ true) in
    subst P c.self.view_is (λ h.
    let cuts = cut-is s c.self.invariant c.args.page h c.index_mut-slot.result.now c.in-Cut.run'
    c.index_mut-slot.ensures.value c.in-Cut.is in
    subst (λ (e : Elements). IsNone c.hand_out.result ↔ (is_full e ≡ true)) cuts.elements c.hand_out.ensures.full)

pub returns-clause-some : goal.returns-clause-some
returns-clause-some c =
    let h = subst (λ (v : ChunkState). HasSubpage v c.args.page) (sym c.self.view_is) c.requires in
    let P : ChunkState → Type 0 = λ v. IfSome c.hand_out.result
    (λ y. TakesElement v (state_in (after c)) c.args.page y.0 y.1) in
    subst P c.self.view_is
    (asked-takes c.self.inside c.self.invariant c.args.page h c.index_mut-slot.result.now c.in-Cut.run'
    c.index_mut-slot.ensures.value c.in-Cut.is
    (after c) c.hand_out.new.self (follows c) c.hand_out.result c.hand_out.ensures.some)
