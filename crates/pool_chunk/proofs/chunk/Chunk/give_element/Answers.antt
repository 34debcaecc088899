use Rattle.std.proofs.Common.{◌≡◌, true, refl, sym, ap, ◌∙◌, subst}
use Rattle.std.specs.Vec.{with_item}
use Rattle.std.specs.Prelude.{slice_set}
use Rattle.size_classes.specs.Elements.{Elements, with_back, is_out}
use Rattle.pool_chunk.specs.declared.slot.PageUse.{PageUse}
use Rattle.pool_chunk.specs.declared.chunk.Chunk.TheInside.{Inside}
use Rattle.pool_chunk.specs.ChunkStates.{ChunkState, IsElementOut}
use Rattle.pool_chunk.specs.Outcomes.{element_back, freed_by}
use Rattle.pool_chunk.specs.Held.{state_in}
use Rattle.pool_chunk.proofs.ChunkLaws.{back-fits}
use Rattle.pool_chunk.proofs.HeldLaws.{Follows}
use Rattle.pool_chunk.proofs.CutLaws.{cut-room, cut-no_other, cut-is, cut-fits, bytes-cut, cut-state, cut-held, with_others}
use Rattle.pool_chunk.proofs.chunk.Chunk.give_element.Goals as goal

pub index_mut-slot-requires : goal.index_mut-slot-requires
index_mut-slot-requires c =
    let out = subst (λ (v : ChunkState). IsElementOut v c.args.page c.args.index c.args.piece) (sym c.self.view_is)
    c.requires in
    cut-room c.self.inside c.self.invariant c.args.page out.subpage

pub unreachable-requires : goal.unreachable-requires
unreachable-requires c =
    let out = subst (λ (v : ChunkState). IsElementOut v c.args.page c.args.index c.args.piece) (sym c.self.view_is)
    c.requires in
    cut-no_other c.self.inside c.self.invariant c.args.page out.subpage c.index_mut-slot.result.now
    c.index_mut-slot.ensures.value c.in_default.not-Cut

pub take_back-requires-clause-element : goal.take_back-requires-clause-element
take_back-requires-clause-element c =
    let out = subst (λ (v : ChunkState). IsElementOut v c.args.page c.args.index c.args.piece) (sym c.self.view_is)
    c.requires in
    bytes-cut c.self.inside c.self.invariant c.args.page out.subpage c.index_mut-slot.result.now c.in-Cut.run'
    c.index_mut-slot.ensures.value c.in-Cut.is
    c.args.index c.args.piece out.piece

pub take_back-requires-clause-out : goal.take_back-requires-clause-out
take_back-requires-clause-out c =
    let out = subst (λ (v : ChunkState). IsElementOut v c.args.page c.args.index c.args.piece) (sym c.self.view_is)
    c.requires in
    let cuts = cut-is c.self.inside c.self.invariant c.args.page out.subpage c.index_mut-slot.result.now c.in-Cut.run'
    c.index_mut-slot.ensures.value c.in-Cut.is in
    subst (λ (e : Elements). is_out e c.args.index ≡ true) (sym cuts.elements) out.out

abbrev after : goal.After-self-2-1 → Inside
after c =
    record {
      map = c.self.inside.map;
      classes = c.self.inside.classes;
      bytes = c.self.inside.bytes;
      slots =
          with_item c.self.inside.slots c.args.page (PageUse.Cut c.take_back.new.self);
    }

follows : (c : goal.After-self-2-1) → Follows c.self.inside (after c) c.self.inside.map.runs
    (slice_set c.self.inside.slots.items c.args.page (PageUse.Cut c.take_back.new.self))
follows c = record { map_is = refl; classes = refl; bytes = refl; slots_are = refl }

pub invariant_of-self : goal.invariant_of-self
invariant_of-self c =
    let s = c.self.inside in
    let out = subst (λ (v : ChunkState). IsElementOut v c.args.page c.args.index c.args.piece) (sym c.self.view_is)
    c.requires in
    let cuts = cut-is s c.self.invariant c.args.page out.subpage c.index_mut-slot.result.now c.in-Cut.run'
    c.index_mut-slot.ensures.value c.in-Cut.is in
    let back : Elements = with_back out.subpage.elements c.args.index in
    cut-held s c.self.invariant c.args.page out.subpage c.index_mut-slot.result.now c.in-Cut.run'
    c.index_mut-slot.ensures.value c.in-Cut.is
    (after c) back c.take_back.new.self
    (c.take_back.ensures.run ∙ ap (λ (e : Elements). with_others c.in-Cut.run' (with_back e c.args.index))
    cuts.elements)
    (back-fits s.classes out.subpage.pages out.subpage.class c.args.index out.subpage.elements
    (cut-fits s c.self.invariant c.args.page out.subpage) out.out)
    (follows c)

pub returns-clause-freed : goal.returns-clause-freed
returns-clause-freed c =
    let s = c.self.inside in
    let P : ChunkState → Type 0 = λ v. (out : IsElementOut v c.args.page c.args.index c.args.piece)
    → c.take_back.result ≡ freed_by out.subpage.elements c.args.index in
    subst P c.self.view_is (λ out.
    let cuts = cut-is s c.self.invariant c.args.page out.subpage c.index_mut-slot.result.now c.in-Cut.run'
    c.index_mut-slot.ensures.value c.in-Cut.is in
    c.take_back.ensures.freed ∙ ap (λ (e : Elements). freed_by e c.args.index) cuts.elements)

pub returns-clause-chunk : goal.returns-clause-chunk
returns-clause-chunk c =
    let s = c.self.inside in
    let P : ChunkState → Type 0 = λ v. (out : IsElementOut v c.args.page c.args.index c.args.piece)
    → state_in (after c) ≡ element_back v c.args.page out.subpage c.args.index in
    subst P c.self.view_is (λ out.
    let cuts = cut-is s c.self.invariant c.args.page out.subpage c.index_mut-slot.result.now c.in-Cut.run'
    c.index_mut-slot.ensures.value c.in-Cut.is in
    let back : Elements = with_back out.subpage.elements c.args.index in
    cut-state s c.self.invariant c.args.page out.subpage c.index_mut-slot.result.now c.in-Cut.run'
    c.index_mut-slot.ensures.value c.in-Cut.is
    (after c) back c.take_back.new.self
    (c.take_back.ensures.run ∙ ap (λ (e : Elements). with_others c.in-Cut.run' (with_back e c.args.index))
    cuts.elements)
    (back-fits s.classes out.subpage.pages out.subpage.class c.args.index out.subpage.elements
    (cut-fits s c.self.invariant c.args.page out.subpage) out.out)
    (follows c))
