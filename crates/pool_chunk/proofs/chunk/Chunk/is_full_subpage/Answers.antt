use Rattle.std.proofs.Common.{◌≡◌, sym, ap, ◌∙◌, subst}
use Rattle.size_classes.specs.Elements.{is_full}
use Rattle.pool_chunk.specs.ChunkStates.{ChunkState, HasSubpage}
use Rattle.pool_chunk.proofs.CutLaws.{cut-room, cut-no_other, cut-is}
use Rattle.pool_chunk.proofs.chunk.Chunk.is_full_subpage.Goals as goal

pub index-slot-requires : goal.index-slot-requires
index-slot-requires c =
    let h = subst (λ (v : ChunkState). HasSubpage v c.args.page) (sym c.self.view_is) c.requires in
    cut-room c.self.inside c.self.invariant c.args.page h

pub unreachable-requires : goal.unreachable-requires
unreachable-requires c =
    let h = subst (λ (v : ChunkState). HasSubpage v c.args.page) (sym c.self.view_is) c.requires in
    cut-no_other c.self.inside c.self.invariant c.args.page h c.index-slot.result.now c.index-slot.ensures
    c.in_default.not-Cut

pub returns : goal.returns
returns c =
    let s = c.self.inside in
    let P : ChunkState → Type 0 = λ v. (h : HasSubpage v c.args.page) → c.is_full.result ≡ is_full h.elements in
    subst P c.self.view_is (λ h.
    c.is_full.ensures ∙ ap is_full
    (cut-is s c.self.invariant c.args.page h c.index-slot.result.now c.in-Cut.run' c.index-slot.ensures
    c.in-Cut.is).elements)
