use Rattle.std.proofs.Common.{◌≡◌, ℕ, ◌^◌, List, [], ◌∷◌, replicate, None, sym, ap, ◌∙◌, subst}
use Rattle.std.proofs.lemmas.List.{append-nil}
use Rattle.size_classes.specs.Sizes.{chunk_pages}
use Rattle.size_classes.specs.Pages.{free_runs}
use Rattle.pool_law.specs.Chunks.{Chunk, new_chunk}
use Rattle.pool_chunk.specs.ChunkStates.{ChunkState}
use Rattle.pool_chunk.specs.Slots.{PageEntry, entries}
use Rattle.pool_chunk.proofs.SlotLaws.{all-nothing}
use Rattle.pool_chunk.proofs.chunk.Chunk.into_piece.Goals as goal

pub spend-requires : goal.spend-requires
spend-requires c =
    let s = c.self.inside in
    let is = c.self.invariant in
    let free = subst (λ (v : ChunkState). v.runs ≡ new_chunk v.geometry) (sym c.self.view_is) c.requires in
    let blank : List PageEntry = replicate (chunk_pages s.classes) None in
    all-nothing (chunk_pages s.classes) s.slots.items (sym is.runs.entries ∙ ap entries free ∙ append-nil blank)

pub into_piece-requires : goal.into_piece-requires
into_piece-requires c =
    let s = c.self.inside in
    let is = c.self.invariant in
    let free = subst (λ (v : ChunkState). v.runs ≡ new_chunk v.geometry) (sym c.self.view_is) c.requires in
    sym is.runs.free ∙ ap (λ (rs : Chunk). free_runs 0 rs) free ∙ ap (λ (o : ℕ). (0, 2 ^ o) ∷ []) (sym is.same)
