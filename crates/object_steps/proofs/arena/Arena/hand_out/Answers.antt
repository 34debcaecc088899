use Rattle.std.proofs.Common.{◌≡◌, Some, [], ◌∷◌, refl, ap, ◌∙◌}
use Rattle.size_classes.specs.Pages.{replaced}
use Rattle.size_classes.specs.Elements.{with_out}
use Rattle.pool_law.specs.Chunks.{Chunk}
use Rattle.pool_law.specs.Arenas.{chunk_at, with_chunk}
use Rattle.object_steps.specs.Elementwise.{with_element_out}
use Rattle.object_steps.proofs.ArenaLemmas.{put-taken}
use Rattle.object_steps.proofs.ElementLemmas.{moved}
use Rattle.object_steps.proofs.arena.Arena.hand_out.Goals as goal

pub returns : goal.returns
returns c e there =
    let old : Chunk = chunk_at c.args.self.now c.args.place in
    let is : c.in_ok-chunk.chunk ≡ replaced c.args.page (λ r. with_element_out c.args.element r ∷ []) old =
    c.in_ok-chunk.ensures ∙ ap (replaced c.args.page (λ r. with_element_out c.args.element r ∷ []))
    c.take_chunk.ensures.chunk in
    let both = moved c.args.class c.args.page old c.in_ok-chunk.chunk (with_element_out c.args.element) e
    (with_out e c.args.element) there (λ n. refl) is in (
      c.is_full_at-is_full.ensures (with_out e c.args.element) both.1,
      put-taken c.args.self.now c.take_chunk.new.self c.put_chunk.new.self c.args.place (Some c.in_ok-chunk.chunk)
          c.take_chunk.ensures.rest c.put_chunk.ensures
          ∙ ap (λ (chunk : Chunk). with_chunk c.args.self.now c.args.place chunk) both.0,
    )
