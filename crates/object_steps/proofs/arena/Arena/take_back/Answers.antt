use Rattle.std.proofs.Common.{◌≡◌, Some, [], ◌∷◌, refl, ap, ◌∙◌}
use Rattle.size_classes.specs.Pages.{replaced}
use Rattle.size_classes.specs.Elements.{with_back}
use Rattle.pool_law.specs.Chunks.{Chunk}
use Rattle.pool_law.specs.Arenas.{chunk_at, with_chunk}
use Rattle.object_steps.specs.Elementwise.{with_element_back}
use Rattle.object_steps.proofs.ArenaLemmas.{put-taken}
use Rattle.object_steps.proofs.ElementLemmas.{moved}
use Rattle.object_steps.proofs.arena.Arena.take_back.Goals as goal

pub returns-clause-arena : goal.returns-clause-arena
returns-clause-arena c e there =
    let old : Chunk = chunk_at c.args.self.now c.args.place in
    let is : c.in_ok-chunk.chunk ≡ replaced c.args.page (λ r. with_element_back c.args.element r ∷ []) old =
    c.in_ok-chunk.ensures ∙ ap (replaced c.args.page (λ r. with_element_back c.args.element r ∷ []))
    c.take_chunk.ensures.chunk in
    let both = moved c.args.class c.args.page old c.in_ok-chunk.chunk (with_element_back c.args.element) e
    (with_back e c.args.element) there (λ n. refl) is in (
      c.is_idle_at-is_idle.ensures (with_back e c.args.element) both.1,
      put-taken c.args.self.now c.take_chunk.new.self c.put_chunk.new.self c.args.place (Some c.in_ok-chunk.chunk)
          c.take_chunk.ensures.rest c.put_chunk.ensures
          ∙ ap (λ (chunk : Chunk). with_chunk c.args.self.now c.args.place chunk) both.0,
    )
