use Rattle.std.proofs.Common.{ℕ, ◌/◌, ◌^◌, replicate, sym, ap, ◌∙◌, subst}
use Rattle.size_classes.specs.Sizes.{IsGeometry, of_pages}
use Rattle.pool_chunk.specs.declared.slot.PageUse.{PageUse}
use Rattle.pool_chunk.proofs.HeldLaws.{new-state, new-held, ground-pages}
use Rattle.pool_chunk.proofs.chunk.Chunk.new.Goals as goal

pub new-requires : goal.new-requires
new-requires c =
    let G : ℕ → Type 0 = λ n. IsGeometry (of_pages c.args.order (n / 2 ^ c.args.order)) in
    subst G (sym c.len.ensures.len) c.requires.sizes

pub new-requires-2-clause-chunk : goal.new-requires-2-clause-chunk
new-requires-2-clause-chunk c = ground-pages c.args.order c.args.piece c.requires.sizes c.requires.chunk

pub invariant_of-result : goal.invariant_of-result
invariant_of-result c =
    let slots = c.in-Ok-no_runs.ensures {u = tt} ∙ ap (λ (n : ℕ). replicate n PageUse.Nothing) c.pow.ensures in
    let classes = c.in-Ok.ensures {u = tt} ∙ ap (λ (n : ℕ). of_pages c.args.order (n / 2 ^ c.args.order))
    c.len.ensures.len in
    new-held (record {
      map = c.in-Ok-new.map;
      classes = c.in-Ok.classes;
      bytes = c.len-bytes.result;
      slots =
          c.in-Ok-no_runs.slots;
    })
    c.args.order c.args.piece c.requires.sizes c.requires.chunk
    (c.in-Ok-new.ensures {u = tt}) classes c.len-bytes.ensures.len slots

pub returns-in-Ok-new : goal.returns-in-Ok-new
returns-in-Ok-new c =
    let slots = c.in-Ok-no_runs.ensures {u = tt} ∙ ap (λ (n : ℕ). replicate n PageUse.Nothing) c.pow.ensures in
    let classes = c.in-Ok.ensures {u = tt} ∙ ap (λ (n : ℕ). of_pages c.args.order (n / 2 ^ c.args.order))
    c.len.ensures.len in
    new-state (record {
      map = c.in-Ok-new.map;
      classes = c.in-Ok.classes;
      bytes = c.len-bytes.result;
      slots =
          c.in-Ok-no_runs.slots;
    })
    c.args.order c.args.piece c.requires.sizes c.requires.chunk
    (c.in-Ok-new.ensures {u = tt}) classes c.len-bytes.ensures.len slots
