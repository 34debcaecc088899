use Rattle.std.proofs.Common.{◌∙◌, sym}
use Rattle.run_words.proofs.PoolLaws.{read_beside}
use Rattle.run_words.proofs.reading.read_for.Goals as goal

pub returns-then-is_within_memory-clause-reading :
    goal.returns-then-is_within_memory-clause-reading
returns-then-is_within_memory-clause-reading c =
    let within = sym c.if-is_within_memory.true ∙ c.is_within_memory.ensures.same in
    read_beside _ _ _ _ _ _ c.in_ok-trace.ensures.reading c.over-options.ensures.options within

pub returns-else-is_within_memory-clause-reading :
    goal.returns-else-is_within_memory-clause-reading
returns-else-is_within_memory-clause-reading c =
    let within = sym c.if-is_within_memory.false ∙ c.is_within_memory.ensures.same in
    read_beside _ _ _ _ _ _ c.in_ok-trace.ensures.reading c.over-options.ensures.options within
