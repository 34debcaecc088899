use Rattle.std.proofs.Common.{◌∙◌, sym}
use Rattle.run_words.proofs.WordLaws.{options_read}
use Rattle.run_words.proofs.words.read_words.Goals as goal

pub returns-then-is_within_memory-clause-value : goal.returns-then-is_within_memory-clause-value
returns-then-is_within_memory-clause-value c =
    options_read _ _ _ c.in_ok-asked_by.ensures.value c.in_ok-options.ensures.value
    (sym c.is_within_memory.ensures.same ∙ c.if-is_within_memory.true)
