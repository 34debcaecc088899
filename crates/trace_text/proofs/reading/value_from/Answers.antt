use Rattle.std.proofs.Common.{◌≡◌, true}
use Rattle.trace_text.proofs.Texts.{value_of_text, no_value}
use Rattle.trace_text.proofs.reading.value_from.Goals as goal

pub returns-in-Ok : goal.returns-in-Ok
returns-in-Ok c = value_of_text _ _ c.in-Ok.ensures.ok.0 c.in-Ok.ensures.ok.1

pub returns-else-is_memory : goal.returns-else-is_memory
returns-else-is_memory c =
    no_value _ (c.in-Err.ensures.err
    (λ memory. let told : c.is_memory.result ≡ true = c.is_memory.ensures.1 memory in cc))
