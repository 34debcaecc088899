use Rattle.share_run.proofs.OutcomeLaws.{of_text}
use Rattle.share_run.proofs.run.with_source.Goals as goal

pub returns-in-Text : goal.returns-in-Text
returns-in-Text g c =
    let explained = rw c.deref.ensures.value at c.with_text.ensures in
    of_text _ c.in-Text.text.items _ _ c.in-Text.ensures.0 c.in-Text.ensures.1 explained
