use Rattle.std.proofs.Common.{sym, ◌∙◌}
use Rattle.trace_text.proofs.OptionSteps.{options_read}
use Rattle.trace_text.proofs.options.options_from.Goals as goal

pub returns : goal.returns
returns c = sym (options_read _ _ record {
  keys = sym c.has_keys_of.ensures ∙ c.if-not-has_keys_of.false;
  page = sym c.in_ok-page_at.ensures;
  order = sym c.in_ok-number_at.ensures;
  arenas = sym c.in_ok-number_at-2.ensures;
  chunks = sym c.in_ok-number_at-3.ensures;
  handles = sym c.in_ok-number_at-4.ensures;
  level = sym c.in_ok-level_at.ensures;
  interval = sym c.in_ok-number_at-5.ensures;
})
