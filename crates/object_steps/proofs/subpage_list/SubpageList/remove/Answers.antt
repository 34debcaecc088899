use Rattle.std.proofs.Common.{rules, ap, ◌∙◌}
use Rattle.std.specs.Prelude.{not, ◌==◌, ◌&&◌}
use Rattle.std.proofs.lemmas.Fn.{filter_same}
use Rattle.pool_law.specs.Arenas.{without_subpage}
use Rattle.object_steps.proofs.subpage_list.SubpageList.remove.Goals as goal

pub returns : goal.returns
returns c =
    filter_same _ (λ s. not ((s.0 == c.args.chunk) && (s.1 == c.args.page))) _ (λ x b f' k. search rules) _ _
    c.retain.ensures.filtered
    ∙ ap (without_subpage c.args.chunk c.args.page) c.self.view_is
