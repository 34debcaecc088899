use Rattle.std.proofs.Common.{rules, ◌≡◌, ap, ◌∙◌}
use Rattle.std.specs.Prelude.{filter, map}
use Rattle.std.proofs.lemmas.Fn.{filter_same}
use Rattle.pool_law.specs.Arenas.{without_subpage}
use Rattle.pool_arena.specs.SubpageLists.{pair_of, with_subpages}
use Rattle.pool_arena.proofs.FrontLaws.{is_other, pairs-left}
use Rattle.pool_arena.proofs.subpage_list.SubpageList.leave.Goals as goal

pub returns : goal.returns
returns c =
    let spot = c.args.spot in
    let old = c.self.inside.subpages in
    let rest : c.retain.new.self.items ≡ filter (is_other spot.chunk spot.page) old.items =
    filter_same _ (is_other spot.chunk spot.page) _ (λ x b f' k. search rules) _ _ c.retain.ensures.filtered in
    let subpages : map pair_of c.retain.new.self.items ≡ without_subpage spot.chunk spot.page (map pair_of old.items) =
    ap (map pair_of) rest ∙ pairs-left spot.chunk spot.page old.items in
    (λ i. record { room = c.retain.ensures.capacity i; subpages = subpages i })
    ∙ ap (λ f. with_subpages f (without_subpage spot.chunk spot.page f.subpages)) c.self.view_is
