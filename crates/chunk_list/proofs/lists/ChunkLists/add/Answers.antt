use Rattle.std.proofs.Common.{sym, ap, ◌∙◌}
use Rattle.pool_law.specs.ChunkLists.{entered}
use Rattle.chunk_list.specs.Listing.{with_lists}
use Rattle.chunk_list.proofs.ListsLemmas.{in_none}
use Rattle.chunk_list.proofs.SettlingLaws.{added-is}
use Rattle.chunk_list.proofs.lists.ChunkLists.add.Goals as goal

pub returns-clause-lists : goal.returns-clause-lists
returns-clause-lists c =
    let old = c.args.self.now in
    let chunk = c.args.chunk in
    c.enter.ensures
    ∙ ap (λ name. with_lists old (entered old.lists name chunk)) c.up_from-list.ensures
    ∙ ap (with_lists old) (sym (added-is old.lists chunk c.args.usage (in_none old.lists chunk c.requires.new)))
