use Rattle.std.proofs.Common.{sym, ap, ◌∙◌}
use Rattle.pool_law.specs.ChunkLists.{list_of, list_named, entered, left, has}
use Rattle.chunk_list.specs.Listing.{with_lists}
use Rattle.chunk_list.specs.Settling.{answer_of}
use Rattle.chunk_list.proofs.ListsLemmas.{left_none, none_named, list_of-entered, list_of-left}
use Rattle.chunk_list.proofs.lists.ChunkLists.moved.Goals as goal

pub enter-requires-clause-new : goal.enter-requires-clause-new
enter-requires-clause-new c =
    let old = c.args.self.now in
    let chunk = c.args.chunk in
    let there = c.in-Some-settle.there in
    ap (λ l. has chunk (list_named l.lists there)) c.leave.ensures
    ∙ none_named (left old.lists chunk) chunk there (left_none old.lists chunk)

pub returns-then-ne-clause-list : goal.returns-then-ne-clause-list
returns-then-ne-clause-list c =
    let old = c.args.self.now in
    let chunk = c.args.chunk in
    let there = c.in-Some-settle.there in
    let entered_there = c.enter.ensures ∙ ap (λ l. with_lists l (entered l.lists there chunk)) c.leave.ensures in
    sym
    (ap answer_of
    (ap (λ l. list_of l.lists chunk) entered_there
    ∙ list_of-entered (left old.lists chunk) chunk there (left_none old.lists chunk)))

pub returns-in-None-clause-list : goal.returns-in-None-clause-list
returns-in-None-clause-list c =
    let old = c.args.self.now in
    let chunk = c.args.chunk in
    sym (ap answer_of (ap (λ l. list_of l.lists chunk) c.leave-in-None.ensures ∙ list_of-left old.lists chunk))
