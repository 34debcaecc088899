use Rattle.std.proofs.Common.{ap, ◌∙◌}
use Rattle.std.specs.Prelude.{slice_get}
use Rattle.std.proofs.lemmas.Iterator.Consumers.{YieldsList-at, YieldsList-from_deque, YieldsList-from_chain, nth_from_yields_List}
use Rattle.pool_law.specs.ChunkLists.{walk}
use Rattle.chunk_list.proofs.lists.ChunkLists.nth.Goals as goal

pub returns-clause-chunk : goal.returns-clause-chunk
returns-clause-chunk c =
    let here = c.self.inside in
    let k = c.args.k in
    let last = c.chain-last.ensures in
    let from_init = YieldsList-from_chain
    (YieldsList-at last.first (YieldsList-from_deque here.init.numbers (c.iter.ensures.rest ∙ c.chunks.ensures.items)))
    (YieldsList-at last.second (YieldsList-from_deque here.q075.numbers
    (c.iter-2.ensures.rest ∙ c.chunks-2.ensures.items)))
    last.first_done last.second_done in
    let third = c.chain-rest.ensures in
    let from_q000 = YieldsList-from_chain
    (YieldsList-at third.first (YieldsList-from_deque here.q000.numbers
    (c.iter-3.ensures.rest ∙ c.chunks-3.ensures.items)))
    (YieldsList-at third.second from_init)
    third.first_done third.second_done in
    let second = c.chain-rest-2.ensures in
    let from_q025 = YieldsList-from_chain
    (YieldsList-at second.first (YieldsList-from_deque here.q025.numbers
    (c.iter-4.ensures.rest ∙ c.chunks-4.ensures.items)))
    (YieldsList-at second.second from_q000)
    second.first_done second.second_done in
    let first = c.chain-asked.ensures in
    let from_q050 = YieldsList-from_chain
    (YieldsList-at first.first (YieldsList-from_deque here.q050.numbers
    (c.iter-5.ensures.rest ∙ c.chunks-5.ensures.items)))
    (YieldsList-at first.second from_q025)
    first.first_done first.second_done in
    c.copied.ensures
    ∙ nth_from_yields_List _ _ k c.nth.ensures.ran from_q050
    ∙ ap (λ l. slice_get (walk l.lists) k) c.self.view_is
