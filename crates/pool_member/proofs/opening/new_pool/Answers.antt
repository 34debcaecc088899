use Rattle.std.proofs.Common.{◌≡◌, ◌*◌, rules}
use Rattle.pool_member.proofs.Opened.{all_zero, new_paired, one_of, own_channels, first_unnoted, new_threads}
use Rattle.pool_member.proofs.opening.new_pool.Goals as goal

pub members_of-members-requires-clause-paired : goal.members_of-members-requires-clause-paired
members_of-members-requires-clause-paired c =
    let layout = c.args.layout in let pool = c.in-Ok.shared in
    let is : pool.table.layout ≡ layout = search rules in
    new_paired pool layout c.as_slice.result.now c.in_ok-accounts.accounts.items c.in-Ok.seats.items is
    (one_of layout.shape.lanes layout.turns c.requires.shape.lanes_least c.requires.turns) c.in_ok-accounts.ensures
    c.in-Ok.ensures.seats

pub returns-in-Ok-clause-own : goal.returns-in-Ok-clause-own
returns-in-Ok-clause-own c =
    let layout = c.args.layout in let pool = c.in-Ok.shared in let lanes = layout.shape.lanes in
    let is : pool.table.layout ≡ layout = search rules in
    let none = c.in_ok-mail.ensures.items_if_clones_equal (λ y e. e) in
    own_channels pool layout c.as_slice.result.now is c.in-Ok.ensures.seats.rooms
    (all_zero (lanes * lanes) c.as_slice.result.now (search (rules, none)))

pub returns-in-Ok-clause-new : goal.returns-in-Ok-clause-new
returns-in-Ok-clause-new c =
    let made = c.members_of-members.ensures in
    new_threads c.args.layout c.in_ok-accounts.accounts.items c.members_of-members.result.items made.accounts
    c.in_ok-accounts.ensures
    (first_unnoted c.args.layout c.as_slice.result.now c.in-Ok.shared c.in-Ok.seats.items
    c.members_of-members.result.items made.seats c.in-Ok.ensures.seats)
    made.settled
