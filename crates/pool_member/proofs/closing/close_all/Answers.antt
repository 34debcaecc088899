use Rattle.std.proofs.Common.{◌≡◌, map, sym, ap, ◌∙◌, subst, arith, rules}
use Rattle.std.proofs.lemmas.Grind.{common_steps}
use Rattle.std.specs.Prelude.{All}
use Rattle.size_classes.specs.Sizes.{below}
use Rattle.pool_law.specs.Legal.{ends_from}
use Rattle.shared_pool.specs.Closing.{logs_in}
use Rattle.shared_pool.specs.Live.{AreLiveRoots}
use Rattle.shared_pool.specs.Seated.{AreDone, parts_in}
use Rattle.pool_member.specs.Closing.{AreAll, parts_of}
use Rattle.pool_member.specs.Threads.{IsSettled}
use Rattle.pool_member.proofs.Ended.{all_done, members_same, parts_same, seat_of}
use Rattle.pool_member.proofs.closing.close_all.Goals as goal

pub close_at_once-requires : goal.close_at_once-requires
close_at_once-requires c =
    let all : AreAll c.args.shared c.args.members.items = first_of (search rules, grind (arith, common_steps)) in
    let settled : All IsSettled c.args.members.items = first_of (search rules, grind (arith, common_steps)) in
    record {
      seats =
          subst (AreDone c.args.shared) (sym c.parted-seats.ensures.seats)
          (all_done c.args.shared c.args.members.items c.requires.members all settled);
    }

pub returns-in-Ok-clause-chunks : goal.returns-in-Ok-clause-chunks
returns-in-Ok-clause-chunks c =
    let shape = c.args.shared.table.layout.shape in
    let parts : parts_in c.parted-seats.result.0.items ≡ parts_of c.args.members.items =
    ap parts_in c.parted-seats.ensures.seats ∙ parts_same c.args.members.items in
    c.in-Ok.ensures.chunks ∙ ap (λ ps. ends_from shape (logs_in ps) (below shape.arenas)) parts

pub returns-in-Ok-clause-leaks : goal.returns-in-Ok-clause-leaks
returns-in-Ok-clause-leaks c =
    let parts : parts_in c.parted-seats.result.0.items ≡ parts_of c.args.members.items =
    ap parts_in c.parted-seats.ensures.seats ∙ parts_same c.args.members.items in
    subst (λ ps. AreLiveRoots ps c.in-Ok.end.live) parts c.in-Ok.ensures.live

pub returns-in-Err-clause-back : goal.returns-in-Err-clause-back
returns-in-Err-clause-back c =
    let back = c.in-Err.ensures.err in let parted = c.parted-seats.ensures in let joined = c.joined-members.ensures in
    let seats : map seat_of c.joined-members.result.items ≡ map seat_of c.args.members.items =
    joined.seats ∙ back.1 ∙ parted.seats in
    let settled : All IsSettled c.args.members.items =
    subst (All IsSettled) c.deref-2.ensures.value (c.are_settled.ensures.0 c.if-not-are_settled.false) in (
      back.0,
      members_same c.joined-members.result.items c.args.members.items joined.settled settled seats
          (joined.records ∙ parted.records),
    )
