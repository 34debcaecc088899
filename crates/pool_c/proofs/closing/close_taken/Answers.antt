use Rattle.std.proofs.Common.{◌≡◌, List, length, map, sym, ap, ◌∙◌, subst, arith}
use Rattle.std.specs.Arc.{arc_value}
use Rattle.std.specs.Prelude.{All, box_value}
use Rattle.pool_law.specs.Limits.{geometry_of}
use Rattle.shared_pool.specs.declared.pool.SharedPool.{SharedPool}
use Rattle.shared_pool.specs.Live.{AreLiveRoots}
use Rattle.pool_member.specs.declared.member.Member.{Member}
use Rattle.pool_member.specs.Closing.{parts_of}
use Rattle.pool_member.specs.Threads.{HasOwnChannels, IsThread}
use Rattle.pool_c.specs.declared.held.Common.{Common}
use Rattle.pool_c.specs.Holding.{behind}
use Rattle.pool_c.proofs.Ended.{as_many, back_again, has_ended, same_parts}
use Rattle.pool_c.proofs.closing.close_taken.Goals as goal

pub returns-in-Ok-close_all-clause-ended : goal.returns-in-Ok-close_all-clause-ended
returns-in-Ok-close_all-clause-ended c =
    let hs = map box_value c.args.all.items in let ms = c.unboxed-common.result.1.items in
    let out = c.in-Ok-close_all.ensures in
    has_ended c.in-Ok.common c.apart-shared.result.0 ms hs (length c.items.result.now)
    c.items-in-Ok-close_all.result.now
    (subst (λ (x : Common). map (behind x) ms ≡ hs) (sym c.in-Ok.ensures.ok) c.unboxed-common.ensures.held)
    c.apart-shared.ensures.shared.0 (ap length (c.items.ensures ∙ out.chunks))
    (subst (AreLiveRoots (parts_of ms)) (sym c.items-in-Ok-close_all.ensures) out.leaks)

pub returns-in-Err-close_all-clause-back : goal.returns-in-Err-close_all-clause-back
returns-in-Err-close_all-clause-back c =
    let hs = map box_value c.args.all.items in let ms = c.unboxed-common.result.1.items in
    let x = c.in-Ok.common in let apart = c.apart-shared.ensures in let back = c.in-Err-close_all.ensures.back in (
      tt,
      back_again x _ ms _ hs _
          (subst (λ (y : Common). map (behind y) ms ≡ hs) (sym c.in-Ok.ensures.ok) c.unboxed-common.ensures.held)
          c.join_again.ensures back.1
          (same_parts x _ (sym (back.0 ∙ apart.shared.0)) (sym apart.shared.1) (sym apart.rest.0) (sym apart.rest.1)),
    )

pub close_all-requires-clause-room : goal.close_all-requires-clause-room
close_all-requires-clause-room c =
    let u = c.unboxed-common in
    let n = as_many (arc_value u.result.0) u.result.1.items c.args.all.items u.ensures.held in
    let here = u.result.1.ok.0 in let all = c.args.all.ok.0 in let room = c.requires.room in
    (omega (arith, n, here, all, room.1), omega (arith, n, here, all, room.2))

pub invariant_of-common : goal.invariant_of-common
invariant_of-common c =
    let apart = c.apart-shared.ensures in let back = c.in-Err-close_all.ensures.back in record {
      sizes_are = apart.sizes_are ∙ ap (λ (p : SharedPool). geometry_of p.table.layout.shape) (sym back.0);
      threads_are = apart.threads_are ∙ ap (λ (p : SharedPool). p.table.layout.shape.lanes) (sym back.0);
      own = subst HasOwnChannels (sym back.0) apart.own;
    }

pub join_again-requires-clause-many : goal.join_again-requires-clause-many
join_again-requires-clause-many c =
    let u = c.unboxed-common in
    let n = as_many (arc_value u.result.0) u.result.1.items c.args.all.items u.ensures.held in
    c.in-Err-close_all.members.ok.0 ∙ ap length c.in-Err-close_all.ensures.back.1 ∙ n ∙ sym c.args.all.ok.0
    ∙ c.requires.many

pub join_again-requires-clause-members : goal.join_again-requires-clause-members
join_again-requires-clause-members c =
    let back = c.in-Err-close_all.ensures.back in
    let pool = back.0 ∙ c.apart-shared.ensures.shared.0 ∙ ap (λ (x : Common). x.shared) c.in-Ok.ensures.ok in
    subst (λ (p : SharedPool × List Member). All (IsThread p.0) p.1) (λ i. (sym pool i, sym back.1 i))
    c.unboxed-common.ensures.threads
