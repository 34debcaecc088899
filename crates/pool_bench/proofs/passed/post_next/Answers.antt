use Rattle.std.proofs.Common.{◌∙◌, sym, ap}
use Rattle.pool_law.specs.declared.run.Shape.{Shape}
use Rattle.pool_bench.proofs.MailLaws.{next_room}
use Rattle.pool_bench.proofs.passed.post_next.Goals as goal

pub post-requires-clause-room : goal.post-requires-clause-room
post-requires-clause-room g c =
    next_room c.args.pool.now c.args.seat.now c.args.shape.now.lanes c.in-Some.lane c.next_lane-to.result
    (ap (λ (s : Shape). s.lanes) c.requires.shape) (sym c.number.ensures ∙ c.in-Some.is) c.next_lane-to.ensures.next
    c.requires.mail
