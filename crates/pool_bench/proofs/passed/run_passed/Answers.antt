use Rattle.std.proofs.Common.{◌-◌, ◌*◌, ◌+◌, ◌<◌, ◌∙◌, arith}
use Rattle.std.proofs.lemmas.Grind.{common_steps}
use Rattle.shared_pool.specs.SeatViews.{view_of}
use Rattle.seat_work.specs.Hands.{empty_hand}
use Rattle.seat_work.proofs.Proceeding.{goes_on, sends_on, works_after}
use Rattle.pool_bench.proofs.MailLaws.{mail_left}
use Rattle.pool_bench.proofs.passed.run_passed.Goals as goal

pub loop-done-preserved : goal.loop-done-preserved
loop-done-preserved g c =
    let pool = c.args.pool.now in let inv = c.loop-done.invariant in
    let done = c.loop-done.done in let passes = c.min-passes.result in
    let below : done < passes = grind (arith, common_steps, c.loop-done-test.true) in
    let first = c.loop-done.seat in let sent = c.send_one in let came = c.fetch_next-parcel in let took = c.take-read in
    let goes =
    goes_on pool empty_hand empty_hand 8 0 5 0 13 0 first came.new.seat took.new.seat
    (goes_on pool empty_hand empty_hand 8 0 0 0 8 0 first sent.new.seat came.new.seat sent.ensures.goes
    came.ensures.goes (omega arith) (omega arith))
    took.ensures.goes (omega arith) (omega arith) in
    let sends =
    sends_on 1 0 (view_of first) (view_of came.new.seat) (view_of took.new.seat)
    (sends_on 1 0 (view_of first) (view_of sent.new.seat) (view_of came.new.seat) sent.ensures.sends came.ensures.sends)
    took.ensures.sends in (
      omega (arith, below),
      works_after pool empty_hand empty_hand (16 * (passes - done)) (passes - done) 13 0 (16 * (passes - (done + 1)))
          (passes - (done + 1)) first took.new.seat inv.1 goes (omega (arith, below)) (omega (arith, below)),
      mail_left pool (passes - done) 1 (passes - (done + 1)) first took.new.seat inv.2 sends (omega (arith, below)),
      goes.number ∙ inv.3,
    )
