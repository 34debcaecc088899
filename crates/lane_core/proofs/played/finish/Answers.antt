use Rattle.std.proofs.Common.{◌≡◌, [], length, sym, refl, subst, arith, rules, ◌∙◌}
use Rattle.std.specs.Prelude.{All}
use Rattle.std.proofs.lemmas.Grind.{common_steps}
use Rattle.size_classes.specs.Sizes.{below}
use Rattle.pool_law.specs.declared.run.Run.{Run}
use Rattle.pool_law.specs.Legal.{ends_from}
use Rattle.pool_law.specs.Limits.{IsShape}
use Rattle.pool_law.proofs.HistoryLemmas.{append-nil}
use Rattle.pool_table.specs.declared.views.Layout.{Layout}
use Rattle.shared_pool.specs.Closing.{AreWhole, logs_in}
use Rattle.shared_pool.specs.Live.{AreLiveRoots}
use Rattle.shared_pool.specs.Seated.{AreDone, parts_in}
use Rattle.shared_pool.specs.Seats.{IsPoolSeat}
use Rattle.lane_core.specs.declared.lane.Lane.{Lane}
use Rattle.lane_core.specs.Played.{IsRunOf}
use Rattle.lane_core.proofs.EitherLane.{lane_context, lane_spare}
use Rattle.lane_core.proofs.PlayedRoom.{All-moved}
use Rattle.lane_core.proofs.PlayedSeats.{seats-done}
use Rattle.lane_core.proofs.PlayedRun.{is-played}
use Rattle.lane_core.proofs.PlayedStops.{are-heeded}
use Rattle.lane_core.proofs.played.finish.Goals as goal

pub abandon_all-requires-clause-seats : goal.abandon_all-requires-clause-seats
abandon_all-requires-clause-seats g c = λ k d lt.
    (lane_context c.args.pool _ (c.requires.lanes.each k (omega (arith, lt, c.requires.lanes.many)) d).lane).seat

pub part-commands-requires-clause-finished : goal.part-commands-requires-clause-finished
part-commands-requires-clause-finished g c = λ k d lt.
    (c.requires.lanes.each k (omega (arith, lt, c.requires.lanes.many)) d).finished

pub part-commands-requires-clause-spare : goal.part-commands-requires-clause-spare
part-commands-requires-clause-spare g c = λ k d lt.
    let at = c.requires.lanes.each k (omega (arith, lt, c.requires.lanes.many)) d in
    lane_spare c.args.pool _ (length c.args.lanes.items) at.lane c.requires.lanes.many

pub close-requires : goal.close-requires
close-requires g c = record {
  seats =
      subst (λ ss. AreDone c.args.pool ss) (sym c.part-commands.ensures.seats)
      (seats-done c.args.pool c.args.lanes.items c.requires.lanes);
}

pub abandon-requires : goal.abandon-requires
abandon-requires g c =
    let back = (c.in-Err.ensures {u = tt}).err in
    record {
      seats =
          subst (λ p. All (λ s. IsPoolSeat p s) c.in-Err.seats.items) (sym back.0)
          (All-moved (λ s. IsPoolSeat c.args.pool s) (λ (l : Lane). l.context.seat) c.args.lanes.items []
          c.in-Err.seats.items refl
          (append-nil c.in-Err.seats.items ∙ back.1 ∙ c.part-commands.ensures.seats)
          (λ k d lt.
          (lane_context c.args.pool _ (c.requires.lanes.each k (omega (arith, lt, c.requires.lanes.many))
          d).lane).seat));
    }

pub invariant_of-result : goal.invariant_of-result
invariant_of-result g c =
    let pool = c.args.pool in let lanes = c.args.lanes.items in let shape = c.args.pool.table.layout.shape in
    let end = c.in-Ok-close.end in let seats = c.part-commands.ensures.seats in
    let run : Run = record {
      trace = record { lanes = c.of.result };
      shape = c.args.shape.now;
      logs = c.of-2.result;
      chunks = end.chunks;
      leaks = c.in_ok-leaks.leaks;
    } in
    let of : IsRunOf shape lanes run = first_of (search rules, grind (arith, common_steps)) in
    is-played pool lanes run c.requires.lanes
    (subst (λ (y : Layout). IsShape y.shape) (sym pool.same_layout) pool.shape)
    of
    (subst (λ ss. AreWhole shape (parts_in ss)) seats c.in-Ok-close.ensures.whole)
    end.live
    (subst (λ ss. AreLiveRoots (parts_in ss) end.live) seats c.in-Ok-close.ensures.live)
    (subst (λ ss. end.chunks ≡ ends_from shape (logs_in (parts_in ss)) (below shape.arenas)) seats
    c.in-Ok-close.ensures.chunks)
    c.in_ok-leaks.ensures

pub returns-clause-run : goal.returns-clause-run
returns-clause-run g c = first_of (search rules, grind (arith, common_steps))

pub returns-clause-heeds : goal.returns-clause-heeds
returns-clause-heeds g c =
    are-heeded c.args.pool c.args.lanes.items c.args.shape.now _ c.requires.shape c.requires.lanes
    (returns-clause-run g c)
