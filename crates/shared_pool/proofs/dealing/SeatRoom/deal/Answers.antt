use Rattle.std.proofs.Common.{◌*◌, [], length, arith, sym, ap, ◌∙◌, refl}
use Rattle.std.proofs.lemmas.List.{length-map}
use Rattle.std.specs.Global.{Vec}
use Rattle.pool_table.specs.declared.views.Layout.{Layout}
use Rattle.shared_pool.specs.declared.seat.PoolSeat.{PoolSeat}
use Rattle.shared_pool.specs.Dealing.{AreFirstPasses}
use Rattle.shared_pool.specs.Mails.{ArePosts, AreFetches}
use Rattle.shared_pool.proofs.Dealings.{so_far_more, holds_map}
use Rattle.shared_pool.proofs.NewMails.{EndPass}
use Rattle.shared_pool.proofs.dealing.SeatRoom.deal.Goals as goal

pub loop-lane-preserved : goal.loop-lane-preserved
loop-lane-preserved c =
    let pool = c.args.pool.now in
    let n = pool.table.layout.shape.lanes in
    let lanes = ap (λ (y : Layout). y.shape.lanes) pool.same_layout in
    record {
      rows = so_far_more (λ k (row : Vec EndPass). ArePosts pool k [] row.items)
          (λ k row. AreFirstPasses pool.mails.items (k * n) n row.items) n c.loop-lane.lane c.loop-lane.posts.items _
          c.name_row.new.row c.loop-lane.invariant.rows (omega (arith, lanes)) c.name_row.ensures.row refl;
      columns = c.name_row.ensures.columns;
    }

pub returns-clause-ends : goal.returns-clause-ends
returns-clause-ends c =
    let pool = c.args.pool.now in
    let n = pool.table.layout.shape.lanes in
    let lanes = ap (λ (y : Layout). y.shape.lanes) pool.same_layout in
    let seats = c.assemble.result.items in
    let many = sym (length-map seats (λ (s : PoolSeat). s.posts)) ∙ (ap length c.assemble.ensures.posts
    ∙ c.loop-lane.invariant.rows.many) in
    record {
      posts = λ k lt.
          holds_map (λ (s : PoolSeat). s.posts) (λ (row : Vec EndPass). ArePosts pool k [] row.items) seats
          c.loop-lane.posts.items k c.assemble.ensures.posts (omega (arith, many, lt))
          (c.loop-lane.invariant.rows.done k (omega (arith, lanes, lt)));
      fetches = λ k lt.
          holds_map (λ (s : PoolSeat). s.fetches) (λ (column : Vec EndPass). AreFetches pool k [] column.items) seats
          c.loop-lane.fetches.items k c.assemble.ensures.fetches (omega (arith, many, lt))
          (λ d from below. (c.loop-lane.invariant.columns.each k lt d).ends from (omega (arith, lanes, below)));
    }
