use Rattle.std.proofs.Common.{◌+◌, ◌*◌, ◌<◌, [], arith, sym, ap, subst, refl}
use Rattle.pool_table.specs.declared.views.Layout.{Layout}
use Rattle.shared_pool.specs.Dealing.{IsColumn, IsFirstPass}
use Rattle.shared_pool.specs.Mails.{IsPostsEnd}
use Rattle.shared_pool.proofs.Dealings.{so_far_more}
use Rattle.shared_pool.proofs.DealtEnds.{column_push, first_of_mail, new_fetches_end, new_posts_end}
use Rattle.shared_pool.proofs.dealing.name_row.Goals as goal

pub loop-to-init : goal.loop-to-init
loop-to-init c =
    record {
      row = record {
        many = c.requires.row.many;
        done = λ k lt. absurd (omega (arith, lt));
        still = λ k above lt. c.requires.row.each k lt;
      };
      columns = record {
        many = c.requires.columns.many;
        done = λ k lt. absurd (omega (arith, lt));
        still = λ k above lt. c.requires.columns.each k lt;
      };
    }

pub ends-end-requires : goal.ends-end-requires
ends-end-requires c =
    let pool = c.args.pool.now in
    let to = c.loop-to.to in
    let pass = c.index_mut-pass.result.now in
    let lanes = ap (λ (y : Layout). y.shape.lanes) pool.same_layout in
    let still = c.loop-to.invariant.row.still to (omega arith) (omega (arith, lanes)) pass in
    record {
      pass = first_of_mail pool c.args.from to c.mail-mail.result.now c.mail-mail.ensures pass
          (subst (IsFirstPass pool.mails.items (c.args.from * pool.table.layout.shape.lanes + to))
          (sym c.index_mut-pass.ensures.value) still);
    }

pub loop-to-preserved : goal.loop-to-preserved
loop-to-preserved c =
    let pool = c.args.pool.now in
    let from = c.args.from in
    let to = c.loop-to.to in
    let n = pool.table.layout.shape.lanes in
    let lanes = ap (λ (y : Layout). y.shape.lanes) pool.same_layout in
    let lt : to < n = omega (arith, lanes) in
    let mail = c.mail-mail.result.now in
    let column = c.index_mut.result.now in
    record {
      row = so_far_more (λ k. IsPostsEnd pool from k []) (λ k. IsFirstPass pool.mails.items (from * n + k)) n to
          c.loop-to.row.items _ c.ends-end.new.pass c.loop-to.invariant.row lt
          (new_posts_end pool from to mail c.mail-mail.ensures c.args.seat.now.seat.table_id c.ends-end.new.pass
          c.requires.seat c.ends-end.ensures.sender) refl;
      columns =
          so_far_more (IsColumn pool (from + 1)) (IsColumn pool from) n to c.loop-to.fetches.items _ c.push.new.self
          c.loop-to.invariant.columns lt
          (column_push pool from to column c.push.new.self c.ends-end.result
          (subst (IsColumn pool from to) (sym c.index_mut.ensures.value)
          (c.loop-to.invariant.columns.still to (omega arith) lt column))
          (new_fetches_end pool from to mail c.mail-mail.ensures c.args.seat.now.seat.table_id c.ends-end.result
          c.requires.seat c.ends-end.ensures.receiver) c.in-Ok.ensures.items c.push.ensures.capacity) refl;
    }

pub returns-clause-row : goal.returns-clause-row
returns-clause-row c =
    let lanes = ap (λ (y : Layout). y.shape.lanes) c.args.pool.now.same_layout in
    λ to lt. c.loop-to.invariant.row.done to (omega (arith, lanes, lt))
