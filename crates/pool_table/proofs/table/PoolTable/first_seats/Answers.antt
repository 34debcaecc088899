use Rattle.std.proofs.Common.{rules, refl, subst, ℕ, Vec, Global, ◌≡◌, ◌+◌, ◌-◌, [], length, ap, ◌∙◌, arith}
use Rattle.std.specs.Prelude.{Some, None, All}
use Rattle.pool_table.specs.Opened.{AreNone}
use Rattle.pool_table.specs.Steps.{rest_view, lane_view}
use Rattle.pool_table.specs.Views.{empty_part}
use Rattle.pool_table.proofs.Counting.{counts_none}
use Rattle.pool_table.proofs.Lists.{at_cut}
use Rattle.pool_table.proofs.SeatFields.{fits_as}
use Rattle.pool_table.proofs.Words.{some_word}
use Rattle.pool_table.proofs.Starts.{cuts_as, cut_views, made_push}
use Rattle.pool_table.proofs.table.PoolTable.first_seats.Goals as goal

pub split_seat-seat-requires : goal.split_seat-seat-requires
split_seat-seat-requires g c = let l = c.args.self.now.layout in let i = c.loop-i.i in let t = c.loop-i-test.true in (
  c.loop-i.invariant.own,
  some_word l.shape _ c.args.self.now.shape.some_lane c.args.self.now.words,
  cuts_as g.H.Told.stands l _ c.loop-i.rest.id i (l.shape.lanes - i)
      (g.H.Told.settles c.args.self.now.table.shared.key.homes.value.items) c.loop-i.rest.me.0 c.args.self.now.key
      (omega (arith, t)) (ap (λ m. m.0) c.loop-i.invariant.rest),
)

pub invariant_of-push : goal.invariant_of-push
invariant_of-push g c = let l = c.args.self.now.layout in let i = c.loop-i.i in let t = c.loop-i-test.true in
    let gs = g.H.Told.settles c.args.self.now.table.shared.key.homes.value.items in
    let same : c.split_seat-seat.result.me.0 ≡ lane_view l i gs = ap (λ m. m.0) c.split_seat-seat.ensures.4
    ∙ (cut_views g.H.Told.stands l i (l.shape.lanes - i) gs c.loop-i.rest.me.0 (omega (arith, t))
    (ap (λ m. m.0) c.loop-i.invariant.rest)).0 in record {
      of_view = fits_as (Some i) None c.in-Some.sent.items (lane_view l i gs) c.split_seat-seat.result.me.0 same
          (record {
            numbered = refl;
            lettered = refl;
            counted = counts_none (empty_part (Some i)) c.in-Some.sent.items refl
                (at_cut (λ (x : Vec ℕ Global). AreNone 16 x.items) c.pop.new.self.items [] c.in-Some.sent
                (subst (All (λ (x : Vec ℕ Global). AreNone 16 x.items)) c.in-Some.ensures.items
                c.loop-i.invariant.none)).0;
          });
    }

pub loop-i-preserved : goal.loop-i-preserved
loop-i-preserved g c = let l = c.args.self.now.layout in let i = c.loop-i.i in let t = c.loop-i-test.true in
    let cv = cut_views g.H.Told.stands l i (l.shape.lanes - i)
    (g.H.Told.settles c.args.self.now.table.shared.key.homes.value.items) c.loop-i.rest.me.0 (omega (arith, t))
    (ap (λ m. m.0) c.loop-i.invariant.rest) in
    let less : l.shape.lanes - i - 1 ≡ l.shape.lanes - (i + 1) = omega (arith, t) in
    let long : length c.loop-i.seats.items ≡ i = search (rules, c.loop-i.invariant.many) in record {
      rest =
          c.split_seat-seat.ensures.2 ∙ (λ q. (
            (cv.1 ∙ ap (λ n. rest_view l (i + 1) n
                (g.H.Told.settles c.args.self.now.table.shared.key.homes.value.items)) less) q,
            ap (λ m. m.1)
                c.loop-i.invariant.rest q,
          ));
      own = c.split_seat-seat.ensures.0 ∙ c.loop-i.invariant.own;
      left = (let a = c.loop-i.invariant.left in let b = c.in-Some.ensures.len in omega (arith, a, b, t));
      none =
          (at_cut (λ (x : Vec ℕ Global). AreNone 16 x.items) c.pop.new.self.items [] c.in-Some.sent
          (subst (All (λ (x : Vec ℕ Global). AreNone 16 x.items)) c.in-Some.ensures.items
          c.loop-i.invariant.none)).1;
      many = c.in-Ok.ensures.len ∙ (let a = c.loop-i.invariant.many in omega (arith, a));
      room = (let a = c.loop-i.invariant.room in let b = c.push-pushed.ensures.capacity in omega (arith, a, b));
      made =
          made_push (λ k s. (s.seat.table_id ≡ c.args.self.now.table.shared.table_id)
          × (s.seat.me ≡ (lane_view l k (g.H.Told.settles c.args.self.now.table.shared.key.homes.value.items), [])))
          c.loop-i.seats.items c.push-pushed.new.self.items _ i long c.in-Ok.ensures.items
          c.loop-i.invariant.made
          (c.split_seat-seat.ensures.3 ∙ c.loop-i.invariant.own, c.split_seat-seat.ensures.4 ∙ ap (λ v. (v, [])) cv.0);
    }
