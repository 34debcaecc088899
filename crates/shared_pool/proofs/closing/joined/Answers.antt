use Rattle.std.proofs.Common.{◌++◌, ◌∷◌, [], List, length, sym, ap, ◌∙◌, arith}
use Rattle.std.specs.Prelude.{All, reverse}
use Rattle.std.proofs.lemmas.List.{reverse-append}
use Rattle.std.proofs.lemmas.List.Elements.{All-head, All-tail, All-push, All-same}
use Rattle.pool_arena.proofs.NewStockLaws.{All-front, All-last}
use Rattle.pool_table.specs.Seats.{view_of}
use Rattle.pool_table.specs.Views.{joined, parts_of}
use Rattle.shared_pool.specs.Joining.{arenas_known}
use Rattle.shared_pool.specs.Seated.{parts_in}
use Rattle.shared_pool.proofs.Emptyings.{written}
use Rattle.shared_pool.proofs.JoinedParts.{IsReady, all_ready, first_parts, joined_more}
use Rattle.shared_pool.proofs.closing.joined.Goals as goal

all_reversed : {X : Type 0} (P : X → Type 0) (xs : List X) → All P xs → All P (reverse xs)
all_reversed P [] all = all
all_reversed P (x ∷ xs) all =
    All-same P (reverse (x ∷ xs)) (reverse xs ++ x ∷ []) (reverse-append (x ∷ []) xs)
    (All-push P (reverse xs) x (all_reversed P xs (All-tail P x xs all)) (All-head P x xs all))

pub loop-seat-init : goal.loop-seat-init
loop-seat-init c =
    let table = c.args.table.now in let seats = c.args.seats.items in let rest = c.pop.new.self.items in
    let turned = c.reverse.new.self in
    let len = c.reverse.ensures.len in let same = ap (λ xs. length xs) c.as_mut_slice.ensures.value in let many =
    c.args.seats.ok.0 in
    let back = written c.args.seats.len turned seats (omega (arith, len, same, many)) ∙ c.reverse.ensures.after
    ∙ ap (λ xs. reverse xs) c.as_mut_slice.ensures.value in
    let popped = sym back ∙ (c.in-Some.ensures {u = tt}).items in
    let all = all_reversed (IsReady table) seats (all_ready table seats c.requires.apart) in
    let last = All-last (IsReady table) rest (reverse seats) c.in-Some.first popped all in
    let is = c.bare-whole.ensures in
    record {
      own = ap (λ s. s.seat.table_id) is ∙ last.own;
      outside = (ap (λ s. s.seat.me.0.inside) is ∙ last.outside.0, ap (λ s. s.seat.me.1) is ∙ last.outside.1);
      settled = ap (λ s. arenas_known s.seat.me.0.setting) is ∙ last.settled;
      ready = All-front (IsReady table) rest (reverse seats) c.in-Some.first popped all;
      parts =
          ap (λ s. parts_of (view_of s) ++ parts_in (reverse rest)) is
          ∙ first_parts c.in-Some.first rest seats last.alone popped;
    }

pub join-requires-clause-other_own : goal.join-requires-clause-other_own
join-requires-clause-other_own c =
    ap (λ s. s.seat.table_id) c.bare.ensures
    ∙ (All-last (IsReady c.args.table.now) c.pop-in-loop-seat.new.self.items
    c.loop-seat.seats.items c.in-Some-pop.seat (c.in-Some-pop.ensures {u = tt}).items
    c.loop-seat.invariant.ready).own

pub join-requires-clause-other_outside : goal.join-requires-clause-other_outside
join-requires-clause-other_outside c =
    let last = All-last (IsReady c.args.table.now) c.pop-in-loop-seat.new.self.items
    c.loop-seat.seats.items c.in-Some-pop.seat (c.in-Some-pop.ensures {u = tt}).items c.loop-seat.invariant.ready in
    let is = c.bare.ensures in let out = last.outside in
    (ap (λ s. s.seat.me.0.inside) is ∙ out.0, ap (λ s. s.seat.me.1) is ∙ out.1)

pub loop-seat-preserved : goal.loop-seat-preserved
loop-seat-preserved c =
    let inv = c.loop-seat.invariant in let popped = (c.in-Some-pop.ensures {u = tt}).items in
    let has = c.join.ensures.joined in let rest = c.pop-in-loop-seat.new.self.items in
    let all = IsReady c.args.table.now in
    let last = All-last all rest c.loop-seat.seats.items c.in-Some-pop.seat popped inv.ready in
    let v = view_of c.loop-seat.whole in
    record {
      own = c.join.ensures.same.0 ∙ inv.own;
      outside = (ap (λ m. m.0.inside) has ∙ inv.outside.0, ap (λ m. m.1) has);
      settled = ap (λ m. arenas_known m.0.setting) has ∙ inv.settled;
      ready = All-front all rest c.loop-seat.seats.items c.in-Some-pop.seat popped inv.ready;
      parts =
          joined_more v (view_of c.join.new.seat) c.in-Some-pop.seat rest c.loop-seat.seats.items last.alone
          (ap (λ m. m.0) has ∙ ap (λ s. joined v (view_of s)) c.bare.ensures) popped ∙ inv.parts;
    }
