use Rattle.std.proofs.Common.{◌≡◌, ◌*◌, List, length, sym, ap, ◌∙◌, subst, arith}
use Rattle.std.specs.Prelude.{Option}
use Rattle.size_classes.specs.Sizes.{below}
use Rattle.leak_records.specs.declared.live.LiveRoot.{LiveRoot}
use Rattle.pool_table.specs.declared.views.Layout.{Layout}
use Rattle.pool_table.specs.Seats.{view_of}
use Rattle.shared_pool.specs.declared.home.Home.{Home}
use Rattle.shared_pool.specs.Emptying.{left_of, AreOut}
use Rattle.shared_pool.specs.Ends.{AreArenas, ArePlaces, chunks_from, told_from}
use Rattle.shared_pool.specs.Joining.{AreApart}
use Rattle.shared_pool.specs.Live.{AreLiveRoots}
use Rattle.shared_pool.specs.Seated.{parts_in}
use Rattle.shared_pool.proofs.ClosedPool.{all_lanes, arenas, places, whole, chunks, live, out}
use Rattle.shared_pool.proofs.Emptyings.{written}
use Rattle.shared_pool.proofs.JoinedParts.{apart, as_many}
use Rattle.shared_pool.proofs.pool.SharedPool.close_in.Goals as goal

pub joined-seat-requires-clause-some_seat : goal.joined-seat-requires-clause-some_seat
joined-seat-requires-clause-some_seat c =
    let was = c.requires.seats in let least = c.args.self.shape.lanes_least in
    let many = was.done.many in let same = as_many was.before c.args.seats.items was.same in
    let lanes = ap (λ (l : Layout). l.shape.lanes) c.args.self.same_layout in
    omega (arith, least, many, same, lanes)

pub joined-seat-requires-clause-apart : goal.joined-seat-requires-clause-apart
joined-seat-requires-clause-apart c =
    let was = c.requires.seats in subst (AreApart c.args.self.table) was.same (apart c.args.self was.before was.done)

pub close_with-homes-requires-clause-all : goal.close_with-homes-requires-clause-all
close_with-homes-requires-clause-all c =
    all_lanes c.args.self c.args.seats.items c.requires.seats (view_of c.joined-seat.result) c.joined-seat.ensures.parts

pub chunk_ends-chunks-requires-clause-arenas : goal.chunk_ends-chunks-requires-clause-arenas
chunk_ends-chunks-requires-clause-arenas c =
    subst (λ (y : Layout × List (Option Home)). AreArenas y.0.shape y.1)
    (λ i. (c.args.self.same_layout i, sym c.deref.ensures.value i))
    (arenas c.args.self c.args.seats.items c.requires.seats (view_of c.joined-seat.result) c.joined-seat.ensures.parts
    c.joined-seat.ensures.settled c.close_with-homes.result.0.items c.close_with-homes.result.1.items
    c.close_with-homes.ensures)

pub live_roots-live-requires-clause-places : goal.live_roots-live-requires-clause-places
live_roots-live-requires-clause-places c =
    subst (λ (y : Layout × List (Option Home)). ArePlaces y.0.shape y.1)
    (λ i. (c.args.self.same_layout i, sym c.deref_mut.ensures.value i))
    (places c.args.self c.args.seats.items c.requires.seats (view_of c.joined-seat.result) c.joined-seat.ensures.parts
    c.joined-seat.ensures.settled c.close_with-homes.result.0.items c.close_with-homes.result.1.items
    c.close_with-homes.ensures)

pub returns-clause-whole : goal.returns-clause-whole
returns-clause-whole c =
    whole c.args.self c.args.seats.items c.requires.seats (view_of c.joined-seat.result) c.joined-seat.ensures.parts
    c.joined-seat.ensures.settled c.close_with-homes.result.0.items c.close_with-homes.result.1.items
    c.close_with-homes.ensures

pub returns-clause-chunks : goal.returns-clause-chunks
returns-clause-chunks c =
    c.of.ensures ∙ c.chunk_ends-chunks.ensures
    ∙ (λ i. chunks_from (c.deref.ensures.value i) (below (sym c.args.self.same_layout i).shape.arenas))
    ∙ chunks c.args.self c.args.seats.items c.requires.seats (view_of c.joined-seat.result) c.joined-seat.ensures.parts
    c.joined-seat.ensures.settled c.close_with-homes.result.0.items c.close_with-homes.result.1.items
    c.close_with-homes.ensures

pub returns-clause-live : goal.returns-clause-live
returns-clause-live c =
    let layout : c.args.self.layout ≡ c.args.self.table.layout = sym c.args.self.same_layout in
    let is : c.of-2.result ≡ told_from c.args.self.table.layout.shape c.close_with-homes.result.0.items
    c.close_with-homes.result.1.items
    (below (c.args.self.table.layout.shape.lanes * c.args.self.table.layout.shape.handles)) =
    c.of-2.ensures ∙ c.live_roots-live.ensures.live
    ∙ (λ i. told_from (layout i).shape (c.deref_mut.ensures.value i) (c.deref-2.ensures.value i)
    (below ((layout i).shape.lanes * (layout i).shape.handles))) in
    subst (λ (xs : List LiveRoot). AreLiveRoots (parts_in c.args.seats.items) xs) (sym is)
    (live c.args.self c.args.seats.items c.requires.seats (view_of c.joined-seat.result) c.joined-seat.ensures.parts
    c.joined-seat.ensures.settled c.close_with-homes.result.0.items c.close_with-homes.result.1.items
    c.close_with-homes.ensures)

pub close_arenas-requires-clause-out : goal.close_arenas-requires-clause-out
close_arenas-requires-clause-out c =
    let homes : List (Option Home) = c.close_with-homes.result.0.items in
    let same : c.live_roots-live.new.homes ≡ homes = c.live_roots-live.ensures.same ∙ c.deref_mut.ensures.value in
    let long = ap (λ (xs : List (Option Home)). length xs) same in let many = c.close_with-homes.result.0.ok.0 in
    subst (λ (y : Layout × List (Option Home)). AreOut y.0.shape.arenas y.1 (left_of y.1))
    (λ i. (
      c.args.self.same_layout i,
      sym
          (written c.close_with-homes.result.0.len c.live_roots-live.new.homes homes (omega (arith, long, many)) ∙ same)
          i,
    ))
    (out c.args.self c.args.seats.items c.requires.seats (view_of c.joined-seat.result) c.joined-seat.ensures.parts
    c.joined-seat.ensures.settled c.close_with-homes.result.0.items c.close_with-homes.result.1.items
    c.close_with-homes.ensures)
