use Rattle.std.proofs.Common.{◌≡◌, ℕ, ◌+◌, get_or, sym, ap, ◌∙◌, arith}
use Rattle.std.proofs.lemmas.List.{get_or_read}
use Rattle.pool_table.specs.Letters.{lane_of}
use Rattle.pool_table.proofs.SeatFields.{sent_count}
use Rattle.pool_table.proofs.table.PoolTable.letter_to.Goals as goal

pub index-requires : goal.index-requires
index-requires g c =
    let s = c.args.seat.now in let shape = c.args.self.now.layout.shape in
    let n = sent_count s.number s.letter s.sent.items shape s.seat.me.0 c.args.to c.args.parcel
    c.args.self.now.shape.lanes c.requires.may s.of_view in
    omega (arith, s.sent.ok.0, n.0)

pub overflow_add-result : goal.overflow_add-result
overflow_add-result g c =
    let s = c.args.seat.now in let shape = c.args.self.now.layout.shape in
    let n = sent_count s.number s.letter s.sent.items shape s.seat.me.0 c.args.to c.args.parcel
    c.args.self.now.shape.lanes c.requires.may s.of_view in
    let is : c.index.result.now ≡ get_or s.sent.items c.args.to 0 =
    get_or_read s.sent.items _ _ n.0 c.index.ensures 0 in
    omega (arith, is, n.2)

pub returns : goal.returns
returns g c =
    let s = c.args.seat.now in let shape = c.args.self.now.layout.shape in
    let n = sent_count s.number s.letter s.sent.items shape s.seat.me.0 c.args.to c.args.parcel
    c.args.self.now.shape.lanes c.requires.may s.of_view in
    let is : c.index.result.now ≡ get_or s.sent.items c.args.to 0 =
    get_or_read s.sent.items _ _ n.0 c.index.ensures 0 in
    let lane : lane_of s.seat.me.0.own.number ≡ c.in-Some.from = ap lane_of (s.of_view.numbered ∙ c.in-Some.is) in
    λ i. record {
      from = sym lane i;
      to = c.args.to;
      number = (ap (λ (n : ℕ). n + 1) is ∙ n.1) i;
      parcel = c.args.parcel;
    }
