use Rattle.std.proofs.Common.{rules, ◌≡◌, ◌<◌, length, refl, ◌∙◌, subst, arith}
use Rattle.std.proofs.lemmas.Option.{slice_get_read, get_or_from_slice_get}
use Rattle.log_order.specs.Precedence.{MustStandBefore}
use Rattle.log_order.specs.Spots.{notes_in}
use Rattle.log_order.proofs.GraphLemmas.{links, kept-needs, linked-now}
use Rattle.log_order.proofs.graph.Graph.link.Goals as goal

pub returns-in_ok-push : goal.returns-in_ok-push
returns-in_ok-push c =
    let logs = notes_in c.args.logs.now in
    let g = c.args.self.now in
    let low : c.args.first < length g.spots.items = search rules in
    let top : c.args.node < length g.spots.items = search rules in
    let high : c.args.node < length g.needs.items = omega (arith, top, c.requires.as_many) in
    let old = slice_get_read g.needs.items (length g.needs.items) c.args.node c.index_mut.result.now refl high
    c.index_mut.ensures.value in
    let must : MustStandBefore logs c.index.result.now c.index-2.result.now =
    c.must_precede.ensures.0 c.if-must_precede.true in
    let more = c.in_ok-push.ensures.items in (
    record {
      graph = links logs g.spots.items g.needs.items c.args.node c.args.first c.index_mut.result.now c.push.new.self
          c.requires old more low
          (λ a b at bt.
          let one : c.index.result.now ≡ a =
          c.index.ensures ∙ get_or_from_slice_get g.spots.items c.args.first a _ at in
          let two : c.index-2.result.now ≡ b =
          c.index-2.ensures ∙ get_or_from_slice_get g.spots.items c.args.node b _ bt in
          subst (λ z. MustStandBefore logs z b) one (subst (λ z. MustStandBefore logs c.index.result.now z) two must));
      spots = refl;
      keeps = λ f v p.
          kept-needs g.needs.items c.args.node c.args.first c.index_mut.result.now c.push.new.self f v old more p;
      holds = λ a b at bt so.
          linked-now g.needs.items c.args.node c.args.first c.index_mut.result.now c.push.new.self old more;
    })
