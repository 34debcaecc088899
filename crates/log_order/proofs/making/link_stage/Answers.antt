use Rattle.std.proofs.Common.{◌≡◌, Some, sym, ap, ◌∙◌}
use Rattle.std.proofs.lemmas.Option.{same_Some}
use Rattle.std.specs.Prelude.{slice_get}
use Rattle.std.specs.BTreeMap.{get}
use Rattle.log_order.specs.Indexing.{stage_cmp, nodes_in, listed}
use Rattle.log_order.proofs.making.link_stage.Goals as goal

pub returns : goal.returns
returns c =
    let e = c.in_ok-link_all.ensures in
    let index = c.args.index.now in
    let value : Some c.in-Some-get.firsts.now ≡ get stage_cmp index.map c.in-Some.stage =
    c.in-Some-get.ensures.value in
    record {
      graph = e.graph;
      spots = e.spots;
      keeps = e.keeps;
      holds = λ s k first same at.
          let one : c.in-Some.stage ≡ s = same_Some _ _ (sym c.in-Some.is ∙ same) in
          let nodes : c.deref.result.now ≡ listed index s =
          c.deref.ensures.value ∙ ap nodes_in value ∙ ap (listed index) one in
          e.holds k first (ap (λ xs. slice_get xs k) nodes ∙ at);
    }
