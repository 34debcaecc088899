use Rattle.std.proofs.Common.{◌≡◌, List, length, refl, sym, ap, ◌∙◌, subst, arith}
use Rattle.std.specs.Prelude.{All, box_value}
use Rattle.std.specs.Arc.{arc_value}
use Rattle.std.proofs.lemmas.List.{length-map}
use Rattle.pool_table.specs.declared.views.Layout.{Layout}
use Rattle.pool_member.specs.Opening.{AreNewThreads}
use Rattle.pool_member.specs.Threads.{IsThread}
use Rattle.pool_c.specs.declared.held.Common.{Common}
use Rattle.pool_c.specs.Holding.{behind, Holding}
use Rattle.pool_c.specs.Opening.{ArePut}
use Rattle.pool_c.proofs.Placed.{each_opened}
use Rattle.pool_c.proofs.opening.open.Goals as goal

pub returns-in_default-new : goal.returns-in_default-new
returns-in_default-new c = (
  record {
    shape = c.in-Some.ensures.within.0 refl;
    many = c.if-threads-lanes.false ∙ ap (λ (l : Layout). l.shape.lanes) c.in-Some.ensures.layout;
    free = c.are_free.ensures.0 c.if-not-are_free.false;
  },
  refl,
)

pub boxes-requires : goal.boxes-requires
boxes-requires c = record {
  members =
      subst (λ (x : Common). All (IsThread x.shared) c.in-Ok.members.items) (sym c.in-Ok-new.ensures.ok)
      c.in-Ok.ensures.members;
}

pub returns-in_default-boxes : goal.returns-in_default-boxes
returns-in_default-boxes c = (
  record {
    shape = c.in-Some.ensures.within.0 refl;
    many = c.if-threads-lanes.false ∙ ap (λ (l : Layout). l.shape.lanes) c.in-Some.ensures.layout;
    free = c.are_free.ensures.0 c.if-not-are_free.false;
  },
  refl,
)

pub place-requires : goal.place-requires
place-requires c = record {
  many =
      (let common = arc_value c.in-Ok-new.common in let a = ap length c.in-Some-boxes.ensures in
      let b = length-map c.in-Some-boxes.held.items box_value in
      let d = length-map c.in-Ok.members.items (behind common) in let e = c.in-Ok.ensures.new.many in
      let f = c.if-threads-lanes.false in omega (arith, a, b, d, e, f));
}

pub returns : goal.returns
returns c =
    let common = arc_value c.in-Ok-new.common in let is = c.in-Ok-new.ensures.ok in
    let members = c.in-Ok.members.items in let threads = c.place.new.threads in
    let layout : common.shared.table.layout ≡ c.in-Some.layout =
    ap (λ (x : Common). x.shared.table.layout) is ∙ c.in-Ok.ensures.layout in (
      record {
        shape = c.in-Some.ensures.within.0 refl;
        many = c.if-threads-lanes.false ∙ ap (λ (l : Layout). l.shape.lanes) c.in-Some.ensures.layout;
        free = c.are_free.ensures.0 c.if-not-are_free.false;
      },
      record {
        common = common;
        name = ap (λ (x : Common). x.name) is;
        layout = layout ∙ c.in-Some.ensures.layout;
        each =
            each_opened common members threads
            (subst (λ (hs : List Holding). ArePut hs threads) c.in-Some-boxes.ensures c.place.ensures)
            (subst (λ (x : Common). All (IsThread x.shared) members) (sym is) c.in-Ok.ensures.members)
            (subst (λ (l : Layout). AreNewThreads l members) (sym layout) c.in-Ok.ensures.new);
      },
      c.place.auto.threads,
    )
