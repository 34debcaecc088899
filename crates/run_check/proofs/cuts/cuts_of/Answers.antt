use Rattle.std.proofs.Common.{◌≡◌, List, length, true, refl, sym, ap, arith, ◌∙◌}
use Rattle.std.specs.Prelude.{Vec}
use Rattle.std.specs.declared.alloc.Global.{Global}
use Rattle.std.proofs.lemmas.List.{length-map}
use Rattle.pool_law.specs.declared.run.LaneLog.{LaneLog}
use Rattle.pool_law.specs.declared.run.Reply.{Reply}
use Rattle.pool_law.specs.LaneLaw.{replies_in}
use Rattle.run_check.specs.ByObject.{notes_in}
use Rattle.run_check.proofs.CheckingLemmas.{told-are}
use Rattle.run_check.proofs.CutLemmas.{not-broken}
use Rattle.run_check.proofs.cuts.cuts_of.Goals as goal

pub returns-then-not-is_shape-clause-only : goal.returns-then-not-is_shape-clause-only
returns-then-not-is_shape-clause-only c answered same are =
    let yes : c.is_shape.result ≡ true = c.is_shape.ensures.1 are.measures in
    absurd (cc (sym c.if-not-is_shape.true ∙ yes))

pub returns-then-not-are_as_many-clause-only : goal.returns-then-not-are_as_many-clause-only
returns-then-not-are_as_many-clause-only c answered same are =
    let replies : length c.args.replies.now ≡ c.args.shape.now.lanes =
    omega (
      arith,
      are.replied,
      ap (λ (lists : List (List Reply)). length lists) same,
      length-map answered replies_in,
      length-map c.args.replies.now (λ (list : Vec Reply Global). list.items),
    ) in
    let logs : length c.args.logs.now ≡ c.args.shape.now.lanes =
    omega (arith, are.logged, length-map c.args.logs.now (λ (l : LaneLog). l.notes)) in
    let yes : c.are_as_many.result ≡ true = c.are_as_many.ensures.1 (are.asked, replies, logs) in
    absurd (cc (sym c.if-not-are_as_many.true ∙ yes))

pub returns-then-not-branch-clause-only : goal.returns-then-not-branch-clause-only
returns-then-not-branch-clause-only c answered same are =
    let yes : c.in_ok-all_are_commands.field-0 ≡ true = c.in_ok-all_are_commands.ensures.1 are.commands in
    absurd (cc (sym c.if-not-branch.true ∙ yes))

pub returns-in-Err-clause-only : goal.returns-in-Err-clause-only
returns-in-Err-clause-only c answered same are =
    absurd
    (not-broken c.args.shape.now (notes_in c.args.logs.now) are.histories c.in_ok-histories.field-0
    c.in_ok-histories.ensures c.in-Err.field-0 c.in-Err.is)

pub cuts_told-requires-clause-told : goal.cuts_told-requires-clause-told
cuts_told-requires-clause-told c =
    told-are c.args.shape.now c.args.logs.now c.args.logs.now c.in-Ok.histories refl c.in_ok-told.told.items
    c.deref.result.now c.deref.ensures.value (rw c.in-Ok.is at c.in_ok-histories.ensures) c.in_ok-told.ensures

pub returns-clause-only : goal.returns-clause-only
returns-clause-only c answered same are =
    let few : length c.args.logs.now ≡ c.args.shape.now.lanes =
    omega (arith, are.logged, length-map c.args.logs.now (λ (l : LaneLog). l.notes)) in
    c.cuts_told.ensures.only answered same (λ lane there. are.answers lane (omega (arith, there, few)))
