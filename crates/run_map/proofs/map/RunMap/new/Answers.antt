use Rattle.std.proofs.Common.{◌*◌, ℕ, ◌/◌, ap, ◌∙◌, arith, lit<}
use Rattle.std.proofs.Math.Nat.{pow-le-pow_right}
use Rattle.run_map.specs.declared.runs.RunLayout.{RunLayout}
use Rattle.run_map.specs.Stored.{stored}
use Rattle.run_map.proofs.NewMap.{laid-out, whole-run, one-spaced, one-run, one-total, all-free}
use Rattle.run_map.proofs.map.RunMap.new.Goals as goal

pub new-requires : goal.new-requires
new-requires c =
    omega (
      arith,
      c.pow-pages.ensures,
      pow-le-pow_right {n = 2} (lit< tt) {i = c.args.order} {j = 11}
          c.requires.order.1,
    )

pub put-requires-clause-store : goal.put-requires-clause-store
put-requires-clause-store c =
    let l : RunLayout =
    record { page = c.len-bytes.result / c.pow-pages.result; pages = c.pow-pages.result; site = c.of.result } in
    let laid = laid-out l c.args.order c.args.piece c.requires.chunk c.pow-pages.ensures
    (ap (λ (n : ℕ). n / l.pages) c.len-bytes.ensures.len) c.len-bytes.ensures.small in
    (laid.layout, c.in-Ok.ensures.0)

pub put-requires-clause-run : goal.put-requires-clause-run
put-requires-clause-run c =
    let l : RunLayout =
    record { page = c.len-bytes.result / c.pow-pages.result; pages = c.pow-pages.result; site = c.of.result } in
    let laid = laid-out l c.args.order c.args.piece c.requires.chunk c.pow-pages.ensures
    (ap (λ (n : ℕ). n / l.pages) c.len-bytes.ensures.len) c.len-bytes.ensures.small in
    whole-run l c.args.order c.args.piece c.requires.chunk c.pow-pages.ensures c.of.ensures laid

pub put-requires-clause-spaced : goal.put-requires-clause-spaced
put-requires-clause-spaced c =
    let run = put-requires-clause-run c in
    one-spaced c.pow-pages.result (stored c.in-Ok.store) run.some c.in-Ok.ensures.1

pub invariant_of-result : goal.invariant_of-result
invariant_of-result c =
    let l : RunLayout =
    record { page = c.len-bytes.result / c.pow-pages.result; pages = c.pow-pages.result; site = c.of.result } in
    let laid = laid-out l c.args.order c.args.piece c.requires.chunk c.pow-pages.ensures
    (ap (λ (n : ℕ). n / l.pages) c.len-bytes.ensures.len) c.len-bytes.ensures.small in
    record {
      order = c.requires.order;
      page = laid.is;
      pages = c.pow-pages.ensures;
      layout = laid.layout;
      size = ap (λ o. o.size) c.of.ensures ∙ laid.size;
      store = c.put.ensures.store;
      total = c.len-bytes.ensures.len ∙ laid.whole
          ∙ ap (λ (n : ℕ). n * l.page) (one-total c.pow-pages.result (stored c.in-Ok.store) (stored c.put.new.self)
          c.put.ensures.runs c.in-Ok.ensures.1);
    }

pub returns : goal.returns
returns c =
    let l : RunLayout =
    record { page = c.len-bytes.result / c.pow-pages.result; pages = c.pow-pages.result; site = c.of.result } in
    let laid = laid-out l c.args.order c.args.piece c.requires.chunk c.pow-pages.ensures
    (ap (λ (n : ℕ). n / l.pages) c.len-bytes.ensures.len) c.len-bytes.ensures.small in
    let one =
    one-run c.pow-pages.result (stored c.in-Ok.store) (stored c.put.new.self) c.put.ensures.runs c.in-Ok.ensures.1 in
    all-free l c.args.order c.args.piece (stored c.put.new.self) c.of.ensures laid.page one c.pow-pages.ensures
