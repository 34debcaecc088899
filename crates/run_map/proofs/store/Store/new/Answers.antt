use Rattle.std.proofs.Common.{refl}
use Rattle.run_map.specs.declared.store.Store.{Store}
use Rattle.run_map.proofs.EmptyStore.{IsBlank, no-runs, blank-store}
use Rattle.run_map.proofs.store.Store.new.Goals as goal

pub returns : goal.returns
returns c =
    let s : Store = record {
      begins = c.in_ok-begins.begins;
      ends = c.in_ok-ends.ends;
      pieces = c.in_ok-pieces.pieces;
      width = c.div_ceil-width.result;
      firsts = c.in_ok-firsts.firsts;
      noted = 0;
    } in
    let blank : IsBlank c.args.layout.now s = record {
      begins = (c.in_ok-begins.ensures.items_if_clones_equal (λ y e. e), c.in_ok-begins.ensures.len);
      ends = (c.in_ok-ends.ensures.items_if_clones_equal (λ y e. e), c.in_ok-ends.ensures.len);
      none = c.in_ok-pieces.ensures.none;
      pieces = c.in_ok-pieces.ensures.len;
      width = c.div_ceil-width.ensures;
      firsts = c.in_ok-firsts.ensures.items_if_clones_equal (λ y e. e);
      noted = refl;
    } in
    (blank-store c.args.layout.now s c.requires blank, no-runs c.args.layout.now s c.requires blank)
