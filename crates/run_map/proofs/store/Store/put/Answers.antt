use Rattle.std.proofs.Common.{◌<◌, List, Option, ap, ◌∙◌, arith}
use Rattle.std.specs.Prelude.{slice_set}
use Rattle.ground.specs.Ground.{Segment}
use Rattle.run_map.specs.Spaced.{span_of_run}
use Rattle.run_map.specs.declared.store.Store.{Store}
use Rattle.run_map.proofs.StoreChanges.{put-store, put-runs, none-held}
use Rattle.run_map.proofs.store.Store.put.Goals as goal

pub unreachable-requires : goal.unreachable-requires
unreachable-requires c =
    let r = c.args.run in
    let same = ap (λ (s : Store). s.pieces.items) c.note.ensures.rest in
    let there : r.first < c.args.layout.now.pages = omega (arith, c.requires.run.within, c.requires.run.some) in
    let none =
    none-held c.args.layout.now c.args.self.now (span_of_run r) c.note.new.self.pieces.items c.index_mut-3.result.now
    c.replace.result c.requires.store.1 c.requires.spaced there same c.index_mut-3.ensures.value
    c.replace.ensures.value in
    cc (none, c.in-Some.is)

pub returns-clause-store : goal.returns-clause-store
returns-clause-store c =
    let r = c.args.run in
    let rest = c.note.ensures.rest in
    let old : List (Option Segment) = c.args.self.now.pieces.items in
    put-store c.args.layout.now c.args.self.now _ c.class_under.result r c.requires.store.1 c.requires.run
    c.requires.spaced
    c.class_under.ensures.few c.class_under.ensures.last
    (record {
      begins = ap (λ (s : Store). s.begins.items) rest;
      ends = ap (λ (s : Store). s.ends.items) rest;
      pieces =
          ap (λ (ps : List (Option Segment)). slice_set ps r.first c.replace.new.dest)
          (ap (λ (s : Store). s.pieces.items) rest)
          ∙ ap (slice_set old r.first) c.replace.ensures.after;
      mark = record { width = ap (λ (s : Store). s.width) rest; firsts = c.note.ensures.firsts };
      lens = (
        ap (λ (s : Store). s.begins.len) rest,
        ap (λ (s : Store). s.ends.len) rest,
        ap (λ (s : Store). s.pieces.len) rest,
      );
    })
    c.note.ensures.noted

pub returns-clause-runs : goal.returns-clause-runs
returns-clause-runs c =
    let r = c.args.run in
    let there : r.first < c.args.layout.now.pages = omega (arith, c.requires.run.within, c.requires.run.some) in
    put-runs c.args.layout.now c.args.self.now c.note.new.self r.first r.pages c.requires.store.1 there
    c.requires.run.some c.requires.spaced
    (ap (λ (s : Store). s.begins.items) c.note.ensures.rest)
