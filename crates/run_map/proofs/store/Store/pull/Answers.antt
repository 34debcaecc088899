use Rattle.std.proofs.Common.{◌≡◌, ℕ, List, Option, subst, Fits-le, Fits-lit, arith, refl, sym, ap, ◌∙◌}
use Rattle.std.specs.Prelude.{slice_set, MatchOption}
use Rattle.run_map.specs.Lengths.{spans_from, beginning}
use Rattle.ground.specs.Ground.{Segment}
use Rattle.run_map.specs.Spaced.{IsPart}
use Rattle.run_map.specs.Stored.{stored}
use Rattle.run_map.specs.declared.store.Store.{Store}
use Rattle.run_map.proofs.StoreSteps.{at-page, piece-at, begins-there, begins-value, pulled}
use Rattle.run_map.proofs.StoreChanges.{pulled-store}
use Rattle.run_map.proofs.store.Store.pull.Goals as goal

pub index_mut-requires : goal.index_mut-requires
index_mut-requires c =
    let long = c.requires.store.1.long in
    omega (arith, begins-there c.args.self.now.begins.items c.args.first c.requires.run, long.begins, long.lens.0)

pub overflow_add-first : goal.overflow_add-first
overflow_add-first c =
    let at = at-page c.args.layout.now c.args.self.now c.args.first c.index_mut.result.now c.replace-pages.result
    c.requires.store.1 c.requires.run
    c.index_mut.ensures.value c.replace-pages.ensures.value in
    Fits-le {n = 4096} (omega (arith, at.1, c.requires.store.1.long.few)) (Fits-lit tt)

pub index_mut-requires-2 : goal.index_mut-requires-2
index_mut-requires-2 c =
    let at = at-page c.args.layout.now c.args.self.now c.args.first c.index_mut.result.now c.replace-pages.result
    c.requires.store.1 c.requires.run
    c.index_mut.ensures.value c.replace-pages.ensures.value in
    omega (arith, at.1, c.requires.store.1.long.lens.1)

pub class_under-requires : goal.class_under-requires
class_under-requires c =
    let at = at-page c.args.layout.now c.args.self.now c.args.first c.index_mut.result.now c.replace-pages.result
    c.requires.store.1 c.requires.run
    c.index_mut.ensures.value c.replace-pages.ensures.value in
    (at.0, omega (arith, at.1, c.requires.store.1.long.few))

pub unmark-requires-clause-place : goal.unmark-requires-clause-place
unmark-requires-clause-place c =
    let at = at-page c.args.layout.now c.args.self.now c.args.first c.index_mut.result.now c.replace-pages.result
    c.requires.store.1 c.requires.run
    c.index_mut.ensures.value c.replace-pages.ensures.value in
    (c.class_under.ensures.few, omega (arith, at.2, c.requires.store.1.long.width))

pub index_mut-requires-3 : goal.index_mut-requires-3
index_mut-requires-3 c =
    let at = at-page c.args.layout.now c.args.self.now c.args.first c.index_mut.result.now c.replace-pages.result
    c.requires.store.1 c.requires.run
    c.index_mut.ensures.value c.replace-pages.ensures.value in
    omega (arith, at.2, ap (λ (s : Store). s.pieces.len) c.unmark.ensures.rest, c.requires.store.1.long.lens.2)

pub unreachable-requires : goal.unreachable-requires
unreachable-requires c =
    let l = c.args.layout.now in
    let n : ℕ = beginning c.args.first (stored c.args.self.now) in
    subst (λ (o : Option Segment). MatchOption o ⊥ (IsPart l c.args.first n)) c.in-None.is
    (piece-at l c.args.self.now c.args.first c.unmark.new.self.pieces.items c.index_mut-3.result.now c.take.result
    c.requires.store.1 c.requires.run (ap (λ (s : Store). s.pieces.items) c.unmark.ensures.rest)
    c.index_mut-3.ensures.value c.take.ensures.value)

pub returns-clause-store : goal.returns-clause-store
returns-clause-store c =
    let l = c.args.layout.now in
    let s : Store = c.args.self.now in
    let first : ℕ = c.args.first in
    let n : ℕ = c.replace-pages.result in
    let rest = c.unmark.ensures.rest in
    let noted = c.unmark.ensures.noted in
    let at = at-page l s first c.index_mut.result.now n c.requires.store.1 c.requires.run
    c.index_mut.ensures.value c.replace-pages.ensures.value in
    let size : n ≡ beginning first (stored s) =
    c.replace-pages.ensures.value
    ∙ begins-value s.begins.items first c.index_mut.result.now (begins-there s.begins.items first c.requires.run)
    c.index_mut.ensures.value in
    pulled-store l s _ c.class_under.result first n c.requires.store.1 size at.0
    c.class_under.ensures.few c.class_under.ensures.last
    (record {
      begins =
          ap (λ (u : Store). u.begins.items) rest ∙ ap (slice_set s.begins.items first) c.replace-pages.ensures.after;
      ends = ap (λ (u : Store). u.ends.items) rest;
      pieces =
          ap (λ (ps : List (Option Segment)). slice_set ps first c.take.new.self)
          (ap (λ (u : Store). u.pieces.items) rest)
          ∙ ap (slice_set s.pieces.items first) c.take.ensures.after;
      mark = record { width = ap (λ (u : Store). u.width) rest; firsts = c.unmark.ensures.firsts };
      lens = (
        ap (λ (u : Store). u.begins.len) rest,
        ap (λ (u : Store). u.ends.len) rest,
        ap (λ (u : Store). u.pieces.len) rest,
      );
    })
    (record { none = noted.none; some = noted.some; others = noted.others })

pub returns-clause-runs : goal.returns-clause-runs
returns-clause-runs c =
    let ns : List ℕ = c.args.self.now.begins.items in
    ap (λ (s : Store). spans_from 0 s.begins.items) c.unmark.ensures.rest
    ∙ ap (λ (n : ℕ). spans_from 0 (slice_set ns c.args.first n)) c.replace-pages.ensures.after
    ∙ pulled ns c.args.first c.requires.run

pub returns-clause-place : goal.returns-clause-place
returns-clause-place c =
    let ns : List ℕ = c.args.self.now.begins.items in
    let there = begins-there ns c.args.first c.requires.run in (
      refl,
      c.replace-pages.ensures.value ∙ begins-value ns c.args.first c.index_mut.result.now there
          c.index_mut.ensures.value,
    )

pub returns-clause-run : goal.returns-clause-run
returns-clause-run c =
    let l = c.args.layout.now in
    let ns : List ℕ = c.args.self.now.begins.items in
    let n : ℕ = beginning c.args.first (stored c.args.self.now) in
    let at = at-page c.args.layout.now c.args.self.now c.args.first c.index_mut.result.now c.replace-pages.result
    c.requires.store.1 c.requires.run
    c.index_mut.ensures.value c.replace-pages.ensures.value in
    let there = begins-there ns c.args.first c.requires.run in
    let same : c.replace-pages.result ≡ n =
    c.replace-pages.ensures.value
    ∙ begins-value ns c.args.first c.index_mut.result.now there c.index_mut.ensures.value in
    let part : IsPart l c.args.first n c.in-Some.piece =
    subst (λ (o : Option Segment). MatchOption o ⊥ (IsPart l c.args.first n)) c.in-Some.is
    (piece-at l c.args.self.now c.args.first c.unmark.new.self.pieces.items c.index_mut-3.result.now c.take.result
    c.requires.store.1 c.requires.run (ap (λ (s : Store). s.pieces.items) c.unmark.ensures.rest)
    c.index_mut-3.ensures.value c.take.ensures.value) in
    record {
      part = subst (λ (m : ℕ). IsPart l c.args.first m c.in-Some.piece) (sym same) part;
      some = at.0;
      within = at.1;
    }
