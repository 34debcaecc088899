use Rattle.std.proofs.Common.{List, ◌*◌, ◌∙◌, sym, refl, ap, subst, arith}
use Rattle.size_classes.specs.Sizes.{of_pages}
use Rattle.size_classes.specs.Spans.{Span, taken_from, AreShorter}
use Rattle.size_classes.proofs.ChosenLaws.{shorter-none}
use Rattle.run_map.specs.FreeRuns.{FreeRuns, with_runs, geometry_in}
use Rattle.run_map.specs.Held.{free_runs}
use Rattle.run_map.specs.Stored.{stored}
use Rattle.run_map.proofs.MapLaws.{few-pages-of, served, total-less, taken-is-out, taken-keeps}
use Rattle.run_map.proofs.Serving.{serving-none}
use Rattle.run_map.proofs.StoreChanges.{begins-at}
use Rattle.run_map.proofs.Totals.{pages_in, total-taken}
use Rattle.run_map.proofs.map.RunMap.take.Goals as goal

pub serving-requires-clause-pages : goal.serving-requires-clause-pages
serving-requires-clause-pages c =
    few-pages-of c.self.inside c.args.self.now c.args.pages c.self.invariant c.self.view_is c.requires

pub take_from-piece-requires-clause-run : goal.take_from-piece-requires-clause-run
take_from-piece-requires-clause-run c =
    let m = c.self.inside in
    let v = c.args.self.now in
    let is = served m v c.args.pages c.in-Some.first c.self.invariant c.self.view_is c.requires c.in-Some.ensures in
    let few = few-pages-of m v c.args.pages c.self.invariant c.self.view_is c.requires in
    (few.0, omega (arith, is.long, begins-at m.store c.in-Some.first))

pub overflow_sub-self : goal.overflow_sub-self
overflow_sub-self c =
    let m = c.self.inside in
    let h = c.self.invariant in
    let is =
    served m c.args.self.now c.args.pages c.in-Some.first h c.self.view_is c.requires c.in-Some.ensures in
    let left =
    total-taken 0 c.in-Some.first _ c.args.pages (stored m.store) h.store.spaced is.among is.long in
    (total-less m (taken_from c.in-Some.first c.args.pages (stored m.store)) c.args.pages c.len.result h left
    (c.len.ensures.len ∙ c.take_from-piece.ensures.piece.size)).0

pub invariant_of-self : goal.invariant_of-self
invariant_of-self c =
    let m = c.self.inside in
    let h = c.self.invariant in
    let is =
    served m c.args.self.now c.args.pages c.in-Some.first h c.self.view_is c.requires c.in-Some.ensures in
    let left =
    total-taken 0 c.in-Some.first _ c.args.pages (stored m.store) h.store.spaced is.among is.long in
    let less =
    total-less m (taken_from c.in-Some.first c.args.pages (stored m.store)) c.args.pages c.len.result h left
    (c.len.ensures.len ∙ c.take_from-piece.ensures.piece.size) in
    record {
      order = h.order;
      page = h.page;
      pages = h.pages;
      layout = h.layout;
      size = h.size;
      store = c.take_from-piece.ensures.store;
      total = less.1 ∙ sym (ap (λ (runs : List Span). pages_in runs * m.layout.page) c.take_from-piece.ensures.runs);
    }

pub returns-in-None-clause-none : goal.returns-in-None-clause-none
returns-in-None-clause-none c =
    let m = c.self.inside in
    let short = serving-none m.layout m.store c.self.invariant.store c.args.pages c.in-None.ensures in
    rw (← c.self.view_is) (refl, shorter-none (of_pages m.order m.layout.page) c.args.pages (stored m.store) short)

pub returns-in-None-clause-short : goal.returns-in-None-clause-short
returns-in-None-clause-short c =
    let m = c.self.inside in
    let short = serving-none m.layout m.store c.self.invariant.store c.args.pages c.in-None.ensures in
    (λ _. subst (λ (x : FreeRuns). AreShorter c.args.pages x.runs) c.self.view_is short, λ _. refl)

pub returns-in-Some-clause-some : goal.returns-in-Some-clause-some
returns-in-Some-clause-some c =
    let m = c.self.inside in
    let is = served m c.args.self.now c.args.pages c.in-Some.first c.self.invariant c.self.view_is c.requires
    c.in-Some.ensures in
    let part = c.take_from-piece.ensures.piece in
    rw (← c.self.view_is) (record {
      long = _;
      run = is.run;
      piece = record { origin = part.origin; start = part.start; size = part.size };
      rest = ap (with_runs (free_runs m)) c.take_from-piece.ensures.runs;
    })

pub returns-in-Some-clause-short : goal.returns-in-Some-clause-short
returns-in-Some-clause-short c =
    let v = c.args.self.now in
    let taken = returns-in-Some-clause-some c in
    (λ e. absurd (cc e), λ short. absurd (cc (taken.run, shorter-none (geometry_in v) c.args.pages v.runs short)))

pub returns-in-Some-clause-out : goal.returns-in-Some-clause-out
returns-in-Some-clause-out c =
    let m = c.self.inside in
    let v = c.args.self.now in
    let few = few-pages-of m v c.args.pages c.self.invariant c.self.view_is c.requires in
    taken-is-out m v _ c.args.pages _ _ c.self.invariant c.self.view_is few.0 (returns-in-Some-clause-some c)

pub returns-in-Some-clause-kept : goal.returns-in-Some-clause-kept
returns-in-Some-clause-kept c =
    taken-keeps c.self.inside c.args.self.now _ c.args.pages _ _ c.self.invariant c.self.view_is
    (returns-in-Some-clause-some c)
