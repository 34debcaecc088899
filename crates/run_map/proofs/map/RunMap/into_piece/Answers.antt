use Rattle.std.proofs.Common.{◌≡◌, ℕ, ◌*◌, ◌^◌, [], ◌∷◌, sym, ap, ◌∙◌, arith}
use Rattle.std.proofs.lemmas.Nat.{pow_pos}
use Rattle.run_map.specs.FreeRuns.{FreeRuns}
use Rattle.run_map.specs.Lengths.{beginning, without}
use Rattle.run_map.specs.Stored.{stored}
use Rattle.run_map.proofs.map.RunMap.into_piece.Goals as goal

pub pull-piece-requires-clause-store : goal.pull-piece-requires-clause-store
pull-piece-requires-clause-store c = (c.self.invariant.layout, c.self.invariant.store)

pub pull-piece-requires-clause-run : goal.pull-piece-requires-clause-run
pull-piece-requires-clause-run c =
    let order : ℕ = c.args.self.order in
    let all : stored c.self.inside.store ≡ (0, 2 ^ order) ∷ [] =
    ap (λ (v : FreeRuns). v.runs) c.self.view_is ∙ c.requires in
    omega (arith, ap (beginning 0) all, pow_pos order)

pub close-requires : goal.close-requires
close-requires c =
    let order : ℕ = c.args.self.order in
    let all : stored c.self.inside.store ≡ (0, 2 ^ order) ∷ [] =
    ap (λ (v : FreeRuns). v.runs) c.self.view_is ∙ c.requires in
    (c.pull-piece.ensures.store, c.pull-piece.ensures.runs ∙ ap (without 0) all)

pub returns : goal.returns
returns c =
    let m = c.self.inside in
    let h = c.self.invariant in
    let order : ℕ = c.args.self.order in
    let all : stored m.store ≡ (0, 2 ^ order) ∷ [] = ap (λ (v : FreeRuns). v.runs) c.self.view_is ∙ c.requires in
    let run = c.pull-piece.result in
    let part = c.pull-piece.ensures.run.part in
    let place = c.pull-piece.ensures.place in
    let pages : run.pages ≡ m.layout.pages =
    place.1 ∙ ap (beginning 0) all ∙ ap (λ (v : FreeRuns). 2 ^ v.order) (sym c.self.view_is) ∙ sym h.pages in (
      (
        part.start ∙ ap (λ (k : ℕ). k * m.layout.page) place.0 ∙ omega arith,
        part.size ∙ ap (λ (k : ℕ). k * m.layout.page) pages ∙ sym h.size ∙ ap (λ o. o.size) (sym part.origin),
      ),
      part.origin ∙ ap (λ (v : FreeRuns). v.origin) c.self.view_is,
    )
