use Rattle.std.proofs.Common.{◌≡◌, ℕ, refl, ap, ◌∙◌, subst}
use Rattle.pool_chunk.specs.ChunkStates.{IsElementOut}
use Rattle.pool_chunk.specs.Outcomes.{run_back, element_back, freed_by}
use Rattle.pool_chunk.proofs.PlaceLaws.{run-page, run-sub, run-out, element-page, element-index, element-sub, element-out}
use Rattle.pool_chunk.proofs.chunk.Chunk.give.Goals as goal

pub give_element-requires : goal.give_element-requires
give_element-requires c =
    element-out c.self.inside c.self.invariant c.args.self.now c.self.view_is c.args.piece c.args.word
    c.place_unpack-page.result c.place_unpack-page.ensures.only
    c.requires c.if-sub.true

pub give_run-requires : goal.give_run-requires
give_run-requires c =
    run-out c.self.inside c.self.invariant c.args.self.now c.self.view_is c.args.piece c.args.word
    c.place_unpack-page.result c.place_unpack-page.ensures.only
    c.requires c.if-sub.false

pub returns-then-sub-clause-element : goal.returns-then-sub-clause-element
returns-then-sub-clause-element c = λ out.
    let now = c.args.self.now in
    let fields = c.place_unpack-page.result in
    let page = element-page c.self.inside c.self.invariant now c.self.view_is c.args.piece c.args.word fields
    c.place_unpack-page.ensures.only out in
    let index = element-index c.self.inside c.self.invariant now c.self.view_is c.args.piece c.args.word fields
    c.place_unpack-page.ensures.only out in
    let P : ℕ → ℕ → Type 0 =
    λ p i. (o : IsElementOut now p i c.args.piece)
    → (c.give_element.result ≡ freed_by o.subpage.elements i)
    × (c.give_element.new.self ≡ element_back now p o.subpage i) in
    subst (λ (i : ℕ). P out.page i) index
    (subst (λ (p : ℕ). P p fields.4) page (λ o. (c.give_element.ensures.freed o, c.give_element.ensures.chunk o)))
    out.element

pub returns-then-sub-clause-run : goal.returns-then-sub-clause-run
returns-then-sub-clause-run c = λ out.
    let sub = run-sub c.self.inside c.self.invariant c.args.self.now c.self.view_is c.args.piece c.args.word
    c.place_unpack-page.result c.place_unpack-page.ensures.only out in
    absurd (cc (sub, c.if-sub.true))

pub returns-clause-run : goal.returns-clause-run
returns-clause-run c = λ out.
    let page = run-page c.self.inside c.self.invariant c.args.self.now c.self.view_is c.args.piece c.args.word
    c.place_unpack-page.result c.place_unpack-page.ensures.only out in
    (refl, c.give_run.ensures ∙ ap (λ (p : ℕ). run_back c.args.self.now p) page)

pub returns-clause-element : goal.returns-clause-element
returns-clause-element c = λ out.
    let sub = element-sub c.self.inside c.self.invariant c.args.self.now c.self.view_is c.args.piece c.args.word
    c.place_unpack-page.result c.place_unpack-page.ensures.only out in
    absurd (cc (sub, c.if-sub.false))
