use Rattle.std.proofs.Common.{◌≡◌, ◌<◌, ◌++◌, [], List, drop, arith, ap, sym, ◌∙◌, append-nil}
use Rattle.std.specs.Prelude.{All}
use Rattle.std.proofs.lemmas.List.{drop_all}
use Rattle.std.proofs.lemmas.List.Elements.{All-same}
use Rattle.pool_law.specs.declared.id.Part.{Part}
use Rattle.pool_law.specs.Composites.{ranges}
use Rattle.composite_buf.specs.Maps.{Fits, byte_at}
use Rattle.composite_buf.proofs.MapLaws.{same_size}
use Rattle.composite_buf.proofs.RangeLaws.{byte_at-ranges, size_of-ranges, filled-ranges, Fits-ranges}
use Rattle.composite_buf.proofs.composite.Composite.ranges.Goals as goal

-- what was found is the ranges of the law
law : (c : goal.After-of) → c.of.result ≡ ranges c.args.self.now c.args.start c.args.len
law c =
    let none : drop c.loop-part.part-index c.deref-part-items.result.now ≡ [] =
    drop_all c.loop-part.part-index c.deref-part-items.result.now (omega arith) in
    c.of.ensures
    ∙ sym (append-nil c.loop-part.found.items)
    ∙ sym (ap (λ (ps : List Part). c.loop-part.found.items ++ ranges ps c.loop-part.skip c.loop-part.left) none)
    ∙ c.loop-part.invariant.rest
    ∙ ap (λ (ps : List Part). ranges ps c.args.start c.args.len) (c.deref-part-items.ensures.value ∙ c.self.view_is)

pub returns-clause-bytes : goal.returns-clause-bytes
returns-clause-bytes c = λ j below.
    ap (λ (ps : List Part). byte_at ps j) (law c) ∙ byte_at-ranges c.args.self.now c.args.start c.args.len j below

pub returns-clause-size : goal.returns-clause-size
returns-clause-size c =
    same_size c.of.result (ranges c.args.self.now c.args.start c.args.len) (law c)
    ∙ size_of-ranges c.args.self.now c.args.start c.args.len c.requires

pub returns-clause-filled : goal.returns-clause-filled
returns-clause-filled c =
    All-same (λ (p : Part). 0 < p.len) c.of.result (ranges c.args.self.now c.args.start c.args.len) (law c)
    (filled-ranges c.args.self.now c.args.start c.args.len)

pub returns-clause-fits : goal.returns-clause-fits
returns-clause-fits c =
    let fits : All Fits c.args.self.now =
    All-same Fits c.args.self.now c.self.inside.parts.items (sym c.self.view_is) c.self.invariant.fits in
    All-same Fits c.of.result (ranges c.args.self.now c.args.start c.args.len) (law c)
    (Fits-ranges c.args.self.now c.args.start c.args.len fits)
