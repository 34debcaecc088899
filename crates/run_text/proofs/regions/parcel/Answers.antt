use Rattle.std.proofs.Common.{◌∷◌, ◌∙◌, Some, None, codes, decimal, refl, arith}
use Rattle.pool_law.specs.Text.{dotted, plus}
use Rattle.run_text.proofs.WordLemmas.{is_word-pair, not_parted, passed_on}
use Rattle.run_text.proofs.regions.parcel.Goals as goal

pub returns-then-take : goal.returns-then-take
returns-then-take c None more fits e =
    let w = rw c.if-take.true at (c.take.ensures (codes "empty") more refl e) in
    (refl, w.1)
returns-then-take c (Some view) more fits e =
    let w = rw c.if-take.true at (c.take.ensures (dotted view.root.place view.root.generation)
    (plus view.offset view.len ∷ decimal view.reader ∷ decimal view.writer ∷ more)
    (is_word-pair 46 view.root.place view.root.generation (omega arith) fits.0 fits.1) e) in
    absurd (not_parted 46 view.root.place view.root.generation (codes "empty") refl w.0)

pub returns-in_err-view : goal.returns-in_err-view
returns-in_err-view c None more fits e =
    let w = rw c.if-take.false at (c.take.ensures (codes "empty") more refl e) in
    absurd (w.0 refl)
returns-in_err-view c (Some view) more fits e =
    let w = rw c.if-take.false at (c.take.ensures (dotted view.root.place view.root.generation)
    (plus view.offset view.len ∷ decimal view.reader ∷ decimal view.writer ∷ more)
    (is_word-pair 46 view.root.place view.root.generation (omega arith) fits.0 fits.1) e) in
    let r0 = rw c.in_err-view.was at (c.view.ensures view more fits (w.1 ∙ e)) in
    passed_on _ _ _ _ _ c.from_residual.ensures.1 r0

pub returns : goal.returns
returns c None more fits e =
    let w = rw c.if-take.false at (c.take.ensures (codes "empty") more refl e) in
    absurd (w.0 refl)
returns c (Some view) more fits e =
    let w = rw c.if-take.false at (c.take.ensures (dotted view.root.place view.root.generation)
    (plus view.offset view.len ∷ decimal view.reader ∷ decimal view.writer ∷ more)
    (is_word-pair 46 view.root.place view.root.generation (omega arith) fits.0 fits.1) e) in
    let r0 = rw c.in_ok-view.was at (c.view.ensures view more fits (w.1 ∙ e)) in
    (λ k. record { view = Some (r0.0 k) }, r0.1)
