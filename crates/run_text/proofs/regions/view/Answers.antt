use Rattle.std.proofs.Common.{◌∷◌, decimal}
use Rattle.pool_law.specs.Text.{plus}
use Rattle.run_text.proofs.WordLemmas.{passed_on}
use Rattle.run_text.proofs.regions.view.Goals as goal

pub returns-in_err-root : goal.returns-in_err-root
returns-in_err-root c = λ view more fits e.
    let r0 = rw c.in_err-root.was
    at (c.root.ensures view.root (plus view.offset view.len ∷ decimal view.reader ∷ decimal view.writer ∷ more)
    fits.0 fits.1 e) in
    passed_on _ _ _ _ _ c.from_residual.ensures.1 r0

pub returns-in_err-offset : goal.returns-in_err-offset
returns-in_err-offset c = λ view more fits e.
    let r0 = rw c.in_ok-root.was
    at (c.root.ensures view.root (plus view.offset view.len ∷ decimal view.reader ∷ decimal view.writer ∷ more)
    fits.0 fits.1 e) in
    let r1 = rw c.in_err-offset.was
    at (c.pair.ensures view.offset view.len (decimal view.reader ∷ decimal view.writer ∷ more) fits.2 fits.3 r0.1) in
    passed_on _ _ _ _ _ c.from_residual-in_err-offset.ensures.1 r1

pub returns-in_err-reader : goal.returns-in_err-reader
returns-in_err-reader c = λ view more fits e.
    let r0 = rw c.in_ok-root.was
    at (c.root.ensures view.root (plus view.offset view.len ∷ decimal view.reader ∷ decimal view.writer ∷ more)
    fits.0 fits.1 e) in
    let r1 = rw c.in_ok-offset.was
    at (c.pair.ensures view.offset view.len (decimal view.reader ∷ decimal view.writer ∷ more) fits.2 fits.3 r0.1) in
    let r2 = rw c.in_err-reader.was at (c.small.ensures view.reader (decimal view.writer ∷ more) fits.4 r1.1) in
    passed_on _ _ _ _ _ c.from_residual-in_err-reader.ensures.1 r2

pub returns-in_err-writer : goal.returns-in_err-writer
returns-in_err-writer c = λ view more fits e.
    let r0 = rw c.in_ok-root.was
    at (c.root.ensures view.root (plus view.offset view.len ∷ decimal view.reader ∷ decimal view.writer ∷ more)
    fits.0 fits.1 e) in
    let r1 = rw c.in_ok-offset.was
    at (c.pair.ensures view.offset view.len (decimal view.reader ∷ decimal view.writer ∷ more) fits.2 fits.3 r0.1) in
    let r2 = rw c.in_ok-reader.was at (c.small.ensures view.reader (decimal view.writer ∷ more) fits.4 r1.1) in
    let r3 = rw c.in_err-writer.was at (c.small-2.ensures view.writer more fits.5 r2.1) in
    passed_on _ _ _ _ _ c.from_residual-in_err-writer.ensures.1 r3

pub returns : goal.returns
returns c = λ view more fits e.
    let r0 = rw c.in_ok-root.was
    at (c.root.ensures view.root (plus view.offset view.len ∷ decimal view.reader ∷ decimal view.writer ∷ more)
    fits.0 fits.1 e) in
    let r1 = rw c.in_ok-offset.was
    at (c.pair.ensures view.offset view.len (decimal view.reader ∷ decimal view.writer ∷ more) fits.2 fits.3 r0.1) in
    let r2 = rw c.in_ok-reader.was at (c.small.ensures view.reader (decimal view.writer ∷ more) fits.4 r1.1) in
    let r3 = rw c.in_ok-writer.was at (c.small-2.ensures view.writer more fits.5 r2.1) in
    (λ k. record { root = r0.0 k; offset = (r1.0 k).0; len = (r1.0 k).1; reader = r2.0 k; writer = r3.0 k }, r3.1)
