use Rattle.std.proofs.Common.{◌∷◌, ◌++◌, ◌∙◌, codes, decimal, refl, ap}
use Rattle.pool_law.specs.Text.{did_words, dotted, object_words, ref_words, spaced}
use Rattle.pool_law.specs.declared.note.Note.{Note}
use Rattle.run_text.proofs.NoteLemmas.{at_first, at_words, busy_words, not_busy, not_ref, object_word, texts_apart}
use Rattle.run_text.proofs.WordLemmas.{head, tail, passed_on}
use Rattle.run_text.proofs.notes.note_in.Goals as goal

pub returns-in_err-root : goal.returns-in_err-root
returns-in_err-root c (Note.Ref root did) more fits e =
    let w = rw c.if-take.true
    at (c.take.ensures (codes "ref") (dotted root.place root.generation ∷ (ref_words did ++ more)) refl e) in
    let r0 = rw c.in_err-root.was at (c.root.ensures root (ref_words did ++ more) fits.0 fits.1 w.1) in
    passed_on _ _ _ _ _ c.from_residual.ensures.1 r0
returns-in_err-root c (Note.Busy held) more fits e =
    let w = rw c.if-take.true
    at (c.take.ensures (codes "busy") (object_words held.object ++ decimal held.number ∷ more) refl
    (e ∙ ap spaced (busy_words held more))) in
    absurd (texts_apart (codes "busy") (codes "ref") refl w.0)
returns-in_err-root c (Note.At object number did) more fits e =
    let w = rw c.if-take.true at (c.take.ensures (head (object_words object))
    (tail (object_words object) ++ decimal number ∷ (did_words did ++ more)) (object_word object)
    (e ∙ ap spaced (at_first object number did more))) in
    absurd (not_ref object w.0)

pub returns-in_err-did : goal.returns-in_err-did
returns-in_err-did c (Note.Ref root did) more fits e =
    let w = rw c.if-take.true
    at (c.take.ensures (codes "ref") (dotted root.place root.generation ∷ (ref_words did ++ more)) refl e) in
    let r0 = rw c.in_ok-root.was at (c.root.ensures root (ref_words did ++ more) fits.0 fits.1 w.1) in
    let r1 = rw c.in_err-did.was at (c.ref_did.ensures did more fits.2 r0.1) in
    passed_on _ _ _ _ _ c.from_residual-in_err-did.ensures.1 r1
returns-in_err-did c (Note.Busy held) more fits e =
    let w = rw c.if-take.true
    at (c.take.ensures (codes "busy") (object_words held.object ++ decimal held.number ∷ more) refl
    (e ∙ ap spaced (busy_words held more))) in
    absurd (texts_apart (codes "busy") (codes "ref") refl w.0)
returns-in_err-did c (Note.At object number did) more fits e =
    let w = rw c.if-take.true at (c.take.ensures (head (object_words object))
    (tail (object_words object) ++ decimal number ∷ (did_words did ++ more)) (object_word object)
    (e ∙ ap spaced (at_first object number did more))) in
    absurd (not_ref object w.0)

pub returns-in_ok-did : goal.returns-in_ok-did
returns-in_ok-did c (Note.Ref root did) more fits e =
    let w = rw c.if-take.true
    at (c.take.ensures (codes "ref") (dotted root.place root.generation ∷ (ref_words did ++ more)) refl e) in
    let r0 = rw c.in_ok-root.was at (c.root.ensures root (ref_words did ++ more) fits.0 fits.1 w.1) in
    let r1 = rw c.in_ok-did.was at (c.ref_did.ensures did more fits.2 r0.1) in
    (λ k. Note.Ref (r0.0 k) (r1.0 k), r1.1)
returns-in_ok-did c (Note.Busy held) more fits e =
    let w = rw c.if-take.true
    at (c.take.ensures (codes "busy") (object_words held.object ++ decimal held.number ∷ more) refl
    (e ∙ ap spaced (busy_words held more))) in
    absurd (texts_apart (codes "busy") (codes "ref") refl w.0)
returns-in_ok-did c (Note.At object number did) more fits e =
    let w = rw c.if-take.true at (c.take.ensures (head (object_words object))
    (tail (object_words object) ++ decimal number ∷ (did_words did ++ more)) (object_word object)
    (e ∙ ap spaced (at_first object number did more))) in
    absurd (not_ref object w.0)

pub returns-in_err-held : goal.returns-in_err-held
returns-in_err-held c (Note.Busy held) more fits e =
    let w = rw c.if-take.false
    at (c.take.ensures (codes "busy") (object_words held.object ++ decimal held.number ∷ more) refl
    (e ∙ ap spaced (busy_words held more))) in
    let v = rw c.if-take-2.true
    at (c.take-else-take.ensures (codes "busy") (object_words held.object ++ decimal held.number ∷ more) refl
    (w.1 ∙ e ∙ ap spaced (busy_words held more))) in
    let r0 = rw c.in_err-held.was at (c.busy.ensures held more fits v.1) in
    passed_on _ _ _ _ _ c.from_residual-in_err-held.ensures.1 r0
returns-in_err-held c (Note.Ref root did) more fits e =
    let w = rw c.if-take.false
    at (c.take.ensures (codes "ref") (dotted root.place root.generation ∷ (ref_words did ++ more)) refl e) in
    absurd (w.0 refl)
returns-in_err-held c (Note.At object number did) more fits e =
    let w = rw c.if-take.false at (c.take.ensures (head (object_words object))
    (tail (object_words object) ++ decimal number ∷ (did_words did ++ more)) (object_word object)
    (e ∙ ap spaced (at_first object number did more))) in
    let v = rw c.if-take-2.true at (c.take-else-take.ensures (head (object_words object))
    (tail (object_words object) ++ decimal number ∷ (did_words did ++ more)) (object_word object)
    (w.1 ∙ e ∙ ap spaced (at_first object number did more))) in
    absurd (not_busy object v.0)

pub returns-in_ok-held : goal.returns-in_ok-held
returns-in_ok-held c (Note.Busy held) more fits e =
    let w = rw c.if-take.false
    at (c.take.ensures (codes "busy") (object_words held.object ++ decimal held.number ∷ more) refl
    (e ∙ ap spaced (busy_words held more))) in
    let v = rw c.if-take-2.true
    at (c.take-else-take.ensures (codes "busy") (object_words held.object ++ decimal held.number ∷ more) refl
    (w.1 ∙ e ∙ ap spaced (busy_words held more))) in
    let r0 = rw c.in_ok-held.was at (c.busy.ensures held more fits v.1) in
    (λ k. Note.Busy (r0.0 k), r0.1)
returns-in_ok-held c (Note.Ref root did) more fits e =
    let w = rw c.if-take.false
    at (c.take.ensures (codes "ref") (dotted root.place root.generation ∷ (ref_words did ++ more)) refl e) in
    absurd (w.0 refl)
returns-in_ok-held c (Note.At object number did) more fits e =
    let w = rw c.if-take.false at (c.take.ensures (head (object_words object))
    (tail (object_words object) ++ decimal number ∷ (did_words did ++ more)) (object_word object)
    (e ∙ ap spaced (at_first object number did more))) in
    let v = rw c.if-take-2.true at (c.take-else-take.ensures (head (object_words object))
    (tail (object_words object) ++ decimal number ∷ (did_words did ++ more)) (object_word object)
    (w.1 ∙ e ∙ ap spaced (at_first object number did more))) in
    absurd (not_busy object v.0)

pub returns-else-take-2 : goal.returns-else-take-2
returns-else-take-2 c (Note.Ref root did) more fits e =
    let w = rw c.if-take.false
    at (c.take.ensures (codes "ref") (dotted root.place root.generation ∷ (ref_words did ++ more)) refl e) in
    absurd (w.0 refl)
returns-else-take-2 c (Note.Busy held) more fits e =
    let w = rw c.if-take.false
    at (c.take.ensures (codes "busy") (object_words held.object ++ decimal held.number ∷ more) refl
    (e ∙ ap spaced (busy_words held more))) in
    let v = rw c.if-take-2.false
    at (c.take-else-take.ensures (codes "busy") (object_words held.object ++ decimal held.number ∷ more) refl
    (w.1 ∙ e ∙ ap spaced (busy_words held more))) in
    absurd (v.0 refl)
returns-else-take-2 c (Note.At object number did) more fits e =
    let w = rw c.if-take.false at (c.take.ensures (head (object_words object))
    (tail (object_words object) ++ decimal number ∷ (did_words did ++ more)) (object_word object)
    (e ∙ ap spaced (at_first object number did more))) in
    let v = rw c.if-take-2.false at (c.take-else-take.ensures (head (object_words object))
    (tail (object_words object) ++ decimal number ∷ (did_words did ++ more)) (object_word object)
    (w.1 ∙ e ∙ ap spaced (at_first object number did more))) in
    c.step.ensures object number did more fits.0 fits.1 fits.2 fits.3
    (v.1 ∙ w.1 ∙ e ∙ ap spaced (at_words object number did more))
