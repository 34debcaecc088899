use Rattle.std.proofs.Common.{◌∷◌, ◌++◌, ◌∙◌, refl, sym, ap, List}
use Rattle.pool_law.specs.declared.run.Reply.{Reply}
use Rattle.pool_law.specs.Text.{Text, reply_words, shown_place, spaced}
use Rattle.run_text.proofs.ReplyLemmas.{behind_ok, not_bare, not_bytes, not_number, other_first, tale_is}
use Rattle.run_text.proofs.WordLemmas.{passed_on}
use Rattle.run_text.proofs.replies.done.Goals as goal

pub returns-in_err-size-in-Alloc : goal.returns-in_err-size-in-Alloc
returns-in_err-size-in-Alloc c (Reply.OkPlace size place) told more fits is e =
    let here = e ∙ ap (λ (t : List Text). spaced (t ++ more)) (sym (behind_ok _ told is)) in
    let r0 = rw c.in_err-size-in-Alloc.was
    at (c.small.ensures size (shown_place place ∷ more) fits.2 here) in
    passed_on _ _ _ _ _ c.from_residual.ensures.1 r0
returns-in_err-size-in-Alloc c Reply.Ok told more fits is e = absurd (not_bare (tale_is _ _ _ _ c.in-Alloc.is fits))
returns-in_err-size-in-Alloc c (Reply.OkBytes bytes) told more fits is e =
    absurd (not_bytes (tale_is _ _ _ _ c.in-Alloc.is fits.0))
returns-in_err-size-in-Alloc c (Reply.OkNumber k) told more fits is e = absurd
    (not_number (tale_is _ _ _ _ c.in-Alloc.is fits.0))
returns-in_err-size-in-Alloc c reply told more fits is e = absurd (other_first (reply_words reply) told is refl)

pub returns-in_err-place-in-Alloc : goal.returns-in_err-place-in-Alloc
returns-in_err-place-in-Alloc c (Reply.OkPlace size place) told more fits is e =
    let here = e ∙ ap (λ (t : List Text). spaced (t ++ more)) (sym (behind_ok _ told is)) in
    let r0 = rw c.in_ok-size-in-Alloc.was at (c.small.ensures size (shown_place place ∷ more) fits.2 here) in
    let r1 = rw c.in_err-place-in-Alloc.was
    at (c.place.ensures place more (fits.1 ∙ sym r0.0) fits.3.0 fits.3.1 fits.3.2 r0.1) in
    passed_on _ _ _ _ _ c.from_residual-in_err-place-in-Alloc.ensures.1 r1
returns-in_err-place-in-Alloc c Reply.Ok told more fits is e = absurd (not_bare (tale_is _ _ _ _ c.in-Alloc.is fits))
returns-in_err-place-in-Alloc c (Reply.OkBytes bytes) told more fits is e =
    absurd (not_bytes (tale_is _ _ _ _ c.in-Alloc.is fits.0))
returns-in_err-place-in-Alloc c (Reply.OkNumber k) told more fits is e = absurd
    (not_number (tale_is _ _ _ _ c.in-Alloc.is fits.0))
returns-in_err-place-in-Alloc c reply told more fits is e = absurd (other_first (reply_words reply) told is refl)

pub returns-in_ok-place-in-Alloc : goal.returns-in_ok-place-in-Alloc
returns-in_ok-place-in-Alloc c (Reply.OkPlace size place) told more fits is e =
    let here = e ∙ ap (λ (t : List Text). spaced (t ++ more)) (sym (behind_ok _ told is)) in
    let r0 = rw c.in_ok-size-in-Alloc.was at (c.small.ensures size (shown_place place ∷ more) fits.2 here) in
    let r1 = rw c.in_ok-place-in-Alloc.was
    at (c.place.ensures place more (fits.1 ∙ sym r0.0) fits.3.0 fits.3.1 fits.3.2 r0.1) in
    (λ k. Reply.OkPlace (r0.0 k) (r1.0 k), r1.1)
returns-in_ok-place-in-Alloc c Reply.Ok told more fits is e = absurd (not_bare (tale_is _ _ _ _ c.in-Alloc.is fits))
returns-in_ok-place-in-Alloc c (Reply.OkBytes bytes) told more fits is e =
    absurd (not_bytes (tale_is _ _ _ _ c.in-Alloc.is fits.0))
returns-in_ok-place-in-Alloc c (Reply.OkNumber k) told more fits is e = absurd
    (not_number (tale_is _ _ _ _ c.in-Alloc.is fits.0))
returns-in_ok-place-in-Alloc c reply told more fits is e = absurd (other_first (reply_words reply) told is refl)
