use Rattle.std.proofs.Common.{◌≡◌, Ok, codes, sym, ap, ◌∙◌, ⊎_elim}
use Rattle.hex.specs.Hex.{decode_of}
use Rattle.pool_law.specs.Text.{shown_bytes}
use Rattle.run_text.proofs.WordLemmas.{is_word-bytes, dash-none, decode-shown, is_text, not_text, same_ok, not_err}
use Rattle.run_text.proofs.words.Words.bytes.Goals as goal

pub returns-then-eq : goal.returns-then-eq
returns-then-eq c = λ bytes more small e.
    let w = c.next-word.ensures (shown_bytes bytes) more (is_word-bytes bytes) e in
    let dash = is_text c.eq.result c.next-word.result.now (codes "-") c.eq.ensures c.if-eq.true in
    (c.of.ensures ∙ c.new.ensures.items ∙ sym (dash-none bytes (sym w.0 ∙ dash)), w.1)

pub returns-in-Ok : goal.returns-in-Ok
returns-in-Ok c = λ bytes more small e.
    let w = c.next-word.ensures (shown_bytes bytes) more (is_word-bytes bytes) e in
    let other = not_text c.eq.result c.next-word.result.now (codes "-") c.eq.ensures c.if-eq.false in
    let read : decode_of c.next-word.result.now ≡ Ok bytes =
    ap decode_of w.0 ∙ decode-shown bytes small (λ dash. other (w.0 ∙ dash)) in
    (c.of-in-Ok.ensures ∙ same_ok _ _ bytes c.in-Ok.ensures.ok read, w.1)

pub returns-in-Err : goal.returns-in-Err
returns-in-Err c = λ bytes more small e.
    let w = c.next-word.ensures (shown_bytes bytes) more (is_word-bytes bytes) e in
    let other = not_text c.eq.result c.next-word.result.now (codes "-") c.eq.ensures c.if-eq.false in
    let read : decode_of c.next-word.result.now ≡ Ok bytes =
    ap decode_of w.0 ∙ decode-shown bytes small (λ dash. other (w.0 ∙ dash)) in
    ⊎_elim c.undecoded.ensures (λ bad. absurd (not_err _ _ bytes bad read)) c.in-Err.ensures.err
