use Rattle.std.proofs.Common.{◌≡◌, ℕ, ◌+◌, ◌++◌, suc, drop, sym, ap, ◌∙◌, append_assoc, arith}
use Rattle.frame_text.specs.Lines.{frame_lines, line_of}
use Rattle.frame_cut.proofs.TextLaws.{lines-from}
use Rattle.frame_cut.proofs.text.text_of.Goals as goal

pub loop-number-preserved : goal.loop-number-preserved
loop-number-preserved c frames tells =
    let l = c.loop-number in let n = l.number in let h = c.hash_at-hash.result.now in
    let next : suc n ≡ n + 1 = omega arith in
    let written = c.in_ok-write_frame.ensures ∙ ap (λ (k : ℕ). l.writer ++ line_of k h.len h.digest) c.from.ensures in
    l.invariant frames tells
    ∙ ap (λ r. l.writer ++ r) (lines-from n n frames h (c.hash_at-hash.ensures frames tells))
    ∙ sym (append_assoc l.writer (line_of n h.len h.digest) (frame_lines (n + 1) (drop (suc n) frames)))
    ∙ (λ i. sym written i ++ frame_lines (n + 1) (drop (next i) frames))
