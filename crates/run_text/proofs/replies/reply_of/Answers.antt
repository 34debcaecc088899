use Rattle.std.proofs.Common.{◌∷◌, ◌++◌, [], codes, decimal, refl, sym, ap}
use Rattle.pool_law.specs.declared.run.Reply.{Reply}
use Rattle.pool_law.specs.Text.{Text, reply_words, shown_bytes, shown_place}
use Rattle.run_text.proofs.ReplyLemmas.{refused_so}
use Rattle.run_text.proofs.WordLemmas.{misread, not_text, passed_on, unread}
use Rattle.run_text.proofs.replies.reply_of.Goals as goal

pub returns-then-eq : goal.returns-then-eq
returns-then-eq c Reply.Ok more fits e =
    c.done.ensures Reply.Ok [] more fits refl
    (c.next-word.ensures (codes "ok") ([] ++ more) refl e).1
returns-then-eq c (Reply.OkPlace size place) more fits e =
    c.done.ensures (Reply.OkPlace size place) (decimal size ∷ shown_place place ∷ []) more fits refl
    (c.next-word.ensures (codes "ok") ((decimal size ∷ shown_place place ∷ []) ++ more) refl e).1
returns-then-eq c (Reply.OkBytes bytes) more fits e =
    c.done.ensures (Reply.OkBytes bytes) (shown_bytes bytes ∷ []) more fits refl
    (c.next-word.ensures (codes "ok") ((shown_bytes bytes ∷ []) ++ more) refl e).1
returns-then-eq c (Reply.OkNumber k) more fits e =
    c.done.ensures (Reply.OkNumber k) (decimal k ∷ []) more fits refl
    (c.next-word.ensures (codes "ok") ((decimal k ∷ []) ++ more) refl e).1
returns-then-eq c reply more fits e =
    absurd (misread _ _ _ _ (codes "ok") (reply_words reply ++ more) c.next-word.ensures c.eq.ensures
    c.if-eq.true e refl refl)

pub returns-in_err-number : goal.returns-in_err-number
returns-in_err-number c (Reply.Busy number) more fits e =
    let w = c.next-word.ensures (codes "busy") (decimal number ∷ more) refl e in
    let r = rw c.in_err-number.was at (c.number.ensures number more fits w.1) in
    passed_on _ _ _ _ _ c.from_residual.ensures.1 r
returns-in_err-number c reply more fits e =
    absurd (misread _ _ _ _ (codes "busy") (reply_words reply ++ more) c.next-word.ensures c.eq-else-eq.ensures
    c.if-eq-2.true e refl refl)

pub returns-in_ok-number : goal.returns-in_ok-number
returns-in_ok-number c (Reply.Busy number) more fits e =
    let w = c.next-word.ensures (codes "busy") (decimal number ∷ more) refl e in
    let r = rw c.in_ok-number.was at (c.number.ensures number more fits w.1) in
    (λ k. Reply.Busy (r.0 k), r.1)
returns-in_ok-number c reply more fits e =
    absurd (misread _ _ _ _ (codes "busy") (reply_words reply ++ more) c.next-word.ensures c.eq-else-eq.ensures
    c.if-eq-2.true e refl refl)

pub returns-then-eq-3 : goal.returns-then-eq-3
returns-then-eq-3 c Reply.Kept more fits e = (refl, (c.next-word.ensures (codes "kept") more refl e).1)
returns-then-eq-3 c reply more fits e =
    absurd (misread _ _ _ _ (codes "kept") (reply_words reply ++ more) c.next-word.ensures c.eq-else-eq-2.ensures
    c.if-eq-3.true e refl refl)

pub returns-then-eq-4 : goal.returns-then-eq-4
returns-then-eq-4 c Reply.Freed more fits e = (refl, (c.next-word.ensures (codes "freed") more refl e).1)
returns-then-eq-4 c reply more fits e =
    absurd (misread _ _ _ _ (codes "freed") (reply_words reply ++ more) c.next-word.ensures c.eq-else-eq-3.ensures
    c.if-eq-4.true e refl refl)

pub returns-else-eq-4 : goal.returns-else-eq-4
returns-else-eq-4 c Reply.Unbound more fits e =
    let w = c.next-word.ensures (codes "unbound") more refl e in
    refused_so _ Reply.Unbound _ more (c.refusal.ensures Reply.Unbound (ap (λ (t : Text). t ∷ []) (sym w.0))
    (not_text _ _ _ c.eq.ensures c.if-eq.false) (not_text _ _ _ c.eq-else-eq-2.ensures c.if-eq-3.false)
    (not_text _ _ _ c.eq-else-eq-3.ensures c.if-eq-4.false)) w.1
returns-else-eq-4 c Reply.Taken more fits e =
    let w = c.next-word.ensures (codes "taken") more refl e in
    refused_so _ Reply.Taken _ more (c.refusal.ensures Reply.Taken (ap (λ (t : Text). t ∷ []) (sym w.0))
    (not_text _ _ _ c.eq.ensures c.if-eq.false) (not_text _ _ _ c.eq-else-eq-2.ensures c.if-eq-3.false)
    (not_text _ _ _ c.eq-else-eq-3.ensures c.if-eq-4.false)) w.1
returns-else-eq-4 c Reply.Illegal more fits e =
    let w = c.next-word.ensures (codes "illegal") more refl e in
    refused_so _ Reply.Illegal _ more (c.refusal.ensures Reply.Illegal (ap (λ (t : Text). t ∷ []) (sym w.0))
    (not_text _ _ _ c.eq.ensures c.if-eq.false) (not_text _ _ _ c.eq-else-eq-2.ensures c.if-eq-3.false)
    (not_text _ _ _ c.eq-else-eq-3.ensures c.if-eq-4.false)) w.1
returns-else-eq-4 c Reply.Range more fits e =
    let w = c.next-word.ensures (codes "range") more refl e in
    refused_so _ Reply.Range _ more (c.refusal.ensures Reply.Range (ap (λ (t : Text). t ∷ []) (sym w.0))
    (not_text _ _ _ c.eq.ensures c.if-eq.false) (not_text _ _ _ c.eq-else-eq-2.ensures c.if-eq-3.false)
    (not_text _ _ _ c.eq-else-eq-3.ensures c.if-eq-4.false)) w.1
returns-else-eq-4 c Reply.TooLarge more fits e =
    let w = c.next-word.ensures (codes "toolarge") more refl e in
    refused_so _ Reply.TooLarge _ more (c.refusal.ensures Reply.TooLarge (ap (λ (t : Text). t ∷ []) (sym w.0))
    (not_text _ _ _ c.eq.ensures c.if-eq.false) (not_text _ _ _ c.eq-else-eq-2.ensures c.if-eq-3.false)
    (not_text _ _ _ c.eq-else-eq-3.ensures c.if-eq-4.false)) w.1
returns-else-eq-4 c Reply.Handles more fits e =
    let w = c.next-word.ensures (codes "handles") more refl e in
    refused_so _ Reply.Handles _ more (c.refusal.ensures Reply.Handles (ap (λ (t : Text). t ∷ []) (sym w.0))
    (not_text _ _ _ c.eq.ensures c.if-eq.false) (not_text _ _ _ c.eq-else-eq-2.ensures c.if-eq-3.false)
    (not_text _ _ _ c.eq-else-eq-3.ensures c.if-eq-4.false)) w.1
returns-else-eq-4 c Reply.Full more fits e =
    let w = c.next-word.ensures (codes "full") more refl e in
    refused_so _ Reply.Full _ more (c.refusal.ensures Reply.Full (ap (λ (t : Text). t ∷ []) (sym w.0))
    (not_text _ _ _ c.eq.ensures c.if-eq.false) (not_text _ _ _ c.eq-else-eq-2.ensures c.if-eq-3.false)
    (not_text _ _ _ c.eq-else-eq-3.ensures c.if-eq-4.false)) w.1
returns-else-eq-4 c Reply.Nothing more fits e =
    let w = c.next-word.ensures (codes "nothing") more refl e in
    refused_so _ Reply.Nothing _ more (c.refusal.ensures Reply.Nothing (ap (λ (t : Text). t ∷ []) (sym w.0))
    (not_text _ _ _ c.eq.ensures c.if-eq.false) (not_text _ _ _ c.eq-else-eq-2.ensures c.if-eq-3.false)
    (not_text _ _ _ c.eq-else-eq-3.ensures c.if-eq-4.false)) w.1
returns-else-eq-4 c Reply.Composite more fits e =
    let w = c.next-word.ensures (codes "composite") more refl e in
    refused_so _ Reply.Composite _ more (c.refusal.ensures Reply.Composite (ap (λ (t : Text). t ∷ []) (sym w.0))
    (not_text _ _ _ c.eq.ensures c.if-eq.false) (not_text _ _ _ c.eq-else-eq-2.ensures c.if-eq-3.false)
    (not_text _ _ _ c.eq-else-eq-3.ensures c.if-eq-4.false)) w.1
returns-else-eq-4 c Reply.Plain more fits e =
    let w = c.next-word.ensures (codes "plain") more refl e in
    refused_so _ Reply.Plain _ more (c.refusal.ensures Reply.Plain (ap (λ (t : Text). t ∷ []) (sym w.0))
    (not_text _ _ _ c.eq.ensures c.if-eq.false) (not_text _ _ _ c.eq-else-eq-2.ensures c.if-eq-3.false)
    (not_text _ _ _ c.eq-else-eq-3.ensures c.if-eq-4.false)) w.1
returns-else-eq-4 c Reply.Stopped more fits e =
    let w = c.next-word.ensures (codes "stopped") more refl e in
    refused_so _ Reply.Stopped _ more (c.refusal.ensures Reply.Stopped (ap (λ (t : Text). t ∷ []) (sym w.0))
    (not_text _ _ _ c.eq.ensures c.if-eq.false) (not_text _ _ _ c.eq-else-eq-2.ensures c.if-eq-3.false)
    (not_text _ _ _ c.eq-else-eq-3.ensures c.if-eq-4.false)) w.1
returns-else-eq-4 c Reply.Ok more fits e =
    absurd (unread _ _ _ _ (codes "ok") (reply_words Reply.Ok ++ more) c.next-word.ensures
    c.eq.ensures c.if-eq.false e refl refl)
returns-else-eq-4 c (Reply.OkPlace size place) more fits e =
    absurd (unread _ _ _ _ (codes "ok") (reply_words (Reply.OkPlace size place) ++ more) c.next-word.ensures
    c.eq.ensures c.if-eq.false e refl refl)
returns-else-eq-4 c (Reply.OkBytes bytes) more fits e =
    absurd (unread _ _ _ _ (codes "ok") (reply_words (Reply.OkBytes bytes) ++ more) c.next-word.ensures
    c.eq.ensures c.if-eq.false e refl refl)
returns-else-eq-4 c (Reply.OkNumber k) more fits e =
    absurd (unread _ _ _ _ (codes "ok") (reply_words (Reply.OkNumber k) ++ more) c.next-word.ensures
    c.eq.ensures c.if-eq.false e refl refl)
returns-else-eq-4 c (Reply.Busy number) more fits e =
    absurd (unread _ _ _ _ (codes "busy") (reply_words (Reply.Busy number) ++ more) c.next-word.ensures
    c.eq-else-eq.ensures c.if-eq-2.false e refl refl)
returns-else-eq-4 c Reply.Kept more fits e =
    absurd (unread _ _ _ _ (codes "kept") (reply_words Reply.Kept ++ more) c.next-word.ensures
    c.eq-else-eq-2.ensures c.if-eq-3.false e refl refl)
returns-else-eq-4 c Reply.Freed more fits e =
    absurd (unread _ _ _ _ (codes "freed") (reply_words Reply.Freed ++ more) c.next-word.ensures
    c.eq-else-eq-3.ensures c.if-eq-4.false e refl refl)
