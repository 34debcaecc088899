use Rattle.std.proofs.Common.{◌∷◌, ◌∙◌, [], codes, decimal, refl}
use Rattle.pool_law.specs.declared.report.Access.{Access}
use Rattle.pool_law.specs.Text.{plus}
use Rattle.run_text.proofs.EndLemmas.{from_word, lane_low, lane_of, space_first}
use Rattle.run_text.proofs.LineLemmas.{refused_on}
use Rattle.run_text.proofs.WordLemmas.{misread, unread}
use Rattle.run_text.proofs.ends.access_of.Goals as goal

pub returns-in_err-lane : goal.returns-in_err-lane
returns-in_err-lane c access fits e =
    let a = c.next-empty.ensures [] (decimal (lane_of access) ∷ from_word access) refl
    (e ∙ space_first access) in
    let r0 = rw c.in_err-lane.was
    at (c.small.ensures (lane_of access) (from_word access) (lane_low access fits) a.1) in
    refused_on _ _ _ c.from_residual.ensures.1 r0

pub returns-then-eq : goal.returns-then-eq
returns-then-eq c (Access.Touch lane) fits e =
    let a = c.next-empty.ensures [] (decimal (lane_of (Access.Touch lane)) ∷ from_word (Access.Touch lane)) refl
    (e ∙ space_first (Access.Touch lane)) in
    let r0 = rw c.in_ok-lane.was
    at (c.small.ensures (lane_of (Access.Touch lane)) (from_word (Access.Touch lane))
    (lane_low (Access.Touch lane) fits) a.1) in
    λ k. Access.Touch (r0.0 k)
returns-then-eq c (Access.Set lane offset len) fits e =
    let a = c.next-empty.ensures [] (decimal (lane_of (Access.Set lane offset len)) ∷ from_word
    (Access.Set lane offset len)) refl
    (e ∙ space_first (Access.Set lane offset len)) in
    let r0 = rw c.in_ok-lane.was
    at (c.small.ensures (lane_of (Access.Set lane offset len)) (from_word (Access.Set lane offset len))
    (lane_low (Access.Set lane offset len) fits) a.1) in
    absurd (misread _ _ _ _ (codes "touch") (from_word (Access.Set lane offset len)) c.next-word.ensures
    c.eq.ensures c.if-eq.true r0.1
    refl refl)
returns-then-eq c (Access.Get lane offset len) fits e =
    let a = c.next-empty.ensures [] (decimal (lane_of (Access.Get lane offset len)) ∷ from_word
    (Access.Get lane offset len)) refl
    (e ∙ space_first (Access.Get lane offset len)) in
    let r0 = rw c.in_ok-lane.was
    at (c.small.ensures (lane_of (Access.Get lane offset len)) (from_word (Access.Get lane offset len))
    (lane_low (Access.Get lane offset len) fits) a.1) in
    absurd (misread _ _ _ _ (codes "touch") (from_word (Access.Get lane offset len)) c.next-word.ensures
    c.eq.ensures c.if-eq.true r0.1
    refl refl)

pub returns-in_err-offset : goal.returns-in_err-offset
returns-in_err-offset c (Access.Set lane offset len) fits e =
    let a = c.next-empty.ensures [] (decimal (lane_of (Access.Set lane offset len)) ∷ from_word
    (Access.Set lane offset len)) refl
    (e ∙ space_first (Access.Set lane offset len)) in
    let r0 = rw c.in_ok-lane.was
    at (c.small.ensures (lane_of (Access.Set lane offset len)) (from_word (Access.Set lane offset len))
    (lane_low (Access.Set lane offset len) fits) a.1) in
    let b = c.next-word.ensures (codes "set") (plus offset len ∷ []) refl r0.1 in
    let r1 = rw c.in_err-offset.was at (c.pair.ensures offset len [] fits.1 fits.2 b.1) in
    refused_on _ _ _ c.from_residual-in_err-offset.ensures.1 r1
returns-in_err-offset c (Access.Get lane offset len) fits e =
    let a = c.next-empty.ensures [] (decimal (lane_of (Access.Get lane offset len)) ∷ from_word
    (Access.Get lane offset len)) refl
    (e ∙ space_first (Access.Get lane offset len)) in
    let r0 = rw c.in_ok-lane.was
    at (c.small.ensures (lane_of (Access.Get lane offset len)) (from_word (Access.Get lane offset len))
    (lane_low (Access.Get lane offset len) fits) a.1) in
    let b = c.next-word.ensures (codes "get") (plus offset len ∷ []) refl r0.1 in
    let r1 = rw c.in_err-offset.was at (c.pair.ensures offset len [] fits.1 fits.2 b.1) in
    refused_on _ _ _ c.from_residual-in_err-offset.ensures.1 r1
returns-in_err-offset c (Access.Touch lane) fits e =
    let a = c.next-empty.ensures [] (decimal (lane_of (Access.Touch lane)) ∷ from_word (Access.Touch lane)) refl
    (e ∙ space_first (Access.Touch lane)) in
    let r0 = rw c.in_ok-lane.was
    at (c.small.ensures (lane_of (Access.Touch lane)) (from_word (Access.Touch lane))
    (lane_low (Access.Touch lane) fits) a.1) in
    absurd (unread _ _ _ _ (codes "touch") (from_word (Access.Touch lane)) c.next-word.ensures c.eq.ensures
    c.if-eq.false r0.1
    refl refl)

pub returns-then-eq-2 : goal.returns-then-eq-2
returns-then-eq-2 c (Access.Set lane offset len) fits e =
    let a = c.next-empty.ensures [] (decimal (lane_of (Access.Set lane offset len)) ∷ from_word
    (Access.Set lane offset len)) refl
    (e ∙ space_first (Access.Set lane offset len)) in
    let r0 = rw c.in_ok-lane.was
    at (c.small.ensures (lane_of (Access.Set lane offset len)) (from_word (Access.Set lane offset len))
    (lane_low (Access.Set lane offset len) fits) a.1) in
    let b = c.next-word.ensures (codes "set") (plus offset len ∷ []) refl r0.1 in
    let r1 = rw c.in_ok-offset.was at (c.pair.ensures offset len [] fits.1 fits.2 b.1) in
    λ k. Access.Set (r0.0 k) (r1.0 k).0 (r1.0 k).1
returns-then-eq-2 c (Access.Get lane offset len) fits e =
    let a = c.next-empty.ensures [] (decimal (lane_of (Access.Get lane offset len)) ∷ from_word
    (Access.Get lane offset len)) refl
    (e ∙ space_first (Access.Get lane offset len)) in
    let r0 = rw c.in_ok-lane.was
    at (c.small.ensures (lane_of (Access.Get lane offset len)) (from_word (Access.Get lane offset len))
    (lane_low (Access.Get lane offset len) fits) a.1) in
    absurd (misread _ _ _ _ (codes "set") (from_word (Access.Get lane offset len)) c.next-word.ensures
    c.eq-2.ensures c.if-eq-2.true r0.1
    refl refl)
returns-then-eq-2 c (Access.Touch lane) fits e =
    let a = c.next-empty.ensures [] (decimal (lane_of (Access.Touch lane)) ∷ from_word (Access.Touch lane)) refl
    (e ∙ space_first (Access.Touch lane)) in
    let r0 = rw c.in_ok-lane.was
    at (c.small.ensures (lane_of (Access.Touch lane)) (from_word (Access.Touch lane))
    (lane_low (Access.Touch lane) fits) a.1) in
    absurd (unread _ _ _ _ (codes "touch") (from_word (Access.Touch lane)) c.next-word.ensures c.eq.ensures
    c.if-eq.false r0.1
    refl refl)

pub returns-then-eq-3 : goal.returns-then-eq-3
returns-then-eq-3 c (Access.Get lane offset len) fits e =
    let a = c.next-empty.ensures [] (decimal (lane_of (Access.Get lane offset len)) ∷ from_word
    (Access.Get lane offset len)) refl
    (e ∙ space_first (Access.Get lane offset len)) in
    let r0 = rw c.in_ok-lane.was
    at (c.small.ensures (lane_of (Access.Get lane offset len)) (from_word (Access.Get lane offset len))
    (lane_low (Access.Get lane offset len) fits) a.1) in
    let b = c.next-word.ensures (codes "get") (plus offset len ∷ []) refl r0.1 in
    let r1 = rw c.in_ok-offset.was at (c.pair.ensures offset len [] fits.1 fits.2 b.1) in
    λ k. Access.Get (r0.0 k) (r1.0 k).0 (r1.0 k).1
returns-then-eq-3 c (Access.Set lane offset len) fits e =
    let a = c.next-empty.ensures [] (decimal (lane_of (Access.Set lane offset len)) ∷ from_word
    (Access.Set lane offset len)) refl
    (e ∙ space_first (Access.Set lane offset len)) in
    let r0 = rw c.in_ok-lane.was
    at (c.small.ensures (lane_of (Access.Set lane offset len)) (from_word (Access.Set lane offset len))
    (lane_low (Access.Set lane offset len) fits) a.1) in
    absurd (misread _ _ _ _ (codes "get") (from_word (Access.Set lane offset len)) c.next-word.ensures
    c.eq-else-eq-2.ensures c.if-eq-3.true r0.1
    refl refl)
returns-then-eq-3 c (Access.Touch lane) fits e =
    let a = c.next-empty.ensures [] (decimal (lane_of (Access.Touch lane)) ∷ from_word (Access.Touch lane)) refl
    (e ∙ space_first (Access.Touch lane)) in
    let r0 = rw c.in_ok-lane.was
    at (c.small.ensures (lane_of (Access.Touch lane)) (from_word (Access.Touch lane))
    (lane_low (Access.Touch lane) fits) a.1) in
    absurd (unread _ _ _ _ (codes "touch") (from_word (Access.Touch lane)) c.next-word.ensures c.eq.ensures
    c.if-eq.false r0.1
    refl refl)

pub returns-else-eq-3 : goal.returns-else-eq-3
returns-else-eq-3 c (Access.Set lane offset len) fits e =
    let a = c.next-empty.ensures [] (decimal (lane_of (Access.Set lane offset len)) ∷ from_word
    (Access.Set lane offset len)) refl
    (e ∙ space_first (Access.Set lane offset len)) in
    let r0 = rw c.in_ok-lane.was
    at (c.small.ensures (lane_of (Access.Set lane offset len)) (from_word (Access.Set lane offset len))
    (lane_low (Access.Set lane offset len) fits) a.1) in
    absurd (unread _ _ _ _ (codes "set") (from_word (Access.Set lane offset len)) c.next-word.ensures c.eq-2.ensures
    c.if-eq-2.false r0.1
    refl refl)
returns-else-eq-3 c (Access.Get lane offset len) fits e =
    let a = c.next-empty.ensures [] (decimal (lane_of (Access.Get lane offset len)) ∷ from_word
    (Access.Get lane offset len)) refl
    (e ∙ space_first (Access.Get lane offset len)) in
    let r0 = rw c.in_ok-lane.was
    at (c.small.ensures (lane_of (Access.Get lane offset len)) (from_word (Access.Get lane offset len))
    (lane_low (Access.Get lane offset len) fits) a.1) in
    absurd (unread _ _ _ _ (codes "get") (from_word (Access.Get lane offset len)) c.next-word.ensures
    c.eq-else-eq-2.ensures c.if-eq-3.false r0.1
    refl refl)
returns-else-eq-3 c (Access.Touch lane) fits e =
    let a = c.next-empty.ensures [] (decimal (lane_of (Access.Touch lane)) ∷ from_word (Access.Touch lane)) refl
    (e ∙ space_first (Access.Touch lane)) in
    let r0 = rw c.in_ok-lane.was
    at (c.small.ensures (lane_of (Access.Touch lane)) (from_word (Access.Touch lane))
    (lane_low (Access.Touch lane) fits) a.1) in
    absurd (unread _ _ _ _ (codes "touch") (from_word (Access.Touch lane)) c.next-word.ensures c.eq.ensures
    c.if-eq.false r0.1
    refl refl)
