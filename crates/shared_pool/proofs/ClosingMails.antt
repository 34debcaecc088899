-- At the close each mail holds between the logs of its two lanes.
use Rattle.step_law.specs.Settings.{Setting}
use Rattle.step_law.proofs.Changes.{element_at}
use Rattle.std.proofs.Common.{◌≡◌, ℕ, suc, ◌+◌, ◌<◌, ◌≤◌, List, [], ◌∷◌, length, cond, sym, refl, ap, ◌∙◌, subst, arith, ⊎_elim, eq-eqb, ne_eqb, Bool, Some}
use Rattle.std.specs.Prelude.{◌==◌, Option, count_by, slice_get, take}
use Rattle.std.proofs.lemmas.Option.{slice_get_within}
use Rattle.std.proofs.lemmas.List.Sums.{sum_by-cons}
use mathlib.Core.Logic.{dite}
use native.Mathlib.Decide.{ℕ_discrete}
use Rattle.pool_law.specs.declared.id.Parcel.{Parcel}
use Rattle.pool_law.specs.declared.note.Note.{Note}
use Rattle.pool_law.specs.declared.note.Noted.{Noted}
use Rattle.pool_law.specs.declared.note.Object.TheVariants.{Mail}
use Rattle.pool_law.specs.Logs.{of_lane}
use Rattle.pool_law.specs.Mails.{posted, fetched, MailHolds, MailsHold}
use Rattle.pool_table.specs.declared.views.Entry.{Entry}
use Rattle.pool_table.specs.declared.views.Entry.TheVariants.{At, Ref, Busy}
use Rattle.pool_table.specs.declared.views.Layout.{Layout}
use Rattle.pool_table.specs.declared.views.Part.{Part}
use Rattle.pool_table.specs.declared.views.SeatView.{SeatView}
use Rattle.pool_table.specs.Views.{parts_of, is_lane}
use Rattle.pool_table.specs.Closed.{HasAllLanes, IsClosed}
use Rattle.pool_table.proofs.MailLogs.{law_note, notes_of, mail_holds, none_from_beyond, posts_numbered}
use Rattle.shared_pool.specs.Closing.{AreLanes, note_of, logs_in}
use Rattle.shared_pool.proofs.ClosingHistories.{notes_in}
use Rattle.shared_pool.proofs.ClosingWhole.{there_or, log_at, log_past}

-- one part for each number
once_from : (ps : List Part) (j m : ℕ) → ((k : ℕ) (p : Part) → slice_get ps k ≡ Some p → p.number ≡ Some (j + k)) →
    (j ≤ m → m < j + length ps → count_by (λ (p : Part). is_lane m p.number) ps ≡ 1)
    × ((m < j) → count_by (λ (p : Part). is_lane m p.number) ps ≡ 0)
once_from [] j m each = ((λ le lt. absurd (omega (arith, le, lt))), λ lt. refl)
once_from (p ∷ ps) j m each =
    let first : p.number ≡ Some j = each 0 p refl ∙ ap (λ (x : ℕ). Some x) (omega arith) in
    let rest = once_from ps (j + 1) m (λ k q is. each (suc k) q is ∙ ap (λ (x : ℕ). Some x) (omega arith)) in
    let count = sum_by-cons (λ (q : Part). cond {A = ℕ} (is_lane m q.number) 1 0) p ps in
    let here : is_lane m p.number ≡ (j == m) = ap (is_lane m) first in
    let n : ℕ = length ps in
    dite (ℕ_discrete j m)
    (λ e. let one : cond {A = ℕ} (is_lane m p.number) 1 0
    ≡ 1 = ap (λ (b : Bool). cond {A = ℕ} b 1 0) (here ∙ eq-eqb j m e) in
    let none = rest.1 (omega (arith, e)) in
    ((λ le lt. omega (arith, count, one, none)), λ lt. absurd (omega (arith, e, lt))))
    (λ ne. let zero_here : cond {A = ℕ} (is_lane m p.number) 1 0
    ≡ 0 = ap (λ (b : Bool). cond {A = ℕ} b 1 0) (here ∙ ne_eqb j m ne) in (
      (λ le lt. let lt' : m < j + suc n = lt in let one = rest.0 (omega (arith, le, ne)) (omega (arith, lt')) in
          omega (arith, count, zero_here, one)),
      λ lt. let none = rest.1 (omega (arith, lt)) in omega (arith, count, zero_here, none),
    ))

pub lanes_all : (l : Layout) (v : SeatView) → AreLanes l.shape (parts_of v) → HasAllLanes l v
lanes_all l v lanes m lt =
    let once = once_from (parts_of v) 0 m (λ k p is. lanes.numbers k p is ∙ ap (λ (x : ℕ). Some x) (omega arith)) in
    let wide = lanes.many in once.0 (omega arith) (omega (arith, lt, wide))

-- the table's list of notes is the law's
notes_same : (es : List Entry) → notes_of es ≡ notes_in es
notes_same [] = refl
notes_same (e ∷ es) = let a = here e in let b = notes_same es in λ i. a i ∷ b i
  where
    here : (e : Entry) → law_note e ≡ note_of e
    here (At o k n) = refl
    here (Ref r d) = refl
    here (Busy b) = refl

-- the posts of these notes are numbered from 1
abbrev AreNumbered : ℕ → ℕ → List Note → Type 0
AreNumbered a b sent =
    (k : ℕ) (post : ℕ × Parcel) → slice_get (posted (Mail a b) sent) k ≡ Some post → post.0 ≡ k + 1

-- a mail from which nothing was fetched holds
none_fetched : (a b : ℕ) (sent received : List Note) → AreNumbered a b sent → fetched (Mail a b) received ≡ []
    → MailHolds (Mail a b) sent received
none_fetched a b sent received numbered none = record {
  numbered = numbered;
  in_order =
      subst (λ (xs : List (ℕ × Parcel)). xs ≡ take (length xs) (posted (Mail a b) sent)) (sym none) refl;
}

module _ {H : Type 0} (stands : List ℕ → Setting → List Noted → H → Type 0) (l : Layout) (v : SeatView)
    (homes : List (Option H)) (words : List ℕ)
    (closed : IsClosed stands l v homes words) (lanes : AreLanes l.shape (parts_of v)) where
  all_lanes : HasAllLanes l v
  all_lanes = lanes_all l v lanes

  abbrev log : ℕ → List Note
  log lane = of_lane (logs_in (parts_of v)) lane

  log_is : (lane : ℕ) (p : Part) → slice_get (parts_of v) lane ≡ Some p → notes_of p.notes ≡ log lane
  log_is lane p is = notes_same p.notes ∙ sym (log_at (parts_of v) lane p is)

  -- the posts of a lane are numbered
  numbered : (a b : ℕ) → AreNumbered a b (log a)
  numbered a b = ⊎_elim
      (λ (q : (q : Part) × (slice_get (parts_of v) a ≡ Some q)). subst (AreNumbered a b) (log_is a q.0 q.1)
      (posts_numbered stands l v homes words closed all_lanes a b a q.0 (element_at (parts_of v) a q.0 q.1)))
      (λ (past : length (parts_of v) ≤ a). subst (AreNumbered a b) (sym (log_past (parts_of v) a past))
      (λ k post is. absurd (cc is)))
      (there_or (parts_of v) a)

  -- from what lane there isn't nothing was fetched
  none_beyond : (a b : ℕ) → length (parts_of v) ≤ a → fetched (Mail a b) (log b) ≡ []
  none_beyond a b past = ⊎_elim
      (λ (p : (p : Part) × (slice_get (parts_of v) b ≡ Some p)).
      subst (λ (ns : List Note). fetched (Mail a b) ns ≡ []) (log_is b p.0 p.1)
      (none_from_beyond stands l v homes words closed all_lanes a b b p.0 (element_at (parts_of v) b p.0 p.1)
      (let wide = lanes.many in let n : ℕ = length (parts_of v) in let past' : n ≤ a = past in
      let wide' : n ≡ l.shape.lanes = wide in omega (arith, past', wide'))))
      (λ (past : length (parts_of v) ≤ b). ap (λ (ns : List Note). fetched (Mail a b) ns)
      (log_past (parts_of v) b past))
      (there_or (parts_of v) b)

  pub mails_hold : MailsHold (logs_in (parts_of v))
  mails_hold a b = ⊎_elim
      (λ (q : (q : Part) × (slice_get (parts_of v) a ≡ Some q)). ⊎_elim
      (λ (p : (p : Part) × (slice_get (parts_of v) b ≡ Some p)).
      let lt : a < l.shape.lanes = subst (λ (n : ℕ). a < n) lanes.many (slice_get_within (parts_of v) a q.0 q.1) in
      let sent = log_is a q.0 q.1 in let received = log_is b p.0 p.1 in
      subst (λ (x : List Note × List Note). MailHolds (Mail a b) x.0 x.1) (λ i. (sent i, received i))
      (mail_holds stands l v homes words closed all_lanes a b a b q.0 p.0 lt (element_at (parts_of v) a q.0 q.1)
      (element_at (parts_of v) b p.0 p.1) (lanes.numbers a q.0 q.1)))
      (λ (past : length (parts_of v) ≤ b). none_fetched a b (log a) (log b) (numbered a b)
      (ap (λ (ns : List Note). fetched (Mail a b) ns) (log_past (parts_of v) b past)))
      (there_or (parts_of v) b))
      (λ (past : length (parts_of v) ≤ a).
      none_fetched a b (log a) (log b) (numbered a b) (none_beyond a b past))
      (there_or (parts_of v) a)
