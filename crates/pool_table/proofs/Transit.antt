-- No root is fetched more often than it was posted, in all views together.
use Rattle.step_law.specs.Settings.{Setting}
use Rattle.std.proofs.Common.{◌≡◌, ◌⊎◌, ℕ, ◌+◌, ◌≤◌, List, [], ◌∷◌, ⊎_elim, arith}
use Rattle.std.specs.Prelude.{Option, All, sum_by}
use Rattle.std.proofs.lemmas.List.Elements.{All-head, All-tail}
use Rattle.std.proofs.lemmas.List.Sums.{sum_by-cons, sum_by-le-sum_by}
use Rattle.atomic_table.specs.Table.{State}
use Rattle.pool_law.specs.declared.run.Shape.{Shape}
use Rattle.pool_law.specs.declared.note.Did.{Did}
use Rattle.pool_law.specs.declared.note.Did.TheVariants.{Post, Fetch}
use Rattle.pool_law.specs.declared.note.Noted.{Noted}
use Rattle.pool_law.specs.declared.note.Object.{Object}
use Rattle.pool_law.specs.declared.note.Object.TheVariants.{Arena, Cache, Bin, Mail, Root}
use Rattle.pool_law.specs.Kinds.{passing}
use Rattle.history_laws.specs.NoteCounts.{did_fetch, did_post, parcel_weight}
use Rattle.pool_table.specs.declared.views.Entry.{Entry}
use Rattle.pool_table.specs.declared.views.Entry.TheVariants.{At, Ref, Busy}
use Rattle.pool_table.specs.declared.views.Layout.{Layout}
use Rattle.pool_table.specs.declared.views.Letter.{Letter}
use Rattle.pool_table.specs.declared.views.Part.{Part}
use Rattle.pool_table.specs.declared.views.SeatView.{SeatView}
use Rattle.pool_table.specs.Views.{parts_of}
use Rattle.pool_table.specs.Counts.{weigh, at_gain, at_loss}
use Rattle.pool_table.specs.Letters.{letter_weight, letter_in, letter_out, sent_as, received_as}
use Rattle.pool_table.specs.Sound.{IsSound, IsView, Stands}

-- where each element has it, a sum is no greater
sum_where : {X : Type 0} (P : X → Type 0) (f g : X → ℕ) → ((x : X) → P x → f x ≤ g x) → (xs : List X) → All P xs
    → sum_by f xs ≤ sum_by g xs
sum_where P f g le [] all = omega arith
sum_where P f g le (x ∷ xs) all =
    let a = sum_by-cons f x xs in let b = sum_by-cons g x xs in let c = le x (All-head P x xs all) in
    let d = sum_where P f g le xs (All-tail P x xs all) in omega (arith, a, b, c, d)

-- the views of a root in a letter
abbrev pub carries : ℕ → ℕ → Letter → ℕ
carries p g x = parcel_weight p g x.parcel

-- a letter that is sent was posted
sent_posted : (p g : ℕ) (e : Entry) → sent_as (carries p g) e ≤ at_loss p g e
sent_posted p g (At (Mail a b) k n) = by n.did
  where
    by : (d : Did) → letter_weight (carries p g) (letter_in (Mail a b) k (passing d)) ≤ did_post p g d
    by (Post q) = let w : ℕ = parcel_weight p g q in let g : w ≤ w = omega arith in g
    by d = omega arith
sent_posted p g (At o k n) = omega arith
sent_posted p g (Ref r d) = omega arith
sent_posted p g (Busy b) = omega arith

-- and what is fetched is a letter's
fetched_received : (p g : ℕ) (s : Shape) (lane : Option ℕ) (e : Entry) → Stands s lane e
    → at_gain p g e ≤ received_as (carries p g) e
fetched_received p g s lane (At o k n) t = by o (t.in_place.mailed p g)
  where
    at_mail : (a b : ℕ) (d : Did) → did_fetch p g d
        ≤ letter_weight (carries p g) (letter_out (Mail a b) k (passing d))
    at_mail a b (Fetch q) = let w : ℕ = parcel_weight p g q in let g : w ≤ w = omega arith in g
    at_mail a b d = omega arith

    by : (o : Object) → (did_fetch p g n.did + did_post p g n.did ≡ 0) ⊎ ((f : ℕ) × (t : ℕ) × (o ≡ Mail f t))
        → did_fetch p g n.did ≤ letter_weight (carries p g) (letter_out o k (passing n.did))
    by (Mail a b) mailed = at_mail a b n.did
    by (Arena a) mailed = ⊎_elim (λ (z : did_fetch p g n.did + did_post p g n.did ≡ 0). omega (arith, z))
        (λ (m : (f : ℕ) × (t : ℕ) × (Arena a ≡ Mail f t)). absurd (cc m.2)) mailed
    by (Cache d c) mailed = ⊎_elim (λ (z : did_fetch p g n.did + did_post p g n.did ≡ 0). omega (arith, z))
        (λ (m : (f : ℕ) × (t : ℕ) × (Cache d c ≡ Mail f t)). absurd (cc m.2)) mailed
    by (Bin b) mailed = ⊎_elim (λ (z : did_fetch p g n.did + did_post p g n.did ≡ 0). omega (arith, z))
        (λ (m : (f : ℕ) × (t : ℕ) × (Bin b ≡ Mail f t)). absurd (cc m.2)) mailed
    by (Root q) mailed = ⊎_elim (λ (z : did_fetch p g n.did + did_post p g n.did ≡ 0). omega (arith, z))
        (λ (m : (f : ℕ) × (t : ℕ) × (Root q ≡ Mail f t)). absurd (cc m.2)) mailed
fetched_received p g s lane (Ref r d) t = omega arith
fetched_received p g s lane (Busy b) t = omega arith

module _ {H : Type 0} (stands : List ℕ → Setting → List Noted → H → Type 0) (l : Layout) where
  pub transit : (s : State (Option H) SeatView) (r : IsSound stands l s) (p g : ℕ)
      → sum_by (weigh (at_gain p g)) s.views ≤ sum_by (weigh (at_loss p g)) s.views
  transit s r p g =
      let f : Letter → ℕ = carries p g in
      let came : sum_by (weigh (at_gain p g)) s.views ≤ sum_by (weigh (received_as f)) s.views =
      sum_where (IsView l.shape r.setting) (weigh (at_gain p g)) (weigh (received_as f))
      (λ v fine. sum_where (λ (q : Part). All (Stands l.shape q.number) q.notes)
      (λ (q : Part). sum_by (at_gain p g) q.notes) (λ (q : Part). sum_by (received_as f) q.notes)
      (λ q st. sum_where (Stands l.shape q.number) (at_gain p g) (received_as f) (fetched_received p g l.shape q.number)
      q.notes st) (parts_of v) fine.notes) s.views r.views in
      let went : sum_by (weigh (sent_as f)) s.views ≤ sum_by (weigh (at_loss p g)) s.views =
      sum_by-le-sum_by (weigh (sent_as f)) (weigh (at_loss p g)) s.views
      (λ v. sum_by-le-sum_by (λ (q : Part). sum_by (sent_as f) q.notes) (λ (q : Part). sum_by (at_loss p g) q.notes)
      (parts_of v) (λ q. sum_by-le-sum_by (sent_as f) (at_loss p g) q.notes (sent_posted p g))) in
      let k = r.mailed.kept f in omega (arith, came, went, k)
