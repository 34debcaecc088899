-- No part and no letter tells of more capacity of a root than the root has.
use Rattle.step_law.specs.Settings.{Setting}
use Rattle.std.proofs.Common.{◌≡◌, ℕ, ◌+◌, ◌<◌, ◌≤◌, List, [], ◌∷◌, ◌++◌, length, map, refl, sym, ◌∙◌, subst, arith, append_assoc, le_refl, Some}
use Rattle.std.specs.Prelude.{Option, All, sum_by}
use Rattle.std.proofs.lemmas.List.Elements.{All-cons, All-nil, All-weaker}
use mathlib.Core.Logic.{dite}
use native.Mathlib.Decide.{ℕ_discrete}
use Rattle.atomic_table.specs.Table.{State}
use Rattle.pool_law.specs.declared.note.Noted.{Noted}
use Rattle.pool_law.specs.declared.note.Object.TheVariants.{Root}
use Rattle.pool_law.specs.Capacities.{reach_of, known_of}
use Rattle.pool_law.specs.Homes.{IsObjectOf}
use Rattle.pool_law.specs.Roots.{Present, RootPlace}
use Rattle.history_laws.specs.Histories.{IsPlaceAfter}
use Rattle.pool_table.specs.declared.views.Layout.{Layout}
use Rattle.pool_table.specs.declared.views.Letter.{Letter}
use Rattle.pool_table.specs.declared.views.Part.{Part}
use Rattle.pool_table.specs.declared.views.SeatView.{SeatView}
use Rattle.pool_table.specs.LaneLogs.{law_entry}
use Rattle.pool_table.specs.Views.{parts_of}
use Rattle.pool_table.specs.Capacities.{TellsGiven, KnowsNoMore}
use Rattle.pool_table.specs.Sound.{IsSound}
use Rattle.pool_table.proofs.Capacities.{given_no_more}
use Rattle.pool_table.proofs.Lists.{at_cut}
use Rattle.pool_table.proofs.Mails.{lying}
use Rattle.pool_table.proofs.Posts.{is_letter, is_itself}
use Rattle.pool_table.proofs.Senders.{cut_weighs, sent_by_one}
use Rattle.pool_table.proofs.Tidings.{known_given}

-- what holds of whatever the list has at a cut holds of each
each_cut : {X : Type 0} (P : X → Type 0) (xs : List X)
    → ((before after : List X) (x : X) → xs ≡ before ++ x ∷ after → P x) → All P xs
each_cut {X} P xs holds = from [] xs refl
  where
    from : (early late : List X) → xs ≡ early ++ late → All P late
    from early [] is = All-nil P
    from early (x ∷ late) is =
        All-cons P x late (holds early late x is)
        (from (early ++ x ∷ []) late (is ∙ sym (append_assoc early (x ∷ []) late)))

module _ {H : Type 0} (stands : List ℕ → Setting → List Noted → H → Type 0) (l : Layout)
    (s : State (Option H) SeatView) (r : IsSound stands l s) (p : ℕ) (fits : IsObjectOf l.shape (Root p))
    (x : RootPlace) (q : Present) (after : IsPlaceAfter p (r.objects (Root p) fits).history x)
    (is : x.present ≡ Some q) where
  part_knows : (part : Part) → All (TellsGiven s.views) part.notes
      → known_of q.root (map law_entry part.notes) ≤ length q.bytes
  part_knows part tells =
      let n : ℕ = known_of q.root (map law_entry part.notes) in dite (ℕ_discrete n 0)
      (λ z. omega (arith, z))
      (λ ne. given_no_more stands l s r p fits x q n after is
      (known_given s.views q.root part.notes tells n (omega (arith, ne)) (le_refl n)))

  letter_reaches : (y : Letter) → 0 < sum_by (lying (is_letter y)) s.views
      → reach_of q.root y.parcel.view ≤ length q.bytes
  letter_reaches y has =
      let n : ℕ = reach_of q.root y.parcel.view in dite (ℕ_discrete n 0)
      (λ z. omega (arith, z))
      (λ ne. given_no_more stands l s r p fits x q n after is
      ((sent_by_one stands l s r y has).reaches q.root (omega (arith, ne))))

  pub knows_no_more : All (KnowsNoMore q.root (length q.bytes)) s.views
  knows_no_more = each_cut (KnowsNoMore q.root (length q.bytes)) s.views (λ before late v cut. record {
    parts =
        All-weaker (λ (part : Part). All (TellsGiven s.views) part.notes)
        (λ (part : Part). known_of q.root (map law_entry part.notes) ≤ length q.bytes) part_knows (parts_of v)
        (at_cut (λ (u : SeatView). All (λ (part : Part). All (TellsGiven s.views) part.notes) (parts_of u)) before
        late v
        (subst (λ (us : List SeatView). All (λ (u : SeatView).
        All (λ (part : Part). All (TellsGiven s.views) part.notes) (parts_of u)) us) cut r.known)).0;
    letters =
        each_cut (λ (y : Letter). reach_of q.root y.parcel.view ≤ length q.bytes) v.letters
        (λ early rest y lies.
        let one = is_itself y in
        let here : sum_by (is_letter y) early + is_letter y y ≤ sum_by (is_letter y) v.letters =
        subst (λ (ys : List Letter). sum_by (is_letter y) early + is_letter y y ≤ sum_by (is_letter y) ys) (sym lies)
        (cut_weighs (is_letter y) early rest y) in
        let all : sum_by (lying (is_letter y)) before + lying (is_letter y) v ≤ sum_by (lying (is_letter y)) s.views =
        subst (λ (us : List SeatView). sum_by (lying (is_letter y)) before + lying (is_letter y) v
        ≤ sum_by (lying (is_letter y)) us) (sym cut) (cut_weighs (lying (is_letter y)) before late v) in
        letter_reaches y (omega (arith, one, here, all)));
  })
