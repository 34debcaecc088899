-- A letter that lies in a view was sent: its post stands in some part.
use Rattle.step_law.specs.Settings.{Setting}
use Rattle.std.proofs.Common.{◌≡◌, ℕ, ◌+◌, ◌<◌, ◌≤◌, List, [], ◌∷◌, ◌++◌, sym, refl, ap, ◌∙◌, subst, arith}
use Rattle.std.specs.Prelude.{Option, Some, None, All, sum_by}
use Rattle.std.proofs.lemmas.List.Sums.{sum_by-cons}
use mathlib.Core.Logic.{dite}
use native.Mathlib.Decide.{ℕ_discrete}
use mathlib.Core.Option.{some}
use lib.ListN.{get_elem?}
use Rattle.atomic_table.specs.Table.{State}
use Rattle.step_law.proofs.Changes.{sum_at}
use Rattle.pool_law.specs.declared.id.RootId.{RootId}
use Rattle.pool_law.specs.declared.note.Object.TheVariants.{Mail}
use Rattle.pool_law.specs.declared.note.Noted.{Noted}
use Rattle.pool_law.specs.declared.note.Did.TheVariants.{Post}
use Rattle.pool_law.specs.Capacities.{reach_of}
use Rattle.std.proofs.Math.Nat.{le-max_right}
use Rattle.pool_table.specs.declared.views.Entry.{Entry}
use Rattle.pool_table.specs.declared.views.Entry.TheVariants.{At}
use Rattle.pool_table.specs.declared.views.Layout.{Layout}
use Rattle.pool_table.specs.declared.views.Letter.{Letter}
use Rattle.pool_table.specs.declared.views.Part.{Part}
use Rattle.pool_table.specs.declared.views.SeatView.{SeatView}
use Rattle.pool_table.specs.Views.{parts_of}
use Rattle.pool_table.specs.Counts.{weigh}
use Rattle.pool_table.specs.Births.{carried, root_named, IsBorn, NamesBorn}
use Rattle.pool_table.specs.Capacities.{WasGiven, posted_to, told_in, TellsGiven}
use Rattle.pool_table.specs.Letters.{letter_sent, letter_weight, sent_as, is_on_way, IsInTurn, fetch_of}
use Rattle.pool_table.specs.Sound.{IsKnown, IsSound, IsView, Stands}
use Rattle.pool_table.proofs.Lists.{at_cut}
use Rattle.pool_table.proofs.Posts.{is_letter, only_itself, told_sent, on_its_way}
use Rattle.pool_table.proofs.Mails.{lying}
use Rattle.pool_table.proofs.Tidings.{given_less}

-- where a list weighs something, some element does
pub record Weighs {X : Type 0} (f : X → ℕ) (xs : List X) : Type 0 where
  pub before : List X
  pub element : X
  pub after : List X
  pub cut : xs ≡ before ++ element ∷ after
  pub weighs : 0 < f element

pub weighing : {X : Type 0} (f : X → ℕ) (xs : List X) → 0 < sum_by f xs → Weighs f xs
weighing f [] lt = absurd (omega (arith, lt))
weighing {X} f (x ∷ xs) lt = let c = sum_by-cons f x xs in
    dite (ℕ_discrete (f x) 0)
    (λ z. let w = weighing f xs (omega (arith, c, z, lt)) in record {
      before = x ∷ w.before;
      element = w.element;
      after = w.after;
      cut = ap (λ (l : List X). x ∷ l) w.cut;
      weighs = w.weighs;
    })
    (λ ne. record { before = []; element = x; after = xs; cut = refl; weighs = omega (arith, ne) })

-- what stands before an element of a list, and the element, weigh no more than the list
pub cut_weighs : {X : Type 0} (g : X → ℕ) (before after : List X) (x : X)
    → sum_by g before + g x ≤ sum_by g (before ++ x ∷ after)
cut_weighs g [] after x = let c = sum_by-cons g x after in omega (arith, c)
cut_weighs g (b ∷ bs) after x =
    let c = sum_by-cons g b bs in let d = sum_by-cons g b (bs ++ x ∷ after) in let e = cut_weighs g bs after x in
    omega (arith, c, d, e)

-- what is known of a letter that was sent
pub record WasSent (l : Layout) (views : List SeatView) (x : Letter) : Type 0 where
  pub from : x.from < l.shape.lanes
  pub to : x.to < l.shape.lanes
  -- its number is within those of its way
  pub within : x.number ≤ sum_by (weigh (sent_as (is_on_way x.from x.to))) views
  -- the root that it carries was born
  pub born : (r : RootId) → root_named (fetch_of x) ≡ Some r → IsBorn views r
  -- and given the capacity that its view reaches up to
  pub reaches : (r : RootId) → 0 < reach_of r x.parcel.view → WasGiven views r (reach_of r x.parcel.view)

module _ {H : Type 0} (stands : List ℕ → Setting → List Noted → H → Type 0) (l : Layout)
    (s : State (Option H) SeatView) (r : IsSound stands l s) where
  module _ (x : Letter) where
    entry_tells : (q : Part) (e : Entry) (before after : List Entry) → q.notes ≡ before ++ e ∷ after → IsInTurn q
        → Stands l.shape q.number e → NamesBorn s.views e → TellsGiven s.views e → letter_sent e ≡ Some x
        → sum_by (sent_as (is_on_way x.from x.to)) q.notes ≤ sum_by (weigh (sent_as (is_on_way x.from x.to))) s.views
        → WasSent l s.views x
    entry_tells q e before after cut turn st born tells is le =
        let t = told_sent e x is in
        let known : IsKnown l.shape (Mail x.from x.to) = (subst (Stands l.shape q.number) t.1 st).object in
        let f : Entry → ℕ = sent_as (is_on_way x.from x.to) in
        let number = turn.sent before after e x cut is in
        let one : f e ≡ 1 = ap (letter_weight (is_on_way x.from x.to)) is ∙ on_its_way x in
        let low : sum_by f before + f e ≤ sum_by f q.notes =
        subst (λ (es : List Entry). sum_by f before + f e ≤ sum_by f es) (sym cut) (cut_weighs f before after e) in
        record {
          from = known.0;
          to = known.1;
          within = omega (arith, number, one, low, le);
          born = λ r names. born r (ap root_named t.1 ∙ (ap carried t.2 ∙ names));
          reaches =
              λ r lt. posted r t.0 t.2 (subst (TellsGiven s.views) t.1 tells) lt;
        }
      where
        -- a post tells what its view reaches up to
        posted : (r : RootId) (n : Noted) → n.did ≡ Post x.parcel
            → TellsGiven s.views (At (Mail x.from x.to) x.number n) → 0 < reach_of r x.parcel.view
            → WasGiven s.views r (reach_of r x.parcel.view)
        posted r n did tells lt =
            let c : ℕ = reach_of r x.parcel.view in
            let low : c ≤ told_in r (At (Mail x.from x.to) x.number n) =
            subst (λ (k : ℕ). k ≤ told_in r (At (Mail x.from x.to) x.number n)) (ap (posted_to r) did)
            (le-max_right _ _) in
            given_less s.views r (told_in r (At (Mail x.from x.to) x.number n)) c low (tells r (omega (arith, low, lt)))

    part_tells : (v : SeatView) → IsView l.shape r.setting v → All IsInTurn (parts_of v)
        → All (λ (q : Part). All (NamesBorn s.views) q.notes) (parts_of v)
        → All (λ (q : Part). All (TellsGiven s.views) q.notes) (parts_of v)
        → weigh (sent_as (is_on_way x.from x.to)) v ≤ sum_by (weigh (sent_as (is_on_way x.from x.to))) s.views
        → 0 < weigh (sent_as (is_letter x)) v → WasSent l s.views x
    part_tells v fine turn born known le lt =
        let f : Entry → ℕ = sent_as (is_on_way x.from x.to) in let g : Entry → ℕ = sent_as (is_letter x) in
        let p = weighing (λ (q : Part). sum_by g q.notes) (parts_of v) lt in
        let q : Part = p.element in let n = weighing g q.notes p.weighs in let e : Entry = n.element in
        let here : (P : Part → Type 0) → All P (parts_of v) → P q = (λ P all.
        (at_cut P p.before p.after q (subst (λ (ps : List Part). All P ps) p.cut all)).0) in
        let there : (P : Entry → Type 0) → All P q.notes → P e = (λ P all.
        (at_cut P n.before n.after e (subst (λ (es : List Entry). All P es) n.cut all)).0) in
        let low : sum_by (λ (q : Part). sum_by f q.notes) p.before + sum_by f q.notes
        ≤ sum_by (λ (q : Part). sum_by f q.notes) (parts_of v) =
        subst (λ (ps : List Part). sum_by (λ (q : Part). sum_by f q.notes) p.before + sum_by f q.notes
        ≤ sum_by (λ (q : Part). sum_by f q.notes) ps) (sym p.cut)
        (cut_weighs (λ (q : Part). sum_by f q.notes) p.before p.after q) in
        entry_tells q e n.before n.after n.cut (here IsInTurn turn)
        (there (Stands l.shape q.number) (here (λ (q : Part). All (Stands l.shape q.number) q.notes) fine.notes))
        (there (NamesBorn s.views) (here (λ (q : Part). All (NamesBorn s.views) q.notes) born))
        (there (TellsGiven s.views) (here (λ (q : Part). All (TellsGiven s.views) q.notes) known))
        (by e (letter_sent e) refl n.weighs) (omega (arith, low, le))
      where
        by : (e : Entry) (o : Option Letter) → letter_sent e ≡ o → 0 < letter_weight (is_letter x) o
            → letter_sent e ≡ Some x
        by e None is lt = absurd (omega (arith, lt))
        by e (Some y) is lt = is ∙ ap Some (sym (only_itself x y lt))

  -- a letter that some view has was sent
  pub sent_by_one : (x : Letter) → 0 < sum_by (lying (is_letter x)) s.views → WasSent l s.views x
  sent_by_one x has =
      let f : Entry → ℕ = sent_as (is_on_way x.from x.to) in let g : Entry → ℕ = sent_as (is_letter x) in
      let k = r.mailed.kept (is_letter x) in
      let lt : 0 < sum_by (weigh g) s.views = omega (arith, k, has) in
      let p = weighing (weigh g) s.views lt in let v : SeatView = p.element in
      let here : (P : SeatView → Type 0) → All P s.views → P v = (λ P all.
      (at_cut P p.before p.after v (subst (λ (vs : List SeatView). All P vs) p.cut all)).0) in
      let low : sum_by (weigh f) p.before + weigh f v ≤ sum_by (weigh f) s.views =
      subst (λ (vs : List SeatView). sum_by (weigh f) p.before + weigh f v ≤ sum_by (weigh f) vs) (sym p.cut)
      (cut_weighs (weigh f) p.before p.after v) in
      part_tells x v (here (IsView l.shape r.setting) r.views)
      (here (λ (v : SeatView). All IsInTurn (parts_of v)) r.mailed.in_turn)
      (here (λ (v : SeatView). All (λ (q : Part). All (NamesBorn s.views) q.notes) (parts_of v)) r.born)
      (here (λ (v : SeatView). All (λ (q : Part). All (TellsGiven s.views) q.notes) (parts_of v)) r.known)
      (omega (arith, low)) p.weighs

  -- so was one that this view has
  pub was_sent : (id : ℕ) (u : SeatView) (x : Letter) → get_elem? s.views id ≡ some u → 0 < lying (is_letter x) u
      → WasSent l s.views x
  was_sent id u x at has =
      let a = sum_at (lying (is_letter x)) s.views id u at in sent_by_one x (omega (arith, a, has))
