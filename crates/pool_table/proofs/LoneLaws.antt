-- A root with which one view is alone is known to no other, and no letter carries a view of it.
use Rattle.step_law.specs.Settings.{Setting}
use Rattle.std.proofs.Common.{◌≡◌, ℕ, ◌+◌, ◌<◌, ◌≤◌, List, [], ◌∷◌, arith}
use Rattle.std.specs.Prelude.{Option, All, sum_by}
use Rattle.std.proofs.lemmas.List.Elements.{All-cons, All-nil}
use Rattle.std.proofs.lemmas.List.Sums.{sum_by-cons, sum_by-le-sum_by}
use Rattle.atomic_table.specs.Table.{State}
use Rattle.step_law.proofs.Changes.{each_at, each_from, sum_at}
use Rattle.pool_law.specs.declared.id.RootId.{RootId}
use Rattle.pool_law.specs.declared.note.Did.{Did}
use Rattle.pool_law.specs.declared.note.Did.TheVariants.{Post}
use Rattle.pool_law.specs.declared.note.Noted.{Noted}
use Rattle.pool_law.specs.declared.note.Object.TheVariants.{Mail}
use Rattle.pool_law.specs.Kinds.{passing}
use Rattle.history_laws.specs.NoteCounts.{view_of_root, did_post_of}
use Rattle.pool_table.specs.declared.views.Entry.{Entry}
use Rattle.pool_table.specs.declared.views.Entry.TheVariants.{At, Ref, Busy}
use Rattle.pool_table.specs.declared.views.Layout.{Layout}
use Rattle.pool_table.specs.declared.views.Letter.{Letter}
use Rattle.pool_table.specs.declared.views.SeatView.{SeatView}
use Rattle.pool_table.specs.Counts.{weigh, posts, HasCount, HasToken}
use Rattle.pool_table.specs.Holders.{AreTwo}
use Rattle.pool_table.specs.Letters.{letter_in, letter_weight, sent_as, received_as}
use Rattle.pool_table.specs.Lone.{names, IsLone, NamesAlone, CarriesNone}
use Rattle.pool_table.specs.Sound.{IsSound}
use Rattle.pool_table.proofs.Lone.{weigh_le, none_posted, none_else, count_names, token_names}
use Rattle.pool_table.proofs.Mails.{lying}

-- a letter with a view of the root that an entry sends is one that it posts
pub post_weighs : (q : RootId) (e : Entry) → sent_as (λ (y : Letter). view_of_root q y.parcel.view) e ≤ posts q e
post_weighs q (At (Mail a b) k n) = by n.did
  where
    by : (d : Did) → letter_weight (λ (y : Letter). view_of_root q y.parcel.view)
        (letter_in (Mail a b) k (passing d)) ≤ did_post_of q d
    by (Post p) = omega arith
    by d = omega arith
post_weighs q (At o k n) = omega arith
post_weighs q (Ref t d) = omega arith
post_weighs q (Busy b) = omega arith

none_carried : (q : RootId) (xs : List Letter) → sum_by (λ (y : Letter). view_of_root q y.parcel.view) xs ≡ 0
    → All (λ (x : Letter). view_of_root q x.parcel.view ≡ 0) xs
none_carried q [] z = All-nil (λ (x : Letter). view_of_root q x.parcel.view ≡ 0)
none_carried q (x ∷ xs) z =
    let f : Letter → ℕ = λ (y : Letter). view_of_root q y.parcel.view in let c = sum_by-cons f x xs in
    All-cons (λ (x : Letter). view_of_root q x.parcel.view ≡ 0) x xs (omega (arith, c, z))
    (none_carried q xs (omega (arith, c, z)))

module _ {H : Type 0} (stands : List ℕ → Setting → List Noted → H → Type 0) (l : Layout)
    (s : State (Option H) SeatView) (r : IsSound stands l s) where
  pub unshared : (v u : SeatView) → AreTwo s v u → (q : RootId) → IsLone q v
      → (weigh (names q) u ≡ 0) × (HasCount q u → ⊥) × (HasToken q u → ⊥) × All (CarriesNone q) s.views
  unshared v u two q lone =
      let alone : NamesAlone s.views q v =
      each_at (λ (v : SeatView). (t : RootId) → IsLone t v → NamesAlone s.views t v) s.views two.first v r.lone
      two.at_first q lone in
      let none = none_else s.views two.first v q two.at_first lone alone two.second u two.apart two.at_second in
      let f : Letter → ℕ = λ (y : Letter). view_of_root q y.parcel.view in
      let le = sum_by-le-sum_by (weigh (sent_as f)) (weigh (posts q)) s.views
      (weigh_le (sent_as f) (posts q) (post_weighs q)) in
      let no_post = none_posted s.views two.first v q two.at_first lone alone in let kept = r.mailed.kept f in
      let sent : ℕ = sum_by (weigh (sent_as f)) s.views in let got : ℕ = sum_by (weigh (received_as f)) s.views in
      let there : ℕ = sum_by (lying f) s.views in let posted : ℕ = sum_by (weigh (posts q)) s.views in
      let le' : sent ≤ posted = le in let no_post' : posted ≡ 0 = no_post in let kept' : sent ≡ got + there = kept in
      let nu : ℕ = weigh (names q) u in let none' : nu ≡ 0 = none in (
        none,
        (λ has. let lt : 0 < nu = count_names q u has in omega (arith, lt, none')),
        (λ has. let lt : 0 < nu = token_names q u has in omega (arith, lt, none')),
        each_from (CarriesNone q) s.views
            (λ j x at. let here = sum_at (lying f) s.views j x at in let hx : ℕ = lying f x in
            let here' : hx ≤ there = here in
            none_carried q x.letters (let z : hx ≡ 0 = omega (arith, here', le', no_post', kept') in z)),
      )
