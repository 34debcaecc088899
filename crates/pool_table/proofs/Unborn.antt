-- A root whose birth none noted is named by none.
use Rattle.step_law.specs.Settings.{Setting}
use Rattle.std.proofs.Common.{◌≡◌, ℕ, ◌+◌, ◌<◌, ◌≤◌, Bool, true, false, cond, eqb, List, [], ◌∷◌, replicate, sym, refl, ap, ◌∙◌, inr, arith, Some, None}
use Rattle.std.specs.Prelude.{◌&&◌, Option, sum_by}
use Rattle.std.proofs.lemmas.List.Sums.{sum_by-cons, sum_by-le-sum_by}
use mathlib.Core.Logic.{dite}
use native.Mathlib.Decide.{ℕ_discrete}
use mathlib.Core.Option.{some}
use lib.ListN.{get_elem?}
use Rattle.atomic_table.specs.Table.{State}
use Rattle.step_law.proofs.Changes.{each_from, sum_at, sum_none}
use Rattle.pool_law.specs.declared.run.Shape.{Shape}
use Rattle.pool_law.specs.declared.id.RootId.{RootId}
use Rattle.pool_law.specs.declared.note.Did.{Did}
use Rattle.pool_law.specs.declared.note.Did.TheVariants.{Post, Fetch, Birth, End}
use Rattle.pool_law.specs.declared.note.Noted.{Noted}
use Rattle.pool_law.specs.declared.note.Object.TheVariants.{Root}
use Rattle.pool_law.specs.Homes.{IsObjectOf}
use Rattle.pool_law.specs.Same.{same_root}
use Rattle.pool_law.specs.Counts.{root_is}
use Rattle.pool_law.specs.Kinds.{beside}
use Rattle.pool_law.specs.Roots.{RootPlace, Present, new_place, born}
use Rattle.history_laws.specs.Histories.{IsLawful, IsPlaceAfter}
use Rattle.history_laws.specs.NoteCounts.{one_if_so, is_root, did_birth_of, did_birth_as, did_end_of, did_post_of, did_fetch_of}
use Rattle.history_laws.proofs.Roots.{place_born, of_birth, its_birth}
use Rattle.history_laws.proofs.Runs.{Runs}
use Rattle.history_laws.proofs.Told.{place_there}
use Rattle.pool_table.specs.declared.views.Entry.{Entry}
use Rattle.pool_table.specs.declared.views.Entry.TheVariants.{At, Ref, Busy}
use Rattle.pool_table.specs.declared.views.Layout.{Layout}
use Rattle.pool_table.specs.declared.views.Part.{Part}
use Rattle.pool_table.specs.declared.views.SeatView.{SeatView}
use Rattle.pool_table.specs.Views.{parts_of, noted_weight}
use Rattle.pool_table.specs.Births.{carried, root_named}
use Rattle.pool_table.specs.Counts.{weigh}
use Rattle.pool_table.specs.Hands.{at_birth_of, at_birth_as}
use Rattle.pool_table.specs.Lone.{births, names}
use Rattle.pool_table.specs.Sound.{IsSound}
use Rattle.pool_table.proofs.Capacities.{told_root}
use Rattle.pool_table.proofs.Exact.{root_notes, some_named}
use Rattle.pool_table.proofs.GiftSteps.{Born, Stayed, Ended, Stepped, one_present, Step, run}
use Rattle.pool_table.proofs.Known.{root_beside-is}
use Rattle.pool_table.proofs.Ledgers.{sum_add}
use Rattle.pool_table.proofs.LoneBytes.{access, among_accesses}
use Rattle.pool_table.proofs.Lone.{own_le, weigh_le}
use Rattle.pool_table.proofs.RegionNotes.{object_notes}
use Rattle.pool_table.proofs.RootEntries.{as_birth, named_this, view_names}

-- ---- What a note says of a root.

-- a birth as this root is one of its place and generation
pub as_of : (p g c : ℕ) (d : Did) → did_birth_as p g c d ≤ did_birth_of p g d
as_of p g c (Birth q x) = by (is_root p g q) (eqb q.capacity c)
  where
    by : (a b : Bool) → cond {A = ℕ} (a && b) 1 0 ≤ cond {A = ℕ} a 1 0
    by true true = omega arith
    by true false = omega arith
    by false b = omega arith
as_of p g c d = omega arith

pub as_of_entry : (p g c : ℕ) (e : Entry) → at_birth_as p g c e ≤ at_birth_of p g e
as_of_entry p g c (At o k n) = as_of p g c n.did
as_of_entry p g c (Ref q d) = omega arith
as_of_entry p g c (Busy b) = omega arith

-- what names the root beside its birth and what is made on it
abbrev named : RootId → Entry → ℕ
named r (At o k n) = did_end_of r n.did + (did_post_of r n.did + did_fetch_of r n.did)
named r (Ref q d) = one_if_so (same_root q r)
named r (Busy b) = 0

says : (r : RootId) (e : Entry) → 0 < named r e → root_named e ≡ Some r
says r (At o k n) lt = by n.did lt
  where
    by : (d : Did) → 0 < did_end_of r d + (did_post_of r d + did_fetch_of r d) → carried d ≡ Some r
    by (End q) lt = ap (λ (x : RootId). Some x) (named_this q r 1 (omega (arith, lt)))
    by (Post q) lt = view_names r q.view (omega (arith, lt))
    by (Fetch q) lt = view_names r q.view (omega (arith, lt))
    by d lt = absurd (omega (arith, lt))
says r (Ref q d) lt = ap (λ (x : RootId). Some x) (named_this q r 1 lt)
says r (Busy b) lt = absurd (omega (arith, lt))

-- a name is one of these
parts_are : (r : RootId) (e : Entry) → names r e ≤ births r e + (noted_weight (access r) e + named r e)
parts_are r (At o k n) = omega arith
parts_are r (Ref q d) = omega arith
parts_are r (Busy b) = omega arith

sums_le : (f g h : Entry → ℕ) → ((e : Entry) → f e ≤ g e + h e) → (views : List SeatView)
    → sum_by (weigh f) views ≤ sum_by (weigh g) views + sum_by (weigh h) views
sums_le f g h le views =
    let a = sum_by-le-sum_by (weigh f) (λ (v : SeatView). weigh g v + weigh h v) views (λ v.
    let b = sum_by-le-sum_by (λ (q : Part). sum_by f q.notes) (λ (q : Part). sum_by g q.notes + sum_by h q.notes)
    (parts_of v) (λ q. let c = sum_by-le-sum_by f (λ (e : Entry). g e + h e) q.notes le in
    let d = sum_add g h q.notes in omega (arith, c, d)) in
    let i = sum_add (λ (q : Part). sum_by g q.notes) (λ (q : Part). sum_by h q.notes) (parts_of v) in
    omega (arith, b, i)) in
    let d = sum_add (weigh g) (weigh h) views in omega (arith, a, d)

-- ---- What a history says of a root that was never born in it.

module _ (p : ℕ) (r : RootId) where
  -- the root isn't present
  abbrev IsAway : RootPlace → Type 0
  IsAway x = (w : Present) → x.present ≡ Some w → w.root ≡ r → ⊥

  never : (h : List Noted) (x y : RootPlace) → Runs (Step p) x h y → IsAway x
      → sum_by (λ (n : Noted). did_birth_as r.place r.generation r.capacity n.did) h ≡ 0 → sum_by (access r) h ≡ 0
  never [] x y t away none = refl
  never (n ∷ h) x y t away none =
      let f : Noted → ℕ = λ n. did_birth_as r.place r.generation r.capacity n.did in
      let c = sum_by-cons f n h in let d = sum_by-cons (access r) n h in
      let rest = never h t.0 y t.2 (still n.did (t.1).did (omega (arith, c, none))) (omega (arith, c, none)) in
      let here = other (root_is r n.root) refl in omega (arith, d, rest, here)
    where
      other : (b : Bool) → root_is r n.root ≡ b → one_if_so b ≡ 0
      other false is = refl
      other true is =
          let told = sym (t.1).root ∙ told_root r n.root is in
          let w = root_beside-is (beside n.did) x.present r told in absurd (away w.0 w.1 w.2)

      still : (d : Did) → Stepped x t.0 d → did_birth_as r.place r.generation r.capacity d ≡ 0 → IsAway t.0
      still d (Born b) none w is same =
          let here : Some w ≡ (born b.root b.region).present = sym is ∙ ap (λ (z : RootPlace). z.present) b.is in
          let what : w ≡ record { root = b.root; region = b.region; bytes = replicate b.root.capacity 0 } = cc here in
          let this : b.root ≡ r = sym (ap (λ (z : Present). z.root) what) ∙ same in
          let one : did_birth_as r.place r.generation r.capacity d ≡ 1 =
          ap (did_birth_as r.place r.generation r.capacity) b.did
          ∙ ap (λ (q : RootId). did_birth_as r.place r.generation r.capacity (Birth q b.region)) this
          ∙ its_birth r b.region in
          absurd (omega (arith, one, none))
      still d (Stayed s) none w is same =
          away s.old s.was (sym s.same ∙ ap (λ (z : Present). z.root) (one_present {o = (t.0).present} s.new w s.is is)
          ∙ same)
      still d (Ended e) none w is same = let both : Some w ≡ None = sym is ∙ e.gone in absurd (cc both)

  never_told : (s : Shape) (h : List Noted) → IsLawful s (Root p) h
      → sum_by (λ (n : Noted). did_birth_as r.place r.generation r.capacity n.did) h ≡ 0 → sum_by (access r) h ≡ 0
  never_told s h t none =
      let x = place_there s p h t in
      never h new_place x.0 (run p s h x.0 t x.1) (λ w is same. absurd (cc is)) none

module _ {H : Type 0} (stands : List ℕ → Setting → List Noted → H → Type 0) (l : Layout) where
  abbrev St : Type 0
  St = State (Option H) SeatView

  module _ (s : St) (r : IsSound stands l s) where
    -- a root whose birth none noted is named by none
    pub unborn : (q : RootId) → IsObjectOf l.shape (Root q.place) → sum_by (weigh (births q)) s.views ≡ 0
        → sum_by (weigh (names q)) s.views ≡ 0
    unborn q fits none =
        let p : ℕ = q.place in let h : List Noted = (r.objects (Root p) fits).history in
        let noted = root_notes stands l s r p fits (did_birth_as p q.generation q.capacity)
        (λ d z y. as_birth p q.generation q.capacity d z) in
        let away = never_told p q l.shape h (r.objects (Root p) fits).accepted (omega (arith, noted, none)) in
        let seen = object_notes stands l s r (Root p) fits (access q) (among_accesses stands l q) in
        let other : sum_by (weigh (named q)) s.views ≡ 0 =
        sum_none (weigh (named q)) s.views (each_from (λ (u : SeatView). weigh (named q) u ≡ 0) s.views
        (λ j u bt. dite (ℕ_discrete (weigh (named q) u) 0) (λ z. z)
        (λ ne. let born : 0 < sum_by (weigh (births q)) s.views =
        some_named stands l s r j u bt (named q) q (says q) (omega (arith, ne)) in
        absurd (omega (arith, born, none))))) in
        let a = sums_le (names q) (births q) (λ (e : Entry). noted_weight (access q) e + named q e) (parts_are q)
        s.views in
        let b = sums_le (λ (e : Entry). noted_weight (access q) e + named q e) (noted_weight (access q)) (named q)
        (λ e. omega arith) s.views in
        let x : ℕ = sum_by (weigh (names q)) s.views in let y : ℕ = sum_by (weigh (births q)) s.views in
        let w : ℕ = sum_by (weigh (λ (e : Entry). noted_weight (access q) e + named q e)) s.views in
        let m : ℕ = sum_by (weigh (noted_weight (access q))) s.views in
        let o : ℕ = sum_by (weigh (named q)) s.views in
        let a' : x ≤ y + w = a in let b' : w ≤ m + o = b in let none' : y ≡ 0 = none in let other' : o ≡ 0 = other in
        let seen' : m ≡ 0 = seen ∙ away in
        let g : x ≡ 0 = omega (arith, a', b', none', other', seen') in g

    -- no root of a later generation than the last one's is named
    pub unnamed : (id : ℕ) (v : SeatView) → get_elem? s.views id ≡ some v → (q : RootId)
        (fits : IsObjectOf l.shape (Root q.place)) (x : RootPlace)
        → IsPlaceAfter q.place (r.objects (Root q.place) fits).history x → x.generation < q.generation
        → sum_by (names q) v.own.notes ≡ 0
    unnamed id v at q fits x after lt =
        let p : ℕ = q.place in let g : ℕ = q.generation in
        let h : List Noted = (r.objects (Root p) fits).history in
        let none = (place_born l.shape p h x (r.objects (Root p) fits).accepted after g).1 (inr lt) in
        let noted = root_notes stands l s r p fits (did_birth_of p g) (λ d z y. of_birth p g d z) in
        let le = sum_by-le-sum_by (weigh (births q)) (weigh (at_birth_of p g)) s.views
        (weigh_le (births q) (at_birth_of p g) (as_of_entry p g q.capacity)) in
        let y : ℕ = sum_by (weigh (births q)) s.views in let b : ℕ = sum_by (weigh (at_birth_of p g)) s.views in
        let hb : ℕ = sum_by (λ (n : Noted). did_birth_of p g n.did) h in
        let none' : hb ≡ 0 = none in let noted' : b ≡ hb = noted in let le' : y ≤ b = le in
        let all = unborn q fits (omega (arith, none', noted', le')) in
        let own = own_le (names q) v in let here = sum_at (weigh (names q)) s.views id v at in
        let t : ℕ = sum_by (weigh (names q)) s.views in let nv : ℕ = weigh (names q) v in
        let all' : t ≡ 0 = all in let own' : sum_by (names q) v.own.notes ≤ nv = own in let here' : nv ≤ t = here in
        let goal : sum_by (names q) v.own.notes ≡ 0 = omega (arith, all', own', here') in goal
