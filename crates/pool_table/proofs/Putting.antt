-- What a note puts down and names, in all views: what it may tell of a root is so by its place and generation, and the
-- root was born.
use Rattle.step_law.specs.Settings.{Setting}
use Rattle.std.proofs.Common.{◌≡◌, ℕ, ◌+◌, ◌<◌, List, Bool, true, false, cond, eqb, refl, subst, ⊎_elim, arith, eqb-true, eq-eqb, Some, None}
use Rattle.std.specs.Prelude.{Option, option_map, IfSome, ◌&&◌}
use mathlib.Core.Option.{some}
use lib.ListN.{get_elem?}
use Rattle.atomic_table.specs.Table.{State}
use Rattle.pool_law.specs.declared.id.Parcel.{Parcel}
use Rattle.pool_law.specs.declared.id.ViewData.{ViewData}
use Rattle.pool_law.specs.declared.id.RootId.{RootId}
use Rattle.pool_law.specs.declared.note.Did.{Did}
use Rattle.pool_law.specs.declared.note.Did.TheVariants.{Home, Post, Fetch, Birth, End}
use Rattle.pool_law.specs.declared.note.Noted.{Noted}
use Rattle.pool_law.specs.declared.note.Object.{Object}
use Rattle.pool_law.specs.declared.note.Object.TheVariants.{Mail}
use Rattle.pool_law.specs.Homes.{IsObjectOf}
use Rattle.pool_law.proofs.SameLemmas.{and-first, and-second}
use Rattle.history_laws.specs.Standing.{IsMailed}
use Rattle.history_laws.specs.NoteCounts.{is_root, view_weight, did_home, did_birth, did_end, did_post}
use Rattle.pool_table.specs.declared.views.Entry.TheVariants.{At}
use Rattle.pool_table.specs.declared.views.Layout.{Layout}
use Rattle.pool_table.specs.declared.views.SeatView.{SeatView}
use Rattle.pool_table.specs.Counts.{HasCount}
use Rattle.pool_table.specs.Hands.{InHand, NoneWaits, PutsDown}
use Rattle.pool_table.specs.Births.{carried, IsBorn, NamesBorn}
use Rattle.pool_table.specs.Sound.{IsSound}
use Rattle.pool_table.proofs.AtPlace.{CountsAt, TokenAt, PutsAt}
use Rattle.pool_table.proofs.Exact.{count_at, count_born, token_at, token_born}

yes : (b : Bool) → 0 < cond {A = ℕ} b 1 0 → b ≡ true
yes true lt = refl
yes false lt = absurd (omega (arith, lt))

module _ {H : Type 0} (stands : List ℕ → Setting → List Noted → H → Type 0) (l : Layout) where
  abbrev St : Type 0
  St = State (Option H) SeatView

  module _ (s : St) (r : IsSound stands l s) (id : ℕ) (v : SeatView) (at : get_elem? s.views id ≡ some v) where
    -- by places and generations
    root_is : (p g : ℕ) (q : RootId) → 0 < cond {A = ℕ} (is_root p g q) 1 0 → (q.place ≡ p) × (q.generation ≡ g)
    root_is p g q lt =
        let e = yes (is_root p g q) lt in (
          eqb-true q.place p (and-first (eqb q.place p) (eqb q.generation g) e),
          eqb-true q.generation g
              (and-second (eqb q.place p) (eqb q.generation g) e),
        )

    homed : (d : Did) → PutsDown v d → (p : ℕ) → 0 < did_home p d → InHand p v × NoneWaits p v
    homed (Home q) puts p lt = subst (λ (p : ℕ). InHand p v × NoneWaits p v) (eqb-true q p (yes (eqb q p) lt)) puts
    homed d puts p lt = absurd (omega (arith, lt))

    borne : (d : Did) → PutsDown v d → (p : ℕ) → 0 < did_birth p d → InHand p v
    borne (Birth q x) puts p lt = subst (λ (p : ℕ). InHand p v) (eqb-true q.place p (yes (eqb q.place p) lt)) puts.0
    borne d puts p lt = absurd (omega (arith, lt))

    ended : (d : Did) → PutsDown v d → (p g : ℕ) → 0 < did_end p g d → TokenAt p g v
    ended (End q) puts p g lt =
        let e = root_is p g q lt in
        subst (λ (y : ℕ × ℕ). TokenAt y.0 y.1 v) (λ i. (e.0 i, e.1 i)) (token_at stands l s r id v at q puts)
    ended d puts p g lt = absurd (omega (arith, lt))

    posted : (d : Did) → PutsDown v d → (p g : ℕ) → 0 < did_post p g d → CountsAt p g v
    posted (Post q) puts p g lt = by q.view puts lt
      where
        by : (o : Option ViewData) → IfSome o (λ (w : ViewData). HasCount w.root v) → 0 < view_weight p g o
            → CountsAt p g v
        by None puts lt = absurd (omega (arith, lt))
        by (Some w) puts lt =
            let e = root_is p g w.root lt in
            subst (λ (y : ℕ × ℕ). CountsAt y.0 y.1 v) (λ i. (e.0 i, e.1 i)) (count_at stands l s r id v at w.root puts)
    posted d puts p g lt = absurd (omega (arith, lt))

    pub puts_at : (d : Did) → PutsDown v d → PutsAt v d
    puts_at d puts = record { home = homed d puts; birth = borne d puts; token = ended d puts; posted = posted d puts }

    at_mail : (o : Object) (n : Noted) (q : Parcel) (t : RootId) → n.did ≡ Fetch q
        → option_map (λ (w : ViewData). w.root) q.view ≡ Some t → IsMailed o n.did → (f : ℕ) × (u : ℕ) × (o ≡ Mail f u)
    at_mail o n q t is has mailed = by q.view has (subst (λ (d : Did). IsMailed o d) is mailed)
      where
        by : (x : Option ViewData) → option_map (λ (w : ViewData). w.root) x ≡ Some t
            → IsMailed o (Fetch (record { view = x })) → (f : ℕ) × (u : ℕ) × (o ≡ Mail f u)
        by None has mailed = absurd (cc has)
        by (Some w) has mailed = ⊎_elim
            (λ (z : view_weight w.root.place w.root.generation (Some w) + 0 ≡ 0). let one : view_weight w.root.place
            w.root.generation (Some w) ≡ 1 = itself w.root in absurd (omega (arith, z, one)))
            (λ (e : (f : ℕ) × (u : ℕ) × (o ≡ Mail f u)). e)
            (mailed w.root.place w.root.generation)
          where
            itself : (q : RootId) → cond {A = ℕ} (is_root q.place q.generation q) 1 0 ≡ 1
            itself q = λ i. cond {A = ℕ} (eq-eqb q.place q.place refl i && eq-eqb q.generation q.generation refl i) 1 0

    -- the root that a note of a section names was born
    pub note_born : (o : Object) (fits : IsObjectOf l.shape o) (k : ℕ) (n : Noted) → IsMailed o n.did → PutsDown v n.did
        → NamesBorn s.views (At o k n)
    note_born o fits k n mailed puts t names = by n.did refl puts names
      where
        by_view : (x : Option ViewData) → IfSome x (λ (w : ViewData). HasCount w.root v)
            → option_map (λ (w : ViewData). w.root) x ≡ Some t → IsBorn s.views t
        by_view None puts names = absurd (cc names)
        by_view (Some w) puts names =
            let e : w.root ≡ t = cc names in subst (IsBorn s.views) e (count_born stands l s r id v at w.root puts)

        by : (d : Did) → n.did ≡ d → PutsDown v d → carried d ≡ Some t → IsBorn s.views t
        by (Post q) is puts names = by_view q.view puts names
        by (Fetch q) is puts names =
            let m = at_mail o n q t is names mailed in absurd (subst (IsObjectOf l.shape) m.2 fits)
        by (End q) is puts names =
            let e : q ≡ t = cc names in subst (IsBorn s.views) e (token_born stands l s r id v at q puts)
        by d is puts names = absurd (cc names)
