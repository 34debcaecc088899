-- Each root that a note names was born.
use Rattle.step_law.specs.Settings.{Setting}
use Rattle.std.proofs.Common.{◌≡◌, ℕ, ◌<◌, List, [], ◌∷◌, Bool, true, false, refl, ap, arith, Some, None}
use Rattle.std.specs.Prelude.{◌||◌, if◌then◌else◌, Option, option_map, sum_by}
use Rattle.pool_law.specs.declared.id.RootId.{RootId}
use Rattle.pool_law.specs.declared.id.ViewData.{ViewData}
use Rattle.pool_law.specs.declared.note.Did.{Did}
use Rattle.pool_law.specs.declared.note.Did.TheVariants.{Post, Fetch}
use Rattle.pool_law.specs.declared.note.Note.{Note}
use Rattle.pool_law.specs.declared.note.Noted.{Noted}
use Rattle.pool_law.specs.Same.{same_root}
use Rattle.pool_law.specs.Counts.{view_is_of, count_over, names_root, is_birth}
use Rattle.pool_law.proofs.SameLemmas.{same_root-is}
use Rattle.pool_table.specs.declared.views.Entry.{Entry}
use Rattle.pool_table.specs.declared.views.Entry.TheVariants.{At, Ref, Busy}
use Rattle.pool_table.specs.declared.views.Layout.{Layout}
use Rattle.pool_table.specs.declared.views.Part.{Part}
use Rattle.pool_table.specs.declared.views.SeatView.{SeatView}
use Rattle.pool_table.specs.Views.{parts_of}
use Rattle.pool_table.specs.Births.{carried, root_named, IsBorn, NamesBorn}
use Rattle.pool_table.specs.Hands.{at_birth_as}
use Rattle.pool_table.specs.Closed.{IsClosed}
use Rattle.shared_pool.specs.Closing.{entries_in}
use Rattle.shared_pool.proofs.ClosingWhole.{at}
use Rattle.shared_pool.proofs.ClosingSums.{law, count_over-is, weigh_same, some_weighs, births_alike}
use Rattle.shared_pool.proofs.ClosingLooks.{Names, names}
use Rattle.shared_pool.proofs.ClosingTotals.{one_is}

-- ---- One entry.

passes : (b : Bool) → 0 < (if b then 1 else 0) → b ≡ true
passes true lt = refl
passes false lt = absurd (omega (arith, lt))

passes_or : (b : Bool) → 0 < (if b || false then 1 else 0) → b ≡ true
passes_or true lt = refl
passes_or false lt = absurd (omega (arith, lt))

view_named : (r : RootId) (x : Option ViewData) → view_is_of r x ≡ true
    → option_map (λ (w : ViewData). w.root) x ≡ Some r
view_named r None is = absurd (cc is)
view_named r (Some w) is = ap {B = Option RootId} (λ (q : RootId). Some q) (same_root-is w.root r is)

-- the root that a note names by the law is the one that the table's entry names
root_is_named : (r : RootId) (e : Entry) → 0 < law (names_root r) e → root_named e ≡ Some r
root_is_named r (Ref q d) lt =
    ap {B = Option RootId} (λ (x : RootId). Some x) (same_root-is q r (passes (same_root q r) lt))
root_is_named r (Busy b) lt = absurd (omega (arith, lt))
root_is_named r (At o k n) lt = by n.did lt
  where
    by : (d : Did) → 0 < (if names_root r (Note.At o k d) then 1 else 0) → carried d ≡ Some r
    by (Post x) lt = view_named r x.view (passes (view_is_of r x.view) lt)
    by (Fetch x) lt = view_named r x.view (passes_or (view_is_of r x.view) lt)
    by d lt = absurd (omega (arith, lt))

-- ---- All parts.

module _ {H : Type 0} (stands : List ℕ → Setting → List Noted → H → Type 0) (l : Layout) (v : SeatView)
    (homes : List (Option H)) (words : List ℕ)
    (closed : IsClosed stands l v homes words) where
  pub named_born : (r : RootId) → 0 < count_over (names_root r) (entries_in (parts_of v))
      → 0 < count_over (is_birth r) (entries_in (parts_of v))
  named_born r lt =
      let f : Entry → ℕ = at_birth_as r.place r.generation r.capacity in
      let a = count_over-is (names_root r) (parts_of v) in
      let q = some_weighs (λ (p : Part). sum_by (law (names_root r)) p.notes) (parts_of v) (omega (arith, a, lt)) in
      let e = some_weighs (law (names_root r)) q.1.notes q.3 in
      let all = at (Names stands l v homes words closed) (parts_of v) q.0 q.1 (names stands l v homes words closed)
      q.2 in
      let born : IsBorn (v ∷ []) r = at (NamesBorn (v ∷ [])) q.1.notes e.0 e.1 all e.2 r (root_is_named r e.1 e.3) in
      let b = count_over-is (is_birth r) (parts_of v) in
      let c = weigh_same (law (is_birth r)) f (parts_of v) (λ k d _ j e _. births_alike r _) in
      let d = one_is stands l v homes words closed f in omega (arith, b, c, d, born)
